-- Attributes and next hops by how many they are.
use Rattle.std.proofs.Common.{◌≡◌, ◌++◌, ℕ, Bool, List, [], ◌∷◌, length, refl, sym, ap, ◌∙◌, append_assoc, arith, codes, Vec, Global}
use Rattle.std.specs.Fmt.{decimal}
use Rattle.rtnl.proofs.Common.{Order, Ctx, Route, Hop, out-Hop, Front, HopFront, value_step, attr_step, hop_step, value_view, attr_view, attrs_view, hop_view, hops_view}
use Rattle.nl_attr.specs.declared.tree.Attr.{Attr}
use Rattle.nl_attr.specs.declared.tree.Value.TheFolds.{fold_out-Attr, fold-roll-Value}
use Rattle.nl_attr.specs.declared.tree.Value.TheOpen.{Value-F}
use Rattle.nl_attr.specs.declared.tree.Value.TheVariants as value
use Rattle.nl_attr.specs.Tree.{Val, bytes, Items, item, HopItems, hop}
use Rattle.nl_attr.proofs.Lemmas.Opened.{attr_is, hop_is, value_list, value_hops}
use Rattle.rtnl.specs.declared.names.attributes.Style.{Style}
use Rattle.rtnl.specs.Trees.{deeper, held_text, hop_count, hop_line, hops_text, indented, inline_text, item_count, items_text}

-- an attribute before others
pub attr_item : (attr : Attr) (more : Items) → attr_view attr more ≡ item attr.number attr.flags (value_view attr.value) more
attr_item attr more = ap (λ (f : Front). f more) (fold_out-Attr Val Front HopFront value_step attr_step hop_step attr)

-- a next hop before others
pub hop_item : (one : Hop) (more : HopItems) → hop_view one more ≡ hop (out-Hop one).flags (out-Hop one).hops (out-Hop one).ifindex (attrs_view (out-Hop one).attrs.items) more
hop_item one more = ap (λ (f : HopFront). f more) (hop_is one)

item_count_lem : (attrs : List Attr) → item_count (attrs_view attrs) ≡ length attrs
item_count_lem [] = refl
item_count_lem (attr ∷ more) = ap item_count (attr_is attr more) ∙ omega (arith, item_count_lem more)

hop_count_lem : (items : List Hop) → hop_count (hops_view items) ≡ length items
hop_count_lem [] = refl
hop_count_lem (one ∷ more) = ap (λ (f : HopFront). hop_count (f (hops_view more))) (hop_is one) ∙ omega (arith, hop_count_lem more)

-- a payload is its bytes
pub value_bytes : (payload : List ℕ) → value_view (value.Bytes payload) ≡ bytes payload
value_bytes payload =
    ap value_view (sym (value.rolls-Bytes payload)) ∙ fold-roll-Value Val Front HopFront value_step attr_step hop_step (Value-F.Bytes payload)

-- a list says the number of its attributes
pub inline_list : (o : Order) (style : Style) (net : Bool) (attrs : Vec Attr Global) →
    inline_text o style net (value_view (value.List attrs)) ≡ codes "list " ++ decimal (length attrs.items)
unfolding inline_text
inline_list o style net attrs =
    ap (inline_text o style net) (value_list attrs) ∙ ap (λ n. codes "list " ++ decimal n) (item_count_lem attrs.items)

-- next hops, and how many they are
pub inline_hops : (o : Order) (style : Style) (net : Bool) (items : Vec Hop Global) →
    inline_text o style net (value_view (value.Hops items)) ≡ codes "hops " ++ decimal (length items.items)
unfolding inline_text
inline_hops o style net items =
    ap (inline_text o style net) (value_hops items) ∙ ap (λ n. codes "hops " ++ decimal n) (hop_count_lem items.items)

-- what a list holds is indented by two blanks more
pub held_list : (o : Order) (indent more : List ℕ) (ctx : Ctx) (attrs : Vec Attr Global) → more ≡ indent ++ codes "  " →
    items_text o (indented more) ctx (attrs_view attrs.items) ≡ held_text o (deeper (indented indent)) ctx (value_view (value.List attrs))
unfolding deeper
held_list o indent more ctx attrs is =
    ap (λ l. items_text o (indented l) ctx (attrs_view attrs.items)) is ∙ ap (held_text o (deeper (indented indent)) ctx) (sym (value_list attrs))

-- so are next hops
pub held_hops : (o : Order) (indent more : List ℕ) (ctx : Ctx) (items : Vec Hop Global) → more ≡ indent ++ codes "  " →
    hops_text o (indented more) (hops_view items.items) ≡ held_text o (deeper (indented indent)) ctx (value_view (value.Hops items))
unfolding deeper
held_hops o indent more ctx items is =
    ap (λ l. hops_text o (indented l) (hops_view items.items)) is ∙ ap (held_text o (deeper (indented indent)) ctx) (sym (value_hops items))

-- the line of a next hop, and then its attributes
pub hop_written : (o : Order) (indent : List ℕ) (one : Hop) (more : HopItems) (old mid new : List ℕ) →
    mid ≡ old ++ hop_line indent (out-Hop one).flags (out-Hop one).hops (out-Hop one).ifindex →
    new ≡ mid ++ items_text o (deeper indent) Route (attrs_view (out-Hop one).attrs.items) →
    new ++ hops_text o indent more ≡ old ++ hops_text o indent (hop_view one more)
hop_written o indent one more old mid new first next =
    let line = hop_line indent (out-Hop one).flags (out-Hop one).hops (out-Hop one).ifindex in
    let inside = items_text o (deeper indent) Route (attrs_view (out-Hop one).attrs.items) in
    ap (λ t. t ++ hops_text o indent more) (next ∙ ap (λ t. t ++ inside) first)
    ∙ append_assoc (old ++ line) inside (hops_text o indent more)
    ∙ append_assoc old line (inside ++ hops_text o indent more)
    ∙ sym (ap (λ h. old ++ hops_text o indent h) (hop_item one more))
