use Rattle.rtnl.proofs.Common.{◌≡◌, ◌<◌, ◌+◌, ◌∷◌, [], ◌++◌, ◌∙◌, ℕ, List, length, get_or, ap, append_assoc, drop, map, sym, Bor, Mark, fields, named, field_view}
use Rattle.std.proofs.lemmas.List.{append-nil, drop_more}
use Rattle.rtnl.specs.declared.bytes.notation.Notation.{Notation}
use Rattle.rtnl.specs.declared.bytes.parts.Depth.{Depth}
use Rattle.rtnl.specs.declared.bytes.parts.Extent.TheVariants.{Bytes}
use Rattle.rtnl.proofs.bytes.parts.push_fields.Goals as goal

-- the next field, whose name has no second part
field_next : (depth : Depth) (fs : List (Bor (List ℕ) × ℕ × Notation)) (k : ℕ) (d : Bor (List ℕ) × ℕ × Notation) → k < length fs
    → (one two all : List Mark) → one ++ fields depth (map field_view (drop k fs)) ≡ all
    → two ≡ one ++ named depth (Bytes (get_or fs k d).1) ((get_or fs k d).0.now ++ []) (get_or fs k d).2 ∷ []
    → two ++ fields depth (map field_view (drop (k + 1) fs)) ≡ all
field_next depth fs k d below one two all now said =
    let f = get_or fs k d in
    let rest = fields depth (map field_view (drop (k + 1) fs)) in
    let m : Mark = named depth (Bytes f.1) f.0.now f.2 in
    let text : two ≡ one ++ m ∷ [] = said ∙ ap (λ (name : List ℕ). one ++ named depth (Bytes f.1) name f.2 ∷ []) (append-nil f.0.now) in
    let is : drop k fs ≡ f ∷ drop (k + 1) fs = drop_more fs k d below in
    ap (λ (t : List Mark). t ++ rest) text ∙ append_assoc one (m ∷ []) rest
    ∙ sym (ap (λ (xs : List (Bor (List ℕ) × ℕ × Notation)). one ++ fields depth (map field_view xs)) is) ∙ now

pub loop-name-preserved : goal.loop-name-preserved
loop-name-preserved c =
    field_next c.args.depth c.args.fields.now c.loop-name.name-index _ c.loop-name-test.true _ _ _ c.loop-name.invariant c.in_ok-push_named.ensures
