-- What is put with the calls that put a tree.
use Rattle.nl_frame.proofs.Common.{◌≡◌, ℕ, ℤ, List, [], ◌∷◌, ◌++◌, refl, sym, ap, ◌∙◌, inl, inr, append_assoc, append-nil, AttrFlags, Ctx, Route, Content, Val, bytes, list, hops, Items, no_items, item, HopItems, no_hops, hop, holds_of, IsMismatchedVal, IsMismatchedHops, context_of, family_of, form_of, BodyVal, noop, error, done, overrun, object, get, other, MessageVal, IsMismatchedBody, IsMismatched, Begun, message, attribute, next_hop, Layer, Draft, and_item, and_hop, content_at, content_in, content_behind, none_of, Call, close, end, put_by, put_by_all, calls_of_val, calls_of_items, calls_of_hops, calls_of_body, calls_of}
use Rattle.nl_attr.specs.declared.tree.Content.TheVariants as content
use Rattle.nl_attr.specs.Proper as attrs

-- the draft of these messages and open heads
abbrev pub of : List MessageVal → List Layer → Draft
of ms xs = record { ended = ms; layers = xs }

-- an open head, and what was put behind it
abbrev pub layer : Begun → Val → Layer
layer h v = record { head = h; inside = v }

put_append : (d : Draft) (cs ds : List Call) → put_by_all d (cs ++ ds) ≡ put_by_all (put_by_all d cs) ds
put_append d [] ds = refl
put_append d (c ∷ cs) ds = put_append (put_by d c) cs ds

-- ---- some behind others, one by one

abbrev pub and_items : Items → Items → Items
and_items js no_items = js
and_items js (item n f v more) = and_items (and_item js n f v) more

abbrev pub and_hops : HopItems → HopItems → HopItems
and_hops gs no_hops = gs
and_hops gs (hop f c i is more) = and_hops (and_hop gs f c i is) more

behind_item : (m : ℕ) (g : AttrFlags) (w : Val) (js is : Items) → and_items (item m g w js) is ≡ item m g w (and_items js is)
behind_item m g w js no_items = refl
behind_item m g w js (item n f v more) = behind_item m g w (and_item js n f v) more

pub all_items : (is : Items) → and_items no_items is ≡ is
all_items no_items = refl
all_items (item n f v more) = behind_item n f v no_items more ∙ ap (item n f v) (all_items more)

behind_hop : (f c : ℕ) (i : ℤ) (is : Items) (gs hs : HopItems) → and_hops (hop f c i is gs) hs ≡ hop f c i is (and_hops gs hs)
behind_hop f c i is gs no_hops = refl
behind_hop f c i is gs (hop g d j js more) = behind_hop f c i is (and_hop gs g d j js) more

pub all_hops : (hs : HopItems) → and_hops no_hops hs ≡ hs
all_hops no_hops = refl
all_hops (hop f c i is more) = behind_hop f c i is no_hops more ∙ ap (hop f c i is) (all_hops more)

-- ---- attributes

module _ (ms : List MessageVal) where
  -- what is put behind a head where attributes stand, with these calls
  abbrev PutsItems : Begun → List Layer → Items → Items → Type 0
  PutsItems h xs js is = put_by_all (of ms (layer h (list js) ∷ xs)) (calls_of_items is) ≡ of ms (layer h (list (and_items js is)) ∷ xs)

  abbrev PutsHops : Begun → List Layer → HopItems → HopItems → Type 0
  PutsHops h xs gs hs = put_by_all (of ms (layer h (hops gs) ∷ xs)) (calls_of_hops hs) ≡ of ms (layer h (hops (and_hops gs hs)) ∷ xs)

  module _ (h : Begun) (xs : List Layer) (js : Items) (c : Ctx) (n : ℕ) (f : AttrFlags) where
    abbrev inner : List Layer
    inner = layer h (list js) ∷ xs

    abbrev PutsVal : Val → Type 0
    PutsVal v = put_by_all (of ms inner) (calls_of_val n f v) ≡ of ms (layer h (list (and_item js n f v)) ∷ xs)

    list_put : (is : Items) (k : Content) → content_behind h (content_at xs) ≡ content.List c → holds_of c n f ≡ k → (IsMismatchedVal (list is) k → ⊥)
        → ((a : Ctx) → (attrs.IsMismatched is a → ⊥) → content_behind (attribute n f) (content_at inner) ≡ content.List a → PutsItems (attribute n f) inner no_items is) → PutsVal (list is)
    list_put is content.Bytes e g m more = absurd (m tt)
    list_put is content.Hops e g m more = absurd (m tt)
    list_put is (content.List a) e g m more =
        let at : content_behind (attribute n f) (content_at inner) ≡ content.List a = ap (λ (k : Content). content_in k n f) e ∙ g in
        ap (λ (k : Content). put_by_all (of ms (layer (attribute n f) (none_of k) ∷ inner)) (calls_of_items is ++ (close ∷ []))) at
        ∙ put_append (of ms (layer (attribute n f) (list no_items) ∷ inner)) (calls_of_items is) (close ∷ [])
        ∙ ap (λ (d : Draft). put_by_all d (close ∷ [])) (more a m at)
        ∙ ap (λ (z : Items). of ms (layer h (list (and_item js n f (list z))) ∷ xs)) (all_items is)

    hops_inside : (hs : HopItems) (k : Content) → content_behind h (content_at xs) ≡ content.List c → holds_of c n f ≡ k → (IsMismatchedVal (hops hs) k → ⊥)
        → ((IsMismatchedHops hs → ⊥) → PutsHops (attribute n f) inner no_hops hs) → PutsVal (hops hs)
    hops_inside hs content.Bytes e g m more = absurd (m tt)
    hops_inside hs (content.List a) e g m more = absurd (m tt)
    hops_inside hs content.Hops e g m more =
        let at : content_behind (attribute n f) (content_at inner) ≡ content.Hops = ap (λ (k : Content). content_in k n f) e ∙ g in
        ap (λ (k : Content). put_by_all (of ms (layer (attribute n f) (none_of k) ∷ inner)) (calls_of_hops hs ++ (close ∷ []))) at
        ∙ put_append (of ms (layer (attribute n f) (hops no_hops) ∷ inner)) (calls_of_hops hs) (close ∷ [])
        ∙ ap (λ (d : Draft). put_by_all d (close ∷ [])) (more m)
        ∙ ap (λ (z : HopItems). of ms (layer h (list (and_item js n f (hops z))) ∷ xs)) (all_hops hs)

  mutual
    val_put : (h : Begun) (xs : List Layer) (js : Items) (c : Ctx) (n : ℕ) (f : AttrFlags) (v : Val) → content_behind h (content_at xs) ≡ content.List c → (IsMismatchedVal v (holds_of c n f) → ⊥) → PutsVal h xs js c n f v
    val_put h xs js c n f (bytes bs) e m = refl
    val_put h xs js c n f (list is) e m = list_put h xs js c n f is (holds_of c n f) e refl m (λ a k at. items_put (attribute n f) (layer h (list js) ∷ xs) no_items a is at k)
    val_put h xs js c n f (hops hs) e m = hops_inside h xs js c n f hs (holds_of c n f) e refl m (λ k. hops_put (attribute n f) (layer h (list js) ∷ xs) no_hops hs k)

    items_put : (h : Begun) (xs : List Layer) (js : Items) (c : Ctx) (is : Items) → content_behind h (content_at xs) ≡ content.List c → (attrs.IsMismatched is c → ⊥) → PutsItems h xs js is
    items_put h xs js c no_items e m = refl
    items_put h xs js c (item n f v more) e m =
        put_append (of ms (layer h (list js) ∷ xs)) (calls_of_val n f v) (calls_of_items more)
        ∙ ap (λ (d : Draft). put_by_all d (calls_of_items more)) (val_put h xs js c n f v e (λ x. m (inr (inl x))))
        ∙ items_put h xs (and_item js n f v) c more e (λ x. m (inr (inr x)))

    hops_put : (h : Begun) (xs : List Layer) (gs hs : HopItems) → (IsMismatchedHops hs → ⊥) → PutsHops h xs gs hs
    hops_put h xs gs no_hops m = refl
    hops_put h xs gs (hop f c i is more) m =
        let ys = layer h (hops gs) ∷ xs in
        put_append (of ms (layer (next_hop f c i) (list no_items) ∷ ys)) (calls_of_items is) (close ∷ calls_of_hops more)
        ∙ ap (λ (d : Draft). put_by_all d (close ∷ calls_of_hops more)) (items_put (next_hop f c i) ys no_items Route is refl (λ x. m (inl x)))
        ∙ ap (λ (z : Items). put_by_all (of ms (layer h (hops (and_hop gs f c i z)) ∷ xs)) (calls_of_hops more)) (all_items is)
        ∙ hops_put h xs (and_hop gs f c i is) more (λ x. m (inr x))

-- ---- messages

-- a message with another body
abbrev pub with_body : MessageVal → BodyVal → MessageVal
with_body m v = record { kind = m.kind; flags = m.flags; seq = m.seq; port = m.port; body = v }

body_put : (ms : List MessageVal) (m : MessageVal) (v : BodyVal) → (IsMismatchedBody v (form_of m.kind) → ⊥) → put_by_all (of ms []) (calls_of_body m v) ≡ of (ms ++ with_body m v ∷ []) []
body_put ms m (object h is) k =
    let b = message m.kind m.flags m.seq m.port h in
    put_append (of ms (layer b (list no_items) ∷ [])) (calls_of_items is) (end ∷ [])
    ∙ ap (λ (d : Draft). put_by_all d (end ∷ [])) (items_put ms b [] no_items (context_of (family_of h)) is refl (λ x. k (inr x)))
    ∙ ap (λ (z : Items). of (ms ++ with_body m (object h z) ∷ []) []) (all_items is)
body_put ms m (noop bs) k = refl
body_put ms m (error z h tail) k = refl
body_put ms m (done s tail) k = refl
body_put ms m (overrun bs) k = refl
body_put ms m (get n tail) k = refl
body_put ms m (other bs) k = refl

messages_put : (ms ns : List MessageVal) → (IsMismatched ns → ⊥) → put_by_all (of ms []) (calls_of ns) ≡ of (ms ++ ns) []
messages_put ms [] m = ap (λ (xs : List MessageVal). of xs []) (sym (append-nil ms))
messages_put ms (n ∷ ns) m =
    put_append (of ms []) (calls_of_body n n.body) (calls_of ns)
    ∙ ap (λ (d : Draft). put_by_all d (calls_of ns)) (body_put ms n n.body (λ x. m (inl x)))
    ∙ messages_put (ms ++ n ∷ []) ns (λ x. m (inr x))
    ∙ ap (λ (xs : List MessageVal). of xs []) (append_assoc ms (n ∷ []) ns)

-- the calls of messages put these messages, behind what is ended
pub calls_put : (d : Draft) (ms : List MessageVal) → d.layers ≡ [] → (IsMismatched ms → ⊥) → put_by_all d (calls_of ms) ≡ record d { ended = d.ended ++ ms }
calls_put d ms e m =
    ap (λ (xs : List Layer). put_by_all (of d.ended xs) (calls_of ms)) e ∙ messages_put d.ended ms m ∙ ap (of (d.ended ++ ms)) (sym e)
