-- What a builder holds where a message ends, and what it hands out.
use Rattle.nl_frame.proofs.Common.{◌≡◌, ℕ, ◌+◌, ◌≤◌, List, [], ◌∷◌, ◌++◌, length, None, refl, sym, ap, subst, ◌∙◌, arith, inl, inr, append_assoc, length-append, LONGEST_REGION, Order, num, Val, bytes, list, hops, Items, items_len, length-num, length-items, items_whole, Field, number, AnyHead, head_size, context_of, family_of, fields_of, length-written, is_family, size_of_head, Bounds, Layout, object, MessageVal, IsTheList, message_item, written, written_len, form_of, IsMismatchedBody, IsLongBody, IsLong, IsProper, Built, order_of, ended, or_next, end_refusal, finish, finish_refusal, Begun, message, attribute, next_hop, Layer, Draft, heads_of, laid, messages_in, message_in, Holds}
use Rattle.nl_attr.specs.Written as attrs
use Rattle.nl_attr.specs.Proper as proper
use Rattle.nl_route.specs.Fields as fields
use Rattle.nl_frame.specs.declared.form.Form.TheVariants as form
use Rattle.nl_frame.specs.Draft as draft
use Rattle.nl_frame.proofs.Firsts.{one_layout}
use Rattle.nl_frame.proofs.WrittenLayouts.{length-message, written_length, written_has_layout}
use Rattle.nl_frame.proofs.Puts.{neither}
use Rattle.nl_frame.proofs.Closes.{closed_is, no_padding}
use Rattle.nl_frame.proofs.Snocs.{message_written, message_matched, message_shallow, message_short, message_ranged}

-- ---- a message ends

-- the fields of a header behind its length
abbrev behind_length : ℕ → ℕ → ℕ → ℕ → List Field
behind_length kind flags seq port = number 2 kind ∷ number 2 flags ∷ number 4 seq ∷ number 4 port ∷ []

module _ {L : Bounds} (b : Built) (ms : List MessageVal) (kind flags seq port : ℕ) (head : AnyHead) (is : Items) where
  end_message : Holds L b (record { ended = ms; layers = record { head = message kind flags seq port head; inside = list is } ∷ [] })
      → Holds L (ended b 4) (record { ended = ms ++ message_in (message kind flags seq port head) (list is); layers = [] })
  end_message h =
      let o = order_of b in
      let D = b.bounds.shape.depth in
      let x : Layer = record { head = message kind flags seq port head; inside = list is } in
      let m : MessageVal = record { kind = kind; flags = flags; seq = seq; port = port; body = object head is } in
      let before = written o ms in
      let size = head_size (family_of head) in
      let front = fields.written o (behind_length kind flags seq port) in
      let own = fields.written o (fields_of head) in
      let body = own ++ attrs.written o is in
      let rest = front ++ body in
      let l = h.layers.0 in
      let parts = append_assoc (num 0 4 o ++ front) own (attrs.written o is) ∙ append_assoc (num 0 4 o) front body in
      let closed = closed_is b ms x [] 4 rest h.heads h.front parts in
      let len : length (message_item o m) ≡ 16 + (size + items_len is) = length-message o m in
      let rest_len : 4 + length rest ≡ 16 + (size + items_len is) = sum (length-append front body) (length-written o (behind_length kind flags seq port)) (length-append own (attrs.written o is)) (length-written o (fields_of head) ∙ size_of_head head) (length-items o is) in
      let whole = no_padding (message_item o m) (omega (arith, len, (is_family (family_of head)).whole, items_whole is)) in
      let item = ap (λ k. num k 4 o ++ rest) rest_len ∙ sym (append_assoc (num (16 + (size + items_len is)) 4 o) front body) ∙ sym whole in
      let all : length b.front ≡ length before + (16 + (size + items_len is)) = ap (length {A = ℕ}) (h.front ∙ ap (λ (ys : List ℕ). before ++ ys) parts) ∙ length-append before (num 0 4 o ++ rest) ∙ ap (λ k. length before + k) (length-append (num 0 4 o) rest ∙ ap (λ k. k + length rest) (length-num o 0 4) ∙ rest_len) in
      let new = num (4 + length rest) 4 o ++ rest in
      let low : items_len is ≤ LONGEST_REGION = omega (arith, all, h.size, h.limits.3) in
      subst (λ (z : Built). Holds L z (record { ended = ms ++ m ∷ []; layers = [] })) (sym closed) (record {
        bounds = h.bounds;
        front = ap (λ (ys : List ℕ). before ++ ys) item ∙ sym (message_written m o ms);
        heads = refl;
        layers = tt;
        matched = message_matched m ms h.matched (body_matched l.head.1 l.matched);
        shallow = message_shallow m ms D h.shallow l.shallow;
        short = message_short m ms h.short (body_short low l.short);
        ranged = message_ranged m ms h.ranged (l.head.2, l.head.3, l.head.4, l.head.5, (l.head.6, l.ranged), tt);
        limits = h.limits;
        size = omega (arith, h.size, all, rest_len, length-append before new, length-append (num (4 + length rest) 4 o) rest, length-num o (4 + length rest) 4);
      })
    where
      sum : {r f b' g a : ℕ} → r ≡ f + b' → f ≡ 12 → b' ≡ g + a → g ≡ head_size (family_of head) → a ≡ items_len is → 4 + r ≡ 16 + (head_size (family_of head) + items_len is)
      sum p q t u w = omega (arith, p, q, t, u, w)

      body_matched : form_of kind ≡ form.Object (family_of head) → (proper.IsMismatched is (context_of (family_of head)) → ⊥) → IsMismatchedBody (object head is) (form_of kind) → ⊥
      body_matched e m (inl ne) = ne e
      body_matched e m (inr x) = m x

      body_short : items_len is ≤ LONGEST_REGION → (proper.HasLong is → ⊥) → IsLongBody (object head is) → ⊥
      body_short low s (inl x) = omega (arith, low, x)
      body_short low s (inr x) = s x

module _ {L : Bounds} (b : Built) (ms : List MessageVal) where
  end_layer : (h : Begun) (v : Val) → Holds L b (record { ended = ms; layers = record { head = h; inside = v } ∷ [] }) → Holds L (ended b 4) (record { ended = ms ++ message_in h v; layers = [] })
  end_layer (message kind flags seq port head) (list is) h = end_message b ms kind flags seq port head is h
  end_layer (message kind flags seq port head) (bytes bs) h = absurd (h.layers.0.matched tt)
  end_layer (message kind flags seq port head) (hops hs) h = absurd (h.layers.0.matched tt)
  end_layer (attribute n f) v h = let e = h.layers.0.head.2 in absurd (cc)
  end_layer (next_hop f c i) v h = let e = h.layers.0.head.1 in absurd (cc)

  end_at : (xs : List Layer) → end_refusal b.heads ≡ None → Holds L b (record { ended = ms; layers = xs }) → Holds L (ended b 4) (record { ended = ms ++ messages_in xs; layers = [] })
  end_at [] e h = let z = ap end_refusal (sym h.heads) ∙ e in absurd (cc)
  end_at (x ∷ []) e h = end_layer x.head x.inside h
  end_at (x ∷ y ∷ zs) e h = let z = ap end_refusal (sym h.heads) ∙ e in absurd (cc)

pub end_holds : {L : Bounds} (b new : Built) (d : Draft) → or_next b.refusal (end_refusal b.heads) ≡ None → new ≡ ended b 4 → Holds L b d → Holds L new (draft.end d)
end_holds {L} b new d e made h = subst (λ (x : Built). Holds L x (draft.end d)) (sym made) (end_at b d.ended d.layers (neither b.refusal (end_refusal b.heads) e).1 h)

-- ---- the datagram is handed out

no_layers : (o : Order) (ms : List MessageVal) (xs : List Layer) → finish_refusal (heads_of o ms xs) ≡ None → xs ≡ []
no_layers o ms [] e = refl
no_layers o ms (x ∷ xs) e = absurd (cc)

at_bounds : {L : Bounds} (b : Built) (d : Draft) → finish b ≡ None → Holds L b d → (b.front ≡ written (order_of b) d.ended) × IsTheList b.bounds b.front d.ended
at_bounds b d e h =
    let o = order_of b in
    let S = b.bounds.shape in
    let ms = d.ended in
    let none : d.layers ≡ [] = no_layers o ms d.layers (ap finish_refusal (sym h.heads) ∙ (neither b.refusal (finish_refusal b.heads) e).1) in
    let is : b.front ≡ written o ms = h.front ∙ ap (laid o ms) none in
    let len : written_len ms ≡ length b.front = sym (written_length o ms) ∙ ap (length {A = ℕ}) (sym is) in
    let low : written_len ms ≤ LONGEST_REGION = omega (arith, len, h.size, h.limits.3) in
    let proper : IsProper ms S.depth = record { matched = h.matched; shallow = h.shallow; short = not_long low } in
    let again = written_has_layout S ms proper h.ranged in
    let layout = subst (Layout S ms) (sym is) again in (
      is,
      record {
        layout = layout;
        only = λ ns other. one_layout S b.front ns ms other layout;
        proper = proper;
        short = omega (arith, len, h.size);
        again = again;
        only_again = λ ns other. one_layout S (written o ms) ns ms other again;
      },
    )
  where
    not_long : written_len d.ended ≤ LONGEST_REGION → IsLong d.ended → ⊥
    not_long low (inl x) = omega (arith, x, low)
    not_long low (inr x) = h.short x

pub finishes : (b : Built) (d : Draft) (L : Bounds) → finish b ≡ None → Holds L b d → (b.front ≡ written L.shape.order d.ended) × IsTheList L b.front d.ended
finishes b d L e h = subst (λ (x : Bounds). (b.front ≡ written x.shape.order d.ended) × IsTheList x b.front d.ended) h.bounds (at_bounds b d e h)
