-- That the calls which put messages that can be written build their bytes, where there is room for them.
use Rattle.nl_frame.proofs.Common.{◌≡◌, ℕ, ◌+◌, ◌<◌, ◌≤◌, ◌^◌, true, false, Bool, List, [], ◌∷◌, ◌++◌, length, drop, Option, Some, None, refl, sym, ap, subst, ◌∙◌, arith, inl, inr, append-nil, append_assoc, length-append, le-ltb, eq-eqb, LONGEST_REGION, Order, aligned, list, Items, no_items, with_padding, items_len, length-padded, items_whole, Family, AnyHead, row, head_size, context_of, family_of, fields_of, AreRanged, length-written, is_family, Bounds, AreLimits, Form, BuildError, OpenHead, form_of, header_fields, BodyVal, noop, error, done, overrun, object, get, other, MessageVal, body_len, body_written, written, written_len, IsMismatchedBody, IsMismatched, IsDeepBody, IsDeep, IsLongBody, HasLong, IsProper, IsRangedBody, IsRanged, Built, nothing_built, order_of, grown, opened, ended, lacks, first_refusal, begin_refusal, end_refusal, has_head, is_no_body, body_refusal, message_refusal, message_begun, header_begun, header_whole, message, Layer, nothing_put, begin, end, put_message, called, run, calls_of_items, calls_of_body, calls_of}
use Rattle.nl_attr.specs.declared.tree.Content.TheVariants as content
use Rattle.nl_route.specs.Fields as fields
use Rattle.nl_frame.specs.declared.form.Form.TheVariants as form
use Rattle.nl_frame.specs.Draft as draft
use Rattle.nl_frame.proofs.Opens.{has_room, room_for, lacks_less}
use Rattle.nl_frame.proofs.Begins.{message_length}
use Rattle.nl_frame.proofs.WrittenLayouts.{length-body, same_form, written_length}
use Rattle.nl_frame.proofs.Running.{ended_bounds, same_refusal}
use Rattle.nl_frame.proofs.Rooms.{ends_as_long}
use Rattle.nl_frame.proofs.Trees.{of, layer, with_body, all_items}
use Rattle.nl_frame.proofs.Accepted.{Stands, AreItems, run_append, grown_room, steps, same_room, items_stand}

-- a message that can be written
record IsWritable (D : ℕ) (m : MessageVal) (v : BodyVal) : Type 0 where
  pub matched : IsMismatchedBody v (form_of m.kind) → ⊥
  pub shallow : IsDeepBody v D → ⊥
  pub short : IsLongBody v → ⊥
  pub kind : m.kind < 2 ^ 16
  pub flags : m.flags < 2 ^ 16
  pub seq : m.seq < 2 ^ 32
  pub port : m.port < 2 ^ 32
  pub body : IsRangedBody v

-- ---- a message of a family

has_own : (f : Form) (g : Family) → f ≡ form.Object g → has_head f g ≡ true
has_own f g e = ap (λ (x : Form). has_head x g) e ∙ eq-eqb (row g).new (row g).new refl

module _ {L : Bounds} {all : List ℕ} (ms : List MessageVal) (m : MessageVal) where
  begin_stands : (b : Built) (h : AnyHead) (k : ℕ) → Stands L all b (of ms []) (16 + head_size (family_of h) + k) → form_of m.kind ≡ form.Object (family_of h) → AreRanged (fields_of h)
      → (m.kind < 2 ^ 16) × (m.flags < 2 ^ 16) × (m.seq < 2 ^ 32) × (m.port < 2 ^ 32)
      → Stands L all (called b (begin m.kind m.flags m.seq m.port h)) (of ms (layer (message m.kind m.flags m.seq m.port h) (list no_items) ∷ [])) k
  begin_stands b h k s e r q =
      let g = family_of h in
      let n = 16 + head_size g in
      let begun = message_begun (order_of b) (header_begun m.kind m.flags m.seq m.port) h in
      let none : begin_refusal b b.heads m.kind g ≡ None =
      ap (λ (hs : List OpenHead). begin_refusal b hs m.kind g) s.holds.heads
      ∙ ap (λ (t : Bool). first_refusal b [] t g) (has_own (form_of m.kind) g e)
      ∙ lacks_less b (n + k) n s.room (omega arith) in
      steps b (of ms []) (begin m.kind m.flags m.seq m.port h) (opened b (content.List (context_of g)) begun) (begin_refusal b b.heads m.kind g) (n + k) k s (q.0, q.1, q.2, q.3, r) refl none refl
      (grown_room b begun (n + k) k s.room (omega (arith, message_length (order_of b) m.kind m.flags m.seq m.port h)))

  end_stands : (b : Built) (x : Layer) (k : ℕ) → Stands L all b (of ms (x ∷ [])) k → Stands L all (called b end) (draft.end (of ms (x ∷ []))) k
  end_stands b x k s =
      let none : end_refusal b.heads ≡ None = ap end_refusal s.holds.heads in
      let same = ends_as_long b (of ms (x ∷ [])) 4 (omega arith) s.holds in
      let r = has_room b k s.room in
      let room : lacks (ended b 4) k ≡ None = room_for (ended b 4) k (omega (arith, r.0, ap (length {A = ℕ}) same.free)) (omega (arith, r.1, same.front, ap (λ (y : Bounds). y.datagram) (ended_bounds b 4))) in
      steps b (of ms (x ∷ [])) end (ended b 4) (end_refusal b.heads) k k s tt refl none (same_refusal b 4) room

  object_stands : (b : Built) (h : AnyHead) (is : Items) (k : ℕ) → Stands L all b (of ms []) (aligned (16 + body_len (object h is)) + k) → IsWritable L.shape.depth m (object h is)
      → Stands L all (run b (calls_of_body m (object h is))) (of (ms ++ with_body m (object h is) ∷ []) []) k
  object_stands b h is k s w =
      let g = family_of h in
      let head = message m.kind m.flags m.seq m.port h in
      let b1 = called b (begin m.kind m.flags m.seq m.port h) in
      let b2 = run b1 (calls_of_items is) in
      let sum : aligned (16 + (head_size g + items_len is)) + k ≡ 16 + head_size g + (items_len is + k) = omega (arith, items_whole is, (is_family g).whole) in
      let has = same_form (form_of m.kind) (form.Object g) (λ x. w.matched (inl x)) in
      let s1 = begin_stands b h (items_len is + k) (same_room b (of ms []) _ _ sum s) has w.body.0 (w.kind, w.flags, w.seq, w.port) in
      let a : AreItems L.shape.depth 0 (context_of g) is = record { matched = λ x. w.matched (inr x); shallow = w.shallow; short = λ x. w.short (inr x); ranged = w.body.1 } in
      let s2 = items_stand ms b1 head [] no_items (context_of g) is k s1 refl a in
      let s3 = subst (λ (z : Items). Stands L all b2 (of ms (layer head (list z) ∷ [])) k) (all_items is) s2 in
      subst (λ (x : Built). Stands L all x (of (ms ++ with_body m (object h is) ∷ []) []) k) (sym (run_append b1 (calls_of_items is) (end ∷ []))) (end_stands b2 (layer head (list is)) k s3)

-- ---- a whole message

-- it is of no family
abbrev IsWhole : BodyVal → Type 0
IsWhole (object h is) = ⊥
IsWhole v = Unit {0}

form_is : (f g : Form) (n : ℕ) → f ≡ g → is_no_body g n ≡ false → is_no_body f n ≡ false
form_is f g n e h = ap (λ (x : Form). is_no_body x n) e ∙ h

is_body : (o : Order) (v : BodyVal) (f : Form) → IsWhole v → (IsMismatchedBody v f → ⊥) → is_no_body f (length (body_written o v)) ≡ false
is_body o (object h is) f w m = absurd w
is_body o (noop bs) f w m = form_is f form.Noop _ (same_form f _ m) (le-ltb (length bs) 0 (omega arith))
is_body o (error z h tail) f w m = form_is f form.Error _ (same_form f _ m) (le-ltb (length (body_written o (error z h tail))) 20 (omega (arith, length-body o (error z h tail))))
is_body o (done None tail) f w m = form_is f form.Done _ (same_form f _ (λ x. m (inl x))) (le-ltb (length tail) 0 (omega arith))
is_body o (done (Some z) tail) f w m = form_is f form.Done _ (same_form f _ m) (le-ltb (length (body_written o (done (Some z) tail))) 0 (omega arith))
is_body o (overrun bs) f w m = form_is f form.Overrun _ (same_form f _ m) (le-ltb (length bs) 0 (omega arith))
is_body o (get n tail) f w m = form_is f form.Get _ (same_form f _ m) (le-ltb (length (n ∷ tail)) 1 (omega arith))
is_body o (other bs) f w m = form_is f form.Other _ (same_form f _ m) (le-ltb (length bs) 0 (omega arith))

module _ {L : Bounds} {all : List ℕ} (ms : List MessageVal) (m : MessageVal) where
  whole_stands : (b : Built) (v : BodyVal) (k : ℕ) → IsWhole v → Stands L all b (of ms []) (aligned (16 + body_len v) + k) → IsWritable L.shape.depth m v
      → Stands L all (called b (put_message m.kind m.flags m.seq m.port v)) (of (ms ++ with_body m v ∷ []) []) k
  whole_stands b v k whole s w =
      let o = order_of b in
      let bs = body_written o v in
      let n = length bs in
      let len : n ≡ body_len v = length-body o v in
      let front = header_fields (header_whole m.kind m.flags m.seq m.port n) in
      let it = fields.written o front ++ bs in
      let it_len : length (with_padding it) ≡ aligned (16 + n) = length-padded it ∙ ap aligned (length-append (fields.written o front) bs ∙ ap (λ j. j + n) (length-written o front)) in
      let j = aligned (16 + body_len v) + k in
      let r = has_room b j s.room in
      let low : 16 + n ≤ LONGEST_REGION = omega (arith, len, r.1, s.holds.limits.3) in
      let room = lacks_less b j (aligned (16 + n)) s.room (omega (arith, len)) in
      let none : message_refusal b b.heads m.kind n ≡ None =
      ap (λ (hs : List OpenHead). message_refusal b hs m.kind n) s.holds.heads
      ∙ ap (λ (t : Bool). body_refusal b [] t n) (is_body o v (form_of m.kind) whole w.matched)
      ∙ rw (le-ltb LONGEST_REGION (16 + n) low) room in
      steps b (of ms []) (put_message m.kind m.flags m.seq m.port v) (grown b (with_padding it)) (message_refusal b b.heads m.kind n) j k s (w.kind, w.flags, w.seq, w.port, w.body, w.matched) refl none refl
      (grown_room b (with_padding it) j k s.room (omega (arith, it_len, len)))

  body_stands : (b : Built) (v : BodyVal) (k : ℕ) → Stands L all b (of ms []) (aligned (16 + body_len v) + k) → IsWritable L.shape.depth m v → Stands L all (run b (calls_of_body m v)) (of (ms ++ with_body m v ∷ []) []) k
  body_stands b (object h is) k s w = object_stands ms m b h is k s w
  body_stands b (noop bs) k s w = whole_stands b (noop bs) k tt s w
  body_stands b (error z h tail) k s w = whole_stands b (error z h tail) k tt s w
  body_stands b (done t tail) k s w = whole_stands b (done t tail) k tt s w
  body_stands b (overrun bs) k s w = whole_stands b (overrun bs) k tt s w
  body_stands b (get n tail) k s w = whole_stands b (get n tail) k tt s w
  body_stands b (other bs) k s w = whole_stands b (other bs) k tt s w

-- ---- all messages

module _ {L : Bounds} {all : List ℕ} where
  messages_stand : (ms ns : List MessageVal) (b : Built) (k : ℕ) → Stands L all b (of ms []) (written_len ns + k) → (IsMismatched ns → ⊥) → (IsDeep ns L.shape.depth → ⊥) → (HasLong ns → ⊥) → IsRanged ns
      → Stands L all (run b (calls_of ns)) (of (ms ++ ns) []) k
  messages_stand ms [] b k s m d l r = subst (λ (xs : List MessageVal). Stands L all b (of xs []) k) (sym (append-nil ms)) (same_room b (of ms []) (0 + k) k (omega arith) s)
  messages_stand ms (n ∷ ns) b k s m d l r =
      let sum : written_len (n ∷ ns) + k ≡ aligned (16 + body_len n.body) + (written_len ns + k) = omega arith in
      let w : IsWritable L.shape.depth n n.body = record {
        matched = λ x. m (inl x);
        shallow = λ x. d (inl x);
        short = λ x. l (inl x);
        kind = r.0;
        flags = r.1;
        seq = r.2;
        port = r.3;
        body = r.4;
      } in
      let b1 = run b (calls_of_body n n.body) in
      let s1 = body_stands ms n b n.body (written_len ns + k) (same_room b (of ms []) _ _ sum s) w in
      let s2 = messages_stand (ms ++ n ∷ []) ns b1 k s1 (λ x. m (inr x)) (λ x. d (inr x)) (λ x. l (inr x)) r.5 in
      subst (λ (x : Built). Stands L all x (of (ms ++ (n ∷ ns)) []) k) (sym (run_append b (calls_of_body n n.body) (calls_of ns)))
      (subst (λ (xs : List MessageVal). Stands L all (run b1 (calls_of ns)) (of xs []) k) (append_assoc ms (n ∷ []) ns) s2)

same_built : {L M : Bounds} {f g e d : List ℕ} {hs ks : List OpenHead} {r q : Option BuildError} → L ≡ M → f ≡ g → e ≡ d → hs ≡ ks → r ≡ q
    → ◌≡◌ {A = Built} (record { bounds = L; front = f; free = e; heads = hs; refusal = r }) (record { bounds = M; front = g; free = d; heads = ks; refusal = q })
same_built p q r s t = cc

-- they are the bytes that the messages are written as, and nothing else changes
pub builds : (L : Bounds) (free : List ℕ) (ms : List MessageVal) → AreLimits L → IsProper ms L.shape.depth → IsRanged ms → written_len ms ≤ L.datagram → written_len ms ≤ length free
    → run (nothing_built L free) (calls_of ms) ≡ record (nothing_built L free) { front = written L.shape.order ms; free = drop (written_len ms) free }
builds L free ms limits p r low room =
    let b = nothing_built L free in
    let start : Stands L free b nothing_put (written_len ms + 0) = record {
      holds = record { bounds = refl; front = refl; heads = refl; layers = tt; matched = λ x. x; shallow = λ x. x; short = λ x. x; ranged = tt; limits = limits; size = omega arith };
      none = refl;
      room = room_for b (written_len ms + 0) (omega (arith, room)) (omega (arith, low));
      free = refl;
    } in
    let s = messages_stand [] ms b 0 start p.matched p.shallow (λ x. p.short (inr x)) r in
    let c = run b (calls_of ms) in
    let front : c.front ≡ written L.shape.order ms = s.holds.front ∙ ap (λ (x : Bounds). written x.shape.order ms) s.holds.bounds in
    let len : length c.front ≡ written_len ms = ap (length {A = ℕ}) front ∙ written_length L.shape.order ms in
    same_built s.holds.bounds front (s.free ∙ ap (λ k. drop k free) len) s.holds.heads s.none
