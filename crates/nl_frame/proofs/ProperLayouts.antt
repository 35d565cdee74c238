-- Messages that are a layout can be written, are sized, are as long as the datagram with its last padding, keep no more bytes than it has, and are its one list.
use Rattle.nl_frame.proofs.Common.{◌≡◌, ℕ, ◌+◌, ◌%◌, ◌≤◌, List, [], ◌∷◌, length, take, drop, Some, None, refl, sym, ap, subst, ◌∙◌, arith, inl, inr, length-drop, LONGEST_REGION, Order, Shape, aligned, AreBytes, IsPiece, bytes_drop, apart, two_parts, piece_bytes, list_is_sized, signed, fields_are_ranged, is_family, head_size, context_of, family_of, fields_of, Form, header_fields, form_of, BodyVal, error, done, object, get, MessageVal, BodyOf, Layout, Bounds, AreLimits, body_len, written_len, written, IsMismatchedBody, IsMismatched, IsDeepBody, IsDeep, IsLongBody, HasLong, IsProper, IsRangedBody, IsRanged, IsSized, IsSizedBody, IsTheList}
use Rattle.std.proofs.Math.Logic.{⊎_elim}
use Rattle.nl_attr.proofs.Lemmas.Fitted.{IsAllowed, items_allowed, fitted_is_proper, fitted_len}
use Rattle.nl_frame.specs.Kept.{body_kept, kept}
use Rattle.nl_frame.proofs.Firsts.{one_layout}
use Rattle.nl_frame.proofs.WrittenLayouts.{written_has_layout}

-- ---- how long they are

pub payload_in : (o : Order) (d it pad rest : List ℕ) → IsPiece o 16 4 d it pad rest → 16 + length (drop 16 it) ≡ length it
payload_in o d it pad rest p = omega (arith, p.least, length-drop 16 it)

-- what is behind the front of a payload
tail_len : (n : ℕ) (payload tail : List ℕ) → n ≤ length payload → drop n payload ≡ tail → n + length tail ≡ length payload
tail_len n payload tail le e = omega (arith, ap (length {A = ℕ}) e, length-drop n payload, le)

again : (n k size : ℕ) → n % 4 ≡ 0 → n + k ≡ size → aligned (16 + (n + aligned k)) ≡ aligned (16 + size)
again n k size e f = omega (arith, e, f)

-- messages that are neither mismatched nor too long are sized
body_is_sized : (b : BodyVal) (f : Form) → (IsMismatchedBody b f → ⊥) → (IsLongBody b → ⊥) → IsSizedBody b
body_is_sized (object h is) f m s = list_is_sized is (context_of (family_of h)) (λ x. m (inr x)) (λ x. s (inr x))
body_is_sized b f m s = tt

are_sized : (ms : List MessageVal) → (IsMismatched ms → ⊥) → (HasLong ms → ⊥) → IsSized ms
are_sized [] m s = tt
are_sized (x ∷ ms) m s = (body_is_sized x.body (form_of x.kind) (λ y. m (inl y)) (λ y. s (inl y)), are_sized ms (λ y. m (inr y)) (λ y. s (inr y)))

module _ (S : Shape) where
  pub body_len_is : (c : BodyVal) (f : Form) (payload : List ℕ) → BodyOf S c f payload → aligned (16 + body_len c) ≡ aligned (16 + length payload)
  body_len_is (error z h tail) f payload b = ap (λ k. aligned (16 + k)) (tail_len 20 payload tail b.1 b.3)
  body_len_is (done None tail) f payload b = ap (λ (x : List ℕ). aligned (16 + length x)) (sym b.2)
  body_len_is (done (Some z) tail) f payload b = ap (λ k. aligned (16 + k)) (tail_len 4 payload tail b.1 b.3)
  body_len_is (object h is) f payload b =
      let n = head_size (family_of h) in
      let region = drop n payload in
      ap (λ k. aligned (16 + (n + k))) (fitted_len S (context_of (family_of h)) 0 region is b.1.2) ∙ again n (length region) (length payload) (is_family (family_of h)).whole (tail_len n payload region b.1.0 refl)
  body_len_is (get n tail) f payload b = let e : 1 + length tail ≡ length (n ∷ tail) = omega arith in ap (λ k. aligned (16 + k)) e ∙ ap (λ (x : List ℕ). aligned (16 + length x)) (sym b.1)
  body_len_is c f payload b = ap (λ (x : List ℕ). aligned (16 + length x)) (sym b.1)

  pub layout_len : (ms : List MessageVal) (d : List ℕ) → Layout S ms d → written_len ms ≡ aligned (length d)
  layout_len [] d f = sym (ap (λ (x : List ℕ). aligned (length x)) f)
  layout_len (m ∷ ms) d f =
      let it = f.0 in
      ap (λ k. k + written_len ms) (body_len_is m.body (form_of m.kind) (drop 16 it) f.5 ∙ ap aligned (payload_in S.order d it f.1 f.2 f.3))
      ∙ ap (λ k. aligned (length it) + k) (layout_len ms f.2 f.6) ∙ sym (two_parts S.order 16 4 d it f.1 f.2 f.3)

  -- ---- they can be written

  pub body_allowed : (c : BodyVal) (f : Form) (payload : List ℕ) → BodyOf S c f payload
      → IsAllowed (IsMismatchedBody c f) (IsDeepBody c S.depth) ((length payload ≤ LONGEST_REGION) × IsLongBody c) (AreBytes payload → IsRangedBody c) (body_kept c) (length payload)
  body_allowed (error z x tail) f payload b = record {
    matched = λ h. h b.0;
    shallow = λ h. h;
    short = λ h. h.1;
    ranged = λ fits. fields_are_ranged S.order (signed z ∷ header_fields x) (take 20 payload) b.2;
    kept = omega (arith, ap (length {A = ℕ}) b.3, length-drop 20 payload);
  }
  body_allowed (done None tail) f payload b = record {
    matched = ⊎_elim (λ h. h b.0) (λ h. omega (arith, b.1, h, ap (length {A = ℕ}) b.2));
    shallow = λ h. h;
    short = λ h. h.1;
    ranged = λ fits. tt;
    kept = omega (arith, ap (length {A = ℕ}) b.2);
  }
  body_allowed (done (Some z) tail) f payload b = record {
    matched = λ h. h b.0;
    shallow = λ h. h;
    short = λ h. h.1;
    ranged = λ fits. (fields_are_ranged S.order (signed z ∷ []) (take 4 payload) b.2).0;
    kept = omega (arith, ap (length {A = ℕ}) b.3, length-drop 4 payload);
  }
  body_allowed (object x is) f payload b =
      let n = head_size (family_of x) in
      let ctx = context_of (family_of x) in
      let a = items_allowed S is (drop n payload) ctx 0 b.1.2 in
      record {
        matched = ⊎_elim (λ h. h b.0) a.matched;
        shallow = a.shallow;
        short = λ h. (fitted_is_proper S ctx 0 (drop n payload) is b.1.2 (omega (arith, length-drop n payload, h.0))).short h.1;
        ranged = λ fits. (fields_are_ranged S.order (fields_of x) (take n payload) b.1.1, a.ranged);
        kept = omega (arith, a.kept, length-drop n payload);
      }
  body_allowed (get n tail) f payload b = record { matched = λ h. h b.0; shallow = λ h. h; short = λ h. h.1; ranged = λ fits. subst AreBytes b.1 fits 0; kept = omega (arith, ap (length {A = ℕ}) b.1) }
  body_allowed c f payload b = record { matched = λ h. h b.0; shallow = λ h. h; short = λ h. h.1; ranged = λ fits. tt; kept = omega (arith, ap (length {A = ℕ}) b.1) }

  layout_allowed : (ms : List MessageVal) (d : List ℕ) → Layout S ms d → IsAllowed (IsMismatched ms) (IsDeep ms S.depth) ((length d ≤ LONGEST_REGION) × HasLong ms) (AreBytes d → IsRanged ms) (kept ms) (length d)
  layout_allowed [] d f = record { matched = λ h. h; shallow = λ h. h; short = λ h. h.1; ranged = λ fits. tt; kept = omega arith }
  layout_allowed (m ∷ ms) d f =
      let it = f.0 in
      let size = length-drop 16 it in
      let low = apart S.order 16 4 d it f.1 f.2 f.3 in
      let b = body_allowed m.body (form_of m.kind) (drop 16 it) f.5 in
      let k = layout_allowed ms f.2 f.6 in
      record {
        matched = ⊎_elim b.matched k.matched;
        shallow = ⊎_elim b.shallow k.shallow;
        short = λ h. ⊎_elim (λ x. b.short (omega (arith, size, low, h.0), x)) (λ x. k.short (omega (arith, low, h.0), x)) h.1;
        ranged = λ fits.
            let parts = piece_bytes fits f.3 in
            let head = fields_are_ranged S.order (header_fields (record { len = length it; kind = m.kind; flags = m.flags; seq = m.seq; port = m.port })) (take 16 it) f.4 in
            (head.1.0, head.1.1.0, head.1.1.1.0, head.1.1.1.1.0, b.ranged (bytes_drop 16 it parts.0), k.ranged parts.1);
        kept = omega (arith, size, low, b.kept, k.kept, f.3.least);
      }

  pub layout_proper : (ms : List MessageVal) (d : List ℕ) → Layout S ms d → length d ≤ LONGEST_REGION → IsProper ms S.depth
  layout_proper ms d f top =
      let a = layout_allowed ms d f in
      record { matched = a.matched; shallow = a.shallow; short = ⊎_elim (λ h. omega (arith, layout_len ms d f, top, h)) (λ h. a.short (top, h)) }

  pub layout_sized : (ms : List MessageVal) (d : List ℕ) → Layout S ms d → length d ≤ LONGEST_REGION → IsSized ms
  layout_sized ms d f top =
      let p = layout_proper ms d f top in
      are_sized ms p.matched (λ x. p.short (inr x))

  pub layout_ranged : (ms : List MessageVal) (d : List ℕ) → AreBytes d → Layout S ms d → IsRanged ms
  layout_ranged ms d fits f = (layout_allowed ms d f).ranged fits

  -- messages keep no more bytes than their datagram has
  pub layout_kept : (ms : List MessageVal) (d : List ℕ) → Layout S ms d → kept ms ≤ length d
  layout_kept ms d f = (layout_allowed ms d f).kept

-- what holds of messages that are a layout
pub ruleset proper = (layout_proper, layout_len, layout_sized, layout_ranged)

pub the_list : (b : Bounds) (bytes : List ℕ) (ms : List MessageVal) → AreLimits b → AreBytes bytes → length bytes ≤ b.datagram → Layout b.shape ms bytes → IsTheList b bytes ms
the_list b bytes ms limits fit size layout =
    let S = b.shape in
    let proper = layout_proper S ms bytes layout (omega (arith, limits, size)) in
    let again : Layout S ms (written S.order ms) = written_has_layout S ms proper (layout_ranged S ms bytes fit layout) in
    record {
      layout = layout;
      only = λ ns other. one_layout S bytes ns ms other layout;
      proper = proper;
      short = omega (arith, limits, size, layout_len S ms bytes layout);
      again = again;
      only_again = λ ns other. one_layout S (written S.order ms) ns ms other again;
    }
