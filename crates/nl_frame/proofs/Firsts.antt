-- What is read ends at the first fault, or there is none, and the visits are those of the heads up to there.
use Rattle.nl_frame.proofs.Common.{◌≡◌, ◌≢◌, ℕ, zero, suc, ◌+◌, ◌≤◌, ◌↔◌, List, [], ◌∷◌, length, drop, map, Option, Some, None, Result, Ok, Err, refl, sym, ap, subst, ◌∙◌, arith, nil_from_length, Reason, Fault, Shape, AreBytes, Head, Outcome, front, or_else_none, head_size, context_of, Form, header_of, MessageVal, form_at, payload_at, broken_frame, broken_message, Layout, message_of, message_at, body_at, messages_of, Trail, region_trail, trail_of}
use Rattle.nl_attr.specs.Grammar.{and_on, visits_of}
use Rattle.nl_attr.specs.Heads as region
use Rattle.nl_attr.specs.Scanned.{without}
use Rattle.nl_attr.proofs.Lemmas.First.{Agrees, map_agrees, then_agrees, agrees_so, end_of}
use Rattle.nl_attr.proofs.Lemmas.First as regions
use Rattle.nl_frame.specs.declared.form.Form.TheVariants as form
use Rattle.nl_frame.specs.Heads.{header, inner, Rest, behind, region_in, region_of, heads, FaultAt, IsFirstFault, Visits, whole}
use Rattle.nl_frame.proofs.Layouts.{messages_fit, messages_sound}
use Rattle.nl_frame.proofs.Scan.{fills, laws, trail_ends, trail_stops, trail_goes}
use Rattle.nl_frame.proofs.Steps.{messages_none, messages_cut, messages_step}

-- ---- reading agrees with a walk over the heads

module _ (S : Shape) where
  pub any_visits : (hs : List Head) → visits_of (heads S) (map inner hs) ≡ visits_of (region.heads S) hs
  unfolding heads region.heads
  any_visits [] = refl
  any_visits (h ∷ hs) = ap (λ (n : ℕ). region.span_at S h + n) (any_visits hs)

  body_agrees : (f : Form) (place : ℕ) (payload : List ℕ) → Agrees (heads S) (body_at S f place payload) (region_trail S (region_in f place payload))
  body_agrees (form.Object g) place payload =
      let a = regions.reads S (context_of g) 0 (place + head_size g) (drop (head_size g) payload) in
      map_agrees (heads S) _ _ _ (record { end = a.end; sums = a.sums ∙ sym (any_visits _) })
  body_agrees f place payload = record { end = refl; sums = refl }

  same_agrees : {A : Type 0} (o p : Outcome A) (t u : Trail) → o ≡ p → t ≡ u → Agrees (heads S) p u → Agrees (heads S) o t
  same_agrees {A} o p t u e f a = subst (λ (q : Outcome A). Agrees (heads S) q t) (sym e) (subst (λ (x : Trail). Agrees (heads S) p x) (sym f) a)

  messages_agree : (n : ℕ) (r : Rest) → length r.left ≤ n → Agrees (heads S) (messages_of S r.place r.left) (trail_of S r)
  unfolding heads
  messages_agree zero r le = same_agrees _ (Ok [], 0) _ ([], None) (messages_none S r.place r.left (nil_from_length r.left (omega arith))) (trail_ends S r (nil_from_length r.left (omega arith))) (record { end = refl; sums = refl })
  messages_agree (suc n) r le = by r.left (broken_message S.order r.left) refl refl (λ e. messages_agree n (behind S r) (let f = fills S r e in omega (arith, le, f.low, f.rest))) where
    by : (xs : List ℕ) (o : Option Reason) → r.left ≡ xs → broken_message S.order r.left ≡ o → (broken_frame S.order r.left ≡ None → Agrees (heads S) (messages_of S (behind S r).place (behind S r).left) (trail_of S (behind S r))) → Agrees (heads S) (messages_of S r.place r.left) (trail_of S r)
    by [] o e is more = same_agrees _ (Ok [], 0) _ ([], None) (messages_none S r.place r.left e) (trail_ends S r e) (record { end = refl; sums = refl })
    by (x ∷ xs) (Some why) e is more =
        let some : r.left ≢ [] = subst (λ ys. ys ≢ []) (sym e) (λ f. absurd cc) in
        same_agrees _ (Err (record { place = r.place; reason = why }), 0) _ ([], Some (r.place, why)) (messages_cut S r.place r.left why some is) (trail_stops S r why some is) (record { end = refl; sums = refl })
    by (x ∷ xs) None e is more =
        let some : r.left ≢ [] = subst (λ ys. ys ≢ []) (sym e) (λ f. absurd cc) in
        let body = map_agrees (heads S) (message_of (header_of S.order r.left)) _ _ (body_agrees (form_at S.order r.left) (r.place + 16) (payload_at S.order r.left)) in
        let all = then_agrees (heads S) (message_at S r.place r.left) _ (region_trail S (region_of S r)) (trail_of S (behind S r)) body (λ m. map_agrees (heads S) (λ ms. m ∷ ms) _ _ (more (or_else_none _ _ is).0)) in
        same_agrees _ _ _ (front (header r ∷ []) (and_on (region_trail S (region_of S r)) (trail_of S (behind S r)))) (messages_step S r.place r.left some is) (trail_goes S r some is) (record { end = all.end; sums = omega (arith, all.sums) })

module _ (S : Shape) (d : List ℕ) where
  agrees : Agrees (heads S) (messages_of S 0 d) (trail_of S (whole d))
  agrees = messages_agree S (length d) (whole d) (omega arith)

  -- a reading ends as the heads do, and its visits are theirs
  pub reads : without (messages_of S 0 d) ≡ (end_of (trail_of S (whole d)).1, visits_of (heads S) (trail_of S (whole d)).0)
  reads = agrees_so (heads S) (messages_of S 0 d) (trail_of S (whole d)) agrees

  -- a fault that is met is the first one
  pub err_first : (f : Fault) (v : ℕ) → messages_of S 0 d ≡ (Err f, v) → IsFirstFault S (whole d) f.place f.reason
  err_first f v e = regions.err_first (heads S) (laws S) (header (whole d)) (messages_of S 0 d) agrees f v e

  -- where a list is read no head has a fault
  pub ok_sound : (ms : List MessageVal) (v : ℕ) → messages_of S 0 d ≡ (Ok ms, v) → (p : ℕ) (r : Reason) → FaultAt S (whole d) p r → ⊥
  ok_sound ms v e = regions.ok_sound (heads S) (laws S) (header (whole d)) (messages_of S 0 d) agrees ms v e

  -- the visits are those of the heads up to the fault
  pub err_visits : (f : Fault) (v : ℕ) → messages_of S 0 d ≡ (Err f, v) → Visits S (whole d) f.place v
  err_visits f v e = regions.err_visits (heads S) (laws S) (header (whole d)) (messages_of S 0 d) agrees f v e

  -- or all of them
  pub ok_visits : (ms : List MessageVal) (v : ℕ) → messages_of S 0 d ≡ (Ok ms, v) → Visits S (whole d) (length d) v
  unfolding heads
  ok_visits ms v e = let n : 0 + length d ≡ length d = omega arith in subst (λ (q : ℕ). Visits S (whole d) q v) n (regions.ok_visits (heads S) (laws S) (header (whole d)) (messages_of S 0 d) agrees ms v e)

  -- some list is the layout exactly where no head has a fault
  pub layout_or_fault : AreBytes d → ((ms : List MessageVal) × Layout S ms d) ↔ ((p : ℕ) (r : Reason) → FaultAt S (whole d) p r → ⊥)
  layout_or_fault fits = (λ x p r f. without_fault x.0 x.1 p r f, λ none. split (messages_of S 0 d) refl none) where
    without_fault : (ms : List MessageVal) → Layout S ms d → (p : ℕ) (r : Reason) → FaultAt S (whole d) p r → ⊥
    without_fault ms l = let h = messages_fit S ms 0 d l in ok_sound ms h.0 h.1

    split : (o : Outcome (List MessageVal)) → messages_of S 0 d ≡ o → ((p : ℕ) (r : Reason) → FaultAt S (whole d) p r → ⊥) → (ms : List MessageVal) × Layout S ms d
    split (Ok ms, v) e none = (ms, messages_sound S (length d) 0 d ms v (omega arith) fits e)
    split (Err f, v) e none = absurd (none f.place f.reason (err_first f v e).0)

  -- one list at most
  pub one_layout : (ms ns : List MessageVal) → Layout S ms d → Layout S ns d → ms ≡ ns
  one_layout ms ns l k =
      let h = messages_fit S ms 0 d l in
      let i = messages_fit S ns 0 d k in
      let g : ◌≡◌ {A = Result (List MessageVal) Fault} (Ok ms) (Ok ns) = ap (λ (p : Outcome (List MessageVal)). p.0) (sym h.1 ∙ i.1) in
      cc
