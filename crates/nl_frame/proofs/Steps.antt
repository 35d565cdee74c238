-- Reading a datagram message by message, whatever number bounds them.
use Rattle.nl_frame.proofs.Common.{◌≡◌, ◌≢◌, ℕ, zero, suc, ◌+◌, ◌*◌, ◌≤◌, true, false, eqb, List, [], ◌∷◌, ◌++◌, length, drop, Option, Some, None, Ok, Err, refl, sym, ap, ◌∙◌, arith, append_assoc, eqb-true, Order, Reason, Shape, Outcome, and_then, map_value, more_visits, IsOutcome, IsWithin, sound_within, rest_shorter, or_else_none, and_then_both, Form, Frame, Header, MessageVal, span_at, broken_message, IsFrame}
use Rattle.std.proofs.lemmas.List.{append-nil, nil_from_length}
use Rattle.nl_attr.specs.declared.fault.ListError.{ListError}
use Rattle.nl_attr.specs.declared.fault.ListError.TheVariants.{Layout, Memory}
use Rattle.nl_frame.specs.Reading.{message_of, body_at, message_at, unless, messages_at, messages_of}
use Rattle.nl_frame.proofs.Fronts.{Reaches, reaches_on}

pub message_within : (o : Order) (left : List ℕ) → broken_message o left ≡ None → IsWithin o 16 4 left
message_within o left e = sound_within o 16 4 left (or_else_none _ _ e).0

unless_same : {A : Type 0} (place : ℕ) (r : Option Reason) (o p : Outcome A) → (r ≡ None → o ≡ p) → unless place r o ≡ unless place r p
unless_same place None o p h = h refl
unless_same place (Some r) o p h = refl

module _ (S : Shape) where
  pub messages_enough : (n m place : ℕ) (left : List ℕ) → length left ≤ n → length left ≤ m → messages_at S n place left ≡ messages_at S m place left
  unfolding messages_at
  messages_enough zero (suc m) place (b ∷ bs) h k = absurd (omega arith)
  messages_enough (suc n) zero place (b ∷ bs) h k = absurd (omega arith)
  messages_enough (suc n) (suc m) place (b ∷ bs) h k =
      let left = b ∷ bs in
      unless_same place (broken_message S.order left) _ _ (λ sound.
      let w = message_within S.order left sound in
      and_then_both _ _ _ _ refl (λ x. ap (map_value (λ ms. x ∷ ms)) (messages_enough n m (place + span_at S.order left) (drop (span_at S.order left) left) (rest_shorter S.order 16 4 n left (omega arith) w h) (rest_shorter S.order 16 4 m left (omega arith) w k))))
  messages_enough n m place left h k = refl

  messages_open : (n place : ℕ) (left : List ℕ) → left ≢ [] → messages_at S (suc n) place left
      ≡ unless place (broken_message S.order left) (and_then (message_at S place left) (λ m. map_value (λ ms. m ∷ ms) (messages_at S n (place + span_at S.order left) (drop (span_at S.order left) left))))
  unfolding messages_at
  messages_open n place [] h = absurd (h refl)
  messages_open n place (b ∷ bs) h = refl

  -- the message at the front, and then the others
  pub messages_step : (place : ℕ) (left : List ℕ) → left ≢ [] → broken_message S.order left ≡ None →
      messages_of S place left ≡ and_then (message_at S place left) (λ m. map_value (λ ms. m ∷ ms) (messages_of S (place + span_at S.order left) (drop (span_at S.order left) left)))
  messages_step place left some e =
      let n = length left in
      let rest = drop (span_at S.order left) left in
      messages_enough n (suc n) place left (omega arith) (omega arith)
      ∙ messages_open n place left some
      ∙ rw e (and_then_both (message_at S place left) _ _ _ refl (λ m. ap (map_value (λ ms. m ∷ ms)) (messages_enough n (length rest) (place + span_at S.order left) rest (rest_shorter S.order 16 4 n left (omega arith) (message_within S.order left e) (omega arith)) (omega arith))))

  -- a broken head at the front
  pub messages_cut : (place : ℕ) (left : List ℕ) (r : Reason) → left ≢ [] → broken_message S.order left ≡ Some r → messages_of S place left ≡ (Err (record { place = place; reason = r }), 0)
  messages_cut place left r some e =
      let n = length left in
      messages_enough n (suc n) place left (omega arith) (omega arith) ∙ messages_open n place left some ∙ rw e refl

  pub messages_none : (place : ℕ) (left : List ℕ) → left ≡ [] → messages_of S place left ≡ (Ok [], 0)
  unfolding messages_at
  messages_none place left e = ap (messages_of S place) e

-- ---- the loop

-- what is left is read behind these messages, after so many visits
abbrev resumed : List MessageVal → ℕ → Outcome (List MessageVal) → Outcome (List MessageVal)
resumed ms n o = more_visits n (map_value (λ xs. ms ++ xs) o)

same_both : {a b : List MessageVal} {c d : ℕ} → a ≡ b → c ≡ d → ◌≡◌ {A = Outcome (List MessageVal)} (Ok a, c) (Ok b, d)
same_both p q = cc

resumed_more : (ms : List MessageVal) (m : MessageVal) (n v : ℕ) (o : Outcome (List MessageVal)) → resumed ms n (and_then (Ok m, v) (λ y. map_value (λ xs. y ∷ xs) o)) ≡ resumed (ms ++ m ∷ []) (n + v) o
resumed_more ms m n v (Ok x, u) = same_both (sym (append_assoc ms (m ∷ []) x)) (omega arith)
resumed_more ms m n v (Err d, u) = ap (λ (k : ℕ). (Err d, k)) (omega arith)

-- the state between two messages: what is left to read gives the whole, and the visits have their bound
pub record IsReading (S : Shape) (d : List ℕ) (ms : List MessageVal) (n place : ℕ) (left : List ℕ) : Type 0 where
  pub same : resumed ms n (messages_of S place left) ≡ messages_of S 0 d
  pub at : Reaches S d n place left

five : {a b : Header} {c d : Form} {e f : List ℕ} {g h : ℕ} {i j : List ℕ} → a ≡ b → c ≡ d → e ≡ f → g ≡ h → i ≡ j → ◌≡◌ {A = Header × Form × List ℕ × ℕ × List ℕ} (a, c, e, g, i) (b, d, f, h, j)
five p q r s t = cc

pub not_empty : (left : List ℕ) → false ≡ eqb (length left) 0 → left ≢ []
not_empty [] e = absurd cc
not_empty (x ∷ xs) e = λ f. absurd cc

pub empty : (left : List ℕ) → true ≡ eqb (length left) 0 → left ≡ []
empty left e = nil_from_length left (eqb-true (length left) 0 (sym e))

module _ {S : Shape} {d : List ℕ} {ms : List MessageVal} {n place : ℕ} {left : List ℕ} (now : IsReading S d ms n place left) where
  pub nothing_left : true ≡ eqb (length left) 0 → messages_of S 0 d ≡ (Ok ms, n)
  nothing_left e = sym now.same ∙ ap (resumed ms n) (messages_none S place left (empty left e)) ∙ same_both (append-nil ms) (omega arith)

  pub head_breaks : (r : Reason) → false ≡ eqb (length left) 0 → broken_message S.order left ≡ Some r → messages_of S 0 d ≡ (Err (record { place = place; reason = r }), n)
  head_breaks r some e =
      sym now.same ∙ ap (resumed ms n) (messages_cut S place left r (not_empty left some) e) ∙ ap (λ (k : ℕ). (Err (record { place = place; reason = r }), k)) (omega arith)

  -- where a message stands
  module _ (f : Frame) (is : IsFrame S.order left f) (v : ℕ) where
    -- it is read, and then what is behind it
    goes_on : (o : Outcome MessageVal) → false ≡ eqb (length left) 0 → map_value (message_of f.header) (body_at S f.form (place + 16) f.payload.now) ≡ o
        → messages_of S 0 d ≡ resumed ms n (and_then o (λ m. map_value (λ xs. m ∷ xs) (messages_of S (place + f.span) f.rest.now)))
    goes_on o some read =
        sym now.same
        ∙ ap (resumed ms n) (messages_step S place left (not_empty left some) is.sound)
        ∙ ap (λ (x : Header × Form × List ℕ × ℕ × List ℕ). resumed ms n (and_then (map_value (message_of x.0) (body_at S x.1 (place + 16) x.2)) (λ m. map_value (λ xs. m ∷ xs) (messages_of S (place + x.3) x.4))))
        (five (sym is.header) (sym is.form) (sym is.payload) (sym is.span) (sym is.rest))
        ∙ ap (λ (x : Outcome MessageVal). resumed ms n (and_then x (λ m. map_value (λ xs. m ∷ xs) (messages_of S (place + f.span) f.rest.now)))) read

    pub body_fails : {X Y : Type 0} (view : X → MessageVal) (views : Y → List MessageVal) (e : ListError) → false ≡ eqb (length left) 0
        → IsOutcome view (Err e) v (map_value (message_of f.header) (body_at S f.form (place + 16) f.payload.now)) → IsOutcome views (Err e) (n + v) (messages_of S 0 d)
    body_fails view views (Layout g) some read = goes_on (Err g, v) some read
    body_fails view views Memory some read = tt

    pub next : (ns : List MessageVal) (m : MessageVal) → v ≤ (S.depth + 1) * length f.payload.now → false ≡ eqb (length left) 0 → map_value (message_of f.header) (body_at S f.form (place + 16) f.payload.now) ≡ (Ok m, v) → ns ≡ ms ++ m ∷ [] → IsReading S d ns (n + v) (place + f.span) f.rest.now
    next ns m few some read new = record {
      same = rw new (sym (goes_on (Ok m, v) some read ∙ resumed_more ms m n v (messages_of S (place + f.span) f.rest.now)));
      at = reaches_on now.at f is v few;
    }
