-- A datagram of bytes has an answer, and one alone, and so datagrams have one text.
use Rattle.rtnl.proofs.Common.{◌≡◌, ◌≤◌, ℕ, List, [], ◌∷◌, length, Bool, true, false, IsTrue, Ok, Err, inl, inr, refl, sym, ap, ◌∙◌, arith, cases_lt, ReadError, Bounds, MessageVal, Layout, IsFirstFault, whole, Answer, Answers, Refuses, Finding, Finds, Verdict, Clean}
use Rattle.nl_attr.specs.declared.fault.Fault.{Fault}
use Rattle.nl_attr.specs.Numbers.{AreBytes}
use Rattle.nl_attr.specs.Reading.{Outcome}
use Rattle.nl_frame.specs.declared.reading.ReadError.TheVariants.{TooLarge, Layout as Fails, Memory}
use Rattle.nl_frame.specs.Reading.{messages_of}
use Rattle.nl_frame.specs.Written.{written}
use Rattle.nl_frame.proofs.Scan.{one_first_fault}
use Rattle.nl_frame.proofs.Firsts.{err_first, one_layout, ok_sound}
use Rattle.nl_frame.proofs.Layouts.{messages_fit, messages_sound}
use Rattle.rtnl.specs.Runs.{EachIs, Prints, texts_from, verdict_from}

module _ (b : Bounds) (d : List ℕ) where
  same_fault : (f g : Fault) → IsFirstFault b.shape (whole d) f.place f.reason → IsFirstFault b.shape (whole d) g.place g.reason → f ≡ g
  same_fault f g p q = let e = one_first_fault b.shape (whole d) f.place g.place f.reason g.reason p q in λ i. record { place = e.0 i; reason = e.1 i }

  same_refusal : (e f : ReadError) → Refuses b d e → Refuses b d f → e ≡ f
  same_refusal TooLarge TooLarge p q = refl
  same_refusal TooLarge (Fails g) p q = absurd (omega (arith, p, q.0))
  same_refusal TooLarge Memory p q = absurd q
  same_refusal (Fails f) TooLarge p q = absurd (omega (arith, p.0, q))
  same_refusal (Fails f) (Fails g) p q = ap Fails (same_fault f g p.1 q.1)
  same_refusal (Fails f) Memory p q = absurd q
  same_refusal Memory f p q = absurd p

  not_refused : (ms : List MessageVal) (e : ReadError) → length d ≤ b.datagram → Layout b.shape ms d → Refuses b d e → ⊥
  not_refused ms TooLarge size l q = absurd (omega (arith, size, q))
  not_refused ms (Fails f) size l q = let h = messages_fit b.shape ms 0 d l in ok_sound b.shape d ms h.0 h.1 f.place f.reason q.1.0
  not_refused ms Memory size l q = q

  pub same_answer : (x y : Answer) → Answers b d x → Answers b d y → x ≡ y
  same_answer (Ok ms) (Ok ns) p q = ap Ok (one_layout b.shape d ms ns p.1 q.1)
  same_answer (Ok ms) (Err e) p q = absurd (not_refused ms e p.0 p.1 q)
  same_answer (Err e) (Ok ns) p q = absurd (not_refused ns e q.0 q.1 p)
  same_answer (Err e) (Err f) p q = ap Err (same_refusal e f p q)

  same_bool : (x y : Bool) → (IsTrue x → IsTrue y) → (IsTrue y → IsTrue x) → x ≡ y
  same_bool true true p q = refl
  same_bool true false p q = let e = p refl in cc
  same_bool false true p q = let e = q refl in cc
  same_bool false false p q = refl

  pub same_finding : (x y : Finding) → Finds b d x → Finds b d y → x ≡ y
  same_finding (Ok v) (Ok w) p q =
      let e : p.1.0 ≡ q.1.0 = one_layout b.shape d p.1.0 q.1.0 p.1.1 q.1.1 in
      let same : written b.shape.order p.1.0 ≡ written b.shape.order q.1.0 = ap (written b.shape.order) e in
      ap Ok (same_bool v w (λ t. q.1.2.1 (sym same ∙ p.1.2.0 t)) (λ t. p.1.2.1 (same ∙ q.1.2.0 t)))
  same_finding (Ok v) (Err e) p q = absurd (not_refused p.1.0 e p.0 p.1.1 q)
  same_finding (Err e) (Ok w) p q = absurd (not_refused q.1.0 e q.0 q.1.1 p)
  same_finding (Err e) (Err f) p q = ap Err (same_refusal e f p q)

module _ {X : Type 0} (Is : List ℕ → X → Type 0) (one : (d : List ℕ) (x y : X) → Is d x → Is d y → x ≡ y) where
  same_found : (ds : List (List ℕ)) (xs ys : List X) → EachIs Is ds xs → EachIs Is ds ys → xs ≡ ys
  same_found [] [] [] p q = refl
  same_found [] [] (y ∷ ys) p q = absurd q
  same_found [] (x ∷ xs) ys p q = absurd p
  same_found (d ∷ ds) [] ys p q = absurd p
  same_found (d ∷ ds) (x ∷ xs) [] p q = absurd q
  same_found (d ∷ ds) (x ∷ xs) (y ∷ ys) p q = let e = one d x y p.0 q.0 in let f = same_found ds xs ys p.1 q.1 in λ i. e i ∷ f i

  -- datagrams of which one thing each is found have one text and one verdict
  pub one_print : (text : ℕ → List ℕ → X → List ℕ) (is_accepted : X → Bool) (ds : List (List ℕ)) (t u : List ℕ) (v w : Verdict) → Prints Is text is_accepted ds t v → Prints Is text is_accepted ds u w → (t ≡ u) × (v ≡ w)
  one_print text is_accepted ds t u v w p q =
      let e = same_found ds p.0 q.0 p.1 q.1 in
      (p.2 ∙ ap (texts_from text 1 ds) e ∙ sym q.2, p.3 ∙ ap (verdict_from is_accepted Clean) e ∙ sym q.3)

-- a datagram of bytes has an answer
pub some_answer : (b : Bounds) (d : List ℕ) → AreBytes d → (a : Answer) × Answers b d a
some_answer b d fit = elim (cases_lt b.datagram (length d)) [ inl large ↦ (Err TooLarge, large) | inr size ↦ read (messages_of b.shape 0 d) refl size ] where
  read : (o : Outcome (List MessageVal)) → messages_of b.shape 0 d ≡ o → length d ≤ b.datagram → (a : Answer) × Answers b d a
  read (Ok ms, v) e size = (Ok ms, (size, messages_sound b.shape (length d) 0 d ms v (omega arith) fit e))
  read (Err f, v) e size = (Err (Fails f), (size, err_first b.shape d f v e))
