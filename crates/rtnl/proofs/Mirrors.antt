-- A mirror that a recording keeps: its tables, seen through what their entries stand for, and messages that are heard one after another.
use Rattle.std.proofs.Common.{◌≡◌, ℕ, Bool, true, false, List, [], ◌∷◌, ◌++◌, ◌∙◌, Option, Some, None, Ok, IfOk, option_map, slice_get, append_assoc, append-nil, refl, sym, ap, subst}
use Rattle.std.proofs.lemmas.Option.{slice_get-map}
use Rattle.rtnl.proofs.Common.{Order, Family, MessageVal, Item, Held, held_seen, Report, is_comment}
use Rattle.nl_mirror.specs.Five.{Mirrored, EachHearsBy, IsUpdate}
use Rattle.rtnl.specs.Mirroring.{Comes, Hearing, HearsAll, Outcome, Passed, Passes, Step, MirrorReport, answer_text, answers_text, begins_well, comment_says, entry_at, fed_by, is_accepted, kind_text, of_shown, outcome_is_accepted, outcome_text, state_in, step_in, step_of, step_text, table_states, unbegun_by, where_so}
use Rattle.rtnl.specs.declared.runs.steps.StepKind.{StepKind}
use Rattle.rtnl.specs.declared.runs.mirrored.MirrorSettings.{MirrorSettings}
use Rattle.rtnl.specs.declared.runs.mirrored.MirrorSoFar.{MirrorSoFar}

-- ---- what a line says

-- what a comment says is its step
pub comment_step : (family : ℕ) (line bytes : List ℕ) (r : Option StepKind) → is_comment line ≡ true → option_map (step_of bytes) r ≡ comment_says family line
    → step_in family line ≡ Ok (option_map (step_of bytes) r)
comment_step family line bytes r is says = rw is (ap Ok (sym says))

-- ---- the tables

-- the entry at a place is what the one there stands for
pub entry_seen : {T : Type 0} (f : T → Item) (h : Held T) (i : ℕ) (r : Option T) → r ≡ option_map (λ (e : List ℕ × T). e.1) (slice_get h.entries i)
    → entry_at i (held_seen f h) ≡ option_map f r
entry_seen {T} f h i r e =
    ap (option_map (λ (e : List ℕ × Item). e.1)) (slice_get-map (λ (e : List ℕ × T). (e.0, f e.1)) h.entries i)
    ∙ seconds (slice_get h.entries i) ∙ sym (ap (option_map f) e)
  where
    seconds : (o : Option (List ℕ × T)) → option_map (λ (e : List ℕ × Item). e.1) (option_map (λ (e : List ℕ × T). (e.0, f e.1)) o) ≡ option_map f (option_map (λ (e : List ℕ × T). e.1) o)
    seconds None = refl
    seconds (Some e) = refl

-- the texts of five kinds, one after another
pub five_texts : (old a b c d new u v x y z : List ℕ) → a ≡ old ++ u → b ≡ a ++ v → c ≡ b ++ x → d ≡ c ++ y → new ≡ d ++ z → new ≡ old ++ (u ++ (v ++ (x ++ (y ++ z))))
five_texts old a b c d new u v x y z p q r s t = rw (t, s, r, q, p) (simp append_assoc)

-- ---- messages

-- one message more is heard
pub hears_one : (f g : Mirrored) (ms : List MessageVal) (hs : List Hearing) (m : MessageVal) (h : Hearing) → HearsAll f ms hs g → EachHearsBy h.answer g m h.mirror → IfOk h.answer (IsUpdate g m)
    → HearsAll f (ms ++ m ∷ []) (hs ++ h ∷ []) h.mirror
hears_one f g [] [] m h all hears is = subst (λ x. HearsAll x (m ∷ []) (h ∷ []) h.mirror) all (hears, is, refl)
hears_one f g [] (k ∷ hs) m h all hears is = absurd all
hears_one f g (n ∷ ms) [] m h all hears is = absurd all
hears_one f g (n ∷ ms) (k ∷ hs) m h all hears is = (all.0, all.1, hears_one k.mirror g ms hs m h all.2 hears is)

module _ (t : Report) (r : MirrorReport) (o : Order) (only : Option Family) where
  answers_both : (hs ks : List Hearing) → answers_text t r o only (hs ++ ks) ≡ answers_text t r o only hs ++ answers_text t r o only ks
  answers_both [] ks = refl
  answers_both (h ∷ hs) ks = ap (λ x. answer_text t r o only h.mirror h.answer ++ x) (answers_both hs ks) ∙ sym (append_assoc (answer_text t r o only h.mirror h.answer) (answers_text t r o only hs) (answers_text t r o only ks))

  one_answer : (h : Hearing) → answers_text t r o only (h ∷ []) ≡ answer_text t r o only h.mirror h.answer
  one_answer h = append-nil _

  -- and one more is told of
  pub answers_one : (told : Bool) (hs : List Hearing) (h : Hearing) (old before new : List ℕ) → before ≡ old ++ where_so told (answers_text t r o only hs)
      → new ≡ before ++ where_so told (answer_text t r o only h.mirror h.answer) → new ≡ old ++ where_so told (answers_text t r o only (hs ++ h ∷ []))
  answers_one true hs h old before new e is =
      is ∙ ap (λ x. x ++ answer_text t r o only h.mirror h.answer) e ∙ append_assoc old (answers_text t r o only hs) (answer_text t r o only h.mirror h.answer)
      ∙ ap (λ x. old ++ x) (ap (λ x. answers_text t r o only hs ++ x) (sym (one_answer h)) ∙ sym (answers_both hs (h ∷ [])))
  answers_one false hs h old before new e is = is ∙ append-nil before ∙ e

-- ---- a step

module _ (t : Report) (r : MirrorReport) (s : MirrorSettings) (a b : MirrorSoFar) (step : Step) (old mid new : List ℕ) (taken : Bool) where
  -- what is found of it
  abbrev pub FindsStep : Type 0
  FindsStep = (x : Passed) × Passes s.limits a step x b × (new ≡ old ++ step_text t r s.limits.shape.order s step x) × (taken ≡ is_accepted x)

  pub finds_step : (o : Outcome) → Comes s.limits a.mirror step o b.mirror → b.datagrams ≡ fed_by step a.datagrams → b.unbegun ≡ unbegun_by (begins_well o) a.unbegun
      → mid ≡ old ++ outcome_text t r s.limits.shape.order s step b.datagrams o
      → new ≡ mid ++ where_so s.changes (of_shown s.kind (λ k. kind_text t r s.limits.shape.order (state_in (table_states a.mirror) k) b.mirror k)) → taken ≡ outcome_is_accepted o → FindsStep
  unfolding step_text
  finds_step o comes datagrams unbegun first rest is =
      let kinds : List ℕ = where_so s.changes (of_shown s.kind (λ k. kind_text t r s.limits.shape.order (state_in (table_states a.mirror) k) b.mirror k)) in (
        record { before = a.mirror; outcome = o; after = b.mirror; datagrams = b.datagrams },
        record { before = refl; comes = comes; after = refl; datagrams = datagrams; number = refl; unbegun = unbegun },
        rest ∙ ap (λ x. x ++ kinds) first ∙ append_assoc old (outcome_text t r s.limits.shape.order s step b.datagrams o) kinds,
        is,
      )

-- nothing is told yet
pub none_told : (told : Bool) (out : List ℕ) → out ≡ out ++ where_so told []
none_told true out = sym (append-nil out)
none_told false out = sym (append-nil out)
