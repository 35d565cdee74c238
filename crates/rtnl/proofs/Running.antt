-- Datagrams that are gone through one after another.
use Rattle.std.proofs.Common.{◌≡◌, ℕ, List, [], ◌∷◌, ◌++◌, ◌+◌, Bool, refl, sym, ap, ◌∙◌, append_assoc, append-nil}
use Rattle.rtnl.specs.Runs.{EachIs, texts_from, verdict_from, with_one}
use Rattle.rtnl.proofs.Common.{Verdict, Clean}

-- whatever is found of the rest, with it all datagrams are printed
abbrev pub Continues : {X : Type 0} → (List ℕ → X → Type 0) → (ℕ → List ℕ → X → List ℕ) → (X → Bool) → List (List ℕ) → List ℕ → ℕ → List (List ℕ) → List ℕ → Verdict → Type 0
Continues {X} Is text is_accepted all old number rest now verdict =
    (more : List X) → EachIs Is rest more
    → (found : List X) × EachIs Is all found × (now ++ texts_from text number rest more ≡ old ++ texts_from text 1 all found)
    × (verdict_from is_accepted verdict more ≡ verdict_from is_accepted Clean found)

module _ {X : Type 0} (Is : List ℕ → X → Type 0) (text : ℕ → List ℕ → X → List ℕ) (is_accepted : X → Bool) (all : List (List ℕ)) (old : List ℕ) where
  pub begins : Continues Is text is_accepted all old 1 all old Clean
  begins = λ more each. (more, each, refl, refl)

  -- one datagram more
  pub goes_on : (number : ℕ) (d : List ℕ) (rest : List (List ℕ)) (now next : List ℕ) (verdict : Verdict) (x : X) → Continues Is text is_accepted all old number (d ∷ rest) now verdict
      → Is d x → next ≡ now ++ text number d x → Continues Is text is_accepted all old (number + 1) rest next (with_one verdict (is_accepted x))
  unfolding texts_from
  goes_on number d rest now next verdict x h is e = λ more each.
      let r = h (x ∷ more) (is, each) in
      (r.0, r.1, ap (λ t. t ++ texts_from text (number + 1) rest more) e ∙ append_assoc now (text number d x) (texts_from text (number + 1) rest more) ∙ r.2, r.3)

  pub ends : (number : ℕ) (now : List ℕ) (verdict : Verdict) → Continues Is text is_accepted all old number [] now verdict
      → (found : List X) × EachIs Is all found × (now ≡ old ++ texts_from text 1 all found) × (verdict ≡ verdict_from is_accepted Clean found)
  unfolding texts_from
  ends number now verdict h = let r = h [] tt in (r.0, r.1, sym (append-nil now) ∙ r.2, r.3)
