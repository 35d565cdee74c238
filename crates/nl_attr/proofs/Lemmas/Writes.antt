-- What a call answers that writes, from what was measured before.
use Rattle.nl_attr.proofs.Common.{◌≡◌, ◌+◌, ◌<◌, ◌++◌, ℕ, List, Bool, true, false, Option, Some, None, Result, Ok, Err, refl, ◌↔◌, IsTrue, IfSome, vec_len, vec_capacity, Vec, Extent, length_of, Refusal}
use Rattle.nl_attr.specs.declared.fault.WriteError.{WriteError}
use Rattle.nl_attr.specs.declared.fault.WriteError.TheVariants.{Mismatch, TooDeep, TooLong, Memory}
use Rattle.nl_attr.specs.Writes.{Writes}

-- the first refusal that applies, or that none does
abbrev pub Judges : {X : Type 0} → (WriteError → Type 0) → Result X WriteError → Type 0
Judges Refused (Ok x) = Refused Memory
Judges Refused (Err e) = Refused e

module _ (M D L : Type 0) where
  -- of a length that may be none
  len_judged : (o : Option ℕ) → (M → ⊥) → (D → ⊥) → (o ≡ None) ↔ L → Judges (Refusal M D L) (length_of (Some (record { deep = false; len = o })))
  len_judged None m d l = (m, d, l.0 refl)
  len_judged (Some n) m d l = (m, d, λ x. absurd (none n (l.1 x))) where
    none : (n : ℕ) → ◌≡◌ {A = Option ℕ} (Some n) None → ⊥
    none n e = cc

  pub judged : (o : Option Extent) → (o ≡ None) ↔ M → IfSome o (λ e. IsTrue e.deep ↔ D) → IfSome o (λ e. (e.len ≡ None) ↔ L) → Judges (Refusal M D L) (length_of o)
  judged None m d l = m.0 refl
  judged (Some e) m d l = by_depth e.deep d where
    matched : M → ⊥
    matched x = absurd (some (m.1 x)) where
      some : ◌≡◌ {A = Option Extent} (Some e) None → ⊥
      some f = cc

    by_depth : (b : Bool) → IsTrue b ↔ D → Judges (Refusal M D L) (length_of (Some (record { deep = b; len = e.len })))
    by_depth true y = (matched, y.0 refl)
    by_depth false y = len_judged e.len matched (λ x. no (y.1 x)) l where
      no : IsTrue false → ⊥
      no f = cc

  module _ {X : Type 0} where
    pub mismatch_is : (r : Result X WriteError) → Judges (Refusal M D L) r → (r ≡ Err Mismatch) ↔ M
    mismatch_is (Err Mismatch) j = (λ e. j, λ m. refl)
    mismatch_is r j = (λ e. absurd (cc), λ m. absurd (j.0 m))

    pub deep_is : (r : Result X WriteError) → Judges (Refusal M D L) r → (r ≡ Err TooDeep) ↔ ((M → ⊥) × D)
    deep_is (Err Mismatch) j = (λ e. absurd (cc), λ d. absurd (d.0 j))
    deep_is (Err TooDeep) j = (λ e. j, λ d. refl)
    deep_is r j = (λ e. absurd (cc), λ d. absurd (j.1 d.1))

    pub long_is : (r : Result X WriteError) → Judges (Refusal M D L) r → (r ≡ Err TooLong) ↔ ((M → ⊥) × (D → ⊥) × L)
    long_is (Ok x) j = (λ e. absurd (cc), λ l. absurd (j.2 l.2))
    long_is (Err Mismatch) j = (λ e. absurd (cc), λ l. absurd (l.0 j))
    long_is (Err TooDeep) j = (λ e. absurd (cc), λ l. absurd (l.1 j.1))
    long_is (Err TooLong) j = (λ e. j, λ l. refl)
    long_is (Err Memory) j = (λ e. absurd (cc), λ l. absurd (j.2 l.2))

  module _ (len : ℕ) (bytes : List ℕ) (Again : Type 0) (old new : Vec ℕ) where
    pub writes : Refusal M D L Memory → new.items ≡ old.items ++ bytes → Again → Writes (Refusal M D L) len bytes Again old new (Ok tt)
    writes j is again = record {
      mismatch = mismatch_is (Ok tt) j;
      deep = deep_is (Ok tt) j;
      long = long_is (Ok tt) j;
      written = is;
      unchanged = tt;
      memory = λ e. absurd (cc);
      again = again;
    }

    pub refuses : (e : WriteError) → Refusal M D L e → new.items ≡ old.items → (e ≡ Memory → vec_capacity old < vec_len old + len) → Writes (Refusal M D L) len bytes Again old new (Err e)
    refuses e j is memory = record {
      mismatch = mismatch_is (Err e) j;
      deep = deep_is (Err e) j;
      long = long_is (Err e) j;
      written = tt;
      unchanged = is;
      memory = λ f. memory (error f);
      again = tt;
    } where
      error : {a b : WriteError} → ◌≡◌ {A = Result (Unit {0}) WriteError} (Err a) (Err b) → a ≡ b
      error f = cc
