-- The machine value of a handle: a pointer, and whether it points to anything. Assumes `Logic`.
use Rattle.rtnl_c.proofs.Common.{◌≡◌, List, [], ◌∷◌, ◌++◌, refl, ◌∙◌, lit<, subst, Option, Some, None, not, ty_bool, ty_ptr, ty_struct, tcons, tnil, Val, vbool, vstruct, of_list, has_ty, WT, ent, emp, Fml, Logic, sem, RattleType, bool, layout, Good, T, Ura, Struct}
use mathlib.Core.Bool.{Bool, true, false, ◌&&◌}
use types.Kit.{Item, Goal, Seq, ‵, ◌$◌, drop, feq_l}
use denote.RawPtr.{Ptr, RawPtr, block_ptr, null_ptr, ptr_val}
use denote.Shadow.{shadow, makes_shadow}
use Rattle.std.specs.Box.Ownership.{box_owns}
use Rattle.rtnl_c.specs.Held.{frees, held_owns}
use Rattle.rtnl_c.proofs.Pointers.{both, both_tt}

-- a struct by its fields alone: what it owns does not read its name
abbrev pub plainly : List RattleType → RattleType
plainly Rs = Struct (record { name = []; args = []; types = []; fields = Rs })

pub ptr_typed : (p : Ptr) → Good ty_ptr (ptr_val p)
ptr_typed (block_ptr b o) = (tt, tt)
ptr_typed null_ptr = (tt, record { fits = lit< tt })

abbrev pub handle_val : Ptr → Bool → Val
handle_val p m = both (ptr_val p) (vbool m)

abbrev pub handle_own : Ptr → Bool → List Val → Fml
handle_own p m = (plainly (RawPtr ∷ bool ∷ [])).own_val (p, (m, tt))

pub handle_told : (p : Ptr) (m : Bool) (vs : List Val) → shadow (handle_own p m vs) → vs ≡ handle_val p m ∷ []
handle_told p m vs s = s.1.0 ∙ (λ i. vstruct (of_list (s.1.1.0 i ++ (s.1.1.1.0 i ++ []))) ∷ [])

pub handle_made : {M : Type 1} {𝓤 : Ura M} (𝓛 : Logic 𝓤) (p : Ptr) (m : Bool) → ent 𝓤 (emp 𝓤) (sem 𝓛 (handle_own p m (handle_val p m ∷ [])))
handle_made 𝓛 p m = makes_shadow 𝓛 (handle_own p m (handle_val p m ∷ [])) (λ _. (tt, (tt, (tt, tt)))) ((ptr_val p ∷ [], (vbool m ∷ [], tt)), (refl, (refl, (refl, tt))))

pub handle_typed : (p : Ptr) (m : Bool) → Good (ty_struct [] (tcons ty_ptr (tcons ty_bool tnil))) (handle_val p m)
handle_typed (block_ptr b o) m = (tt, (tt, (tt, tt)))
handle_typed null_ptr m = (tt, (record { fits = lit< tt }, (tt, tt)))

pub loose_typed : (R : RattleType) (p : Ptr) (h : Val) → Good (layout R) h → T (has_ty ty_ptr (ptr_val p) && (has_ty (layout R) h && true)) × WT (both (ptr_val p) h)
loose_typed R p h fits = (both_tt (has_ty ty_ptr (ptr_val p)) (has_ty (layout R) h) (ptr_typed p).0 fits.0, ((ptr_typed p).1, (fits.1, tt)))

module _ (R : RattleType) {M : Type 1} {𝓤 : Ura M} {𝓛 : Logic 𝓤} {K : Type 0} {Γ : List (Item 𝓤)} {G : Goal 𝓤 𝓛.H} (p : Ptr) where
  -- where a handle says that there is a value, there is one
  pub with_value : K → (m : Bool) (v : Option R.Denot) → T m → ((x : R.Denot) → v ≡ Some x → Seq K 𝓛 (‵ (box_owns frees R p x) ∷ Γ) G) → Seq K 𝓛 (‵ (held_owns R m p v) ∷ Γ) G
  with_value t true (Some x) m k = k x refl
  with_value t true None m k = feq_l t (λ e. absurd (subst T e tt))
  with_value t false v m k = absurd m

  -- and where it says that there is none, there is none
  pub without : K → (m : Bool) (v : Option R.Denot) → T (not m) → (v ≡ None → Seq K 𝓛 Γ G) → Seq K 𝓛 (‵ (held_owns R m p v) ∷ Γ) G
  without t true v m k = absurd m
  without t false (Some x) m k = feq_l t (λ e. absurd (subst T e tt))
  without t false None m k = drop t $ k refl
