-- `of_loose` keeps the pointer, and hands on what it owns.
use Rattle.rtnl_c.proofs.Common.{◌≡◌, List, [], ◌∷◌, ◌++◌, refl, sym, subst, true, Some, Val, vptr, SProp, ent, emp, id⊢, WpFn, ‵, raw, ◌⊛◌, ◌$◌, ◌∵◌, !, qed, by, move, keep, split, fsplit, fjoin, suffices, use0, stop, fld, true_lit, of_opd, no_more, and_then, returns, enter, alloc_all, pass_all, free_all, look_at, get, get_in, sets, fact, fact_i, tables, yes, RattleType, owns, Ptr, block_ptr, types_at, plain, alive, Stays, stay_dropped, walk_of, Goes-dropped, proved_at, leaves, ghosts, agg, sub, whole, nothing}
use Rattle.std.specs.contracts.alloc.Global as heap
use Rattle.std.proofs.alloc.Global.TheLaws as heap_laws
use Rattle.rtnl_c.proofs.Pointers.{both, Loose, loose_good, loose_out}
use Rattle.rtnl_c.proofs.Handles.{handle_val, handle_own, handle_made, handle_typed}
use Rattle.nl_mirror.specs.contracts.mirror.Mirror as mirror_type
use Rattle.rtnl_c.specs.contracts.mirror_handle.MirrorHandle.of_loose.{ended, clauses}
use Rattle.rtnl_c.specs.contracts.mirror_handle.MirrorHandle.of_loose.Key.{name as #self}
use Rattle.rtnl_c.proofs.mirror_handle.MirrorHandle.of_loose.Statement.{statement}
use Rattle.rtnl_c.proofs.mirror_handle.MirrorHandle.of_loose.Code as code

pub of_loose_spec : {M : Type 1} → statement M
of_loose_spec 𝓤 𝓛 𝓜 𝓡 wired =
    let H = 𝓛.H in let 𝓣 = tables 𝓤 H 𝓜 𝓡 𝓡.env in let c = clauses 𝓛 𝓜.mem 𝓡.returns in let fn = code.function in
    let R : RattleType = mirror_type.the_row in let Z : RattleType = heap.the_row in let L : RattleType = Loose R Z heap_laws.the_row_laws ghosts in
    let hs : Stays ended.signature.params ended.kept = (stay_dropped (plain (λ _. L)) yes, tt) in
    proved_at 𝓛 ended hs c 𝓜 𝓡 (Goes-dropped 𝓛 0 (plain (λ _. L)) yes (λ κs x f. refl), tt) #self fn (code.unfolded 𝓤 H 𝓜 𝓡 wired) (λ z are.
    let Post : Val → SProp 𝓤 = (walk_of 𝓛 ended hs c).post z in let Run : List Val → SProp 𝓤 = λ ws. WpFn 𝓤 H 𝓣.C 𝓣.Λ fn ws Post in let v = z.0.3.0 in
    qed 𝓛 ((raw (alive 𝓛 ended.signature z.0.0 z.0.1) ⊛ ‵ (owns (types_at ended.signature.params z.0.0) z.0.3 z.0.4)) ∷ raw ((c z.0.0 z.0.3).requires z.1) ∷ []) ∵
    split ! $ move ! (1 ∷ []) $ fsplit ! $ loose_out R Z heap_laws.the_row_laws ghosts ! v z.0.4.0 (λ b o h e ws fits.
    -- [what the box owned; the allocator; nothing; the tokens; what was asked]
    let p : Ptr = block_ptr b o in let Told : Type 0 = Some v.value ≡ Some v.value in
    suffices ! (Run (both (vptr b o) h ∷ [])) (subst (λ (us : List Val). ent 𝓤 (Run (both (vptr b o) h ∷ [])) (Run us)) (sym (λ i. ws i ++ [])) (id⊢ 𝓤 (Run (both (vptr b o) h ∷ [])))) $
    enter ! 𝓣.C 𝓣.Λ fn (both (vptr b o) h ∷ []) Post $ alloc_all ! (λ l. pass_all ! refl (loose_good R Z heap_laws.the_row_laws ghosts b o h fits, tt) $
    sets ! (of_opd ! (get_in ! (fld ! refl (stop !)) (sub ! 0 refl (whole !)))) refl (tt, tt) $ sets ! (of_opd ! (get ! refl)) refl (tt, tt) $
    sets ! (agg ! (and_then ! (get ! refl) (and_then ! (true_lit !) (no_more !)))) refl (handle_typed p true) $
    returns ! (look_at ! 0 refl) $ free_all ! refl $
    use0 𝓛 (‵ (handle_own p true (handle_val p true ∷ []))) (handle_made 𝓛 p true) $ fjoin ! $
    use0 𝓛 (raw (fact 𝓤 Told)) (fact_i 𝓤 Told (emp 𝓤) refl) $ nothing ! $ nothing ! $ fjoin ! $ keep ! (5 ∷ 0 ∷ 2 ∷ 1 ∷ []) $ by ! (leaves 𝓛 ended hs c z (handle_val p true) (record { at = p; made = true; mirror = Some v.value }) (tt, tt) (tt, tt)))))
