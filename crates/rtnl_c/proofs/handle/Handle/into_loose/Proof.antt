-- `into_loose` looks whether there is a value, and hands on what the handle owns.
use Rattle.rtnl_c.proofs.Common.{◌≡◌, List, [], ◌∷◌, ◌++◌, Bool, Some, None, refl, sym, subst, lit<, Val, vcons, vnil, SProp, ent, emp, id⊢, WpFn, stop, fld, lit, of_opd, no_more, and_then, first, branches, exec, returns, enter, alloc_all, pass_all, free_all, look_at, get, get_in, sets, sets_last, env, fact, fact_i, tables, yes, RattleType, owns, Ptr, ptr_val, types_at, type_at, plain, alive, Stays, stay_dropped, walk_of, Goes-dropped, layout, handle_tells, after, Good, and_tt, proved_at, leaves, ghosts, ‵, raw, ◌⊛◌, at_ret, ◌$◌, ◌∵◌, !, qed, by, move, keep, drop, split, fsplit, fsplit3, fjoin, suffices, use0, use1, agg, sub, whole, live, nothing, Some-of, none_of}
use Rattle.std.specs.Option.{option_map}
use Rattle.std.specs.contracts.alloc.Global as heap
use Rattle.std.proofs.alloc.Global.TheLaws as heap_laws
use Rattle.rtnl_c.proofs.Pointers.{both, Loose, al, loose_by}
use Rattle.rtnl_c.proofs.Handles.{handle_val, handle_told, handle_typed, ptr_typed, loose_typed, with_value, without}
use Rattle.nl_dump.specs.contracts.session.Session as session_type
use Rattle.rtnl_c.specs.contracts.handle.Handle as handle
use Rattle.rtnl_c.specs.contracts.handle.Handle.into_loose.{ended, clauses}
use Rattle.rtnl_c.specs.contracts.handle.Handle.into_loose.Key.{name as #self}
use Rattle.rtnl_c.proofs.handle.Handle.into_loose.Statement.{statement}
use Rattle.rtnl_c.proofs.handle.Handle.into_loose.Code as code

pub into_loose_spec : {M : Type 1} → statement M
into_loose_spec 𝓤 𝓛 𝓜 𝓡 wired =
    let H = 𝓛.H in let 𝓣 = tables 𝓤 H 𝓜 𝓡 𝓡.env in let c = clauses 𝓛 𝓜.mem 𝓡.returns in let fn = code.function in
    let R : RattleType = session_type.the_row in let Z : RattleType = heap.the_row in let LZ = heap_laws.the_row_laws in let L : RattleType = Loose R Z LZ ghosts in
    let hs : Stays ended.signature.params ended.kept = (stay_dropped (plain (λ _. handle.the_row)) yes, (stay_dropped (plain (λ _. Z)) yes, tt)) in
    proved_at 𝓛 ended hs c 𝓜 𝓡 (Goes-dropped 𝓛 0 (plain (λ _. handle.the_row)) yes (λ κs x f. refl), (Goes-dropped 𝓛 0 (plain (λ _. Z)) yes (λ κs x f. refl), tt)) #self fn (code.unfolded 𝓤 H 𝓜 𝓡 wired) (λ z are.
    let Post : Val → SProp 𝓤 = (walk_of 𝓛 ended hs c).post z in let Run : List Val → SProp 𝓤 = λ ws. WpFn 𝓤 H 𝓣.C 𝓣.Λ fn ws Post in let Out : RattleType = type_at ended.signature.result z.0.0 in
    let v = z.0.3.0 in let a = z.0.3.1.0 in let p : Ptr = v.at in let m : Bool = v.made in let told = handle_told p m z.0.4.0 are.0.0 in
    qed 𝓛 ((raw (alive 𝓛 ended.signature z.0.0 z.0.1) ⊛ ‵ (owns (types_at ended.signature.params z.0.0) z.0.3 z.0.4)) ∷ raw ((c z.0.0 z.0.3).requires z.1) ∷ []) ∵
    split ! $ move ! (1 ∷ []) $ fsplit3 ! $ fsplit ! $ drop ! $ move ! (1 ∷ []) $ handle_tells (al R Z LZ ghosts) ! a z.0.4.1.0 (λ h eh fits.
    -- [the allocator; what the handle owns; nothing; the tokens; what was asked]
    let us : List Val = handle_val p m ∷ h ∷ [] in
    suffices ! (Run us) (subst (λ (ws : List Val). ent 𝓤 (Run us) (Run ws)) (sym (λ i. told i ++ (eh i ++ []))) (id⊢ 𝓤 (Run us))) $
    enter ! 𝓣.C 𝓣.Λ fn us Post $ alloc_all ! (λ l. pass_all ! refl (handle_typed p m, (fits, tt)) $ let Ev = env fn.locals l in
    sets ! (of_opd ! (get_in ! (fld ! refl (stop !)) (sub ! 0 refl (whole !)))) refl (ptr_typed p) $ sets ! (of_opd ! (get_in ! (fld ! refl (stop !)) (sub ! 1 refl (whole !)))) refl (tt, tt) $
    sets ! (of_opd ! (get ! refl)) refl (tt, tt) $ first ! $ branches ! (get ! refl)
    (λ made. move ! (1 ∷ []) $ with_value R p ! m v.session made (λ x is.
    let d : L.Denot = record { at = p; alloc = a; value = x } in let w : Val = both (ptr_val p) h in let u : Val = live 1 (vcons w vnil) in let typed = loose_typed Z p h fits in
    let good : Good (layout Out) u = (and_tt _ typed.0, (record { fits = lit< tt }, (typed.1, tt))) in let Told : Type 0 = option_map (λ (l : L.Denot). l.value) (Some d) ≡ v.session in
    sets ! (of_opd ! (get ! refl)) refl (ptr_typed p) $ sets ! (agg ! (and_then ! (get ! refl) (and_then ! (get ! refl) (no_more !)))) refl typed $
    sets_last ! (agg ! (and_then ! (lit ! tt) (and_then ! (get ! refl) (no_more !)))) refl good $
    exec ! 𝓣.C 𝓣.Λ Ev (after 4 fn.body) (at_ret Ev Post) $ sets ! (of_opd ! (get ! refl)) refl good $
    returns ! (look_at ! 0 refl) $ free_all ! refl $ loose_by R Z LZ ghosts ! p h a x $ use1 𝓛 (‵ (Out.own_val (Some d) (u ∷ []))) (Some-of 𝓛 L d w) $
    use0 𝓛 (raw (fact 𝓤 Told)) (fact_i 𝓤 Told (emp 𝓤) (sym is)) $ nothing ! $ nothing ! $ fjoin ! $ nothing ! $ fjoin ! $
    keep ! (4 ∷ 0 ∷ 2 ∷ 1 ∷ []) $ by ! (leaves 𝓛 ended hs c z u (Some d) (tt, (tt, tt)) (tt, (tt, tt)))))
    (λ none. move ! (1 ∷ []) $ without R p ! m v.session none (λ is.
    let Told : Type 0 = option_map (λ (l : L.Denot). l.value) None ≡ v.session in
    sets_last ! (agg ! (and_then ! (lit ! tt) (no_more !))) refl (tt, (record { fits = lit< tt }, tt)) $
    exec ! 𝓣.C 𝓣.Λ Ev (after 4 fn.body) (at_ret Ev Post) $ sets ! (of_opd ! (get ! refl)) refl (tt, (record { fits = lit< tt }, tt)) $
    returns ! (look_at ! 0 refl) $ free_all ! refl $ use0 𝓛 (‵ (Out.own_val None (live 0 vnil ∷ []))) (none_of 𝓛 L) $
    use0 𝓛 (raw (fact 𝓤 Told)) (fact_i 𝓤 Told (emp 𝓤) (sym is)) $ nothing ! $ nothing ! $ fjoin ! $ nothing ! $ fjoin ! $
    keep ! (5 ∷ 0 ∷ 2 ∷ 1 ∷ []) $ by ! (leaves 𝓛 ended hs c z (live 0 vnil) None (tt, (tt, tt)) (tt, (tt, tt))))))))
