-- `none` owns nothing.
use Rattle.rtnl_c.proofs.Common.{◌≡◌, [], ◌∷◌, Option, None, refl, false, Val, SProp, emp, ‵, raw, ◌⊛◌, ◌$◌, ◌∵◌, !, qed, by, move, keep, split, fjoin, use0, lit, false_lit, no_more, and_then, returns, enter, alloc_all, pass_all, free_all, look_at, sets, agg, fact, fact_i, tables, owns, null_ptr, types_at, alive, Stays, walk_of, proved_at, leaves, nothing}
use Rattle.rtnl_c.proofs.Handles.{handle_val, handle_own, handle_made, handle_typed}
use Rattle.nl_mirror.specs.contracts.mirror.Mirror as mirror_type
use Rattle.rtnl_c.specs.contracts.mirror_handle.MirrorHandle.none.{ended, clauses}
use Rattle.rtnl_c.specs.contracts.mirror_handle.MirrorHandle.none.Key.{name as #self}
use Rattle.rtnl_c.proofs.mirror_handle.MirrorHandle.none.Statement.{statement}
use Rattle.rtnl_c.proofs.mirror_handle.MirrorHandle.none.Code as code

pub none_spec : {M : Type 1} → statement M
none_spec 𝓤 𝓛 𝓜 𝓡 wired =
    let H = 𝓛.H in let 𝓣 = tables 𝓤 H 𝓜 𝓡 𝓡.env in let c = clauses 𝓛 𝓜.mem 𝓡.returns in let fn = code.function in
    let hs : Stays ended.signature.params ended.kept = tt in
    proved_at 𝓛 ended hs c 𝓜 𝓡 tt #self fn (code.unfolded 𝓤 H 𝓜 𝓡 wired) (λ z are.
    let Told : Type 0 = ◌≡◌ {A = Option mirror_type.the_row.Denot} None None in let Post : Val → SProp 𝓤 = (walk_of 𝓛 ended hs c).post z in
    qed 𝓛 ((raw (alive 𝓛 ended.signature z.0.0 z.0.1) ⊛ ‵ (owns (types_at ended.signature.params z.0.0) z.0.3 z.0.4)) ∷ raw ((c z.0.0 z.0.3).requires z.1) ∷ []) ∵
    split ! $ enter ! 𝓣.C 𝓣.Λ fn [] Post $ alloc_all ! (λ l. pass_all ! refl tt $
    sets ! (agg ! (and_then ! (lit ! tt) (and_then ! (false_lit !) (no_more !)))) refl (handle_typed null_ptr false) $
    returns ! (look_at ! 0 refl) $ free_all ! refl $
    use0 𝓛 (‵ (handle_own null_ptr false (handle_val null_ptr false ∷ []))) (handle_made 𝓛 null_ptr false) $ nothing ! $ move ! (1 ∷ 0 ∷ []) $ fjoin ! $
    use0 𝓛 (raw (fact 𝓤 Told)) (fact_i 𝓤 Told (emp 𝓤) refl) $ keep ! (2 ∷ 3 ∷ 1 ∷ 0 ∷ []) $ by ! (leaves 𝓛 ended hs c z (handle_val null_ptr false) (record { at = null_ptr; made = false; mirror = None }) tt tt)))
