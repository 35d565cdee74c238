use Rattle.rtnl.proofs.Common.{◌++◌, ◌∙◌, ◌∷◌, [], Bool, List, ap, sym, map, take, map-append, ne_eqb, AttrList, attr_list_view}
use Rattle.std.proofs.lemmas.List.{take-map}
use Rattle.std.specs.Prelude.{if◌then◌else◌}
use Rattle.rtnl.specs.ByteParts.{list_behind}
use Rattle.rtnl.proofs.bytes.view.close.Goals as goal

pub returns : goal.returns
returns c =
    let a = c.args in
    let old = a.lists.now.items in
    let level = a.event.now.level in
    let kept = take level (map attr_list_view old) ++ list_behind (attr_list_view a.list) a.event.now ∷ [] in
    let by : Bool → List AttrList = λ is_message. if is_message then [] else kept in
    ap (map attr_list_view) c.in_ok-push.ensures.items
    ∙ ap (λ front. map attr_list_view (front ++ c.list_behind.result ∷ [])) c.truncate-2.ensures.items
    ∙ map-append attr_list_view (take level old) (c.list_behind.result ∷ [])
    ∙ (λ j. sym (take-map attr_list_view level old) j ++ c.list_behind.ensures j ∷ [])
    ∙ ap by (sym (ne_eqb _ _ c.if-event-eq-SORT_MESSAGE.false))
