use Rattle.rtnl.proofs.Common.{◌≡◌, ◌++◌, ◌∙◌, ℕ, List, [], length, min, None, Some, sym, ap, map, subst, take-append-drop, on_ok_weaker, AttrList, Mark, attr_list_view, lists_after, marks_of, refused_marks, row_printed, AddsRows, marks_in}
use Rattle.rtnl.proofs.ByteRows.{both}
use Rattle.rtnl.proofs.bytes.push_refused.Goals as goal

pub returns : goal.returns
returns c =
    let a = c.args in
    let print = row_printed a.how.format a.how.order a.how.number in
    let before = c.split_at.result.0.now in
    let behind = c.split_at.result.1.now in
    let mid = c.push_parts.new.out.items in
    let out = c.push_parts-2.new.out.items in
    let n = c.split_at.ensures.front_len in
    let whole : before ++ behind ≡ a.bytes.now = rw (c.split_at.ensures.front, c.split_at.ensures.back) (take-append-drop c.min-stop.result a.bytes.now) in
    let at = n ∙ c.min-stop.ensures ∙ ap (λ (m : ℕ). min m (length a.bytes.now)) c.refused_at.ensures in
    let seen : marks_in c.deref.result.now ≡ marks_of a.how.order a.bytes.now a.events.now = cc (c.deref.ensures.value, c.in_ok-pieces.ensures.pieces) in
    let opened : map attr_list_view c.deref-2.result.now ≡ lists_after a.how.order a.bytes.now [] a.events.now =
    ap (map attr_list_view) c.deref-2.ensures.value ∙ c.in_ok-pieces.ensures.lists in
    let held : marks_in c.deref-3.result.now ≡ marks_in c.in_ok-broken.broken.items = ap marks_in c.deref-3.ensures.value in
    let broken : marks_in c.deref-3.result.now ≡ refused_marks (lists_after a.how.order a.bytes.now [] a.events.now) a.error =
    held ∙ c.in_ok-broken.ensures ∙ ap (λ (ls : List AttrList). refused_marks ls a.error) opened in
    let one = subst (λ (ms : List Mark). AddsRows print 0 before None ms a.out.now.items mid) seen c.in_ok-push_parts.ensures in
    on_ok_weaker c.push_parts-2.result
    (λ two.
    let end = subst (λ (ms : List Mark). AddsRows print c.min-stop.result behind (Some a.error) ms mid out) broken two in
    both print a.how.order a.events.now a.bytes.now before behind a.out.now.items mid out a.error (sym whole) at one
    (subst (λ (m : ℕ). AddsRows print m behind (Some a.error) (refused_marks (lists_after a.how.order a.bytes.now [] a.events.now) a.error) mid out) (sym n) end))
    c.push_parts-2.ensures
