use Rattle.rtnl.proofs.Common.{◌≡◌, ◌∷◌, [], ◌++◌, ◌∙◌, ℕ, List, ap, append_assoc, map, sym, Event, Order, AttrList, Mark, attr_list_view, depth_inside, head_marks, list_at, lists_after, lists_behind, lists_entered, marks_from, padding}
use Rattle.rtnl.specs.declared.bytes.parts.Depth.{Depth}
use Rattle.rtnl.proofs.bytes.view.view_events.Goals as goal

-- the head of the next event
module _ (o : Order) (d : List ℕ) (lists : List AttrList) (depth : Depth) (e : Event) (left es : List Event) (is : left ≡ e ∷ es) (a : AttrList) (outer : a ≡ list_at lists e.level) where
  lists_next : (next : List AttrList) → next ≡ lists_entered o d lists a e es → next ≡ lists_behind o d lists e es
  lists_next next entered = entered ∙ ap (λ (a : AttrList). lists_entered o d lists a e es) outer

  after_next : (all next : List AttrList) → lists_after o d lists left ≡ all → next ≡ lists_entered o d lists a e es → lists_after o d next es ≡ all
  after_next all next now entered = ap (λ (ls : List AttrList). lists_after o d ls es) (lists_next next entered) ∙ sym (ap (lists_after o d lists) is) ∙ now

  marks_next : (all one two three : List Mark) (next : List AttrList) (inside : Depth) → one ++ marks_from o d lists depth left ≡ all → two ≡ one ++ padding depth e.place ∷ []
      → three ≡ two ++ head_marks o d a e → next ≡ lists_entered o d lists a e es → inside ≡ depth_inside e → three ++ marks_from o d next inside es ≡ all
  marks_next all one two three next inside now padded shown entered deep =
      let rest = marks_from o d (lists_behind o d lists e es) (depth_inside e) es in
      let head = head_marks o d (list_at lists e.level) e in
      let p = padding depth e.place in
      let same : marks_from o d next inside es ≡ rest =
      ap (λ (ls : List AttrList). marks_from o d ls inside es) (lists_next next entered) ∙ ap (λ (x : Depth). marks_from o d (lists_behind o d lists e es) x es) deep in
      let text : three ≡ (one ++ p ∷ []) ++ head =
      shown ∙ ap (λ (t : List Mark). t ++ head_marks o d a e) padded ∙ ap (λ (a : AttrList). (one ++ p ∷ []) ++ head_marks o d a e) outer in
      ap (λ (t : List Mark). three ++ t) same ∙ ap (λ (t : List Mark). t ++ rest) text
      ∙ append_assoc (one ++ p ∷ []) head rest ∙ append_assoc one (p ∷ []) (head ++ rest)
      ∙ sym (ap (λ (xs : List Event). one ++ marks_from o d lists depth xs) is) ∙ now

pub loop-event-preserved : goal.loop-event-preserved
loop-event-preserved c =
    let o = c.args.order in
    let d = c.args.bytes.now in
    let l = c.loop-event in
    let lists = map attr_list_view l.lists.items in
    let e = c.in-Some.event.now in
    let es = c.in-Some.behind.now in
    let a = attr_list_view c.list_at-list.result in
    let outer : a ≡ list_at lists e.level = c.list_at-list.ensures ∙ ap (λ ls. list_at (map attr_list_view ls) e.level) c.deref.ensures.value in (
      marks_next o d lists l.depth e l.left.now es c.in-Some.ensures.cases.0 a outer _ _ _ _ _ _ l.invariant.0 c.in_ok-push_padding.ensures c.in_ok-push_head.ensures c.in_ok-enter.ensures c.depth_inside-depth.ensures,
      after_next o d lists l.depth e l.left.now es c.in-Some.ensures.cases.0 a outer _ _ l.invariant.1 c.in_ok-enter.ensures,
    )
