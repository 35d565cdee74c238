use Rattle.std.proofs.Common.{◌∷◌, ◌-◌, [], get_or, drop, take, ap, arith, length, ◌∙◌, rules}
use Rattle.rtnl.proofs.PieceEnds.{cut, within}
use Rattle.rtnl.proofs.recordings.recording.Datagrams.get.Goals as goal

pub start_of-start-requires : goal.start_of-start-requires
start_of-start-requires c =
    let below = within c.self.inside.bytes.items c.self.inside.ends.items c.args.index _ c.self.view_is c.requires in
    omega (arith, below, ap length c.as_slice.ensures.value)

pub index-requires : goal.index-requires
index-requires c =
    let below = within c.self.inside.bytes.items c.self.inside.ends.items c.args.index _ c.self.view_is c.requires in
    search (rules, below)

pub slice_bounds-result-count : goal.slice_bounds-result-count
slice_bounds-result-count c =
    let below = within c.self.inside.bytes.items c.self.inside.ends.items c.args.index _ c.self.view_is c.requires in
    let from = c.start_of-start.ensures ∙ ap (λ ends. get_or (0 ∷ ends) c.args.index 0) c.as_slice.ensures.value in
    (cut _ _ c.args.index _ _ c.self.invariant below from c.index.ensures).0

pub slice_bounds-result-start : goal.slice_bounds-result-start
slice_bounds-result-start c = search (rules, slice_bounds-result-count c)

pub slice_bounds-result-end : goal.slice_bounds-result-end
slice_bounds-result-end c =
    let below = within c.self.inside.bytes.items c.self.inside.ends.items c.args.index _ c.self.view_is c.requires in
    let from = c.start_of-start.ensures ∙ ap (λ ends. get_or (0 ∷ ends) c.args.index 0) c.as_slice.ensures.value in
    let here = cut _ _ c.args.index _ _ c.self.invariant below from c.index.ensures in
    search (rules, here.0, here.1, c.deref.ensures.value)

pub returns : goal.returns
returns c =
    let below = within c.self.inside.bytes.items c.self.inside.ends.items c.args.index _ c.self.view_is c.requires in
    let from = c.start_of-start.ensures ∙ ap (λ ends. get_or (0 ∷ ends) c.args.index 0) c.as_slice.ensures.value in
    let here = cut _ _ c.args.index _ _ c.self.invariant below from c.index.ensures in
    ap (λ bytes. take (c.index.result.now - c.start_of-start.result) (drop c.start_of-start.result bytes)) c.deref.ensures.value
    ∙ here.2 ∙ ap (λ ds. get_or ds c.args.index []) c.self.view_is
