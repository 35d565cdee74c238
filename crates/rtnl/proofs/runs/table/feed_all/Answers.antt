use Rattle.std.proofs.Common.{◌≡◌, ◌<◌, [], ◌∷◌, ◌+◌, ◌∙◌, ap, arith, drop, length, refl, rules, subst, sym}
use Rattle.rtnl.proofs.Common.{drop_more, FeedsSome}
use Rattle.rtnl.proofs.Feeding.{feeds_none, refused_none, feeds_more, refused_more}
use Rattle.rtnl.proofs.runs.table.feed_all.Goals as goal

pub loop-index-init : goal.loop-index-init
loop-index-init g c = (search rules, ([], feeds_none c.args.session.now c.args.datagrams.now, refl, refused_none g.F.ReportFormat.report (c.args.out.now.items)))

pub loop-index-preserved : goal.loop-index-preserved
loop-index-preserved g c =
    let ds = c.args.datagrams.now in
    let k = c.loop-index.index in
    let d = c.get.result.now in
    let rest = drop (k + 1) ds in
    let below : k < length ds = search rules in
    let e : drop k ds ≡ d ∷ rest = drop_more ds k [] below ∙ ap (λ x. x ∷ rest) (sym c.get.ensures) in
    let i = c.loop-index.invariant.1 in
    let ensured = c.in_ok-feed_one.ensures in
    let before = subst (λ left. FeedsSome c.args.session.now ds i.0 left c.loop-index.session) e i.1 in (
      omega (arith, below),
      (
        (d, ensured.0) ∷ i.0,
        feeds_more c.args.session.now c.loop-index.session c.feed_one.new.session ds rest i.0 d ensured.0 before ensured.1 ensured.2,
        omega (arith, i.2),
        refused_more g.F.ReportFormat.report (c.args.out.now.items) (c.loop-index.out.items) (c.feed_one.new.out.items) i.0 d ensured.0 k i.3 i.2 ensured.3,
      ),
    )
