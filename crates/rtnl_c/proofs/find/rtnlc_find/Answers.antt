use Rattle.rtnl_c.proofs.Common.{shape_of, order_in}
use Rattle.rtnl_c.proofs.Finding.{search_keeps, search_falls, search_finds, search_ends, one_found, first_is}
use Rattle.rtnl_c.proofs.find.rtnlc_find.Goals as goal

pub loop-found-preserved : goal.loop-found-preserved
loop-found-preserved c = search_keeps (order_in c.args.big) c.args.bytes.now c.args.number c.args.place c.loop-found.found c.rtnlc_attr_at-found-in-loop-found.result c.loop-found.invariant c.loop-found-test.true c.if-found-number.true c.rtnlc_attr_at-found-in-loop-found.ensures.stands

pub loop-found-smaller : goal.loop-found-smaller
loop-found-smaller c = search_falls (order_in c.args.big) c.args.bytes.now c.args.number c.args.place c.loop-found.found c.rtnlc_attr_at-found-in-loop-found.result c.loop-found.invariant c.loop-found-test.true c.rtnlc_attr_at-found-in-loop-found.ensures.stands

-- ---- where an attribute of the number stands

pub returns-else-found-number-clause-finds : goal.returns-else-found-number-clause-finds
returns-else-found-number-clause-finds c = λ small. search_finds (order_in c.args.big) c.args.bytes.now c.args.number c.args.place c.loop-found.found (c.loop-found.invariant.0 small) c.loop-found-test.true c.if-found-number.false

pub returns-else-found-number-clause-only : goal.returns-else-found-number-clause-only
returns-else-found-number-clause-only c = λ small a f. one_found (order_in c.args.big) c.args.bytes.now c.args.number c.args.place a c.loop-found.found f (returns-else-found-number-clause-finds c small)

pub returns-else-found-number-clause-first : goal.returns-else-found-number-clause-first
returns-else-found-number-clause-first c = λ small depth l ctx items fits. first_is (shape_of (order_in c.args.big) depth) ctx l c.args.bytes.now c.args.number items c.args.place c.loop-found.found fits (returns-else-found-number-clause-finds c small)

-- ---- where none stands

pub returns-after-loop-found-clause-finds : goal.returns-after-loop-found-clause-finds
returns-after-loop-found-clause-finds c = λ small. search_ends (order_in c.args.big) c.args.bytes.now c.args.number c.args.place c.loop-found.found (c.loop-found.invariant.0 small) c.loop-found-test.false

pub returns-after-loop-found-clause-only : goal.returns-after-loop-found-clause-only
returns-after-loop-found-clause-only c = λ small a f. one_found (order_in c.args.big) c.args.bytes.now c.args.number c.args.place a c.loop-found.found f (returns-after-loop-found-clause-finds c small)

pub returns-after-loop-found-clause-first : goal.returns-after-loop-found-clause-first
returns-after-loop-found-clause-first c = λ small depth l ctx items fits. first_is (shape_of (order_in c.args.big) depth) ctx l c.args.bytes.now c.args.number items c.args.place c.loop-found.found fits (returns-after-loop-found-clause-finds c small)
