use Rattle.std.proofs.Common.{◌≡◌, ◌++◌, ℕ, [], arith, drop, length-append, refl, rules, subst, sym, take}
use Rattle.rtnl.proofs.Common.{Consumes, Consumes-trans, length-take, take-append-le}
use Rattle.rtnl.proofs.KnownBytes.{at_most_more}
use Rattle.rtnl.proofs.Output.{few_lines, none_said}
use Rattle.rtnl.proofs.runs.run_each.say_input.Goals as goal

pub loop-received-init : goal.loop-received-init
loop-received-init g c =
    let e = c.in_ok-so_far.ensures in
    record {
      input = [];
      given = search rules;
      size = refl;
      within = omega arith;
      says = none_said (g.E.PerDatagram.finds c.args.each.now) (g.E.PerDatagram.text c.args.each.now) g.E.PerDatagram.takes c.in_ok-so_far.so_far e.0 e.1 e.2 e.3 e.4 e.5 e.6;
      room = refl;
      sound = refl;
    }

pub end_line-requires : goal.end_line-requires
end_line-requires g c =
    let i = c.loop-received.invariant in
    let few = few_lines (g.E.PerDatagram.finds c.args.each.now) (g.E.PerDatagram.text c.args.each.now) g.E.PerDatagram.takes i.input c.loop-received.so_far i.says in
    omega (arith, few, i.size, i.within)

pub say_piece-requires : goal.say_piece-requires
say_piece-requires g c =
    let i = c.loop-received.invariant in
    let few = few_lines (g.E.PerDatagram.finds c.args.each.now) (g.E.PerDatagram.text c.args.each.now) g.E.PerDatagram.takes i.input c.loop-received.so_far i.says in
    omega (arith, few, i.size, i.within, i.room, c.in-Ok.ensures.fits, length-take {A = ℕ})

pub returns-in_err-say_piece-in-Ok-clause-bounded : goal.returns-in_err-say_piece-in-Ok-clause-bounded
returns-in_err-say_piece-in-Ok-clause-bounded g c =
    at_most_more _ _ _ _ _ _ _ c.loop-received.invariant.given c.in-Ok.ensures.bytes.0 (omega (arith, c.loop-received.invariant.size, c.in-Ok.ensures.fits, length-take {A = ℕ}))

pub loop-received-preserved : goal.loop-received-preserved
loop-received-preserved g c =
    let i = c.loop-received.invariant in
    let piece = take c.in-Ok.count (c.take.new.buffer ++ drop c.min-room.result c.loop-received.buffer) in
    let same : take c.in-Ok.count c.take.new.buffer ≡ piece = sym (take-append-le c.in-Ok.count c.take.new.buffer _ (omega (arith, c.in-Ok.ensures.fits, length-take {A = ℕ}))) in
    record {
      input = i.input ++ piece;
      given = subst (λ p. Consumes (g.S.Source.remaining c.args.source.now) (g.S.Source.remaining c.take.new.self) (i.input ++ p)) same (Consumes-trans _ _ _ _ _ i.given c.in-Ok.ensures.bytes.0);
      size = omega (arith, i.size, length-append i.input piece, c.in-Ok.ensures.fits, length-take {A = ℕ});
      within = omega (arith, c.in-Ok.ensures.fits, length-take {A = ℕ});
      says = c.in_ok-say_piece-in-Ok.ensures.said i.input i.says;
      room = search rules;
      sound = search rules;
    }
