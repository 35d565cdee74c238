use Rattle.nl_frame.proofs.Common.{◌∙◌, sym, arith, refl, ne_eqb}
use Rattle.nl_frame.proofs.Forms.{agree}
use Rattle.nl_frame.proofs.form.Form.of.Goals as goal

-- it is none of the types that have a form of their own
pub returns-in_default : goal.returns-in_default
returns-in_default c =
    let n = c.args.kind in
    sym (agree n ∙ rw (ne_eqb n 1 (λ s. omega (arith, s, c.in_default)), ne_eqb n 2 (λ s. omega (arith, s, c.in_default)), ne_eqb n 3 (λ s. omega (arith, s, c.in_default)), ne_eqb n 4 (λ s. omega (arith, s, c.in_default)), ne_eqb n 16 (λ s. omega (arith, s, c.in_default)), ne_eqb n 17 (λ s. omega (arith, s, c.in_default)), ne_eqb n 18 (λ s. omega (arith, s, c.in_default)), ne_eqb n 19 (λ s. omega (arith, s, c.in_default)), ne_eqb n 20 (λ s. omega (arith, s, c.in_default)), ne_eqb n 21 (λ s. omega (arith, s, c.in_default)), ne_eqb n 22 (λ s. omega (arith, s, c.in_default)), ne_eqb n 24 (λ s. omega (arith, s, c.in_default)), ne_eqb n 25 (λ s. omega (arith, s, c.in_default)), ne_eqb n 26 (λ s. omega (arith, s, c.in_default)), ne_eqb n 28 (λ s. omega (arith, s, c.in_default)), ne_eqb n 29 (λ s. omega (arith, s, c.in_default)), ne_eqb n 30 (λ s. omega (arith, s, c.in_default)), ne_eqb n 32 (λ s. omega (arith, s, c.in_default)), ne_eqb n 33 (λ s. omega (arith, s, c.in_default)), ne_eqb n 34 (λ s. omega (arith, s, c.in_default))) refl)
