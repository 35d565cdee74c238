use Rattle.rtnl_c.proofs.Common.{◌≡◌, ℕ, List, length, Option, None, Some, Result, Ok, Err, refl, ap, sym, subst, ◌∙◌, length-take-le, Order, BuildError, finish, new_parts, over, order_in, put_of}
use Rattle.std.specs.Borrow.{Bor}
use Rattle.std.specs.Prelude.{IfOk, IsOk, MatchOption}
use Rattle.rtnl_c.specs.ChangeRequests.{IsAlone, PutsAlone, standard_in}
use Rattle.rtnl_c.proofs.Alone.{puts_alone, is_alone}
use Rattle.rtnl_c.proofs.change_requests.put_alone.Goals as goal

-- what is handed out is what is accepted, where nothing is refused
handed : (r : Result (Bor (List ℕ)) BuildError) (x : Bor (List ℕ)) (xs : List ℕ) (o : Option BuildError) → r ≡ Ok x → MatchOption o (IsOk r) (λ e. r ≡ Err e) → IfOk r (λ bytes. bytes.now ≡ xs) → (o ≡ None) × (x.now ≡ xs)
handed r x xs None i h front = (refl, subst (λ (s : Result (Bor (List ℕ)) BuildError). IfOk s (λ bytes. bytes.now ≡ xs)) i front)
handed r x xs (Some e) i h front = let both : Ok x ≡ Err e = sym i ∙ h in absurd (cc)

pub returns-in-Ok-clause-puts : goal.returns-in-Ok-clause-puts
returns-in-Ok-clause-puts g c =
    let m = λ (x : Order). g.M.PutMessage.message c.args.message.now x in
    let o = order_in c.args.big in
    let p = c.put.new.builder in
    let out = c.put.new.out in
    let start : c.new-builder.result ≡ new_parts (standard_in o) = cc in
    let d = handed c.finish.result c.in-Ok.bytes (over p out).front (finish (over p out)) c.in-Ok.is c.finish.ensures.refused c.finish.ensures.bytes in
    let len : length c.in-Ok.bytes.now ≡ p.len = ap length d.1 ∙ length-take-le p.len out c.put.ensures.fits in
    subst (λ (n : ℕ). PutsAlone (m o) o c.args.out.now out (put_of n 0)) (sym len) (puts_alone m o c.args.out.now c.new-builder.result start p out c.put.ensures.built c.put.ensures.fits _ d.0)

pub returns-in-Ok-clause-alone : goal.returns-in-Ok-clause-alone
returns-in-Ok-clause-alone g c =
    let m = λ (x : Order). g.M.PutMessage.message c.args.message.now x in
    let o = order_in c.args.big in
    let p = c.put.new.builder in
    let out = c.put.new.out in
    let start : c.new-builder.result ≡ new_parts (standard_in o) = cc in
    let d = handed c.finish.result c.in-Ok.bytes (over p out).front (finish (over p out)) c.in-Ok.is c.finish.ensures.refused c.finish.ensures.bytes in
    let len : length c.in-Ok.bytes.now ≡ p.len = ap length d.1 ∙ length-take-le p.len out c.put.ensures.fits in
    subst (λ (n : ℕ). IsAlone (m o) o out (put_of n 0)) (sym len) (is_alone m o c.args.out.now c.new-builder.result start p out c.put.ensures.built c.put.ensures.fits c.put.result c.put.ensures.answer c.put.ensures.puts d.0)
