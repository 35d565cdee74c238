use Rattle.std.proofs.Common.{◌≡◌, ◌++◌, ◌∷◌, [], ℕ, List, length, arith, ap, ◌∙◌}
use Rattle.nl_dump.proofs.Puts.{last_of, last_set}
use Rattle.nl_dump.proofs.entries.add.Goals as goal

pub returns : goal.returns
returns g c =
    let pairs = c.args.entries.now.items in
    let pushed = c.in_ok-push.ensures.items in
    let count : c.len-last.result ≡ length c.push.new.self.items = omega (arith, c.len-last.ensures, c.push.new.self.ok) in
    let is = ap (λ (p : List ℕ × g.row.T.Denot). p.1) (c.index_mut.ensures.value ∙ last_of pairs c.push.new.self.items (c.empty.result, c.args.entry) c.index_mut.result.now c.len-last.result pushed count) in
    let keyed = c.in_ok-fill.ensures.key ∙ ap (g.T.Entry.key_of c.args.order) is in
    last_set pairs c.push.new.self.items (c.empty.result, c.args.entry) (c.fill.new.self, c.index_mut.result.now.1) c.len-last.result pushed count ∙ (λ i. pairs ++ (keyed i, is i) ∷ [])
