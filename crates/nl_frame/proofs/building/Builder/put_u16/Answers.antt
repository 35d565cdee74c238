use Rattle.nl_frame.proofs.Common.{ℕ, List, subst, OnOk, Draft, Holds, Bounds, over}
use Rattle.nl_frame.specs.Draft as draft
use Rattle.nl_frame.proofs.building.Builder.put_u16.Goals as goal

pub returns-clause-puts : goal.returns-clause-puts
returns-clause-puts c =
    subst (λ (xs : List ℕ). OnOk c.put_bytes.result ((d : Draft) (L : Bounds) → Holds L (over c.args.self.now c.args.out.now) d → Holds L (over c.put_bytes.new.self c.put_bytes.new.out) (draft.put d c.args.number c.args.flags xs)))
    c.u16_bytes.ensures c.put_bytes.ensures.puts
