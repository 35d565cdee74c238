use Rattle.nl_frame.proofs.Common.{ℕ, List, append-nil, subst, OnOk, Draft, Holds, Bounds, over}
use Rattle.nl_frame.specs.Draft as draft
use Rattle.nl_frame.proofs.building.Builder.put_bytes.Goals as goal

pub returns-clause-puts : goal.returns-clause-puts
returns-clause-puts c =
    subst (λ (xs : List ℕ). OnOk c.put_parts.result ((d : Draft) (L : Bounds) → Holds L (over c.args.self.now c.args.out.now) d → Holds L (over c.put_parts.new.self c.put_parts.new.out) (draft.put d c.args.number c.args.flags xs)))
    (append-nil c.args.bytes.now) c.put_parts.ensures.puts
