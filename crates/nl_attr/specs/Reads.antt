-- What a call answers that reads a region.
use Rattle.std.specs.Prelude.{◌≡◌, ◌≤◌, ◌+◌, ◌-◌, ◌*◌, ℕ, List, length, IfOk, IfErr}
use Rattle.std.specs.Global.{Vec}
use Rattle.nl_attr.specs.declared.fault.ListError.{ListError}
use Rattle.nl_attr.specs.declared.fault.Tally.{Tally}
use Rattle.nl_attr.specs.declared.tree.Attr.{Attr}
use Rattle.nl_attr.specs.declared.tree.Ctx.{Ctx}
use Rattle.nl_attr.specs.Shape.{Shape}
use Rattle.nl_attr.specs.Tree.{Items}
use Rattle.nl_attr.specs.View.{attrs_view}
use Rattle.nl_attr.specs.Layout.{Fits}
use Rattle.nl_attr.specs.Heads.{IsFirstFault, start_of}
use Rattle.nl_attr.specs.Reading.{items_of_region}
use Rattle.nl_attr.specs.Outcomes.{HasOutcome, IfLayout, VisitsUpTo}
use Rattle.nl_attr.specs.Kept.{kept}

-- what was read of a region, or why it was not, and the visits
pub record ReadsList (S : Shape) (ctx : Ctx) (l place : ℕ) (bytes : List ℕ) (t : Tally (Vec Attr) ListError) : Type 0 where
  -- what is read, or the fault, and the visits are those of a reading from left to right
  pub outcome : HasOutcome (λ v. attrs_view v.items) t (items_of_region S ctx l place bytes)
  -- what is read fits the region
  pub fits : IfOk t.result (λ v. Fits S (attrs_view v.items) bytes ctx l)
  -- no other list does
  pub only : IfOk t.result (λ v. (is : Items) → Fits S is bytes ctx l → is ≡ attrs_view v.items)
  -- a fault is the one at the least place
  pub first : IfErr t.result (λ e. IfLayout e (λ f. IsFirstFault S (start_of ctx l place bytes) f.place f.reason))
  -- then no list fits
  pub none : IfErr t.result (λ e. IfLayout e (λ _. (is : Items) → Fits S is bytes ctx l → ⊥))
  -- the visits are those of all heads, or of those up to the fault
  pub visits : VisitsUpTo S (start_of ctx l place bytes) (place + length bytes) t.result t.visits
  pub bound : t.visits ≤ (S.depth - l + 1) * length bytes
  -- what is read keeps no more bytes than the region has
  pub kept : IfOk t.result (λ v. kept (attrs_view v.items) ≤ length bytes)
