-- What a handle of C owns.
use Rattle.std.specs.Prelude.{Bool, true, false, Option, Some, None}
use base.Fml.{Fml, ftrue, feq}
use denote.RattleType.{RattleType}
use mir.Syntax.{Ty}
use denote.RawPtr.{Ptr}
use Rattle.std.specs.Box.Ownership.{box_owns}
use Rattle.std_heap.specs.contracts.GlobalAllocator.TheImpl.{ghosts}

-- the right of `Global` to free a block
abbrev pub frees : Ty → Ptr → Fml
frees = ghosts.dealloc_token (record { memory = record { seal = tt } })

-- the block of a value where there is one, and the handle says whether there is
abbrev pub held_owns : (R : RattleType) → Bool → Ptr → Option R.Denot → Fml
held_owns R true p (Some x) = box_owns frees R p x
held_owns R true p None = feq Bool true false
held_owns R false p (Some x) = feq Bool true false
held_owns R false p None = ftrue
