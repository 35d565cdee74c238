-- A doubt, whatever entries are known by.
use Rattle.nl_mirror.proofs.Common.{ℕ, List, Option, Some, None, Stale, Replicated, by_doubt, MovesAll}

pub by_any_key : {T : Type 0} (one other : T → List ℕ) (m : Replicated T) (d : Option Stale) (n : Replicated T) → MovesAll one m (by_doubt d) n → MovesAll other m (by_doubt d) n
by_any_key one other m None n s = s
by_any_key one other m (Some why) n s = s
