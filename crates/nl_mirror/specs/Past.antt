-- What a replica is after any events: a definition over all of them, and the law.
use Rattle.std.specs.Prelude.{◌≡◌, ◌&&◌, not, ℕ, Bool, true, false, if◌then◌else◌, List, [], ◌∷◌, ◌++◌, Option, Some, None, is_some}
use Rattle.nl_attr.specs.declared.order.Order.{Order}
use Rattle.nl_mirror.specs.declared.change.Change.{Change}
use Rattle.nl_mirror.specs.declared.change.Change.TheVariants.{Now}
use Rattle.nl_mirror.specs.declared.stale.Stale.{Stale}
use Rattle.nl_mirror.specs.declared.stale.Stale.TheVariants.{Waiting}
use Rattle.nl_mirror.specs.Changes.{nothing, put, tell_all}
use Rattle.nl_mirror.specs.Replicated.{Replicated, new_replica, stale_of, is_full, begun, with_loss, taken, renewed, settled}

-- a dump begins, brings an item, ends (whether it was whole); a change is told, or finds as many waiting as may; something is lost, and why; or a dump's end fails to
-- want of memory
pub data Event (T : Type 0) : Type 0 where
  begins : Event T
  brings : T → Event T
  ends : Bool → Event T
  tells : Change T → Event T
  overflows : Event T
  loses : Stale → Event T
  fails : Event T

-- the last good dump's items, each as a NEW, and after them all that was told since it began; the items of the newest dump, and what was told since it began;
-- whether something was lost since
pub record Past (T : Type 0) : Type 0 where
  pub good : List (Change T)
  pub items : List (Change T)
  pub told : List (Change T)
  pub lost : Bool

module _ {T : Type 0} where
  abbrev pub with_event : Event T → Past T → Past T
  with_event begins p = record p { items = []; told = []; lost = false }
  with_event (brings x) p = record p { items = p.items ++ Now x ∷ [] }
  with_event (ends whole) p = if whole && not p.lost then record p { good = p.items ++ p.told } else p
  with_event (tells c) p = record p { good = p.good ++ c ∷ []; told = p.told ++ c ∷ [] }
  with_event overflows p = record p { lost = true }
  with_event (loses why) p = record p { lost = true }
  with_event fails p = record p { lost = true }

  -- of these events, the newest first
  abbrev pub past : List (Event T) → Past T
  past [] = record { good = []; items = []; told = []; lost = false }
  past (e ∷ es) = with_event e (past es)

  -- something is lost where a message leaves something open
  abbrev pub by_doubt : Option Stale → List (Event T)
  by_doubt (Some why) = loses why ∷ []
  by_doubt None = []

  -- a dump begins, and with it something may be lost
  abbrev pub beginning_with : Option Stale → List (Event T)
  beginning_with (Some why) = loses why ∷ begins ∷ []
  beginning_with None = begins ∷ []

  -- a dump begins, and one that runs is given up
  abbrev pub beginning : Bool → Option Stale → List (Event T)
  beginning true loss = ends false ∷ beginning_with loss
  beginning false loss = beginning_with loss

  module _ (key : T → List ℕ) where
    -- one event takes a replica from m to n; a dump ends only where one runs, and begins only where none does; a change is told unless as many wait as may, and then it
    -- is lost
    abbrev pub Moves : Replicated T → Event T → Replicated T → Type 0
    Moves m begins n = (m.dumps ≡ false) × (n ≡ begun m)
    Moves m (brings x) n = (m.dumps ≡ true) × (n ≡ record m { coming = put m.limit m.coming (key x) x })
    Moves m (ends whole) n = (m.dumps ≡ true) × (n ≡ record (settled key (renewed m whole)) { coming = n.coming })
    Moves m (tells c) n = (is_full m ≡ false) × (n ≡ taken key m c)
    Moves m overflows n = (is_full m ≡ true) × (n ≡ with_loss Waiting m)
    Moves m (loses why) n = n ≡ with_loss why m
    Moves m fails n =
        (m.dumps ≡ true) × (n ≡ record m { table = n.table; coming = n.coming; since = []; dumps = false; lost = true; why = n.why }) × (is_some n.why ≡ true)

    -- these events, the oldest first, take a replica from m to n
    abbrev pub MovesAll : Replicated T → List (Event T) → Replicated T → Type 0
    MovesAll m [] n = n ≡ m
    MovesAll m (e ∷ es) n = (k : Replicated T) × Moves m e k × MovesAll k es n

    -- these events, the newest first, took a new replica to m
    abbrev pub Events : Order → ℕ → ℕ → List (Event T) → Replicated T → Type 0
    Events order limit waiting [] m = m ≡ new_replica order limit waiting
    Events order limit waiting (e ∷ es) n = (m : Replicated T) × Events order limit waiting es m × Moves m e n

    -- the law: unless something was lost since the last good dump began, the table, with what waits told to it, is that of the dump's items and of all that was
    -- told since it began, in order; and it missed nothing
    abbrev pub IsMirror : ℕ → List (Event T) → Replicated T → Type 0
    IsMirror limit es m = stale_of m ≡ None → (tell_all key limit m.table m.since ≡ tell_all key limit nothing (past es).good) × (m.table.missed ≡ 0)

-- whatever the events
abbrev pub EventsEndInMirror : {T : Type 0} → (Order → T → List ℕ) → Type 0
EventsEndInMirror {T} key_of =
    (order : Order) (limit waiting : ℕ) (es : List (Event T)) (m : Replicated T) → Events (key_of order) order limit waiting es m → IsMirror (key_of order) limit es m
