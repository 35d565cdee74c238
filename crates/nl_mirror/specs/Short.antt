-- What is heard where there is no memory for all of it, or no room for what waits.
use Rattle.std.specs.Prelude.{◌≡◌, List, [], ◌∷◌, ◌⊎◌}
use Rattle.nl_mirror.specs.declared.short.Short.{Short}
use Rattle.nl_mirror.specs.declared.short.Short.TheVariants as short
use Rattle.nl_mirror.specs.declared.stale.Stale.{Stale}
use Rattle.nl_mirror.specs.declared.stale.Stale.TheVariants.{Memory, Waiting}
use Rattle.nl_mirror.specs.Past.{Event, brings, ends, tells, overflows, loses, fails}

-- the reason that a table has then
abbrev pub reason : Short → Stale
reason short.Memory = Memory
reason short.Waiting = Waiting

module _ {T : Type 0} where
  -- what a change comes to that is short of this
  abbrev pub shortage : Short → Event T
  shortage short.Memory = loses Memory
  shortage short.Waiting = overflows

  -- without room a change finds as many waiting as may
  abbrev pub WithoutRoom : Event T → Event T → Type 0
  WithoutRoom (tells c) f = f ≡ overflows
  WithoutRoom e f = ⊥

  -- without memory an item or a change is lost, and a dump's end fails
  abbrev pub WithoutMemory : Event T → Event T → Type 0
  WithoutMemory (brings x) f = f ≡ loses Memory
  WithoutMemory (tells c) f = f ≡ loses Memory
  WithoutMemory (ends whole) f = f ≡ fails
  WithoutMemory e f = ⊥

  -- what becomes of an event, as the answer says: where it says memory, a table may have had no room too
  abbrev pub ShortOf : Short → Event T → Event T → Type 0
  ShortOf short.Memory e f = WithoutMemory e f ⊎ WithoutRoom e f
  ShortOf short.Waiting e f = WithoutRoom e f

  -- the events, some of which came to less
  abbrev pub AllButShort : Short → List (Event T) → List (Event T) → Type 0
  AllButShort s [] fs = fs ≡ []
  AllButShort s (e ∷ es) fs = (f : Event T) × (gs : List (Event T)) × (fs ≡ f ∷ gs) × ((f ≡ e) ⊎ ShortOf s e f) × AllButShort s es gs
