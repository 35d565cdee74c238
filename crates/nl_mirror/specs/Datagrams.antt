-- What a follower is after all that it heard: the law.
use Rattle.std.specs.Prelude.{◌≡◌, ◌≤◌, ℕ, List, [], ◌∷◌, length}
use Rattle.nl_attr.specs.declared.order.Order.{Order}
use Rattle.nl_dump.specs.Items.{Item}
use Rattle.nl_mirror.specs.Replicated.{new_replica}
use Rattle.nl_mirror.specs.Past.{Event, IsMirror}
use Rattle.nl_mirror.specs.Notes.{Heard}
use Rattle.nl_mirror.specs.Told.{mirror_key}
use Rattle.nl_mirror.specs.Hearing.{Follows, IsHeardAs}

-- events, the oldest first, after those before them, the newest first
abbrev pub onto : List (Event Item) → List (Event Item) → List (Event Item)
onto [] old = old
onto (e ∷ es) old = onto es (e ∷ old)

-- the events of all that was heard, the newest first
abbrev pub all_heard : List Heard → List (Event Item)
all_heard [] = []
all_heard (h ∷ hs) = onto h.events (all_heard hs)

-- a new follower that heard this, the newest first
abbrev pub RunOf : Order → ℕ → ℕ → List Heard → Follows → Type 0
RunOf order limit waiting [] f = f.replica ≡ new_replica order limit waiting
RunOf order limit waiting (h ∷ hs) g = (f : Follows) × RunOf order limit waiting hs f × IsHeardAs f h g

-- whatever it heard, its table, with what waits told to it, is what the last good dump's items make, and all that was told since that dump began; or it is stale
abbrev pub RunsEndInMirror : Type 0
RunsEndInMirror =
    (order : Order) (limit waiting : ℕ) (hs : List Heard) (f : Follows) → RunOf order limit waiting hs f → IsMirror (mirror_key order) limit (all_heard hs) f.replica

-- and it keeps the limits and the byte order that it began with, and no more changes wait than may
abbrev pub RunsKeepLimits : Type 0
RunsKeepLimits =
    (order : Order) (limit waiting : ℕ) (hs : List Heard) (f : Follows) → RunOf order limit waiting hs f
    → (f.replica.limit ≡ limit) × (f.replica.order ≡ order) × (f.replica.waiting ≡ waiting) × (length f.replica.since ≤ waiting)
