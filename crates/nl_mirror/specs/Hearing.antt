-- What becomes of a follower by one message.
use Rattle.std.specs.Prelude.{◌≡◌, List, [], ◌∷◌, Result, Ok, Err}
use Rattle.nl_route.specs.declared.family.Family.{Family}
use Rattle.nl_dump.specs.Items.{Item}
use Rattle.nl_mirror.specs.declared.short.Short.{Short}
use Rattle.nl_mirror.specs.declared.stale.Stale.{Stale}
use Rattle.nl_mirror.specs.Replicated.{Replicated}
use Rattle.nl_mirror.specs.Past.{Event, MovesAll, loses}
use Rattle.nl_mirror.specs.Notes.{Listening, Heard}
use Rattle.nl_mirror.specs.Seen.{replica_seen}
use Rattle.nl_mirror.specs.Told.{mirror_key}
use Rattle.nl_mirror.specs.Short.{AllButShort}

-- what listens to the messages of a family: what it knows, and its replica
pub record Following (T : Type 0) : Type 0 where
  pub kind : Family
  pub listening : Listening
  pub replica : Replicated T

-- one whose entries are items
abbrev pub Follows : Type 0
Follows = Following Item

-- the same, seen through what its entries stand for
abbrev pub in_items : {T : Type 0} → (T → Item) → Following T → Follows
in_items f g = record { kind = g.kind; listening = g.listening; replica = replica_seen f g.replica }

-- by these events the replica is what it is then, and this is known then
abbrev pub IsHeardAs : Follows → Heard → Follows → Type 0
IsHeardAs f h g = (g.kind ≡ f.kind) × (g.listening ≡ h.after) × MovesAll (mirror_key f.replica.order) f.replica h.events g.replica

-- the same, but for what there was too little of
abbrev pub IsHeardShort : Short → Follows → Heard → Follows → Type 0
IsHeardShort s f h g = (es : List (Event Item)) × AllButShort s h.events es × IsHeardAs f (record h { events = es }) g

-- exactly, or but for what there was too little for, as the answer says
abbrev pub IsHeardBy : {A : Type 0} → Result A Short → Follows → Heard → Follows → Type 0
IsHeardBy (Ok x) f h g = IsHeardAs f h g
IsHeardBy (Err s) f h g = IsHeardShort s f h g

-- something is lost
abbrev pub IsLost : Stale → Follows → Follows → Type 0
IsLost why f g = IsHeardAs f (record { events = loses why ∷ []; after = f.listening }) g
