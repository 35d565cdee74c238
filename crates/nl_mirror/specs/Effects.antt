-- What a change makes of a table, and a message of the tables.
use Rattle.std.specs.Prelude.{◌≡◌, ℕ, true, nat_lt, if◌then◌else◌, Option, Some, None, List, length, bytes_eq}
use Rattle.std.specs.List.{position_or_len}
use Rattle.std.specs.Map.{keys_of, lookup}
use Rattle.nl_route.specs.declared.family.Family.{Family}
use Rattle.nl_route.specs.declared.family.Family.TheVariants.{Link, Addr, Route, Neigh, Rule}
use Rattle.nl_frame.specs.Message.{MessageVal}
use Rattle.nl_dump.specs.declared.dump.Dump.{Dump}
use Rattle.nl_dump.specs.Items.{Item, item_of}
use Rattle.nl_dump.specs.Answer.{belongs}
use Rattle.nl_mirror.specs.declared.change.Change.{Change}
use Rattle.nl_mirror.specs.declared.change.Change.TheVariants.{Now, Gone}
use Rattle.nl_mirror.specs.declared.effect.Effect.{Effect}
use Rattle.nl_mirror.specs.declared.effect.Effect.TheVariants.{Added, Changed, Removed, Waits, Nothing}
use Rattle.nl_mirror.specs.declared.effect.Update.{Update}
use Rattle.nl_mirror.specs.declared.effect.Update.TheVariants as update
use Rattle.nl_table.specs.declared.put.Exchanged.{Exchanged}
use Rattle.nl_table.specs.declared.put.Exchanged.TheVariants.{Replaced, Missed}
use Rattle.nl_table.specs.declared.put.Exchanged.TheVariants as exchanged
use Rattle.nl_mirror.specs.Changes.{Held}
use Rattle.nl_mirror.specs.Replicated.{Replicated, is_full}
use Rattle.nl_mirror.specs.Notes.{note_in}
use Rattle.nl_mirror.specs.Hearing.{Follows}
use Rattle.nl_mirror.specs.Told.{mirror_key}

module _ {T : Type 0} where
  -- an entry is so now: at this place it stands for the one before it, or it goes last where there are fewer than the limit
  abbrev pub of_now : Option T → ℕ → ℕ → ℕ → Effect T
  of_now (Some before) place n limit = Changed place before
  of_now None place n limit = if nat_lt n limit then Added n else Nothing

  -- it is gone from this place, where it was held
  abbrev pub of_gone : Option T → ℕ → Effect T
  of_gone (Some before) place = Removed place before
  of_gone None place = Nothing

  -- what an exchange says of the same
  abbrev pub exchanged_effect : Exchanged T → Effect T
  exchanged_effect (Replaced place before) = Changed place before
  exchanged_effect (exchanged.Added place) = Added place
  exchanged_effect Missed = Nothing

  -- what a removal says of it
  abbrev pub removed_effect : Option (ℕ × T) → Effect T
  removed_effect (Some p) = Removed p.0 p.1
  removed_effect None = Nothing

  module _ (key : T → List ℕ) where
    -- the place of the entry with this key, or behind all
    abbrev pub place : Held T → T → ℕ
    place h x = position_or_len (bytes_eq (key x)) (keys_of h.entries)

    -- what a change makes of what a table holds
    abbrev pub effect : ℕ → Held T → Change T → Effect T
    effect limit h (Now x) = of_now (lookup (bytes_eq (key x)) h.entries) (place h x) (length h.entries) limit
    effect limit h (Gone x) = of_gone (lookup (bytes_eq (key x)) h.entries) (place h x)

    -- while a dump runs it waits
    abbrev pub effect_in : Replicated T → Change T → Effect T
    effect_in m c = if m.dumps then Waits else effect m.limit m.table c

-- seen through what entries stand for
abbrev pub effect_seen : {S T : Type 0} → (S → T) → Effect S → Effect T
effect_seen f (Added i) = Added i
effect_seen f (Changed i x) = Changed i (f x)
effect_seen f (Removed i x) = Removed i (f x)
effect_seen f Waits = Waits
effect_seen f Nothing = Nothing

-- the kind of table that a message makes something of, and what
abbrev pub update_effect : Update → Option (Family × Effect Item)
update_effect (update.Link e) = Some (Link, effect_seen (item_of Link) e)
update_effect (update.Addr e) = Some (Addr, effect_seen (item_of Addr) e)
update_effect (update.Route e) = Some (Route, effect_seen (item_of Route) e)
update_effect (update.Neigh e) = Some (Neigh, effect_seen (item_of Neigh) e)
update_effect (update.Rule e) = Some (Rule, effect_seen (item_of Rule) e)
update_effect update.Other = None

-- what is told beside the dump that runs
abbrev pub effect_of : Option (Change Item) → Replicated Item → Effect Item
effect_of (Some c) m = effect_in (mirror_key m.order) m c
effect_of None m = Nothing

-- a message makes this of the table of a follower: nothing where it belongs to the dump that runs
abbrev pub effect_beside : Follows → MessageVal → Effect Item
effect_beside f m = effect_of (note_in f.kind f.listening.asked m) f.replica

abbrev pub effect_while : Option Dump → Follows → MessageVal → Effect Item
effect_while None f m = effect_beside f m
effect_while (Some d) f m = if belongs d m then Nothing else effect_beside f m

abbrev pub effect_heard : Follows → MessageVal → Effect Item
effect_heard f m = effect_while f.listening.dump f m

-- a message tells a change that would wait for the dump's end, and as many wait as may
abbrev pub FindsNoRoom : Follows → MessageVal → Type 0
FindsNoRoom f m = (effect_heard f m ≡ Waits) × (is_full f.replica ≡ true)
