-- What finds no room isn't taken.
use Rattle.nl_mirror.proofs.Common.{◌≡◌, Bool, true, false, cond, List, ◌++◌, Option, Some, None, Ok, Err, refl, sym, ap, ◌∙◌, true≢false, MessageVal, belongs, item_in, end_in, Item, Change, Event, Listening, Heard, note_in, by_note, beside, marks, within, hears, hears_while, FindsNoRoom, effect_of, effect_beside, effect_while, Follows, IsHeardAs, FullIsSaid, follower_at}
use Rattle.nl_dump.specs.declared.dump.Dump.{Dump}
use Rattle.nl_mirror.specs.declared.effect.Effect.{Effect}
use Rattle.nl_mirror.specs.declared.effect.Effect.TheVariants.{Added, Changed, Removed, Waits, Nothing}
use Rattle.nl_mirror.specs.declared.short.Short.TheVariants as short

-- what waits
abbrev waits : {T : Type 0} → Effect T → Bool
waits Waits = true
waits (Added i) = false
waits (Changed i x) = false
waits (Removed i x) = false
waits Nothing = false

not_taken : (f g : Follows) (m : MessageVal) → FindsNoRoom f m → IsHeardAs f (hears f.kind f.listening m) g → ⊥
not_taken f g m full s = by f.listening.dump full.0 s
  where
    note : (o : Option (Change Item)) (es : List (Event Item)) (after : Listening) → effect_of o f.replica ≡ Waits → IsHeardAs f (record { events = by_note o ++ es; after = after }) g → ⊥
    note None es after e s = true≢false (sym (ap waits e))
    note (Some c) es after e s = true≢false (sym full.1 ∙ s.2.1.0)

    told : effect_beside f m ≡ Waits → IsHeardAs f (beside f.kind f.listening m) g → ⊥
    told e s = note (note_in f.kind f.listening.asked m) _ _ e s

    part : (b : Bool) (h : Heard) → cond b Nothing (effect_beside f m) ≡ Waits → IsHeardAs f (cond b h (beside f.kind f.listening m)) g → ⊥
    part true h e s = true≢false (sym (ap waits e))
    part false h e s = told e s

    by : (d : Option Dump) → effect_while d f m ≡ Waits → IsHeardAs f (hears_while d f.kind f.listening m) g → ⊥
    by None e s = told e s
    by (Some d) e s = part (belongs d m) (within (end_in d m) (item_in d m) (marks m) f.listening) e s

pub full_is_said : FullIsSaid
full_is_said (Ok u) f g m k s own full = absurd (not_taken (follower_at k f) (follower_at k g) m full (s.1 k))
full_is_said (Err short.Memory) f g m k s own full = absurd (s.2 k own full)
full_is_said (Err short.Waiting) f g m k s own full = refl
