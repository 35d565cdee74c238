-- Each table of a mirror keeps its byte order, whatever is heard.
use Rattle.std.proofs.Common.{◌≡◌, ◌∙◌, ◌&&◌, not, Bool, true, false, cond, List, [], ◌∷◌, ◌++◌, ℕ, None, Result, Ok, Err, refl, ap}
use Rattle.nl_route.specs.declared.family.Family.{Family}
use Rattle.nl_frame.specs.Message.{MessageVal}
use Rattle.nl_dump.specs.Items.{Item}
use Rattle.nl_mirror.specs.declared.short.Short.{Short}
use Rattle.nl_mirror.specs.Changes.{tell}
use Rattle.nl_mirror.specs.Five.{EachHearsBy, Mirrored, follower_at}
use Rattle.nl_mirror.specs.Hearing.{Follows, IsHeardAs, IsHeardBy}
use Rattle.nl_mirror.specs.Notes.{Heard, hears}
use Rattle.nl_mirror.specs.Past.{Event, Moves, MovesAll, begins, brings, ends, fails, loses, overflows, tells}
use Rattle.nl_mirror.specs.Replicated.{Replicated, settled}
use Rattle.nl_mirror.specs.Told.{mirror_key}

module _ (key : Item → List ℕ) where
  moves_order : (m : Replicated Item) (e : Event Item) (n : Replicated Item) → Moves key m e n → n.order ≡ m.order
  moves_order m begins n s = ap (λ (x : Replicated Item). x.order) s.1
  moves_order m (brings x) n s = ap (λ (x : Replicated Item). x.order) s.1
  moves_order m (ends whole) n s = ap (λ (x : Replicated Item). x.order) s.1 ∙ by (whole && not m.lost)
    where
      by : (b : Bool) → (settled key (cond b (record m { table = m.coming; why = None }) m)).order ≡ m.order
      by true = refl
      by false = refl
  moves_order m (tells c) n s = ap (λ (x : Replicated Item). x.order) s.1 ∙ by m.dumps
    where
      by : (b : Bool) → (cond b (record m { since = m.since ++ c ∷ [] }) (record m { table = tell key m.limit m.table c })).order ≡ m.order
      by true = refl
      by false = refl
  moves_order m overflows n s = ap (λ (x : Replicated Item). x.order) s.1
  moves_order m (loses why) n s = ap (λ (x : Replicated Item). x.order) s
  moves_order m fails n s = ap (λ (x : Replicated Item). x.order) s.1

  moves_all_order : (es : List (Event Item)) (m n : Replicated Item) → MovesAll key m es n → n.order ≡ m.order
  moves_all_order [] m n s = ap (λ (x : Replicated Item). x.order) s
  moves_all_order (e ∷ es) m n s = moves_all_order es s.0 n s.2 ∙ moves_order m e s.0 s.1

heard_as_order : (f : Follows) (h : Heard) (g : Follows) → IsHeardAs f h g → g.replica.order ≡ f.replica.order
heard_as_order f h g s = moves_all_order (mirror_key f.replica.order) h.events f.replica g.replica s.2

heard_order : {A : Type 0} (r : Result A Short) (f : Follows) (h : Heard) (g : Follows) → IsHeardBy r f h g → g.replica.order ≡ f.replica.order
heard_order (Ok x) f h g s = heard_as_order f h g s
heard_order (Err e) f h g s = heard_as_order f (record h { events = s.0 }) g s.2

pub each_order : {A : Type 0} (r : Result A Short) (f : Mirrored) (m : MessageVal) (g : Mirrored) → EachHearsBy r f m g → (k : Family) → (follower_at k g).replica.order ≡ (follower_at k f).replica.order
each_order r f m g s k = heard_order r (follower_at k f) (hears (follower_at k f).kind (follower_at k f).listening m) (follower_at k g) (s.1 k)
