-- What is heard, of one message.
use Rattle.nl_mirror.proofs.Common.{◌≡◌, ℕ, ◌||◌, Bool, true, false, List, [], ◌∷◌, ◌++◌, map, Option, Some, None, is_some, Result, Ok, Err, inl, inr, refl, sym, ap, subst, true≢false, OnOk, OnErr, IfErr, Family, MessageVal, Item, Change, Short, Stale, Replicated, Event, brings, ends, tells, overflows, loses, fails, beginning, beginning_with, by_doubt, Moves, MovesAll, change_seen, replica_seen, event_seen, AllButShort, shortage, key_by, mirror_key, Heard, asks, renewal, note_in, doubt_of, by_note, beside, ends_whole, lost_by, ending, within, Follows, in_items, IsHeardBy, IsHeardShort}
use Rattle.nl_dump.specs.declared.dump.Dump.{Dump}
use Rattle.nl_dump.specs.declared.dump.End.{End}
use Rattle.nl_mirror.specs.declared.short.Short.TheVariants as short
use Rattle.nl_mirror.specs.declared.stale.Stale.TheVariants.{Memory}
use Rattle.nl_mirror.proofs.Lifting.{moves_seen}

-- memory isn't room
pub no_waiting : {A : Type 0} → short.Waiting ≡ short.Memory → A
no_waiting e = absurd (true≢false (ap is_waiting e))
  where
    is_waiting : Short → Bool
    is_waiting short.Waiting = true
    is_waiting short.Memory = false

-- the same events fall short of nothing
pub all_same : {T : Type 0} (s : Short) (es : List (Event T)) → AllButShort s es es
all_same s [] = refl
all_same s (e ∷ es) = (e, es, refl, inl refl, all_same s es)

abbrev pub follows : {T : Type 0} → (T → Item) → Family → Option Dump → Bool → ℕ → Replicated T → Follows
follows item kind dump interrupted asked m = in_items item (record { kind = kind; listening = record { dump = dump; interrupted = interrupted; asked = asked }; replica = m })

module _ {T : Type 0} (item : T → Item) where
  pub all_seen : (m : Replicated T) (es : List (Event T)) (n : Replicated T) → MovesAll (key_by item m.order) m es n
      → MovesAll (mirror_key m.order) (replica_seen item m) (map (event_seen item) es) (replica_seen item n)
  all_seen m es n s = by m es n s
    where
      by : (k : Replicated T) (es : List (Event T)) (n : Replicated T) → MovesAll (key_by item m.order) k es n
          → MovesAll (mirror_key m.order) (replica_seen item k) (map (event_seen item) es) (replica_seen item n)
      by k [] n s = ap (replica_seen item) s
      by k (e ∷ es) n s = (replica_seen item s.0, moves_seen item (key_by item m.order) (mirror_key m.order) (λ x. refl) k e s.0 s.1, by s.0 es n s.2)

  doubt_seen : (d : Option Stale) → map (event_seen item) (by_doubt d) ≡ by_doubt d
  doubt_seen None = refl
  doubt_seen (Some why) = refl

  -- a doubt alone
  pub doubted : (m : Replicated T) (d : Option Stale) (n : Replicated T) → MovesAll (key_by item m.order) m (by_doubt d) n → MovesAll (mirror_key m.order) (replica_seen item m) (by_doubt d) (replica_seen item n)
  doubted m d n s = subst (λ es. MovesAll (mirror_key m.order) (replica_seen item m) es (replica_seen item n)) (doubt_seen d) (all_seen m (by_doubt d) n s)

  -- one event, and a doubt
  pub and_doubt : (m : Replicated T) (e : Event T) (d : Option Stale) (n : Replicated T) → MovesAll (key_by item m.order) m (e ∷ by_doubt d) n
      → MovesAll (mirror_key m.order) (replica_seen item m) (event_seen item e ∷ by_doubt d) (replica_seen item n)
  and_doubt m e d n s =
      subst (λ es. MovesAll (mirror_key m.order) (replica_seen item m) (event_seen item e ∷ es) (replica_seen item n)) (doubt_seen d) (all_seen m (e ∷ by_doubt d) n s)

  module _ (kind : Family) (dump : Option Dump) (interrupted : Bool) (asked : ℕ) (m n : Replicated T) where
    abbrev pub before : Follows
    before = follows item kind dump interrupted asked m

    abbrev pub after : Follows
    after = follows item kind dump interrupted asked n

    pub told_beside : {A : Type 0} (r : Result A Short) (v : MessageVal) (c : Change T) (d : Option Stale) → Some (change_seen item c) ≡ note_in kind asked v → d ≡ doubt_of kind v
        → OnOk r (MovesAll (key_by item m.order) m (tells c ∷ by_doubt d) n) → IfErr r (λ e. MovesAll (key_by item m.order) m (shortage e ∷ by_doubt d) n)
        → IsHeardBy r before (beside kind before.listening v) after
    told_beside {A} r v c d e q ok err =
        subst (λ (o : Option Stale). IsHeardBy r before (record { events = by_note (note_in kind asked v) ++ by_doubt o; after = before.listening }) after) q
        (subst (λ (o : Option (Change Item)). IsHeardBy r before (record { events = by_note o ++ by_doubt d; after = before.listening }) after) e (by r ok err))
      where
        by : (r : Result A Short) → OnOk r (MovesAll (key_by item m.order) m (tells c ∷ by_doubt d) n) → IfErr r (λ e. MovesAll (key_by item m.order) m (shortage e ∷ by_doubt d) n)
            → IsHeardBy r before (record { events = tells (change_seen item c) ∷ by_doubt d; after = before.listening }) after
        by (Ok x) ok err = (refl, refl, and_doubt m (tells c) d n ok)
        by (Err short.Memory) ok err = (_, (_, _, refl, inr (inl refl), all_same short.Memory (by_doubt d)), (refl, refl, and_doubt m (loses Memory) d n err))
        by (Err short.Waiting) ok err = (_, (_, _, refl, inr refl, all_same short.Waiting (by_doubt d)), (refl, refl, and_doubt m overflows d n err))

    -- the dump that runs ended
    pub ended : {A : Type 0} (r : Result A Short) (e : End) (now w : Bool) (d : Option Stale) → w ≡ ends_whole now e → d ≡ lost_by e
        → OnOk r (MovesAll (key_by item m.order) m (ends w ∷ by_doubt d) n) → OnErr r (MovesAll (key_by item m.order) m (fails ∷ by_doubt d) n) → IfErr r (λ e. e ≡ short.Memory)
        → IsHeardBy r before (ending e now before.listening) (follows item kind None interrupted asked n)
    ended {A} r e now w d p q ok err memory =
        subst (λ (b : Bool). IsHeardBy r before (record { events = ends b ∷ by_doubt (lost_by e); after = record before.listening { dump = None } }) (follows item kind None interrupted asked n)) p
        (subst (λ (o : Option Stale). IsHeardBy r before (record { events = ends w ∷ by_doubt o; after = record before.listening { dump = None } }) (follows item kind None interrupted asked n)) q (by r ok err memory))
      where
        by : (r : Result A Short) → OnOk r (MovesAll (key_by item m.order) m (ends w ∷ by_doubt d) n) → OnErr r (MovesAll (key_by item m.order) m (fails ∷ by_doubt d) n) → IfErr r (λ e. e ≡ short.Memory)
            → IsHeardBy r before (record { events = ends w ∷ by_doubt d; after = record before.listening { dump = None } }) (follows item kind None interrupted asked n)
        by (Ok x) ok err memory = (refl, refl, and_doubt m (ends w) d n ok)
        by (Err short.Memory) ok err memory = (_, (_, _, refl, inr (inl refl), all_same short.Memory (by_doubt d)), (refl, refl, and_doubt m fails d n err))
        by (Err short.Waiting) ok err memory = no_waiting memory

    -- it brings an item
    pub within_item : {A : Type 0} (r : Result A Short) (now : Bool) (x : T) (e : Option End) (i : Option Item) (marked : Bool) → now ≡ (interrupted || marked) → i ≡ Some (item x) → e ≡ None
        → OnOk r (Moves (key_by item m.order) m (brings x) n) → OnErr r (Moves (key_by item m.order) m (loses Memory) n) → IfErr r (λ e. e ≡ short.Memory)
        → IsHeardBy r before (within e i marked before.listening) (follows item kind dump now asked n)
    within_item {A} r now x e i marked p q s ok err memory =
        subst (λ (o : Option End). IsHeardBy r before (within o i marked before.listening) (follows item kind dump now asked n)) (sym s)
        (subst (λ (o : Option Item). IsHeardBy r before (within None o marked before.listening) (follows item kind dump now asked n)) (sym q)
        (subst (λ (b : Bool). IsHeardBy r before (within None (Some (item x)) marked before.listening) (follows item kind dump b asked n)) (sym p) (by r ok err memory)))
      where
        seen : (e : Event T) → Moves (key_by item m.order) m e n → MovesAll (mirror_key m.order) (replica_seen item m) (event_seen item e ∷ []) (replica_seen item n)
        seen e s = all_seen m (e ∷ []) n (n, s, refl)

        by : (r : Result A Short) → OnOk r (Moves (key_by item m.order) m (brings x) n) → OnErr r (Moves (key_by item m.order) m (loses Memory) n) → IfErr r (λ e. e ≡ short.Memory)
            → IsHeardBy r before (within None (Some (item x)) marked before.listening) (follows item kind dump (interrupted || marked) asked n)
        by (Ok x) ok err memory = (refl, refl, seen (brings _) ok)
        by (Err short.Memory) ok err memory = (_, (_, _, refl, inr (inl refl), refl), (refl, refl, seen (loses Memory) err))
        by (Err short.Waiting) ok err memory = no_waiting memory

    -- a dump begins
    pub begun : {A : Type 0} (r : Result A Short) (d : Dump) (loss : Option Stale) → m.dumps ≡ is_some dump → loss ≡ renewal asked d.family
        → OnOk r (MovesAll (key_by item m.order) m (beginning m.dumps loss) n) → OnErr r ((m.dumps ≡ true) × MovesAll (key_by item m.order) m (fails ∷ beginning_with loss) n)
        → IfErr r (λ e. e ≡ short.Memory) → IsHeardBy r before (asks before.listening d) (follows item kind (Some d) false d.family n)
    begun {A} r d loss same lost ok err memory =
        subst (λ (o : Option Stale). IsHeardBy r before (heard (is_some dump) o) last) lost
        (subst (λ (b : Bool). IsHeardBy r before (heard b loss) last) same (by r ok err memory))
      where
        last : Follows
        last = follows item kind (Some d) false d.family n

        heard : Bool → Option Stale → Heard
        heard b o = record { events = beginning b o; after = record { dump = Some d; interrupted = false; asked = d.family } }

        loss_seen : (o : Option Stale) → map (event_seen item) (beginning_with o) ≡ beginning_with o
        loss_seen None = refl
        loss_seen (Some why) = refl

        seen : (b : Bool) → map (event_seen item) (beginning b loss) ≡ beginning b loss
        seen true = ap (λ es. ends false ∷ es) (loss_seen loss)
        seen false = loss_seen loss

        by : (r : Result A Short) → OnOk r (MovesAll (key_by item m.order) m (beginning m.dumps loss) n) → OnErr r ((m.dumps ≡ true) × MovesAll (key_by item m.order) m (fails ∷ beginning_with loss) n)
            → IfErr r (λ e. e ≡ short.Memory) → IsHeardBy r before (heard m.dumps loss) last
        by (Ok x) ok err memory = (refl, refl, subst (λ es. MovesAll (mirror_key m.order) (replica_seen item m) es (replica_seen item n)) (seen m.dumps) (all_seen m (beginning m.dumps loss) n ok))
        by (Err short.Waiting) ok err memory = no_waiting memory
        by (Err short.Memory) ok err memory =
            subst (λ (b : Bool). IsHeardShort short.Memory before (heard b loss) last) (sym err.0) (
              _,
              (_, _, refl, inr (inl refl), all_same short.Memory (beginning_with loss)),
              (refl, refl, subst (λ es. MovesAll (mirror_key m.order) (replica_seen item m) (fails ∷ es) (replica_seen item n)) (loss_seen loss) (all_seen m (fails ∷ beginning_with loss) n err.1)),
            )
