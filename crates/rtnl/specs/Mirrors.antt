-- A recording that keeps a mirror: what is told of its lines one after another, and behind them.
use Rattle.std.specs.Prelude.{◌≡◌, ◌⊎◌, ℕ, List, Option, Result, Ok, Err, IfOk}
use Rattle.rtnl.specs.Followed.{FollowsAll, HeardLine}
use Rattle.rtnl.specs.Mirroring.{IsUnheard, Passes, MirrorReport, end_text, is_accepted, is_current, never_ends, step_in, step_text}
use Rattle.rtnl.specs.Runs.{Writes}
use Rattle.rtnl.specs.Streams.{Read}
use Rattle.rtnl.specs.Tabled.{Report}
use Rattle.rtnl.specs.declared.error.RunError.{RunError}
use Rattle.rtnl.specs.declared.error.RunError.TheVariants.{Memory}
use Rattle.rtnl.specs.declared.runs.mirror.MirrorFollowed.{MirrorFollowed}
use Rattle.rtnl.specs.declared.runs.mirrored.MirrorSettings.{MirrorSettings}
use Rattle.rtnl.specs.declared.runs.mirrored.MirrorSoFar.{MirrorSoFar}
use Rattle.rtnl.specs.declared.runs.followed.Followed.{Followed}

-- what is said of a recording of which this was counted, and this kept
abbrev pub followed : MirrorSettings → MirrorSoFar → Followed → MirrorFollowed
followed s kept counts = record { counts = record counts { datagrams = kept.datagrams }; unbegun = kept.unbegun; current = is_current s.kind kept.mirror }

module _ {S W B : Type 0} (left : S → Option (List ℕ)) (is_ended : S → Type 0) (failed_reads : S → ℕ) (reads_of : S → Option (List Read))
    (taken : W → Option (List ℕ)) (is_stalled : W → Type 0) (stalls failed_writes : W → ℕ) (heard : B → Option (List HeardLine)) (is_over : B → Type 0)
    (t : Report) (r : MirrorReport) (s : MirrorSettings) (from_old from_new : S) (to_old to_new : W) (g h : B) where
  -- what is told of the lines, from one state of the mirror to another, and what is written by then
  abbrev pub Told : MirrorSoFar → MirrorSoFar → W → Result Followed RunError → Type 0
  Told a b w =
      FollowsAll (step_in s.family) (Passes s.limits) (λ number. step_text t r s.limits.shape.order s) is_accepted never_ends heard is_over
      left is_ended failed_reads reads_of taken is_stalled stalls failed_writes a b from_old from_new to_old w g h

  -- all lines were followed, and behind that the tables were written, where changes were not
  pub record IsFollowed (a b : MirrorSoFar) (result : Result MirrorFollowed RunError) : Type 0 where
    pub late : W
    pub counts : Followed
    pub told : Told a b late (Ok counts)
    pub ending : Writes taken is_stalled stalls failed_writes (end_text t r s.limits.shape.order s b.mirror) late to_new result
    pub answer : IfOk result (λ m. m ≡ followed s b counts)

  -- how a mirror is kept: the following of the lines failed; or they were followed
  abbrev pub Keeps : MirrorSoFar → MirrorSoFar → Result MirrorFollowed RunError → Type 0
  Keeps a b result = ((e : RunError) × (result ≡ Err e) × Told a b to_new (Err e)) ⊎ IsFollowed a b result

  -- there was no memory for the mirror, and nothing was done
  pub record NotBegun (result : Result MirrorFollowed RunError) : Type 0 where
    pub memory : result ≡ Err Memory
    pub unread : from_new ≡ from_old
    pub unwritten : to_new ≡ to_old
    pub unheard : h ≡ g

  -- or one is kept that heard nothing
  pub record IsKept (result : Result MirrorFollowed RunError) : Type 0 where
    pub begun : MirrorSoFar
    pub last : MirrorSoFar
    pub start : IsUnheard s begun
    pub keeps : Keeps begun last result

  -- how the keeping of a new mirror ends
  abbrev pub FollowsMirror : Result MirrorFollowed RunError → Type 0
  FollowsMirror result = NotBegun result ⊎ IsKept result
