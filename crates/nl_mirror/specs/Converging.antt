-- Why a mirror ends right, wherever in a dump a notification came.
use Rattle.std.specs.Prelude.{◌≡◌, ℕ, if◌then◌else◌, List, [], ◌∷◌, ◌++◌, map, take, Option, Some, None, bytes_eq}
use Rattle.std.specs.Map.{lookup}
use Rattle.nl_mirror.specs.declared.change.Change.{Change}
use Rattle.nl_mirror.specs.declared.change.Change.TheVariants.{Now, Gone}
use Rattle.nl_mirror.specs.Changes.{nothing, tell_all}

module _ {T : Type 0} (key : T → List ℕ) where
  -- what was last told of a key, or else what was known of it before
  abbrev pub last_told : List ℕ → List (Change T) → Option T → Option T
  last_told q [] before = before
  last_told q (Now x ∷ cs) before = last_told q cs (if bytes_eq q (key x) then Some x else before)
  last_told q (Gone x ∷ cs) before = last_told q cs (if bytes_eq q (key x) then None else before)

  -- the items of a dump of a kernel whose entries were `start` when it began, and changed so since: of each key the dump says what it was at some moment since, of
  -- each at a moment of its own
  abbrev pub IsDumpAmid : (List ℕ → Option T) → List (Change T) → List T → Type 0
  IsDumpAmid start cs items = (q : List ℕ) → (n : ℕ) × (last_told q (map Now items) None ≡ last_told q (take n cs) (start q))

  -- what a mirror holds of such a dump and all changes that were told since it began, in their order: of each key what the kernel has at the end
  abbrev pub Converges : ℕ → Type 0
  Converges limit =
      (start : List ℕ → Option T) (cs : List (Change T)) (items : List T) → IsDumpAmid start cs items
      → (tell_all key limit nothing (map Now items ++ cs)).missed ≡ 0
      → (q : List ℕ) → lookup (bytes_eq q) (tell_all key limit nothing (map Now items ++ cs)).entries ≡ last_told q cs (start q)
