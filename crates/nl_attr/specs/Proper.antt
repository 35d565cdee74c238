-- Which attribute lists can be written (`IsProper`), and the error for any other (`IsRefused`).
use Rattle.std.specs.Prelude.{◌<◌, ◌≤◌, ◌+◌, ◌⊎◌, ℕ, FitsSigned}
use Rattle.std.specs.Int.{w32}
use Rattle.nl_attr.specs.declared.fault.WriteError.{WriteError}
use Rattle.nl_attr.specs.declared.fault.WriteError.TheVariants.{Mismatch, TooDeep, TooLong, Memory}
use Rattle.nl_attr.specs.Fixed.{LONGEST_REGION, LONGEST_ITEM, NUMBERS}
use Rattle.nl_attr.specs.declared.tree.Ctx.{Ctx}
use Rattle.nl_attr.specs.declared.tree.Ctx.TheVariants.{Route}
use Rattle.nl_attr.specs.declared.tree.Content.{Content}
use Rattle.nl_attr.specs.declared.tree.Content.TheVariants as content
use Rattle.nl_attr.specs.Tree.{Val, bytes, list, hops, Items, no_items, item, HopItems, no_hops, hop, holds_of}
use Rattle.nl_attr.specs.Written.{val_len, items_len, hops_len}

abbrev mutual
  -- a value that isn't what its attribute holds, or that has such a value inside
  pub IsMismatchedVal : Val → Content → Type 0
  IsMismatchedVal (bytes bs) content.Bytes = ⊥
  IsMismatchedVal (list is) (content.List c) = IsMismatched is c
  IsMismatchedVal (hops hs) content.Hops = IsMismatchedHops hs
  IsMismatchedVal v c = Unit {0}

  -- some type is 16,384 or more, or some value isn't what its attribute holds
  pub IsMismatched : Items → Ctx → Type 0
  IsMismatched no_items ctx = ⊥
  IsMismatched (item n flags v more) ctx = (NUMBERS ≤ n) ⊎ (IsMismatchedVal v (holds_of ctx n flags) ⊎ IsMismatched more ctx)

  pub IsMismatchedHops : HopItems → Type 0
  IsMismatchedHops no_hops = ⊥
  IsMismatchedHops (hop flags count index attrs more) = IsMismatched attrs Route ⊎ IsMismatchedHops more

abbrev mutual
  -- a value that opens a level beyond the depth limit D, of an attribute at level l
  pub IsDeepVal : Val → ℕ → ℕ → Type 0
  IsDeepVal (bytes bs) l D = ⊥
  IsDeepVal (list is) l D = (D < l + 1) ⊎ IsDeep is (l + 1) D
  IsDeepVal (hops hs) l D = (D < l + 2) ⊎ IsDeepHops hs (l + 1) D

  -- some nested attribute of a list at level l opens a level beyond the depth limit D
  pub IsDeep : Items → ℕ → ℕ → Type 0
  IsDeep no_items l D = ⊥
  IsDeep (item n flags v more) l D = IsDeepVal v l D ⊎ IsDeep more l D

  pub IsDeepHops : HopItems → ℕ → ℕ → Type 0
  IsDeepHops no_hops l D = ⊥
  IsDeepHops (hop flags count index attrs more) l D = IsDeep attrs (l + 1) D ⊎ IsDeepHops more l D

-- a region of so many bytes is too long
abbrev pub IsLongRegion : ℕ → Type 0
IsLongRegion len = LONGEST_REGION < len

-- an item of so many bytes is too long for its length field
abbrev pub IsLongItem : ℕ → Type 0
IsLongItem len = LONGEST_ITEM < len

abbrev mutual
  -- something in a value is too long
  pub HasLongVal : Val → Type 0
  HasLongVal (bytes bs) = ⊥
  HasLongVal (list is) = IsLongRegion (items_len is) ⊎ HasLong is
  HasLongVal (hops hs) = IsLongRegion (hops_len hs) ⊎ HasLongHops hs

  -- some attribute, next hop or inner region is too long
  pub HasLong : Items → Type 0
  HasLong no_items = ⊥
  HasLong (item n flags v more) = IsLongItem (4 + val_len v) ⊎ (HasLongVal v ⊎ HasLong more)

  pub HasLongHops : HopItems → Type 0
  HasLongHops no_hops = ⊥
  HasLongHops (hop flags count index attrs more) = IsLongItem (8 + items_len attrs) ⊎ ((IsLongRegion (items_len attrs) ⊎ HasLong attrs) ⊎ HasLongHops more)

-- the list, or something in it, is too long
abbrev pub IsLong : Items → Type 0
IsLong is = IsLongRegion (items_len is) ⊎ HasLong is

-- a list that can be written, at level l under the depth limit D
pub record IsProper (is : Items) (ctx : Ctx) (l D : ℕ) : Type 0 where
  pub matched : IsMismatched is ctx → ⊥
  pub shallow : IsDeep is l D → ⊥
  pub short : IsLong is → ⊥

-- the errors of a writing, in their order: each applies where none before it does, and Memory
-- where none of the others does
abbrev pub Refusal : Type 0 → Type 0 → Type 0 → WriteError → Type 0
Refusal Mismatched Deep Long Mismatch = Mismatched
Refusal Mismatched Deep Long TooDeep = (Mismatched → ⊥) × Deep
Refusal Mismatched Deep Long TooLong = (Mismatched → ⊥) × (Deep → ⊥) × Long
Refusal Mismatched Deep Long Memory = (Mismatched → ⊥) × (Deep → ⊥) × (Long → ⊥)

-- the error of writing a list under the depth limit D
abbrev pub IsRefused : Items → Ctx → ℕ → WriteError → Type 0
IsRefused is ctx D = Refusal (IsMismatched is ctx) (IsDeep is 0 D) (IsLong is)

abbrev mutual
  -- each index of an interface in a value has 32 bits
  pub IsRangedVal : Val → Type 0
  IsRangedVal (bytes bs) = Unit {0}
  IsRangedVal (list is) = IsRanged is
  IsRangedVal (hops hs) = IsRangedHops hs

  -- each index of an interface has 32 bits, as those of values in memory have
  pub IsRanged : Items → Type 0
  IsRanged no_items = Unit {0}
  IsRanged (item n flags v more) = IsRangedVal v × IsRanged more

  pub IsRangedHops : HopItems → Type 0
  IsRangedHops no_hops = Unit {0}
  IsRangedHops (hop flags count index attrs more) = FitsSigned w32 index × IsRanged attrs × IsRangedHops more

abbrev mutual
  -- each number and each length in a value fits its field
  pub IsSizedVal : Val → Type 0
  IsSizedVal (bytes bs) = Unit {0}
  IsSizedVal (list is) = IsSized is
  IsSizedVal (hops hs) = IsSizedHops hs

  -- each type has 14 bits, and each length 16, so that they fit their fields
  pub IsSized : Items → Type 0
  IsSized no_items = Unit {0}
  IsSized (item n flags v more) = (n < NUMBERS) × (4 + val_len v ≤ LONGEST_ITEM) × IsSizedVal v × IsSized more

  pub IsSizedHops : HopItems → Type 0
  IsSizedHops no_hops = Unit {0}
  IsSizedHops (hop flags count index attrs more) = (8 + items_len attrs ≤ LONGEST_ITEM) × IsSized attrs × IsSizedHops more
