-- What bytes are, one after another: their name, how they are read, and how deep they lie.
use Rattle.std.specs.Prelude.{◌+◌, ◌*◌, ℕ, List, map, codes, Bool, true, false}
use Rattle.rtnl.specs.declared.bytes.notation.Notation.{Notation}
use Rattle.rtnl.specs.declared.bytes.notation.Notation.TheVariants.{Blank}
use Rattle.rtnl.specs.declared.bytes.parts.Depth.{Depth}
use Rattle.rtnl.specs.declared.bytes.parts.Depth.TheVariants.{Header, Body, Level}
use Rattle.rtnl.specs.declared.bytes.parts.Extent.{Extent}
use Rattle.rtnl.specs.declared.bytes.parts.Extent.TheVariants.{Bytes, UpTo}
use Rattle.rtnl.specs.Structs.{Field}

-- what bytes are: how many levels of attributes they lie in, how many blanks stand before their name, the name, how they are read, and whether they are padding or were not read
pub record Label : Type 0 where
  pub level : ℕ
  pub indent : ℕ
  pub name : List ℕ
  pub notation : Notation
  pub is_aside : Bool

-- what the next bytes are, so many or up to a place
pub record Mark : Type 0 where
  pub extent : Extent
  pub label : Label

-- how many levels of attributes bytes lie in
abbrev pub level_of : Depth → ℕ
level_of Header = 0
level_of Body = 0
level_of (Level n) = n

-- how many blanks stand before their name
abbrev pub indent_of : Depth → ℕ
indent_of Header = 0
indent_of Body = 2
indent_of (Level n) = 2 * n + 4

-- bytes of this name
abbrev pub named : Depth → Extent → List ℕ → Notation → Mark
named depth extent name notation = record {
  extent = extent;
  label = record { level = level_of depth; indent = indent_of depth; name = name; notation = notation; is_aside = false };
}

-- padding of this extent
abbrev pub padding_of : Depth → Extent → Mark
padding_of depth extent = record {
  extent = extent;
  label = record { level = level_of depth; indent = indent_of depth; name = codes "padding"; notation = Blank; is_aside = true };
}

-- padding up to a place
abbrev pub padding : Depth → ℕ → Mark
padding depth end = padding_of depth (UpTo end)

-- so many bytes of padding
abbrev pub gap : Depth → ℕ → Mark
gap depth count = padding_of depth (Bytes count)

-- the fields of a struct
abbrev pub fields : Depth → List Field → List Mark
fields depth = map (λ f. named depth (Bytes f.1) f.0 f.2)
