-- Messages without where they lie in memory.
use Rattle.std.specs.Prelude.{ℕ, ℤ, List, Option}
use Rattle.nl_attr.specs.Tree.{Items}
use Rattle.nl_route.specs.Families.{AnyHead}
use Rattle.nl_frame.specs.declared.header.Header.{Header}

-- what a message holds
pub data BodyVal : Type 0 where
  noop : List ℕ → BodyVal
  error : ℤ → Header → List ℕ → BodyVal
  done : Option ℤ → List ℕ → BodyVal
  overrun : List ℕ → BodyVal
  object : AnyHead → Items → BodyVal
  get : ℕ → List ℕ → BodyVal
  other : List ℕ → BodyVal

-- a message: the fields of its header but for the length, and its body
pub record MessageVal : Type 0 where
  pub kind : ℕ
  pub flags : ℕ
  pub seq : ℕ
  pub port : ℕ
  pub body : BodyVal
