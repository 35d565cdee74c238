-- The numbers of the refusals of building a datagram.
use Rattle.std.specs.Prelude.{ℕ}
use Rattle.nl_frame.specs.declared.building.refusal.BuildError.{BuildError}
use Rattle.nl_frame.specs.declared.building.refusal.BuildError.TheVariants.{Mismatch, TooDeep, TooLong, TooLarge, NoRoom, NothingOpen, StillOpen}

abbrev pub build_code : BuildError → ℕ
build_code Mismatch = 11
build_code TooDeep = 5
build_code TooLong = 4
build_code TooLarge = 6
build_code NoRoom = 17
build_code NothingOpen = 21
build_code StillOpen = 22
