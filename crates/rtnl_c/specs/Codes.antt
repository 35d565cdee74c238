-- The numbers of the refusals that C is answered beside those of the libraries.
use Rattle.std.specs.Prelude.{ℕ}

-- the bytes are above the longest region
abbrev pub too_large : ℕ
too_large = 6

-- a session or a mirror is made already
abbrev pub busy : ℕ
busy = 9

-- a dump of a mirror had the sequence number, or a later one
abbrev pub used_seq : ℕ
used_seq = 10

-- a growth was refused
abbrev pub no_memory : ℕ
no_memory = 13

-- the buffer has less room than the answer needs
abbrev pub no_room : ℕ
no_room = 17

-- what is kept is no stream
abbrev pub no_stream : ℕ
no_stream = 18

-- a message type is of no family
abbrev pub no_kind : ℕ
no_kind = 19

-- there is no session
abbrev pub no_session : ℕ
no_session = 20

-- what is kept is no builder
abbrev pub no_builder : ℕ
no_builder = 23

-- there is no mirror
abbrev pub no_mirror : ℕ
no_mirror = 25

-- nothing stands there
abbrev pub nothing_there : ℕ
nothing_there = 255
