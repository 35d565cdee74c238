-- The bytes of a field in those of its struct.
use Rattle.std.specs.Prelude.{ℕ, ◌+◌, ◌==◌, nat_lt, if◌then◌else◌, List, length, slice_range, Option, Some, None}

-- where a field ends that has this size, or all bytes from its place on
abbrev pub end_of : ℕ → ℕ → List ℕ → ℕ
end_of place size bs = if size == 0 then length bs else place + size

-- how many bytes a struct needs, so that it has the field
abbrev pub needed_of : ℕ → ℕ → ℕ
needed_of place size = if size == 0 then place else place + size

-- the bytes of a field of this place and size; none where the struct has fewer
abbrev pub part_in : ℕ → ℕ → List ℕ → Option (List ℕ)
part_in place size bs = if nat_lt (length bs) (needed_of place size) then None else Some (slice_range bs place (end_of place size bs))
