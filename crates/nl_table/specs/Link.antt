-- Which fields make the key of a link: this project's own choice.
use Rattle.std.specs.Prelude.{List, [], ◌∷◌}
use Rattle.std.specs.Int.{w32, cast_unsigned}
use Rattle.nl_route.specs.declared.ifinfomsg.LinkHead.{LinkHead}
use Rattle.nl_table.specs.Keys.{KeyField, number}

-- a link: ifi_index
abbrev pub link_key_fields : LinkHead → List KeyField
link_key_fields h = number 4 (cast_unsigned w32 h.index) ∷ []
