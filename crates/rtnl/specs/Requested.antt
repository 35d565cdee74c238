-- The line of a request.
use Rattle.std.specs.Prelude.{ℕ, List, codes}
use Rattle.nl_attr.specs.declared.order.Order.{Order}
use Rattle.nl_dump.specs.declared.dump.Dump.{Dump}
use Rattle.nl_dump.specs.Request.{request_of}
use Rattle.rtnl.specs.Text.{◌⨟◌, hex_text}

-- bytes in hexadecimal
unfoldable pub bytes_alone : List ℕ → List ℕ
bytes_alone bytes = hex_text bytes ⨟ codes "\n"

-- the bytes of the request that begins a dump
abbrev pub requested : Order → Dump → List ℕ
requested o d = bytes_alone (request_of o d)
