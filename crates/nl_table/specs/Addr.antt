-- Which fields make the key of an address: this project's own choice.
use Rattle.std.specs.Prelude.{List, [], ◌∷◌}
use Rattle.nl_attr.specs.Tree.{Items}
use Rattle.nl_route.specs.Addr.{IFA_ADDRESS, IFA_LOCAL}
use Rattle.nl_route.specs.declared.ifaddrmsg.AddrHead.{AddrHead}
use Rattle.nl_route.specs.Views.{bytes_view}
use Rattle.nl_table.specs.Keys.{KeyField, byte, number, bytes}

-- an address: ifa_family, ifa_index, ifa_prefixlen, IFA_ADDRESS, IFA_LOCAL
abbrev pub addr_key_fields : AddrHead → Items → List KeyField
addr_key_fields h is = byte h.family ∷ number 4 h.index ∷ byte h.prefixlen ∷ bytes (bytes_view IFA_ADDRESS is) ∷ bytes (bytes_view IFA_LOCAL is) ∷ []
