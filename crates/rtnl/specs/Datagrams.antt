-- The lines that are printed of a datagram beside its messages.
use Rattle.std.specs.Prelude.{ℕ, List, codes}
use Rattle.std.specs.Fmt.{decimal}
use Rattle.nl_attr.specs.declared.fault.Reason.{Reason}
use Rattle.nl_attr.specs.declared.fault.Reason.TheVariants.{Cut, BadLength, ShortBody, TooLong, TooDeep}
use Rattle.rtnl.specs.Text.{◌⨟◌}

-- the datagram of this number has so many bytes
unfoldable pub datagram_line : ℕ → ℕ → List ℕ
datagram_line number size = codes "datagram " ⨟ decimal number ⨟ codes " bytes " ⨟ decimal size ⨟ codes "\n"

-- the name of a broken rule
unfoldable pub reason_text : Reason → List ℕ
reason_text Cut = codes "cut"
reason_text BadLength = codes "bad length"
reason_text ShortBody = codes "short body"
reason_text TooLong = codes "too long"
reason_text TooDeep = codes "too deep"

-- a datagram was refused at its first fault
unfoldable pub refused_line : Reason → ℕ → List ℕ
refused_line reason place = codes "refused " ⨟ reason_text reason ⨟ codes " at " ⨟ decimal place ⨟ codes "\n"

-- a datagram was refused for its size
unfoldable pub too_large_line : List ℕ
too_large_line = codes "refused too large\n"
