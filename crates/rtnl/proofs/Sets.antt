-- The lemmas that the goals of several functions want, by the names under which their attributes bring them.
use Rattle.std.proofs.Common.{append_assoc, append-nil}
use Rattle.std.proofs.Math.ListN.{drop_of_length-le}
use Rattle.rtnl.proofs.Json.{more, more_fields, no_field, no_more, one_field, tokens_array, tokens_object}
use Rattle.rtnl.proofs.Unescaped.{short_name}
use Rattle.std.proofs.KnownBytes.{Consumes-trans}
use Rattle.rtnl.proofs.KnownBytes.{appends_more, appends_none, prefix_of, whole}
use Rattle.rtnl.proofs.Trees.{inline_list, inline_hops}

-- texts one after another
pub ruleset joins = append_assoc

-- the fields of an object, one after another
pub ruleset field = more_fields

-- one field of an object
pub ruleset one = (more, one_field)

-- the names of attributes are short
pub ruleset short = short_name

-- what stands of a container on its attribute's line
pub ruleset inline = (inline_list, inline_hops)

-- what a source gave
pub ruleset given = Consumes-trans

-- what a sink was given
pub ruleset gives = (appends_more, appends_none, prefix_of, whole)

-- an object or an array, a token after another
pub ruleset whole_value = (more, one_field, tokens_object, tokens_array, append_assoc, append-nil)

-- values of which none is left
pub ruleset all_written = (drop_of_length-le, no_more)

-- fields of which none is left
pub ruleset no_field_left = (drop_of_length-le, no_field)
