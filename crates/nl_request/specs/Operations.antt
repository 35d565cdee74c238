-- What a request asks for: its message type, and its flags of netlink(7).
use Rattle.std.specs.Prelude.{◌+◌, ℕ}
use Rattle.nl_route.specs.declared.family.Family.{Family}
use Rattle.nl_route.specs.declared.family.Verb.TheVariants.{New, Del}
use Rattle.nl_route.specs.Families as families
use Rattle.nl_request.specs.declared.operation.Operation.{Operation}
use Rattle.nl_request.specs.declared.operation.Operation.TheVariants.{Add, Replace, Change, Append, Prepend, Set, Delete}

-- it is a request, and is answered
abbrev pub NLM_F_REQUEST : ℕ
NLM_F_REQUEST = 1

abbrev pub NLM_F_ACK : ℕ
NLM_F_ACK = 4

-- what is there is replaced; is refused; what isn't there is made; at the end of those that are
abbrev pub NLM_F_REPLACE : ℕ
NLM_F_REPLACE = 256

abbrev pub NLM_F_EXCL : ℕ
NLM_F_EXCL = 512

abbrev pub NLM_F_CREATE : ℕ
NLM_F_CREATE = 1024

abbrev pub NLM_F_APPEND : ℕ
NLM_F_APPEND = 2048

-- the flags of an operation but for the first two
abbrev pub further_flags : Operation → ℕ
further_flags Add = NLM_F_CREATE + NLM_F_EXCL
further_flags Replace = NLM_F_CREATE + NLM_F_REPLACE
further_flags Change = NLM_F_REPLACE
further_flags Append = NLM_F_CREATE + NLM_F_APPEND
further_flags Prepend = NLM_F_CREATE
further_flags Set = 0
further_flags Delete = 0

-- the flags of an operation
abbrev pub flags_of : Operation → ℕ
flags_of op = NLM_F_REQUEST + NLM_F_ACK + further_flags op

-- its message type, of a family: DEL where something is deleted, else NEW
abbrev pub type_of : Operation → Family → ℕ
type_of Delete g = families.type_of g Del
type_of op g = families.type_of g New
