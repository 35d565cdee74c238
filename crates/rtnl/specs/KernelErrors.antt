-- What the kernel says of an error: where it refuses a request, and where it ends a dump by one.
use Rattle.std.specs.Prelude.{ℕ, ℤ, pos, int_lt, unsigned_abs, ◌==◌, ◌&&◌, Bool, if◌then◌else◌, List, [], length, drop, Option, Some, None}
use Rattle.std.specs.Ordering.{int_eq}
use Rattle.nl_attr.specs.Fixed.{STANDARD_LEVELS}
use Rattle.nl_attr.specs.Numbers.{aligned, number_of}
use Rattle.nl_attr.specs.declared.order.Order.{Order}
use Rattle.nl_frame.specs.declared.header.Header.{Header}
use Rattle.nl_frame.specs.Message.{BodyVal, error, done, MessageVal}
use Rattle.nl_values.specs.Known.{errno_names, extack_set, message_set, name_of}
use Rattle.nl_values.specs.declared.format.Format.TheVariants as format
use Rattle.rtnl.specs.Data.{is_known, only_in, parts_of, sense_at}
use Rattle.rtnl.specs.Kernel.{set_name}
use Rattle.rtnl.specs.MessagesJson.{echoed, has_attributes}
use Rattle.rtnl.specs.Values.{stem_of}
use Rattle.rtnl.specs.declared.kernel_errors.KernelError.{KernelError}

-- what is said of an error: the type of the request, where it is said; the code; the kernel's
-- message, empty where there is none; and the offset of an attribute, where it is said
pub record ErrorSaid : Type 0 where
  pub request : Option ℕ
  pub code : ℤ
  pub message : List ℕ
  pub offset : Option ℕ

-- what an error of the program says
abbrev pub error_view : KernelError → ErrorSaid
error_view e = record { request = e.request; code = e.code; message = e.message.now; offset = e.offset }

-- bytes are attributes of an answer, as JSON shows them: they break no rule
abbrev pub are_attributes : Order → List ℕ → Bool
are_attributes o bs = is_known (sense_at o STANDARD_LEVELS (format.List extack_set) [] bs)

-- the attributes behind an answer, where the flags say that they are there
abbrev pub shown_attributes : Order → ℕ → List ℕ → List ℕ
shown_attributes o flags attrs = if has_attributes flags && are_attributes o attrs then attrs else []

-- the number that four bytes are
abbrev pub number_in : Order → List ℕ → Option ℕ
number_in o bs = if length bs == 4 then Some (number_of o 4 bs) else None

-- what an answer says by its code and by these attributes: NLMSGERR_ATTR_MSG is 1, NLMSGERR_ATTR_OFFS is 2
abbrev pub said_by : Order → Option ℕ → ℤ → List ℕ → ErrorSaid
said_by o request code attrs = record {
  request = request;
  code = code;
  message = stem_of (only_in 1 (parts_of o attrs));
  offset = number_in o (only_in 2 (parts_of o attrs));
}

-- an answer with a code: with 0 it is an acknowledgement
abbrev pub refused : Order → ℕ → ℤ → Header → List ℕ → Option ErrorSaid
refused o flags code h tail =
    if int_eq code (pos 0) then None
    else Some (said_by o (Some h.kind) code (shown_attributes o flags (drop (aligned (echoed flags code h)) tail)))

-- the end of a dump with a status: below 0 it is an error
abbrev pub failed : Order → ℕ → Option ℤ → List ℕ → Option ErrorSaid
failed o flags None tail = None
failed o flags (Some status) tail =
    if int_lt status (pos 0) then Some (said_by o None status (shown_attributes o flags tail)) else None

-- the error in a body
abbrev pub error_in : Order → ℕ → BodyVal → Option ErrorSaid
error_in o flags (error code h tail) = refused o flags code h tail
error_in o flags (done status tail) = failed o flags status tail
error_in o flags b = None

-- the error in a message
abbrev pub error_of : Order → MessageVal → Option ErrorSaid
error_of o m = error_in o m.flags m.body

-- the name of the errno that a code is with the other sign
abbrev pub error_name : ℤ → Option (List ℕ)
error_name code = if int_lt code (pos 0) then name_of errno_names (unsigned_abs code) else None

-- the kernel's name of a message type of rtnetlink
abbrev pub request_name : ℕ → Option (List ℕ)
request_name kind = set_name (Some message_set) kind
