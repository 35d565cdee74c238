-- The numbers that C has for contexts, and the answers to C of bodies and of payloads.
use Rattle.std.specs.Prelude.{ℕ, ◌==◌, if◌then◌else◌, Bool, false, Option, Some, None}
use Rattle.nl_attr.specs.Fixed.{SORT_BYTES, SORT_LIST, SORT_HOPS}
use Rattle.nl_attr.specs.declared.tree.Content.{Content}
use Rattle.nl_attr.specs.declared.tree.Content.TheVariants as content
use Rattle.nl_attr.specs.declared.tree.Ctx.{Ctx}
use Rattle.nl_attr.specs.declared.tree.Ctx.TheVariants.{Link, LinkInfo, Addr, Route, Metrics, Neigh, Rule, Plain}
use Rattle.nl_attr.specs.Tree.{holds_of}
use Rattle.nl_route.specs.Families.{context_of, head_size}
use Rattle.nl_frame.specs.declared.form.Form.{Form}
use Rattle.nl_frame.specs.declared.form.Form.TheVariants as form
use Rattle.rtnl_c.specs.declared.numbers.BodyHead.{BodyHead}
use Rattle.rtnl_c.specs.declared.numbers.Holds.{Holds}

-- the number of a context
abbrev pub context_number : Ctx → ℕ
context_number Link = 1
context_number LinkInfo = 2
context_number Addr = 3
context_number Route = 4
context_number Metrics = 5
context_number Neigh = 6
context_number Rule = 7
context_number Plain = 8

-- the context of a number, where one has it
abbrev pub context_in : ℕ → Option Ctx
context_in n =
    if n == 1 then Some Link else (
    if n == 2 then Some LinkInfo else (
    if n == 3 then Some Addr else (
    if n == 4 then Some Route else (
    if n == 5 then Some Metrics else (
    if n == 6 then Some Neigh else (
    if n == 7 then Some Rule else (
    if n == 8 then Some Plain else None)))))))

-- the size of a family's header and the context behind it; nothing of other bodies
abbrev pub family_answer : Form → BodyHead
family_answer (form.Object g) = record { head_size = head_size g; context = context_number (context_of g) }
family_answer form.Noop = record { head_size = 0; context = 0 }
family_answer form.Error = record { head_size = 0; context = 0 }
family_answer form.Done = record { head_size = 0; context = 0 }
family_answer form.Overrun = record { head_size = 0; context = 0 }
family_answer form.Get = record { head_size = 0; context = 0 }
family_answer form.Other = record { head_size = 0; context = 0 }

-- the sort of what is held, and the context of the attributes in it
abbrev pub held : Content → Holds
held content.Bytes = record { sort = SORT_BYTES; context = 0 }
held (content.List c) = record { sort = SORT_LIST; context = context_number c }
held content.Hops = record { sort = SORT_HOPS; context = context_number Route }

-- what an attribute of this number holds in a context; nothing in none
abbrev pub holds_answer : Option Ctx → ℕ → Bool → Holds
holds_answer None number nested = record { sort = 0; context = 0 }
holds_answer (Some c) number nested = held (holds_of c number (record { nested = nested; net = false }))
