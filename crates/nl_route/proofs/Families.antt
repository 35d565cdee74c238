-- What holds of each family's row.
use Rattle.std.proofs.Common.{◌≡◌, ◌≢◌, ℕ, ◌+◌, ◌%◌, List, length, true, false, Option, Some, None, IsTrue, refl, sym, ap, ◌∙◌, ◌⊎◌, inl, inr}
use Rattle.std.proofs.lemmas.Bool.{cases_eq, eq-eqb, ne_eqb}
use Rattle.nl_attr.specs.declared.order.Order.{Order}
use Rattle.nl_attr.specs.Numbers.{AreBytes}
use Rattle.nl_route.specs.declared.family.Family.{Family}
use Rattle.nl_route.specs.declared.family.Family.TheVariants as family
use Rattle.nl_route.specs.declared.family.RouteType.{RouteType}
use Rattle.nl_route.specs.declared.family.Verb.{Verb}
use Rattle.nl_route.specs.declared.family.Verb.TheVariants.{New, Del, Get, Set}
use Rattle.nl_route.specs.Fields.{AreFields}
use Rattle.nl_route.specs.Types.{says, route_type}
use Rattle.nl_route.specs.Families.{row, same_family, head_size, has_verb, type_of, AnyHead, any, family_of, fields_of, head_of}
use Rattle.nl_route.specs.Link.{link_fields, link_with, link_of}
use Rattle.nl_route.specs.Addr.{addr_fields, addr_with, addr_of}
use Rattle.nl_route.specs.Route.{route_fields, route_with, route_of}
use Rattle.nl_route.specs.Neigh.{neigh_fields, neigh_with, neigh_of}
use Rattle.nl_route.specs.Rule.{rule_fields, rule_with, rule_of}
use Rattle.nl_route.proofs.Fields.{size_of}
use Rattle.nl_route.proofs.Known.{IsKnown, fields_of_read, read_of_fields, head_written}

-- each head is known by its fields
pub link_known : IsKnown 16 link_fields link_of
link_known = record { is = λ o v bytes. refl; made = link_with; back = λ v. refl; size_is = λ v. refl }

pub addr_known : IsKnown 8 addr_fields addr_of
addr_known = record { is = λ o v bytes. refl; made = addr_with; back = λ v. refl; size_is = λ v. refl }

pub route_known : IsKnown 12 route_fields route_of
route_known = record { is = λ o v bytes. refl; made = route_with; back = λ v. refl; size_is = λ v. refl }

pub neigh_known : IsKnown 12 neigh_fields neigh_of
neigh_known = record { is = λ o v bytes. refl; made = neigh_with; back = λ v. refl; size_is = λ v. refl }

pub rule_known : IsKnown 12 rule_fields rule_of
rule_known = record { is = λ o v bytes. refl; made = rule_with; back = λ v. refl; size_is = λ v. refl }

-- what is written of a head, whatever the family
pub ruleset heads = (head_written, link_known, addr_known, route_known, neigh_known, rule_known)

-- its head is known by its fields, and whole in four bytes, and the table of types has its types
pub record IsFamily (g : Family) : Type 0 where
  pub known : IsKnown (row g).size (row g).fields (row g).of
  pub whole : head_size g % 4 ≡ 0
  pub new : route_type (type_of g New) ≡ Some (says New g)
  pub del : route_type (type_of g Del) ≡ Some (says Del g)
  pub get : route_type (type_of g Get) ≡ Some (says Get g)
  pub set : IsTrue (has_verb g Set) → route_type (type_of g Set) ≡ Some (says Set g)

pub is_family : (g : Family) → IsFamily g
unfolding route_type
is_family family.Link = record { known = link_known; whole = refl; new = refl; del = refl; get = refl; set = λ h. refl }
is_family family.Addr = record { known = addr_known; whole = refl; new = refl; del = refl; get = refl; set = λ h. cc }
is_family family.Route = record { known = route_known; whole = refl; new = refl; del = refl; get = refl; set = λ h. cc }
is_family family.Neigh = record { known = neigh_known; whole = refl; new = refl; del = refl; get = refl; set = λ h. cc }
is_family family.Rule = record { known = rule_known; whole = refl; new = refl; del = refl; get = refl; set = λ h. cc }

pub type_says : (g : Family) (v : Verb) → IsTrue (has_verb g v) → route_type (type_of g v) ≡ Some (says v g)
type_says g New h = (is_family g).new
type_says g Del h = (is_family g).del
type_says g Get h = (is_family g).get
type_says g Set h = (is_family g).set h

-- two families are one or are not, as the test says
pub one_or_other : (g h : Family) → ((g ≡ h) × (same_family g h ≡ true)) ⊎ ((g ≢ h) × (same_family g h ≡ false))
one_or_other g h = elim (cases_eq (row g).new (row h).new) [
  | inl e ↦ inl (one (sym (is_family g).new ∙ ap (λ n. route_type (n + 0)) e ∙ (is_family h).new), eq-eqb (row g).new (row h).new e)
  | inr n ↦ inr ((λ e. n (ap (λ (k : Family). (row k).new) e)), ne_eqb (row g).new (row h).new n)
]
  where
    family_in : Option RouteType → Family
    family_in None = g
    family_in (Some t) = t.family

    one : Some (says New g) ≡ Some (says New h) → g ≡ h
    one e = ap family_in e

-- a head of any family has the bytes of its fields
pub size_of_head : (h : AnyHead) → size_of (fields_of h) ≡ head_size (family_of h)
size_of_head h = (is_family h.family).known.size_is h.head

-- bytes that have its fields are read as it
pub any_only : (o : Order) (h : AnyHead) (bytes : List ℕ) → AreFields o (fields_of h) bytes → head_of o (family_of h) bytes ≡ h
any_only o h bytes f = ap (any h.family) (sym (read_of_fields (is_family h.family).known o h.head bytes f))

-- and bytes have the fields of what is read of them
pub any_fields : (o : Order) (g : Family) (bytes : List ℕ) → AreBytes bytes → length bytes ≡ head_size g → AreFields o (fields_of (head_of o g bytes)) bytes
any_fields o g bytes h e = fields_of_read (is_family g).known o bytes h e
