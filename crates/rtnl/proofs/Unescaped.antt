-- Texts that stand for themselves, in a string of JSON or as UTF-8.
use Rattle.std.proofs.Common.{◌≡◌, ℕ, zero, suc, ◌+◌, ◌*◌, ◌/◌, ◌%◌, ◌<◌, ◌≤◌, ◌^◌, ◌&&◌, ◌==◌, Bool, true, List, [], ◌∷◌, ◌++◌, length, Option, Some, None, refl, rules, subst, arith, codes, decimal, slice_index, inl, inr}
use Rattle.rtnl.proofs.Common.{nat_le, agree_below_at, and_parts, cases_Bool, list_all, decimal_by_steps, Ctx, Family, name_of, IsUnescaped, is_unescaped, Named, find_named, name_in, bit_names, are_unescaped}
use Rattle.std.specs.Str.{IsUtf8}
use Rattle.std.proofs.lemmas.Str.{IsUtf8-from_ascii}
use Rattle.hex.specs.Hex.{encode_lower, encode_with, lower_digits}
use Rattle.json.specs.Run.{is_plain}
use Rattle.nl_attr.specs.declared.tree.Ctx.TheVariants as ctx
use Rattle.nl_route.specs.declared.family.Family.TheVariants as family
use Rattle.rtnl.specs.Attributes.{attribute_name, attribute_rows, row_of}
use Rattle.rtnl.specs.Text.{padded_hex}
use Rattle.nl_route.specs.declared.family.RouteType.{RouteType}
use Rattle.nl_route.specs.declared.family.Verb.{Verb}
use Rattle.nl_route.specs.declared.family.Verb.TheVariants as verb
use Rattle.nl_route.specs.Types.{route_type}
use Rattle.rtnl.specs.declared.names.flags.Bits.{Bits}
use Rattle.rtnl.specs.declared.names.flags.Bits.TheVariants as bits
use Rattle.rtnl.specs.declared.names.types.FlagNames.TheVariants.{Common, Get, New, Error}
use Rattle.rtnl.specs.Types.{controls, name_for, type_name, verb_name}
use Rattle.rtnl.specs.Values as values
use Rattle.rtnl.specs.Values.{group_at, groups_text, ipv4_text, ipv6_text}
use Rattle.rtnl.proofs.Digits.{four_digits, two_digits}
use Rattle.rtnl.specs.Data.{byte_behind, mac_text}
use Rattle.rtnl.specs.Names.{names_set}

both : (a b : Bool) → a ≡ true → b ≡ true → (a && b) ≡ true
both a b p q = rw (p, q) refl

-- one text and then another
pub unescaped_append : (a b : List ℕ) → IsUnescaped a → IsUnescaped b → IsUnescaped (a ++ b)
unescaped_append [] b p q = q
unescaped_append (x ∷ a) b p q =
    let parts = and_parts (is_plain x) (is_unescaped a) p in
    both _ _ parts.0 (unescaped_append a b parts.1 q)

-- a hexadecimal digit
plain_digit : (k : ℕ) → k < 16 → is_plain (slice_index lower_digits k) ≡ true
plain_digit k small = agree_below_at (λ n. is_plain (slice_index lower_digits n)) (λ n. true) 16 k refl small

-- bytes in hexadecimal digits
pub digits_unescaped : (bytes : List ℕ) → ((i : ℕ) → slice_index bytes i < 256) → IsUnescaped (encode_lower bytes)
unfolding encode_with
digits_unescaped [] fits = refl
digits_unescaped (b ∷ rest) fits =
    let small : b < 256 = fits 0 in
    both _ _ (plain_digit (b / 16) (omega arith)) (both _ _ (plain_digit (b % 16) (omega arith)) (digits_unescaped rest (λ i. fits (suc i))))

digit : (d : ℕ) → d < 10 → is_plain (48 + d) ≡ true
digit d small = grind arith

-- a number
pub decimal_unescaped : (n : ℕ) → n < 2 ^ 64 → IsUnescaped (decimal n)
decimal_unescaped =
    decimal_by_steps (λ n ds. IsUnescaped ds)
    (λ n small. both _ _ (digit n small) refl)
    (λ n ds more h. unescaped_append ds ((48 + n % 10) ∷ []) h (both _ _ (digit (n % 10) (omega arith)) refl))

-- a name of 16 bytes or fewer that stands for itself
abbrev is_name : List ℕ → Bool
is_name name = nat_le (length name) 16 && is_unescaped name

-- the names of rows
abbrev names : {T : Type 0} → List (Named T) → Bool
names [] = true
names (row ∷ rows) = is_name row.1 && names rows

found : {T : Type 0} (other : List ℕ) (rows : List (Named T)) (number : ℕ) → is_name other ≡ true → names rows ≡ true → is_name (name_in other (find_named number rows)) ≡ true
found other [] number is named = is
found other (row ∷ rows) number is named =
    let parts = and_parts (is_name row.1) (names rows) named in
    elim (cases_Bool (row.0 == number)) [
      | inl here ↦ rw here parts.0
      | inr there ↦ rw there (found other rows number is parts.1)
    ]

all : (c : Ctx) → names (attribute_rows c) ≡ true
all ctx.Link = refl
all ctx.LinkInfo = refl
all ctx.Addr = refl
all ctx.Route = refl
all ctx.Metrics = refl
all ctx.Neigh = refl
all ctx.Rule = refl
all ctx.Plain = refl

both_of_name : (c : Ctx) (number : ℕ) → (nat_le (length (attribute_name c number)) 16 ≡ true) × IsUnescaped (attribute_name c number)
unfolding row_of
both_of_name c number = and_parts _ _ (found (codes "-") (attribute_rows c) number refl (all c))

-- the name of an attribute is short
pub short_name : (c : Ctx) (number : ℕ) → length (attribute_name c number) ≤ 16
short_name c number = search (rules, (both_of_name c number).0)

-- the name of a family
pub unescaped_family : (g : Family) → IsUnescaped (name_of g)
unescaped_family family.Link = refl
unescaped_family family.Addr = refl
unescaped_family family.Route = refl
unescaped_family family.Neigh = refl
unescaped_family family.Rule = refl

-- the names of bits
pub unescaped_bits : (b : Bits) → are_unescaped (bit_names b) ≡ true
unescaped_bits (bits.Message Common) = refl
unescaped_bits (bits.Message Get) = refl
unescaped_bits (bits.Message New) = refl
unescaped_bits (bits.Message Error) = refl
unescaped_bits bits.Link = refl
unescaped_bits bits.NeighState = refl
unescaped_bits bits.NeighFlags = refl
unescaped_bits bits.NextHop = refl

-- no bit of none
pub no_bits : (b : Bits) → names_set (bit_names b) 0 ≡ []
no_bits (bits.Message Common) = refl
no_bits (bits.Message Get) = refl
no_bits (bits.Message New) = refl
no_bits (bits.Message Error) = refl
no_bits bits.Link = refl
no_bits bits.NeighState = refl
no_bits bits.NeighFlags = refl
no_bits bits.NextHop = refl

unescaped_verb : (v : Verb) → IsUnescaped (verb_name v)
unescaped_verb verb.New = refl
unescaped_verb verb.Del = refl
unescaped_verb verb.Get = refl
unescaped_verb verb.Set = refl

of_type : (kind : ℕ) (of : Option RouteType) → IsUnescaped (name_for kind of)
unfolding controls
of_type kind None = (and_parts _ _ (found (codes "other") controls kind refl refl)).1
of_type kind (Some t) = unescaped_append (verb_name t.verb) (name_of t.family) (unescaped_verb t.verb) (unescaped_family t.family)

-- the two parts of the name of a message type
pub unescaped_parts : (kind : ℕ) (first second : List ℕ) → type_name kind ≡ first ++ second → IsUnescaped (first ++ second)
unfolding type_name
unescaped_parts kind first second is = subst IsUnescaped is (of_type kind (route_type kind))

-- a text that stands for itself
abbrev Unescaped : Type 0
Unescaped = (text : List ℕ) × IsUnescaped text

abbrev two : Unescaped → Unescaped → Unescaped
two a b = (a.0 ++ b.0, unescaped_append a.0 b.0 a.1 b.1)

dot : Unescaped
dot = (codes ".", refl)

colon : Unescaped
colon = (codes ":", refl)

-- an address of IPv4
pub ipv4_unescaped : (bytes : List ℕ) → ((i : ℕ) → slice_index bytes i < 256) → IsUnescaped (ipv4_text bytes)
unfolding ipv4_text dot
ipv4_unescaped bytes fits =
    let number : ℕ → Unescaped = λ i. (decimal (slice_index bytes i), decimal_unescaped (slice_index bytes i) (omega (arith, fits i))) in
    (two (number 0) (two dot (two (number 1) (two dot (two (number 2) (two dot (number 3))))))).1

pair : (a b : ℕ) → a < 256 → b < 256 → (i : ℕ) → slice_index (a ∷ b ∷ []) i < 256
pair a b p q zero = p
pair a b p q (suc zero) = q
pair a b p q (suc (suc i)) = search rules

one_group : (i : ℕ) (bytes : List ℕ) → ((i : ℕ) → slice_index bytes i < 256) → IsUnescaped (padded_hex 4 (group_at i bytes))
unfolding group_at
one_group i bytes fits =
    let n = 256 * slice_index bytes i + slice_index bytes (i + 1) in
    let high = fits i in
    let low = fits (i + 1) in
    rw (four_digits n (omega arith)) (digits_unescaped (n / 256 ∷ n % 256 ∷ []) (pair (n / 256) (n % 256) (omega arith) (omega arith)))

groups : (i : ℕ) (bytes : List ℕ) → ((i : ℕ) → slice_index bytes i < 256) → IsUnescaped (groups_text i bytes)
unfolding groups_text colon
groups i bytes fits =
    let one : ℕ → Unescaped = λ k. (padded_hex 4 (group_at k bytes), one_group k bytes fits) in
    (two (one i) (two colon (two (one (i + 2)) (two colon (two (one (i + 4)) (two colon (one (i + 6)))))))).1

-- an address of IPv6
pub ipv6_unescaped : (bytes : List ℕ) → ((i : ℕ) → slice_index bytes i < 256) → IsUnescaped (ipv6_text bytes)
unfolding ipv6_text colon
ipv6_unescaped bytes fits = (two (groups_text 0 bytes, groups 0 bytes fits) (two colon (groups_text 8 bytes, groups 8 bytes fits))).1

alone : (a : ℕ) → a < 256 → (i : ℕ) → slice_index (a ∷ []) i < 256
alone a p zero = p
alone a p (suc i) = search rules

one_byte : (k : ℕ) (bytes : List ℕ) → ((i : ℕ) → slice_index bytes i < 256) → IsUnescaped (padded_hex 2 (slice_index bytes k))
one_byte k bytes fits = rw (two_digits (slice_index bytes k) (fits k)) (digits_unescaped (slice_index bytes k ∷ []) (alone (slice_index bytes k) (fits k)))

-- a hardware address
pub mac_unescaped : (bytes : List ℕ) → ((i : ℕ) → slice_index bytes i < 256) → IsUnescaped (mac_text bytes)
unfolding mac_text byte_behind colon
mac_unescaped bytes fits =
    let one : ℕ → Unescaped = λ k. (padded_hex 2 (slice_index bytes k), one_byte k bytes fits) in
    let more : ℕ → Unescaped = λ k. two colon (one k) in
    (two (one 0) (two (more 1) (two (more 2) (two (more 3) (two (more 4) (more 5)))))).1

-- ---- texts of plain bytes

byte_ascii : (c : ℕ) → values.is_plain_byte c ≡ true → c < 128
byte_ascii c h = grind arith

ascii : (bs : List ℕ) → list_all values.is_plain_byte bs ≡ true → (i : ℕ) → slice_index bs i < 128
ascii [] h i = search rules
ascii (b ∷ bs) h zero = byte_ascii b (and_parts _ _ h).0
ascii (b ∷ bs) h (suc i) = ascii bs (and_parts _ _ h).1 i

-- a text of plain bytes is UTF-8
pub plain_utf8 : (bs : List ℕ) → values.is_plain bs ≡ true → IsUtf8 bs
plain_utf8 bs h = IsUtf8-from_ascii bs (ascii bs (and_parts _ _ h).1)
