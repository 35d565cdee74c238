-- What bytes mean beside what is read of them.
use Rattle.std.proofs.Common.{◌≡◌, ◌==◌, ℕ, Bool, true, false, if◌then◌else◌, ℤ, List, length, refl}
use Rattle.rtnl.proofs.Common.{Order}
use Rattle.std.specs.Prelude.{◌-◌, nat_lt}
use Rattle.nl_attr.specs.Fixed.{LONGEST_REGION, STANDARD_LEVELS}
use Rattle.nl_values.specs.Meanings as sense
use Rattle.nl_values.specs.Meanings.{Sense, sense_in}
use Rattle.nl_values.specs.Numbers.{integer_of, size_of}
use Rattle.nl_values.specs.Texts.{is_text, stem_of}
use Rattle.nl_values.specs.declared.format.Number.TheVariants.{U32, U64}
use Rattle.nl_values.specs.declared.format.Format.{Format}
use Rattle.nl_values.specs.declared.format.Format.TheVariants as format
use Rattle.rtnl.specs.Data.{sense_at}
use Rattle.rtnl.specs.MessagesJson.{is_read, says_all, sense_beside, unless_said}
use Rattle.rtnl.specs.Values.{Reading, u8, u16, u32, text, ipv4, ipv6, hex}

-- of two meanings nothing is left to say where nothing is of either
either : (r : Reading) (b : Bool) (s t : Sense) → unless_said r s ≡ sense.unknown → unless_said r t ≡ sense.unknown → unless_said r (if b then s else t) ≡ sense.unknown
either r true s t p q = p
either r false s t p q = q

-- no meaning
none : (r : Reading) → unless_said r sense.unknown ≡ sense.unknown
none (u8 n) = refl
none (u16 n) = refl
none (u32 n) = refl
none (text t) = refl
none (ipv4 address) = refl
none (ipv6 address) = refl
none (hex payload) = refl

-- numbers, texts and addresses, where more is read than bytes
said : (r : Reading) → is_read r ≡ true
    → ((z : ℤ) → unless_said r (sense.integer z) ≡ sense.unknown) × ((t : List ℕ) → unless_said r (sense.text t) ≡ sense.unknown)
    × ((address : List ℕ) → unless_said r (sense.ipv4 address) ≡ sense.unknown) × ((address : List ℕ) → unless_said r (sense.ipv6 address) ≡ sense.unknown)
said (u8 n) p = (λ z. refl, λ t. refl, λ a. refl, λ a. refl)
said (u16 n) p = (λ z. refl, λ t. refl, λ a. refl, λ a. refl)
said (u32 n) p = (λ z. refl, λ t. refl, λ a. refl, λ a. refl)
said (text t) p = (λ z. refl, λ t. refl, λ a. refl, λ a. refl)
said (ipv4 address) p = (λ z. refl, λ t. refl, λ a. refl, λ a. refl)
said (ipv6 address) p = (λ z. refl, λ t. refl, λ a. refl, λ a. refl)
said (hex payload) p = absurd cc

-- bytes of a format of which what is read says all
module _ (r : Reading) (o : Order) (depth level : ℕ) (kind bs : List ℕ) where
  sense_said : (f : Format) → says_all r f ≡ true → unless_said r (sense_in o depth level f kind bs) ≡ sense.unknown
  sense_said format.Bytes p = none r
  sense_said (format.Hops set) p = none r
  sense_said (format.Integer n) p = either r (length bs == size_of n) (sense.integer (integer_of n o bs)) sense.unknown ((said r p).0 (integer_of n o bs)) (none r)
  sense_said format.Unsigned p =
      either r (length bs == 4) (sense.integer (integer_of U32 o bs)) _ ((said r p).0 (integer_of U32 o bs))
      (either r (length bs == 8) (sense.integer (integer_of U64 o bs)) sense.unknown ((said r p).0 (integer_of U64 o bs)) (none r))
  sense_said format.Text p = either r (is_text bs) (sense.text (stem_of bs)) sense.unknown ((said r p).1 (stem_of bs)) (none r)
  sense_said format.Ipv4 p = either r (length bs == 4) (sense.ipv4 bs) sense.unknown ((said r p).2 bs) (none r)
  sense_said format.Ipv6 p = either r (length bs == 16) (sense.ipv6 bs) sense.unknown ((said r p).3 bs) (none r)
  sense_said format.Ip p =
      either r (length bs == 4) (sense.ipv4 bs) _ ((said r p).2 bs)
      (either r (length bs == 16) (sense.ipv6 bs) sense.unknown ((said r p).3 bs) (none r))
  sense_said format.Flag p = absurd cc
  sense_said (format.Value n names) p = absurd cc
  sense_said (format.Bits n names) p = absurd cc
  sense_said format.Mac p = absurd cc
  sense_said (format.Series n) p = absurd cc
  sense_said (format.Counters n names) p = absurd cc
  sense_said (format.Fields of) p = absurd cc
  sense_said (format.Array of) p = absurd cc
  sense_said (format.Headed of set) p = absurd cc
  sense_said (format.List set) p = absurd cc
  sense_said (format.Chosen choice selector) p = absurd cc

-- nothing is left to say of a payload
all_said : (r : Reading) (o : Order) (levels : ℕ) (f : Format) (kind bs : List ℕ) → says_all r f ≡ true → unless_said r (sense_at o levels f kind bs) ≡ sense.unknown
all_said r o levels f kind bs p =
    either r (nat_lt LONGEST_REGION (length bs)) sense.unknown (sense_in o STANDARD_LEVELS (STANDARD_LEVELS - levels) f kind bs)
    (none r) (sense_said r o STANDARD_LEVELS (STANDARD_LEVELS - levels) kind bs f p)

-- nor is anything meant beside it
pub nothing_beside : (r : Reading) (o : Order) (net : Bool) (f : Format) (kind bs : List ℕ) → says_all r f ≡ true → sense_beside o r net f kind bs ≡ sense.unknown
nothing_beside r o true f kind bs p = refl
nothing_beside r o false f kind bs p = all_said r o STANDARD_LEVELS f kind bs p
