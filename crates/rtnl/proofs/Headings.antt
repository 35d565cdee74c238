-- The line that names a dump: its words, its digits, and how it is put together of them.
use Rattle.std.proofs.Common.{◌≡◌, ◌≢◌, ℕ, zero, suc, ◌<◌, ◌≤◌, ◌^◌, ◌==◌, ◌&&◌, not, nat_lt, if◌then◌else◌, Bool, true, false, Option, Some, None, List, [], ◌∷◌, ◌++◌, All, MatchOption, length, take, drop, arith, append_assoc, refl, sym, ap, ◌∙◌, rules, cond, codes, option_map}
use Rattle.rtnl.proofs.Common.{Bor, list_all, SomeIff, option_copied, ltb-true, IsAscii-from_digits, take-append-drop, find, Family, name_of}
use Rattle.std.specs.Char.{digit_value, is_ascii_digit}
use Rattle.std.specs.Str.{IsUtf8}
use Rattle.std.specs.Str.Parse.{AllDigits, IsNumeral, digits_value}
use Rattle.std.proofs.lemmas.Str.{IsUtf8-from_ascii}
use Rattle.std.proofs.lemmas.Str.Parse.{digit_from_value}
use Rattle.rtnl.specs.Heading.{◌>>=◌, Names, all_blank, behind, leading_digits, is_named, is_numeral, kind_at_end, kind_named, kind_text, kinds, number_at, number_if, number_in, only_blanks}

-- a numeral's bytes are those from '0' to '9'
pub bytes_of_digits : (ds : List ℕ) → AllDigits 10 ds → All (λ byte. (48 ≤ byte) × (byte ≤ 57)) ds
bytes_of_digits [] h k d lt = absurd (omega arith)
bytes_of_digits (c ∷ cs) h zero d lt = digit_from_value c h.0
bytes_of_digits (c ∷ cs) h (suc k) d lt =
    let below : k < length cs = omega arith in bytes_of_digits cs h.1 k d below

-- ---- words at the front

behind_byte : (w b : ℕ) (r : Option (List ℕ)) (t : Bool) → (w == b) ≡ t → (t ≡ true → r ≡ None) → (if w == b then r else None) ≡ None
behind_byte w b r true e h = rw e (h refl)
behind_byte w b r false e h = rw e refl

pub behind_none : (p s : List ℕ) → ((rest : List ℕ) → s ≢ p ++ rest) → behind p s ≡ None
behind_none [] s h = absurd (h s refl)
behind_none (w ∷ p) [] h = refl
behind_none (w ∷ p) (b ∷ s) h =
    behind_byte w b (behind p s) (w == b) refl
    (λ same. let e : w ≡ b = search rules in behind_none p s (λ rest is. h rest (rw (e, is) refl)))

pub behind_some : (p x : List ℕ) → behind p (p ++ x) ≡ Some x
behind_some [] x = refl
behind_some (w ∷ p) x = let e : (w == w) ≡ true = search rules in rw e (behind_some p x)

-- ---- digits

digit_is : (c : ℕ) → digit_value c < 10 → is_ascii_digit c ≡ true
digit_is c h = let r = digit_from_value c h in search rules

is_digit : (c : ℕ) → is_ascii_digit c ≡ true → digit_value c < 10
is_digit c h = grind arith

digits_are : (ds : List ℕ) → AllDigits 10 ds → list_all is_ascii_digit ds ≡ true
digits_are [] h = refl
digits_are (c ∷ cs) h = rw (digit_is c h.0, digits_are cs h.1) refl

head_of : (a b : Bool) → (a && b) ≡ true → (a ≡ true) × (b ≡ true)
head_of true true h = (refl, refl)
head_of true false h = cc
head_of false b h = cc

are_digits : (ds : List ℕ) → list_all is_ascii_digit ds ≡ true → AllDigits 10 ds
are_digits [] h = tt
are_digits (c ∷ cs) h =
    let both = head_of (is_ascii_digit c) (list_all is_ascii_digit cs) h in (is_digit c both.0, are_digits cs both.1)

numeral_if : (ds : List ℕ) → IsNumeral 10 ds → is_numeral ds ≡ true
numeral_if [] h = absurd (omega arith)
numeral_if (c ∷ cs) h = let some : (length (c ∷ cs) == 0) ≡ false = search rules in rw (some, digits_are (c ∷ cs) h.1) refl

if_numeral : (ds : List ℕ) → is_numeral ds ≡ true → IsNumeral 10 ds
if_numeral [] h = cc
if_numeral (c ∷ cs) h = let both = head_of (not (length (c ∷ cs) == 0)) (list_all is_ascii_digit (c ∷ cs)) h in (search rules, are_digits (c ∷ cs) both.1)

none_if : (ds : List ℕ) (a b : Bool) → is_numeral ds ≡ a → nat_lt (digits_value 10 ds) (2 ^ 32) ≡ b
    → (IsNumeral 10 ds × (digits_value 10 ds < 2 ^ 32) → ⊥) → number_if (a && b) (digits_value 10 ds) ≡ None
none_if ds true true e f h = absurd (h (if_numeral ds e, ltb-true _ _ f))
none_if ds true false e f h = refl
none_if ds false b e f h = refl

-- the number that a word has, where it has one
pub number_is : (w : List ℕ) (r : Option ℕ) → SomeIff r (IsNumeral 10 w × (digits_value 10 w < 2 ^ 32)) (digits_value 10 w) → number_in w ≡ r
number_is w None h = none_if w (is_numeral w) (nat_lt (digits_value 10 w) (2 ^ 32)) refl refl h
number_is w (Some n) h =
    let small : nat_lt (digits_value 10 w) (2 ^ 32) ≡ true = let lt = h.0.1 in search rules in
    rw (numeral_if w h.0.0, small) (ap Some (sym h.1))

-- what is no text has no number
pub no_number : (w : List ℕ) → (IsUtf8 w → ⊥) → number_in w ≡ None
no_number w h =
    none_if w (is_numeral w) (nat_lt (digits_value 10 w) (2 ^ 32)) refl refl
    (λ is. h (IsUtf8-from_ascii w (IsAscii-from_digits w is.0.1)))

-- what std says of a prefix
pub stripped : (p s : List ℕ) (r : Option (Bor (List ℕ))) → MatchOption r ((rest : List ℕ) → s ≢ p ++ rest) (λ x. s ≡ p ++ x.now)
    → option_copied r ≡ behind p s
stripped p s None h = sym (behind_none p s h)
stripped p s (Some x) h = sym (ap (behind p) h ∙ behind_some p x.now)

-- ---- what a line of the form is put together of

byte_is : (w b : ℕ) (r : Option (List ℕ)) (x : List ℕ) (t : Bool) → (w == b) ≡ t → (if t then r else None) ≡ Some x → (t ≡ true) × (r ≡ Some x)
byte_is w b r x true e h = (refl, h)
byte_is w b r x false e h = cc

behind_is : (p s x : List ℕ) → behind p s ≡ Some x → s ≡ p ++ x
behind_is [] s x e = cc
behind_is (w ∷ p) [] x e = cc
behind_is (w ∷ p) (b ∷ s) x e =
    let both = byte_is w b (behind p s) x (w == b) refl e in
    let same : w ≡ b = let yes = both.0 in search rules in
    rw (same, behind_is p s x both.1) refl

-- a numeral, and what is behind it
record NumberAt (s : List ℕ) (n : ℕ) (r : List ℕ) : Type 0 where
  pub digits : List ℕ
  pub stands : s ≡ digits ++ r
  pub is : IsNumeral 10 digits × (digits_value 10 digits ≡ n)

some_if : (ds : List ℕ) (a b : Bool) (n : ℕ) → is_numeral ds ≡ a → number_if (a && b) (digits_value 10 ds) ≡ Some n → IsNumeral 10 ds × (digits_value 10 ds ≡ n)
some_if ds true true n e h = (if_numeral ds e, cc)
some_if ds true false n e h = cc
some_if ds false b n e h = cc

some_is : {X : Type 0} (x y : X) → Some x ≡ Some y → x ≡ y
some_is x y h = cc

number_stands : (s : List ℕ) (k : ℕ) (m : Option ℕ) (n : ℕ) (r : List ℕ) → number_in (take k s) ≡ m → option_map {T = ℕ} {U = ℕ × List ℕ} (λ v. (v, drop k s)) m ≡ Some (n, r) → NumberAt s n r
number_stands s k None n r e h = cc
number_stands s k (Some v) n r e h =
    let found : ℕ × List ℕ = (v, drop k s) in
    let said : ℕ × List ℕ = (n, r) in
    let same : found ≡ said = some_is found said h in
    let value : v ≡ n = ap (λ (p : ℕ × List ℕ). p.0) same in
    let rest : drop k s ≡ r = ap (λ (p : ℕ × List ℕ). p.1) same in
    let is = some_if (take k s) (is_numeral (take k s)) (nat_lt (digits_value 10 (take k s)) (2 ^ 32)) v refl e in
    record { digits = take k s; stands = sym (take-append-drop k s) ∙ ap (λ x. take k s ++ x) rest; is = (is.0, is.1 ∙ value) }

number_behind : (s : List ℕ) (n : ℕ) (r : List ℕ) → number_at s ≡ Some (n, r) → NumberAt s n r
number_behind s n r e = number_stands s (leading_digits s) (number_in (take (leading_digits s) s)) n r refl e

find_one : (x : Family) (t : Bool) (r : Option Family) (k : Family) (P : Family → Bool) → P x ≡ t → (r ≡ Some k → P k ≡ true) → cond t (Some x) r ≡ Some k → P k ≡ true
find_one x true r k P e more h = let same : x ≡ k = cc in rw (← same) e
find_one x false r k P e more h = more h

find_holds : (P : Family → Bool) (xs : List Family) (k : Family) → find P xs ≡ Some k → P k ≡ true
find_holds P [] k e = cc
find_holds P (x ∷ xs) k e = find_one x (P x) (find P xs) k P refl (λ h. find_holds P xs k h) e

-- a kind, where one is said, and blanks
record KindAtEnd (s : List ℕ) (kind : Option Family) : Type 0 where
  pub blanks : List ℕ
  pub stands : s ≡ kind_text kind ++ blanks
  pub blank : all_blank blanks ≡ true

named_behind : (words : List ℕ) (k : Family) (m : Option (List ℕ)) → behind (name_of k) words ≡ m → only_blanks m ≡ true → (blanks : List ℕ) × (words ≡ name_of k ++ blanks) × (all_blank blanks ≡ true)
named_behind words k None e h = cc
named_behind words k (Some rest) e h = (rest, behind_is (name_of k) words rest e, h)

kind_in : (s words : List ℕ) (m kind : Option Family) → s ≡ codes " kind " ++ words → kind_named words ≡ m → option_map Some m ≡ Some kind → KindAtEnd s kind
kind_in s words None kind e f h = cc
kind_in s words (Some k) kind e f h =
    let same : Some k ≡ kind = cc in
    let named = named_behind words k (behind (name_of k) words) refl (find_holds (is_named words) kinds k f) in
    rw (← same) (record { blanks = named.0; stands = e ∙ ap (λ w. codes " kind " ++ w) named.1 ∙ sym (append_assoc (codes " kind ") (name_of k) named.0); blank = named.2 })

kind_behind : (s : List ℕ) (m : Option (List ℕ)) (kind : Option Family) → behind (codes " kind ") s ≡ m → option_map Some (m >>= kind_named) ≡ Some kind → KindAtEnd s kind
kind_behind s None kind e h = cc
kind_behind s (Some words) kind e h = kind_in s words (kind_named words) kind (behind_is (codes " kind ") s words e) refl h

kind_end : (s : List ℕ) (t : Bool) (kind : Option Family) → all_blank s ≡ t → (if t then Some None else option_map Some (behind (codes " kind ") s >>= kind_named)) ≡ Some kind → KindAtEnd s kind
kind_end s true kind e h = let same : None ≡ kind = cc in rw (← same) (record { blanks = s; stands = refl; blank = e })
kind_end s false kind e h = kind_behind s (behind (codes " kind ") s) kind refl h

grouped : (a b c d e f : List ℕ) → a ++ (b ++ (c ++ (d ++ (e ++ f)))) ≡ a ++ b ++ c ++ d ++ e ++ f
grouped a b c d e f = sym (simp append_assoc)

-- all of it
pub named : (line a b c d : List ℕ) (seq port : ℕ) (kind : Option Family) → behind (codes "# seq ") line ≡ Some a → number_at a ≡ Some (seq, b)
    → behind (codes " port ") b ≡ Some c → number_at c ≡ Some (port, d) → kind_at_end d ≡ Some kind → (blanks : List ℕ) × Names line seq port kind blanks
named line a b c d seq port kind front first mid second end =
    let s = number_behind a seq b first in
    let p = number_behind c port d second in
    let k = kind_end d (all_blank d) kind refl end in (
      k.blanks,
      record {
        seq_digits = s.digits;
        port_digits = p.digits;
        stands =
            behind_is (codes "# seq ") line a front
            ∙ ap (λ x. codes "# seq " ++ x) (s.stands ∙ ap (λ x. s.digits ++ x) (behind_is (codes " port ") b c mid ∙ ap (λ x. codes " port " ++ x) (p.stands ∙ ap (λ x. p.digits ++ x) k.stands)))
            ∙ grouped (codes "# seq ") s.digits (codes " port ") p.digits (kind_text kind) k.blanks;
        is_seq = s.is;
        is_port = p.is;
        all_blank = k.blank;
      },
    )
