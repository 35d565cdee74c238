-- Rows of bytes, one after another.
use Rattle.std.proofs.Common.{◌≡◌, ◌<◌, ◌≤◌, ◌+◌, ◌==◌, if◌then◌else◌, ℕ, zero, suc, List, [], ◌∷◌, ◌++◌, length, take, drop, min, replicate, Bool, true, false, Option, Some, None, Ok, Err, is_some, not, refl, sym, ap, subst, ◌∙◌, arith, append_assoc}
use Rattle.rtnl.proofs.Common.{flat_map, nat_tests, flat_map-append, Event, Order, ReadError, Bounds, Answer, Answers, Refuses, is_accepted as is_accepted_answer, refusal_text, AreEvents, IsAboutItsHead, IsRefusalOf, refusal_line, BytePart, Label, Mark, lists_after, marks_of, parts_by, refused_marks, size_in, unread, AddsAllRows, AddsPart, AddsRows, refusal_ending}
use Rattle.std.proofs.lemmas.List.{append-nil, length-take-le, nil_from_length, take-append-drop}
use Rattle.nl_attr.specs.declared.fault.Reason.{Reason}
use Rattle.nl_attr.specs.Shape.{Shape}
use Rattle.nl_attr.proofs.Lemmas.Grammars.{head_lies}
use Rattle.nl_frame.specs.declared.scanning.ScanError.{ScanError}
use Rattle.nl_frame.specs.declared.scanning.ScanError.TheVariants.{TooLarge, Layout as Fails}
use Rattle.nl_frame.specs.Heads.{FaultAt, Rest, header, heads, whole}
use Rattle.nl_frame.proofs.Scan.{laws}
use Rattle.rtnl.specs.declared.bytes.rows.RowFormat.{RowFormat}
use Rattle.rtnl.specs.declared.bytes.rows.RowFormat.TheVariants.{Text, Coloured, Json}
use Rattle.rtnl.specs.ByteRows.{IsAtByte, refused_at, AreParts, AreRows, AreRowsOf, ByteRow, Viewed, Views, answer_line, ending, is_accepted, opening, row_printed, viewed_text}
use Rattle.rtnl.proofs.Showing.{one_more}

-- ---- the parts of bytes

module _ {X : Type 0} (a b : X) where
  if_none : (n : ℕ) → n ≡ 0 → (if n == 0 then a else b) ≡ a
  if_none n e = grind (arith, nat_tests)

  if_some : (n : ℕ) → 0 < n → (if n == 0 then a else b) ≡ b
  if_some n less = grind (arith, nat_tests)

module _ (place : ℕ) (d : List ℕ) (refusal : Option ScanError) where
  -- the part of the first bytes, with these words
  abbrev pub front : ℕ → Label → BytePart
  front n label = record { place = place; bytes = take n d; label = label; refusal = refusal }

  module _ (m : Mark) (marks : List Mark) (n : ℕ) (is : n ≡ size_in place d m) where
    by_size : parts_by place d refusal (m ∷ marks) ≡ (if n == 0 then parts_by place d refusal marks else front n m.label ∷ parts_by (place + n) (drop n d) None marks)
    by_size = subst (λ (k : ℕ). parts_by place d refusal (m ∷ marks) ≡ (if k == 0 then parts_by place d refusal marks else front k m.label ∷ parts_by (place + k) (drop k d) None marks)) (sym is) refl

    -- a mark that has none of them
    pub passes : n ≡ 0 → parts_by place d refusal (m ∷ marks) ≡ parts_by place d refusal marks
    passes e = by_size ∙ if_none (parts_by place d refusal marks) (front n m.label ∷ parts_by (place + n) (drop n d) None marks) n e

    -- one that has some
    pub takes : 0 < n → parts_by place d refusal (m ∷ marks) ≡ front n m.label ∷ parts_by (place + n) (drop n d) None marks
    takes some = by_size ∙ if_some (parts_by place d refusal marks) (front n m.label ∷ parts_by (place + n) (drop n d) None marks) n some

  -- what is left
  pub leaves : 0 < length d → parts_by place d refusal [] ≡ record { place = place; bytes = d; label = unread; refusal = refusal } ∷ []
  leaves some = if_some [] (record { place = place; bytes = d; label = unread; refusal = refusal } ∷ []) (length d) some

  pub leaves_none : length d ≡ 0 → parts_by place d refusal [] ≡ []
  leaves_none e = if_none [] (record { place = place; bytes = d; label = unread; refusal = refusal } ∷ []) (length d) e

  -- the first bytes and the others
  cut : (n : ℕ) (label : Label) (parts : List BytePart) → n ≤ length d → 0 < n → AreParts (place + n) (drop n d) None parts → AreParts place d refusal (front n label ∷ parts)
  cut n label parts within some others =
      let size : length (take n d) ≡ n = length-take-le n d within in (
        refl,
        refl,
        subst (λ (k : ℕ). 0 < k) (sym size) some,
        drop n d,
        sym (take-append-drop n d),
        subst (λ (k : ℕ). AreParts (place + k) (drop n d) None parts) (sym size) others,
      )

  sized : (n : ℕ) (label : Label) (none parts : List BytePart) → n ≤ length d → AreParts place d refusal none → AreParts (place + n) (drop n d) None parts
      → AreParts place d refusal (if n == 0 then none else front n label ∷ parts)
  sized zero label none parts within all others = all
  sized (suc n) label none parts within all others =
      subst (AreParts place d refusal) (sym (if_some none (front (suc n) label ∷ parts) (suc n) (omega arith))) (cut (suc n) label parts within (omega arith) others)

  left_over : AreParts place d refusal (parts_by place d refusal [])
  left_over = by_length (length d) refl where
    by_length : (n : ℕ) → length d ≡ n → AreParts place d refusal (parts_by place d refusal [])
    by_length zero e = subst (AreParts place d refusal) (sym (leaves_none e)) (nil_from_length d e)
    by_length (suc n) e = subst (AreParts place d refusal) (sym (leaves (omega arith))) (refl, refl, omega arith, [], sym (append-nil d), refl)

-- they have each of them, once and in order
are_parts : (place : ℕ) (d : List ℕ) (refusal : Option ScanError) (marks : List Mark) → AreParts place d refusal (parts_by place d refusal marks)
are_parts place d refusal [] = left_over place d refusal
are_parts place d refusal (m ∷ marks) =
    let n = size_in place d m in
    sized place d refusal n m.label (parts_by place d refusal marks) (parts_by (place + n) (drop n d) None marks) (omega arith) (are_parts place d refusal marks) (are_parts (place + n) (drop n d) None marks)

-- so many blanks
pub one_blank : (n : ℕ) (out : List ℕ) → (out ++ 32 ∷ []) ++ replicate n 32 ≡ out ++ 32 ∷ replicate n 32
one_blank n out = append_assoc out (32 ∷ []) (replicate n 32)

module _ (print : ByteRow → List ℕ) where
  -- ---- the rows of a part

  module _ (p : BytePart) where
    -- a text goes on with rows of bytes of the part from a place on
    abbrev pub Goes : Bool → ℕ → List ℕ → List ℕ → List ℕ → Type 0
    Goes is_first place d old new = (rows : List ByteRow) × AreRows p is_first place d rows × (new ≡ old ++ flat_map print rows)

    -- however the text goes on with rows of what is left, with them it has rows of the part
    abbrev pub IsLeft : List ℕ → Bool → ℕ → List ℕ → List ℕ → Type 0
    IsLeft old is_first place rest out = (new : List ℕ) → Goes is_first place rest out new → AddsPart print p old new

    -- one row
    pub one_row : (old : List ℕ) (is_first : Bool) (place : ℕ) (rest out : List ℕ) → IsLeft old is_first place rest out
        → (bytes others next : List ℕ) → 0 < length bytes → length bytes ≤ 16 → rest ≡ bytes ++ others
        → next ≡ out ++ print (record { place = place; bytes = bytes; part = p; is_first = is_first }) → IsLeft old false (place + length bytes) others next
    one_row old is_first place rest out now bytes others next some few e written = λ new goes.
        let r : ByteRow = record { place = place; bytes = bytes; part = p; is_first = is_first } in
        let text = goes.2 ∙ ap (λ (t : List ℕ). t ++ flat_map print goes.0) written ∙ append_assoc out (print r) (flat_map print goes.0) in
        now new (r ∷ goes.0, (refl, refl, refl, some, few, others, e, goes.1), text)

    -- nothing is left
    pub ends : (old : List ℕ) (is_first : Bool) (place : ℕ) (rest out : List ℕ) → IsLeft old is_first place rest out → rest ≡ [] → AddsPart print p old out
    ends old is_first place rest out now e = now out ([], e, sym (append-nil out))

  -- ---- the rows of parts

  -- a text goes on with the rows of parts
  abbrev pub AddsParts : List BytePart → List ℕ → List ℕ → Type 0
  AddsParts parts old new = (rows : List ByteRow) × AreRowsOf parts rows × (new ≡ old ++ flat_map print rows)

  -- however the text goes on with rows of the parts that are left, with them it has rows of all
  abbrev pub AreLeft : List BytePart → List ℕ → List BytePart → List ℕ → Type 0
  AreLeft all old left out = (new : List ℕ) → AddsParts left out new → AddsParts all old new

  -- no row is written yet
  pub none_written : (all : List BytePart) (old : List ℕ) → AreLeft all old all old
  none_written all old = λ new goes. goes

  module _ (all : List BytePart) (old : List ℕ) where
    -- one part
    pub one_part : (left others : List BytePart) (out : List ℕ) → AreLeft all old left out → (p : BytePart) (next : List ℕ) → left ≡ p ∷ others → AddsPart print p out next
        → AreLeft all old others next
    one_part left others out now p next e adds = λ new goes.
        let mine = adds.0 in
        let more = goes.0 in
        let text : new ≡ out ++ flat_map print (mine ++ more) =
        goes.2 ∙ ap (λ (t : List ℕ). t ++ flat_map print more) adds.2 ∙ append_assoc out (flat_map print mine) (flat_map print more)
        ∙ ap (λ (t : List ℕ). out ++ t) (sym (flat_map-append print mine more)) in
        let goes_on : AddsParts (p ∷ others) out new = (mine ++ more, (mine, more, refl, adds.1, goes.1), text) in
        now new (subst (λ (ps : List BytePart). AddsParts ps out new) (sym e) goes_on)

    module _ (place : ℕ) (d : List ℕ) (here : Option ScanError) (left : List Mark) (out : List ℕ) (now : AreLeft all old (parts_by place d here left) out) (m : Mark) (marks : List Mark) (is : left ≡ m ∷ marks) (n : ℕ) (size : n ≡ size_in place d m) where
      -- a mark that has none of the bytes
      pub no_part : n ≡ 0 → AreLeft all old (parts_by place d here marks) out
      no_part e = subst (λ (ps : List BytePart). AreLeft all old ps out) (ap (parts_by place d here) is ∙ passes place d here m marks n size e) now

      -- the part of one that has some
      pub next_part : (some : 0 < n) (bytes others next : List ℕ) → bytes ≡ take n d → others ≡ drop n d
          → AddsPart print (record { place = place; bytes = bytes; label = m.label; refusal = here }) out next → AreLeft all old (parts_by (place + n) others None marks) next
      next_part some bytes others next first rest adds =
          let whole : parts_by place d here left ≡ record { place = place; bytes = take n d; label = m.label; refusal = here } ∷ parts_by (place + n) (drop n d) None marks =
          ap (parts_by place d here) is ∙ takes place d here m marks n size some in
          let added = subst (λ (t : List ℕ). AddsPart print (record { place = place; bytes = t; label = m.label; refusal = here }) out next) first adds in
          subst (λ (t : List ℕ). AreLeft all old (parts_by (place + n) t None marks) next) (sym rest)
          (one_part (parts_by place d here left) (parts_by (place + n) (drop n d) None marks) out now (record { place = place; bytes = take n d; label = m.label; refusal = here }) next whole added)

    -- nothing is left
    pub none_left : (left : List BytePart) (out : List ℕ) → AreLeft all old left out → left ≡ [] → AddsParts all old out
    none_left left out now e = now out (subst (λ (ps : List BytePart). AddsParts ps out out) (sym e) ([], refl, sym (append-nil out)))

    -- the last part
    pub last_part : (left : List BytePart) (out : List ℕ) → AreLeft all old left out → (p : BytePart) (next : List ℕ) → left ≡ p ∷ [] → AddsPart print p out next
        → AddsParts all old next
    last_part left out now p next e adds = none_left [] next (one_part left [] out now p next e adds) refl

  -- the parts of bytes have each of them
  pub has_rows : (place : ℕ) (d : List ℕ) (refusal : Option ScanError) (marks : List Mark) (old new : List ℕ) → AddsParts (parts_by place d refusal marks) old new
      → AddsRows print place d refusal marks old new
  has_rows place d refusal marks old new adds = (adds.0, (are_parts place d refusal marks, adds.1), adds.2)

  -- ---- the rows of a datagram

  -- of one that is refused: those before the place, and those from there on
  pub both : (o : Order) (es : List Event) (d before behind old mid new : List ℕ) (e : ScanError) → d ≡ before ++ behind → length before ≡ min (refused_at e) (length d)
      → AddsRows print 0 before None (marks_of o d es) old mid → AddsRows print (length before) behind (Some e) (refused_marks (lists_after o d [] es) e) mid new
      → AddsAllRows print o d es (Some e) old new
  both o es d before behind old mid new e whole at one two =
      let rows = one.0 ++ two.0 in
      let text = two.2 ∙ ap (λ (t : List ℕ). t ++ flat_map print two.0) one.2 ∙ append_assoc old (flat_map print one.0) (flat_map print two.0)
      ∙ ap (λ (t : List ℕ). old ++ t) (sym (flat_map-append print one.0 two.0)) in
      (rows, (before, behind, whole, at, one.0, two.0, refl, one.1, two.1), text)

-- ---- a datagram

line_is : (a : Answer) (o : Option ScanError) → IsRefusalOf a o → refusal_line o ≡ answer_line a
line_is (Ok ms) None i = refl
line_is (Ok ms) (Some e) i = absurd i
line_is (Err r) None i = absurd i
line_is (Err r) (Some e) i = ap refusal_text (sym i)

ending_is : (f : RowFormat) (a : Answer) (o : Option ScanError) → IsRefusalOf a o → refusal_ending f o ≡ ending f a
ending_is Text a o i = line_is a o i
ending_is Coloured a o i = line_is a o i
ending_is Json a o i = refl

taken_is : (a : Answer) (o : Option ScanError) (taken : Bool) → IsRefusalOf a o → is_some o ≡ not taken → taken ≡ is_accepted_answer a
taken_is (Ok ms) None true i e = refl
taken_is (Ok ms) None false i e = e
taken_is (Ok ms) (Some x) taken i e = absurd i
taken_is (Err r) None taken i e = absurd i
taken_is (Err r) (Some x) true i e = e
taken_is (Err r) (Some x) false i e = refl

-- a fault is at one of the bytes
fault_within : (S : Shape) (s : Rest) (p : ℕ) (r : Reason) → FaultAt S s p r → p < s.place + length s.left
unfolding heads
fault_within S s p r f = let l = head_lies (heads S) (laws S) (header s) f.0 f.1 in omega (arith, l.high, l.some, f.2)

is_at_byte : (b : Bounds) (d : List ℕ) (a : Answer) (o : Option ScanError) → Answers b d a → IsRefusalOf a o → IsAtByte d o
is_at_byte b d (Ok ms) None is i = tt
is_at_byte b d (Ok ms) (Some e) is i = absurd i
is_at_byte b d (Err r) None is i = absurd i
is_at_byte b d (Err r) (Some TooLarge) is i = let large : b.datagram < length d = subst (λ (x : ReadError). Refuses b d x) i is in omega (arith, large)
is_at_byte b d (Err r) (Some (Fails h)) is i =
    let at : h.fault.place < 0 + length d = fault_within b.shape (whole d) h.fault.place h.fault.reason (subst (λ (x : ReadError). Refuses b d x) i is).1.0 in
    omega (arith, at)

-- its line, its rows, and the line of its refusal
pub shows : (f : RowFormat) (b : Bounds) (n : ℕ) (d old one two new : List ℕ) (es : List Event) (refusal : Option ScanError) (taken : Bool) → one ≡ old ++ opening f n d
    → AddsAllRows (row_printed f b.shape.order n) b.shape.order d es refusal one two → new ≡ two ++ refusal_ending f refusal → is_some refusal ≡ not taken
    → AreEvents b d es → IsAboutItsHead b d refusal
    → (a : Answer) × Answers b d a × IsRefusalOf a refusal → (found : Viewed) × Views b d found × (new ≡ old ++ viewed_text f b.shape.order n d found) × (taken ≡ is_accepted found)
shows f b n d old one two new es refusal taken line adds end is events head x =
    let front = opening f n d in
    let rows = flat_map (row_printed f b.shape.order n) adds.0 in
    let last = ending f x.0 in (
      record { events = es; rows = adds.0; answer = x.0; refusal = refusal },
      (events, adds.1, x.1, x.2, head, is_at_byte b d x.0 refusal x.1 x.2),
      one_more old two new (front ++ rows) last (one_more old one two front rows line adds.2) (end ∙ ap (λ (t : List ℕ). two ++ t) (ending_is f x.0 refusal x.2)) ∙ ap (λ (t : List ℕ). old ++ t) (append_assoc front rows last),
      taken_is x.0 refusal taken x.2 is,
    )
