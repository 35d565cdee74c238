-- Events that are sifted, one after another.
use Rattle.nl_dump.proofs.Common.{◌≡◌, ℕ, zero, suc, ◌+◌, ◌-◌, ◌≤◌, ◌<◌, ◌==◌, ◌||◌, Bool, true, false, cond, List, [], ◌∷◌, ◌++◌, length, take, drop, get_or, Option, Some, None, refl, sym, ap, ◌∙◌, subst, arith, length-append, take_more, get_or-drop, length-take-le, Event, SORT_MESSAGE, put_from, Order, New, type_of, Dump, End, Found, Counts, one_if, no_counts, judge, at_head, counted, step, counts_of, keeping, kept, IsFront, role_by, end_here, belongs_in, marked_in, left_at, found_in, found_at}
use Rattle.std.proofs.lemmas.Bool.{eq-eqb, ne_eqb}
use Rattle.nl_attr.proofs.Lemmas.Putting.{put_none, put_nowhere, put_here, put_on, put_untouched}
use Rattle.nl_dump.specs.declared.role.Role.{Role}
use Rattle.nl_dump.specs.declared.role.Role.TheVariants.{Item as Brings, Other}

-- ---- what is counted

-- as many events as before, and no more than one more item or message that is ignored
abbrev IsNext : Counts → Counts → Type 0
IsNext s t = (t.events ≡ s.events) × (t.items ≤ s.items + 1) × (t.ignored ≤ s.ignored + 1)

judge_next : (o : Option End) (r : Role (Unit {0})) (m : Bool) (s : Counts) → IsNext s (judge o r m s)
judge_next None (Brings t) m s = (refl, omega arith, omega arith)
judge_next o r m s = (refl, omega arith, omega arith)

one_low : (b : Bool) → one_if b ≤ 1
one_low true = omega arith
one_low false = omega arith

length-keeping : (b : Bool) (e : Event) (es : List Event) → length (keeping b e es) ≡ one_if b + length es
length-keeping true e es = omega arith
length-keeping false e es = omega arith

keeping-append : (b : Bool) (e : Event) (es fs : List Event) → keeping b e es ++ fs ≡ keeping b e (es ++ fs)
keeping-append true e es fs = refl
keeping-append false e es fs = refl

-- what is read where there is no event
abbrev pub no_event : Event
no_event = record { place = 0; len = 0; number = 0; level = 0; sort = 0; nested = false; net = false }

-- what was taken from the front of a buffer is put back
put_same : (n : ℕ) (old : List Event) → put_from 0 (take n old) old ≡ old
put_same zero old = put_none 0 old
put_same (suc n) [] = put_nowhere 0 []
put_same (suc n) (x ∷ xs) = put_here x (take n xs) x xs ∙ ap (λ l. x ∷ l) (put_same n xs)

module _ (find : Event → Found) where
  head_next : (e : Event) (s : Counts) → IsNext s (at_head find e s)
  head_next e s = by (e.sort == SORT_MESSAGE)
    where
      by : (b : Bool) → IsNext s (cond b (judge s.end (find e).role (find e).marked s) s)
      by true = judge_next s.end (find e).role (find e).marked s
      by false = (refl, omega arith, omega arith)

  -- ---- one more event

  pub counts-append : (s : Counts) (es fs : List Event) → counts_of find s (es ++ fs) ≡ counts_of find (counts_of find s es) fs
  counts-append s [] fs = refl
  counts-append s (e ∷ es) fs = counts-append (step find s e) es fs

  pub kept-append : (s : Counts) (es fs : List Event) → kept find s (es ++ fs) ≡ kept find s es ++ kept find (counts_of find s es) fs
  kept-append s [] fs = refl
  kept-append s (e ∷ es) fs =
      let t = step find s e in
      ap (keeping t.keeps e) (kept-append t es fs) ∙ sym (keeping-append t.keeps e (kept find t es) (kept find (counts_of find t es) fs))

  -- so many are kept
  pub counts-events : (s : Counts) (es : List Event) → (counts_of find s es).events ≡ s.events + length (kept find s es)
  counts-events s [] = omega arith
  counts-events s (e ∷ es) =
      let t = step find s e in
      omega (arith, counts-events t es, (head_next e s).0, length-keeping t.keeps e (kept find t es))

  -- so many events were sifted into a buffer
  pub record IsSifting (old : List Event) (at : ℕ) (s : Counts) (out : List Event) : Type 0 where
    pub found : s ≡ counts_of find no_counts (take at old)
    pub events : out ≡ put_from 0 (kept find no_counts (take at old)) old
    pub counted_is : s.events ≡ length (kept find no_counts (take at old))
    pub events_low : s.events ≤ at
    pub items_low : s.items ≤ at
    pub ignored_low : s.ignored ≤ at

  -- where all are kept, the buffer is as it was
  pub begins : (old : List Event) (s : Counts) → s.events ≤ length old → IsFront find old s → IsSifting old s.events s old
  begins old s low is = record {
    found = is.found;
    events = sym (ap (λ l. put_from 0 l old) is.all ∙ put_same s.events old);
    counted_is = sym (ap (length {A = Event}) is.all ∙ length-take-le s.events old low);
    events_low = omega arith;
    items_low = is.items;
    ignored_low = omega (arith, is.ignored);
  }

  -- what comes next in the buffer is as it was
  pub still : (old : List Event) (at : ℕ) (s : Counts) (out : List Event) (d : Event) → IsSifting old at s out → get_or out at d ≡ get_or old at d
  still old at s out d now =
      let ks = kept find no_counts (take at old) in
      let n = length ks in
      let low : n + (at - n) ≡ at = omega (arith, now.events_low, now.counted_is) in
      let same : drop n out ≡ drop n old =
      ap (drop n) now.events ∙ ap (λ k. drop k (put_from 0 ks old)) (omega arith) ∙ put_untouched 0 ks old ∙ ap (λ k. drop k old) (omega arith) in
      sym (get_or-drop n out (at - n) d ∙ ap (λ k. get_or out k d) low)
      ∙ ap (λ l. get_or l (at - n) d) same
      ∙ get_or-drop n old (at - n) d ∙ ap (λ k. get_or old k d) low

  goes_on : (old : List Event) (at : ℕ) (s : Counts) (out new : List Event) (d e : Event) → IsSifting old at s out → at < length old → e ≡ get_or old at d
      → new ≡ put_from s.events (keeping (step find s e).keeps e []) out → IsSifting old (at + 1) (step find s e) new
  goes_on old at s out new d e now low is put =
      let more : take (at + 1) old ≡ take at old ++ e ∷ [] = take_more old at d low ∙ ap (λ x. take at old ++ x ∷ []) (sym is) in
      let ks = kept find no_counts (take at old) in
      let one = keeping (step find s e).keeps e [] in
      let all : kept find no_counts (take (at + 1) old) ≡ ks ++ one =
      ap (kept find no_counts) more ∙ kept-append no_counts (take at old) (e ∷ []) ∙ ap (λ t. ks ++ kept find t (e ∷ [])) (sym now.found) in
      let len : length (ks ++ one) ≡ s.events + one_if (step find s e).keeps = omega (arith, length-append ks one, length-keeping (step find s e).keeps e [], now.counted_is) in
      record {
        found = ap (λ t. step find t e) now.found ∙ sym (ap (counts_of find no_counts) more ∙ counts-append no_counts (take at old) (e ∷ []));
        events = put ∙ ap (λ x. put_from s.events one x) now.events ∙ ap (λ n. put_from n one (put_from 0 ks old)) (omega (arith, now.counted_is)) ∙ put_on 0 ks one old ∙ ap (λ x. put_from 0 x old) (sym all);
        counted_is = ap (λ n. n + one_if (step find s e).keeps) ((head_next e s).0) ∙ sym len ∙ ap length (sym all);
        events_low = omega (arith, now.events_low, (head_next e s).0, one_low (step find s e).keeps);
        items_low = omega (arith, now.items_low, (head_next e s).1);
        ignored_low = omega (arith, now.ignored_low, (head_next e s).2);
      }

  pub goes_on_so : (old : List Event) (at : ℕ) (s t u : Counts) (out new : List Event) → IsSifting old at s out → at < length old → t ≡ at_head find (get_or out at no_event) s
      → u ≡ counted t → new ≡ put_from t.events (keeping t.keeps (get_or out at no_event) []) out → IsSifting old (at + 1) u new
  goes_on_so old at s t u out new now low head count put =
      let e = get_or out at no_event in
      let whole : u ≡ step find s e = count ∙ ap counted head in
      let at_events : t.events ≡ s.events = ap (λ (x : Counts). x.events) head ∙ (head_next e s).0 in
      subst (λ x. IsSifting old (at + 1) x new) (sym whole)
      (goes_on old at s out new no_event e now low (still old at s out no_event now)
      (put ∙ ap (λ n. put_from n (keeping t.keeps e []) out) at_events ∙ ap (λ (x : Counts). put_from s.events (keeping x.keeps e []) out) head))

  -- ---- a front that is kept whole

  more_front : (old : List Event) (s t : Counts) (d e : Event) → IsFront find old s → s.events < length old → e ≡ get_or old s.events d
      → t ≡ step find s e → t.events ≡ s.events + 1 → t.keeps ≡ true → t.end ≡ None → t.items ≤ t.events → t.ignored ≡ 0 → IsFront find old t
  more_front old s t d e is low here whole many keeps end items ignored =
      let n = s.events in
      let more : take t.events old ≡ take n old ++ e ∷ [] = ap (λ k. take k old) many ∙ take_more old n d low ∙ ap (λ x. take n old ++ x ∷ []) (sym here) in
      let one : kept find s (e ∷ []) ≡ e ∷ [] = ap (λ (x : Counts). keeping x.keeps e []) (sym whole) ∙ ap (λ b. keeping b e []) keeps in
      record {
        found = whole ∙ ap (λ x. step find x e) is.found ∙ sym (ap (counts_of find no_counts) more ∙ counts-append no_counts (take n old) (e ∷ []));
        all = ap (kept find no_counts) more ∙ kept-append no_counts (take n old) (e ∷ []) ∙ ap (λ x. kept find no_counts (take n old) ++ kept find x (e ∷ [])) (sym is.found)
            ∙ ap (λ l. kept find no_counts (take n old) ++ l) one ∙ ap (λ l. l ++ e ∷ []) is.all ∙ sym more;
        keeps = keeps;
        end = end;
        items = items;
        ignored = ignored;
      }

  -- an event that is of no message
  pub inner_front : (old : List Event) (s : Counts) (d : Event) → IsFront find old s → s.events < length old → (get_or old s.events d).sort == SORT_MESSAGE ≡ false
      → IsFront find old (record s { events = s.events + 1 })
  inner_front old s d is low other =
      let e = get_or old s.events d in
      let whole : record s { events = s.events + 1 } ≡ step find s e =
      ap (λ b. record s { events = s.events + one_if b }) (sym is.keeps) ∙ ap (λ b. counted (cond b (judge s.end (find e).role (find e).marked s) s)) (sym other) in
      more_front old s _ d e is low refl whole refl is.keeps is.end (omega (arith, is.items)) is.ignored

  -- that of an item
  pub item_front : (old : List Event) (s : Counts) (d : Event) (m : Bool) → IsFront find old s → s.events < length old → (get_or old s.events d).sort == SORT_MESSAGE ≡ true
      → find (get_or old s.events d) ≡ record { role = Brings tt; marked = m }
      → IsFront find old (record s { events = s.events + 1; items = s.items + 1; interrupted = s.interrupted || m })
  item_front old s d m is low message item =
      let e = get_or old s.events d in
      let t : Counts = record s { events = s.events + 1; items = s.items + 1; interrupted = s.interrupted || m } in
      let judged : judge s.end (find e).role (find e).marked s ≡ record s { keeps = true; items = s.items + 1; interrupted = s.interrupted || m } =
      ap (λ o. judge o (find e).role (find e).marked s) is.end ∙ ap (λ (f : Found). judge None f.role f.marked s) item in
      let whole : t ≡ step find s e =
      ap (λ b. record s { keeps = b; events = s.events + 1; items = s.items + 1; interrupted = s.interrupted || m }) is.keeps ∙ ap counted (sym judged)
      ∙ ap (λ b. counted (cond b (judge s.end (find e).role (find e).marked s) s)) (sym message) in
      more_front old s t d e is low refl whole refl is.keeps is.end (omega (arith, is.items)) is.ignored

  -- by its place
  pub inner_at : (old : List Event) (at : ℕ) (s t : Counts) (d : Event) → (s.events ≡ at) × IsFront find old s → at < length old → ((get_or old at d).sort ≡ SORT_MESSAGE → ⊥) → t ≡ s
      → IsFront find old (record t { events = at + 1 })
  inner_at old at s t d is low other same =
      subst (λ x. IsFront find old (record x { events = at + 1 })) (sym same)
      (subst (λ n. n < length old → (get_or old n d).sort == SORT_MESSAGE ≡ false → IsFront find old (record s { events = n + 1 })) is.0 (inner_front old s d is.1) low (ne_eqb (get_or old at d).sort SORT_MESSAGE other))

  pub item_at : (old : List Event) (at : ℕ) (s t : Counts) (d : Event) (m : Bool) → (s.events ≡ at) × IsFront find old s → at < length old → (get_or old at d).sort ≡ SORT_MESSAGE
      → find (get_or old at d) ≡ record { role = Brings tt; marked = m } → t ≡ record s { items = s.items + 1; interrupted = s.interrupted || m } → IsFront find old (record t { events = at + 1 })
  item_at old at s t d m is low message item same =
      subst (λ x. IsFront find old (record x { events = at + 1 })) (sym same)
      (subst (λ n. n < length old → (get_or old n d).sort == SORT_MESSAGE ≡ true → find (get_or old n d) ≡ record { role = Brings tt; marked = m }
      → IsFront find old (record s { events = n + 1; items = s.items + 1; interrupted = s.interrupted || m })) is.0 (item_front old s d m is.1) low (eq-eqb (get_or old at d).sort SORT_MESSAGE message) item)

-- what an item is found as
pub item_found : (o : Order) (d : Dump) (bytes left : List ℕ) (e : Event) (m : Bool) → left_at bytes e.place ≡ Some left → e.number ≡ type_of d.kind New → belongs_in o d left ≡ true → m ≡ marked_in o left
    → found_at o d bytes e ≡ record { role = Brings tt; marked = m }
item_found o d bytes left e m stands new belongs marked =
    ap (found_in o d e.number) stands
    ∙ ap (λ b. record { role = cond b (cond (e.number == type_of d.kind New) (Brings tt) (role_by (end_here o left))) Other; marked = marked_in o left }) belongs
    ∙ ap (λ b. record { role = cond b (Brings tt) (role_by (end_here o left)); marked = marked_in o left }) (eq-eqb e.number (type_of d.kind New) new)
    ∙ ap (λ x. record { role = Brings tt; marked = x }) (sym marked)
