-- The keys of a session's entries tell them apart, since their numbers come from bytes.
use Rattle.nl_dump.proofs.Common.{◌≡◌, ℕ, ◌&&◌, ◌==◌, Bool, true, false, cond, List, [], ◌∷◌, ◌++◌, drop, reverse, Option, Some, None, Ok, Err, refl, sym, ap, ◌∙◌, subst, inl, inr, find, filter_map, option_map, bytes_eq, is_some, ◌↔◌, AllByRecursion, Contains, All-contains, All-from_recursion, reverse-append, Order, Shape, AreBytes, Family, New, AreRanged, AnyHead, row, fields_of, head_size, type_of, one_or_other, BodyOf, Layout, BodyVal, object, MessageVal, layout_ranged, Content, last_with, kept_keys, table_of, Dump, Item, item_fields, item_key, body_item, family_item, belongs, end_in, item_in, up_to_end, items_of, View, table_at, Call, begins, feeds, abandons, Course, goes_on, with_messages, with_damage, given_up, Dumps, items_at}
use Rattle.std.proofs.lemmas.Slice.Eq.{bytes_eq-Decides}
use Rattle.nl_attr.specs.Tree.{Items}
use Rattle.nl_attr.proofs.Lemmas.Numbers.{bytes_drop}
use Rattle.nl_attr.proofs.Lemmas.Pieces.{piece_bytes}
use Rattle.nl_frame.specs.Form.{form_of}
use Rattle.nl_frame.specs.Proper.{IsRanged, IsRangedBody}
use Rattle.nl_table.specs.Keys.{AreKeyFields, TellApart}
use Rattle.nl_table.specs.Families.{key_fields}
use Rattle.nl_table.proofs.Leaves.{HasLeaves, fitting_leaves}
use Rattle.nl_table.proofs.KeyFields.{key_fits}
use Rattle.nl_table.proofs.Telling.{apart}
use Rattle.nl_dump.specs.declared.errors.FeedError.TheVariants as feed
use Rattle.nl_dump.specs.Headline.{FeedBytes, EntriesTellApart}
use Rattle.nl_dump.proofs.Courses.{calls_end}

-- ---- the messages of a datagram

-- a body whose head and attributes come from bytes
abbrev pub IsRead : BodyVal → Type 0
IsRead (object h is) = AreRanged (fields_of h) × HasLeaves is
IsRead b = Unit {0}

abbrev pub AreRead : List MessageVal → Type 0
AreRead = AllByRecursion (λ m. IsRead m.body)

module _ (S : Shape) where
  body_read : (b : BodyVal) (m : MessageVal) (payload : List ℕ) → AreBytes payload → BodyOf S b (form_of m.kind) payload → IsRangedBody b → IsRead b
  body_read (object h is) m payload fit body r =
      (r.0, fitting_leaves S is (drop (head_size h.family) payload) _ 0 (bytes_drop (head_size h.family) payload fit) body.1.2)
  body_read b m payload fit body r = tt

  layout_read : (ms : List MessageVal) (d : List ℕ) → AreBytes d → Layout S ms d → IsRanged ms → AreRead ms
  layout_read [] d fit layout r = tt
  layout_read (m ∷ ms) d fit layout r =
      let it = layout.0 in
      let parts = piece_bytes fit layout.3 in
      (body_read m.body m (drop 16 it) (bytes_drop 16 it parts.0) layout.5 r.4, layout_read ms layout.2 parts.1 layout.6 r.5)

-- ---- lists, element by element

module _ {X Y : Type 0} (f : X → Option Y) (P : X → Type 0) (Q : Y → Type 0) (kept : (x : X) (y : Y) → P x → f x ≡ Some y → Q y) where
  filter_map_all : (xs : List X) → AllByRecursion P xs → AllByRecursion Q (filter_map f xs)
  filter_map_all [] a = tt
  filter_map_all (x ∷ xs) a = by (f x) refl (filter_map_all xs a.1)
    where
      by : (o : Option Y) → f x ≡ o → AllByRecursion Q (filter_map f xs) → AllByRecursion Q (filter_map f (x ∷ xs))
      by None e r = rw e r
      by (Some y) e r = rw e (kept x y a.0 e, r)

module _ {X : Type 0} (P : X → Type 0) where
  append_all : (xs ys : List X) → AllByRecursion P xs → AllByRecursion P ys → AllByRecursion P (xs ++ ys)
  append_all [] ys a b = b
  append_all (x ∷ xs) ys a b = (a.0, append_all xs ys a.1 b)

  reverse_all : (xs : List X) → AllByRecursion P xs → AllByRecursion P (reverse xs)
  reverse_all [] a = tt
  reverse_all (x ∷ xs) a = rw (reverse-append (x ∷ []) xs) (append_all (reverse xs) (x ∷ []) (reverse_all xs a.1) (a.0, tt))

  -- what is found passes the test
  found : (p : X → Bool) (xs : List X) (x : X) → AllByRecursion P xs → find p xs ≡ Some x → (p x ≡ true) × P x
  found p [] x a e = cc
  found p (y ∷ ys) x a e = by (p y) refl (found p ys x a.1)
    where
      same : Some y ≡ Some x → y ≡ x
      same h = cc

      by : (b : Bool) → p y ≡ b → (find p ys ≡ Some x → (p x ≡ true) × P x) → (p x ≡ true) × P x
      by true t r = subst (λ (z : X). (p z ≡ true) × P z) (same (rw t at e)) (t, a.0)
      by false t r = r (rw t at e)

-- ---- the items of a dump

-- an item of this family whose key has fields that a value can have
abbrev pub IsKeyed : Order → Family → Item → Type 0
IsKeyed o k item = (item.0.family ≡ k) × AreKeyFields (item_fields o item)

module _ (o : Order) where
  family_keyed : (k : Family) (h : AnyHead) (is : Items) (x : Item) → AreRanged (fields_of h) → HasLeaves is → family_item k h is ≡ Some x → IsKeyed o k x
  family_keyed k h is x r leaves e =
      elim (one_or_other k h.family) [
        | inl w ↦ subst (IsKeyed o k) (some_same (rw w.1 at e)) (sym w.0, key_fits o is leaves h.family h.head r)
        | inr w ↦ none_some (rw w.1 at e)
      ]
    where
      some_same : Some (h, is) ≡ Some x → (h, is) ≡ x
      some_same s = cc

      none_some : None ≡ Some x → IsKeyed o k x
      none_some s = cc

  body_keyed : (k : Family) (b : BodyVal) (x : Item) → IsRead b → body_item k b ≡ Some x → IsKeyed o k x
  body_keyed k (object h is) x r e = family_keyed k h is x r.0 r.1 e
  body_keyed k b x r e = cc

  item_keyed : (d : Dump) (m : MessageVal) (x : Item) → IsRead m.body → item_in d m ≡ Some x → IsKeyed o d.kind x
  item_keyed d m x r e = by (belongs d m && (m.kind == type_of d.kind New)) e
    where
      by : (b : Bool) → cond b (body_item d.kind m.body) None ≡ Some x → IsKeyed o d.kind x
      by true h = body_keyed d.kind m.body x r h
      by false h = cc

  up_to_read : (d : Dump) (ms : List MessageVal) → AreRead ms → AreRead (up_to_end d ms)
  up_to_read d [] r = tt
  up_to_read d (m ∷ ms) r = by (is_some (end_in d m)) (up_to_read d ms r.1)
    where
      by : (b : Bool) → AreRead (up_to_end d ms) → AreRead (cond b (m ∷ []) (m ∷ up_to_end d ms))
      by true more = (r.0, tt)
      by false more = (r.0, more)

  items_keyed : (d : Dump) (ms : List MessageVal) → AreRead ms → AllByRecursion (IsKeyed o d.kind) (items_of d ms)
  items_keyed d ms r = filter_map_all (item_in d) (λ m. IsRead m.body) (IsKeyed o d.kind) (item_keyed d) (up_to_end d ms) (up_to_read d ms r)

-- ---- the dumps of a session

abbrev pub IsCourseRead : Course → Type 0
IsCourseRead c = AreRead c.messages

goes_read : (f : Course → Course) → ((c : Course) → IsCourseRead c → IsCourseRead (f c)) → (ds : List Course) → AllByRecursion IsCourseRead ds → AllByRecursion IsCourseRead (goes_on f ds)
goes_read f kept [] r = tt
goes_read f kept (c ∷ cs) r = (kept c r.0, r.1)

-- what changes nothing but whether a dump was damaged or abandoned
same_read : (f : Course → Course) → ((c : Course) → (f c).messages ≡ c.messages) → (old new : List Course) → new ≡ goes_on f old → AllByRecursion IsCourseRead old → AllByRecursion IsCourseRead new
same_read f same old new e r = subst (AllByRecursion IsCourseRead) (sym e) (goes_read f (λ c h. subst AreRead (sym (same c)) h) old r)

module _ (S : Shape) where
  dumps_read : (cs : List Call) (ds : List Course) → FeedBytes cs → Dumps S cs ds → AllByRecursion IsCourseRead ds
  dumps_read [] ds fit e = subst (AllByRecursion IsCourseRead) (sym e) tt
  dumps_read (begins d (Ok request) ∷ cs) ds fit f = subst (AllByRecursion IsCourseRead) (sym f.2) (tt, dumps_read cs f.0 fit f.1)
  dumps_read (begins d (Err e) ∷ cs) ds fit f = subst (AllByRecursion IsCourseRead) (sym f.2) (dumps_read cs f.0 fit f.1)
  dumps_read (feeds bytes (Ok p) ∷ cs) ds fit f =
      let ms = f.2.0 in
      let read = layout_read S ms bytes fit.0 f.2.1 (layout_ranged S ms bytes fit.0 f.2.1) in
      subst (AllByRecursion IsCourseRead) (sym f.2.2)
      (goes_read (with_messages ms) (λ c h. append_all (λ m. IsRead m.body) c.messages ms h read) f.0 (dumps_read cs f.0 fit.1 f.1))
  dumps_read (feeds bytes (Err feed.NotWaiting) ∷ cs) ds fit f = subst (AllByRecursion IsCourseRead) (sym f.2) (dumps_read cs f.0 fit.1 f.1)
  dumps_read (abandons (Ok u) ∷ cs) ds fit f = same_read given_up (λ c. refl) f.0 ds f.2 (dumps_read cs f.0 fit f.1)
  dumps_read (abandons (Err e) ∷ cs) ds fit f = subst (AllByRecursion IsCourseRead) (sym f.2) (dumps_read cs f.0 fit f.1)
  dumps_read (c ∷ cs) ds fit f = same_read with_damage (λ c. refl) f.0 ds f.2 (dumps_read cs f.0 fit.1 f.1)

newest_keyed : (o : Order) (k : Family) (ds : List Course) → AllByRecursion IsCourseRead ds → AllByRecursion (IsKeyed o k) (items_at k ds)
newest_keyed o k [] r = tt
newest_keyed o k (c ∷ cs) r =
    elim (one_or_other k c.dump.kind) [
      | inl w ↦ rw w.1 (subst (λ (g : Family). AllByRecursion (IsKeyed o g) (items_of c.dump c.messages)) (sym w.0) (items_keyed o c.dump c.messages r.0))
      | inr w ↦ rw w.1 (newest_keyed o k cs r.1)
    ]

-- ---- the entries of a table

-- an entry under its item's key
abbrev pub IsEntry : Order → Family → List ℕ × Item → Type 0
IsEntry o k e = (e.0 ≡ item_key o e.1) × IsKeyed o k e.1

entries_keyed : (o : Order) (k : Family) (limit : ℕ) (items : List Item) → AllByRecursion (IsKeyed o k) items → AllByRecursion (IsEntry o k) (table_of (item_key o) limit items)
entries_keyed o k limit items keyed =
    filter_map_all (λ key. option_map (λ x. (key, x)) (last_with (item_key o) key items)) (λ key. Unit {0}) (IsEntry o k) entry (kept_keys (item_key o) limit items) (any (kept_keys (item_key o) limit items))
  where
    any : (keys : List (List ℕ)) → AllByRecursion (λ key. Unit {0}) keys
    any [] = tt
    any (key ∷ keys) = (tt, any keys)

    entry : (key : List ℕ) (e : List ℕ × Item) → Unit {0} → option_map (λ x. (key, x)) (last_with (item_key o) key items) ≡ Some e → IsEntry o k e
    entry key e u is = by (last_with (item_key o) key items) refl is
      where
        by : (x : Option Item) → last_with (item_key o) key items ≡ x → option_map (λ y. (key, y)) x ≡ Some e → IsEntry o k e
        by None h s = cc
        by (Some x) h s =
            let f = found (IsKeyed o k) (λ y. bytes_eq key (item_key o y)) (reverse items) x (reverse_all (IsKeyed o k) items keyed) h in
            subst (IsEntry o k) (pair_same s) ((bytes_eq-Decides key (item_key o x)).0 f.0, f.1)
          where
            pair_same : Some (key, x) ≡ Some e → (key, x) ≡ e
            pair_same t = cc

-- two items of a family
items_apart : (o : Order) (g h : Family) → g ≡ h → (a : (row g).Head) (b : (row h).Head) (is js : Items) → TellApart (key_fields g o a is) (key_fields h o b js)
items_apart o g h e = subst (λ (h : Family). (a : (row g).Head) (b : (row h).Head) (is js : Items) → TellApart (key_fields g o a is) (key_fields h o b js)) e (apart g o)

both_ways : (o : Order) (k : Family) (e f : List ℕ × Item) → IsEntry o k e → IsEntry o k f → (e.0 ≡ f.0) ↔ (item_fields o e.1 ≡ item_fields o f.1)
both_ways o k e f p q =
    let x = e.1 in
    let y = f.1 in
    let t = items_apart o x.0.family y.0.family (p.1.0 ∙ sym q.1.0) x.0.head y.0.head x.1 y.1 p.1.1 q.1.1 in
    (λ same. t.0 (sym p.0 ∙ same ∙ q.0), λ same. p.0 ∙ t.1 same ∙ sym q.0)

pub tell_apart : EntriesTellApart
tell_apart b cs v fit calls k e f has_e has_f =
    let o = b.shape.order in
    let s = calls_end b cs v calls in
    let items = items_at k s.dumps in
    let keyed = entries_keyed o k b.entries items (newest_keyed o k s.dumps (dumps_read b.shape cs s.dumps fit s.dumps_are)) in
    let all : AllByRecursion (IsEntry o k) (table_at k v.tables).entries = subst (AllByRecursion (IsEntry o k)) (sym (ap (λ (c : Content Item). c.entries) (s.tables k))) keyed in
    both_ways o k e f (each k v all e has_e) (each k v all f has_f)
  where
    each : (k : Family) (v : View) → AllByRecursion (IsEntry b.shape.order k) (table_at k v.tables).entries → (x : List ℕ × Item) → Contains (table_at k v.tables).entries x → IsEntry b.shape.order k x
    each k v all x has = All-contains (IsEntry b.shape.order k) (table_at k v.tables).entries x (All-from_recursion (IsEntry b.shape.order k) (table_at k v.tables).entries all) has
