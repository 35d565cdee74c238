-- What is sifted of a datagram's events is what its messages are to the dump.
use Rattle.nl_dump.proofs.Common.{◌≡◌, ◌+◌, ◌==◌, false, cond, List, [], ◌∷◌, ◌++◌, length, map, filter_map, Option, Some, None, is_some, refl, ap, ◌∙◌, arith, ◌≢◌, ℕ, ◌&&◌, ◌≤◌, Bool, true, pos, drop, Result, Ok, sym, subst, append_assoc, length-append, Event, SORT_MESSAGE, Order, Shape, sort_of, event_at, inner, Rest, behind, region_of, whole, header, MessageVal, BodyVal, error, done, object, header_of, BodyOf, Layout, trail_ends, trail_goes, Dump, End, Done, Error, Found, Counts, Item, body_item, item_in, up_to_end, belongs, body_end, end_in, items_of, AreCounts, is_marked, role_of, role_for, form_end, unbroken, role_by, left_at, found_in, found_at, no_counts, judge, counted, step, counts_of, keeping, kept, Family, New, type_of, row, family_of, is_family}
use Rattle.std.proofs.lemmas.Bool.{le-ltb, lt-ltb, eq-eqb, eqb-true}
use Rattle.std.proofs.lemmas.List.{append-nil, drop-drop, length-drop, map-append}
use Rattle.std.specs.Ordering.{int_eq}
use Rattle.nl_attr.specs.declared.tree.Content.{Content}
use Rattle.nl_attr.specs.declared.tree.Content.TheVariants as content
use Rattle.nl_attr.specs.declared.fault.Fault.{Fault}
use Rattle.nl_attr.specs.declared.fault.Reason.{Reason}
use Rattle.nl_attr.specs.Scanned.{without}
use Rattle.nl_attr.specs.Heads.{Head, Sort, attr_head, hop_head, content_at}
use Rattle.nl_attr.specs.HeadOrder as regions
use Rattle.nl_attr.specs.Reading.{Outcome}
use Rattle.nl_attr.specs.Grammar.{and_on}
use Rattle.nl_attr.proofs.Lemmas.Fitting.{ReadAs}
use Rattle.nl_attr.proofs.Lemmas.First as region
use Rattle.nl_attr.proofs.Lemmas.Reading.{sound_within}
use Rattle.nl_attr.proofs.Lemmas.Grammars.{front}
use Rattle.nl_frame.specs.HeadOrder.{event_of, region_trail, Trail, events_of, trail_of, visits_of}
use Rattle.nl_frame.specs.declared.form.Form.{Form}
use Rattle.nl_frame.specs.declared.form.Form.TheVariants as form
use Rattle.nl_frame.specs.declared.header.Header.{Header}
use Rattle.nl_frame.specs.Form.{form_of, form_for}
use Rattle.nl_frame.specs.Front.{form_at, payload_at, span_at}
use Rattle.nl_frame.specs.Reading.{signed_of, body_at}
use Rattle.nl_frame.proofs.Layouts.{body_fit, IsMessage, header_in, message_is, messages_fit, some_of}
use Rattle.nl_frame.proofs.Firsts.{reads}
use Rattle.nl_dump.specs.declared.role.Role.{Role}
use Rattle.nl_dump.specs.declared.role.Role.TheVariants.{Item as Brings, Other}
use Rattle.nl_dump.specs.Handed.{message_events, events_among, item_events, headers_in, OneHeaderForEachItem}
use Rattle.nl_dump.proofs.Counting.{more_behind, more_end, more_item, more_other, none_summed}
use Rattle.nl_dump.proofs.Courses.{end_no_item}
use Rattle.nl_dump.proofs.Sieve.{counts-append, kept-append}

headers-append : (es fs : List Event) → headers_in (es ++ fs) ≡ headers_in es + headers_in fs
headers-append [] fs = omega arith
headers-append (e ∷ es) fs = omega (arith, headers-append es fs)

-- a head in a message is none
pub inner_sort : (o : Order) (k : Sort) (h : Head) → (event_at o k h).sort == SORT_MESSAGE ≡ false
inner_sort o attr_head h = by (content_at o h.ctx h.left)
  where
    by : (c : Content) → sort_of c == SORT_MESSAGE ≡ false
    by content.Bytes = refl
    by (content.List c) = refl
    by content.Hops = refl
inner_sort o hop_head h = refl

inner_headers : (o : Order) (hs : List Head) → headers_in (map (event_of o) (map inner hs)) ≡ 0
inner_headers o [] = refl
inner_headers o (h ∷ hs) = ap (λ b. cond b 1 0 + headers_in (map (event_of o) (map inner hs))) (inner_sort o h.sort h) ∙ omega (arith, inner_headers o hs)

region_headers : (S : Shape) (x : Option Head) → headers_in (map (event_of S.order) (region_trail S x).0) ≡ 0
region_headers S None = refl
region_headers S (Some h) = inner_headers S.order (regions.trail_of S h).0

message_header : (S : Shape) (r : Rest) → headers_in (message_events S r) ≡ 1
message_header S r = omega (arith, region_headers S (region_of S r))

among : (S : Shape) (d : Dump) (ms : List MessageVal) (r : Rest) → headers_in (events_among S d ms r) ≡ length (filter_map (item_in d) ms)
among S d [] r = refl
among S d (m ∷ ms) r = by (item_in d m) refl (among S d ms (behind S r))
  where
    by : (o : Option Item) → item_in d m ≡ o → headers_in (events_among S d ms (behind S r)) ≡ length (filter_map (item_in d) ms)
        → headers_in (cond (is_some o) (message_events S r ++ events_among S d ms (behind S r)) (events_among S d ms (behind S r))) ≡ length (filter_map (item_in d) (m ∷ ms))
    by None h e = rw h e
    by (Some x) h e = rw h (omega (arith, e, message_header S r, headers-append (message_events S r) (events_among S d ms (behind S r))))

pub one_header : OneHeaderForEachItem
one_header S d ms bytes = among S d (up_to_end d ms) (whole bytes)

-- ---- one message, as it lies in its datagram

-- how it ends a dump
ends_so : (S : Shape) (c : BodyVal) (f : Form) (payload : List ℕ) → BodyOf S c f payload → form_end S.order f payload ≡ body_end c
ends_so S (error code h tail) f payload b =
    let r = (body_fit S (error code h tail) f 0 payload b).1 in
    let read : ReadAs (body_at S form.Error 0 payload) (error code h tail) = subst (λ x. ReadAs (body_at S x 0 payload) (error code h tail)) b.0 r in
    let same : ◌≡◌ {A = Result BodyVal Fault} (Ok _) (Ok (error code h tail)) = ap (λ (p : Outcome BodyVal). p.0) read.1 in
    let is : signed_of S.order payload ≡ code = cc in
    ap (λ x. form_end S.order x payload) b.0 ∙ ap (λ z. cond (int_eq z (pos 0)) None (Some (Error z))) is
ends_so S (done None tail) f payload b = ap (λ x. form_end S.order x payload) b.0 ∙ ap Some (rw (lt-ltb (length payload) 4 b.1) refl)
ends_so S (done (Some z) tail) f payload b =
    let r = (body_fit S (done (Some z) tail) f 0 payload b).1 in
    let read : ReadAs (body_at S form.Done 0 payload) (done (Some z) tail) = subst (λ x. ReadAs (body_at S x 0 payload) (done (Some z) tail)) b.0 r in
    let same : ◌≡◌ {A = Result BodyVal Fault} (Ok (done (Some (signed_of S.order payload)) (drop 4 payload))) (Ok (done (Some z) tail)) = rw (le-ltb (length payload) 4 b.1) at (ap (λ (p : Outcome BodyVal). p.0) read.1) in
    let is : signed_of S.order payload ≡ z = cc in
    ap (λ x. form_end S.order x payload) b.0 ∙ ap Some (rw (le-ltb (length payload) 4 b.1) (ap Done is))
ends_so S c f payload b = ap (λ x. form_end S.order x payload) b.0

-- a NEW of a family has its body
brings_so : (S : Shape) (k : Family) (c : BodyVal) (f : Form) (payload : List ℕ) → BodyOf S c f payload → f ≡ form.Object k → is_some (body_item k c) ≡ true
brings_so S k (object h is) f payload b e =
    let x : form.Object (family_of h) ≡ form.Object k = sym b.0 ∙ e in
    let same : family_of h ≡ k = cc in
    ap (λ y. is_some {T = Item} (cond y (Some (h, is)) None)) (eq-eqb (row k).new (row h.family).new (ap (λ (g : Family). (row g).new) (sym same)))
brings_so S k (done None tail) f payload b e = cc (b.0, e)
brings_so S k (done (Some z) tail) f payload b e = cc (b.0, e)
brings_so S k c f payload b e = cc (b.0, e)

form_new : (k : Family) → form_of (type_of k New) ≡ form.Object k
form_new k = ap (form_for (type_of k New)) (is_family k).new

role_so : (S : Shape) (d : Dump) (m : MessageVal) (payload : List ℕ) → BodyOf S m.body (form_of m.kind) payload
    → cond (belongs d m) (cond (m.kind == type_of d.kind New) (Brings tt) (role_by (form_end S.order (form_of m.kind) payload))) Other ≡ role_for d m
role_so S d m payload b = by (belongs d m) (m.kind == type_of d.kind New) (λ e. brings_so S d.kind m.body (form_of m.kind) payload b (is_new e)) (λ e. sym ends ∙ ap (λ f. form_end S.order f payload) (is_new e))
  where
    ends : form_end S.order (form_of m.kind) payload ≡ body_end m.body
    ends = ends_so S m.body (form_of m.kind) payload b

    is_new : (m.kind == type_of d.kind New) ≡ true → form_of m.kind ≡ form.Object d.kind
    is_new e = ap form_of (eqb-true m.kind (type_of d.kind New) e) ∙ form_new d.kind

    no_item : (x : Option End) → role_by x ≡ role_of x false
    no_item (Some e) = refl
    no_item None = refl

    by : (a k : Bool) → (k ≡ true → is_some (body_item d.kind m.body) ≡ true) → (k ≡ true → body_end m.body ≡ None)
        → cond a (cond k (Brings tt) (role_by (form_end S.order (form_of m.kind) payload))) Other ≡ role_of (cond a (body_end m.body) None) (is_some (cond (a && k) (body_item d.kind m.body) None))
    by true true h n = sym (ap (λ x. role_of x (is_some (body_item d.kind m.body))) (n refl) ∙ ap (role_of None) (h refl))
    by true false h n = ap role_by ends ∙ no_item (body_end m.body)
    by false k h n = refl

-- what stands in the first bytes of a message
left_so : (bytes : List ℕ) (place : ℕ) → 16 ≤ length (drop place bytes) → left_at bytes place ≡ Some (drop place bytes)
left_so bytes place h = rw (le-ltb (length bytes) (place + 16) (omega (arith, h, length-drop place bytes))) refl

-- what a message with this header is, and a body that ends a dump so
abbrev found_by : Dump → Header → Option End → Found
found_by d h e = record {
  role = cond ((h.seq == d.seq) && (h.port == d.port)) (cond (h.kind == type_of d.kind New) (Brings tt) (role_by e)) Other;
  marked = is_marked h.flags;
}

found_so : (S : Shape) (d : Dump) (m : MessageVal) (left it rest : List ℕ) → IsMessage S m left it rest → BodyOf S m.body (form_of m.kind) (drop 16 it)
    → found_in S.order d (header_of S.order left).kind (Some left) ≡ record { role = role_for d m; marked = is_marked m.flags }
found_so S d m left it rest is b =
    ap (λ (x : Option Reason). found_by d (header_of S.order left) (unbroken x (form_end S.order (form_at S.order left) (payload_at S.order left)))) is.sound
    ∙ ap (λ (h : Header). found_by d h (form_end S.order (form_at S.order left) (payload_at S.order left))) is.header_is
    ∙ ap (λ (f : Form). found_by d (header_in m it) (form_end S.order f (payload_at S.order left))) is.form_is
    ∙ ap (λ (p : List ℕ). found_by d (header_in m it) (form_end S.order (form_of m.kind) p)) is.payload_is
    ∙ ap (λ (r : Role (Unit {0})). record { role = r; marked = is_marked m.flags }) (role_so S d m (drop 16 it) b)

-- ---- what was found of messages

module _ (d : Dump) (ms : List MessageVal) (m : MessageVal) (s : Counts) (so : AreCounts d ms s) where
  pub judge_counts : AreCounts d (ms ++ m ∷ []) (judge s.end (role_for d m) (is_marked m.flags) s)
  judge_counts = by s.end refl
    where
      apart : (x : Option End) (y : Option Item) → end_in d m ≡ x → item_in d m ≡ y → s.end ≡ None → AreCounts d (ms ++ m ∷ []) (judge None (role_of x (is_some y)) (is_marked m.flags) s)
      apart (Some f) y e i h =
          let t = more_end d ms m s.ignored s.interrupted s.end so.sums h f (end_no_item d m (ap is_some e)) e in
          record { items = so.items ∙ ap length (sym t.0); sums = t.1 }
      apart None (Some x) e i h =
          let t = more_item d ms m s.ignored s.interrupted s.end so.sums h x i e in
          record { items = omega (arith, so.items, ap length t.0, length-append (items_of d ms) (x ∷ [])); sums = t.1 }
      apart None None e i h =
          let t = more_other d ms m s.ignored s.interrupted s.end so.sums h i e in
          record { items = so.items ∙ ap length (sym t.0); sums = t.1 }

      by : (o : Option End) → s.end ≡ o → AreCounts d (ms ++ m ∷ []) (judge o (role_for d m) (is_marked m.flags) s)
      by (Some f) e =
          let t = more_behind d ms m s.ignored s.interrupted s.end so.sums (ap is_some e) in
          record { items = so.items ∙ ap length (sym t.0); sums = t.1 }
      by None e = apart (end_in d m) (item_in d m) refl refl e

-- ---- the heads in a message

nothing : (b : Bool) → ◌≡◌ {A = List Event} [] (cond b [] [])
nothing true = refl
nothing false = refl

module _ (find : Event → Found) where
  -- as before, but for the count of events
  abbrev pub Same : Counts → Counts → Type 0
  Same s t = t ≡ record s { events = t.events }

  same_counts : (d : Dump) (ms : List MessageVal) (s t : Counts) → Same s t → AreCounts d ms s → AreCounts d ms t
  same_counts d ms s t a so = subst (AreCounts d ms) (sym a) (record { items = so.items; sums = so.sums })

  module _ (o : Order) where
    inner_step : (s : Counts) (h : Head) → step find s (event_of o (inner h)) ≡ counted s
    inner_step s h = let e = event_of o (inner h) in ap (λ b. counted (cond b (judge s.end (find e).role (find e).marked s) s)) (inner_sort o h.sort h)

    inner_same : (hs : List Head) (s : Counts) → Same s (counts_of find s (map (event_of o) (map inner hs)))
    inner_same [] s = refl
    inner_same (h ∷ hs) s = subst (λ t. Same s (counts_of find t (map (event_of o) (map inner hs)))) (sym (inner_step s h)) (inner_same hs (counted s))

    -- they are kept as their message is
    inner_kept : (hs : List Head) (s : Counts) → kept find s (map (event_of o) (map inner hs)) ≡ cond s.keeps (map (event_of o) (map inner hs)) []
    inner_kept [] s = nothing s.keeps
    inner_kept (h ∷ hs) s =
        ap (λ t. keeping t.keeps (event_of o (inner h)) (kept find t (map (event_of o) (map inner hs)))) (inner_step s h)
        ∙ ap (keeping s.keeps (event_of o (inner h))) (inner_kept hs (counted s)) ∙ by s.keeps
      where
        by : (b : Bool) → keeping b (event_of o (inner h)) (cond b (map (event_of o) (map inner hs)) []) ≡ cond b (map (event_of o) (map inner (h ∷ hs))) []
        by true = refl
        by false = refl

    region_same : (S : Shape) (x : Option Head) (s : Counts) → Same s (counts_of find s (map (event_of o) (region_trail S x).0))
    region_same S None s = inner_same [] s
    region_same S (Some h) s = inner_same (regions.trail_of S h).0 s

    region_kept : (S : Shape) (x : Option Head) (s : Counts) → kept find s (map (event_of o) (region_trail S x).0) ≡ cond s.keeps (map (event_of o) (region_trail S x).0) []
    region_kept S None s = inner_kept [] s
    region_kept S (Some h) s = inner_kept (regions.trail_of S h).0 s

-- ---- a datagram

-- no fault ends what is before what no fault ends
both_end : (i t : Trail) → (and_on i t).1 ≡ None → (t.1 ≡ None) × (and_on i t ≡ front i.0 t)
both_end (hs, None) t e = (e, refl)
both_end (hs, Some f) t e = absurd (let x : ◌≡◌ {A = Option (ℕ × Reason)} (Some f) None = e in cc)

module _ (S : Shape) (d : Dump) (bytes : List ℕ) where
  abbrev pub look : Event → Found
  look = found_at S.order d bytes

  -- which events of a message and of those behind it are kept
  kept_so : (ns : List MessageVal) (m : MessageVal) (r : Rest) (marked : Bool) (s : Counts) (x : Option End) (y : Option Item) → end_in d m ≡ x → item_in d m ≡ y → (ks : List Event)
      → ks ≡ cond (is_some (judge s.end (role_of x (is_some y)) marked s).end) [] (events_among S d (up_to_end d ns) (behind S r))
      → cond (judge s.end (role_of x (is_some y)) marked s).keeps (message_events S r ++ ks) ks ≡ cond (is_some s.end) [] (events_among S d (cond (is_some x) (m ∷ []) (m ∷ up_to_end d ns)) r)
  kept_so ns m r marked s x y e i ks is = by s.end refl x y e i is
    where
      by : (o : Option End) → s.end ≡ o → (x : Option End) (y : Option Item) → end_in d m ≡ x → item_in d m ≡ y
          → ks ≡ cond (is_some (judge o (role_of x (is_some y)) marked s).end) [] (events_among S d (up_to_end d ns) (behind S r))
          → cond (judge o (role_of x (is_some y)) marked s).keeps (message_events S r ++ ks) ks ≡ cond (is_some o) [] (events_among S d (cond (is_some x) (m ∷ []) (m ∷ up_to_end d ns)) r)
      by (Some f) h x y e i is = is ∙ ap (λ (o : Option End). cond (is_some o) [] (events_among S d (up_to_end d ns) (behind S r))) h
      by None h (Some f) y e i is = is ∙ rw (end_no_item d m (ap is_some e)) refl
      by None h None (Some x) e i is = rw i (ap (λ l. message_events S r ++ l) (is ∙ ap (λ (o : Option End). cond (is_some o) [] (events_among S d (up_to_end d ns) (behind S r))) h))
      by None h None None e i is = rw i (is ∙ ap (λ (o : Option End). cond (is_some o) [] (events_among S d (up_to_end d ns) (behind S r))) h)

  -- what is found and kept of the messages that are left, behind those that were
  walked : (ns ms : List MessageVal) (r : Rest) (s : Counts) → Layout S ns r.left → r.left ≡ drop r.place bytes → (trail_of S r).1 ≡ None → AreCounts d ms s
      → AreCounts d (ms ++ ns) (counts_of look s (events_of S r)) × (kept look s (events_of S r) ≡ cond (is_some s.end) [] (events_among S d (up_to_end d ns) r))
  walked [] ms r s f at ends so =
      let none : events_of S r ≡ [] = ap (λ (t : Trail). map (event_of S.order) t.0) (trail_ends S r f) in (
        subst (λ es. AreCounts d (ms ++ []) (counts_of look s es)) (sym none) (subst (λ l. AreCounts d l s) (sym (append-nil ms)) so),
        ap (kept look s) none ∙ nothing (is_some s.end),
      )
  walked (m ∷ ns) ms r s f at ends so =
      let it = f.0 in
      let rest = f.2 in
      let is = message_is S m r.left it f.1 rest f.3 f.4 (body_fit S m.body (form_of m.kind) (r.place + 16) (drop 16 it) f.5).0 in
      let some : r.left ≢ [] = some_of r.left (sound_within S.order 16 4 r.left is.cut.sound).head in
      let inside = region_trail S (region_of S r) in
      let next = behind S r in
      let goes = trail_goes S r some is.sound in
      let both = both_end inside (trail_of S next) (sym (ap (λ (t : Trail). t.1) goes) ∙ ends) in
      let head = event_of S.order (header r) in
      let es = map (event_of S.order) inside.0 in
      let fs = events_of S next in
      let all : events_of S r ≡ head ∷ (es ++ fs) =
      ap (λ (t : Trail). map (event_of S.order) t.0) (goes ∙ ap (front (header r ∷ [])) both.1) ∙ ap (λ l. head ∷ l) (map-append (event_of S.order) inside.0 (trail_of S next).0) in
      let sixteen : 16 ≤ length (drop r.place bytes) = rw at at (sound_within S.order 16 4 r.left is.cut.sound).head in
      let found : look head ≡ record { role = role_for d m; marked = is_marked m.flags } =
      ap (found_in S.order d head.number) (left_so bytes r.place sixteen ∙ ap Some (sym at)) ∙ found_so S d m r.left it rest is f.5 in
      let judged = judge s.end (role_for d m) (is_marked m.flags) s in
      let one : step look s head ≡ counted judged = ap (λ (x : Found). counted (judge s.end x.role x.marked s)) found in
      let t = counted judged in
      let u = counts_of look t es in
      let same : Same look t u = region_same look S.order S (region_of S r) t in
      let so' : AreCounts d (ms ++ m ∷ []) u = same_counts look d (ms ++ m ∷ []) t u same (same_counts look d (ms ++ m ∷ []) judged t refl (judge_counts d ms m s so)) in
      let at' : next.left ≡ drop next.place bytes = ap (drop (span_at S.order r.left)) at ∙ drop-drop (span_at S.order r.left) r.place bytes in
      let more = walked ns (ms ++ m ∷ []) next u (subst (Layout S ns) (sym is.cut.rest_is) f.6) at' both.0 so' in
      let after : counts_of look s (events_of S r) ≡ counts_of look u fs = ap (counts_of look s) all ∙ ap (λ x. counts_of look x (es ++ fs)) one ∙ counts-append look t es fs in
      let ks = kept look u fs in
      let keep : kept look s (events_of S r) ≡ keeping judged.keeps head (cond judged.keeps es [] ++ ks) =
      ap (kept look s) all ∙ ap (λ (x : Counts). keeping x.keeps head (kept look x (es ++ fs))) one
      ∙ ap (keeping judged.keeps head) (kept-append look t es fs ∙ ap (λ l. l ++ ks) (region_kept look S.order S (region_of S r) t)) in (
        subst (λ l. AreCounts d l (counts_of look s (events_of S r))) (append_assoc ms (m ∷ []) ns) (subst (AreCounts d ((ms ++ m ∷ []) ++ ns)) (sym after) more.0),
        keep ∙ joined judged.keeps head es ks
            ∙ kept_so ns m r (is_marked m.flags) s (end_in d m) (item_in d m) refl refl ks (more.1 ∙ ap (λ (o : Option End). cond (is_some o) [] (events_among S d (up_to_end d ns) next)) (ap (λ (x : Counts). x.end) same)),
      )
    where
      joined : (b : Bool) (e : Event) (es ks : List Event) → keeping b e (cond b es [] ++ ks) ≡ cond b ((e ∷ es) ++ ks) ks
      joined true e es ks = refl
      joined false e es ks = refl

  -- no fault ends the heads of what messages are laid out in
  no_fault : (ms : List MessageVal) → Layout S ms bytes → (trail_of S (whole bytes)).1 ≡ None
  no_fault ms f =
      let read = messages_fit S ms 0 bytes f in
      by (trail_of S (whole bytes)).1 (visits_of S (trail_of S (whole bytes)).0) read.0 (sym (ap without read.1) ∙ reads S bytes)
    where
      by : (o : Option (ℕ × Reason)) (v n : ℕ) → ◌≡◌ {A = Outcome (Unit {0})} (Ok tt, n) (region.end_of o, v) → o ≡ None
      by None v n e = refl
      by (Some g) v n e = absurd (let x : ◌≡◌ {A = Result (Unit {0}) Fault} (Ok tt) (region.end_of (Some g)) = ap (λ (p : Outcome (Unit {0})). p.0) e in cc)

  -- what is found of the events of a datagram of these messages, and which of them are kept
  pub counts_all : (ms : List MessageVal) → Layout S ms bytes → AreCounts d ms (counts_of look no_counts (events_of S (whole bytes))) × (kept look no_counts (events_of S (whole bytes)) ≡ item_events S d ms bytes)
  counts_all ms f = walked ms [] (whole bytes) no_counts f refl (no_fault ms f) (record { items = refl; sums = none_summed d })
