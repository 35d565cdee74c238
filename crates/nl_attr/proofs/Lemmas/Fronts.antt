-- What stands at the front of a region, part by part, and the step past it.
use Rattle.nl_attr.proofs.Common.{◌≡◌, ℕ, ◌≤◌, ◌<◌, ◌+◌, ◌-◌, ◌/◌, ◌%◌, false, nat_eq, List, [], ◌∷◌, take, drop, length, slice_set, Option, Some, None, refl, sym, ap, subst, ◌∙◌, arith, length-drop, le-ltb, take_all, Reason, Order, Counts, AttrFlags, Ctx, Route, Content, OpenRegion, Parts, Event, LONGEST_CONTAINER, SORT_BYTES, SORT_LIST, SORT_NEXT_HOP, Shape, kind_of, len_of, holds_of, broken_length, flags_of, payload_of, unless, Head, content_at, broken, broken_container, inner_in, inner_of, or_else, span_at, start_of, heads, content_in, ctx_in, head_of, sort_in, Adds, hops_start, event_of, sort_of, counted}
use Rattle.nl_attr.specs.declared.tree.Content.TheVariants as content
use Rattle.nl_attr.specs.declared.region.Parts.TheVariants.{Attrs, Hops}
use Rattle.nl_attr.proofs.Lemmas.Putting.{put_none, put_one}

-- the event of an attribute, as of one that holds bytes
pub bytes_event_so : (o : Order) (ctx : Ctx) (l place : ℕ) (left : List ℕ) (len kind : ℕ) (flags : AttrFlags) → len ≡ length (payload_of o 4 2 left) → kind ≡ kind_of o left → flags ≡ flags_of kind
    → ◌≡◌ {A = Event} (record { place = place; len = len; number = kind % 16384; level = l; sort = SORT_BYTES; nested = flags.nested; net = flags.net }) (record (event_of o (start_of ctx l place left)) { sort = SORT_BYTES })
bytes_event_so o ctx l place left len kind flags a b c = rw (c, b, a) refl

-- what it holds
pub content_so : (o : Order) (ctx : Ctx) (left : List ℕ) (number : ℕ) (content : Content) (flags : AttrFlags) → number ≡ kind_of o left % 16384 → flags ≡ flags_of (kind_of o left) → content ≡ holds_of ctx number flags → content ≡ content_at o ctx left
content_so o ctx left number content flags b c d = rw (d, c, b) refl

-- its event by what it holds
pub event_so : (o : Order) (ctx : Ctx) (l place : ℕ) (left : List ℕ) (e : Event) (content : Content) (sort : ℕ) → e ≡ record (event_of o (start_of ctx l place left)) { sort = SORT_BYTES } → content ≡ content_at o ctx left → sort ≡ sort_of content → record e { sort = sort } ≡ event_of o (start_of ctx l place left)
event_so o ctx l place left e content sort a b c = rw (a, c, b) refl

-- that of one that holds bytes
pub bytes_event : (o : Order) (ctx : Ctx) (l place : ℕ) (left : List ℕ) → content_at o ctx left ≡ content.Bytes → ◌≡◌ {A = Event} (record (event_of o (start_of ctx l place left)) { sort = SORT_BYTES }) (event_of o (start_of ctx l place left))
bytes_event o ctx l place left e = ap (λ (k : Content). record (event_of o (start_of ctx l place left)) { sort = sort_of k }) (sym e)

-- a type field below both flag bits has none of them
pub no_flags : (n : ℕ) → n < 16384 → flags_of n ≡ record { nested = false; net = false }
no_flags n low = both (n / 32768) (n / 16384 % 2) (omega (arith, low)) (omega (arith, low)) where
  both : (a b : ℕ) → a ≡ 0 → b ≡ 0 → ◌≡◌ {A = AttrFlags} (record { nested = nat_eq a 1; net = nat_eq b 1 }) (record { nested = false; net = false })
  both a b p q = rw (p, q) refl

-- the event of an attribute of such a type that holds bytes
pub plain_event : (o : Order) (ctx : Ctx) (l place : ℕ) (left : List ℕ) (len number : ℕ) → number ≡ kind_of o left → number < 16384 → len ≡ length (payload_of o 4 2 left) → content_at o ctx left ≡ content.Bytes
    → ◌≡◌ {A = Event} (record { place = place; len = len; number = number; level = l; sort = SORT_BYTES; nested = false; net = false }) (event_of o (start_of ctx l place left))
plain_event o ctx l place left len number kind low is holds =
    let whole : number % 16384 ≡ number = omega (arith, low) in
    ap (λ (n : ℕ). (record { place = place; len = len; number = n; level = l; sort = SORT_BYTES; nested = false; net = false })) (sym whole)
    ∙ ap (λ (f : AttrFlags). (record { place = place; len = len; number = number % 16384; level = l; sort = SORT_BYTES; nested = f.nested; net = f.net })) (sym (no_flags number low))
    ∙ bytes_event_so o ctx l place left len number (flags_of number) is kind refl
    ∙ bytes_event o ctx l place left holds

-- that of a list without a byte
pub list_event : (o : Order) (ctx k : Ctx) (l place : ℕ) (left : List ℕ) (kind : ℕ) → kind ≡ kind_of o left → 0 ≡ length (payload_of o 4 2 left) → content.List k ≡ content_at o ctx left
    → ◌≡◌ {A = Event} (record { place = place; len = 0; number = kind % 16384; level = l; sort = SORT_LIST; nested = (flags_of kind).nested; net = (flags_of kind).net }) (event_of o (start_of ctx l place left))
list_event o ctx k l place left kind is none holds =
    event_so o ctx l place left (record { place = place; len = 0; number = kind % 16384; level = l; sort = SORT_BYTES; nested = (flags_of kind).nested; net = (flags_of kind).net }) (content.List k) SORT_LIST (bytes_event_so o ctx l place left 0 kind (flags_of kind) none is refl) holds refl

-- what is left behind an item
pub left_so : (left : List ℕ) (n m : ℕ) → n ≡ m → take (length left - n) (drop n left) ≡ drop m left
left_so left n m e = take_all (length left - n) (drop n left) (omega (arith, length-drop n left)) ∙ ap (λ (k : ℕ). drop k left) e

-- where a region goes on behind an attribute
pub rest_so : (ctx : Ctx) (l place : ℕ) (left : List ℕ) (n m : ℕ) → n ≡ m → start_of ctx l (place + n) (take (length left - n) (drop n left)) ≡ start_of ctx l (place + m) (drop m left)
rest_so ctx l place left n m e = ap (λ (xs : List ℕ). start_of ctx l (place + n) xs) (left_so left n m e) ∙ ap (λ (k : ℕ). start_of ctx l (place + k) (drop m left)) e

-- the event of a next hop
pub hop_event_so : (o : Order) (l place : ℕ) (left : List ℕ) (len : ℕ) → len ≡ length (payload_of o 8 2 left)
    → ◌≡◌ {A = Event} (record { place = place; len = len; number = 0; level = l; sort = SORT_NEXT_HOP; nested = false; net = false }) (event_of o (hops_start l place left))
hop_event_so o l place left len e = rw e refl

-- the region of its attributes
pub hop_attrs_so : (l place : ℕ) (payload body : List ℕ) → payload ≡ body → start_of Route (l + 1) (place + 8) payload ≡ start_of Route (l + 1) (place + 8) body
hop_attrs_so l place payload body e = ap (λ (xs : List ℕ). start_of Route (l + 1) (place + 8) xs) e

-- where a region goes on behind it
pub hop_rest_so : (l place : ℕ) (left : List ℕ) (n m : ℕ) → n ≡ m → hops_start l (place + n) (take (length left - n) (drop n left)) ≡ hops_start l (place + m) (drop m left)
hop_rest_so l place left n m e = ap (λ (xs : List ℕ). hops_start l (place + n) xs) (left_so left n m e) ∙ ap (λ (k : ℕ). hops_start l (place + k) (drop m left)) e

-- ---- the head at the front of a region

pub attrs_head : (r : OpenRegion) (c : Ctx) → r.parts ≡ Attrs c → start_of c r.level r.place r.left.now ≡ head_of r
attrs_head r c e = ap (λ (p : Parts). record { place = r.place; sort = sort_in p; ctx = ctx_in p; level = r.level; left = r.left.now }) (sym e)

pub hops_head : (r : OpenRegion) → r.parts ≡ Hops → hops_start r.level r.place r.left.now ≡ head_of r
hops_head r e = ap (λ (p : Parts). record { place = r.place; sort = sort_in p; ctx = ctx_in p; level = r.level; left = r.left.now }) (sym e)

-- a list breaks no rule of containers where it is not too long, and a level is left
pub list_fits : (S : Shape) (l len : ℕ) (k : Ctx) → len ≤ LONGEST_CONTAINER → l + 1 ≤ S.depth → broken_container S l (content.List k) len ≡ None
list_fits S l len k a b = rw (le-ltb LONGEST_CONTAINER len a, le-ltb S.depth (l + 1) b) refl

-- ---- steps

module _ (S : Shape) where
  -- none is added
  pub adds_none : (counts : Counts) (out : List Event) → Adds S [] counts counts out out
  adds_none counts out = record { count = omega arith; visits = omega arith; events = sym (put_none counts.count out) }

  -- an attribute whose length breaks a rule
  pub attr_unsound : (ctx : Ctx) (l place : ℕ) (left : List ℕ) (r : Reason) (counts : Counts) (out : List Event) → broken_length S.order 4 2 left ≡ Some r → (broken S (start_of ctx l place left) ≡ Some r) × Adds S (counted S (start_of ctx l place left)) counts counts out out
  attr_unsound ctx l place left r counts out e = (
    ap (λ (o : Option Reason). or_else o (broken_container S l (content_at S.order ctx left) (len_of S.order 2 left))) e,
    subst (λ (hs : List Head). Adds S hs counts counts out out) (ap (λ (o : Option Reason). unless o (start_of ctx l place left)) (sym e)) (adds_none counts out),
  )

  -- a head that is added
  pub added : (h : Head) (before after : Counts) (old new : List Event) (e : Event) (span : ℕ) → e ≡ event_of S.order h → span ≡ span_at S h → new ≡ slice_set old before.count e → after ≡ record { count = before.count + 1; visits = before.visits + span } → Adds S (h ∷ []) before after old new
  unfolding heads
  added h before after old new e span is s out counts = record {
    count = ap (λ (t : Counts). t.count) counts;
    visits = omega (arith, ap (λ (t : Counts). t.visits) counts, s);
    events = out ∙ ap (λ (x : Event). slice_set old before.count x) is ∙ sym (put_one before.count (event_of S.order h) old);
  }

  module _ (ctx : Ctx) (l place : ℕ) (left : List ℕ) (sound : broken_length S.order 4 2 left ≡ None) (held : Content) (holds : held ≡ content_at S.order ctx left) (len : ℕ) (is : len ≡ len_of S.order 2 left) where
    -- the rule of containers that an attribute of sound length breaks
    attr_breaks : broken S (start_of ctx l place left) ≡ broken_container S l held len
    attr_breaks = rw (sound, holds, is) refl

    -- it breaks one, and is added
    pub attr_fails : (r : Reason) (before after : Counts) (old new : List Event) → broken_container S l held len ≡ Some r → Adds S (start_of ctx l place left ∷ []) before after old new → (broken S (start_of ctx l place left) ≡ Some r) × Adds S (counted S (start_of ctx l place left)) before after old new
    attr_fails r before after old new e a = (attr_breaks ∙ e, subst (λ (hs : List Head). Adds S hs before after old new) (ap (λ (o : Option Reason). unless o (start_of ctx l place left)) (sym sound)) a)

    -- it breaks none
    pub attr_goes : broken_container S l held len ≡ None → broken S (start_of ctx l place left) ≡ None
    attr_goes e = attr_breaks ∙ e

    -- the region in it
    pub attr_inner : (payload : List ℕ) → payload ≡ payload_of S.order 4 2 left → inner_of S (start_of ctx l place left) ≡ inner_in held (place + 4) (l + 1) payload
    attr_inner payload p = rw (holds, p) refl

-- the region in an attribute that holds one
pub region_inner : (held : Content) (p : Parts) (place l : ℕ) (payload : List ℕ) → held ≡ content_in p → inner_in held place l payload ≡ Some (record { place = place; sort = sort_in p; ctx = ctx_in p; level = l; left = payload })
region_inner held (Attrs c) place l payload e = ap (λ (k : Content). inner_in k place l payload) e
region_inner held Hops place l payload e = ap (λ (k : Content). inner_in k place l payload) e
