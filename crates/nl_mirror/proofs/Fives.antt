-- What five followers hear, each for itself.
use Rattle.nl_mirror.proofs.Common.{◌≡◌, ℕ, Option, Bool, true, false, cond, Some, None, List, [], ◌∷◌, ◌++◌, map, is_some, Result, Ok, Err, refl, sym, ap, ◌∙◌, subst, true≢false, ◌≢◌, ◌⊎◌, inl, inr, ⊤, IfErr, IfOk, OnOk, Family, BodyVal, done, object, MessageVal, message_view, body_end, Item, body_item, family_item, item_of, Short, FindsNoRoom, effect_heard, update_effect, Event, AllButShort, ShortOf, Heard, hears, Following, Follows, in_items, IsHeardBy, Mirrored, Settings, follower_at, is_own, IsShort, IsUpdate, IsOverheard, IsOwnHeard, OthersHear, OneHears, EachHearsBy, HearsEach}
use Rattle.nl_route.specs.declared.family.Family.TheVariants.{Link, Addr, Route, Neigh, Rule}
use Rattle.nl_route.specs.declared.object.Object.{Object}
use Rattle.nl_route.specs.Families.{AnyHead, row, same_family}
use Rattle.nl_route.proofs.Families.{one_or_other}
use Rattle.std.specs.Global.{Vec}
use Rattle.nl_attr.specs.Tree.{Items}
use Rattle.nl_frame.specs.declared.body.Message.{Message}
use Rattle.nl_frame.specs.declared.reading.ReadError.{ReadError}
use Rattle.nl_frame.specs.declared.reading.ReadError.TheVariants as unread
use Rattle.nl_frame.specs.Outcomes.{IfFault}
use Rattle.nl_frame.specs.Heads.{IsFirstFault, whole}
use Rattle.nl_frame.specs.Layout.{Layout}
use Rattle.nl_frame.specs.Limits.{Bounds}
use Rattle.nl_dump.specs.declared.dump.End.{End}
use Rattle.nl_mirror.specs.declared.effect.Update.{Update}
use Rattle.nl_mirror.specs.Five.{IsRead}
use Rattle.nl_mirror.specs.declared.short.Short.TheVariants as short
use Rattle.nl_mirror.proofs.Hearings.{all_same, no_waiting}

-- an object's family is that of its head
pub own_of : (k : Family) (h : AnyHead) (is : Items) → is_some (family_item k h is) ≡ same_family k h.family
own_of k h is = by (same_family k h.family)
  where
    item : Item
    item = (h, is)

    by : (b : Bool) → is_some (cond b (Some item) None) ≡ b
    by true = refl
    by false = refl

-- what the clauses of `read_datagram` say together
pub read_so : (b : Bounds) (bytes : List ℕ) (r : Result (Vec Message) ReadError)
    → IfOk r (λ v. Layout b.shape (map message_view v.items) bytes) → IfOk r (λ v. (ms : List MessageVal) → Layout b.shape ms bytes → ms ≡ map message_view v.items)
    → IfErr r (λ e. IfFault e (λ f. IsFirstFault b.shape (whole bytes) f.place f.reason)) → IfErr r (λ e. IfFault e (λ f. (ms : List MessageVal) → Layout b.shape ms bytes → ⊥))
    → IsRead b bytes r
read_so b bytes (Ok ms) fits only first none = (fits, only)
read_so b bytes (Err unread.TooLarge) fits only first none = tt
read_so b bytes (Err (unread.Layout f)) fits only first none = (first, none)
read_so b bytes (Err unread.Memory) fits only first none = tt

-- where memory is short, room may be too
more_short : {T : Type 0} (es fs : List (Event T)) → AllButShort short.Waiting es fs → AllButShort short.Memory es fs
more_short [] fs s = s
more_short {T} (e ∷ es) fs s = (s.0, s.1, s.2, by s.3, more_short es s.1 s.4)
  where
    by : (s.0 ≡ e) ⊎ ShortOf short.Waiting e s.0 → (s.0 ≡ e) ⊎ ShortOf short.Memory e s.0
    by (inl same) = inl same
    by (inr less) = inr (inr less)

-- what is short in one answer is so in another, which may say memory instead
abbrev CoversOne : {C : Type 0} → Short → Result C Short → Type 0
CoversOne short.Memory (Ok y) = ⊥
CoversOne short.Memory (Err short.Memory) = ⊤
CoversOne short.Memory (Err short.Waiting) = ⊥
CoversOne short.Waiting (Ok y) = ⊥
CoversOne short.Waiting (Err e) = ⊤

abbrev pub Covers : {A C : Type 0} → Result A Short → Result C Short → Type 0
Covers r t = IfErr r (λ e. CoversOne e t)

-- an answer is that of memory, if it is one of too little
abbrev pub OfMemory : {A : Type 0} → Result A Short → Type 0
OfMemory r = IfErr r (λ e. e ≡ short.Memory)

-- an answer is the first of two that is of too little, or else the second
abbrev pub IsFirst : {A C : Type 0} → Result A Short → Result C Short → Result C Short → Type 0
IsFirst {A} {C} r s t = IfErr r (λ e. t ≡ Err e) × OnOk r (t ≡ s)

covers_itself : {C : Type 0} (t : Result C Short) → Covers t t
covers_itself (Ok y) = tt
covers_itself (Err short.Memory) = tt
covers_itself (Err short.Waiting) = tt

pub covers_first : {A C : Type 0} (r : Result A Short) (s t : Result C Short) → IsFirst r s t → Covers r t
covers_first (Ok x) s t i = tt
covers_first {A} {C} (Err e) s t i = subst (CoversOne e) (sym i.0) (by e)
  where
    by : (e : Short) → CoversOne {C = C} e (Err e)
    by short.Memory = tt
    by short.Waiting = tt

pub covers_second : {A C : Type 0} (r : Result A Short) (s t : Result C Short) → OfMemory r → IsFirst r s t → Covers s t
covers_second (Ok x) s t m i = subst (Covers s) (sym i.1) (covers_itself s)
covers_second {A} {C} (Err e) s t m i = subst (Covers s) (sym (i.0 ∙ ap (λ (e : Short). Err e) m)) (by s)
  where
    by : (s : Result C Short) → Covers {C = C} s (Err short.Memory)
    by (Ok x) = tt
    by (Err short.Memory) = tt
    by (Err short.Waiting) = tt

pub covers_both : {A B C : Type 0} (r : Result A Short) (s : Result B Short) (t : Result C Short) → Covers r s → Covers s t → Covers r t
covers_both (Ok x) s t p q = tt
covers_both (Err short.Memory) (Ok y) t p q = absurd p
covers_both (Err short.Memory) (Err short.Memory) t p q = q
covers_both (Err short.Memory) (Err short.Waiting) t p q = absurd p
covers_both (Err short.Waiting) (Ok y) t p q = absurd p
covers_both {C = C} (Err short.Waiting) (Err e) (Ok z) p q = absurd (by e q)
  where
    by : (e : Short) → CoversOne {C = C} e (Ok z) → ⊥
    by short.Memory q = q
    by short.Waiting q = q
covers_both (Err short.Waiting) (Err e) (Err d) p q = tt

pub memory_first : {A C : Type 0} (r : Result A Short) (s t : Result C Short) → OfMemory r → OfMemory s → IsFirst r s t → OfMemory t
memory_first (Ok x) s t p q i = subst OfMemory (sym i.1) q
memory_first (Err e) s t p q i = subst OfMemory (sym i.0) p

-- the message is of no kind, if an answer is one of too little
abbrev pub OfNoKind : {A : Type 0} → MessageVal → Result A Short → Type 0
OfNoKind v r = IfErr r (λ e. (k : Family) → is_own k v ≡ false)

pub kind_first : {A C : Type 0} (v : MessageVal) (r : Result A Short) (s t : Result C Short) → OfNoKind v r → OfNoKind v s → IsFirst r s t → OfNoKind v t
kind_first v (Ok x) s t p q i = subst (OfNoKind v) (sym i.1) q
kind_first v (Err e) s t p q i = subst (OfNoKind v) (sym i.0) p

-- what ends a dump is of no kind
pub end_of_no_kind : (b : BodyVal) (x : End) → Some x ≡ body_end b → (k : Family) → is_some (body_item k b) ≡ false
end_of_no_kind (object h is) x e k = absurd (true≢false (ap is_some e))
end_of_no_kind (done None tail) x e k = refl
end_of_no_kind (done (Some z) tail) x e k = refl
end_of_no_kind b x e k = refl

pub value_second : {A C : Type 0} (r : Result A Short) (s t : Result C Short) → IsFirst r s t → OnOk t (t ≡ s)
value_second (Ok x) s (Ok y) i = i.1
value_second (Ok x) s (Err e) i = tt
value_second (Err e) s t i = subst (λ q. OnOk q (q ≡ s)) (sym i.0) tt

-- an answer that stands for others
joined : {A C : Type 0} (r : Result A Short) (t : Result C Short) (f : Follows) (h : Heard) (g : Follows) → Covers r t → IsHeardBy r f h g → IsHeardBy t f h g
joined (Ok x) (Ok y) f h g p s = s
joined (Ok x) (Err e) f h g p s = (h.events, all_same e h.events, s)
joined (Err short.Memory) (Ok y) f h g p s = absurd p
joined (Err short.Memory) (Err short.Memory) f h g p s = s
joined (Err short.Memory) (Err short.Waiting) f h g p s = absurd p
joined (Err short.Waiting) (Ok y) f h g p s = absurd p
joined (Err short.Waiting) (Err short.Memory) f h g p s = (s.0, more_short h.events s.0 s.1, s.2)
joined (Err short.Waiting) (Err short.Waiting) f h g p s = s

one_each : {A C E : Type 0} (k : Family) (r : Result A Short) (s : Result C Short) (t : Result E Short) (f g h : Follows) (v : MessageVal) → IsOverheard k r f v g → IsOwnHeard k s g v h → Covers r t
    → Covers s t → IsHeardBy t f (hears f.kind f.listening v) h
one_each k r s t f g h v others own p q = by (is_own k v) refl
  where
    by : (b : Bool) → is_own k v ≡ b → IsHeardBy t f (hears f.kind f.listening v) h
    by true e =
        joined s t f (hears f.kind f.listening v) h q (subst (λ (x : Follows). IsHeardBy s x (hears x.kind x.listening v) h) (others.0 e) (own.0 e))
    by false e =
        joined r t f (hears f.kind f.listening v) h p (subst (λ (x : Follows). IsHeardBy r f (hears f.kind f.listening v) x) (sym (own.1 e)) (others.1 e))

itself : (j : Family) → same_family j j ≡ true
itself Link = refl
itself Addr = refl
itself Route = refl
itself Neigh = refl
itself Rule = refl

-- what is short of room is so of the follower of the message's kind
pub own_room : {A : Type 0} (r : Result A Short) (j : Family) (f : Mirrored) (v : MessageVal) → ((k : Family) → is_own k v ≡ same_family k j)
    → IfErr r (λ e. e ≡ short.Waiting → FindsNoRoom (follower_at j f) v) → IfErr r (λ e. e ≡ short.Memory → FindsNoRoom (follower_at j f) v → ⊥) → IfErr r (IsShort f v)
own_room (Ok x) j f v is s m = tt
own_room (Err short.Memory) j f v is s m = λ k own none. by k own none (one_or_other k j)
  where
    by : (k : Family) → is_own k v ≡ true → FindsNoRoom (follower_at k f) v → ((k ≡ j) × (same_family k j ≡ true)) ⊎ ((k ≢ j) × (same_family k j ≡ false)) → ⊥
    by k own none (inl same) = m refl (subst (λ (i : Family). FindsNoRoom (follower_at i f) v) same.0 none)
    by k own none (inr other) = true≢false (sym own ∙ is k ∙ other.1)
own_room (Err short.Waiting) j f v is s m = (j, is j ∙ itself j, s refl)

-- and was so before the others heard it
room_before : {A C : Type 0} (r : Result A Short) (s t : Result C Short) (f g : Mirrored) (v : MessageVal) → OthersHear r f v g → OfMemory r → OfNoKind v r → IsFirst r s t → IfErr s (IsShort g v)
    → IfErr t (IsShort f v)
room_before r s (Ok y) f g v others m n i p = tt
room_before (Err e) s (Err short.Memory) f g v others m n i p = λ k own none. true≢false (sym own ∙ n k)
room_before (Ok x) s (Err short.Memory) f g v others m n i p =
    let at = subst (λ q. IfErr q (IsShort g v)) (sym i.1) p in
    λ k own none. at k own (subst (λ (y : Follows). FindsNoRoom y v) (sym ((others.1 k).0 own)) none)
room_before {A} {C} (Err e) s (Err short.Waiting) f g v others m n i p = no_waiting (ap short_of (i.0 ∙ ap (λ (e : Short). Err e) m))
  where
    short_of : Result C Short → Short
    short_of (Ok y) = short.Memory
    short_of (Err e) = e
room_before (Ok x) s (Err short.Waiting) f g v others m n i p =
    let at = subst (λ q. IfErr q (IsShort g v)) (sym i.1) p in
    (at.0, at.1, subst (λ (y : Follows). FindsNoRoom y v) ((others.1 at.0).0 at.1) at.2)

pub each : {A C : Type 0} (r : Result A Short) (s t : Result C Short) (f g h : Mirrored) (v : MessageVal) → OthersHear r f v g → OneHears s g v h → OfMemory r → OfNoKind v r → IsFirst r s t
    → IfErr s (IsShort g v) → EachHearsBy t f v h
each r s t f g h v others own m n i p = (
  own.0 ∙ others.0,
  λ k. one_each k r s t (follower_at k f) (follower_at k g) (follower_at k h) v (others.1 k) (own.1 k) (covers_first r s t i) (covers_second r s t m i),
  room_before r s t f g v others m n i p,
)

overheard : {A C : Type 0} (k : Family) (r : Result A Short) (t : Result C Short) (f : Follows) (v : MessageVal) (g : Follows) → Covers r t → IsOverheard k r f v g → IsOverheard k t f v g
overheard k r t f v g p s = (s.0, λ e. joined r t f (hears f.kind f.listening v) g p (s.1 e))

-- one more message is heard behind the others
pub hears_more : (f g h : Mirrored) (ms : List MessageVal) (rs : List (Result Update Short)) (v : MessageVal) (r : Result Update Short) → HearsEach f ms rs g → EachHearsBy r g v h → IfOk r (IsUpdate g v)
    → HearsEach f (ms ++ v ∷ []) (rs ++ r ∷ []) h
hears_more f g h [] [] v r s p q = (h, subst (λ (x : Mirrored). EachHearsBy r x v h) s p, subst (λ (x : Mirrored). IfOk r (IsUpdate x v)) s q, refl)
hears_more f g h [] (x ∷ rs) v r s p q = absurd s
hears_more f g h (m ∷ ms) [] v r s p q = absurd s
hears_more f g h (m ∷ ms) (x ∷ rs) v r s p q = (s.0, s.1, s.2, hears_more s.0 g h ms rs v r s.3 p q)

-- what a message makes of the table of its kind is what it makes of the mirror's
pub update_own : {E : Type 0} (r : Result Update E) (j : Family) (f : Mirrored) (v : MessageVal) → ((k : Family) → is_own k v ≡ same_family k j)
    → IfOk r (λ u. update_effect u ≡ Some (j, effect_heard (follower_at j f) v)) → IfOk r (IsUpdate f v)
update_own (Err x) j f v is s = tt
update_own (Ok u) j f v is s = (λ k own. by k own (one_or_other k j), λ none. absurd (true≢false (sym (itself j) ∙ sym (is j) ∙ none j)))
  where
    by : (k : Family) → is_own k v ≡ true → ((k ≡ j) × (same_family k j ≡ true)) ⊎ ((k ≢ j) × (same_family k j ≡ false)) → update_effect u ≡ Some (k, effect_heard (follower_at k f) v)
    by k own (inl same) = subst (λ (i : Family). update_effect u ≡ Some (i, effect_heard (follower_at i f) v)) (sym same.0) s
    by k own (inr other) = absurd (true≢false (sym own ∙ is k ∙ other.1))

-- and of what the mirror was before the others heard it
pub update_before : {A : Type 0} (o : Result A Short) (r t : Result Update Short) (f g : Mirrored) (v : MessageVal) → OthersHear o f v g → OnOk t (t ≡ r) → IfOk r (IsUpdate g v) → IfOk t (IsUpdate f v)
update_before o r (Err x) f g v others same s = tt
update_before o r (Ok u) f g v others same s =
    let is : IsUpdate g v u = subst (λ q. IfOk q (IsUpdate g v)) (sym same) s in
    (λ k own. is.0 k own ∙ ap (λ (x : Follows). Some (k, effect_heard x v)) ((others.1 k).0 own), is.1)

abbrev pub of_kind : Family → Type 0
of_kind k = Following (Object (row k).Head)

abbrev pub settings : Bounds → Option ℕ → Settings
settings b last = record { limits = b; last = last }

abbrev pub mirrored : Settings → of_kind Link → of_kind Addr → of_kind Route → of_kind Neigh → of_kind Rule → Mirrored
mirrored b l a r n u = record { settings = b; links = l; addrs = a; routes = r; neighs = n; rules = u }

module _ (b : Settings) (l l' : of_kind Link) (a a' : of_kind Addr) (r r' : of_kind Route) (n n' : of_kind Neigh) (u u' : of_kind Rule) (v : MessageVal) where
  -- the others, each by its own answer
  pub others : {A C E G I K : Type 0} (x1 : Result A Short) (x2 : Result C Short) (x3 : Result E Short) (x4 : Result G Short) (x5 : Result I Short) (t : Result K Short)
      → Covers x1 t → Covers x2 t → Covers x3 t → Covers x4 t → Covers x5 t
      → IsOverheard Link x1 (in_items (item_of Link) l) v (in_items (item_of Link) l')
      → IsOverheard Addr x2 (in_items (item_of Addr) a) v (in_items (item_of Addr) a')
      → IsOverheard Route x3 (in_items (item_of Route) r) v (in_items (item_of Route) r')
      → IsOverheard Neigh x4 (in_items (item_of Neigh) n) v (in_items (item_of Neigh) n')
      → IsOverheard Rule x5 (in_items (item_of Rule) u) v (in_items (item_of Rule) u')
      → OthersHear t (mirrored b l a r n u) v (mirrored b l' a' r' n' u')
  others x1 x2 x3 x4 x5 t p1 p2 p3 p4 p5 h1 h2 h3 h4 h5 = (refl, by)
    where
      by : (k : Family) → IsOverheard k t (follower_at k (mirrored b l a r n u)) v (follower_at k (mirrored b l' a' r' n' u'))
      by Link = overheard Link x1 t (in_items (item_of Link) l) v (in_items (item_of Link) l') p1 h1
      by Addr = overheard Addr x2 t (in_items (item_of Addr) a) v (in_items (item_of Addr) a') p2 h2
      by Route = overheard Route x3 t (in_items (item_of Route) r) v (in_items (item_of Route) r') p3 h3
      by Neigh = overheard Neigh x4 t (in_items (item_of Neigh) n) v (in_items (item_of Neigh) n') p4 h4
      by Rule = overheard Rule x5 t (in_items (item_of Rule) u) v (in_items (item_of Rule) u') p5 h5

  here : {A : Type 0} (x : Result A Short) (k : Family) (f g : Follows) → is_own k v ≡ true → IsHeardBy x f (hears f.kind f.listening v) g → IsOwnHeard k x f v g
  here x k f g e h = (λ _. h, λ o. absurd (true≢false (sym e ∙ o)))

  there : {A : Type 0} (x : Result A Short) (k : Family) (f : Follows) → is_own k v ≡ false → IsOwnHeard k x f v f
  there x k f e = (λ o. absurd (true≢false (sym o ∙ e)), λ _. refl)

  pub own_link : {A : Type 0} (x : Result A Short) → ((k : Family) → is_own k v ≡ same_family k Link)
      → IsHeardBy x (in_items (item_of Link) l) (hears l.kind l.listening v) (in_items (item_of Link) l') → OneHears x (mirrored b l a r n u) v (mirrored b l' a r n u)
  own_link x is h = (refl, by)
    where
      by : (k : Family) → IsOwnHeard k x (follower_at k (mirrored b l a r n u)) v (follower_at k (mirrored b l' a r n u))
      by Link = here x Link (in_items (item_of Link) l) (in_items (item_of Link) l') (is Link) h
      by Addr = there x Addr (in_items (item_of Addr) a) (is Addr)
      by Route = there x Route (in_items (item_of Route) r) (is Route)
      by Neigh = there x Neigh (in_items (item_of Neigh) n) (is Neigh)
      by Rule = there x Rule (in_items (item_of Rule) u) (is Rule)

  pub own_addr : {A : Type 0} (x : Result A Short) → ((k : Family) → is_own k v ≡ same_family k Addr)
      → IsHeardBy x (in_items (item_of Addr) a) (hears a.kind a.listening v) (in_items (item_of Addr) a') → OneHears x (mirrored b l a r n u) v (mirrored b l a' r n u)
  own_addr x is h = (refl, by)
    where
      by : (k : Family) → IsOwnHeard k x (follower_at k (mirrored b l a r n u)) v (follower_at k (mirrored b l a' r n u))
      by Link = there x Link (in_items (item_of Link) l) (is Link)
      by Addr = here x Addr (in_items (item_of Addr) a) (in_items (item_of Addr) a') (is Addr) h
      by Route = there x Route (in_items (item_of Route) r) (is Route)
      by Neigh = there x Neigh (in_items (item_of Neigh) n) (is Neigh)
      by Rule = there x Rule (in_items (item_of Rule) u) (is Rule)

  pub own_route : {A : Type 0} (x : Result A Short) → ((k : Family) → is_own k v ≡ same_family k Route)
      → IsHeardBy x (in_items (item_of Route) r) (hears r.kind r.listening v) (in_items (item_of Route) r') → OneHears x (mirrored b l a r n u) v (mirrored b l a r' n u)
  own_route x is h = (refl, by)
    where
      by : (k : Family) → IsOwnHeard k x (follower_at k (mirrored b l a r n u)) v (follower_at k (mirrored b l a r' n u))
      by Link = there x Link (in_items (item_of Link) l) (is Link)
      by Addr = there x Addr (in_items (item_of Addr) a) (is Addr)
      by Route = here x Route (in_items (item_of Route) r) (in_items (item_of Route) r') (is Route) h
      by Neigh = there x Neigh (in_items (item_of Neigh) n) (is Neigh)
      by Rule = there x Rule (in_items (item_of Rule) u) (is Rule)

  pub own_neigh : {A : Type 0} (x : Result A Short) → ((k : Family) → is_own k v ≡ same_family k Neigh)
      → IsHeardBy x (in_items (item_of Neigh) n) (hears n.kind n.listening v) (in_items (item_of Neigh) n') → OneHears x (mirrored b l a r n u) v (mirrored b l a r n' u)
  own_neigh x is h = (refl, by)
    where
      by : (k : Family) → IsOwnHeard k x (follower_at k (mirrored b l a r n u)) v (follower_at k (mirrored b l a r n' u))
      by Link = there x Link (in_items (item_of Link) l) (is Link)
      by Addr = there x Addr (in_items (item_of Addr) a) (is Addr)
      by Route = there x Route (in_items (item_of Route) r) (is Route)
      by Neigh = here x Neigh (in_items (item_of Neigh) n) (in_items (item_of Neigh) n') (is Neigh) h
      by Rule = there x Rule (in_items (item_of Rule) u) (is Rule)

  pub own_rule : {A : Type 0} (x : Result A Short) → ((k : Family) → is_own k v ≡ same_family k Rule)
      → IsHeardBy x (in_items (item_of Rule) u) (hears u.kind u.listening v) (in_items (item_of Rule) u') → OneHears x (mirrored b l a r n u) v (mirrored b l a r n u')
  own_rule x is h = (refl, by)
    where
      by : (k : Family) → IsOwnHeard k x (follower_at k (mirrored b l a r n u)) v (follower_at k (mirrored b l a r n u'))
      by Link = there x Link (in_items (item_of Link) l) (is Link)
      by Addr = there x Addr (in_items (item_of Addr) a) (is Addr)
      by Route = there x Route (in_items (item_of Route) r) (is Route)
      by Neigh = there x Neigh (in_items (item_of Neigh) n) (is Neigh)
      by Rule = here x Rule (in_items (item_of Rule) u) (in_items (item_of Rule) u') (is Rule) h
