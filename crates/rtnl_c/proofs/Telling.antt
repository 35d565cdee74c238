-- What is told of the messages of a datagram, one after another.
use Rattle.std.proofs.Common.{◌≡◌, ◌≤◌, ◌<◌, ◌+◌, ◌-◌, ◌∙◌, ℕ, List, [], ◌∷◌, ◌++◌, length, map, take, drop, Result, Option, Some, None, option_map, ◌*◌, ◌/◌, suc, zero, Ok, Err, ◌↔◌, refl, sym, subst, ap, append_assoc, arith, slice_set, IfOk}
use Rattle.std.proofs.lemmas.List.{length-append, length-drop, length-map, drop-drop, drop_all, drop_more, set_at, take_at, drop_at, append-nil}
use borrow.Rule.Slice.PartMut.{put_mid}
use lib.ListN.{get_or}
use Rattle.rtnl_c.proofs.Common.{Shape, Family, Message, Bounds, MessageVal, written, EachHearsBy, HearsEach, IsRead, IsUpdate, Vec, Mirrored, no_mirror, entry_message, none-some, same_Some, Layout, message_view, Item, ReadError}
use Rattle.nl_mirror.specs.Effects.{update_effect}
use Rattle.nl_mirror.specs.declared.effect.Effect.{Effect}
use Rattle.rtnl_c.proofs.Orders.{each_order}
use Rattle.nl_frame.specs.declared.reading.ReadError.TheVariants as unread
use Rattle.nl_frame.specs.declared.writing.WriteError.TheVariants as unwritable
use Rattle.nl_mirror.specs.declared.effect.Update.{Update}
use Rattle.nl_mirror.specs.declared.short.Short.{Short}
use Rattle.rtnl_c.specs.declared.hearing.Change.{Change}
use Rattle.rtnl_c.specs.declared.hearing.Heard.{Heard}
use Rattle.rtnl_c.specs.Mirrors.{AreChanges, IsBefore, PutsBefore, PutsChanges, before_bytes, change_of, effect_before, order_at, update_before, Tells, FeedsOne, Feeds, heard, unheard, place_room, tells, unmade, fed, laid, none, whole, lacks, unwritten, nothing, another}

-- an entry that fits was put
pub puts_so : (b : Option (List ℕ)) (bytes old new : List ℕ) (n : ℕ) → Some bytes ≡ b → length bytes ≤ length old → new ≡ laid bytes old → n ≡ length bytes → PutsBefore b old new n
puts_so b bytes old new n is fits at len = (bytes, subst (λ (x : Option (List ℕ)). IsBefore (length old) x bytes) is (whole bytes fits), at, len)

none_of : (room : ℕ) (b : Option (List ℕ)) → IsBefore room b []
none_of room None = none
none_of room (Some bytes) = unwritten bytes unwritable.Memory

-- none was
pub puts_none : (b : Option (List ℕ)) (old : List ℕ) → PutsBefore b old old 0
puts_none b old = ([], none_of (length old) b, refl, refl)

-- these are told
pub record AreTold (m : Mirrored) (rs : List (Result Update Short)) (old : List Change) (out : List ℕ) (new : List Change) (out' : List ℕ) (at index : ℕ) : Type 0 where
  pub cs : List Change
  pub put : List ℕ
  pub are : AreChanges m (length out) rs cs put
  pub count : length cs ≡ length rs
  pub room : length put ≤ length out
  pub told : new ≡ laid cs old
  pub stand : out' ≡ laid put out
  pub end : at ≡ length put
  pub place : index ≡ length cs

pub none_told : (m : Mirrored) (old : List Change) (out : List ℕ) → AreTold m [] old out old out 0 0
none_told m old out = record { cs = []; put = []; are = nothing; count = refl; room = omega arith; told = refl; stand = refl; end = refl; place = refl }

pub all_told : (m : Mirrored) (rs : List (Result Update Short)) (old : List Change) (out : List ℕ) (new : List Change) (out' : List ℕ) (at index : ℕ) → AreTold m rs old out new out' at index
    → PutsChanges m rs old out new out' at
all_told m rs old out new out' at index t = record { changes = t.cs; put = t.put; are = t.are; one_each = t.count; room = t.room; told = t.told; stand = t.stand; end = t.end }

-- of a mirror an entry before needs the byte orders of its tables alone
module _ (m n : Mirrored) (same : (k : Family) → order_at k n ≡ order_at k m) where
  before_over : (r : Result Update Short) → before_bytes m r ≡ before_bytes n r
  before_over (Err s) = refl
  before_over (Ok u) = by (update_effect u)
    where
      by : (e : Option (Family × Effect Item)) → update_before m e ≡ update_before n e
      by None = refl
      by (Some p) = ap (λ o. option_map (λ i. written o (entry_message p.0 i ∷ [])) (effect_before p.1)) (sym (same p.0))

  changes_over : {room : ℕ} {rs : List (Result Update Short)} {cs : List Change} {put : List ℕ} → AreChanges m room rs cs put → AreChanges n room rs cs put
  changes_over nothing = nothing
  changes_over {room} (another rs cs put are r bytes is) = another rs cs put (changes_over are) r bytes (subst (λ (b : Option (List ℕ)). IsBefore (room - length put) b bytes) (before_over r) is)

  pub told_over : (rs : List (Result Update Short)) (old : List Change) (out : List ℕ) (new : List Change) (out' : List ℕ) (at index : ℕ) → AreTold m rs old out new out' at index
      → AreTold n rs old out new out' at index
  told_over rs old out new out' at index t = record {
    cs = t.cs;
    put = t.put;
    are = changes_over t.are;
    count = t.count;
    room = t.room;
    told = t.told;
    stand = t.stand;
    end = t.end;
    place = t.place;
  }

before_fits : {b : Option (List ℕ)} {bytes : List ℕ} (room : ℕ) → IsBefore room b bytes → length bytes ≤ room
before_fits room none = omega arith
before_fits room (whole bytes h) = h
before_fits room (lacks bytes h) = omega arith
before_fits room (unwritten bytes e) = omega arith

module _ (m : Mirrored) (rs : List (Result Update Short)) (old : List Change) (out : List ℕ) (new : List Change) (out' : List ℕ) (at index : ℕ) (t : AreTold m rs old out new out' at index) where
  behind : drop at out' ≡ drop (length t.put) out
  behind = ap (drop at) t.stand ∙ drop_at t.put (drop (length t.put) out) at (sym t.end)

  front : take at out' ≡ t.put
  front = ap (take at) t.stand ∙ take_at t.put (drop (length t.put) out) at (sym t.end)

  long : length out' ≡ length out
  long = ap length t.stand ∙ length-append t.put (drop (length t.put) out) ∙ omega (arith, length-drop (length t.put) out, t.room)

  pub within : at ≤ length out'
  within = omega (arith, t.end, t.room, long)

  -- one more is told
  told_more : (r : Result Update Short) (len : ℕ) (mid sub : List ℕ) (c : Change) → length rs < length old → mid ≡ drop at out' → PutsBefore (before_bytes m r) mid sub len → c ≡ change_of r at len
      → AreTold m (rs ++ r ∷ []) old out (slice_set new index c) (put_mid at (length out' - at) out' sub) (at + len) (index + 1)
  told_more r len mid sub c few is puts made =
      let bytes = puts.0 in
      let mids : mid ≡ drop (length t.put) out = is ∙ behind in
      let size : length mid ≡ length out - length t.put = ap length mids ∙ length-drop (length t.put) out in
      let fits : length bytes ≤ length mid = before_fits (length mid) puts.1 in
      let c' = change_of r (length t.put) (length bytes) in
      let told_as : c ≡ c' = made ∙ (λ i. change_of r (t.end i) (puts.3 i)) in
      let rest_of = drop (length t.cs + 1) old in
      let below : length t.cs < length old = omega (arith, few, t.count) in
      let gone : drop (length out' - at) (drop at out') ≡ [] = drop_all (length out' - at) (drop at out') (omega (arith, length-drop at out')) in
      record {
        cs = t.cs ++ c' ∷ [];
        put = t.put ++ bytes;
        are = another rs t.cs t.put t.are r bytes (subst (λ (n : ℕ). IsBefore n (before_bytes m r) bytes) size puts.1);
        count = length-append t.cs (c' ∷ []) ∙ ap (λ n. n + 1) t.count ∙ sym (length-append rs (r ∷ []));
        room = omega (arith, length-append t.put bytes, fits, t.room, size);
        told = ap (λ x. slice_set x index c) (t.told ∙ ap (λ l. t.cs ++ l) (drop_more old (length t.cs) c below)) ∙ set_at t.cs (get_or old (length t.cs) c) rest_of c index (sym t.place)
            ∙ ap (λ x. t.cs ++ x ∷ rest_of) told_as ∙ sym (append_assoc t.cs (c' ∷ []) rest_of) ∙ ap (λ n. (t.cs ++ c' ∷ []) ++ drop n old) (sym (length-append t.cs (c' ∷ [])));
        stand = (λ i. front i ++ (puts.2 i ++ gone i)) ∙ ap (λ l. t.put ++ l) (append-nil (laid bytes mid)) ∙ ap (λ l. t.put ++ (bytes ++ drop (length bytes) l)) mids
            ∙ ap (λ l. t.put ++ (bytes ++ l)) (drop-drop (length bytes) (length t.put) out) ∙ sym (append_assoc t.put bytes (drop (length t.put + length bytes) out))
            ∙ ap (λ n. (t.put ++ bytes) ++ drop n out) (sym (length-append t.put bytes));
        end = omega (arith, t.end, puts.3, length-append t.put bytes);
        place = omega (arith, t.place, length-append t.cs (c' ∷ []));
      }

-- a datagram has no more messages than a sixteenth of its bytes
layout_count : (S : Shape) (ms : List MessageVal) (d : List ℕ) → Layout S ms d → 16 * length ms ≤ length d
layout_count S [] d l = omega arith
layout_count S (m ∷ ms) d l =
    let more = layout_count S ms l.2 l.6 in
    omega (arith, more, l.3.least, ap length l.3.parts, length-append l.0 (l.1 ++ l.2), length-append l.1 l.2)

hears_count : (f g : Mirrored) (ms : List MessageVal) (rs : List (Result Update Short)) → HearsEach f ms rs g → length rs ≡ length ms
hears_count f g [] [] h = refl
hears_count f g [] (r ∷ rs) h = absurd h
hears_count f g (m ∷ ms) [] h = absurd h
hears_count f g (m ∷ ms) (r ∷ rs) h = ap suc (hears_count h.0 g ms rs h.3)

pub hears_as_many : (f g : Mirrored) (ms : List Message) (rs : List (Result Update Short)) → HearsEach f (map message_view ms) rs g → length rs ≡ length ms
hears_as_many f g ms rs h = hears_count f g (map message_view ms) rs h ∙ length-map ms message_view

-- the first of the messages are heard and answered so: what is heard of the rest completes it
pub record AreHeard (f : Mirrored) (all rest : List Message) (rs : List (Result Update Short)) (g : Mirrored) : Type 0 where
  pub count : length rs + length rest ≡ length all
  pub heard : (more : List (Result Update Short)) (h : Mirrored) → HearsEach g (map message_view rest) more h → HearsEach f (map message_view all) (rs ++ more) h

pub none_heard : (f : Mirrored) (all rest : List Message) → rest ≡ all → AreHeard f all rest [] f
none_heard f all rest is = record { count = omega (arith, ap length is); heard = λ more h s. subst (λ (ms : List Message). HearsEach f (map message_view ms) more h) is s }

pub all_heard : (f : Mirrored) (all : List Message) (rs : List (Result Update Short)) (g : Mirrored) → AreHeard f all [] rs g → HearsEach f (map message_view all) rs g
all_heard f all rs g t = subst (λ (rs : List (Result Update Short)). HearsEach f (map message_view all) rs g) (append-nil rs) (t.heard [] g refl)

module _ (f : Mirrored) (all : List Message) (x : Message) (rest : List Message) (rs : List (Result Update Short)) (g h : Mirrored) (t : AreHeard f all (x ∷ rest) rs g) where
  -- one more is heard
  pub heard_more : (r : Result Update Short) → EachHearsBy r g (message_view x) h → IfOk r (IsUpdate g (message_view x)) → AreHeard f all rest (rs ++ r ∷ []) h
  heard_more r by is = record {
    count = omega (arith, t.count, length-append rs (r ∷ []));
    heard = λ more k s. subst (λ (rs : List (Result Update Short)). HearsEach f (map message_view all) rs k) (sym (append_assoc rs (r ∷ []) more)) (t.heard (r ∷ more) k (h, by, is, s));
  }

  pub fewer : length rs < length all
  fewer = omega (arith, t.count)

-- heard and told so far
pub record AreBoth (f : Mirrored) (all : List Message) (old : List Change) (out : List ℕ) (rest : List Message) (g : Mirrored) (new : List Change) (out' : List ℕ) (at index : ℕ) : Type 0 where
  pub rs : List (Result Update Short)
  pub heard : AreHeard f all rest rs g
  pub told : AreTold g rs old out new out' at index

pub both_more : (f : Mirrored) (all : List Message) (old : List Change) (out : List ℕ) (x : Message) (rest : List Message) (g h : Mirrored) (new : List Change) (out' : List ℕ) (at index : ℕ)
    → AreBoth f all old out (x ∷ rest) g new out' at index → length all ≤ length old
    → (r : Result Update Short) → EachHearsBy r g (message_view x) h → IfOk r (IsUpdate g (message_view x))
    → (len : ℕ) (mid sub : List ℕ) (c : Change) → mid ≡ drop at out' → PutsBefore (before_bytes h r) mid sub len → c ≡ change_of r at len
    → AreBoth f all old out rest h (slice_set new index c) (put_mid at (length out' - at) out' sub) (at + len) (index + 1)
both_more f all old out x rest g h new out' at index t few r by is len mid sub c mids puts made = record {
  rs = t.rs ++ r ∷ [];
  heard = heard_more f all x rest t.rs g h t.heard r by is;
  told = told_more h t.rs old out new out' at index (told_over g h (each_order r g (message_view x) h by) t.rs old out new out' at index t.told) r len mid sub c
      (omega (arith, few, fewer f all x rest t.rs g h t.heard)) mids puts made;
}

pub read_count : (b : Bounds) (bytes : List ℕ) (ms : Vec Message) → IsRead b bytes (Ok ms) → length ms.items ≤ length bytes / 16
read_count b bytes ms h = omega (arith, layout_count b.shape (map message_view ms.items) bytes h.0, length-map ms.items message_view)

-- ---- what a call answers

pub tells_so : (m : Mirrored) (rs : List (Result Update Short)) (visits : ℕ) (old : List Change) (out : List ℕ) (new : List Change) (front : List ℕ) (n len k : ℕ) → 0 < length old → length rs ≤ length old
    → k ≡ place_room out → n ≡ length rs → PutsChanges m rs old (take k out) new front len → Tells m rs visits old out new (front ++ drop k out) (heard visits n len)
tells_so m rs visits old out new front n len k some few room count p =
    subst (λ (k : ℕ). Tells m rs visits old out new (front ++ drop k out) (heard visits n len)) (sym room)
    (subst (λ (n : ℕ). Tells m rs visits old out new (front ++ drop (place_room out) out) (heard visits n len)) (sym count)
    (tells some few new front len (subst (λ (k : ℕ). PutsChanges m rs old (take k out) new front len) room p)))

-- the same is refused, whatever an answer that isn't refused has
abbrev error_of : {A : Type 0} → Result A ReadError → Option ReadError
error_of (Ok x) = None
error_of (Err e) = Some e

pub large_in_ok : {A B : Type 0} (x : A) (y : B) (r : Result B ReadError) (P : Type 0) → r ≡ Ok y → (r ≡ Err unread.TooLarge ↔ P) → (◌≡◌ {A = Result A ReadError} (Ok x) (Err unread.TooLarge) ↔ P)
large_in_ok x y r P is large = (
  λ e. absurd (none-some unread.TooLarge (ap error_of e)),
  λ p. absurd (none-some unread.TooLarge (ap error_of (sym is ∙ large.1 p))),
)

pub large_in_err : {A B : Type 0} (e : ReadError) (r : Result B ReadError) (P : Type 0) → r ≡ Err e → (r ≡ Err unread.TooLarge ↔ P) → (◌≡◌ {A = Result A ReadError} (Err e) (Err unread.TooLarge) ↔ P)
large_in_err {A} {B} e r P is large = (
  λ q. large.0 (is ∙ ap Err (same_Some e unread.TooLarge (ap error_of q))),
  λ p. ap Err (same_Some e unread.TooLarge (ap error_of (sym is ∙ large.1 p))),
)

pub is_short : (n q x : ℕ) → (n ≡ 0 → x ≡ 0) → (0 < n → x ≡ q) → n < x → (0 < n) × (n < q)
is_short zero q x z s h = absurd (never (z refl))
  where
    never : x ≡ 0 → ⊥
    never e = omega (arith, h, e)
is_short (suc n) q x z s h = (omega arith, omega (arith, h, s (omega arith)))

pub is_enough : (n q x : ℕ) → (0 < n → x ≡ q) → x ≤ n → 0 < n → q ≤ n
is_enough n q x s h some = omega (arith, h, s some)

pub unmade_by : (bytes : List ℕ) (old : List Change) (out : List ℕ) (before after : Option Mirrored) (a : Heard) → None ≡ before → a ≡ unheard 0 0 no_mirror → after ≡ None → Feeds bytes old out before old out a after
unmade_by bytes old out before after a is told made =
    subst (λ (x : Option Mirrored). Feeds bytes old out x old out a after) is
    (subst (λ (x : Heard). Feeds bytes old out None old out x after) (sym told) (subst (λ (x : Option Mirrored). Feeds bytes old out None old out (unheard 0 0 no_mirror) x) (sym made) unmade))

pub fed_by : (bytes : List ℕ) (old : List Change) (out : List ℕ) (m n : Mirrored) (before after : Option Mirrored) (new : List Change) (out' : List ℕ) (a : Heard) → Some m ≡ before
    → FeedsOne m bytes old out new out' a n → after ≡ Some n → Feeds bytes old out before new out' a after
fed_by bytes old out m n before after new out' a is one made =
    subst (λ (x : Option Mirrored). Feeds bytes old out x new out' a after) is (subst (λ (x : Option Mirrored). Feeds bytes old out (Some m) new out' a x) (sym made) (fed m new out' a n one))
