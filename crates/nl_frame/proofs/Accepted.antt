-- That no call is refused of those that put what can be written, where there is room for it.
use Rattle.nl_frame.proofs.Common.{◌≡◌, ◌≢◌, ℕ, ℤ, suc, ◌+◌, ◌-◌, ◌<◌, ◌≤◌, List, [], ◌∷◌, ◌++◌, length, drop, Option, None, Result, Ok, refl, sym, ap, subst, ◌∙◌, arith, inl, inr, length-append, length-drop, FitsSigned, w32, lt-ltb, le-ltb, NUMBERS, LONGEST_ITEM, LONGEST_CONTAINER, AttrFlags, Ctx, Route, Content, aligned, Val, bytes, list, hops, Items, no_items, item, HopItems, no_hops, hop, holds_of, with_padding, attr_item, written_val, val_len, items_len, hops_len, IsMismatchedVal, IsMismatchedHops, IsDeepHops, HasLongHops, IsRangedHops, length-padded_attr, length-val, items_whole, hops_whole, Bounds, BuildError, OpenHead, MessageVal, Built, order_of, grown, opened, ended, settled, or_next, lacks, top, held, held_in, bytes_refusal, open_refusal, hop_refusal, hop_refusal_in, close_refusal, levels_in, content_or_bytes, attr_begun, hop_begun, length_from, Begun, attribute, next_hop, Layer, Draft, and_item, and_hop, content_at, content_in, content_behind, none_of, begun_bytes, laid, Holds, Call, put, open_attr, open_hop, close, IsCall, called, put_by, run, calls_of_val, calls_of_items, calls_of_hops}
use Rattle.nl_attr.specs.declared.tree.Content.TheVariants as content
use Rattle.nl_attr.specs.Proper as attrs
use Rattle.nl_frame.specs.Draft as draft
use Rattle.nl_frame.proofs.Opens.{has_room, room_for, lacks_less, drop_twice}
use Rattle.nl_frame.proofs.Puts.{IsItem}
use Rattle.nl_frame.proofs.Begins.{attr_length, hop_length, length-heads}
use Rattle.nl_frame.proofs.Running.{called_holds, same_refusal, ended_bounds}
use Rattle.nl_frame.proofs.Rooms.{called_room, ends_as_long}
use Rattle.nl_frame.proofs.Trees.{of, layer, and_items, and_hops, all_items, all_hops}

-- ---- one call

-- a builder over this slice holds the draft, has refused nothing, and has room for so many bytes more
pub record Stands (L : Bounds) (all : List ℕ) (b : Built) (d : Draft) (k : ℕ) : Type 0 where
  pub holds : Holds L b d
  pub none : b.refusal ≡ None
  pub room : lacks b k ≡ None
  pub free : b.free ≡ drop (length b.front) all

pub run_append : (b : Built) (cs ds : List Call) → run b (cs ++ ds) ≡ run (run b cs) ds
run_append b [] ds = refl
run_append b (c ∷ cs) ds = run_append (called b c) cs ds

pub grown_room : (b : Built) (xs : List ℕ) (j k : ℕ) → lacks b j ≡ None → length xs + k ≤ j → lacks (grown b xs) k ≡ None
grown_room b xs j k e h =
    let r = has_room b j e in
    room_for (grown b xs) k (omega (arith, r.0, h, length-drop (length xs) b.free)) (omega (arith, r.1, h, length-append b.front xs))

module _ {L : Bounds} {all : List ℕ} where
  -- a call that has no refusal of its own
  pub steps : (b : Built) (d : Draft) (c : Call) (next : Built) (r : Option BuildError) (j k : ℕ) → Stands L all b d j → IsCall c → called b c ≡ settled b (or_next b.refusal r) next → r ≡ None → next.refusal ≡ b.refusal → lacks next k ≡ None
      → Stands L all (called b c) (put_by d c) k
  steps b d c next r j k s is e f g room =
      let same : called b c ≡ next = e ∙ ap (λ (x : Option BuildError). settled b x next) (ap (λ (x : Option BuildError). or_next x r) s.none ∙ f) in
      let none : (called b c).refusal ≡ None = ap (λ (x : Built). x.refusal) same ∙ g ∙ s.none in
      let keeps = called_room b d c s.holds none in
      let more = length (called b c).front - length b.front in
      let sum : length b.front + more ≡ length (called b c).front = omega (arith, keeps.grows) in
      record {
        holds = called_holds b d c is s.holds none;
        none = none;
        room = ap (λ (x : Built). lacks x k) same ∙ room;
        free = keeps.behind ∙ ap (drop more) s.free ∙ drop_twice more (length b.front) all ∙ ap (λ n. drop n all) sum;
      }

  -- for as many bytes
  pub same_room : (b : Built) (d : Draft) (j k : ℕ) → j ≡ k → Stands L all b d j → Stands L all b d k
  same_room b d j k e s = subst (Stands L all b d) e s

-- ---- what can be written

pub record AreItems (D l : ℕ) (c : Ctx) (is : Items) : Type 0 where
  pub matched : attrs.IsMismatched is c → ⊥
  pub shallow : attrs.IsDeep is l D → ⊥
  pub short : attrs.HasLong is → ⊥
  pub ranged : attrs.IsRanged is

record AreHops (D l : ℕ) (hs : HopItems) : Type 0 where
  pub matched : IsMismatchedHops hs → ⊥
  pub shallow : IsDeepHops hs l D → ⊥
  pub short : HasLongHops hs → ⊥
  pub ranged : IsRangedHops hs

below : (a b : ℕ) → (b ≤ a → ⊥) → a < b
below a b h = omega (arith, h)

not_above : (a b : ℕ) → (a < b → ⊥) → b ≤ a
not_above a b h = omega (arith, h)

module _ (D l : ℕ) where
  first_item : (c : Ctx) (n : ℕ) (f : AttrFlags) (v : Val) (more : Items) → AreItems D l c (item n f v more) → IsItem D l c n f v
  first_item c n f v more a = record {
    number = below n NUMBERS (λ x. a.matched (inl x));
    matched = λ x. a.matched (inr (inl x));
    shallow = λ x. a.shallow (inl x);
    size = not_above LONGEST_ITEM (4 + val_len v) (λ x. a.short (inl x));
    short = λ x. a.short (inr (inl x));
    ranged = a.ranged.0;
  }

  other_items : (c : Ctx) (n : ℕ) (f : AttrFlags) (v : Val) (more : Items) → AreItems D l c (item n f v more) → AreItems D l c more
  other_items c n f v more a = record {
    matched = λ x. a.matched (inr (inr x));
    shallow = λ x. a.shallow (inr x);
    short = λ x. a.short (inr (inr x));
    ranged = a.ranged.1;
  }

  in_list : (m : ℕ) (c a : Ctx) (n : ℕ) (f : AttrFlags) (is : Items) → m ≡ l + 1 → holds_of c n f ≡ content.List a → IsItem D l c n f (list is) → AreItems D m a is
  in_list m c a n f is e g i = record {
    matched = subst (λ (k : Content). IsMismatchedVal (list is) k → ⊥) g i.matched;
    shallow = subst (λ k. attrs.IsDeep is k D → ⊥) (sym e) (λ x. i.shallow (inr x));
    short = λ x. i.short (inr x);
    ranged = i.ranged;
  }

  in_hops : (m : ℕ) (c : Ctx) (n : ℕ) (f : AttrFlags) (hs : HopItems) → m ≡ l + 1 → holds_of c n f ≡ content.Hops → IsItem D l c n f (hops hs) → AreHops D m hs
  in_hops m c n f hs e g i = record {
    matched = subst (λ (k : Content). IsMismatchedVal (hops hs) k → ⊥) g i.matched;
    shallow = subst (λ k. IsDeepHops hs k D → ⊥) (sym e) (λ x. i.shallow (inr x));
    short = λ x. i.short (inr x);
    ranged = i.ranged;
  }

  in_hop : (m f c : ℕ) (i : ℤ) (is : Items) (more : HopItems) → m ≡ l + 1 → AreHops D l (hop f c i is more) → AreItems D m Route is
  in_hop m f c i is more e a = record {
    matched = λ x. a.matched (inl x);
    shallow = subst (λ k. attrs.IsDeep is k D → ⊥) (sym e) (λ x. a.shallow (inl x));
    short = λ x. a.short (inr (inl (inr x)));
    ranged = a.ranged.1;
  }

  other_hops : (f c : ℕ) (i : ℤ) (is : Items) (more : HopItems) → AreHops D l (hop f c i is more) → AreHops D l more
  other_hops f c i is more a = record {
    matched = λ x. a.matched (inr x);
    shallow = λ x. a.shallow (inr x);
    short = λ x. a.short (inr (inr x));
    ranged = a.ranged.2;
  }

is_bytes : (bs : List ℕ) (k : Content) → (IsMismatchedVal (bytes bs) k → ⊥) → k ≡ content.Bytes
is_bytes bs content.Bytes m = refl
is_bytes bs (content.List c) m = absurd (m tt)
is_bytes bs content.Hops m = absurd (m tt)

is_list : (is : Items) (k : Content) → (IsMismatchedVal (list is) k → ⊥) → (a : Ctx) × (k ≡ content.List a)
is_list is (content.List c) m = (c, refl)
is_list is content.Bytes m = absurd (m tt)
is_list is content.Hops m = absurd (m tt)

is_hops : (hs : HopItems) (k : Content) → (IsMismatchedVal (hops hs) k → ⊥) → k ≡ content.Hops
is_hops hs content.Hops m = refl
is_hops hs (content.List c) m = absurd (m tt)
is_hops hs content.Bytes m = absurd (m tt)

-- ---- each call

open_goes : (b : Built) (k : Content) → k ≢ content.Bytes → length b.heads + levels_in k ≤ b.bounds.shape.depth → lacks b 4 ≡ None → open_refusal b (Ok k) ≡ None
open_goes b content.Bytes ne le room = absurd (ne refl)
open_goes b (content.List c) ne le room = rw (le-ltb b.bounds.shape.depth (length b.heads + 0) le) room
open_goes b content.Hops ne le room = rw (le-ltb b.bounds.shape.depth (length b.heads + 1) le) room

held_is : {L : Bounds} (ms : List MessageVal) (b : Built) (h : Begun) (w : Val) (xs : List Layer) (c : Ctx) (n : ℕ) (f : AttrFlags) → Holds L b (of ms (layer h w ∷ xs)) → content_behind h (content_at xs) ≡ content.List c → n < NUMBERS → held (top b.heads) n f ≡ Ok (holds_of c n f)
held_is ms b h w xs c n f holds e lt = ap (λ (hs : List OpenHead). held (top hs) n f) holds.heads ∙ ap (λ (k : Content). held_in k n f) e ∙ rw (lt-ltb n NUMBERS lt) refl

module _ {L : Bounds} {all : List ℕ} (ms : List MessageVal) where
  put_stands : (b : Built) (h : Begun) (xs : List Layer) (js : Items) (c : Ctx) (n : ℕ) (f : AttrFlags) (bs : List ℕ) (k : ℕ) → Stands L all b (of ms (layer h (list js) ∷ xs)) (aligned (4 + length bs) + k)
      → content_behind h (content_at xs) ≡ content.List c → IsItem L.shape.depth (length xs) c n f (bytes bs) → Stands L all (called b (put n f bs)) (of ms (layer h (list (and_item js n f (bytes bs))) ∷ xs)) k
  put_stands b h xs js c n f bs k s e i =
      let one = with_padding (attr_item (order_of b) n f bs) in
      let j = aligned (4 + length bs) + k in
      let room = lacks_less b j (aligned (4 + length bs)) s.room (omega arith) in
      let none : bytes_refusal b (held (top b.heads) n f) (length bs) ≡ None =
      ap (λ (r : Result Content BuildError). bytes_refusal b r (length bs)) (held_is ms b h (list js) xs c n f s.holds e i.number)
      ∙ ap (λ (w : Content). bytes_refusal b (Ok w) (length bs)) (is_bytes bs (holds_of c n f) i.matched)
      ∙ rw (le-ltb LONGEST_ITEM (4 + length bs) i.size) room in
      let len : length one ≡ aligned (4 + length bs) = length-padded_attr (order_of b) n f (bytes bs) in
      steps b (of ms (layer h (list js) ∷ xs)) (put n f bs) (grown b one) (bytes_refusal b (held (top b.heads) n f) (length bs)) j k s tt refl none refl (grown_room b one j k s.room (omega (arith, len)))

  open_stands : (b : Built) (h : Begun) (xs : List Layer) (js : Items) (c : Ctx) (n : ℕ) (f : AttrFlags) (w : Content) (k : ℕ) → Stands L all b (of ms (layer h (list js) ∷ xs)) (4 + k)
      → content_behind h (content_at xs) ≡ content.List c → n < NUMBERS → holds_of c n f ≡ w → w ≢ content.Bytes → length xs + 1 + levels_in w ≤ L.shape.depth
      → Stands L all (called b (open_attr n f)) (of ms (layer (attribute n f) (none_of w) ∷ layer h (list js) ∷ xs)) k
  open_stands b h xs js c n f w k s e lt g ne le =
      let ys = layer h (list js) ∷ xs in
      let r = held (top b.heads) n f in
      let at : content_behind (attribute n f) (content_at ys) ≡ w = ap (λ (x : Content). content_in x n f) e ∙ g in
      let many : length b.heads ≡ length ys = ap (length {A = OpenHead}) s.holds.heads ∙ length-heads (order_of b) ms ys in
      let depth : b.bounds.shape.depth ≡ L.shape.depth = ap (λ (x : Bounds). x.shape.depth) s.holds.bounds in
      let level : length b.heads + levels_in w ≤ b.bounds.shape.depth = omega (arith, many, depth, le) in
      let none : open_refusal b r ≡ None =
      ap (open_refusal b) (held_is ms b h (list js) xs c n f s.holds e lt)
      ∙ ap (λ (x : Content). open_refusal b (Ok x)) g ∙ open_goes b w ne level (lacks_less b (4 + k) 4 s.room (omega arith)) in
      let begun = attr_begun (order_of b) n f in
      subst (λ (x : Content). Stands L all (called b (open_attr n f)) (of ms (layer (attribute n f) (none_of x) ∷ ys)) k) at
      (steps b (of ms ys) (open_attr n f) (opened b (content_or_bytes r) begun) (open_refusal b r) (4 + k) k s tt refl none refl (grown_room b begun (4 + k) k s.room (omega (arith, attr_length (order_of b) n f))))

  hop_stands : (b : Built) (h : Begun) (xs : List Layer) (gs : HopItems) (f c : ℕ) (i : ℤ) (k : ℕ) → Stands L all b (of ms (layer h (hops gs) ∷ xs)) (8 + k)
      → content_behind h (content_at xs) ≡ content.Hops → FitsSigned w32 i → Stands L all (called b (open_hop f c i)) (of ms (layer (next_hop f c i) (list no_items) ∷ layer h (hops gs) ∷ xs)) k
  hop_stands b h xs gs f c i k s e r =
      let ys = layer h (hops gs) ∷ xs in
      let none : hop_refusal b (top b.heads) ≡ None =
      ap (λ (hs : List OpenHead). hop_refusal b (top hs)) s.holds.heads
      ∙ ap (hop_refusal_in b) e ∙ lacks_less b (8 + k) 8 s.room (omega arith) in
      let begun = hop_begun (order_of b) f c i in
      steps b (of ms ys) (open_hop f c i) (opened b (content.List Route) begun) (hop_refusal b (top b.heads)) (8 + k) k s r refl none refl (grown_room b begun (8 + k) k s.room (omega (arith, hop_length (order_of b) f c i)))

  close_stands : (b : Built) (h : Begun) (w : Val) (y : Layer) (zs : List Layer) (k : ℕ) → Stands L all b (of ms (layer h w ∷ y ∷ zs)) k → length (begun_bytes (order_of b) h) + val_len w ≤ LONGEST_CONTAINER
      → Stands L all (called b close) (draft.close (of ms (layer h w ∷ y ∷ zs))) k
  close_stands b h w y zs k s le =
      let o = order_of b in
      let d = of ms (layer h w ∷ y ∷ zs) in
      let before = laid o ms (y ∷ zs) in
      let inside = begun_bytes o h ++ written_val o w in
      let many : length b.heads ≡ suc (suc (length zs)) = ap (length {A = OpenHead}) s.holds.heads ∙ length-heads o ms (layer h w ∷ y ∷ zs) in
      let two : 2 ≤ length b.heads = omega (arith, many) in
      let all_of : length b.front ≡ length before + (length (begun_bytes o h) + val_len w) = ap (length {A = ℕ}) s.holds.front ∙ length-append before inside ∙ ap (λ n. length before + n) (length-append (begun_bytes o h) (written_val o w) ∙ ap (λ n. length (begun_bytes o h) + n) (length-val o w)) in
      let from : length_from b b.heads ≡ length b.front - length before = ap (length_from b) s.holds.heads in
      let short : length_from b b.heads ≤ LONGEST_CONTAINER = omega (arith, from, all_of, le) in
      let none : close_refusal b ≡ None = rw (le-ltb (length b.heads) 2 two, le-ltb LONGEST_CONTAINER (length_from b b.heads) short) refl in
      let same = ends_as_long b d 2 (omega arith) s.holds in
      let r = has_room b k s.room in
      let bounds : (ended b 2).bounds ≡ b.bounds = ended_bounds b 2 in
      let room : lacks (ended b 2) k ≡ None = room_for (ended b 2) k (omega (arith, r.0, ap (length {A = ℕ}) same.free)) (omega (arith, r.1, same.front, ap (λ (x : Bounds). x.datagram) bounds)) in
      steps b d close (ended b 2) (close_refusal b) k k s tt refl none (same_refusal b 2) room

  -- ---- trees

  mutual
    val_stands : (b : Built) (h : Begun) (xs : List Layer) (js : Items) (c : Ctx) (n : ℕ) (f : AttrFlags) (v : Val) (k : ℕ) → Stands L all b (of ms (layer h (list js) ∷ xs)) (aligned (4 + val_len v) + k)
        → content_behind h (content_at xs) ≡ content.List c → IsItem L.shape.depth (length xs) c n f v → Stands L all (run b (calls_of_val n f v)) (of ms (layer h (list (and_item js n f v)) ∷ xs)) k
    val_stands b h xs js c n f (bytes bs) k s e i = put_stands b h xs js c n f bs k s e i
    val_stands b h xs js c n f (list is) k s e i =
        let D = L.shape.depth in
        let ys = layer h (list js) ∷ xs in
        let a = is_list is (holds_of c n f) i.matched in
        let b1 = called b (open_attr n f) in
        let b2 = run b1 (calls_of_items is) in
        let deeper : length ys ≡ length xs + 1 = omega arith in
        let sum : aligned (4 + items_len is) + k ≡ 4 + (items_len is + k) = omega (arith, items_whole is) in
        let level : length xs + 1 ≤ D = not_above D (length xs + 1) (λ x. i.shallow (inl x)) in
        let low : length xs + 1 + 0 ≤ D = omega (arith, level) in
        let s1 = open_stands b h xs js c n f (content.List a.0) (items_len is + k) (same_room b (of ms ys) _ _ sum s) e i.number a.1 (λ z. cc) low in
        let at : content_behind (attribute n f) (content_at ys) ≡ content.List a.0 = ap (λ (x : Content). content_in x n f) e ∙ a.1 in
        let s2 = items_stand b1 (attribute n f) ys no_items a.0 is k s1 at (in_list D (length xs) (length ys) c a.0 n f is deeper a.1 i) in
        let s3 = subst (λ (z : Items). Stands L all b2 (of ms (layer (attribute n f) (list z) ∷ ys)) k) (all_items is) s2 in
        let size : length (attr_begun (order_of b2) n f) + items_len is ≤ LONGEST_CONTAINER = omega (arith, attr_length (order_of b2) n f, i.size, items_whole is) in
        let s4 = close_stands b2 (attribute n f) (list is) (layer h (list js)) xs k s3 size in
        subst (λ (x : Built). Stands L all x (of ms (layer h (list (and_item js n f (list is))) ∷ xs)) k) (sym (run_append b1 (calls_of_items is) (close ∷ []))) s4
    val_stands b h xs js c n f (hops hs) k s e i =
        let D = L.shape.depth in
        let ys = layer h (list js) ∷ xs in
        let a = is_hops hs (holds_of c n f) i.matched in
        let b1 = called b (open_attr n f) in
        let b2 = run b1 (calls_of_hops hs) in
        let deeper : length ys ≡ length xs + 1 = omega arith in
        let sum : aligned (4 + hops_len hs) + k ≡ 4 + (hops_len hs + k) = omega (arith, hops_whole hs) in
        let level : length xs + 2 ≤ D = not_above D (length xs + 2) (λ x. i.shallow (inl x)) in
        let low : length xs + 1 + 1 ≤ D = omega (arith, level) in
        let s1 = open_stands b h xs js c n f content.Hops (hops_len hs + k) (same_room b (of ms ys) _ _ sum s) e i.number a (λ z. cc) low in
        let at : content_behind (attribute n f) (content_at ys) ≡ content.Hops = ap (λ (x : Content). content_in x n f) e ∙ a in
        let s2 = hops_stand b1 (attribute n f) ys no_hops hs k s1 at (in_hops D (length xs) (length ys) c n f hs deeper a i) in
        let s3 = subst (λ (z : HopItems). Stands L all b2 (of ms (layer (attribute n f) (hops z) ∷ ys)) k) (all_hops hs) s2 in
        let size : length (attr_begun (order_of b2) n f) + hops_len hs ≤ LONGEST_CONTAINER = omega (arith, attr_length (order_of b2) n f, i.size, hops_whole hs) in
        let s4 = close_stands b2 (attribute n f) (hops hs) (layer h (list js)) xs k s3 size in
        subst (λ (x : Built). Stands L all x (of ms (layer h (list (and_item js n f (hops hs))) ∷ xs)) k) (sym (run_append b1 (calls_of_hops hs) (close ∷ []))) s4

    pub items_stand : (b : Built) (h : Begun) (xs : List Layer) (js : Items) (c : Ctx) (is : Items) (k : ℕ) → Stands L all b (of ms (layer h (list js) ∷ xs)) (items_len is + k)
        → content_behind h (content_at xs) ≡ content.List c → AreItems L.shape.depth (length xs) c is → Stands L all (run b (calls_of_items is)) (of ms (layer h (list (and_items js is)) ∷ xs)) k
    items_stand b h xs js c no_items k s e a = same_room b (of ms (layer h (list js) ∷ xs)) (0 + k) k (omega arith) s
    items_stand b h xs js c (item n f v more) k s e a =
        let sum : items_len (item n f v more) + k ≡ aligned (4 + val_len v) + (items_len more + k) = omega arith in
        let b1 = run b (calls_of_val n f v) in
        let s1 = val_stands b h xs js c n f v (items_len more + k) (same_room b (of ms (layer h (list js) ∷ xs)) _ _ sum s) e (first_item L.shape.depth (length xs) c n f v more a) in
        let s2 = items_stand b1 h xs (and_item js n f v) c more k s1 e (other_items L.shape.depth (length xs) c n f v more a) in
        subst (λ (x : Built). Stands L all x (of ms (layer h (list (and_items (and_item js n f v) more)) ∷ xs)) k) (sym (run_append b (calls_of_val n f v) (calls_of_items more))) s2

    hops_stand : (b : Built) (h : Begun) (xs : List Layer) (gs hs : HopItems) (k : ℕ) → Stands L all b (of ms (layer h (hops gs) ∷ xs)) (hops_len hs + k)
        → content_behind h (content_at xs) ≡ content.Hops → AreHops L.shape.depth (length xs) hs → Stands L all (run b (calls_of_hops hs)) (of ms (layer h (hops (and_hops gs hs)) ∷ xs)) k
    hops_stand b h xs gs no_hops k s e a = same_room b (of ms (layer h (hops gs) ∷ xs)) (0 + k) k (omega arith) s
    hops_stand b h xs gs (hop f c i is more) k s e a =
        let D = L.shape.depth in
        let ys = layer h (hops gs) ∷ xs in
        let sum : hops_len (hop f c i is more) + k ≡ 8 + (items_len is + (hops_len more + k)) = omega (arith, items_whole is) in
        let b1 = called b (open_hop f c i) in
        let b2 = run b1 (calls_of_items is) in
        let deeper : length ys ≡ length xs + 1 = omega arith in
        let s1 = hop_stands b h xs gs f c i (items_len is + (hops_len more + k)) (same_room b (of ms ys) _ _ sum s) e a.ranged.0 in
        let s2 = items_stand b1 (next_hop f c i) ys no_items Route is (hops_len more + k) s1 refl (in_hop D (length xs) (length ys) f c i is more deeper a) in
        let s3 = subst (λ (z : Items). Stands L all b2 (of ms (layer (next_hop f c i) (list z) ∷ ys)) (hops_len more + k)) (all_items is) s2 in
        let long : 8 + items_len is ≤ LONGEST_ITEM = not_above LONGEST_ITEM (8 + items_len is) (λ x. a.short (inl x)) in
        let size : length (hop_begun (order_of b2) f c i) + items_len is ≤ LONGEST_CONTAINER = omega (arith, hop_length (order_of b2) f c i, long, items_whole is) in
        let s4 = close_stands b2 (next_hop f c i) (list is) (layer h (hops gs)) xs (hops_len more + k) s3 size in
        let s5 = hops_stand (called b2 close) h xs (and_hop gs f c i is) more k s4 e (other_hops D (length xs) f c i is more a) in
        subst (λ (x : Built). Stands L all x (of ms (layer h (hops (and_hops (and_hop gs f c i is) more)) ∷ xs)) k) (sym (run_append b1 (calls_of_items is) (close ∷ calls_of_hops more))) s5
