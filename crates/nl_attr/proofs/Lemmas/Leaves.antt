-- Attributes that hold bytes, passed one behind the other.
use Rattle.nl_attr.proofs.Common.{◌≡◌, ◌≢◌, ℕ, ◌+◌, ◌-◌, ◌*◌, ◌/◌, ◌%◌, ◌||◌, ◌≤◌, nat_lt, if◌then◌else◌, List, [], ◌∷◌, ◌++◌, length, drop, map, Some, None, refl, sym, ap, subst, ◌∙◌, arith, length-append, length-drop, le-ltb, drop-drop, length-map, map-append, Event, Room, OpenRegion, Counts, Ctx, Shape, len_of, span_of, broken_length, Cut, BadLength, Order, Head, start_of, broken, follower, event_of, put_from, head_of, HasRoom, HoldsNone, IsPassing, Passes, Skips, head_with}
use Rattle.nl_attr.specs.declared.events.Room.TheVariants.{Ample, Unknown}
use Rattle.nl_attr.specs.declared.region.Parts.TheVariants.{Attrs}
use Rattle.nl_attr.specs.declared.taping.leaves.Passed.{Passed}
use Rattle.nl_attr.proofs.Lemmas.Fronts.{adds_none, attrs_head}
use Rattle.nl_attr.proofs.Lemmas.Scan.{span_within}
use Rattle.nl_attr.proofs.Lemmas.Putting.{put_none, put_on}
use Rattle.nl_attr.proofs.Lemmas.Taping.{passes_push, passes_sum}

pub some_left : (left : List ℕ) → 4 ≤ length left → left ≢ []
some_left left e = λ n. absurd (let z : length left ≡ 0 = ap (length {A = ℕ}) n in omega (arith, z, e))

-- none was
pub begins : (S : Shape) (h : Head) (count : ℕ) (old : List Event) → IsPassing S h count old h.left count old
begins S h count old = record {
  passed = [];
  passes = ap (λ (p : ℕ). record h { place = p }) (omega arith);
  counted = omega arith;
  events = sym (put_none count old);
}

module _ {S : Shape} {h : Head} {count : ℕ} {old : List Event} {left : List ℕ} {n : ℕ} {out : List Event} (now : IsPassing S h count old left n out) where
  -- there are no more of them than bytes
  pub within : (length left ≤ length h.left) × (n + length left ≤ count + length h.left)
  within = let s = passes_sum S h now.passed (head_with h left) now.passes in (omega (arith, s.0), omega (arith, s.0, s.1, now.counted))

  -- and each has four bytes at least
  quarter : 4 * n + length left ≤ 4 * count + length h.left
  quarter = let s = passes_sum S h now.passed (head_with h left) now.passes in omega (arith, s.0, s.1, now.counted)

  -- there is room for one more
  pub room_now : (room : Room) (places : ℕ) → HasRoom room count (length h.left) places → 4 ≤ length left → HasRoom room n 4 places
  room_now Ample places r low = omega (arith, quarter, r, low)
  room_now Unknown places r low = tt

  -- where the region stands then
  behind : head_with h (drop (span_of S.order 2 left) left) ≡ follower S (head_with h left)
  behind =
      let span = span_of S.order 2 left in
      ap (λ (p : ℕ). record h { place = p; left = drop span left }) (omega (arith, within.0, length-drop span left, span_within S.order 2 left))

  -- one more
  pub goes : (rest : List ℕ) (new : List Event) → rest ≡ drop (span_of S.order 2 left) left → left ≢ [] → broken S (head_with h left) ≡ None → HoldsNone S (head_with h left) → new ≡ put_from n (event_of S.order (head_with h left) ∷ []) out → IsPassing S h count old rest (n + 1) new
  goes rest new is some b i put = record {
    passed = now.passed ++ head_with h left ∷ [];
    passes = subst (Passes S h (now.passed ++ head_with h left ∷ [])) (sym behind ∙ ap (head_with h) (sym is)) (passes_push S h now.passed (head_with h left) now.passes some b i);
    counted = omega (arith, now.counted, length-append now.passed (head_with h left ∷ []));
    events =
        let e = event_of S.order in
        put
        ∙ ap (put_from n (e (head_with h left) ∷ [])) now.events
        ∙ ap (λ (m : ℕ). put_from m (e (head_with h left) ∷ []) (put_from count (map e now.passed) old)) (omega (arith, now.counted, length-map now.passed e))
        ∙ put_on count (map e now.passed) (e (head_with h left) ∷ []) old
        ∙ ap (λ (es : List Event). put_from count es old) (sym (map-append e now.passed (head_with h left ∷ [])));
  }

-- ---- a head at a place of the bytes

-- its length is sound where the item lies in the bytes
pub sound_within : (o : Order) (left : List ℕ) (len : ℕ) → len ≡ len_of o 2 left → 4 ≤ len → len ≤ length left → broken_length o 4 2 left ≡ None
sound_within o left len is low high = within_bounds (length left) (len_of o 2 left) (omega (arith, is, low, high)) (omega (arith, is, low)) (omega (arith, is, high)) where
  within_bounds : (n m : ℕ) → 4 ≤ n → 4 ≤ m → m ≤ n → (if nat_lt n 4 then Some Cut else (if nat_lt m 4 || nat_lt n m then Some BadLength else None)) ≡ None
  within_bounds n m a b c = rw (le-ltb n 4 a, le-ltb m 4 b, le-ltb n m c) refl

-- the next one, where the item ends with its padding in the bytes
pub next_at : (o : Order) (bytes : List ℕ) (at len : ℕ) → at % 4 ≡ 0 → len ≡ len_of o 2 (drop at bytes) → (at + len + 3) / 4 * 4 ≤ length bytes
    → drop ((at + len + 3) / 4 * 4) bytes ≡ drop (span_of o 2 (drop at bytes)) (drop at bytes)
next_at o bytes at len whole is fits = ap (λ (n : ℕ). drop n bytes) (omega (arith, whole, is, fits, length-drop at bytes)) ∙ sym (drop-drop (span_of o 2 (drop at bytes)) at bytes)

-- ---- what is left behind them

-- a region of which so many bytes are left
abbrev pub front_of : OpenRegion → Passed → OpenRegion
front_of g r = record { left = r.left; place = g.place + length g.left.now - length r.left.now; level = g.level; parts = g.parts }

module _ {S : Shape} (g : OpenRegion) (ctx : Ctx) (before : Counts) {old new : List Event} (r : Passed) (kind : g.parts ≡ Attrs ctx)
    (is : IsPassing S (start_of ctx g.level (g.place + length g.left.now - length g.left.now) g.left.now) before.count old r.left.now r.count new) where
  all : IsPassing S (start_of ctx g.level g.place g.left.now) before.count old r.left.now r.count new
  all = subst (λ (p : ℕ). IsPassing S (start_of ctx g.level p g.left.now) before.count old r.left.now r.count new) (omega arith) is

  pub less : (length r.left.now ≤ length g.left.now) × (r.count + length r.left.now ≤ before.count + length g.left.now)
  less = within all

  -- they are passed and added
  pub skips : (later : Counts) → later ≡ record { count = r.count; visits = before.visits + (length g.left.now - length r.left.now) } → Skips S (head_of g) (head_of (front_of g r)) before later old new
  skips later sums =
      let s = passes_sum S (start_of ctx g.level g.place g.left.now) all.passed (head_with (start_of ctx g.level g.place g.left.now) r.left.now) all.passes in
      let at : head_with (start_of ctx g.level g.place g.left.now) r.left.now ≡ head_of (front_of g r) = ap (λ (p : ℕ). start_of ctx g.level p r.left.now) (omega (arith, less.0)) ∙ attrs_head (front_of g r) ctx kind in
      record {
        passed = all.passed;
        passes = subst (λ (h : Head). Passes S h all.passed (head_of (front_of g r))) (attrs_head g ctx kind) (subst (Passes S (start_of ctx g.level g.place g.left.now) all.passed) at all.passes);
        adds = record {
          count = ap (λ (t : Counts). t.count) sums ∙ all.counted;
          visits = omega (arith, ap (λ (t : Counts). t.visits) sums, s.0);
          events = all.events;
        };
      }

-- none is
pub skips_none : (S : Shape) (h : Head) (counts : Counts) (out : List Event) → Skips S h h counts counts out out
skips_none S h counts out = record { passed = []; passes = refl; adds = adds_none S counts out }
