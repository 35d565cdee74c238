-- The events of the heads of a region are those of the list that fits it.
use Rattle.nl_attr.proofs.Common.{◌≡◌, ◌≢◌, ℕ, ◌+◌, List, [], ◌∷◌, ◌++◌, length, map, drop, Option, Some, None, refl, sym, ap, subst, ◌∙◌, arith, map-append, w32, cast_unsigned, Event, Reason, AttrFlags, Ctx, Route, Content, Shape, aligned, len_of, span_of, broken_length, payload_of, Val, bytes, list, hops, Items, no_items, item, HopItems, no_hops, hop, holds_of, FitsVal, Fits, FitsHops, hop_head, Head, content_at, broken, broken_container, follower, inner_in, inner_of, or_else, start_of, heads, val_len, items_len, TrailOf, and_on, inner_trail, trail_of, sort_of, attr_event, hop_event, event_of}
use Rattle.nl_attr.specs.declared.tree.Content.TheVariants as content
use Rattle.nl_attr.specs.Listed.{sort_of_val, val_events, items_events, hops_events, rounded}
use Rattle.nl_attr.proofs.Lemmas.Fitted.{hop_size, val_len_is, items_len_is, hops_len_is}
use Rattle.nl_attr.proofs.Lemmas.Fitting.{attr_is, cut_piece, next_span, val_fit}
use Rattle.nl_attr.proofs.Lemmas.Numbers.{past_hop}
use Rattle.nl_attr.proofs.Lemmas.Reading.{sound_within}
use Rattle.nl_attr.proofs.Lemmas.Grammars.{some_left, trail_ends, trail_goes}
use Rattle.nl_attr.proofs.Lemmas.Scan.{laws}

-- ---- the events of heads

-- no fault ends the heads, and these are their events, rounded
abbrev pub AreEvents : {H : Type 0} → (H → Event) → TrailOf H → List Event → Type 0
AreEvents event t es = (t.1 ≡ None) × (map rounded (map event t.0) ≡ es)

pub events_on : {H : Type 0} (event : H → Event) (i t : TrailOf H) (es fs : List Event) → AreEvents event i es → AreEvents event t fs → AreEvents event (and_on i t) (es ++ fs)
events_on event (hs, None) t es fs a b = (
  b.0,
  ap (map rounded) (map-append event hs t.0) ∙ map-append rounded (map event hs) (map event t.0)
      ∙ ap (λ (l : List Event). l ++ map rounded (map event t.0)) a.1 ∙ ap (λ (l : List Event). es ++ l) b.1,
)
events_on event (hs, Some f) t es fs a b = absurd (let e : ◌≡◌ {A = Option (ℕ × Reason)} (Some f) None = a.0 in cc)

pub events_one : {H : Type 0} (event : H → Event) (h : H) (e : Event) (t : TrailOf H) (es : List Event) → rounded (event h) ≡ e → AreEvents event t es → AreEvents event (h ∷ t.0, t.1) (e ∷ es)
events_one event h e t es a b = (b.0, ap (λ (x : Event). x ∷ map rounded (map event t.0)) a ∙ ap (λ (l : List Event). e ∷ l) b.1)

module _ (S : Shape) where
  abbrev Listed : Head → List Event → Type 0
  Listed h es = AreEvents (event_of S.order) (trail_of S h) es

  -- a head that breaks no rule, what is inside its item, and what is behind it
  item_listed : (h k : Head) (o : Option Head) (e : Event) (es fs : List Event) → h.left ≢ [] → broken S h ≡ None → inner_of S h ≡ o → follower S h ≡ k → rounded (event_of S.order h) ≡ e
      → AreEvents (event_of S.order) (inner_trail o (trail_of S)) es → Listed k fs → Listed h (e ∷ (es ++ fs))
  unfolding heads
  item_listed h k o e es fs some sound inside next is a b =
      subst (λ t. AreEvents (event_of S.order) t (e ∷ (es ++ fs)))
      (sym (trail_goes (heads S) (laws S) h o some sound inside
      ∙ ap (λ (x : Head). (h ∷ (and_on (inner_trail o (trail_of S)) (trail_of S x)).0, (and_on (inner_trail o (trail_of S)) (trail_of S x)).1)) next))
      (events_one (event_of S.order) h e (and_on (inner_trail o (trail_of S)) (trail_of S k)) (es ++ fs) is (events_on (event_of S.order) (inner_trail o (trail_of S)) (trail_of S k) es fs a b))

  -- nothing is left
  none_listed : (h : Head) → h.left ≡ [] → Listed h []
  unfolding heads
  none_listed h e = subst (λ t. AreEvents (event_of S.order) t []) (sym (trail_ends (heads S) (laws S) h e)) (refl, refl)

  -- ---- an attribute

  attr_sound : (l n : ℕ) (c : Content) (ctx : Ctx) (left : List ℕ) → broken_length S.order 4 2 left ≡ None → content_at S.order ctx left ≡ c → len_of S.order 2 left ≡ n → broken_container S l c n ≡ None
      → or_else (broken_length S.order 4 2 left) (broken_container S l (content_at S.order ctx left) (len_of S.order 2 left)) ≡ None
  attr_sound l n c ctx left a b e f =
      ap (λ (o : Option Reason). or_else o (broken_container S l (content_at S.order ctx left) (len_of S.order 2 left))) a
      ∙ ap (λ (x : Content). broken_container S l x (len_of S.order 2 left)) b ∙ ap (broken_container S l c) e ∙ f

  -- with its number and its flags
  holds_same : (ctx : Ctx) (a b : ℕ) (f g : AttrFlags) → a ≡ b → f ≡ g → holds_of ctx a f ≡ holds_of ctx b g
  holds_same ctx a b f g d e = rw (d, e) refl

  attr_same : (ctx : Ctx) (place l a b : ℕ) (f g : AttrFlags) (xs ys : List ℕ) → a ≡ b → f ≡ g → xs ≡ ys
      → rounded (attr_event place l a f (sort_of (holds_of ctx a f)) (length xs)) ≡ rounded (attr_event place l b g (sort_of (holds_of ctx b g)) (length ys))
  attr_same ctx place l a b f g xs ys d e i = rw (d, e, i) refl

  -- what it holds, and how long that is
  val_event_is : (v : Val) (c : Content) (place l n len : ℕ) (flags : AttrFlags) (payload : List ℕ) → FitsVal S v c payload len l
      → rounded (attr_event place l n flags (sort_of c) (length payload)) ≡ attr_event place l n flags (sort_of_val v) (val_len v)
  val_event_is (bytes bs) content.Bytes place l n len flags payload f = ap (λ (x : List ℕ). attr_event place l n flags (sort_of content.Bytes) (length x)) f
  val_event_is (list is) (content.List c) place l n len flags payload f = ap (attr_event place l n flags (sort_of (content.List c))) (sym (items_len_is S is payload c (l + 1) f.2))
  val_event_is (hops hs) content.Hops place l n len flags payload f = ap (attr_event place l n flags (sort_of content.Hops)) (sym (hops_len_is S hs payload (l + 1) f.2))
  val_event_is v c place l n len flags payload f = absurd f

  -- ---- all

  mutual
    pub items_listed : (is : Items) (ctx : Ctx) (l place q : ℕ) (left : List ℕ) → Fits S is left ctx l → (left ≢ [] → place ≡ q) → Listed (start_of ctx l place left) (items_events q l is)
    items_listed no_items ctx l place q left f at = none_listed (start_of ctx l place left) f
    items_listed (item n flags v more) ctx l place q left f at =
        let it = f.0 in
        let rest = f.2 in
        let payload = f.3 in
        let is = attr_is S.order left it f.1 rest payload n flags f.4 f.5 f.6 in
        let c = holds_of ctx n flags in
        let span = span_of S.order 2 left in
        let some : left ≢ [] = some_left left (omega (arith, (sound_within S.order 4 2 left is.cut.sound).head)) in
        let holds : content_at S.order ctx left ≡ c = holds_same ctx _ n _ flags is.number is.flags_are in
        let sound = attr_sound l (length payload + 4) c ctx left is.cut.sound holds (is.cut.len ∙ is.size) (val_fit v c S l (place + 4) payload (subst (λ x. FitsVal S v c payload x l) is.size f.7)).0 in
        let inside : inner_in (content_at S.order ctx left) (place + 4) (l + 1) (payload_of S.order 4 2 left) ≡ inner_in c (place + 4) (l + 1) payload =
        ap (λ (x : Content). inner_in x (place + 4) (l + 1) (payload_of S.order 4 2 left)) holds ∙ ap (inner_in c (place + 4) (l + 1)) is.payload_is in
        let event : rounded (event_of S.order (start_of ctx l place left)) ≡ attr_event place l n flags (sort_of_val v) (val_len v) =
        attr_same ctx place l _ n _ flags _ payload is.number is.flags_are is.payload_is ∙ val_event_is v c place l n (length it) flags payload f.7 in
        let size : length it ≡ 4 + length payload = omega (arith, is.size) in
        subst (λ p. Listed (start_of ctx l place left) (items_events p l (item n flags v more))) (at some)
        (item_listed (start_of ctx l place left) (start_of ctx l (place + span) rest) (inner_in c (place + 4) (l + 1) payload) _ _ _ some sound inside (ap (start_of ctx l (place + span)) is.cut.rest_is) event
        (val_listed v c l (place + 4) (length it) payload f.7)
        (items_listed more ctx l (place + span) (place + aligned (4 + val_len v)) rest f.8 (λ x. ap (λ k. place + k) (next_span S.order 4 2 left it rest is.cut x ∙ sym (val_len_is S v c payload (length it) l size f.7)))))

    val_listed : (v : Val) (c : Content) (l place len : ℕ) (payload : List ℕ) → FitsVal S v c payload len l → AreEvents (event_of S.order) (inner_trail (inner_in c place (l + 1) payload) (trail_of S)) (val_events place (l + 1) v)
    val_listed (bytes bs) content.Bytes l place len payload f = (refl, refl)
    val_listed (list is) (content.List c) l place len payload f = items_listed is c (l + 1) place place payload f.2 (λ some. refl)
    val_listed (hops hs) content.Hops l place len payload f = hops_listed hs (l + 1) place place payload f.2 (λ some. refl)
    val_listed v c l place len payload f = absurd f

    hops_listed : (hs : HopItems) (l place q : ℕ) (left : List ℕ) → FitsHops S hs left l → (left ≢ [] → place ≡ q) → Listed (record { place = place; sort = hop_head; ctx = Route; level = l; left = left }) (hops_events q l hs)
    hops_listed no_hops l place q left f at = none_listed (record { place = place; sort = hop_head; ctx = Route; level = l; left = left }) f
    hops_listed (hop flags count index attrs more) l place q left f at =
        let it = f.0 in
        let rest = f.2 in
        let payload = f.3 in
        let cut = cut_piece S.order 8 2 left it f.1 rest f.4 in
        let span = span_of S.order 2 left in
        let h : Head = record { place = place; sort = hop_head; ctx = Route; level = l; left = left } in
        let some : left ≢ [] = some_left left (omega (arith, (sound_within S.order 8 2 left cut.sound).head)) in
        let body : payload_of S.order 8 2 left ≡ payload = ap (drop 8) (cut.item ∙ f.5) ∙ past_hop S.order (length it) flags count (cast_unsigned w32 index) payload in
        let size : aligned (8 + items_len attrs) ≡ aligned (length it) = omega (arith, items_len_is S attrs payload Route (l + 1) f.7, hop_size S.order it payload _ _ _ _ f.5) in
        subst (λ p. Listed h (hops_events p l (hop flags count index attrs more))) (at some)
        (item_listed h (record h { place = place + span; left = rest }) (Some (start_of Route (l + 1) (place + 8) payload)) _ _ _ some cut.sound
        (ap (λ (x : List ℕ). Some (start_of Route (l + 1) (place + 8) x)) body) (ap (λ (x : List ℕ). record h { place = place + span; left = x }) cut.rest_is)
        (ap (λ (x : List ℕ). rounded (hop_event place l (length x))) body ∙ ap (hop_event place l) (sym (items_len_is S attrs payload Route (l + 1) f.7)))
        (items_listed attrs Route (l + 1) (place + 8) (place + 8) payload f.7 (λ x. refl))
        (hops_listed more l (place + span) (place + aligned (8 + items_len attrs)) rest f.8 (λ x. ap (λ k. place + k) (next_span S.order 8 2 left it rest cut x ∙ sym size))))

  -- the events of a region
  pub list_events : (ctx : Ctx) (l place : ℕ) (left : List ℕ) (is : Items) → Fits S is left ctx l → map rounded (map (event_of S.order) (trail_of S (start_of ctx l place left)).0) ≡ items_events place l is
  list_events ctx l place left is f = (items_listed is ctx l place place left f (λ some. refl)).1
