-- The events of the heads of a datagram are those of the messages that are its layout.
use Rattle.nl_frame.proofs.Common.{◌≡◌, ◌≢◌, ℕ, ◌+◌, List, [], ◌∷◌, ◌++◌, length, map, drop, Option, Some, None, refl, sym, ap, subst, ◌∙◌, arith, Event, Shape, aligned, Head, and_on, next_span, sound_within, head_size, context_of, family_of, Header, Form, form_of, span_at, payload_at, broken_message, header, Rest, behind, region_in, region_of, whole, BodyOf, Layout, BodyVal, done, object, MessageVal, body_len, region_trail, trail_of, header_event, event_of, events_of}
use Rattle.nl_attr.specs.Listed.{rounded}
use Rattle.nl_attr.specs.HeadOrder as region
use Rattle.nl_attr.proofs.Lemmas.Listed.{AreEvents, events_on, events_one, items_listed}
use Rattle.nl_frame.specs.Listed.{body_events, messages_events}
use Rattle.nl_frame.proofs.Layouts.{body_fit, message_is, some_of}
use Rattle.nl_frame.proofs.ProperLayouts.{body_len_is, payload_in}
use Rattle.nl_frame.proofs.Tapes.{region_events}
use Rattle.nl_frame.proofs.Scan.{trail_ends, trail_goes}

module _ (S : Shape) where
  abbrev Listed : Rest → List Event → Type 0
  Listed r es = AreEvents (event_of S.order) (trail_of S r) es

  -- the region of a body, where there is one
  abbrev ListedIn : Option Head → List Event → Type 0
  ListedIn o es = AreEvents (event_of S.order) (region_trail S o) es

  region_listed : (h : Head) (es : List Event) → AreEvents (region.event_of S.order) (region.trail_of S h) es → ListedIn (Some h) es
  region_listed h es a = (a.0, ap (map rounded) (sym (region_events S (region.trail_of S h).0)) ∙ a.1)

  -- ---- a body

  body_listed : (c : BodyVal) (f : Form) (place : ℕ) (payload : List ℕ) → BodyOf S c f payload → ListedIn (region_in f place payload) (body_events place c)
  body_listed (object h is) f place payload b =
      let g = family_of h in
      let at = place + head_size g in
      subst (λ x. ListedIn (region_in x place payload) (body_events place (object h is))) (sym b.0)
      (region_listed _ (body_events place (object h is)) (items_listed S is (context_of g) 0 at at (drop (head_size g) payload) b.1.2 (λ some. refl)))
  body_listed (done None tail) f place payload b = subst (λ g. ListedIn (region_in g place payload) []) (sym b.0) (refl, refl)
  body_listed (done (Some z) tail) f place payload b = subst (λ g. ListedIn (region_in g place payload) []) (sym b.0) (refl, refl)
  body_listed c f place payload b = subst (λ g. ListedIn (region_in g place payload) []) (sym b.0) (refl, refl)

  -- ---- all

  -- a message that breaks no rule, the heads in its body, and what is behind it
  message_listed : (r k : Rest) (o : Option Head) (e : Event) (es fs : List Event) → r.left ≢ [] → broken_message S.order r.left ≡ None → region_of S r ≡ o → behind S r ≡ k
      → rounded (event_of S.order (header r)) ≡ e → ListedIn o es → Listed k fs → Listed r (e ∷ (es ++ fs))
  message_listed r k o e es fs some sound inside next is a b =
      subst (λ t. AreEvents (event_of S.order) t (e ∷ (es ++ fs)))
      (sym (trail_goes S r some sound
      ∙ ap (λ (x : Option Head). (header r ∷ (and_on (region_trail S x) (trail_of S (behind S r))).0, (and_on (region_trail S x) (trail_of S (behind S r))).1)) inside
      ∙ ap (λ (x : Rest). (header r ∷ (and_on (region_trail S o) (trail_of S x)).0, (and_on (region_trail S o) (trail_of S x)).1)) next))
      (events_one (event_of S.order) (header r) e (and_on (region_trail S o) (trail_of S k)) (es ++ fs) is (events_on (event_of S.order) (region_trail S o) (trail_of S k) es fs a b))

  messages_listed : (ms : List MessageVal) (place q : ℕ) (left : List ℕ) → Layout S ms left → (left ≢ [] → place ≡ q) → Listed (record { place = place; left = left }) (messages_events q ms)
  messages_listed [] place q left f at = subst (λ t. AreEvents (event_of S.order) t []) (sym (trail_ends S (record { place = place; left = left }) f)) (refl, refl)
  messages_listed (m ∷ ms) place q left f at =
      let it = f.0 in
      let rest = f.2 in
      let payload = drop 16 it in
      let r : Rest = record { place = place; left = left } in
      let span = span_at S.order left in
      let is = message_is S m left it f.1 rest f.3 f.4 (body_fit S m.body (form_of m.kind) (place + 16) payload f.5).0 in
      let some : left ≢ [] = some_of left (sound_within S.order 16 4 left is.cut.sound).head in
      let inside : region_of S r ≡ region_in (form_of m.kind) (place + 16) payload = rw (is.form_is, is.payload_is) refl in
      let len = body_len_is S m.body (form_of m.kind) payload f.5 in
      let size : aligned (body_len m.body) ≡ aligned (length payload) = omega (arith, len) in
      let event : rounded (event_of S.order (header r)) ≡ header_event place m.kind (aligned (body_len m.body)) =
      ap (λ (x : Header). rounded (header_event place x.kind (length (payload_at S.order left)))) is.header_is
      ∙ ap (λ (x : List ℕ). header_event place m.kind (aligned (length x))) is.payload_is ∙ ap (header_event place m.kind) (sym size) in
      let next : aligned (16 + body_len m.body) ≡ aligned (length it) = len ∙ ap aligned (payload_in S.order left it f.1 rest f.3) in
      subst (λ p. Listed r (messages_events p (m ∷ ms))) (at some)
      (message_listed r (record { place = place + span; left = rest }) (region_in (form_of m.kind) (place + 16) payload) _ _ _ some is.sound inside
      (ap (λ (x : List ℕ). record { place = place + span; left = x }) is.cut.rest_is) event
      (body_listed m.body (form_of m.kind) (place + 16) payload f.5)
      (messages_listed ms (place + span) (place + aligned (16 + body_len m.body)) rest f.6 (λ x. ap (λ k. place + k) (next_span S.order 16 4 left it rest is.cut x ∙ sym next))))

  -- the events of a datagram
  pub layout_events : (d : List ℕ) (ms : List MessageVal) → Layout S ms d → map rounded (events_of S (whole d)) ≡ messages_events 0 ms
  layout_events d ms f = (messages_listed ms 0 0 d f (λ some. refl)).1
