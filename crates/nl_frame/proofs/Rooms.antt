-- That a builder keeps within its slice, and leaves what is behind the accepted bytes.
use Rattle.nl_frame.proofs.Common.{◌≡◌, ℕ, ◌+◌, ◌-◌, ◌≤◌, List, [], ◌∷◌, ◌++◌, length, drop, Option, Some, None, refl, sym, ap, subst, ◌∙◌, arith, length-append, length-drop, AllByRecursion, Order, aligned, num, bytes, with_padding, attr_item, written_val, length-padded, length-padded_attr, length-num, family_of, length-written, header_fields, body_written, Bounds, BuildError, OpenHead, MessageVal, Built, order_of, settled, lacks, held, top, attr_begun, hop_begun, message_begun, header_begun, header_whole, ended, head_ended, length_from, Begun, message, attribute, next_hop, Layer, Draft, begun_bytes, laid, heads_of, Holds, Call, begin, put, open_attr, open_hop, close, end, put_message, IsCall, called, put_by, run, KeepsRoom}
use Rattle.nl_route.specs.Fields as fields
use Rattle.nl_frame.proofs.Opens.{has_room, begin_allowed, drop_twice, length-over}
use Rattle.nl_frame.proofs.Puts.{neither, has_bytes}
use Rattle.nl_frame.proofs.Begins.{opens_at, hop_may, attr_length, hop_length, message_length}
use Rattle.nl_frame.proofs.Wholes.{is_whole}
use Rattle.nl_frame.proofs.Running.{not_refused, refused, sticks, called_holds}

-- ---- one part

-- the same bytes, or as many of them, with the same behind them
pub record IsAsLong (b c : Built) : Type 0 where
  pub front : length c.front ≡ length b.front
  pub free : c.free ≡ b.free

as_long : (b c : Built) → IsAsLong b c → KeepsRoom b c
as_long b c s =
    let none : length c.front - length b.front ≡ 0 = omega (arith, s.front) in
    record {
      grows = omega (arith, s.front);
      all = omega (arith, s.front, ap (length {A = ℕ}) s.free);
      behind = s.free ∙ sym (ap (λ k. drop k b.free) none);
    }

-- so many bytes more
more_room : (b c : Built) (bs : List ℕ) → lacks b (length bs) ≡ None → c.front ≡ b.front ++ bs → c.free ≡ drop (length bs) b.free → KeepsRoom b c
more_room b c bs e f g =
    let r = has_room b (length bs) e in
    let len : length c.front ≡ length b.front + length bs = ap (length {A = ℕ}) f ∙ length-append b.front bs in
    let gap : length c.front - length b.front ≡ length bs = omega (arith, len) in
    record {
      grows = omega (arith, len);
      all = omega (arith, len, ap (length {A = ℕ}) g, length-drop (length bs) b.free, r.0);
      behind = g ∙ sym (ap (λ k. drop k b.free) gap);
    }

-- one call behind another
room_then : (b c d : Built) → KeepsRoom b c → KeepsRoom c d → KeepsRoom b d
room_then b c d k m =
    let both : (length c.front - length b.front) + (length d.front - length c.front) ≡ length d.front - length b.front = omega (arith, k.grows, m.grows) in
    record {
      grows = omega (arith, k.grows, m.grows);
      all = m.all ∙ k.all;
      behind = m.behind ∙ ap (drop (length d.front - length c.front)) k.behind ∙ drop_twice (length d.front - length c.front) (length c.front - length b.front) b.free ∙ ap (λ k. drop k b.free) both;
    }

-- ---- a length is set

begun_long : (o : Order) (h : Begun) → 4 ≤ length (begun_bytes o h)
begun_long o (message kind flags seq port h) = omega (arith, message_length o kind flags seq port h)
begun_long o (attribute n f) = omega (arith, attr_length o n f)
begun_long o (next_hop f c i) = omega (arith, hop_length o f c i)

same_length : {L : Bounds} (b : Built) (ms : List MessageVal) (xs : List Layer) (w : ℕ) → w ≤ 4 → Holds L b (record { ended = ms; layers = xs })
    → IsAsLong b (head_ended b (heads_of (order_of b) ms xs) (num (length_from b (heads_of (order_of b) ms xs)) w (order_of b)))
same_length b ms [] w le h = record { front = refl; free = refl }
same_length b ms (x ∷ xs) w le h =
    let o = order_of b in
    let s = length (laid o ms xs) in
    let field = num (length b.front - s) w o in
    let inside = begun_bytes o x.head ++ written_val o x.inside in
    let len : length b.front ≡ s + (length (begun_bytes o x.head) + length (written_val o x.inside)) = ap (length {A = ℕ}) h.front ∙ length-append (laid o ms xs) inside ∙ ap (λ k. s + k) (length-append (begun_bytes o x.head) (written_val o x.inside)) in
    let low : s + length field ≤ length b.front = omega (arith, len, begun_long o x.head, le, length-num o (length b.front - s) w) in
    record { front = length-over b.front field s (s + length field) refl low; free = refl }

pub ends_as_long : {L : Bounds} (b : Built) (d : Draft) (w : ℕ) → w ≤ 4 → Holds L b d → IsAsLong b (ended b w)
ends_as_long b d w le h = subst (λ (hs : List OpenHead). IsAsLong b (head_ended b hs (num (length_from b hs) w (order_of b)))) (sym h.heads) (same_length b d.ended d.layers w le h)

-- ---- a call

-- what is left of a call that isn't refused
done : (b next : Built) (r : Option BuildError) → r ≡ None → KeepsRoom b next → KeepsRoom b (settled b r next)
done b next r e k = subst (λ (x : Option BuildError). KeepsRoom b (settled b x next)) (sym e) k

pub called_room : {L : Bounds} (b : Built) (d : Draft) (c : Call) → Holds L b d → (called b c).refusal ≡ None → KeepsRoom b (called b c)
called_room b d (begin kind flags seq port h) holds e =
    let none = not_refused b _ _ e in
    let bytes = message_begun (order_of b) (header_begun kind flags seq port) h in
    done b _ _ none (more_room b _ bytes (ap (lacks b) (message_length (order_of b) kind flags seq port h) ∙ (begin_allowed b kind (family_of h) none).1) refl refl)
called_room b d (put n f bs) holds e =
    let none = not_refused b _ _ e in
    let room = (has_bytes b (held (top b.heads) n f) (length bs) (neither b.refusal _ none).1).room in
    done b _ _ none (more_room b _ (with_padding (attr_item (order_of b) n f bs)) (ap (lacks b) (length-padded_attr (order_of b) n f (bytes bs)) ∙ room) refl refl)
called_room b d (open_attr n f) holds e =
    let none = not_refused b _ _ e in
    let room = (opens_at b (held (top b.heads) n f) (neither b.refusal _ none).1).room in
    done b _ _ none (more_room b _ (attr_begun (order_of b) n f) (ap (lacks b) (attr_length (order_of b) n f) ∙ room) refl refl)
called_room b d (open_hop f c i) holds e =
    let none = not_refused b _ _ e in
    let room = (hop_may b d.ended d.layers holds none).1 in
    done b _ _ none (more_room b _ (hop_begun (order_of b) f c i) (ap (lacks b) (hop_length (order_of b) f c i) ∙ room) refl refl)
called_room b d close holds e = done b _ _ (not_refused b _ _ e) (as_long b _ (ends_as_long b d 2 (omega arith) holds))
called_room b d end holds e = done b _ _ (not_refused b _ _ e) (as_long b _ (ends_as_long b d 4 (omega arith) holds))
called_room b d (put_message kind flags seq port v) holds e =
    let none = not_refused b _ _ e in
    let bs = body_written (order_of b) v in
    let front = header_fields (header_whole kind flags seq port (length bs)) in
    let it = fields.written (order_of b) front ++ bs in
    let len : length (with_padding it) ≡ aligned (16 + length bs) = length-padded it ∙ ap aligned (length-append (fields.written (order_of b) front) bs ∙ ap (λ k. k + length bs) (length-written (order_of b) front)) in
    done b _ _ none (more_room b _ (with_padding it) (ap (lacks b) len ∙ (is_whole b kind (length bs) none).room) refl refl)

pub runs_room : (b : Built) (d : Draft) (L : Bounds) (cs : List Call) → AllByRecursion IsCall cs → Holds L b d → KeepsRoom b (run b cs)
runs_room b d L [] r h = as_long b b (record { front = refl; free = refl })
runs_room b d L (c ∷ cs) r h = at (called b c).refusal refl (λ g. runs_room (called b c) (put_by d c) L cs r.1 (called_holds b d c r.0 h g)) where
  at : (e : Option BuildError) → (called b c).refusal ≡ e → ((called b c).refusal ≡ None → KeepsRoom (called b c) (run (called b c) cs)) → KeepsRoom b (run (called b c) cs)
  at None g more = room_then b (called b c) (run (called b c) cs) (called_room b d c h g) (more g)
  at (Some x) g more = subst (KeepsRoom b) (sym (sticks (called b c) cs x g)) (subst (KeepsRoom b) (sym (refused b c x g)) (as_long b (record b { refusal = Some x }) (record { front = refl; free = refl })))
