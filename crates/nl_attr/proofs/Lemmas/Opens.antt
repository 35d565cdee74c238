-- An attribute that holds a region.
use Rattle.nl_attr.proofs.Common.{◌≡◌, ℕ, ◌+◌, ◌≤◌, [], ◌∷◌, ◌++◌, ltb, length, map, None, refl, sym, ap, ◌∙◌, arith, Vec, ltb-false, LONGEST_CONTAINER, Layout, Memory, Part, Content, Attr, AttrFlags, Ctx, ListRegion, Parts, Turn, Shape, span_of, IsPart, IsHopPart, Val, list, hops, Items, item, HopItems, holds_of, hop, attr_view, hop_view, attr_head, broken_container, hop_head, Outcome, and_then, more_visits, items_of_region, hops_of_region, value_at, content_in, sort_in, before, TurnsAt, items_left, list_rest, hops_rest, list_goes_on, opening_rest, Goes, list_spot, levels_in, IsWithinLimits, Moves, hops_go_on, hops_left, spot_of, hops_spot, HopMoves, HopPart, Route}
use Rattle.nl_attr.specs.declared.stack.regions.HopsRegion.{HopsRegion}
use Rattle.nl_attr.specs.declared.region.Parts.TheVariants as parts
use Rattle.nl_attr.specs.declared.stack.attributes.Opening.{Opening}
use Rattle.nl_attr.specs.declared.stack.attributes.Turn.TheVariants as turn
use Rattle.nl_attr.proofs.Lemmas.Scan.{tests_none}
use Rattle.nl_attr.proofs.Lemmas.Reading.{map_then}
use Rattle.nl_attr.proofs.Lemmas.Loop.{Turns, collected, list_breaks, list_opens, passes, hops_open, hop_inner}
use Rattle.nl_attr.specs.declared.stack.regions.HopHead.{HopHead}
use Rattle.nl_attr.specs.declared.stack.next_hops.HopTurn.TheVariants as hop_turn

-- the levels that a sound container opens are there
levels_are : (S : Shape) (level len : ℕ) (i : Parts) → broken_container S level (content_in i) len ≡ None → level + 1 + levels_in (sort_in i) ≤ S.depth
levels_are S level len (parts.Attrs c) e = omega (arith, ltb-false _ _ (tests_none (ltb LONGEST_CONTAINER len) (ltb S.depth (level + 1)) e))
levels_are S level len parts.Hops e = omega (arith, ltb-false _ _ (tests_none (ltb LONGEST_CONTAINER len) (ltb S.depth (level + 2)) e))

module _ (S : Shape) (p : Part) (r s : ListRegion) (i : Parts) where
  pub turn_goes : (n : ℕ) (t : Turn) → IsWithinLimits S (list_spot r) → Turns 4 r.walk s.walk p.payload.now → IsPart p r.walk → holds_of r.ctx p.number p.flags ≡ content_in i → TurnsAt S r.level r.base p i t → s.ctx ≡ r.ctx → s.base ≡ r.base → s.level ≡ r.level → s.list ≡ r.list → Goes S n (list_rest S r) (n + p.span) s t
  turn_goes n turn.Ends w g is h t c b l k = absurd t
  turn_goes n (turn.Opens o) w g is h t c b l k =
      rw (t.0, c, b, l, k, is.span)
      (list_opens S r.ctx r.level r.base p r.walk s.walk (map attr_view r.list.items) n w.order g.sound is g.next (rw h t.1)
      ∙ ap (λ (x : Content). more_visits (n + span_of r.walk.order 2 r.walk.left) (and_then (value_at S x r.level (r.base + p.place + 4) p.payload.now) (list_goes_on S (record r { walk = s.walk }) p.number p.flags))) h)
  turn_goes n (turn.Fails (Layout f)) w g is h t c b l k =
      rw (t.0, is.span) (list_breaks S r.ctx r.level r.base p r.walk (before (map attr_view r.list.items)) f.reason n w.order g.sound is (rw h t.1))
  turn_goes n (turn.Fails Memory) w g is h t c b l k = absurd t

  pub turn_moves : (t : Turn) → IsWithinLimits S (list_spot r) → Turns 4 r.walk s.walk p.payload.now → IsPart p r.walk → TurnsAt S r.level r.base p i t → s.base ≡ r.base → s.level ≡ r.level → Moves S (list_spot r) s t
  turn_moves turn.Ends w g is t b l = absurd t
  turn_moves (turn.Opens o) w g is t b l =
      let v = passes attr_head 4 r.base r.level r.walk s.walk p.payload.now (r.base + p.place + 4) g (omega arith) (rw is.place refl) in
      let deep = levels_are S r.level (length p.payload.now + 4) i t.1 in
      rw (t.0, b, l) (
        v.goes,
        record {
          level = refl;
          inside = omega (arith, v.inside);
          limits = record {
            order = refl;
            level = deep;
            size = omega (arith, w.size, v.goes.end, v.inside, v.less);
            place = omega (arith, w.place, v.goes.end, v.goes.base, v.inside);
          };
        },
        v.less,
      )
  turn_moves (turn.Fails e) w g is t b l = tt

-- what opened is a region of attributes, or one of next hops
pub opening_list : (S : Shape) (r : ListRegion) (p : Opening) (c : Ctx) (a : ListRegion) → p.parts ≡ parts.Attrs c → list_rest S a ≡ items_of_region S c (r.level + 1) p.place p.payload.now → opening_rest S r p ≡ and_then (list_rest S a) (λ is. list_goes_on S r p.number p.flags (list is))
opening_list S r p c a e rest =
    ap (λ (i : Parts). and_then (value_at S (content_in i) r.level p.place p.payload.now) (list_goes_on S r p.number p.flags)) e
    ∙ map_then list (items_of_region S c (r.level + 1) p.place p.payload.now) (list_goes_on S r p.number p.flags)
    ∙ ap (λ (o : Outcome Items). and_then o (λ is. list_goes_on S r p.number p.flags (list is))) (sym rest)

pub opening_hops : (S : Shape) (r : ListRegion) (p : Opening) (a : HopsRegion) → p.parts ≡ parts.Hops → hops_rest S a ≡ hops_of_region S (r.level + 1) p.place p.payload.now → opening_rest S r p ≡ and_then (hops_rest S a) (λ hs. list_goes_on S r p.number p.flags (hops hs))
opening_hops S r p a e rest =
    ap (λ (i : Parts). and_then (value_at S (content_in i) r.level p.place p.payload.now) (list_goes_on S r p.number p.flags)) e
    ∙ map_then hops (hops_of_region S (r.level + 1) p.place p.payload.now) (list_goes_on S r p.number p.flags)
    ∙ ap (λ (o : Outcome HopItems). and_then o (λ hs. list_goes_on S r p.number p.flags (hops hs))) (sym rest)

-- the attribute is collected
pub attr_kept : (S : Shape) (r : ListRegion) (kept : Vec Attr) (number : ℕ) (flags : AttrFlags) (v : Val) → map attr_view kept.items ≡ map attr_view r.list.items ++ item number flags v ∷ [] → list_goes_on S r number flags v ≡ list_rest S (record r { list = kept })
attr_kept S r kept number flags v e = sym (collected (map attr_view r.list.items) (map attr_view kept.items) (item number flags v) (items_left S r) e)

-- ---- one next hop of a region, whose attributes are read next

module _ (S : Shape) (r s : HopsRegion) (p : HopPart) (h : HopHead) (a : ListRegion) where
  -- the attributes of the hop are read, and then the region goes on
  pub hop_opens : (n : ℕ) → IsWithinLimits S (hops_spot r) → Turns 8 r.walk s.walk p.rest.now → IsHopPart p r.walk → s.base ≡ r.base → s.level ≡ r.level → s.list ≡ r.list → h.flags ≡ p.flags → h.hops ≡ p.hops → h.ifindex ≡ p.ifindex → list_rest S a ≡ items_of_region S Route (r.level + 1) (r.base + p.place + 8) p.rest.now
      → more_visits n (hops_rest S r) ≡ more_visits (n + p.span) (and_then (list_rest S a) (hops_go_on S s h))
  hop_opens n w g is b l k f x i rest =
      rw (rest, b, l, k, f, x, i, is.span) (hops_open S r.level r.base p r.walk s.walk (map hop_view r.list.items) n w.order g.sound is g.next)

  pub hop_moves : IsWithinLimits S (hops_spot r) → Turns 8 r.walk s.walk p.rest.now → IsHopPart p r.walk → s.base ≡ r.base → s.level ≡ r.level → list_spot a ≡ spot_of S attr_head (r.base + p.place + 8) (r.level + 1) p.rest.now → HopMoves S (hops_spot r) s (hop_turn.Opens h a)
  hop_moves w g is b l spot =
      let v = passes hop_head 8 r.base r.level r.walk s.walk p.rest.now (r.base + p.place + 8) g (omega arith) (rw is.place refl) in
      let i = hop_inner S (hops_spot r) (record { sort = hop_head; base = r.base; level = r.level; region = s.walk }) (list_spot a) (r.base + p.place + 8) p.rest.now refl w v spot in
      rw (b, l) (v.goes, i.0, i.1)

-- the hop is collected
pub hop_kept : (S : Shape) (s t : HopsRegion) (h : HopHead) (is : Items) → t.walk ≡ s.walk → t.base ≡ s.base → t.level ≡ s.level → map hop_view t.list.items ≡ map hop_view s.list.items ++ hop h.flags h.hops h.ifindex is ∷ [] → hops_go_on S s h is ≡ hops_rest S t
hop_kept S s t h is w b l e =
    rw (w, b, l) (sym (collected (map hop_view s.list.items) (map hop_view t.list.items) (hop h.flags h.hops h.ifindex is) (hops_left S s) e))
