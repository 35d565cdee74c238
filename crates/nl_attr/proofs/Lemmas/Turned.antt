-- What reading a region of attributes comes to where its walk has given one.
use Rattle.nl_attr.proofs.Common.{◌≡◌, ℕ, ◌+◌, ◌≤◌, [], ◌∷◌, ◌++◌, length, map, Some, Ok, refl, arith, Vec, LONGEST_REGION, Attr, Part, Parts, ListRegion, Turn, Shape, Region, GivesPart, bytes, Items, item, holds_of, attr_view, attr_head, Outcome, content_in, before, list_rest, list_spot, TurnsAt, Goes, Moves, Spot, IsWithinLimits}
use Rattle.nl_attr.specs.declared.tree.Content.TheVariants as content
use Rattle.nl_attr.proofs.Lemmas.Loop.{part_turns, passes}
use Rattle.nl_attr.proofs.Lemmas.Going.{IsGoing, goes_further, stays_within, visits_so_far, turns_so, moves_so, list_leaf, leaf_visits}
use Rattle.nl_attr.proofs.Lemmas.Opens.{turn_goes, turn_moves}

-- the walk of a region gave an attribute after m visits, and stands behind it after k
module _ {S : Shape} {n : ℕ} {whole : Outcome Items} {start : Spot} {m : ℕ} (r : ListRegion) (s : Region) (p : Part) (k : ℕ) (i : IsGoing S n whole start m (list_rest S r) (list_spot r)) (limits : IsWithinLimits S start) (gives : GivesPart r.walk (Some (Ok p)) s) where
  pub part_size : length p.payload.now ≤ LONGEST_REGION
  part_size =
      let g = part_turns r.walk s p gives in
      let within = stays_within i limits in
      omega (arith, g.0.inside, g.0.span, within.size)

  -- it is collected
  pub leaf_goes : (kept : Vec Attr) → k ≡ m + p.span → holds_of r.ctx p.number p.flags ≡ content.Bytes → map attr_view kept.items ≡ map attr_view r.list.items ++ item p.number p.flags (bytes p.payload.now) ∷ []
      → IsGoing S n whole start k (list_rest S (record r { walk = s; list = kept })) (list_spot (record r { walk = s; list = kept }))
  leaf_goes kept count holds keeps =
      let next = record r { walk = s; list = kept } in
      let g = part_turns r.walk s p gives in
      let within = stays_within i limits in
      let e = list_leaf S r.ctx r.level r.base p r.walk s (map attr_view r.list.items) (map attr_view kept.items) m within.order g.0.sound g.1 g.0.next holds keeps in
      rw count (goes_further (m + p.span) (list_rest S next) (list_spot next) (r.base + p.place + 4) p.payload.now i (rw g.1.span e) (passes attr_head 4 r.base r.level r.walk s p.payload.now (r.base + p.place + 4) g.0 (omega arith) (rw g.1.place refl)))

  -- there is no memory for it
  pub leaf_fails : k ≡ m + p.span → k ≤ n + whole.1
  leaf_fails count =
      let g = part_turns r.walk s p gives in
      let within = stays_within i limits in
      omega (arith, count, visits_so_far i, g.1.span, leaf_visits S r.ctx r.level r.base p r.walk (before (map attr_view r.list.items)) within.order g.0.sound g.1)

  -- it holds a region
  pub turn_follows : (parts : Parts) (t : Turn) → k ≡ m + p.span → holds_of r.ctx p.number p.flags ≡ content_in parts → TurnsAt S r.level r.base p parts t
      → Goes S n whole k (record r { walk = s }) t × Moves S start (record r { walk = s }) t
  turn_follows parts t count holds turns =
      let next = record r { walk = s } in
      let g = part_turns r.walk s p gives in
      let within = stays_within i limits in (
        turns_so k next t i (rw count (turn_goes S p r next parts m t within g.0 g.1 holds turns refl refl refl refl)),
        moves_so next t i (turn_moves S p r next parts t within g.0 g.1 turns refl refl),
      )
