-- A region in which another opens: what that one holds becomes a value of it, and it is read on.
use Rattle.nl_attr.proofs.Common.{◌≡◌, ℕ, ◌+◌, [], ◌∷◌, ◌++◌, map, Ok, refl, ap, subst, ◌∙◌, arith, Vec, Attr, Hop, Ctx, ListRegion, Shape, Items, HopItems, list, hops, item, attr_view, attrs_view, hops_view, value_view, Outcome, and_then, more_visits, items_of_region, hops_of_region, list_rest, hops_rest, list_goes_on, opening_rest, Goes, Spot, list_spot, opening_spot, room_in, spot_end, IsIn, IsWithinLimits, Advances, Moves}
use Rattle.nl_attr.specs.declared.tree.Value.TheVariants as value
use Rattle.nl_attr.specs.declared.region.Parts.TheVariants as parts
use Rattle.nl_attr.specs.declared.stack.regions.HopsRegion.{HopsRegion}
use Rattle.nl_attr.specs.declared.stack.attributes.Opening.{Opening}
use Rattle.nl_attr.specs.declared.stack.attributes.Turn.TheVariants as turn
use Rattle.nl_attr.proofs.Lemmas.Opened.{value_list, value_hops}
use Rattle.nl_attr.proofs.Lemmas.Opens.{opening_list, opening_hops, attr_kept}
use Rattle.nl_attr.proofs.Lemmas.Nested.{then_done, then_same, advances_in}
use Rattle.nl_attr.proofs.Lemmas.Reading.{then_then}

-- n visits were made before a region was read, and m since; this attribute of it opens another
pub record IsOpened (S : Shape) (n : ℕ) (whole : Outcome Items) (m : ℕ) (r : ListRegion) (p : Opening) : Type 0 where
  pub same : more_visits n whole ≡ more_visits m (opening_rest S r p)
  pub limits : IsWithinLimits S (list_spot r)
  pub inside : IsIn S (room_in (list_spot r)) (opening_spot S r p)

module _ {S : Shape} {n : ℕ} {whole : Outcome Items} {m : ℕ} {r : ListRegion} {p : Opening} (o : IsOpened S n whole m r p) where
  -- what follows once the value is known
  abbrev pub list_after : Items → Outcome Items
  list_after is = list_goes_on S r p.number p.flags (list is)

  abbrev pub hops_after : HopItems → Outcome Items
  hops_after hs = list_goes_on S r p.number p.flags (hops hs)

  -- attributes open
  pub opens_list : (c : Ctx) (a : ListRegion) → p.parts ≡ parts.Attrs c → list_rest S a ≡ items_of_region S c (r.level + 1) p.place p.payload.now → more_visits n whole ≡ more_visits m (and_then (list_rest S a) list_after)
  opens_list c a e rest = o.same ∙ ap (more_visits m) (opening_list S r p c a e rest)

  -- next hops open
  pub opens_hops : (a : HopsRegion) → p.parts ≡ parts.Hops → hops_rest S a ≡ hops_of_region S (r.level + 1) p.place p.payload.now → more_visits n whole ≡ more_visits m (and_then (hops_rest S a) hops_after)
  opens_hops a e rest = o.same ∙ ap (more_visits m) (opening_hops S r p a e rest)

  -- a region opens in the attributes of a next hop
  pub opens_in_hops : (k : ℕ) (second : Outcome Items) (waits : Items → Outcome HopItems) (a : HopsRegion) → more_visits n whole ≡ more_visits m (and_then (hops_rest S a) hops_after) → more_visits m (hops_rest S a) ≡ more_visits k (and_then second waits)
      → more_visits n whole ≡ more_visits k (and_then second (λ is. and_then (waits is) hops_after))
  opens_in_hops k second waits a opened e =
      opened ∙ then_same m k (hops_rest S a) (and_then second waits) hops_after e ∙ ap (more_visits k) (then_then second waits hops_after)

  -- the attributes are collected, and then the list of them is
  pub fills_list : (k : ℕ) (a : ListRegion) (attrs longer : Vec Attr) → more_visits n whole ≡ more_visits m (and_then (list_rest S a) list_after) → more_visits m (list_rest S a) ≡ (Ok (attrs_view attrs.items), k) → map attr_view longer.items ≡ map attr_view r.list.items ++ item p.number p.flags (value_view (value.List attrs)) ∷ []
      → more_visits n whole ≡ more_visits k (list_rest S (record r { list = longer }))
  fills_list k a attrs longer opened e kept =
      let v = kept ∙ ap (λ v. map attr_view r.list.items ++ item p.number p.flags v ∷ []) (value_list attrs) in
      opened ∙ then_done m k (list_rest S a) (attrs_view attrs.items) list_after e ∙ ap (more_visits k) (attr_kept S r longer p.number p.flags (list (attrs_view attrs.items)) v)

  -- the same of next hops
  pub fills_hops : (k : ℕ) (a : HopsRegion) (read : Vec Hop) (longer : Vec Attr) → more_visits n whole ≡ more_visits m (and_then (hops_rest S a) hops_after) → more_visits m (hops_rest S a) ≡ (Ok (hops_view read.items), k) → map attr_view longer.items ≡ map attr_view r.list.items ++ item p.number p.flags (value_view (value.Hops read)) ∷ []
      → more_visits n whole ≡ more_visits k (list_rest S (record r { list = longer }))
  fills_hops k a read longer opened e kept =
      let v = kept ∙ ap (λ v. map attr_view r.list.items ++ item p.number p.flags v ∷ []) (value_hops read) in
      opened ∙ then_done m k (hops_rest S a) (hops_view read.items) hops_after e ∙ ap (more_visits k) (attr_kept S r longer p.number p.flags (hops (hops_view read.items)) v)

  -- the region is read on, up to the next that opens in it
  pub opens_next : (k : ℕ) (s t : ListRegion) (q : Opening) (j : ℕ) → more_visits n whole ≡ more_visits k (list_rest S s) → list_spot s ≡ list_spot r → Goes S k (list_rest S s) j t (turn.Opens q) → Moves S (list_spot s) t (turn.Opens q) → IsOpened S n whole j t q
  opens_next k s t q j filled spot goes moves =
      let here : IsIn S (record { level = r.level; to = r.base + spot_end (list_spot r) }) (list_spot r) = record { level = refl; inside = omega arith; limits = o.limits } in
      let advances : Advances (list_spot r) (list_spot t) = subst (λ (x : Spot). Advances x (list_spot t)) spot moves.0 in
      record {
        same = filled ∙ goes;
        limits = (advances_in S (list_spot r) (list_spot t) advances _ here).limits;
        inside = moves.1;
      }
