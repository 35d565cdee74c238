-- What keys take of attributes that come from bytes is in its range.
use Rattle.std.proofs.Common.{ℕ, zero, suc, ◌<◌, ◌^◌, ◌==◌, Bool, true, false, cond, List, length, drop, Option, None, Some, ap, ◌∙◌, subst, arith}
use Rattle.std.proofs.lemmas.Bool.Decides.{nat_tests}
use Rattle.std.proofs.lemmas.Grind.{common_steps}
use Rattle.std.proofs.Math.Nat.{pow-suc}
use Rattle.nl_attr.specs.declared.order.Order.{Order}
use Rattle.nl_attr.specs.declared.tree.Ctx.{Ctx}
use Rattle.nl_attr.specs.declared.tree.Content.{Content}
use Rattle.nl_attr.specs.declared.tree.Content.TheVariants as content
use Rattle.nl_attr.specs.Shape.{Shape}
use Rattle.nl_attr.specs.Numbers.{AreBytes}
use Rattle.nl_attr.specs.Tree.{Val, bytes, list, hops, Items, no_items, item, holds_of}
use Rattle.nl_attr.specs.Layout.{FitsVal, Fits, kind_number}
use Rattle.nl_attr.specs.Views.{bytes_in, first_of, first_number}
use Rattle.nl_attr.proofs.Lemmas.Numbers.{bytes_drop, front_below, head_length, past_head}
use Rattle.nl_attr.proofs.Lemmas.Pieces.{piece_bytes}
use Rattle.nl_route.specs.Views.{bytes_view, number_view, said_by}
use Rattle.nl_table.specs.Attributes.{or_zero, table_id}

-- the bytes of an attribute, if there are any, are such as an attribute has
abbrev pub IsLeaf : Option (List ℕ) → Type 0
IsLeaf None = Unit {0}
IsLeaf (Some bs) = AreBytes bs × (length bs < 2 ^ 64)

-- it is so whichever attribute is asked for
abbrev pub HasLeaves : Items → Type 0
HasLeaves is = (n : ℕ) → IsLeaf (bytes_view n is)

-- ---- a list that fits bytes

module _ (S : Shape) where
  leaf_of : (v : Val) (c : Content) (payload : List ℕ) (len l : ℕ) → IsLeaf (Some payload) → FitsVal S v c payload len l → IsLeaf (bytes_in v)
  leaf_of (bytes bs) content.Bytes payload len l leaf e = subst (λ (x : List ℕ). IsLeaf (Some x)) e leaf
  leaf_of (bytes bs) (content.List c) payload len l leaf e = absurd e
  leaf_of (bytes bs) content.Hops payload len l leaf e = absurd e
  leaf_of (list is) c payload len l leaf e = tt
  leaf_of (hops hs) c payload len l leaf e = tt

  pub fitting_leaves : (is : Items) (region : List ℕ) (ctx : Ctx) (l : ℕ) → AreBytes region → Fits S is region ctx l → HasLeaves is
  fitting_leaves no_items region ctx l fit fits n = tt
  fitting_leaves (item m flags v more) region ctx l fit fits n =
      let it = fits.0 in
      let rest = fits.2 in
      let payload = fits.3 in
      let piece = fits.4 in
      let k = kind_number m flags in
      let parts = piece_bytes fit piece in
      let inner : AreBytes payload = subst AreBytes (ap (drop 4) fits.5 ∙ past_head S.order (length it) k payload) (bytes_drop 4 it parts.0) in
      let few : length payload < 2 ^ 64 = omega (arith, piece.fits, ap (length {A = ℕ}) fits.5, head_length S.order (length it) k payload) in
      by (m == n) (leaf_of v (holds_of ctx m flags) payload (length it) l (inner, few) fits.7) (fitting_leaves more rest ctx l parts.1 fits.8 n)
    where
      by : (b : Bool) → IsLeaf (bytes_in v) → IsLeaf (bytes_view n more) → IsLeaf (said_by bytes_in (cond b (Some (record { number = m; flags = flags; value = v })) (first_of more n)))
      by true here there = here
      by false here there = there

-- ---- the numbers of such a list

-- a number, if there is one, has so many bytes
abbrev pub HasWidth : ℕ → Option ℕ → Type 0
HasWidth w None = Unit {0}
HasWidth w (Some n) = n < 256 ^ w

number_fits : (o : Order) (w : ℕ) (bs : Option (List ℕ)) → IsLeaf bs → HasWidth w (first_number o w bs)
number_fits o w None leaf = tt
number_fits o w (Some bs) leaf = grind (arith, common_steps, nat_tests, front_below o w bs leaf.0)

pub number_width : (o : Order) (w n : ℕ) (is : Items) → HasLeaves is → HasWidth w (number_view o w n is)
number_width o w n is leaves = grind (arith, common_steps, leaves n, number_fits o w)

above_zero : (w : ℕ) → 0 < 256 ^ w
above_zero zero = omega arith
above_zero (suc w) = rw pow-suc (omega (arith, above_zero w))

pub or_zero_width : (w : ℕ) (n : Option ℕ) → HasWidth w n → or_zero n < 256 ^ w
or_zero_width w None h = above_zero w
or_zero_width w (Some n) h = h

pub table_width : (o : Order) (n of_head : ℕ) (is : Items) → of_head < 256 → HasLeaves is → table_id o n of_head is < 256 ^ 4
table_width o n of_head is small leaves = grind (arith, common_steps, number_width o 4 n is leaves)
