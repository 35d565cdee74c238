-- Reading a region as a function, from left to right: the tree, or the first error; and how many
-- bytes are visited until then. The code of `stack` and `scanning` is proved to answer the same.
use Rattle.std.specs.Prelude.{◌+◌, ◌%◌, ℕ, zero, suc, List, [], ◌∷◌, length, drop, slice_index, Option, Some, None, Result, Ok, Err}
use Rattle.nl_attr.specs.Fixed.{NUMBERS}
use Rattle.nl_attr.specs.declared.fault.Reason.{Reason}
use Rattle.nl_attr.specs.declared.fault.Reason.TheVariants.{Cut, BadLength}
use Rattle.nl_attr.specs.declared.fault.Fault.{Fault}
use Rattle.nl_attr.specs.declared.tree.Ctx.{Ctx}
use Rattle.nl_attr.specs.declared.tree.Ctx.TheVariants.{Route}
use Rattle.nl_attr.specs.declared.tree.Content.{Content}
use Rattle.nl_attr.specs.declared.tree.Content.TheVariants as content
use Rattle.nl_attr.specs.declared.tree.AttrFlags.{AttrFlags}
use Rattle.nl_attr.specs.Shape.{Shape}
use Rattle.nl_attr.specs.Numbers.{kind_of, span_of}
use Rattle.nl_attr.specs.Walk.{flags_of, ifindex_of, payload_of}
use Rattle.nl_attr.specs.Tree.{Val, bytes, list, hops, Items, no_items, item, HopItems, no_hops, hop, holds_of}
use Rattle.nl_attr.specs.Heads.{attr_head, hop_head, broken_in, broken_container, content_at}

-- the outcome of a reading: what was read, or the error; and how many bytes were visited
abbrev pub Outcome : Type 0 → Type 0
Outcome A = Result A Fault × ℕ

-- one reading and then another, unless the first ends with an error
abbrev pub and_then : {A B : Type 0} → Outcome A → (A → Outcome B) → Outcome B
and_then (Ok x, v) f = ((f x).0, v + (f x).1)
and_then (Err e, v) f = (Err e, v)

-- the outcome with a function applied to what was read
abbrev pub map_value : {A B : Type 0} → (A → B) → Outcome A → Outcome B
map_value f (Ok x, v) = (Ok (f x), v)
map_value f (Err e, v) = (Err e, v)

-- the outcome with so many visits made before
abbrev pub more_visits : {A : Type 0} → ℕ → Outcome A → Outcome A
more_visits n o = (o.0, n + o.1)

-- how many bytes of an item of this span are visited where its header breaks this rule: none where
-- its length is not valid
abbrev pub fault_visits : Reason → ℕ → ℕ
fault_visits Cut n = 0
fault_visits BadLength n = 0
fault_visits r n = n

-- reading one header, at this offset, of an item of this span: the item is visited, or the header
-- breaks this rule
abbrev pub look_at : ℕ → ℕ → Option Reason → Outcome (Unit {0})
look_at place span None = (Ok tt, span)
look_at place span (Some r) = (Err (record { place = place; reason = r }), fault_visits r span)

-- reading the value of an attribute of this content: its payload as bytes, or what is read of the
-- region that its payload is
abbrev pub value_by : Content → List ℕ → (Ctx → Outcome Items) → (Unit {0} → Outcome HopItems) → Outcome Val
value_by content.Bytes payload is hs = (Ok (bytes payload), 0)
value_by (content.List c) payload is hs = map_value list (is c)
value_by content.Hops payload is hs = map_value hops (hs tt)

module _ (S : Shape) where
  -- The first argument bounds the recursion. The length of the region is always enough.
  unfoldable mutual
    -- reading attributes in a context, at a level, from this offset on
    pub items_at : ℕ → Ctx → ℕ → ℕ → List ℕ → Outcome Items
    items_at zero ctx l place left = (Ok no_items, 0)
    items_at (suc n) ctx l place [] = (Ok no_items, 0)
    items_at (suc n) ctx l place (b ∷ bs) =
        and_then (look_at place (span_of S.order 2 (b ∷ bs)) (broken_in S ctx l attr_head (b ∷ bs))) (λ _.
        and_then (value_by (content_at S.order ctx (b ∷ bs)) (payload_of S.order 4 2 (b ∷ bs))
        (λ c. items_at n c (l + 1) (place + 4) (payload_of S.order 4 2 (b ∷ bs)))
        (λ _. hops_at n (l + 1) (place + 4) (payload_of S.order 4 2 (b ∷ bs)))) (λ v.
        map_value (item (kind_of S.order (b ∷ bs) % NUMBERS) (flags_of (kind_of S.order (b ∷ bs))) v)
        (items_at n ctx l (place + span_of S.order 2 (b ∷ bs)) (drop (span_of S.order 2 (b ∷ bs)) (b ∷ bs)))))

    -- reading next hops, at a level, from this offset on
    pub hops_at : ℕ → ℕ → ℕ → List ℕ → Outcome HopItems
    hops_at zero l place left = (Ok no_hops, 0)
    hops_at (suc n) l place [] = (Ok no_hops, 0)
    hops_at (suc n) l place (b ∷ bs) =
        and_then (look_at place (span_of S.order 2 (b ∷ bs)) (broken_in S Route l hop_head (b ∷ bs))) (λ _.
        and_then (items_at n Route (l + 1) (place + 8) (payload_of S.order 8 2 (b ∷ bs))) (λ is.
        map_value (hop (slice_index (b ∷ bs) 2) (slice_index (b ∷ bs) 3) (ifindex_of S.order (b ∷ bs)) is)
        (hops_at n l (place + span_of S.order 2 (b ∷ bs)) (drop (span_of S.order 2 (b ∷ bs)) (b ∷ bs)))))

  -- reading a whole region, of attributes or of next hops
  abbrev pub items_of_region : Ctx → ℕ → ℕ → List ℕ → Outcome Items
  items_of_region ctx l place left = items_at (length left) ctx l place left

  abbrev pub hops_of_region : ℕ → ℕ → List ℕ → Outcome HopItems
  hops_of_region l place left = hops_at (length left) l place left

  -- reading the payload of an attribute of this content, in a region at level l
  abbrev pub value_at : Content → ℕ → ℕ → List ℕ → Outcome Val
  value_at c l place payload = value_by c payload (λ k. items_of_region k (l + 1) place payload) (λ _. hops_of_region (l + 1) place payload)

  -- reading an attribute whose header has been validated, and putting it in front of others
  abbrev pub attr_at : Ctx → ℕ → ℕ → ℕ → AttrFlags → List ℕ → Outcome (Items → Items)
  attr_at ctx l place n flags payload =
      and_then (look_at place 0 (broken_container S l (holds_of ctx n flags) (length payload + 4))) (λ _.
      map_value (λ v more. item n flags v more) (value_at (holds_of ctx n flags) l (place + 4) payload))
