-- A stream that C keeps: what is written of it is read again.
use Rattle.rtnl_c.proofs.Common.{◌≡◌, ℕ, ℤ, pos, Bool, true, false, Some, refl, ap, ◌∙◌, Order, Family, type_of, bounds_of, order_in, Little, Big}
use Rattle.nl_route.specs.declared.family.Family.TheVariants.{Link, Addr, Route, Neigh, Rule}
use Rattle.nl_route.specs.declared.family.Verb.TheVariants.{New}
use Rattle.nl_route.specs.Types.{route_type}
use Rattle.nl_dump.specs.declared.dump.Dump.{Dump}
use Rattle.nl_dump.specs.declared.dump.End.TheVariants.{Done, Error, Overrun, Abandoned}
use Rattle.nl_dump.specs.declared.dump.State.{State}
use Rattle.nl_dump.specs.declared.dump.State.TheVariants.{Idle, Waiting, Ended}
use Rattle.nl_dump.specs.declared.standing.Standing.{Standing}
use Rattle.nl_dump.specs.Standing.{IsPossible}
use Rattle.rtnl_c.specs.declared.status.Last.{Last}
use Rattle.rtnl_c.specs.declared.stream.StreamState.{StreamState}
use Rattle.rtnl_c.specs.Kinds.{family_in}
use Rattle.rtnl_c.specs.Status.{last_dump, last_of}
use Rattle.rtnl_c.specs.Streams.{flag_of, big_of, kept_of, flag_in, state_by, state_in, standing_by, standing_in, IsKept}

flag_back : (b : Bool) → flag_in (flag_of b) ≡ Some b
flag_back true = refl
flag_back false = refl

abbrev is_big : Order → Bool
is_big Little = false
is_big Big = true

big_back : (o : Order) → flag_in (big_of o) ≡ Some (is_big o)
big_back Little = refl
big_back Big = refl

order_back : (o : Order) → order_in (is_big o) ≡ o
order_back Little = refl
order_back Big = refl

family_back : (g : Family) → family_in (route_type (type_of g New)) ≡ Some g
unfolding route_type
family_back Link = refl
family_back Addr = refl
family_back Route = refl
family_back Neigh = refl
family_back Rule = refl

module _ (s : Standing) where
  -- all of it, with this for its last dump
  abbrev kept_with : Last → StreamState
  kept_with l = record {
    total = s.limits.total;
    received = s.received;
    visits = s.visits;
    ignored = s.ignored;
    datagram = s.limits.datagram;
    entries = s.limits.entries;
    seq = l.seq;
    port = l.port;
    status = l.status;
    kind = l.kind;
    family = l.family;
    state = l.state;
    depth = s.limits.shape.depth;
    big = big_of s.limits.shape.order;
    damaged = flag_of s.damaged;
    interrupted = flag_of s.interrupted;
  }

  dump_back : (d : Dump) (n : ℕ) (z : ℤ) → state_in (kept_with (last_dump d n z)) ≡ state_by (kept_with (last_dump d n z)) (Some d.kind)
  dump_back d n z = ap (state_by (kept_with (last_dump d n z))) (family_back d.kind)

  state_back : (st : State) → state_in (kept_with (last_of st)) ≡ Some st
  unfolding route_type
  state_back Idle = refl
  state_back (Waiting d) = dump_back d 1 (pos 0)
  state_back (Ended d (Done z)) = dump_back d 2 z
  state_back (Ended d (Error z)) = dump_back d 3 z
  state_back (Ended d Overrun) = dump_back d 4 (pos 0)
  state_back (Ended d Abandoned) = dump_back d 5 (pos 0)

  back : standing_in (kept_of s) ≡ Some s
  back =
      let k = kept_of s in
      let o = s.limits.shape.order in
      ap (λ x. standing_by k x (flag_in k.big) (flag_in k.damaged) (flag_in k.interrupted)) (state_back s.state)
      ∙ ap (λ x. standing_by k (Some s.state) x (flag_in k.damaged) (flag_in k.interrupted)) (big_back o)
      ∙ ap (λ x. standing_by k (Some s.state) (Some (is_big o)) x (flag_in k.interrupted)) (flag_back s.damaged)
      ∙ ap (λ x. standing_by k (Some s.state) (Some (is_big o)) (Some s.damaged) x) (flag_back s.interrupted)
      ∙ ap (λ o. Some (record s { limits = bounds_of o s.limits.shape.depth s.limits.datagram s.limits.total s.limits.entries })) (order_back o)

  pub keeps : IsPossible s → IsKept (kept_of s) s
  keeps p = (back, p)

-- ---- a dump begins
