-- A dump that is followed: what is told of a datagram, and what is written before it and behind it.
use Rattle.rtnl.proofs.Common.{◌≡◌, ◌≢◌, ◌+◌, ◌++◌, ℕ, Bool, true, false, not, List, length, map, Option, Some, Result, Ok, Err, refl, sym, ap, ◌∙◌, subst, inl, inr, length-map, Appends, Order, message_view, Given, Reads, ends_dump, given_text, Writes, AppendsPrefix, StopsOnce, RunError, WriteFault, Memory}
use Rattle.rtnl.specs.FollowedDump.{is_accepted}
use Rattle.nl_dump.specs.declared.dump.ItemsRead.{ItemsRead}
use Rattle.nl_dump.specs.declared.errors.FeedError.{FeedError}
use Rattle.nl_dump.specs.declared.errors.FeedError.TheVariants as feed
use Rattle.nl_dump.specs.Reading.{StreamRead}
use Rattle.rtnl.specs.Tabled.{Report, bodies_text}
use Rattle.rtnl.specs.declared.runs.open_dump.OpenDump.{OpenDump}

-- ---- a datagram

module _ (t : Report) (o : Order) (number : ℕ) (said : Result (Option (List ℕ)) ℕ) (a b : OpenDump) (d old new : List ℕ) (is : said ≡ Ok (Some d)) (taken goes_on : Bool) where
  -- it gave something
  abbrev pub Gives : Type 0
  Gives = (y : List ℕ) × (x : Given) × (said ≡ Ok (Some y)) × Reads a y x b × (new ≡ old ++ given_text t o number y x) × (taken ≡ is_accepted x) × (goes_on ≡ not (ends_dump b))

  -- its items
  pub gives_items : (r : ItemsRead) → StreamRead a.stream d (Ok r) b.stream → b.items ≡ a.items + length r.items.items
      → new ≡ old ++ bodies_text (λ m. m.body) t o (a.items + 1) (map message_view r.items.items) → taken ≡ true → goes_on ≡ not (ends_dump b) → Gives
  gives_items r step size text was goes =
      (d, record { before = a.items; answer = Ok (map message_view r.items.items) }, is, (refl, ((r, step, refl), size ∙ ap (λ n. a.items + n) (sym (length-map r.items.items message_view)))), text, was, goes)

  -- or why it was refused
  pub gives_refusal : (e : FeedError) → StreamRead a.stream d (Err e) b.stream → e ≢ feed.Memory → b.items ≡ a.items
      → new ≡ old ++ t.refusal number e → taken ≡ false → goes_on ≡ not (ends_dump b) → Gives
  gives_refusal e step other same text was goes = (d, record { before = a.items; answer = Err e }, is, (refl, (step, other, same)), text, was, goes)

-- ---- a text

module _ {W : Type 0} (taken : W → Option (List ℕ)) (is_stalled : W → Type 0) (stalls failures : W → ℕ) where
  -- memory ran out before anything was written
  pub wrote_none : {A : Type 0} (text : List ℕ) (old : W) → Writes taken is_stalled stalls failures {A = A} text old old (Err Memory)
  wrote_none text old =
      record { written = tt; sound = tt; errors = inr refl; write_fault = λ e. cc e; nothing = λ _. refl; part = λ e. cc e }

  module _ (text given : List ℕ) (is : given ≡ text) (old new : W) where
    pub wrote_all : {A : Type 0} (a : A) → Appends (taken old) (taken new) given → failures new ≡ failures old → stalls new ≡ stalls old → Writes taken is_stalled stalls failures text old new (Ok a)
    wrote_all a all sound steady =
        record { written = subst (Appends (taken old) (taken new)) is all; sound = (sound, steady); errors = tt; write_fault = λ e. cc e; nothing = tt; part = λ e. cc e }

    pub wrote_part : {A : Type 0} (e : RunError) → e ≡ WriteFault → AppendsPrefix (taken old) (taken new) given → StopsOnce is_stalled stalls failures old new
        → Writes taken is_stalled stalls failures {A = A} text old new (Err e)
    wrote_part e fault part once =
        record {
          written = tt;
          sound = tt;
          errors = inl fault;
          write_fault = λ _. once;
          nothing = λ other. absurd (other (ap Err fault));
          part = λ _. subst (AppendsPrefix (taken old) (taken new)) is part;
        }
