-- What a call answers that reads a region, from the outcome of the reading.
use Rattle.nl_attr.proofs.Common.{◌≤◌, ◌+◌, ◌-◌, ◌*◌, ℕ, List, length, Result, Ok, Err, arith, Vec, ListError, Layout, Memory, Attr, Ctx, AreBytes, Shape, attrs_view, items_of_region}
use Rattle.nl_attr.specs.Reads.{ReadsList}
use Rattle.nl_attr.specs.Outcomes.{IsOutcome}
use Rattle.nl_attr.proofs.Lemmas.First.{read_first, read_visits, read_all_visits}
use Rattle.nl_attr.proofs.Lemmas.Fitted.{items_allowed}
use Rattle.nl_attr.proofs.Lemmas.Fitting.{items_fit, read_result}
use Rattle.nl_attr.proofs.Lemmas.Sound.{items_sound}

module _ (S : Shape) (ctx : Ctx) (l place : ℕ) (left : List ℕ) (fits : AreBytes left) where
  pub reads_list : (r : Result (Vec Attr) ListError) (v : ℕ) → IsOutcome (λ (x : Vec Attr). attrs_view x.items) r v (items_of_region S ctx l place left) → v ≤ (S.depth - l + 1) * length left
      → ReadsList S ctx l place left (record { result = r; visits = v })
  reads_list (Ok x) v e bound =
      let f = items_sound (length left) S ctx l place left (attrs_view x.items) v (omega arith) fits e in
      record {
        outcome = e;
        fits = f;
        only = λ is g. let same = read_result _ is _ v (items_fit is S ctx l place left g) e in cc;
        first = tt;
        none = tt;
        visits = read_all_visits S ctx l place left (attrs_view x.items) v e;
        bound = bound;
        kept = (items_allowed S (attrs_view x.items) left ctx l f).kept;
      }
  reads_list (Err (Layout f)) v e bound = record {
    outcome = e;
    fits = tt;
    only = tt;
    first = read_first S ctx l place left f v e;
    none = λ is g. let same = read_result _ is _ v (items_fit is S ctx l place left g) e in cc;
    visits = read_visits S ctx l place left f v e;
    bound = bound;
    kept = tt;
  }
  reads_list (Err Memory) v e bound = record { outcome = tt; fits = tt; only = tt; first = tt; none = tt; visits = tt; bound = bound; kept = tt }
