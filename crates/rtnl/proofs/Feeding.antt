-- Datagrams that are fed one after another.
use Rattle.std.proofs.Common.{◌≡◌, ℕ, ◌+◌, List, [], ◌∷◌, ◌++◌, length, Result, Ok, refl, sym, ap, ◌∙◌, append_assoc, append-nil}
use Rattle.std.specs.Global.{Vec}
use Rattle.rtnl.proofs.Common.{Order, Bounds, Verdict}
use Rattle.nl_dump.specs.declared.dump.Dump.{Dump}
use Rattle.nl_dump.specs.declared.dump.Progress.{Progress}
use Rattle.nl_dump.specs.declared.errors.FeedError.{FeedError}
use Rattle.nl_dump.specs.View.{View, table_at}
use Rattle.nl_dump.specs.Steps.{IsWaiting, IsNew, Began, Fed}
use Rattle.nl_dump.specs.Whole.{begins}
use Rattle.nl_dump.proofs.Courses.{calls_end}
use Rattle.rtnl.specs.Tabled.{Report, answer_text, entries_text, Answered, datagrams_of, IsReported, FeedsSome, refusals_text, tabled_in, calls_of, ending_of, IsRun, ReportsFrom, TablesBy}

-- nothing is fed yet
pub feeds_none : (u : View) (ds : List (List ℕ)) → FeedsSome u ds [] ds u
feeds_none u ds = record { order = refl; reported = tt; calls = λ b before calls. calls }

-- no line yet
pub refused_none : (t : Report) (out : List ℕ) → out ≡ out ++ refusals_text t []
unfolding refusals_text
refused_none t out = sym (append-nil out)

-- one datagram more
pub feeds_more : (u v w : View) (ds rest : List (List ℕ)) (fed : List Answered) (d : List ℕ) (r : Result Progress FeedError) → FeedsSome u ds fed (d ∷ rest) v → Fed v d r w → IsReported r → FeedsSome u ds ((d, r) ∷ fed) rest w
feeds_more u v w ds rest fed d r h step reported =
    record {
      order = h.order ∙ sym (append_assoc (datagrams_of fed) (d ∷ []) rest);
      reported = (reported, h.reported);
      calls = λ b before calls. (v, h.calls b before calls, step);
    }

-- and its line
pub refused_more : (t : Report) (old mid new : List ℕ) (fed : List Answered) (d : List ℕ) (r : Result Progress FeedError) (n : ℕ) → mid ≡ old ++ refusals_text t fed → length fed ≡ n → new ≡ mid ++ answer_text t (n + 1) r → new ≡ old ++ refusals_text t ((d, r) ∷ fed)
unfolding refusals_text
refused_more t old mid new fed d r n h size line =
    line ∙ ap (λ x. x ++ answer_text t (n + 1) r) h ∙ append_assoc old (refusals_text t fed) (answer_text t (n + 1) r) ∙ ap (λ k. old ++ (refusals_text t fed ++ answer_text t (k + 1) r)) (sym size)

-- a whole run
pub run_is : (b : Bounds) (d : Dump) (ds : List (List ℕ)) (request : Vec ℕ) (fed : List Answered) (unfed : List (List ℕ)) (new begun v : View) → IsNew b new → Began new d (Ok request) begun → FeedsSome begun ds fed unfed v → (IsWaiting v.state → unfed ≡ [])
    → IsRun b d ds request fed unfed v
run_is b d ds request fed unfed new begun v is_new began h all =
    let calls = h.calls b (begins d (Ok request) ∷ []) (new, is_new, began) in
    record { calls = calls; session = calls_end b (calls_of d request fed) v calls; order = h.order; reported = h.reported; all = all }

-- its report
pub report_text : (t : Report) (d : Dump) (fed : List Answered) (unfed : List (List ℕ)) (v : View) (o p : Order) (n : ℕ) (first second third all : List ℕ) → first ≡ [] → second ≡ first ++ t.front d → third ≡ second ++ refusals_text t fed
    → all ≡ (third ++ entries_text t o 1 (table_at d.kind v.tables).entries) ++ t.ending d (ending_of d n v) → o ≡ p → n ≡ length unfed → all ≡ tabled_in p t d fed (length unfed) v
report_text t d fed unfed v o p n first second third all none line refusals rest order left =
    let front : second ≡ t.front d = line ∙ ap (λ x. x ++ t.front d) none in
    let more : third ≡ t.front d ++ refusals_text t fed = refusals ∙ ap (λ x. x ++ refusals_text t fed) front in
    rest ∙ λ i. (more i ++ entries_text t (order i) 1 (table_at d.kind v.tables).entries) ++ t.ending d (ending_of d (left i) v)

-- a whole run and its report
pub tables : (t : Report) (b : Bounds) (d : Dump) (ds : List (List ℕ)) (request : Vec ℕ) (new begun v : View) (text : List ℕ) (verdict : Verdict) → IsNew b new → Began new d (Ok request) begun → ReportsFrom t b.shape.order d begun ds text verdict v → TablesBy t b d ds text verdict
tables t b d ds request new begun v text verdict is_new began h =
    let run = run_is b d ds request h.fed h.unfed new begun v is_new began h.feeds h.all in
    record {
      request = request;
      fed = h.fed;
      unfed = h.unfed;
      session = v;
      run = run;
      text_is = h.text_is ∙ ap (λ (x : Bounds). tabled_in x.shape.order t d h.fed (length h.unfed) v) (sym run.session.limits);
      verdict_is = h.verdict_is;
    }
