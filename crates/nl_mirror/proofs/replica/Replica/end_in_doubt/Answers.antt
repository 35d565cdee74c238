use Rattle.nl_mirror.proofs.Common.{◌∷◌, by_doubt, ends, Moves, MovesAll, key_by}
use Rattle.indexmap.proofs.MapLemmas.{OnOk-map}
use Rattle.nl_mirror.proofs.Doubts.{by_any_key}
use Rattle.nl_mirror.proofs.replica.Replica.end_in_doubt.Goals as goal

pub returns-clause-ok : goal.returns-clause-ok
returns-clause-ok g c =
    let key = key_by g.T.FromBody.item in
    let old = c.args.self.now in
    let ended = c.end-ended.new.self in
    let new = c.doubt.new.self in
    OnOk-map c.end-ended.result (Moves (key old.order) old (ends c.args.whole) ended) (MovesAll (key old.order) old (ends c.args.whole ∷ by_doubt c.args.doubt) new)
    (λ s. (ended, s, by_any_key (key ended.order) (key old.order) ended c.args.doubt new c.doubt.ensures.doubt)) c.end-ended.ensures.ok
