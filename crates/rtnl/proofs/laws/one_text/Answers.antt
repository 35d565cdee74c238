use Rattle.rtnl.specs.Shown.{Answers, datagram_json, datagram_text, is_accepted as is_accepted_answer}
use Rattle.rtnl.specs.Checked.{Finds, checked_line, finding_json, is_accepted}
use Rattle.rtnl.proofs.Answers.{same_answer, same_finding, one_print}
use Rattle.rtnl.proofs.laws.one_text.Goals as goal

pub returns-clause-shown : goal.returns-clause-shown
returns-clause-shown c = λ b. one_print (Answers b) (same_answer b) (datagram_text b.shape.order) is_accepted_answer

pub returns-clause-checked : goal.returns-clause-checked
returns-clause-checked c = λ b. one_print (Finds b) (same_finding b) (λ n d f. checked_line n d f) is_accepted

pub returns-clause-shown_json : goal.returns-clause-shown_json
returns-clause-shown_json c = λ b. one_print (Answers b) (same_answer b) (datagram_json b.shape.order) is_accepted_answer

pub returns-clause-checked_json : goal.returns-clause-checked_json
returns-clause-checked_json c = λ b. one_print (Finds b) (same_finding b) (λ n d f. finding_json n d f) is_accepted
