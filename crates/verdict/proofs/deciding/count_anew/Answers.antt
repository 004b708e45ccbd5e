use Rattle.std.proofs.Common.{◌≡◌, length, rules, arith}
use Rattle.verdict.proofs.Common.{IsFullFor}
use Rattle.diagram_decision.proofs.CauseLemmas.{out_of_nodes, below_enough}
use Rattle.verdict.proofs.deciding.count_anew.Goals as goal
use Rattle.verdict.proofs.deciding.count_anew.Goals.{In-Err-Full}

full : (c : In-Err-Full) → IsFullFor c.start.new.self c.count_from_columns.new.d c.args.question.now.net c.args.question.now.care
full c = grind arith

-- the diagrams were begun anew
same_limit : (c : In-Err-Full) → c.start.new.self.limit ≡ c.args.limit
same_limit c = search rules

pub returns-in-Err-Full-clause-cause : goal.returns-in-Err-Full-clause-cause
returns-in-Err-Full-clause-cause g is_full =
    let c : In-Err-Full = (goal.at.returns-in-Err-Full-clause-cause g).In-Err-Full in
    out_of_nodes (same_limit c) (full c)

pub returns-in-Err-Full-clause-enough : goal.returns-in-Err-Full-clause-enough
returns-in-Err-Full-clause-enough g is_full =
    let c : In-Err-Full = (goal.at.returns-in-Err-Full-clause-enough g).In-Err-Full in
    let none : length c.start.new.self.entries ≡ 0 = search rules in
    below_enough (same_limit c) none (full c)
