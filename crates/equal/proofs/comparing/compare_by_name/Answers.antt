use Rattle.std.proofs.Common.{rules, subst, arith}
use Rattle.equal.proofs.Common.{CareSet, Matched, Compares}
use Rattle.equal.specs.Compared.{matched_netlists}
use Rattle.miters.proofs.ReboundLemmas.{rebound_source}
use Rattle.equal.proofs.comparing.compare_by_name.Goals as goal

pub returns-in-Some-clause-answer : goal.returns-in-Some-clause-answer
returns-in-Some-clause-answer c = grind arith

pub new-matched-requires-clause-source : goal.new-matched-requires-clause-source
new-matched-requires-clause-source c = rebound_source c.args.b.now c.args.care.now c.in_ok-other-in-None.other c.in_ok-other-in-None.ensures.same

pub returns-in_ok-other-in-None : goal.returns-in_ok-other-in-None
returns-in_ok-other-in-None c =
    let compares =
    subst (λ (other : CareSet). Compares (matched_netlists c.args.a.now c.args.b.now c.args.care.now other c.args.limit) c.compare.new.d c.compare.result) c.in_ok-other-in-None.ensures.same
    (subst (λ (m : Matched). Compares m c.compare.new.d c.compare.result) c.new-matched.ensures c.compare.ensures) in
    record {
      answer = compares.answer;
      fault = compares.fault;
      limited = λ e. record { matched = search rules; cause = compares.cause e; below = compares.below e };
    }
