use Rattle.std.proofs.Common.{◌∙◌, List, ap, map, subst, sym, arith}
use Rattle.sat.specs.declared.lit.Lit.{Lit}
use Rattle.sat.specs.Cnf.{negated}
use Rattle.sat.specs.Answers.{IsCore}
use Rattle.sat.proofs.CnfLemmas.{refuted}
use Rattle.sat.proofs.AnswerLemmas.{core_of, refutes_of}
use Rattle.sat.proofs.solver.Solver.solve.Goals as goal

pub returns-in_ok-self-inside-in-Some-Refuted-clause-answer : goal.returns-in_ok-self-inside-in-Some-Refuted-clause-answer
returns-in_ok-self-inside-in-Some-Refuted-clause-answer c =
    let refutes = refutes_of c.self.inside.formula c.args.assumptions.now c.look.new.self c.in_ok-found.found.verdict c.in-Some-Refuted.field-0 c.in_ok-found.ensures.found c.in-Some-Refuted.is (rw c.in-Some-Refuted.is at c.in-Some-Refuted.field-0-is) in
    refuted c.self.inside.formula c.look.new.self.working.lits.items c.args.assumptions.now refutes.entailed refutes.assumed

pub returns-in_ok-self-inside-in-Some-Refuted-clause-core : goal.returns-in_ok-self-inside-in-Some-Refuted-clause-core
returns-in_ok-self-inside-in-Some-Refuted-clause-core c =
    grind (arith, refutes_of c.self.inside.formula c.args.assumptions.now c.look.new.self c.in_ok-found.found.verdict c.in-Some-Refuted.field-0 c.in_ok-found.ensures.found c.in-Some-Refuted.is, core_of c.self.inside.formula c.args.assumptions.now c.look.new.self.working.lits.items)
