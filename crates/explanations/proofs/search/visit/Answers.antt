use Rattle.std.proofs.Common.{arith}
use Rattle.std.proofs.lemmas.List.{get_or-set_same}
use Rattle.std.specs.Prelude.{None}
use Rattle.explanations.specs.Search.{LeadsTo}
use Rattle.explanations.proofs.SearchLemmas.{Grown-one}
use Rattle.explanations.proofs.search.visit.Goals as goal

pub returns-clause-grown : goal.returns-clause-grown
returns-clause-grown c = grind (arith, Grown-one (LeadsTo c.args.from c.args.target) c.args.depth c.args.steps.now c.args.found.now.items c.args.target)

pub returns-clause-placed : goal.returns-clause-placed
returns-clause-placed c = λ within. record {
  step = record { from = c.args.from; depth = c.args.depth };
  is = get_or-set_same c.args.steps.now c.args.target _ None within;
}

pub returns-then-not-is_new : goal.returns-then-not-is_new
returns-then-not-is_new c = grind arith
