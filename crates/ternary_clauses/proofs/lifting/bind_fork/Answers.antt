use Rattle.ternary_clauses.proofs.lifting.bind_fork.Goals as goal

pub returns-in-Some : goal.returns-in-Some
returns-in-Some c pins g is = c.bind_rails.ensures pins g (c.in-Some.ensures c.args.formula.now pins g c.requires.formula is)
