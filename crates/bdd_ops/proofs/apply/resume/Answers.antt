use Rattle.std.proofs.Common.{[], ◌∷◌, ◌++◌, arith}
use Rattle.bdd_ops.specs.declared.apply.Question.TheVariants.{High}
use Rattle.bdd_ops.proofs.ChainLemmas.{chain-high, pushed}
use Rattle.bdd_ops.proofs.apply.resume.Goals as goal

pub returns-else-is_err-clause-ok : goal.returns-else-is_err-clause-ok
returns-else-is_err-clause-ok c root chain = chain-high c.args.operation c.args.store.now root c.args.waiting.now.items c.push.new.self.items c.args.question c.in-Low.asked c.in-Low.var c.in-Low.high c.args.n c.in-Low.is (pushed c.push.result c.push.new.self.items (c.args.waiting.now.items ++ High c.in-Low.asked c.in-Low.var c.args.n ∷ []) c.args.waiting.now.items c.if-is_err.ensures.value c.push.ensures.items) c.requires.answer chain
