use Rattle.std.proofs.Common.{List, Bool, subst, ◌∙◌}
use Rattle.inner_pairs.specs.Beginnings.{cube_of}
use Rattle.inner_pairs.specs.Cases.{TellsIn}
use Rattle.inner_pairs.specs.declared.cases.PairsTold.{PairsTold}
use Rattle.inner_pairs.specs.declared.cases.PairsTold.TheVariants.{Never}
use Rattle.inner_pairs.proofs.BeginningLemmas.{next_high}
use Rattle.inner_pairs.proofs.cases.JoinedPairs.next_value.Goals as goal

pub returns-in-Never : goal.returns-in-Never
returns-in-Never c =
    let net = c.args.self.now.looped.now.net in
    let care = c.args.self.now.care.now in
    let pairs = c.args.self.now.pairs.now in
    next_high net care pairs c.args.values.now c.requires.values
    (subst (λ (values : List Bool). TellsIn net care (cube_of values) pairs Never) (c.deref.ensures.value ∙ c.in_ok-low.ensures)
    (subst (λ (told : PairsTold). TellsIn net care (cube_of c.deref.result.now) pairs told) c.in-Never.is c.in_ok-tell_behind.ensures))
