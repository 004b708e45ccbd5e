use Rattle.std.proofs.Common.{[], ◌∷◌, take, get_or, subst, sym}
use Rattle.clause_pairs.proofs.Common.{take_all, take_more}
use Rattle.clause_pairs.specs.declared.cubes.Cube.{Cube}
use Rattle.clause_pairs.specs.Missing.{SaysMissing}
use Rattle.clause_pairs.proofs.CubeLemmas.{missing-none, missing-step}
use Rattle.clause_pairs.proofs.cubes.add_missing_each.Goals as goal

pub loop-cube-init : goal.loop-cube-init
loop-cube-init c = missing-none c.args.formula.now c.args.rails.now c.requires.formula

pub loop-cube-preserved : goal.loop-cube-preserved
loop-cube-preserved c =
    let cubes = c.args.cubes.now in
    let place = c.loop-cube.cube-index in
    let cube = c.cube-item.result in
    subst (SaysMissing c.args.formula.now c.add_missing.new.formula c.args.rails.now) (sym (take_more cubes place cube c.loop-cube-test.true))
    (missing-step c.args.formula.now c.loop-cube.formula c.add_missing.new.formula c.args.rails.now (take place cubes) (get_or cubes place cube) c.loop-cube.invariant
    (subst (λ (item : Cube). SaysMissing c.loop-cube.formula c.add_missing.new.formula c.args.rails.now (item ∷ [])) c.cube-item.is c.in_ok-add_missing.ensures))

pub returns : goal.returns
returns c = rw (take_all c.loop-cube.cube-index c.args.cubes.now c.loop-cube-test.false) at c.loop-cube.invariant
