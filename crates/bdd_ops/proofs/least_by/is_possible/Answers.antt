use Rattle.std.proofs.Common.{◌≡◌, ◌+◌, true, false, arith, length, length-set, get_or, ap, ◌∙◌, refl, slice_get, Some}
use Rattle.std.proofs.lemmas.Option.{slice_get-get_or}
use Rattle.bdd_store.specs.Arena.{index}
use Rattle.bdd_store.proofs.NodeLemmas.{plain}
use Rattle.bdd_ops.specs.declared.least_by.Values.{Values}
use Rattle.bdd_ops.specs.Possible.{branch_values}
use Rattle.bdd_ops.proofs.PossibleLemmas.{AreFound-start, AreFound-next, of_index}
use Rattle.bdd_ops.proofs.least_by.is_possible.Goals as goal

none : Values
none = record { one = false; zero = false }

pub loop-position-init : goal.loop-position-init
loop-position-init c = record { found = AreFound-start c.args.store.now c.args.columns.now c.args.first.now c.args.found.now c.requires.first (omega (arith, c.requires.room)) }

pub loop-position-preserved : goal.loop-position-preserved
loop-position-preserved c =
    let s = c.args.store.now in
    let found = c.loop-position.found in
    let n = c.at-entry.result in
    let at : index n ≡ c.loop-position.position + 1 = (plain n c.loop-position.position c.at-entry.ensures).0 in
    let long : length found ≡ index c.args.n + 1 = c.loop-position.auto.found ∙ length-set c.args.found.now 0 (record { one = true; zero = false }) ∙ c.requires.room in
    let lo_there : slice_get found (index c.lo.result) ≡ Some (get_or found (index c.lo.result) none) = slice_get-get_or found (index c.lo.result) none (omega (arith, c.lo.ensures.earlier)) in
    let hi_there : slice_get found (index c.hi.result) ≡ Some (get_or found (index c.hi.result) none) = slice_get-get_or found (index c.hi.result) none (omega (arith, c.hi.ensures.earlier)) in
    record {
      found = AreFound-next s c.laws.ensures c.args.columns.now c.requires.columns n c.lo.result c.hi.result c.loop-position.position c.at-entry.ensures c.lo.ensures.within
          (record { node = c.lo.ensures.node; lower = c.lo.ensures.lower; function = c.lo.ensures.function })
          (record { node = c.hi.ensures.node; lower = c.hi.ensures.lower; function = c.hi.ensures.function })
          (omega (arith, c.lo.ensures.earlier)) (omega (arith, c.hi.ensures.earlier)) c.args.first.now found _
          (get_or found (index c.lo.result) none) (get_or found (index c.hi.result) none) c.values_of-lo.result c.values_of-hi.result c.join.result
          lo_there hi_there (c.values_of-lo.ensures (get_or found (index c.lo.result) none) lo_there) (c.values_of-hi.ensures (get_or found (index c.hi.result) none) hi_there)
          (c.join.ensures ∙ ap (branch_values c.values_of-lo.result c.values_of-hi.result) (c.bit_at.ensures ∙ ap (λ k. slice_get c.args.first.now (get_or c.args.columns.now k 0)) c.top.ensures.variable)) refl (omega arith) c.loop-position.invariant.found;
    }

pub returns : goal.returns
returns c =
    let found = c.loop-position.found in
    let n = c.args.n in
    grind (arith, length-set c.args.found.now 0, none, slice_get-get_or found (index n) none, of_index c.args.store.now c.args.columns.now c.args.first.now found c.loop-position.position n (get_or found (index n) none) c.loop-position.invariant.found)
