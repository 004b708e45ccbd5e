use Rattle.std.proofs.Common.{◌≡◌, true, All, List, subst, arith}
use Rattle.std.proofs.lemmas.List.{take_all}
use Rattle.std.proofs.lemmas.List.Elements.{All-more}
use Rattle.flatten.proofs.Common.{BlifModel, Item}
use Rattle.flatten.specs.Counting.{Fits}
use Rattle.flatten.proofs.count.all_fit.Goals as goal

pub loop-item-preserved : goal.loop-item-preserved
loop-item-preserved c =
    let fit : c.fits.result ≡ true = grind arith in
    All-more (Fits c.args.hierarchy.now.models) c.items-item-items.result.now c.loop-item.item-index c.item-item.result c.loop-item-test.true c.loop-item.invariant
    (subst (Fits c.args.hierarchy.now.models) c.item-item.is (c.fits.ensures fit))

pub loop-model-preserved : goal.loop-model-preserved
loop-model-preserved c =
    let fits = Fits c.args.hierarchy.now.models in
    let items = c.items-item-items.result.now in
    let whole = subst (λ (xs : List Item). All fits xs) (take_all c.loop-item.item-index items c.loop-item-test.false) c.loop-item.invariant in
    let body = subst (λ (xs : List Item). All fits xs) c.items-item-items.ensures whole in
    All-more (λ (model : BlifModel). All fits model.body) c.models-model-items.result.now c.loop-model.model-index c.model-item.result c.loop-model-test.true c.loop-model.invariant
    (subst (λ (model : BlifModel). All fits model.body) c.model-item.is body)

pub returns : goal.returns
returns c e =
    let fits = λ (model : BlifModel). All (Fits c.args.hierarchy.now.models) model.body in
    let whole = subst (λ (xs : List BlifModel). All fits xs) (take_all c.loop-model.model-index c.models-model-items.result.now c.loop-model-test.false) c.loop-model.invariant in
    subst (λ (models : List BlifModel). All fits models) c.models-model-items.ensures whole
