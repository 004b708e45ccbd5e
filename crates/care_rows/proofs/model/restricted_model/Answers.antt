use Rattle.std.proofs.Common.{◌≡◌, ◌∙◌, sym, subst}
use Rattle.std.proofs.lemmas.Result.{IfOk-weaker}
use Rattle.std.specs.Prelude.{IfSome, option_copied}
use Rattle.care_rows.proofs.Common.{IsNetlist, Parts}
use Rattle.care_rows.proofs.FitLemmas.{assumed_within}
use Rattle.care_rows.proofs.MadeLemmas.{IsMade, made_is}
use Rattle.care_rows.proofs.model.restricted_model.Goals as goal
use Rattle.care_rows.proofs.model.restricted_model.Goals.{In_ok-parts}

pub keep-requires-clause-assumed : goal.keep-requires-clause-assumed
keep-requires-clause-assumed c = rw c.assume_columns.ensures.columns (assumed_within c.args.looped.now.net c.args.care.now c.requires.care)

abbrev Made : In_ok-parts → Parts → Type 0
Made c parts = IsMade c.args.looped.now.net c.args.care.now c.args.rows.now parts

made : (c : In_ok-parts) → Made c c.in_ok-parts.parts
made c =
    let net = c.args.looped.now.net in
    let old = option_copied c.assume-2.result in
    let valid = rw c.net.ensures.net at c.laws.ensures.valid in
    let kept = rw c.assume_columns.ensures.columns at c.in_ok-kept.ensures in
    let parts = rw c.net-2.ensures.net at c.in_ok-parts.ensures in
    let old_valid : IfSome old IsNetlist = subst (λ o. IfSome o IsNetlist) (c.assume.ensures.net ∙ sym c.assume-2.ensures.net) c.assumption_laws.ensures in
    made_is net c.args.care.now c.args.rows.now c.in_ok-kept.kept old c.assume-2.ensures.net kept valid c.requires.care c.laws-2.ensures.valid old_valid c.requires.steady
    c.in_ok-total.total c.in_ok-total.ensures.total c.in_ok-total.ensures.fits c.in_ok-total.ensures.small c.in_ok-parts.parts parts

same : (c : In_ok-parts) (model : Parts) → model ≡ c.in_ok-parts.parts → Made c model
same c model is = subst (Made c) (sym is) (made c)

pub netlist_by-requires : goal.netlist_by-requires
netlist_by-requires c = (made (goal.at.netlist_by-requires c).In_ok-parts).valid

pub returns-clause-restricted : goal.returns-clause-restricted
returns-clause-restricted c = IfOk-weaker c.netlist_by.result _ _ (λ model is. (same (goal.at.returns-clause-restricted c).In_ok-parts model is).restricted) c.netlist_by.ensures.is

pub returns-clause-size : goal.returns-clause-size
returns-clause-size c = IfOk-weaker c.netlist_by.result _ _ (λ model is. (same (goal.at.returns-clause-size c).In_ok-parts model is).size) c.netlist_by.ensures.is

pub returns-clause-small : goal.returns-clause-small
returns-clause-small c = IfOk-weaker c.netlist_by.result _ _ (λ model is. (same (goal.at.returns-clause-small c).In_ok-parts model is).small) c.netlist_by.ensures.is
