use Rattle.std.proofs.Common.{◌≡◌, ◌∙◌, ◌*◌, List, map, ap}
use Rattle.clause_decision.proofs.Common.{length-map, Formula, Rails}
use Rattle.clause_decision.proofs.FormulaLemmas.{care-asks, ones-within, question-of, two-within}
use Rattle.clause_decision.proofs.care.care_question.Goals as goal

pub returns : goal.returns
returns c =
    let f : Formula = c.in_ok-said.said.formula in
    let rails : List Rails = c.in_ok-said.said.columns.items in
    let inside = c.in_ok-said.said.inside in
    let allowed = c.in_ok-said.said.allowed in
    let is = c.in_ok-said.ensures in
    let ones : c.in_ok-columns.columns.items ≡ map (λ r. r.one) rails = c.in_ok-columns.ensures ∙ ap (λ (rs : List Rails). map (λ (r : Rails). r.one) rs) c.deref.ensures.value in
    question-of (record { formula = c.into_formula-formula.result; columns = c.in_ok-columns.columns; assumed = c.in_ok-assumed.assumed }) c.into_formula-formula.ensures ones c.in_ok-assumed.ensures.items
    (ones-within f rails is.over.within) (two-within (2 * f.variables) inside allowed is.inside_within is.allowed_within) (length-map rails (λ (r : Rails). r.one) ∙ is.over.size)
    (care-asks c.args.net.now c.args.care.now f rails inside allowed is)
