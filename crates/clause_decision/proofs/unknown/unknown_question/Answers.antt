use Rattle.std.proofs.Common.{◌≡◌, ℕ, List, [], ◌∷◌, map, take, ap, ap₂, ◌∙◌}
use Rattle.clause_decision.proofs.Common.{columns, Rails, gate_rails, negation}
use Rattle.clause_decision.proofs.UnknownLemmas.{unknown-question}
use Rattle.clause_decision.proofs.unknown.unknown_question.Goals as goal

pub returns : goal.returns
returns c =
    let net = c.args.net.now in
    let cone = c.in_ok-cone.cone in
    let width : c.columns-width.result ≡ columns net = c.columns-width.ensures.columns in
    unknown-question net c.args.care.now c.args.scope.now.gates cone.formula cone.rails.items cone.inside cone.allowed c.in_ok-cone.ensures c.args.gate c.requires.gate c.requires.within
    (record { formula = c.into_formula.result; columns = c.in_ok-columns.columns; assumed = c.in_ok-assumed.assumed })
    c.into_formula.ensures
    (c.in_ok-columns.ensures ∙ ap₂ (λ (k : ℕ) (rails : List Rails). map (λ r. r.one) (take k rails)) width c.deref.ensures.value)
    (c.in_ok-assumed.ensures.items
    ∙ ap (λ l. cone.inside ∷ cone.allowed ∷ l ∷ []) (c.unknown_of-unknown.ensures ∙ ap (λ rails. negation (gate_rails net rails c.args.gate).known) c.deref-2.ensures.value))
