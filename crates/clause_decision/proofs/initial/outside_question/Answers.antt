use Rattle.std.proofs.Common.{◌≡◌, ◌∙◌, ◌∷◌, ℕ, ◌*◌, ◌<◌, List, length, map, refl, subst, ap, arith}
use Rattle.clause_decision.proofs.Common.{length-map, All-cons, is_in_invariant, Rails, negation, IsOver, SaysTest, asked_starts}
use Rattle.refusals.specs.Tests.{is_outside}
use Rattle.clause_decision.proofs.FormulaLemmas.{asks-over, ones-within, over-columns, over-grows, question-of}
use Rattle.clause_decision.proofs.ModelLemmas.{invariant-reads}
use Rattle.clause_decision.proofs.SignalLemmas.{negation-within}
use Rattle.clause_decision.proofs.StartLemmas.{outside-told, starts-within}
use Rattle.clause_decision.proofs.initial.outside_question.Goals as goal
use Rattle.clause_decision.proofs.initial.outside_question.Goals.{In_ok-latches}

-- the columns are the latches
over : (c : In_ok-latches) → IsOver c.add_columns.new.formula c.in_ok-latches.latches.items (length c.args.net.now.latches)
over c = grind (arith, over-columns c.in_ok-formula.formula c.add_columns.new.formula c.in_ok-latches.latches.items (length c.args.net.now.latches) c.in_ok-formula.ensures.variables c.in_ok-formula.ensures.literals)

pub add_invariant-requires-clause-reads : goal.add_invariant-requires-clause-reads
add_invariant-requires-clause-reads g =
    let c : In_ok-latches = (goal.at.add_invariant-requires-clause-reads g).In_ok-latches in
    grind (arith, In_ok-latches, invariant-reads g.args.net.now g.args.care.now (length g.deref.result.now) g.requires, over c)

pub returns : goal.returns
returns g =
    let c : In_ok-latches = (goal.at.returns g).In_ok-latches in
    let net = g.args.net.now in
    let care = g.args.care.now in
    let rails : List Rails = g.in_ok-latches.latches.items in
    let f = g.add_invariant.new.formula in
    let inside : ℕ = g.in_ok-inside.inside in
    let says : SaysTest g.add_columns.new.formula f rails (is_in_invariant care) inside = subst (λ (rs : List Rails). SaysTest g.add_columns.new.formula f rs (is_in_invariant care) inside) g.deref.ensures.value g.in_ok-inside.ensures in
    let now : IsOver f rails (length net.latches) = over-grows g.add_columns.new.formula f rails (length net.latches) (over c) says.grows (λ m v long is reads. says.complete m v long is reads) in
    let ones : g.in_ok-columns.columns.items ≡ map (λ r. r.one) rails = g.in_ok-columns.ensures ∙ ap (λ (rs : List Rails). map (λ (r : Rails). r.one) rs) g.deref-2.ensures.value in
    let assumed : g.in_ok-assumed.assumed.items ≡ (negation inside ∷ asked_starts net.latches rails) = g.in_ok-assumed.ensures ∙ ap (λ (rs : List Rails). negation inside ∷ asked_starts net.latches rs) g.deref-3.ensures.value in
    question-of (record { formula = f; columns = g.in_ok-columns.columns; assumed = g.in_ok-assumed.assumed }) refl ones assumed (ones-within f rails now.within)
    (All-cons (λ l. l < 2 * f.variables) (negation inside) (asked_starts net.latches rails) (negation-within inside f.variables says.within) (starts-within f.variables net.latches rails now.within))
    (length-map rails (λ (r : Rails). r.one) ∙ now.size)
    (asks-over f rails (length net.latches) (negation inside ∷ asked_starts net.latches rails) (is_outside net care) now (λ m v is reads. outside-told net care m rails v inside now.size reads (says.says_it m v is reads)))
