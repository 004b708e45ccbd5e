use Rattle.std.proofs.Common.{◌<◌, ℕ, All, Bool, List, filter, length, ap, sym, subst, ◌∙◌, arith}
use Rattle.std.specs.Prelude.{◌||◌, slice_index}
use Rattle.dot_text.proofs.Common.{is_marked, loops_of, Parts}
use Rattle.loops.specs.Listed.{gate_numbers}
use Rattle.dot_text.proofs.GraphLemmas.{kept_inside, picture_is, values_fit}
use Rattle.dot_text.proofs.drawing.Drawing.of.Goals as goal

pub invariant_of-result-clause-narrow : goal.invariant_of-result-clause-narrow
invariant_of-result-clause-narrow c = c.requires.valid.fits

pub invariant_of-result-clause-valued : goal.invariant_of-result-clause-valued
invariant_of-result-clause-valued c =
    let net = c.args.looped.now.net in
    grind (arith, values_fit net c.args.vector.now c.requires.width)

pub invariant_of-result-clause-begun : goal.invariant_of-result-clause-begun
invariant_of-result-clause-begun c = grind arith

pub invariant_of-result-clause-way_marked : goal.invariant_of-result-clause-way_marked
invariant_of-result-clause-way_marked c = c.in_ok-way.ensures.width ∙ ap (λ (net : Parts). length net.gates) c.net-net.ensures.net

pub invariant_of-result-clause-cycle_marked : goal.invariant_of-result-clause-cycle_marked
invariant_of-result-clause-cycle_marked c = c.in_ok-cycle.ensures.width ∙ ap (λ (net : Parts). length net.gates) c.net-net.ensures.net

pub invariant_of-result-clause-drawn : goal.invariant_of-result-clause-drawn
invariant_of-result-clause-drawn c =
    let net = c.args.looped.now.net in
    c.in_ok-gates.ensures
    ∙ ap (λ (way : List Bool). filter (λ n. (loops_of net).same (slice_index c.items.result.now 0) n || is_marked way n) (gate_numbers net)) c.deref.ensures.value

pub invariant_of-result-clause-inside : goal.invariant_of-result-clause-inside
invariant_of-result-clause-inside c =
    let net = c.args.looped.now.net in
    let P : List ℕ → Type 0 = All (λ n. n < length net.gates) in
    subst P (sym c.in_ok-gates.ensures)
    (kept_inside net (λ n. (loops_of net).same (slice_index c.items.result.now 0) n || is_marked c.deref.result.now n))

pub returns : goal.returns
returns c =
    let net = c.args.looped.now.net in
    let why = c.args.why.now in
    grind (arith, picture_is net c.in_ok-values.values.items why (slice_index c.items.result.now 0) c.in_ok-way.way.items c.in_ok-cycle.cycle.items c.items-4.result.now c.items-5.result.now c.items-6.result.now)
