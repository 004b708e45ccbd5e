use Rattle.std.proofs.Common.{◌≡◌, ◌<◌, List, Bool, false, replicate, length, rules, arith, ap, sym, ◌∙◌}
use Rattle.feedback_cuts.proofs.Common.{length-replicate, IsLoopPin}
use Rattle.feedback_cuts.proofs.CutLemmas.{no_cuts, fresh_search, cut_from_below, cut_step}
use Rattle.feedback_cuts.proofs.cuts.find_cut.Goals as goal

pub loop-gate-init : goal.loop-gate-init
loop-gate-init c =
    let gates = c.gates-gates.ensures.gates in
    let none : c.in_ok-cut.cut.items ≡ replicate (length c.args.net.now.gates) false = c.in_ok-cut.ensures.items_if_clones_equal (search rules) ∙ ap (λ n. replicate n false) gates in
    record {
      cut = no_cuts c.args.net.now c.in_ok-cut.cut.items none;
      search = fresh_search (IsLoopPin c.args.net.now c.args.blocks.now) c.in_ok-cut.cut.items c.gates-gates.result c.in_ok-search.search
          (ap (λ (bs : List Bool). length bs) none ∙ length-replicate (length c.args.net.now.gates) false ∙ sym gates) c.in_ok-search.ensures;
    }

pub loop-gate-preserved : goal.loop-gate-preserved
loop-gate-preserved c =
    let net = c.args.net.now in
    let gate = c.loop-gate.gate in
    let leads = c.in_ok-leads.leads in
    let i = c.loop-gate.invariant in
    let l : gate < length net.gates = omega (arith, c.gates-gates.ensures.gates) in
    record {
      cut = cut_step net c.args.blocks.now c.requires gate c.loop-gate.cut.items leads l (rw (c.deref.ensures.value, c.new-grouped.ensures) at c.in_ok-leads.ensures.leads) i.cut;
      search = rw (c.deref.ensures.value, c.new-grouped.ensures) at c.in_ok-leads.ensures.search;
    }

pub returns : goal.returns
returns c =
    let net = c.args.net.now in
    let last : c.loop-gate.gate ≡ length net.gates = omega (arith, c.gates-gates.ensures.gates) in
    cut_from_below net (record { wires = c.of.result }) (rw (← last, c.of.ensures) c.loop-gate.invariant.cut)
