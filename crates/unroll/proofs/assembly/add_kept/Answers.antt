use Rattle.std.proofs.Common.{◌++◌, ◌∷◌, [], length, map, ap, ap₂, sym, ◌∙◌}
use Rattle.unroll.proofs.Common.{append_assoc, map-append, length-range_with_len, range_with_len, loops_in, net_of, sweeps_in, kept_gate}
use Rattle.unroll.proofs.Counts.{loops_are, sweeps_are}
use Rattle.unroll.proofs.Kept.{kept_same}
use Rattle.unroll.proofs.SizeLemmas.{range_next}
use Rattle.unroll.proofs.assembly.add_kept.Goals as goal

pub kept_gate-requires-clause-current : goal.kept_gate-requires-clause-current
kept_gate-requires-clause-current c = ap length c.requires.itself ∙ length-range_with_len _ _

pub loop-gate-preserved : goal.loop-gate-preserved
loop-gate-preserved c =
    let plan = c.args.plan.now in
    let counted = plan.counted.now in
    let is = c.net.ensures.is in
    let n = c.loop-gate.gate in
    let kept = kept_gate (net_of plan) (loops_in plan) (sweeps_in plan) in
    let old = c.args.gates.now.items in
    let tables = c.args.tables.now in
    let same = kept_same (net_of plan) (loops_in plan) (sweeps_in plan) (loops_are counted is) (sweeps_are counted is) tables.earlier.items tables.current.items c.requires plan.by n plan.shifted in
    c.in_ok-push.ensures.items
    ∙ ap₂ (λ gates gate. gates ++ gate ∷ []) c.loop-gate.invariant (c.in_ok-kept_gate.ensures ∙ same)
    ∙ append_assoc old (map kept (range_with_len 0 n)) (kept n ∷ [])
    ∙ ap (λ gates. old ++ gates) (sym (ap (map kept) (range_next n) ∙ map-append kept (range_with_len 0 n) (n ∷ [])))
