use Rattle.std.proofs.Common.{arith, [], inl, inr}
use Rattle.feedback_cuts.proofs.KeptLemmas.{row_read}
use Rattle.feedback_cuts.proofs.SearchLemmas.{spreads}
use Rattle.feedback_cuts.proofs.search.Search.extend.Goals as goal

pub returns-in_ok-spread-clause-marked : goal.returns-in_ok-spread-clause-marked
returns-in_ok-spread-clause-marked c =
    let row = row_read c.args.from.now c.args.gate c.gates.result.now c.index-from-gate.result (omega (arith, c.requires.gate, c.requires.from_size)) c.index-from-gate.is c.gates.ensures in
    let met = rw (row, c.deref.ensures.value) at (c.meets.ensures.some c.if-meets.true) in
    λ x m.
    elim (spreads c.args.to.now c.args.levels.now 4294967295 c.args.goal c.args.gate [] c.args.self.now c.spread.new.self c.in_ok-spread.field-0 c.in_ok-spread.ensures x m) [
      | inl old ↦ inl old
      | inr reach ↦ inr (met, reach)
    ]
