-- A gate that is passed leaves the search at gates that the row's reach.
use Rattle.std.proofs.Common.{◌≡◌, ◌<◌, [], length, get_or, arith}
use Rattle.feedback_cuts.proofs.Common.{row_at}
use Rattle.feedback_cuts.proofs.KeptLemmas.{row_read, row_within}
use Rattle.feedback_cuts.proofs.SearchLemmas.{begun, passes, work_falls}
use Rattle.feedback_cuts.proofs.search.Search.spread.Goals as goal
use Rattle.feedback_cuts.proofs.search.Search.spread.Goals.{After-index-gate, After-gates}

pub loop-self-init : goal.loop-self-init
loop-self-init c =
    begun c.args.rows.now c.args.levels.now c.args.high c.args.goal c.args.row.now c.args.self.now.marks.items c.requires.row c.follow.new.self.marks.items c.follow.new.self.found.items
    (rw c.clear.ensures.items at c.in_ok-follow.ensures)

-- the gate that is passed is one that was found
gate_found : (c : After-index-gate) → (c.loop-self.passed < length c.loop-self.self.found.items) × (get_or c.loop-self.self.found.items c.loop-self.passed c.index-gate.result.now ≡ c.index-gate.result.now)
gate_found c = grind arith

gate_within : (c : After-index-gate) → c.index-gate.result.now < length c.args.levels.now
gate_within c = (let at = gate_found c in let r = c.loop-self.invariant.reached c.index-gate.result.now (c.loop-self.passed, at.0, at.1) in r.within)

-- its row
row_is : (c : After-gates) → c.index-gate.result.now < length c.args.levels.now → c.gates.result.now ≡ row_at c.args.rows.now c.index-gate.result.now
row_is c low = row_read c.args.rows.now c.index-gate.result.now c.gates.result.now c.index-rows-gate.result (omega (arith, c.requires.size)) c.index-rows-gate.is c.gates.ensures

pub bounds-rows-gate : goal.bounds-rows-gate
bounds-rows-gate c = (let low = gate_within (goal.at.bounds-rows-gate c).After-index-gate in omega (arith, c.requires.size))

pub follow-requires-in-loop-self-clause-row : goal.follow-requires-in-loop-self-clause-row
follow-requires-in-loop-self-clause-row c =
    let low = gate_within (goal.at.follow-requires-in-loop-self-clause-row c).After-index-gate in
    row_within c.args.rows.now (length c.args.levels.now) c.index-gate.result.now c.gates.result.now c.requires.rows (omega (arith, c.requires.size)) (row_is (goal.at.follow-requires-in-loop-self-clause-row c).After-gates low)

pub loop-self-preserved : goal.loop-self-preserved
loop-self-preserved c =
    let g = c.index-gate.result.now in
    let at = gate_found (goal.at.loop-self-preserved c).After-index-gate in
    let low = gate_within (goal.at.loop-self-preserved c).After-index-gate in
    passes c.args.rows.now c.args.levels.now c.args.high c.args.goal c.args.row.now c.args.self.now.marks.items c.loop-self.self.marks.items c.loop-self.self.found.items c.loop-self.passed c.loop-self.invariant
    g c.follow-in-loop-self.new.self.marks.items c.follow-in-loop-self.new.self.found.items at.0 at.1 (c.requires.rows g [] (omega (arith, c.requires.size)))
    (rw (row_is (goal.at.loop-self-preserved c).After-gates low) at c.in_ok-follow-2.ensures)

pub loop-self-smaller : goal.loop-self-smaller
loop-self-smaller c =
    let at = gate_found (goal.at.loop-self-smaller c).After-index-gate in
    work_falls c.args.levels.now c.args.high c.args.goal c.gates.result.now c.loop-self.self.marks.items c.follow-in-loop-self.new.self.marks.items c.loop-self.self.found.items c.follow-in-loop-self.new.self.found.items c.loop-self.passed at.0 c.in_ok-follow-2.ensures
