use Rattle.std.proofs.Common.{ℕ, List, get_or, length, refl, subst, take, arith}
use Rattle.std.proofs.lemmas.List.{length-take-le, take_all}
use Rattle.case_split.specs.Tables.{AreCopySteps}
use Rattle.case_split.proofs.AddedLemmas.{more_length}
use Rattle.case_split.proofs.TableLemmas.{next_copied}
use Rattle.case_split.proofs.tables.copy_gates.Goals as goal

pub loop-gate-preserved : goal.loop-gate-preserved
loop-gate-preserved c =
    next_copied c.args.base.now.net.now c.args.gates.now c.loop-gate.gate-index (get_or c.args.gates.now c.loop-gate.gate-index 0) c.args.added.now.gates.items c.loop-gate.added.gates.items c.copy_gate.new.added.gates.items c.args.table.now.items c.loop-gate.table.items c.copy_gate.new.table.items
    c.loop-gate.invariant c.requires.gates c.loop-gate-test.true refl c.in_ok-copy_gate.ensures

pub copy_gate-requires-clause-gate : goal.copy_gate-requires-clause-gate
copy_gate-requires-clause-gate c = c.requires.gates c.loop-gate.gate-index 0 c.loop-gate-test.true

pub copy_gate-requires-clause-room : goal.copy_gate-requires-clause-room
copy_gate-requires-clause-room c =
    let e = length-take-le c.loop-gate.gate-index c.args.gates.now (let t = c.loop-gate-test.true in omega arith) in
    let more = (more_length c.args.added.now.gates.items c.loop-gate.added.gates.items (length (take c.loop-gate.gate-index c.args.gates.now)) c.loop-gate.invariant.more).1 in
    let t = c.loop-gate-test.true in
    let r = c.requires.room in
    omega arith

pub returns : goal.returns
returns c =
    subst (λ (gates : List ℕ). AreCopySteps c.args.base.now.net.now gates c.args.added.now.gates.items c.loop-gate.added.gates.items c.args.table.now.items c.loop-gate.table.items)
    (take_all c.loop-gate.gate-index c.args.gates.now c.loop-gate-test.false) c.loop-gate.invariant
