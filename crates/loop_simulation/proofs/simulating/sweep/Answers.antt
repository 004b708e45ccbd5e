use Rattle.std.proofs.Common.{◌≡◌, ◌∙◌, ◌<◌, ◌++◌, [], ◌∷◌, true, false, ℕ, List, length, get_or, sym, ap, subst, arith}
use Rattle.loop_simulation.proofs.Common.{get_or_default, Trit, is_cut, IsSweeping, LoopAt, gates_in}
use Rattle.std.specs.List.{Contains}
use Rattle.loop_simulation.specs.Events.{IsDetermined, IsNewValue}
use Rattle.loop_simulation.proofs.EventLemmas.{cut-differs, cut-set, cut-unseen, gate-kept, taken-fits, taken-last, total, uncut-differs, uncut-set, uncut-unseen, waiting-inside, work_left-cut, work_left-kept, work_left-uncut}
use Rattle.loop_simulation.proofs.simulating.sweep.Goals as goal
use Rattle.loop_simulation.proofs.simulating.sweep.Goals.{In-Some, In-Some-2, In_ok-extend_from_slice}

-- the gate that was taken is one of the netlist
fits : (c : In-Some) → c.in-Some.gate < length c.args.simulation.now.block.now.net.gates
fits c = taken-fits c.args.simulation.now.block.now c.args.simulation.now.outside.now c.args.before.now c.loop-gate.after c.loop-gate.waiting.items c.pop.new.self.items c.in-Some.gate c.in-Some.ensures.items c.loop-gate.invariant.sweeping c.requires.block

-- the others still wait
last : (c : In-Some) → IsSweeping c.args.simulation.now.block.now c.args.simulation.now.outside.now c.args.before.now c.loop-gate.after (c.pop.new.self.items ++ c.in-Some.gate ∷ [])
last c = taken-last c.args.simulation.now.block.now c.args.simulation.now.outside.now c.args.before.now c.loop-gate.after c.loop-gate.waiting.items c.pop.new.self.items c.in-Some.gate c.in-Some.ensures.items c.loop-gate.invariant.sweeping

-- its value is determined now
determined : (c : In-Some-2) → IsDetermined c.args.simulation.now.block.now c.args.simulation.now.outside.now c.args.before.now c.loop-gate.after c.in-Some.gate c.in-Some-2.value
determined c = subst (IsNewValue c.args.simulation.now.block.now c.args.simulation.now.outside.now c.args.before.now c.loop-gate.after c.in-Some.gate) c.in-Some-2.is c.in_ok-value.ensures

-- those that read it wait, too
longer : (c : In_ok-extend_from_slice) → c.in-Some.gate < length c.args.simulation.now.readers.now → c.extend_from_slice.new.self.items ≡ c.pop.new.self.items ++ get_or c.args.simulation.now.readers.now c.in-Some.gate []
longer c listed =
    c.in_ok-extend_from_slice.ensures.items ∙ ap (λ (ns : List ℕ). c.pop.new.self.items ++ ns) (c.gates.ensures ∙ get_or_default c.args.simulation.now.readers.now c.in-Some.gate _ [] listed)

pub new_value-requires-clause-gate : goal.new_value-requires-clause-gate
new_value-requires-clause-gate c = fits (goal.at.new_value-requires-clause-gate c).In-Some

pub bounds-after-gate : goal.bounds-after-gate
bounds-after-gate c = let low = fits (goal.at.bounds-after-gate c).In-Some in omega (arith, low, c.loop-gate.invariant.sweeping.width_after)

pub is_cut-requires : goal.is_cut-requires
is_cut-requires c = fits (goal.at.is_cut-requires c).In-Some

pub bounds-simulation-gate : goal.bounds-simulation-gate
bounds-simulation-gate c = let low = fits (goal.at.bounds-simulation-gate c).In-Some in omega (arith, low, c.requires.readers.size)

pub loop-gate-smaller-in-Continue-branch-3 : goal.loop-gate-smaller-in-Continue-branch-3
loop-gate-smaller-in-Continue-branch-3 c =
    let at = goal.at.loop-gate-smaller-in-Continue-branch-3 c in
    let low = fits at.In-Some in
    let is = determined at.In-Some-2 in
    rw c.in-Some.ensures.items (work_left-cut c.args.simulation.now.readers.now c.loop-gate.after c.in-Some.gate c.pop.new.self.items c.in-Some-2.value (omega (arith, low, c.loop-gate.invariant.sweeping.width_after)) is.unknown is.known)

pub loop-gate-preserved-in-Continue-branch-3 : goal.loop-gate-preserved-in-Continue-branch-3
loop-gate-preserved-in-Continue-branch-3 c =
    let at = goal.at.loop-gate-preserved-in-Continue-branch-3 c in
    let l : LoopAt = c.args.simulation.now.block.now in
    let before : List Trit = c.args.before.now in
    let after : List Trit = c.loop-gate.after in
    let rest : List ℕ = c.pop.new.self.items in
    let g : ℕ = c.in-Some.gate in
    let value : Trit = c.in-Some-2.value in
    let inside : Contains (gates_in l) g = waiting-inside l c.args.simulation.now.outside.now before after rest g (last at.In-Some) in
    let fit = fits at.In-Some in
    let low : g < length after = omega (arith, fit, c.loop-gate.invariant.sweeping.width_after) in
    let is = determined at.In-Some-2 in
    let cut : is_cut l.cut.wires g ≡ true = sym c.is_cut.ensures ∙ c.if-is_cut.true in
    record {
      sweeping = cut-set l c.args.simulation.now.outside.now before after rest g (last at.In-Some) value is low cut;
      unseen = rw c.in_ok-push.ensures.items (cut-unseen l before after g value c.loop-gate.changed.items inside cut is.unknown low c.loop-gate.invariant.unseen);
      differs = λ n there.
          cut-differs l before after g value c.loop-gate.changed.items inside cut is.unknown is.known low c.loop-gate.invariant.unseen c.loop-gate.invariant.differs n
          (subst (λ (ns : List ℕ). Contains ns n) c.in_ok-push.ensures.items there);
    }

pub loop-gate-smaller-in-Continue-branch-4 : goal.loop-gate-smaller-in-Continue-branch-4
loop-gate-smaller-in-Continue-branch-4 c =
    let at = goal.at.loop-gate-smaller-in-Continue-branch-4 c in
    let low = fits at.In-Some in
    let is = determined at.In-Some-2 in
    rw (longer at.In_ok-extend_from_slice (omega (arith, low, c.requires.readers.size)), c.in-Some.ensures.items)
    (work_left-uncut c.args.simulation.now.readers.now c.loop-gate.after c.in-Some.gate c.pop.new.self.items c.in-Some-2.value (omega (arith, low, c.loop-gate.invariant.sweeping.width_after)) is.unknown is.known)

pub loop-gate-preserved-in-Continue-branch-4 : goal.loop-gate-preserved-in-Continue-branch-4
loop-gate-preserved-in-Continue-branch-4 c =
    let at = goal.at.loop-gate-preserved-in-Continue-branch-4 c in
    let l : LoopAt = c.args.simulation.now.block.now in
    let before : List Trit = c.args.before.now in
    let after : List Trit = c.loop-gate.after in
    let g : ℕ = c.in-Some.gate in
    let value : Trit = c.in-Some-2.value in
    let fit = fits at.In-Some in
    let low : g < length after = omega (arith, fit, c.loop-gate.invariant.sweeping.width_after) in
    let uncut : is_cut l.cut.wires g ≡ false = sym c.is_cut.ensures ∙ c.if-is_cut.false in
    record {
      sweeping = rw (longer at.In_ok-extend_from_slice (omega (arith, fit, c.requires.readers.size)))
          (uncut-set l c.args.simulation.now.outside.now before after c.pop.new.self.items g (last at.In-Some) value (determined at.In-Some-2) low c.args.simulation.now.readers.now c.requires.readers uncut);
      unseen = uncut-unseen l before after g value c.loop-gate.changed.items uncut c.loop-gate.invariant.unseen;
      differs = uncut-differs l before after g value c.loop-gate.changed.items uncut c.loop-gate.invariant.unseen c.loop-gate.invariant.differs;
    }

pub loop-gate-smaller : goal.loop-gate-smaller
loop-gate-smaller c = rw c.in-Some.ensures.items (work_left-kept (total c.args.simulation.now.readers.now) c.loop-gate.after c.in-Some.gate c.pop.new.self.items)

pub loop-gate-preserved : goal.loop-gate-preserved
loop-gate-preserved c =
    grind (arith, gate-kept c.args.simulation.now.block.now c.args.simulation.now.outside.now c.args.before.now c.loop-gate.after c.pop.new.self.items c.in-Some.gate (last (goal.at.loop-gate-preserved c).In-Some), last (goal.at.loop-gate-preserved c).In-Some)
