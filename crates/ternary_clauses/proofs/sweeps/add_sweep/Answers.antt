use Rattle.std.proofs.Common.{◌≡◌, ◌∙◌, refl, ap, length, subst, arith}
use Rattle.loops.specs.declared.structure.Blocks.{Blocks}
use Rattle.loops.specs.declared.structure.Cut.{Cut}
use Rattle.loops.specs.Blocks.{block_at}
use Rattle.loops.specs.Looped.{Looped}
use Rattle.loops.proofs.OrderLemmas.{block_gates, block_rises, block_within}
use Rattle.ternary_clauses.proofs.Common.{AreCopies, CopiedLoop, AreCopied}
use Rattle.ternary_clauses.proofs.SweepLemmas.{copy_of, loop_copy, sweep-says}
use Rattle.ternary_clauses.proofs.sweeps.add_sweep.Goals as goal
use Rattle.ternary_clauses.proofs.sweeps.add_sweep.Goals.{After-deref}

-- the copy of the loop that is bound
same : (c : After-deref) → copy_of c.net.result.now c.items-gates.result.now c.items-2.result.now c.args.rails.now c.args.before.now c.deref.result.now
    ≡ loop_copy c.args.looped.now.net c.args.looped.now.blocks c.args.looped.now.cut c.args.block c.args.rails.now c.args.before.now c.in_ok-after.after.items
same c =
    let l : Looped = c.args.looped.now in
    let gates : c.items-gates.result.now ≡ (block_at l.blocks c.args.block).gates =
    block_gates l.blocks c.items.result.now _ c.args.block _ c.requires.block (c.items.ensures ∙ ap (λ (b : Blocks). b.list) c.blocks-2.ensures.blocks) c.items-gates.ensures in
    let cut = c.items-2.ensures ∙ ap (λ (w : Cut). w.wires) c.cut.ensures.cut in
    rw (c.net.ensures.net, gates, cut, c.deref.ensures.value) refl

-- there are as many copies as gates
copies : (c : After-deref) → AreCopies c.args.formula.now c.add_copies.new.formula c.in_ok-after.after.items (length (block_at c.args.looped.now.blocks c.args.block).gates)
copies c = subst (AreCopies c.args.formula.now c.add_copies.new.formula c.in_ok-after.after.items) (ap (λ (d : CopiedLoop). length d.gates) (same c)) c.in_ok-after.ensures.copies

pub invariant_of-copy : goal.invariant_of-copy
invariant_of-copy g =
    let c : After-deref = (goal.at.invariant_of-copy g).After-deref in
    let l : Looped = c.args.looped.now in
    let is = c.cut.ensures.looped in
    grind (arith, After-deref, same c, block_rises l.net l.blocks is.blocks c.args.block c.requires.block, block_within l.net l.blocks is.blocks c.args.block c.requires.block, copies c)

pub returns-clause-says : goal.returns-clause-says
returns-clause-says g =
    let c : After-deref = (goal.at.returns-clause-says g).After-deref in
    let l : Looped = c.args.looped.now in
    let is = c.cut.ensures.looped in
    sweep-says l.net l.blocks is.blocks l.cut is.cut c.args.block c.requires.block c.requires.looped c.args.rails.now c.args.before.now c.in_ok-after.after.items
    c.args.formula.now c.add_copies.new.formula g.bind_all.new.formula c.requires.rails_in c.requires.before_in c.requires.formula.some (copies c)
    (subst (λ (d : CopiedLoop). AreCopied d c.add_copies.new.formula g.bind_all.new.formula (length d.gates)) (same c) g.in_ok-bind_all.ensures.copied)
