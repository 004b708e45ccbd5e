use Rattle.std.proofs.Common.{ℕ, refl, subst, arith}
use Rattle.std.proofs.lemmas.List.{get_or_default}
use Rattle.netlist.specs.Netlists.{is_marked}
use Rattle.explanations.specs.Sides.{ReaderStays}
use Rattle.explanations.proofs.sides.readers_stay.Goals as goal

pub returns : goal.returns
returns c =
    let cycle = c.args.cycle.now in
    let behind = c.loop-gate-test.false in
    (λ e k d l. subst (λ (g : ℕ). ReaderStays c.args.net.now (is_marked c.args.marks.now) c.args.sides.now c.args.signal g) (get_or_default cycle k 0 d l) (c.loop-gate.invariant k (omega arith)), λ stay. refl)
