use Rattle.std.proofs.Common.{rules, ◌≡◌, ◌∙◌, ◌+◌, length, ap, subst, sym}
use Rattle.std.specs.List.{All}
use Rattle.clause_decision.proofs.Common.{sweeps, AreWithin, ReadsPlaces, gates_in, loops_in}
use Rattle.ternary_clauses.specs.Sweeps.{SaysSweep}
use Rattle.clause_decision.proofs.SweepingLemmas.{sweep-cone, sweep-reads}
use Rattle.clause_decision.proofs.sweeping.sweep_on.Goals as goal

pub returns-clause-swept : goal.returns-clause-swept
returns-clause-swept c care scope k scope_is marked swept =
    let net = c.args.block.now.net in
    let loops = loops_in c.args.block.now in
    let gates = gates_in c.args.block.now in
    let rails = c.args.swept.now.cone.rails.items in
    let before = c.args.swept.now.copies.items in
    let after = c.in_ok-after.after.items in
    let old = c.args.swept.now.cone.formula in
    let new = c.add_sweep.new.formula in
    let said : SaysSweep net loops gates rails before old new after = search rules in
    let before_is : c.replace.result.items ≡ before = ap (λ copies. copies.items) c.replace.ensures.value in
    let after_is : c.replace.new.dest.items ≡ after = ap (λ copies. copies.items) c.replace.ensures.after in
    record {
      swept = record {
        cone = sweep-cone net scope.gates loops gates c.looped.ensures.is.net scope_is.closed scope_is.width marked care old new rails before after c.args.swept.now.cone.inside c.args.swept.now.cone.allowed k swept.cone swept.reads said;
        size = ap length after_is ∙ said.size;
        within = subst (All (AreWithin new.variables)) (sym after_is) said.within;
        reads = λ m v is out. subst (λ copies. ReadsPlaces gates copies m (sweeps net loops v (k + 1))) (sym after_is) (sweep-reads net loops gates old new rails before after k swept.reads said m v is out);
      };
      reads_before = λ m v is out. subst (λ copies. ReadsPlaces gates copies m (sweeps net loops v k)) (sym before_is) (swept.reads m v (said.grows.sound m is) out);
    }
