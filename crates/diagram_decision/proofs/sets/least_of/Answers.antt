use Rattle.std.proofs.Common.{◌≡◌, ◌∙◌, sym, ap, length, drop, arith, Some, Ok, List, Bool}
use Rattle.diagram_decision.proofs.Common.{take_at, Arena}
use Rattle.diagram_decision.proofs.SetLemmas.{least-first, never-none}
use Rattle.diagram_decision.proofs.sets.least_of.Goals as goal

pub returns-then-branch : goal.returns-then-branch
returns-then-branch c =
    let all = ap (λ (a : Arena). a.vars) c.store.ensures in
    let long : length c.least_by.new.out ≡ c.in_ok-vector.vector.len = omega (arith, c.least_by.auto.out, c.deref_mut.ensures.len) in
    let wide : length c.least_by.new.out ≡ c.args.d.now.vars = omega (arith, long, c.in_ok-vector.ensures.len, c.vars.ensures, all) in
    ap (λ (v : List Bool). Some v) (take_at c.least_by.new.out (drop (length c.least_by.new.out) c.in_ok-vector.vector.items) c.in_ok-vector.vector.len long)
    ∙ sym (least-first c.args.d.now.vars _ c.least_by.new.out wide (c.least_by.ensures.least (c.in_ok-least_by.was ∙ ap {A = Bool} Ok c.if-branch.true)))

pub returns-else-branch : goal.returns-else-branch
returns-else-branch c = sym (never-none c.args.d.now c.args.columns.now c.args.set (c.least_by.ensures.found.0 (c.in_ok-least_by.was ∙ ap {A = Bool} Ok c.if-branch.false)))
