use Rattle.std.proofs.Common.{ℕ, ◌<◌, All, length, ap, sym, subst, ◌∙◌, arith}
use Rattle.std.specs.List.Sorted.{IsPermutation}
use Rattle.std.proofs.lemmas.List.Sorted.{All-permutation, length_permutation}
use Rattle.std.proofs.lemmas.Result.{on_ok_weaker}
use Rattle.case_split.proofs.CaseLemmas.{copied_in_order}
use Rattle.case_split.proofs.case_tables.copy_in_order.Goals as goal

pub in_order-requires-clause-table : goal.in_order-requires-clause-table
in_order-requires-clause-table c = ap length c.deref.ensures.value ∙ c.requires.width

pub copy_gates-requires-clause-gates : goal.copy_gates-requires-clause-gates
copy_gates-requires-clause-gates c =
    let net = c.args.base.now.net.now in
    subst (All (λ (n : ℕ). n < length net.gates)) (sym c.deref-2.ensures.value)
    (All-permutation (λ (n : ℕ). n < length net.gates) c.args.gates.now c.in_ok-order.order.items c.in_ok-order.ensures c.requires.gates)

pub copy_gates-requires-clause-room : goal.copy_gates-requires-clause-room
copy_gates-requires-clause-room c =
    let e = ap length c.deref-2.ensures.value in
    let f = length_permutation c.args.gates.now c.in_ok-order.order.items c.in_ok-order.ensures in
    let r = c.requires.room in
    omega arith

pub returns : goal.returns
returns c =
    on_ok_weaker c.copy_gates.result
    (copied_in_order c.args.base.now.net.now c.args.gates.now c.deref-2.result.now c.args.added.now.gates.items c.copy_gates.new.added.gates.items c.args.table.now.items c.copy_gates.new.table.items
    (subst (IsPermutation c.args.gates.now) (sym c.deref-2.ensures.value) c.in_ok-order.ensures))
    c.copy_gates.ensures
