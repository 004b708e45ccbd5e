use Rattle.std.proofs.Common.{◌≡◌, ◌∙◌, ◌++◌, ℕ, Bool, List, false, length, drop, take, sym, ap, subst, arith}
use Rattle.fixpoint.proofs.Common.{range_with_len, length-replicate, IsLayout, first_gate, columns_read, AreTaken}
use Rattle.std.proofs.lemmas.List.{take_at}
use Rattle.fixpoint.specs.Orders.{order}
use Rattle.fixpoint.proofs.OrderLemmas.{columns-more, gate-more, order-is, taken-none}
use Rattle.fixpoint.proofs.layout.order.Goals as goal

pub loop-column-preserved : goal.loop-column-preserved
loop-column-preserved c =
    let read : List ℕ = columns_read (first_gate c.args.net.now) c.args.net.now.gates in
    let column : ℕ = c.loop-column.column in
    let marks : List Bool = c.take_column.new.marks in
    let value = c.deref_mut-in-loop-column.ensures.value in
    let back = take_at marks (drop (length marks) c.loop-column.marks.items) c.loop-column.marks.len (c.take_column.ensures.width ∙ c.deref_mut-in-loop-column.ensures.len) in
    rw back (record {
      width = c.take_column.ensures.width ∙ ap length value ∙ c.loop-column.invariant.width;
      taken = rw (columns-more read column) at (c.in_ok-take_column.ensures.taken (read ++ range_with_len 0 column) (rw value c.loop-column.invariant.taken));
    })

pub returns-clause-layout : goal.returns-clause-layout
returns-clause-layout c =
    let net = c.args.net.now in
    let all : c.loop-column.column ≡ first_gate net =
    omega (arith, c.loop-column.auto.column-end, c.loop-column-test.false, c.columns-number.ensures.columns) in
    let taken = subst (λ n. AreTaken (columns_read (first_gate net) net.gates ++ range_with_len 0 n) c.loop-column.marks.items c.loop-column.columns.items) all c.loop-column.invariant.taken in
    let is : c.loop-column.columns.items ≡ order net = taken.taken in
    subst (IsLayout (first_gate net)) (sym is) (order-is net)

pub loop-gate-init : goal.loop-gate-init
loop-gate-init c =
    let number : ℕ = c.columns-number.result in
    grind (arith, length-replicate number false, taken-none number)

pub loop-gate-preserved : goal.loop-gate-preserved
loop-gate-preserved c =
    let net = c.args.net.now in
    let n : ℕ = first_gate net in
    let gate : ℕ = c.loop-gate.gate in
    let marks : List Bool = c.take_read.new.marks in
    let value = c.deref_mut.ensures.value in
    let old : length c.deref_mut.result.now ≡ n = ap length value ∙ c.loop-gate.invariant.width in
    let back = take_at marks (drop (length marks) c.loop-gate.marks.items) c.loop-gate.marks.len (c.in_ok-take_read.ensures.width ∙ c.deref_mut.ensures.len) in
    rw back (record {
      width = c.in_ok-take_read.ensures.width ∙ old;
      taken = rw (gate-more n net.gates gate c.gate.result.now c.gate.ensures.gate)
          (rw (old, c.items.ensures) at (c.in_ok-take_read.ensures.taken (columns_read n (take gate net.gates)) (rw value c.loop-gate.invariant.taken)));
    })
