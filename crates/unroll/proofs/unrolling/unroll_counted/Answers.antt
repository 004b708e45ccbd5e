use Rattle.std.proofs.Common.{◌≡◌, ℕ, sym, subst, ◌∙◌, arith}
use Rattle.unroll.proofs.Common.{Parts, Loops, AreLoopsOf, unrolled, IsOfLoops, counted_loops, counted_sweeps}
use Rattle.netlist.specs.Walks.{IsLoopFree}
use Rattle.netlist.proofs.Validity.{no_fault_of_netlist}
use Rattle.unroll.specs.Laws.{KeepsInterface}
use Rattle.unroll.proofs.Counts.{loops_are, sweeps_are}
use Rattle.unroll.proofs.Measures.{size_is_shift}
use Rattle.unroll.proofs.Opened.{unrolled_is_loop_free}
use Rattle.unroll.proofs.Telling.{unrolled_keeps_interface, unrolled_tells_as_much}
use Rattle.unroll.proofs.Valid.{unrolled_is_netlist}
use Rattle.unroll.proofs.unrolling.unroll_counted.Goals as goal

pub unrolled_parts-requires-clause-by : goal.unrolled_parts-requires-clause-by
unrolled_parts-requires-clause-by c =
    let counted = c.args.counted.now in
    grind (arith, size_is_shift counted.net (counted_loops counted) (counted_sweeps counted))

pub want_of_memory-requires : goal.want_of_memory-requires
want_of_memory-requires c =
    let counted = c.args.counted.now in
    let loops = counted_loops counted in
    let m = counted_sweeps counted in
    let is = c.shift_of.ensures.is in
    grind (arith, unrolled_is_netlist counted.net loops m is.valid (loops_are counted is) (sweeps_are counted is) c.in_ok-by.ensures.small c.requires, loops_are counted is, sweeps_are counted is, no_fault_of_netlist (unrolled counted.net loops m))

-- what holds of the unrolled netlist holds of the answer
module _ (c : goal.In-Ok) where
  abbrev net : Parts
  net = c.args.counted.now.net

  abbrev loops : Loops
  loops = counted_loops c.args.counted.now

  abbrev m : ℕ → ℕ
  m = counted_sweeps c.args.counted.now

  are : AreLoopsOf net loops
  are = loops_are c.args.counted.now c.shift_of.ensures.is

  of_loops : IsOfLoops loops m
  of_loops = sweeps_are c.args.counted.now c.shift_of.ensures.is

  answer_is : c.in-Ok.other ≡ unrolled net loops m
  answer_is = c.in-Ok.ensures.parts ∙ c.in_ok-parts.ensures

  by_answer : (P : Parts → Type 0) → P (unrolled net loops m) → P c.in-Ok.other
  by_answer P h = subst P (sym answer_is) h

pub returns-in-Ok-clause-unrolled : goal.returns-in-Ok-clause-unrolled
returns-in-Ok-clause-unrolled c = answer_is c

pub returns-in-Ok-clause-loop_free : goal.returns-in-Ok-clause-loop_free
returns-in-Ok-clause-loop_free c = grind (arith, by_answer c IsLoopFree (unrolled_is_loop_free (net c) (loops c) (are c) (m c) (of_loops c)), unrolled_is_loop_free (net c) (loops c) (are c) (m c) (of_loops c), are c, of_loops c)

pub returns-in-Ok-clause-interface : goal.returns-in-Ok-clause-interface
returns-in-Ok-clause-interface c = grind (arith, by_answer c (KeepsInterface (net c)) (unrolled_keeps_interface (net c) (loops c) (are c) (m c) (of_loops c)), unrolled_keeps_interface (net c) (loops c) (are c) (m c) (of_loops c), are c, of_loops c)

pub returns-in-Ok-clause-tells : goal.returns-in-Ok-clause-tells
returns-in-Ok-clause-tells c v enough = grind (arith, by_answer c, unrolled_tells_as_much (net c) (loops c) (are c) (m c) (of_loops c) v enough, are c, of_loops c)
