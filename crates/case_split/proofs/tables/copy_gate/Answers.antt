use Rattle.std.proofs.Common.{List, map, subst, arith}
use Rattle.netlist.specs.Netlists.{gate_at}
use Rattle.case_split.specs.declared.operands.Operand.{Operand}
use Rattle.case_split.specs.Added.{IsAdded}
use Rattle.case_split.specs.Tables.{operand_at}
use Rattle.case_split.proofs.TableLemmas.{nothing_copied, copy_answer, operands_decide}
use Rattle.case_split.proofs.tables.copy_gate.Goals as goal

pub returns : goal.returns
returns c =
    let net = c.args.base.now.net.now in
    copy_answer c.args.base.now.net.now c.args.gate c.args.added.now.gates.items c.copy_of.new.added.gates.items c.args.table.now.items c.in_ok-operand.operand c.gate_sig-signal.result
    c.gate_sig-signal.ensures.valid c.requires.gate c.requires.width c.gate_sig-signal.ensures.sig (grind (arith, operands_decide, c.operand_of.ensures, c.deref.ensures.value, c.ne.ensures, c.if-ne.false))
    (subst (λ (t : List Operand). IsAdded net (gate_at net c.args.gate).cover (map (operand_at t) (gate_at net c.args.gate).pins) c.args.added.now.gates.items c.copy_of.new.added.gates.items c.in_ok-operand.operand) c.deref-2.ensures.value c.in_ok-operand.ensures)
    c.requires.within

pub returns-then-ne : goal.returns-then-ne
returns-then-ne c =
    nothing_copied c.args.base.now.net.now c.args.gate c.args.added.now.gates.items c.args.table.now.items c.requires.gate
    (λ e. grind (arith, e, operands_decide, c.ne.ensures, c.if-ne.true, c.operand_of.ensures, c.gate_sig-signal.ensures.sig, c.deref.ensures.value))
    c.requires.new c.requires.width c.requires.within
