use Rattle.std.proofs.Common.{◌≡◌, ◌∙◌, ◌+◌, ◌<◌, All, IfOk, ap, length, map, subst, sym, arith, List}
use Rattle.std.proofs.lemmas.List.{length-map}
use Rattle.cyc_base.specs.declared.sig.Sig.{Sig}
use Rattle.cyc_base.specs.Names.{IsBlifName}
use Rattle.netlist.specs.declared.parts.Gate.{Gate}
use Rattle.netlist.specs.Netlists.{count, gate_at, no_gate}
use Rattle.case_split.specs.declared.operands.Operand.{Operand}
use Rattle.case_split.specs.Added.{IsAdded}
use Rattle.case_split.specs.Operands.{IsWithin}
use Rattle.case_split.specs.Tables.{operand_at}
use Rattle.case_split.proofs.TableLemmas.{operands_within, gate_name_fits}
use Rattle.case_split.proofs.tables.copy_of.Goals as goal

pub operands_of-requires : goal.operands_of-requires
operands_of-requires c =
    subst (All (λ (s : Sig). s.0 < length c.args.table.now)) (sym (c.items.ensures ∙ ap (λ (g : Gate). g.pins) c.gate-own.ensures.at))
    (λ i d k. let h = c.gate-own.ensures.valid.pins c.args.gate no_gate c.requires.gate i d k in let w = c.requires.width in omega (arith, h, w))

pub add-requires-clause-name : goal.add-requires-clause-name
add-requires-clause-name c = subst (λ (g : Gate). IsBlifName g.name) (sym c.gate-own.ensures.at) (gate_name_fits c.args.base.now.net.now c.args.gate c.gate-own.ensures.valid c.requires.gate)

pub add-requires-clause-within : goal.add-requires-clause-within
add-requires-clause-within c =
    let net = c.args.base.now.net.now in
    let bound = count net + length c.args.added.now.gates.items in
    subst (All (IsWithin bound)) (sym (c.deref.ensures.value ∙ c.in_ok-operands.ensures ∙ ap (map (operand_at c.args.table.now)) (c.items.ensures ∙ ap (λ (g : Gate). g.pins) c.gate-own.ensures.at)))
    (operands_within bound c.args.table.now (gate_at net c.args.gate).pins
    (λ i d k. let h = c.gate-own.ensures.valid.pins c.args.gate no_gate c.requires.gate i d k in let w = c.requires.width in omega (arith, h, w))
    c.requires.within)

pub returns : goal.returns
returns c =
    let net = c.args.base.now.net.now in
    let old = c.args.added.now.gates.items in
    let new = c.add.new.self.gates.items in
    subst (λ (g : Gate). IfOk c.add.result (IsAdded net g.cover (map (operand_at c.args.table.now) g.pins) old new)) c.gate-own.ensures.at
    (subst (λ (os : List Operand). IfOk c.add.result (IsAdded net c.gate-own.result.now.cover os old new)) (c.deref.ensures.value ∙ c.in_ok-operands.ensures ∙ ap (map (operand_at c.args.table.now)) c.items.ensures) c.add.ensures)

pub add-requires-clause-counted : goal.add-requires-clause-counted
add-requires-clause-counted c =
    ap length (c.deref.ensures.value ∙ c.in_ok-operands.ensures)
    ∙ length-map c.items.result.now (operand_at c.args.table.now)
    ∙ ap length c.items.ensures
    ∙ subst (λ (g : Gate). length g.pins ≡ g.cover.pins) (sym c.gate-own.ensures.at) (c.gate-own.ensures.valid.pin_counts c.args.gate no_gate c.requires.gate)
