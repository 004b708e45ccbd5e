use Rattle.std.proofs.Common.{◌+◌, ◌<◌, List, All, length, map, ap, sym, subst, ◌∙◌, arith}
use Rattle.std.proofs.lemmas.List.{length-map}
use Rattle.std.specs.Vec.{vec_items}
use Rattle.cyc_base.specs.declared.sig.Sig.{Sig}
use Rattle.netlist.specs.Netlists.{count}
use Rattle.case_split.specs.declared.operands.Operand.{Operand}
use Rattle.case_split.specs.Operands.{IsWithin}
use Rattle.case_split.specs.Choices.{AreLeavesOf}
use Rattle.case_split.specs.Tables.{operand_at}
use Rattle.case_split.proofs.TableLemmas.{gate_name_fits}
use Rattle.case_split.proofs.CaseLemmas.{leaves_within, leaves_are, root_made}
use Rattle.case_split.proofs.heads.root_of.Goals as goal

pub choose-requires-clause-name : goal.choose-requires-clause-name
choose-requires-clause-name c = grind (arith, gate_name_fits c.args.base.now.net.now c.args.gate c.gate_sig-signal.ensures.valid c.requires.gate, c.gate.ensures.at)

pub choose-requires-clause-within : goal.choose-requires-clause-within
choose-requires-clause-within c =
    let net = c.args.base.now.net.now in
    let bound = count net + length c.args.added.now.gates.items in
    let g = c.requires.gate in
    let low : c.gate_sig-signal.result.0 < count net = subst (λ (s : Sig). s.0 < count net) (sym c.gate_sig-signal.ensures.sig) (omega arith) in
    subst (All (IsWithin bound)) (sym (c.deref.ensures.value ∙ c.in_ok-leaves.ensures))
    (leaves_within bound (map vec_items c.args.tables.now) c.gate_sig-signal.result (λ i d l. (let w = c.requires.tables.wide i d l in omega arith)) c.requires.within)

pub choose-requires-clause-possible : goal.choose-requires-clause-possible
choose-requires-clause-possible c =
    let net = c.args.base.now.net.now in
    let g = c.requires.gate in
    let low : c.gate_sig-signal.result.0 < count net = subst (λ (s : Sig). s.0 < count net) (sym c.gate_sig-signal.ensures.sig) (omega arith) in
    subst (AreLeavesOf c.args.cases.now) (sym (c.deref.ensures.value ∙ c.in_ok-leaves.ensures))
    (leaves_are net c.args.cases.now (map vec_items c.args.tables.now) c.gate_sig-signal.result c.requires.tables low)

pub choose-requires-clause-leaves : goal.choose-requires-clause-leaves
choose-requires-clause-leaves c =
    let tables = map vec_items c.args.tables.now in
    ap length (c.deref.ensures.value ∙ c.in_ok-leaves.ensures) ∙ length-map tables (λ (table : List Operand). operand_at table c.gate_sig-signal.result) ∙ c.requires.tables.width

pub returns : goal.returns
returns c =
    root_made c.args.base.now.net.now c.args.cases.now (map vec_items c.args.tables.now) c.args.gate c.deref.result.now c.gate_sig-signal.result c.args.added.now.gates.items c.choose.new.added.gates.items c.in_ok-root.root
    (c.deref.ensures.value ∙ c.in_ok-leaves.ensures) c.gate_sig-signal.ensures.sig c.in_ok-root.ensures
