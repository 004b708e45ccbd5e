use Rattle.std.proofs.Common.{◌+◌, List, All, length, ap, subst, sym, ◌∙◌}
use Rattle.std.proofs.lemmas.List.{length-map}
use Rattle.std.proofs.lemmas.Result.{IfOk-weaker}
use Rattle.netlist.specs.Netlists.{count}
use Rattle.case_split.specs.declared.operands.Operand.{Operand}
use Rattle.case_split.specs.Added.{IsAdded}
use Rattle.case_split.specs.Operands.{IsWithin}
use Rattle.case_split.specs.Pins.{operand_on}
use Rattle.case_split.proofs.ChoiceLemmas.{columns_low}
use Rattle.case_split.proofs.PinLemmas.{operands_within}
use Rattle.case_split.proofs.choosing.choose_on.Goals as goal

pub add-requires-clause-within : goal.add-requires-clause-within
add-requires-clause-within c =
    let net = c.args.base.now.net.now in
    subst (All (IsWithin (count net + length c.args.added.now.gates.items))) (sym (c.deref.ensures.value ∙ c.in_ok-operands.ensures))
    (operands_within (count net) (length c.args.added.now.gates.items) c.args.cases.now c.args.firsts.now c.args.pins.now c.args.leaves.now c.requires.pins
    (columns_low (count net) c.args.cases.now c.requires.columns) c.requires.within)

pub add-requires-clause-counted : goal.add-requires-clause-counted
add-requires-clause-counted c =
    ap length (c.deref.ensures.value ∙ c.in_ok-operands.ensures) ∙ length-map c.args.pins.now (operand_on c.args.leaves.now) ∙ c.in_ok-cover.ensures.counted

pub returns : goal.returns
returns c =
    IfOk-weaker c.add.result _ _
    (λ operand is. record {
      firsts = c.args.firsts.now;
      are_firsts = c.requires.firsts;
      pins = c.args.pins.now;
      are_pins = c.requires.pins;
      cover = c.in_ok-cover.cover;
      is = c.in_ok-cover.ensures;
      added = subst (λ (operands : List Operand). IsAdded c.args.base.now.net.now c.in_ok-cover.cover operands c.args.added.now.gates.items c.add.new.self.gates.items operand) (c.deref.ensures.value ∙ c.in_ok-operands.ensures) is;
    })
    c.add.ensures
