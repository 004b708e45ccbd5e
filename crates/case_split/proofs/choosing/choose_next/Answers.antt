use Rattle.std.proofs.Common.{rules, ap, subst, sym, All, ◌+◌, ◌∙◌, ◌++◌, ◌∷◌, [], ◌≡◌, List, length}
use Rattle.std.proofs.lemmas.List.Elements.{All-push}
use Rattle.std.proofs.lemmas.Result.{IfOk-weaker}
use Rattle.netlist.specs.Netlists.{count}
use Rattle.case_split.specs.declared.operands.Operand.{Operand}
use Rattle.case_split.specs.Choices.{IsSelected}
use Rattle.case_split.specs.Operands.{IsWithin}
use Rattle.case_split.proofs.ChoiceLemmas.{chosen_next}
use Rattle.case_split.proofs.choosing.choose_next.Goals as goal

pub choose_by-requires-clause-within : goal.choose_by-requires-clause-within
choose_by-requires-clause-within c =
    let bound = count c.args.base.now.net.now + length c.args.added.now.gates.items in
    let all : c.deref.result.now ≡ c.args.leaves.now ++ c.args.before ∷ [] = c.deref.ensures.value ∙ c.in_ok-push.ensures.items ∙ ap (λ (xs : List Operand). xs ++ c.args.before ∷ []) (c.in_ok-all.ensures.items_if_clones_equal (search rules)) in
    subst (All (IsWithin bound)) (sym all) (All-push (IsWithin bound) c.args.leaves.now c.args.before c.requires.within c.requires.before)

pub returns : goal.returns
returns c =
    let all : c.deref.result.now ≡ c.args.leaves.now ++ c.args.before ∷ [] = c.deref.ensures.value ∙ c.in_ok-push.ensures.items ∙ ap (λ (xs : List Operand). xs ++ c.args.before ∷ []) (c.in_ok-all.ensures.items_if_clones_equal (search rules)) in
    IfOk-weaker c.choose_by.result _ _
    (λ operand is. chosen_next c.args.base.now.net.now c.args.cases.now c.args.leaves.now c.args.before c.args.added.now.gates.items c.choose_by.new.added.gates.items operand c.requires.possible c.requires.leaves
    (subst (λ (os : List Operand). IsSelected c.args.base.now.net.now c.args.cases.now os c.args.added.now.gates.items c.choose_by.new.added.gates.items operand) all is))
    c.choose_by.ensures
