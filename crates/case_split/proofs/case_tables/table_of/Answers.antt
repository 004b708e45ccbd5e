use Rattle.std.proofs.Common.{true≢false, sym, subst, ◌∙◌, rules}
use Rattle.std.proofs.lemmas.Result.{IfOk-weaker}
use Rattle.case_split.specs.CaseTables.{IsBelowCase}
use Rattle.case_split.specs.Cubes.{IsCube}
use Rattle.case_split.proofs.CaseLemmas.{possible_entry, impossible_entry}
use Rattle.case_split.proofs.case_tables.table_of.Goals as goal

pub returns-then-not-is_cube : goal.returns-then-not-is_cube
returns-then-not-is_cube c =
    IfOk-weaker c.vec.result _ _
    (λ none is. impossible_entry c.args.base.now.net.now c.args.base.now.copied.now c.args.case.now c.args.added.now.gates.items none.items c.count.result
    (λ h. true≢false (sym (c.is_cube.ensures.1 (subst IsCube (sym c.deref.ensures.value) h)) ∙ c.if-not-is_cube.true))
    c.count.ensures.count (is (search rules)) c.requires.new)
    c.vec.ensures.items_if_clones_equal

pub returns : goal.returns
returns c =
    IfOk-weaker c.table_at.result _ _
    (λ table step. possible_entry c.args.base.now.net.now c.args.base.now.copied.now c.args.case.now c.deref-2.result.now c.args.added.now.gates.items c.table_at.new.added.gates.items table.items
    (subst IsCube c.deref.ensures.value (c.is_cube.ensures.0 c.if-not-is_cube.false))
    (subst (IsBelowCase c.args.base.now.net.now c.args.case.now) (sym c.deref-2.ensures.value) c.in_ok-given.ensures.below) step)
    c.table_at.ensures
