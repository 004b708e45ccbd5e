use Rattle.std.proofs.Common.{◌≡◌, All, false, true≢false, refl, subst, sym, ◌∙◌, arith}
use Rattle.std.proofs.lemmas.List.{take_all}
use Rattle.std.proofs.lemmas.List.Elements.{All-more}
use Rattle.case_split.specs.declared.cases.ColumnValue.{ColumnValue}
use Rattle.case_split.specs.Cubes.{asked_of, literal_of}
use Rattle.case_split.proofs.cubes.is_cube.Goals as goal

abbrev none : ColumnValue
none = record { column = 0; value = false }

pub loop-literal-preserved : goal.loop-literal-preserved
loop-literal-preserved c =
    All-more (λ literal. asked_of c.args.cube.now literal.column ≡ literal_of literal.value) c.args.cube.now c.loop-literal.literal-index none c.loop-literal-test.true c.loop-literal.invariant
    (sym c.asked_of.ensures ∙ grind (arith, c.ne.ensures, c.if-ne.false) ∙ c.literal_of.ensures)

pub returns-then-ne : goal.returns-then-ne
returns-then-ne c = (λ e. absurd (true≢false (sym e)), λ cube. grind (arith, c.ne.ensures, c.if-ne.true, c.asked_of.ensures, c.literal_of.ensures, cube c.loop-literal.literal-index none c.loop-literal-test.true))

pub returns : goal.returns
returns c = (
  λ e. subst (All (λ literal. asked_of c.args.cube.now literal.column ≡ literal_of literal.value)) (take_all c.loop-literal.literal-index c.args.cube.now c.loop-literal-test.false) c.loop-literal.invariant,
  λ cube. refl,
)
