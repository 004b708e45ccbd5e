use Rattle.std.proofs.Common.{◌∙◌, false, get_or}
use Rattle.std.proofs.lemmas.List.{length-set}
use Rattle.std.proofs.lemmas.List.Elements.{All-take}
use Rattle.case_split.specs.declared.cases.ColumnValue.{ColumnValue}
use Rattle.case_split.specs.Cases.{Holds}
use Rattle.case_split.proofs.CaseLemmas.{knows_next, knows_before}
use Rattle.case_split.proofs.cases.know.Goals as goal

abbrev none : ColumnValue
none = record { column = 0; value = false }

pub loop-literal-preserved : goal.loop-literal-preserved
loop-literal-preserved c = (
  length-set c.loop-literal.given.items (get_or c.args.values.now c.loop-literal.literal-index none).column c.of.result ∙ c.loop-literal.invariant.0,
  λ v low all.
      knows_next v c.args.values.now c.loop-literal.literal-index none c.loop-literal.given.items c.of.result
      (c.loop-literal.invariant.1 v low (knows_before v c.args.values.now c.loop-literal.literal-index none c.loop-literal-test.true all)) c.loop-literal-test.true all c.of.ensures,
)

pub returns-clause-below : goal.returns-clause-below
returns-clause-below c v low all = c.loop-literal.invariant.1 v low (All-take (Holds v) c.loop-literal.literal-index c.args.values.now all)
