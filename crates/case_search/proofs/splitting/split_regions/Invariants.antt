use Rattle.std.specs.Prelude.{IfSome}
use Rattle.case_search.specs.Splits.{IsSplitOf}
use Rattle.case_search.proofs.splitting.split_regions.Given as goal

abbrev pub invariant-loop-region : goal.invariant-loop-region
invariant-loop-region l = IfSome l.made (IsSplitOf l.net l.care)
