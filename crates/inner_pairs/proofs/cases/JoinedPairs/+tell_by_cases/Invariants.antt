use Rattle.std.proofs.Common.{◌+◌, ◌*◌, length}
use Rattle.inner_pairs.proofs.cases.JoinedPairs.+tell_by_cases.Given as goal

abbrev pub decreases-tell_by_cases : goal.decreases-tell_by_cases
decreases-tell_by_cases l = 2 * length l.columns.now

abbrev pub decreases-tell_case : goal.decreases-tell_case
decreases-tell_case l = 2 * length l.columns.now + 1
