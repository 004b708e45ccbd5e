use Rattle.ternary_clauses.proofs.LawLemmas.{still_is_above_fix, still_is_fix_without_loops}
use Rattle.ternary_clauses.proofs.laws.still_states_are_above.Goals as goal

pub returns-clause-above : goal.returns-clause-above
returns-clause-above c = still_is_above_fix

pub returns-clause-loop_free : goal.returns-clause-loop_free
returns-clause-loop_free c = still_is_fix_without_loops
