use Rattle.care_sets.proofs.CareLemmas.{vectors_serve_assume, states_serve_invariant}
use Rattle.care_sets.proofs.laws.vectors_have_what_models_read.Goals as goal

pub returns-clause-assume : goal.returns-clause-assume
returns-clause-assume c = vectors_serve_assume

pub returns-clause-invariant : goal.returns-clause-invariant
returns-clause-invariant c = states_serve_invariant
