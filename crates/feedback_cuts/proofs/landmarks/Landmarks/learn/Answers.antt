-- The gate that is chosen is one that the search has found.
use Rattle.std.proofs.Common.{arith, Contains}
use Rattle.feedback_cuts.proofs.landmarks.Landmarks.learn.Goals as goal
use Rattle.feedback_cuts.proofs.landmarks.Landmarks.learn.Goals.{After-index}

is_found : (c : After-index) → Contains c.args.search.now.found.items c.index.result.now
is_found c = grind arith

pub landmark_at-requires-clause-gate : goal.landmark_at-requires-clause-gate
landmark_at-requires-clause-gate c = c.requires.within c.index.result.now (is_found (goal.at.landmark_at-requires-clause-gate c).After-index)

pub landmark_at-requires-clause-back : goal.landmark_at-requires-clause-back
landmark_at-requires-clause-back c = c.requires.back c.index.result.now (is_found (goal.at.landmark_at-requires-clause-back c).After-index)
