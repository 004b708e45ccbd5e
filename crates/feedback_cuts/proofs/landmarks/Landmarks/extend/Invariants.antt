use Rattle.std.proofs.Common.{length}
use Rattle.feedback_cuts.proofs.Common.{AreLandmarks}
use Rattle.feedback_cuts.proofs.landmarks.Landmarks.extend.Given as goal

abbrev pub invariant-loop-landmark : goal.invariant-loop-landmark
invariant-loop-landmark l = AreLandmarks l.links.readers.now (length l.links.levels.now) l.landmark-items
