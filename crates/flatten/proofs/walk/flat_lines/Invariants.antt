use Rattle.std.proofs.Common.{◌+◌, ◌*◌, length}
use Rattle.flatten.proofs.Common.{mark_of, model_at, flat_lines}
use Rattle.flatten.specs.Levels.{WalkingAt}
use Rattle.flatten.specs.Printable.{IsPrinted}
use Rattle.flatten.proofs.walk.flat_lines.Given as goal

abbrev pub invariant-loop-level : goal.invariant-loop-level
invariant-loop-level l = record {
  walks : WalkingAt l.hierarchy.depth l.hierarchy.models (model_at l.hierarchy.models l.top).name (mark_of l.hierarchy.models) (flat_lines l.hierarchy.depth l.limit l.hierarchy.models l.top) l.walk;
  printed : IsPrinted l.walk;
}

abbrev pub decreases-loop-level : goal.decreases-loop-level
decreases-loop-level l = l.walk.room * 2 + length l.walk.levels.items
