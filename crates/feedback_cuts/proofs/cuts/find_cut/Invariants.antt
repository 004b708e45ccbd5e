use Rattle.feedback_cuts.proofs.Common.{IsCutSearch, IsLoopPin}
use Rattle.feedback_cuts.proofs.CutLemmas.{AreCutsBelow}
use Rattle.feedback_cuts.proofs.cuts.find_cut.Given as goal

abbrev pub invariant-loop-gate : goal.invariant-loop-gate
invariant-loop-gate l = record {
  cut : AreCutsBelow l.net l.gate l.cut.items;
  search : IsCutSearch (IsLoopPin l.net l.blocks) l.cut.items l.gate l.search;
}
