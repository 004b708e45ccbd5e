use Rattle.std.proofs.Common.{◌+◌, ◌*◌, length}
use Rattle.fixpoint.proofs.Common.{All, IsWide, loops_by, values_under, RootsStay, AreKeptSteps, HasSolvedTo, IsWorking, below_cost}
use Rattle.fixpoint.proofs.BlockLemmas.{HasLoopsBelow}
use Rattle.fixpoint.proofs.KeptLemmas.{HasAdded}
use Rattle.fixpoint.proofs.solving.solve_blocks.Given as goal

abbrev pub invariant-loop-place : goal.invariant-loop-place
invariant-loop-place l = record {
  roots : RootsStay l.fn.d l.d;
  adds : HasAdded l.fn.d l.d (IsWide l.fn.d.vars (IsWorking l.looped.net (loops_by l.looped.blocks l.looped.cut) (values_under l.fn.d l.given))) (2 * ((length l.looped.net.gates + 1) * below_cost l.looped.net l.looped.blocks l.place));
  solved : HasSolvedTo l.looped l.d l.given l.place l.progress;
  loops : HasLoopsBelow l.looped.blocks l.place l.loops.items;
  steps : All (AreKeptSteps l.looped.net l.looped.blocks l.looped.cut l.d (values_under l.d l.given)) l.loops.items;
}
