-- What is proved of the rewritten netlist.
use Rattle.std.proofs.Common.{◌≡◌, ℕ, ◌+◌, ◌≤◌, true, Bool, List, length, ap, ◌∙◌, arith}
use Rattle.std.proofs.lemmas.List.{length-map}
use Rattle.cyc_base.specs.declared.limits.TheConstants.{MAX_REWRITTEN_ITEMS}
use Rattle.cyc_base.specs.Values.{bits}
use Rattle.netlist.specs.declared.parts.Parts.{Parts}
use Rattle.netlist.specs.Netlists.{IsNetlist}
use Rattle.loops.specs.declared.structure.Blocks.{Blocks}
use Rattle.loops.specs.declared.structure.Cut.{Cut}
use Rattle.loops.specs.declared.structure.SweepCounts.{SweepCounts}
use Rattle.loops.specs.Blocks.{AreBlocksOf}
use Rattle.loops.specs.Cuts.{IsCutOf, Loops, loops_by, in_one_loop}
use Rattle.loops.specs.Found.{loops_of}
use Rattle.loops.proofs.Counts.{count_is_of_loops}
use Rattle.loops.proofs.Existence.{loops_exist}
use Rattle.fixpoint.proofs.ToldLemmas.{loops-are}
use Rattle.care_sets.specs.Care.{CareSet, IsCareVector}
use Rattle.refusals.proofs.RefusalLemmas.{length-bits}
use Rattle.refusals.proofs.ShowingLemmas.{care_vector_is}
use Rattle.schedules.specs.Settling.{HasSameInterface}
use Rattle.schedules.specs.Accepted.{TellsAsMuch}
use Rattle.schedules.proofs.SameLemmas.{same_by_fixpoints}
use Rattle.refusals.specs.declared.observe.Observe.{Observe}
use Rattle.refusals.specs.Acceptance.{Accepts}
use Rattle.blif_write.specs.Laws.{HasCovers}
use Rattle.blif_write.proofs.ReadingBack.{reads_back}
use Rattle.unroll.specs.Laws.{AreEnough}
use Rattle.unroll.specs.Unrolled.{sweeps_of, unrolled, unrolled_size, shift, kept_latch, IsOfLoops}
use Rattle.unroll.proofs.Opened.{unrolled_is_loop_free}
use Rattle.unroll.proofs.Telling.{unrolled_has_its_size, unrolled_keeps_interface, unrolled_tells_as_much}
use Rattle.loop_simulation.specs.Sweeping.{are_care_values, AreSweepsOnCare, sweeps_needed}
use Rattle.loop_simulation.proofs.NeededLemmas.{needed_is_least, care-values, counts_are_needed}
use Rattle.rewriting.specs.Rewriting.{rewritten, rewritten_size, IsRewriting}
use Rattle.rewriting.specs.Laws.{RewrittenIsLoopFree, RewrittenHasItsSize, RewrittenShowsTheSame}
use Rattle.rewriting.proofs.AgreeLemmas.{netlists_agree, sizes_agree}
use Rattle.rewriting.proofs.CoverLemmas.{unrolled_has_covers}

needed_is_of_loops : (net : Parts) (care : CareSet) → IsOfLoops (loops_of net) (sweeps_needed net care)
needed_is_of_loops net care = grind (arith, count_is_of_loops net (loops_of net) (loops_exist net) (are_care_values net care) (sweeps_needed net care), loops_exist net, needed_is_least net care)

pub rewritten_is_loop_free : RewrittenIsLoopFree
rewritten_is_loop_free net care = unrolled_is_loop_free net (loops_of net) (loops_exist net) (sweeps_needed net care) (needed_is_of_loops net care)

pub rewritten_has_its_size : RewrittenHasItsSize
rewritten_has_its_size net care = unrolled_has_its_size net (loops_of net) (loops_exist net) (sweeps_needed net care) (needed_is_of_loops net care)

-- its latches are those of the netlist
pub rewritten_latches : (net : Parts) (care : CareSet) → length (rewritten net care).latches ≡ length net.latches
rewritten_latches net care = length-map net.latches (kept_latch net (shift net (loops_of net) (sweeps_needed net care)))

pub same_interface : (net : Parts) (care : CareSet) → HasSameInterface net (rewritten net care)
same_interface net care = grind (arith, unrolled_keeps_interface net (loops_of net) (loops_exist net) (sweeps_needed net care) (needed_is_of_loops net care), loops_exist net, needed_is_of_loops net care)

enough_on_care : (net : Parts) (care : CareSet) (v : List Bool) → IsCareVector net care v → AreEnough net (loops_of net) (sweeps_needed net care) (bits v)
enough_on_care net care v counts = grind (arith, length-bits v, needed_is_least net care, care-values net care v counts.width (care_vector_is net care v counts))

pub tells_as_much : (net : Parts) (care : CareSet) → TellsAsMuch net (rewritten net care) care
tells_as_much net care = grind (arith, unrolled_tells_as_much net (loops_of net) (loops_exist net) (sweeps_needed net care) (needed_is_of_loops net care), loops_exist net, needed_is_of_loops net care, enough_on_care net care)

pub rewritten_shows_the_same : RewrittenShowsTheSame
rewritten_shows_the_same net care what valid accepts = grind (arith, same_by_fixpoints net (rewritten net care) care what valid accepts (same_interface net care) (tells_as_much net care), same_interface net care, tells_as_much net care)

-- what a user has of it
pub is_rewriting : (net : Parts) (care : CareSet) (what : Observe) (other : Parts) → IsNetlist net → HasCovers net → Accepts net care what →
    other ≡ rewritten net care → IsNetlist other → rewritten_size net care ≤ MAX_REWRITTEN_ITEMS → IsRewriting net care other
is_rewriting net care what other valid have accepts is other_valid small = record {
  is = is;
  form = record {
    loop_free = rw is (rewritten_is_loop_free net care);
    reads_back = reads_back other other_valid (rw is (unrolled_has_covers net (loops_of net) (sweeps_needed net care) have)) fits;
    tells = rw is (tells_as_much net care);
    same = rw is (rewritten_shows_the_same net care what valid accepts);
  };
}
  where
    fits : length other.latches + length other.gates ≤ MAX_REWRITTEN_ITEMS
    fits = rw is (omega (arith, small, rewritten_has_its_size net care))

-- ---- by blocks, a cut and counted sweeps

module _ (net : Parts) (blocks : Blocks) (cut : Cut) (care : CareSet) (counts : SweepCounts) (are : AreBlocksOf net blocks) (cut_is : IsCutOf net cut) (on_care : AreSweepsOnCare net blocks cut care counts) where
  loops : loops_by blocks cut ≡ loops_of net
  loops = loops-are net blocks cut are cut_is

  needed : (n : ℕ) → (loops_of net).same n n ≡ true → sweeps_of blocks counts n ≡ sweeps_needed net care n
  needed = counts_are_needed net blocks cut care counts are cut_is on_care

  pub unrolled_is_rewritten : unrolled net (loops_by blocks cut) (sweeps_of blocks counts) ≡ rewritten net care
  unrolled_is_rewritten =
      ap (λ (l : Loops). unrolled net l (sweeps_of blocks counts)) loops
      ∙ netlists_agree net (loops_of net) (loops_exist net) (sweeps_of blocks counts) (sweeps_needed net care) needed

  pub size_is_rewritten : unrolled_size net (in_one_loop blocks) (sweeps_of blocks counts) ≡ rewritten_size net care
  size_is_rewritten = grind (arith, loops, sizes_agree net (loops_of net) (loops_exist net) (sweeps_of blocks counts) (sweeps_needed net care) needed, loops_exist net, needed)
