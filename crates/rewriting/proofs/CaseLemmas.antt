-- What stands in the place of a netlist that is split by cases stands in the place of the netlist.
use Rattle.std.proofs.Common.{ℕ, ◌∙◌}
use Rattle.netlist.specs.declared.parts.Parts.{Parts}
use Rattle.netlist.specs.Netlists.{IsNetlist}
use Rattle.care_sets.specs.Care.{CareSet}
use Rattle.refusals.specs.declared.observe.Observe.{Observe}
use Rattle.refusals.specs.Acceptance.{Accepts}
use Rattle.schedules.specs.Settling.{HasSameInterface}
use Rattle.schedules.specs.Accepted.{TellsAsMuch}
use Rattle.schedules.proofs.SameLemmas.{same_by_fixpoints}
use Rattle.unroll.specs.Laws.{KeepsInterface}
use Rattle.unroll.specs.Unrolled.{IsUnrollFault}
use Rattle.unroll.specs.declared.fault.UnrollFault.{UnrollFault}
use Rattle.unroll.specs.declared.fault.UnrollFault.TheVariants.{TooLarge, Memory}
use Rattle.case_search.proofs.KeptLemmas.{tells_through}
use Rattle.rewriting.specs.Rewriting.{IsCaseFault, IsLoopFreeForm}

-- a fault of the rewritten netlist is one of rewriting by cases
pub case_fault : (size : ℕ) (fault : UnrollFault) → IsUnrollFault size fault → IsCaseFault size fault
case_fault size (TooLarge answered) is = is
case_fault size Memory is = tt

module _ (net split : Parts) (keeps : KeepsInterface net split) (care : CareSet) (tells : TellsAsMuch net split care) (other : Parts) (form : IsLoopFreeForm split care other) where
  interface_kept : HasSameInterface net other
  interface_kept =
      let same = form.same.interface in
      record {
        inputs = keeps.inputs ∙ same.inputs;
        latches = keeps.latches ∙ same.latches;
        inits = keeps.inits ∙ same.inits;
        outputs = keeps.outputs ∙ same.outputs;
        clock = keeps.clock ∙ same.clock;
      }

  -- what stands in the place of the other one stands in the place of the netlist
  pub form_through : (what : Observe) → IsNetlist net → Accepts net care what → IsLoopFreeForm net care other
  form_through what valid accepts =
      let all = tells_through net split keeps other care tells form.tells in
      record {
        loop_free = form.loop_free;
        reads_back = form.reads_back;
        tells = all;
        same = same_by_fixpoints net other care what valid accepts interface_kept all;
      }
