-- What is decided, and what comes of it: values that carry what holds of them.
use Rattle.std.specs.Prelude.{◌≡◌, ◌≤◌, ℕ, Some}
use Rattle.care_sets.specs.Binding.{IsCareOf}
use Rattle.care_sets.specs.Care.{CareSet}
use Rattle.cyc_base.specs.declared.limits.TheConstants.{MAX_NODES}
use Rattle.loops.specs.Looped.{Looped}
use Rattle.loops.specs.declared.structure.SweepCounts.{SweepCounts}
use Rattle.netlist.specs.Netlists.{IsNetlist, columns}
use Rattle.refusals.specs.Refusals.{refusal as refusal_of}
use Rattle.refusals.specs.declared.observe.Observe.{Observe}
use Rattle.refusals.specs.declared.refusal.Refusal.{Refusal}
use Rattle.rewriting.specs.Graphs.{most_columns}
use Rattle.unroll.specs.Counted.{Counted, with_sweeps}
use Rattle.verdict.specs.Verdicts.{IsAcceptance, IsVerdict}
use Rattle.verdict.specs.declared.verdict.Verdict.{Verdict}
use Rattle.plain_commands.specs.Plans.{Decision}

-- a netlist with its loops, to be decided on its care set with at most so many nodes, where these wires are observed
pub record Problem : Type 0 where
  pub looped : Looped
  pub care : CareSet
  pub limit : ℕ
  pub observe : Observe

abbrev pub decision_in : Problem → Decision
decision_in p = record { net = p.looped.net; care = p.care; limit = p.limit; observe = p.observe }

-- The care set is the netlist's, the netlist is small enough for a graph, and the limit is one that a user may set.
pub record CanBeDecided (p : Problem) : Type 0 where
  pub valid : IsNetlist p.looped.net
  pub columns : columns p.looped.net ≤ most_columns
  pub care : IsCareOf p.looped.net p.care
  pub limit : p.limit ≤ MAX_NODES

-- what the decision of a problem answers
abbrev pub IsVerdictOn : Problem → Verdict → Type 0
IsVerdictOn p verdict = IsVerdict p.looped.net p.looped.blocks p.looped.cut p.care p.observe verdict

-- one that is accepted, with the sweeps of its loops, and so many gates that are unknown at some care vector
pub record Acceptance : Type 0 where
  pub problem : Problem
  pub sweeps : SweepCounts
  pub loose : ℕ

abbrev pub counted_in : Acceptance → Counted
counted_in a = with_sweeps a.problem.looped a.sweeps

pub record WasAccepted (a : Acceptance) : Type 0 where
  pub can : CanBeDecided a.problem
  pub is : IsAcceptance a.problem.looped.net a.problem.looped.blocks a.problem.looped.cut a.problem.care a.problem.observe a.sweeps a.loose

-- one that is refused, with the refusal that the definition says
pub record Rejection : Type 0 where
  pub problem : Problem
  pub refusal : Refusal

pub record WasRefused (r : Rejection) : Type 0 where
  pub can : CanBeDecided r.problem
  pub is : refusal_of r.problem.looped.net r.problem.care r.problem.observe ≡ Some r.refusal
