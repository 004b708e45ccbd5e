-- Why gates aren't seen to be settled by themselves.
use Rattle.std.specs.Prelude.{◌≡◌, ◌<◌, ◌+◌, ◌*◌, ◌⊎◌, ℕ, Bool, List, length}
use Rattle.cyc_base.specs.declared.sig.Sig.{Sig}
use Rattle.cyc_base.specs.declared.trit.Trit.TheVariants.{X}
use Rattle.cyc_base.specs.Values.{bits}
use Rattle.dual_rail.specs.WorkingLists.{IsWide}
use Rattle.netlist.specs.declared.parts.Parts.{Parts}
use Rattle.netlist.specs.Netlists.{IsNetlist}
use Rattle.netlist.specs.Fixpoint.{fix_gates}
use Rattle.loops.specs.Found.{loops_of}
use Rattle.loops.specs.Sweeps.{first_gate, value_in}
use Rattle.fixpoint.specs.Orders.{laid}
use Rattle.fixpoint.specs.Working.{IsWorking, effort}
use Rattle.isolation.specs.Excerpts.{AreOnce, AreRead, IsExcerpt}

-- a gate is X at a Boolean vector
pub record HasUnknown (net : Parts) : Type 0 where
  pub vector : List Bool
  pub width : length vector ≡ first_gate net
  pub gate : ℕ
  pub within : gate < length net.gates
  pub unknown : value_in (fix_gates net (bits vector)) gate ≡ X

-- a function that the solution of a netlist works with, with the columns laid on the variables of diagrams
pub record IsLaid (net : Parts) (g : List Bool → Bool) : Type 0 where
  pub of : List Bool → Bool
  pub is : IsWorking net (loops_of net) bits of
  pub same : (u : List Bool) → length u ≡ first_gate net → g (laid net u) ≡ of u

-- So many nodes are enough to settle a netlist: w is at least the number of subfunctions of each Boolean combination of
-- at most three functions that its solution works with.
abbrev pub enough : Parts → ℕ → ℕ
enough net w = 16 * w * (length net.gates + 2) * (effort net + first_gate net + 4)

-- a number of nodes is below that, whatever w is
pub record IsBelowEnough (net : Parts) (budget : ℕ) : Type 0 where
  pub below : (w : ℕ) → IsWide (first_gate net) (IsLaid net) w → budget < enough net w

-- The gates as a netlist, whose inputs are just the wires outside that they read, each once: one of them is X at a Boolean
-- vector of these, or the budget is below what is enough.
pub record AreUnsettled (net : Parts) (gates : List ℕ) (budget : ℕ) : Type 0 where
  pub outside : List Sig
  pub small : Parts
  pub valid : IsNetlist small
  pub is : IsExcerpt net outside gates small
  pub read : AreRead net gates outside
  pub once : AreOnce outside
  pub shown : HasUnknown small ⊎ IsBelowEnough small budget
