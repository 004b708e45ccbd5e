-- Gates that are settled by themselves: whatever Boolean values the wires have that they read from outside.
use Rattle.std.specs.Prelude.{◌≡◌, ◌≢◌, ◌<◌, ℕ, Bool, List, length}
use Rattle.cyc_base.specs.declared.sig.Sig.{Sig}
use Rattle.cyc_base.specs.declared.trit.Trit.TheVariants.{X}
use Rattle.cyc_base.specs.Values.{bits}
use Rattle.netlist.specs.declared.parts.Parts.{Parts}
use Rattle.netlist.specs.Netlists.{IsNetlist}
use Rattle.netlist.specs.Fixpoint.{fix_gates}
use Rattle.loops.specs.Found.{loops_of}
use Rattle.loops.specs.Sweeps.{first_gate, value_in, CutsAreFixed}
use Rattle.isolation.specs.Excerpts.{AreRead, IsExcerpt}

-- no gate is X at any Boolean vector
abbrev pub IsDetermined : Parts → Type 0
IsDetermined net = (u : List Bool) → length u ≡ first_gate net → (n : ℕ) → n < length net.gates →
    value_in (fix_gates net (bits u)) n ≢ X

-- after k sweeps each loop's cut wires stand at the fixpoint, at each Boolean vector
abbrev pub AreFixedAfter : ℕ → Parts → Type 0
AreFixedAfter k net = (u : List Bool) → length u ≡ first_gate net → (n : ℕ) → n < length net.gates →
    CutsAreFixed net (loops_of net) (bits u) n k

-- no gate of these is X, whatever Boolean values the wires have that they read from outside
pub record SettleAlone (net : Parts) (gates : List ℕ) : Type 0 where
  pub outside : List Sig
  pub small : Parts
  pub valid : IsNetlist small
  pub is : IsExcerpt net outside gates small
  pub read : AreRead net gates outside
  pub determined : IsDetermined small

-- and k sweeps are enough for their loops
pub record SettleInSweeps (net : Parts) (gates : List ℕ) (k : ℕ) : Type 0 where
  pub alone : SettleAlone net gates
  pub sweeps : AreFixedAfter k alone.small
