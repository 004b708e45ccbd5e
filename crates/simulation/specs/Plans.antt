-- The order in which a netlist is settled, and which gates read which signals.
use Rattle.std.specs.Prelude.{◌≡◌, ◌<◌, ℕ, List, [], length, slice_index_or, All, Contains}
use Rattle.cyc_base.specs.declared.sig.Sig.{Sig}
use Rattle.netlist.specs.declared.parts.Parts.{Parts}
use Rattle.netlist.specs.Netlists.{IsNetlist, count, gate_at}
use Rattle.loops.specs.Blocks.{AreBlocksOf}
use Rattle.simulation.specs.declared.plan.Plan.{Plan}

-- the gates that are listed for a signal
abbrev pub readers_of : List (List ℕ) → Sig → List ℕ
readers_of readers signal = slice_index_or readers signal.0 []

-- each gate is listed for each signal that it reads
pub record AreReadersOf (net : Parts) (readers : List (List ℕ)) : Type 0 where
  pub signals : length readers ≡ count net
  pub each : (n : ℕ) (s : Sig) → n < length net.gates → Contains (gate_at net n).pins s → Contains (readers_of readers s) n
  pub gates : (s : Sig) → All (λ n. n < length net.gates) (readers_of readers s)

-- the netlist's blocks, each after those that it reads, and the readers of its signals
pub record IsPlanOf (net : Parts) (plan : Plan) : Type 0 where
  pub netlist : IsNetlist net
  pub blocks : AreBlocksOf net plan.blocks
  pub readers : AreReadersOf net plan.readers
