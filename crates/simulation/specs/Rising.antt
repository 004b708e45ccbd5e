-- A loop that is settled from all unknown, while the blocks before it stand at the fixpoint.
use Rattle.std.specs.Prelude.{◌≡◌, ◌⊎◌, ◌<◌, ◌+◌, ◌*◌, ◌==◌, ℕ, suc, Bool, true, List, [], ◌∷◌, length, Contains, filter}
use Rattle.cyc_base.specs.declared.sig.Sig.{Sig}
use Rattle.cyc_base.specs.declared.trit.Trit.{Trit}
use Rattle.cyc_base.specs.declared.trit.Trit.TheVariants.{Zero, One, X}
use Rattle.cyc_base.specs.Values.{Below}
use Rattle.netlist.specs.declared.parts.Parts.{Parts}
use Rattle.netlist.specs.Netlists.{gate_at, gate_sig}
use Rattle.netlist.specs.Fixpoint.{wire, fix, gate_value}
use Rattle.loops.specs.Blocks.{home_of}
use Rattle.simulation.specs.declared.plan.Plan.{Plan}
use Rattle.simulation.specs.Plans.{readers_of}
use Rattle.simulation.specs.Stability.{AreKept, AreSettled, is_due, vector_of}

-- The gates of the block at this place tell at most what the fixpoint tells. One that is unknown waits, or
-- its cover gives X too.
pub record IsRising (net : Parts) (plan : Plan) (place : ℕ) (values : List Trit) (due : List Bool) (waiting : List ℕ) : Type 0 where
  pub kept : AreKept net plan.blocks values due
  pub settled : AreSettled net plan.blocks values place
  pub unsettled : is_due due place ≡ true
  pub below : (n : ℕ) → n < length net.gates → home_of plan.blocks n ≡ place → Below (wire values (gate_sig net n)) (wire (fix net (vector_of net values)) (gate_sig net n))
  pub gates : (n : ℕ) → Contains waiting n → n < length net.gates
  pub inside : (n : ℕ) → Contains waiting n → home_of plan.blocks n ≡ place
  pub still : (n : ℕ) → n < length net.gates → home_of plan.blocks n ≡ place → wire values (gate_sig net n) ≡ X →
      Contains waiting n ⊎ (gate_value values (gate_at net n) ≡ X)

-- the readers of a signal that are gates of the block at this place
abbrev pub readers_inside : Plan → ℕ → Sig → List ℕ
readers_inside plan place signal = filter (λ n. home_of plan.blocks n == place) (readers_of plan.readers signal)

-- how many values are unknown
abbrev pub unknown_values : List Trit → ℕ
unknown_values [] = 0
unknown_values (X ∷ values) = suc (unknown_values values)
unknown_values (Zero ∷ values) = unknown_values values
unknown_values (One ∷ values) = unknown_values values

-- how many readers are listed for all signals
abbrev pub count_reads : List (List ℕ) → ℕ
count_reads [] = 0
count_reads (readers ∷ lists) = length readers + count_reads lists

-- the gates that wait, and all that may still come to wait
abbrev pub work_left : Plan → List Trit → List ℕ → ℕ
work_left plan values waiting = unknown_values values * suc (count_reads plan.readers) + length waiting
