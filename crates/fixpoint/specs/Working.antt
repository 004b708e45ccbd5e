-- The functions of a vector that `solve` works with, and what the gates of a netlist cost.
use Rattle.std.specs.Prelude.{◌≡◌, ◌==◌, ◌<◌, ◌≤◌, ◌+◌, ◌⊎◌, ℕ, nat_lt, zero, suc, Bool, true, false, if◌then◌else◌, List, ◌++◌, length, map, drop}
use Rattle.std.specs.List.{sum_by}
use Rattle.bdd_store.specs.Subfunctions.{Alike}
use Rattle.cyc_base.specs.declared.trit.Trit.{Trit}
use Rattle.cover_logic.specs.Covers.{value}
use Rattle.cover_logic.specs.Extensions.{exact}
use Rattle.dual_rail.specs.Local.{size}
use Rattle.dual_rail.specs.WorkingLists.{IsWide, is_bit}
use Rattle.netlist.specs.declared.parts.Parts.{Parts}
use Rattle.netlist.specs.Fixpoint.{wire, fix}
use Rattle.netlist.specs.Netlists.{gate_at}
use Rattle.loops.specs.declared.structure.Blocks.{Blocks}
use Rattle.loops.specs.Blocks.{home_of}
use Rattle.loops.specs.Cuts.{Loops, loops_by}
use Rattle.loops.specs.Looped.{Looped}
use Rattle.loops.specs.Sweeps.{first_gate, value_in, pin_in, sweeps, cuts_of}
use Rattle.fixpoint.specs.Solved.{Vectors}

-- the values that the pins of gate n read in the sweep after k sweeps of its loop, and at the fixpoint
abbrev pub read_in_sweep : Parts → Loops → List Trit → ℕ → ℕ → List Trit
read_in_sweep net loops v k n = map (pin_in net loops v (sweeps net loops v k) (sweeps net loops v (suc k)) n) (gate_at net n).pins

abbrev pub read_at_fix : Parts → List Trit → ℕ → List Trit
read_at_fix net v n = map (wire (fix net v)) (gate_at net n).pins

-- what a gate of a loop reads, after at most as many sweeps as the loop has cut wires
pub record IsReadInSweep (net : Parts) (loops : Loops) (v : Vectors) (gate : ℕ) (read : List Bool → List Trit) : Type 0 where
  pub looped : loops.same gate gate ≡ true
  pub sweep : ℕ
  pub few : sweep ≤ length (cuts_of net loops gate)
  pub is : (bits : List Bool) → read bits ≡ read_in_sweep net loops (v bits) sweep gate

-- what any other gate reads
pub record IsReadAtFix (net : Parts) (loops : Loops) (v : Vectors) (gate : ℕ) (read : List Bool → List Trit) : Type 0 where
  pub plain : loops.same gate gate ≡ false
  pub is : (bits : List Bool) → read bits ≡ read_at_fix net (v bits) gate

-- the function says that the value of an input or latch is 1, or that it is 0: it is one of the given rails
pub record IsGivenRail (net : Parts) (v : Vectors) (g : List Bool → Bool) : Type 0 where
  pub signal : ℕ
  pub within : signal < first_gate net
  pub bit : Bool
  pub same : (bits : List Bool) → g bits ≡ is_bit bit (value_in (v bits) signal)

-- the function says that the extension of a gate's cover, with some first pins fixed, is 1, or that it is 0, on what
-- the gate's other pins read
pub record IsGatePart (net : Parts) (loops : Loops) (v : Vectors) (g : List Bool → Bool) : Type 0 where
  pub gate : ℕ
  pub within : gate < length net.gates
  pub first : List Bool
  pub short : length first ≤ length (gate_at net gate).pins
  pub bit : Bool
  pub read : List Bool → List Trit
  pub reads : IsReadInSweep net loops v gate read ⊎ IsReadAtFix net loops v gate read
  pub same : (bits : List Bool) → g bits ≡ is_bit bit (exact (λ rest. value (gate_at net gate).cover (first ++ rest)) (drop (length first) (read bits)))

-- the working list of a netlist on the given rails
abbrev pub IsWorking : Parts → Loops → Vectors → (List Bool → Bool) → Type 0
IsWorking net loops v g = IsGivenRail net v g ⊎ IsGatePart net loops v g

-- w is as wide as the working list of a netlist with its loops asks
abbrev pub IsWidth : ℕ → Looped → Vectors → ℕ → Type 0
IsWidth vars looped v = IsWide vars (IsWorking looped.net (loops_by looped.blocks looped.cut) v)

-- a function of this kind has the values of g at each list of so many bits
pub record HasAlike (vars : ℕ) (Kind : (List Bool → Bool) → Type 0) (g : List Bool → Bool) : Type 0 where
  pub of : List Bool → Bool
  pub is : Kind of
  pub alike : Alike vars g of

-- a netlist without loops has these
abbrev pub no_loops : Loops
no_loops = record { same = λ a b. false; cut = λ n. false }

-- the sizes of the covers, and one for each gate
abbrev pub effort : Parts → ℕ
effort net = sum_by (λ gate. size gate.cover + 1) net.gates

-- a gate's cover has more nodes than the limit
pub record HasLargeCover (net : Parts) (limit : ℕ) : Type 0 where
  pub gate : ℕ
  pub within : gate < length net.gates
  pub over : limit < size (gate_at net gate).cover

-- what one gate costs, what those of an order do, and what the gates of a kind do
abbrev pub cost : Parts → ℕ → ℕ
cost net n = size (gate_at net n).cover + 1

abbrev pub order_cost : Parts → List ℕ → ℕ
order_cost net order = sum_by (cost net) order

abbrev pub total : (ℕ → Bool) → (ℕ → ℕ) → ℕ → ℕ
total kind f zero = 0
total kind f (suc n) = total kind f n + (if kind n then f n else 0)

abbrev pub block_cost : Parts → Blocks → ℕ → ℕ
block_cost net blocks b = total (λ n. home_of blocks n == b) (cost net) (length net.gates)

abbrev pub below_cost : Parts → Blocks → ℕ → ℕ
below_cost net blocks b = total (λ n. nat_lt (home_of blocks n) b) (cost net) (length net.gates)
