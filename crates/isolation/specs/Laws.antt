-- The laws of loops that are settled by themselves.
use Rattle.std.specs.Prelude.{◌≡◌, ◌≢◌, ◌⊎◌, ◌↔◌, ◌<◌, ◌≤◌, ◌^◌, ℕ, Bool, true, false, List, length, map, Contains}
use Rattle.std.specs.List.{range_with_len}
use Rattle.cyc_base.specs.declared.sig.Sig.{Sig}
use Rattle.cyc_base.specs.declared.trit.Trit.{Trit}
use Rattle.cyc_base.specs.declared.trit.Trit.TheVariants.{X}
use Rattle.cyc_base.specs.Values.{bits}
use Rattle.dual_rail.specs.WorkingLists.{IsWide}
use Rattle.netlist.specs.declared.parts.Parts.{Parts}
use Rattle.netlist.specs.Netlists.{IsNetlist, signal}
use Rattle.netlist.specs.Fixpoint.{fix_gates}
use Rattle.netlist.specs.Walks.{Feeds}
use Rattle.loops.specs.declared.structure.Blocks.{Blocks}
use Rattle.loops.specs.Blocks.{AreBlocksOf, block_at, home_of}
use Rattle.loops.specs.Cuts.{AreLoopsOf, Loops}
use Rattle.loops.specs.Sweeps.{first_gate, value_in, sweeps as sweeps_of, CutsAreFixed, IsCountOfSweeps}
use Rattle.loops.specs.Walks.{IsUpstream}
use Rattle.isolation.specs.Excerpts.{gate_in, inputs_in, AreWhole, IsExcerpt}
use Rattle.isolation.specs.Settled.{SettleAlone, SettleInSweeps}
use Rattle.isolation.specs.Unsettled.{IsLaid}

-- the gate is in a loop
abbrev pub IsLooped : Blocks → ℕ → Type 0
IsLooped blocks n = (block_at blocks (home_of blocks n)).looped ≡ true

-- the loops at places that pass the test are settled by themselves
abbrev pub SettledWhere : Parts → Blocks → (ℕ → Bool) → Type 0
SettledWhere net blocks settled = (b : ℕ) → b < length blocks.list → (block_at blocks b).looped ≡ true → settled b ≡ true →
    SettleAlone net (block_at blocks b).gates

-- where each loop is settled by itself, no gate is X at any Boolean vector
abbrev pub SettledLoopsDetermine : Type 0
SettledLoopsDetermine = (net : Parts) (blocks : Blocks) → IsNetlist net → AreBlocksOf net blocks →
    SettledWhere net blocks (λ b. true) →
    (v : List Bool) → length v ≡ first_gate net → (n : ℕ) → n < length net.gates → value_in (fix_gates net (bits v)) n ≢ X

-- A gate is determined at a Boolean vector where those gates are that lie upstream of it in loops not settled by
-- themselves.
abbrev pub UnsettledLoopsDecide : Type 0
UnsettledLoopsDecide = (net : Parts) (blocks : Blocks) (settled : ℕ → Bool) → IsNetlist net → AreBlocksOf net blocks →
    SettledWhere net blocks settled →
    (v : List Bool) → length v ≡ first_gate net → (n : ℕ) → n < length net.gates →
    ((m : ℕ) → m < length net.gates → IsUpstream net m n → IsLooped blocks m → settled (home_of blocks m) ≡ false →
    value_in (fix_gates net (bits v)) m ≢ X) →
    value_in (fix_gates net (bits v)) n ≢ X

-- a vector of known values, at which none of these gates is X, and none that feeds one of them
pub record AreDeterminedAt (net : Parts) (gates : List ℕ) (v : List Trit) : Type 0 where
  pub width : length v ≡ first_gate net
  pub columns : (k : ℕ) → k < length v → value_in v k ≢ X
  pub own : (n : ℕ) → Contains gates n → value_in (fix_gates net v) n ≢ X
  pub feeding : (m n : ℕ) → Contains gates n → Feeds net m n → value_in (fix_gates net v) m ≢ X

-- A loop that is settled by itself in k sweeps needs at most so many on any vectors at which neither a gate of it nor one
-- that feeds it is X, and where there is such a vector at least one.
abbrev pub SettledLoopsSweep : Type 0
SettledLoopsSweep = (net : Parts) (blocks : Blocks) (loops : Loops) → IsNetlist net → AreBlocksOf net blocks → AreLoopsOf net loops →
    (b k : ℕ) → b < length blocks.list → (block_at blocks b).looped ≡ true → SettleInSweeps net (block_at blocks b).gates k →
    (care : List Trit → Bool) → ((v : List Trit) → care v ≡ true → AreDeterminedAt net (block_at blocks b).gates v) →
    (a m : ℕ) → Contains (block_at blocks b).gates a → IsCountOfSweeps net loops care a m →
    (m ≤ k) × ((v : List Trit) → care v ≡ true → 1 ≤ m)

-- a loop that is settled by itself in one sweep needs just one on any such vectors, where there are some
abbrev pub OneSweepIsExact : Type 0
OneSweepIsExact = (net : Parts) (blocks : Blocks) (loops : Loops) → IsNetlist net → AreBlocksOf net blocks → AreLoopsOf net loops →
    (b : ℕ) → b < length blocks.list → (block_at blocks b).looped ≡ true → SettleInSweeps net (block_at blocks b).gates 1 →
    (care : List Trit → Bool) → ((v : List Trit) → care v ≡ true → AreDeterminedAt net (block_at blocks b).gates v) → (v : List Trit) → care v ≡ true →
    (a : ℕ) → Contains (block_at blocks b).gates a → IsCountOfSweeps net loops care a 1

-- What an excerpt has of the whole, where the vector of the whole gives its inputs their values: the fixpoint, the loops
-- and cut wires, the sweeps, and after which of them cut wires stand at the fixpoint.
pub record Keeps (net : Parts) (outside : List Sig) (gates : List ℕ) (small : Parts) (one two : Loops) (v : List Trit) : Type 0 where
  pub fixpoint : (i : ℕ) → i < length gates →
      value_in (fix_gates small (inputs_in net v outside)) i ≡ value_in (fix_gates net v) (gate_in gates i)
  pub same : (i j : ℕ) → i < length gates → j < length gates → two.same i j ≡ one.same (gate_in gates i) (gate_in gates j)
  pub cut : (i : ℕ) → i < length gates → two.cut i ≡ one.cut (gate_in gates i)
  pub sweeps : (k i : ℕ) → i < length gates →
      value_in (sweeps_of small two (inputs_in net v outside) k) i ≡ value_in (sweeps_of net one v k) (gate_in gates i)
  pub fixed : (k i : ℕ) → i < length gates →
      CutsAreFixed small two (inputs_in net v outside) i k ↔ CutsAreFixed net one v (gate_in gates i) k

-- an excerpt of whole loops keeps all this
abbrev pub ExcerptsKeep : Type 0
ExcerptsKeep = (net : Parts) (outside : List Sig) (gates : List ℕ) (small : Parts) (one two : Loops) →
    IsNetlist small → IsExcerpt net outside gates small → AreWhole net gates → AreLoopsOf net one → AreLoopsOf small two →
    (v : List Trit) → length v ≡ first_gate net → Keeps net outside gates small one two v

-- the signals of the columns, in their order
abbrev pub column_signals : Parts → List Sig
column_signals net = map signal (range_with_len 0 (first_gate net))

-- an excerpt whose wires outside are the columns has the vectors of the whole
abbrev pub ColumnsGiveVectors : Type 0
ColumnsGiveVectors = (net : Parts) (v : List Trit) → length v ≡ first_gate net → inputs_in net v (column_signals net) ≡ v

-- Where an excerpt of whole loops, with the columns as its inputs, has each loop that isn't settled by itself, and no X
-- at a Boolean vector, no gate of the whole is X there.
abbrev pub UnsettledExcerptDecides : Type 0
UnsettledExcerptDecides = (net : Parts) (blocks : Blocks) (settled : ℕ → Bool) (gates : List ℕ) (small : Parts) →
    IsNetlist net → AreBlocksOf net blocks → SettledWhere net blocks settled →
    IsNetlist small → IsExcerpt net (column_signals net) gates small → AreWhole net gates →
    ((m : ℕ) → m < length net.gates → IsLooped blocks m → settled (home_of blocks m) ≡ false → Contains gates m) →
    (v : List Bool) → length v ≡ first_gate net →
    ((i : ℕ) → i < length gates → value_in (fix_gates small (bits v)) i ≢ X) →
    (n : ℕ) → n < length net.gates → value_in (fix_gates net (bits v)) n ≢ X

-- two to the power of the number of columns is wide, so that what is enough to settle a netlist is a number
abbrev pub NetlistsHaveWidths : Type 0
NetlistsHaveWidths = (net : Parts) → IsWide (first_gate net) (IsLaid net) (2 ^ first_gate net)
