-- Gates that are unknown on care where no observed one is, and the sweeps of loops where there are some.
use Rattle.std.specs.Prelude.{◌≡◌, ◌≢◌, ◌<◌, ℕ, Bool, true, false, None, List, length, Contains, slice_index_or}
use Rattle.cyc_base.specs.declared.trit.Trit.TheVariants.{X}
use Rattle.cyc_base.specs.Values.{bits}
use Rattle.netlist.specs.Netlists.{is_marked}
use Rattle.netlist.specs.declared.parts.Parts.{Parts}
use Rattle.netlist.specs.Fixpoint.{fix_gates}
use Rattle.netlist.specs.Walks.{Feeds}
use Rattle.loops.specs.declared.structure.Blocks.{Blocks}
use Rattle.loops.specs.declared.structure.Cut.{Cut}
use Rattle.loops.specs.Blocks.{block_at}
use Rattle.loops.specs.Cuts.{loops_by}
use Rattle.loops.specs.Sweeps.{IsCountOfSweeps, value_in}
use Rattle.isolation.specs.Excerpts.{gate_in}
use Rattle.care_sets.specs.Care.{CareSet, IsCareVector}
use Rattle.loop_simulation.specs.Known.{AreKnownSomewhere}
use Rattle.refusals.specs.Refusals.{undetermined_refusal}
use Rattle.refusals.specs.declared.observe.Observe.{Observe}
use Rattle.clause_decision.specs.Scopes.{AreKnownOnCare}
use Rattle.refusals.specs.Tests.{is_unknown}
use Rattle.verdict.specs.declared.loose.Unknown.{Unknown}
use Rattle.verdict.specs.declared.loose.Unknown.TheVariants as unknowns
use Rattle.verdict.specs.Unknown.{IsFedByOpen}
use Rattle.loop_simulation.specs.Sweeping.{are_care_values}
use Rattle.diagram_decision.specs.Judgements.{AreLoose}

-- a mark for each gate: those in loops that aren't settled, and in their fanout, have one
pub record AreCandidates (net : Parts) (blocks : Blocks) (settled marks : List Bool) : Type 0 where
  pub width : length marks ≡ length net.gates
  pub each : (n : ℕ) → n < length net.gates → IsFedByOpen net blocks settled n → is_marked marks n ≡ true

-- a mark for each gate, which says whether it is unknown at some care vector
pub record AreUnknownMarks (net : Parts) (care : CareSet) (marks : List Bool) : Type 0 where
  pub width : length marks ≡ length net.gates
  pub each : (n : ℕ) → n < length net.gates → is_unknown net care n ≡ is_marked marks n

-- the gates that are unknown at some care vector: none at all, any, or those with a mark; and some that are known at some
abbrev pub AreUnknown : Parts → CareSet → Unknown → Type 0
AreUnknown net care unknowns.Nowhere = AreKnownOnCare net care
AreUnknown net care (unknowns.Anywhere known) = AreKnownSomewhere net care known.now
AreUnknown net care (unknowns.Marked unknown known) = AreUnknownMarks net care unknown.now × AreKnownSomewhere net care known.now

-- at no care vector is one of these gates unknown, nor one that feeds them
pub record AreKnownAround (net : Parts) (care : CareSet) (gates : List ℕ) : Type 0 where
  pub own : (v : List Bool) → IsCareVector net care v → (n : ℕ) → Contains gates n → value_in (fix_gates net (bits v)) n ≢ X
  pub feeding : (v : List Bool) → IsCareVector net care v → (m n : ℕ) → Contains gates n → Feeds net m n → value_in (fix_gates net (bits v)) m ≢ X

-- no observed gate is unknown on care, and so many others are
pub record IsLooseNumber (net : Parts) (care : CareSet) (what : Observe) (loose : ℕ) : Type 0 where
  pub none : undetermined_refusal net care what ≡ None
  pub number : AreLoose net care loose

-- the number of sweeps that the block at a place needs on care, which is 0 if it is no loop
pub record IsLoopCount (net : Parts) (blocks : Blocks) (cut : Cut) (care : CareSet) (place count : ℕ) : Type 0 where
  pub loops : (block_at blocks place).looped ≡ true → (gate : ℕ) → Contains (block_at blocks place).gates gate → IsCountOfSweeps net (loops_by blocks cut) (are_care_values net care) gate count
  pub others : (block_at blocks place).looped ≡ false → count ≡ 0

-- those of the first n places
pub record AreLoopCounts (net : Parts) (blocks : Blocks) (cut : Cut) (care : CareSet) (n : ℕ) (counts : List ℕ) : Type 0 where
  pub width : length counts ≡ n
  pub each : (place : ℕ) → place < n → IsLoopCount net blocks cut care place (slice_index_or counts place 0)

-- the marks are the others, but for those of these gates
pub record AreWithout (gates : List ℕ) (others marks : List Bool) : Type 0 where
  pub width : length marks ≡ length others
  pub kept : (n : ℕ) → ¬ Contains gates n → is_marked marks n ≡ is_marked others n

-- ---- values that are scattered over the places of a list

-- one of the first k places is this one, and has the value
pub record IsScatteredTo (places : List ℕ) (values : List Bool) (k n : ℕ) : Type 0 where
  pub place : ℕ
  pub early : place < k
  pub is : gate_in places place ≡ n
  pub has : is_marked values place ≡ true

pub record AreScattered (width : ℕ) (places : List ℕ) (values : List Bool) (k : ℕ) (marks : List Bool) : Type 0 where
  pub width_is : length marks ≡ width
  pub from : (n : ℕ) → is_marked marks n ≡ true → IsScatteredTo places values k n
  pub to : (i : ℕ) → i < k → is_marked values i ≡ true → is_marked marks (gate_in places i) ≡ true
