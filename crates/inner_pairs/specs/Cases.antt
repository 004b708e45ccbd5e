-- What is told of pairs of wires where some columns are fixed.
use Rattle.std.specs.Prelude.{◌≡◌, ◌+◌, ◌≤◌, ◌<◌, ℕ, Bool, true, List, [], All, length, if◌then◌else◌}
use Rattle.netlist.specs.declared.parts.Parts.{Parts}
use Rattle.netlist.specs.Netlists.{count, is_marked}
use Rattle.care_sets.specs.Binding.{IsCareOf}
use Rattle.care_sets.specs.Care.{CareSet}
use Rattle.clause_pairs.specs.declared.pairs.Fixed.{Fixed}
use Rattle.netlist.specs.declared.pair.Pair.{Pair}
use Rattle.netlist.specs.Pairs.{IsPairOf}
use Rattle.clause_pairs.specs.Apart.{AreNeverApartIn}
use Rattle.clause_decision.specs.Scopes.{IsScopeOf}
use Rattle.inner_pairs.specs.declared.cases.JoinedPairs.{JoinedPairs}
use Rattle.inner_pairs.specs.declared.cases.PairsTold.{PairsTold}
use Rattle.inner_pairs.specs.declared.cases.PairsTold.TheVariants.{Never, Apart, Open}
use Rattle.miters.specs.Joined.{joined}

-- they are pairs of wires of the joined netlist, with a care set of it and the scope of all its gates
pub record ArePaired (j : JoinedPairs) : Type 0 where
  pub joined_is : j.looped.now.net ≡ joined j.a.now j.b.now []
  pub fits : count j.a.now + length j.b.now.gates ≤ 4294967295
  pub care_is : IsCareOf j.looped.now.net j.care.now
  pub scope_is : IsScopeOf j.looped.now.net j.scope.now
  pub all_marked : (n : ℕ) → n < length j.looped.now.net.gates → is_marked j.scope.now.gates n ≡ true
  pub pairs_are : All (IsPairOf j.looped.now.net) j.pairs.now

-- where it is told that none is apart on the care vectors of a cube, none is
abbrev pub TellsIn : Parts → CareSet → List Fixed → List Pair → PairsTold → Type 0
TellsIn net care cube pairs Never = AreNeverApartIn net care cube pairs
TellsIn net care cube pairs Apart = Unit {0}
TellsIn net care cube pairs Open = Unit {0}

abbrev pub told_by : Bool → PairsTold
told_by never = if never then Never else Open
