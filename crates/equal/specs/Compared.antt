-- What is compared: two netlists whose names match.
use Rattle.std.specs.Prelude.{◌≡◌, ◌+◌, ◌≤◌, ◌⊎◌, ℕ, suc, Bool, None, Option, Err, Result, IfOk, IfErr, List, [], length}
use Rattle.bdd_store.specs.Arena.{Arena}
use Rattle.cyc_base.specs.declared.limits.TheConstants.{MAX_NODES}
use Rattle.netlist.specs.declared.parts.Parts.{Parts}
use Rattle.netlist.specs.Netlists.{IsNetlist, count}
use Rattle.fixpoint.specs.Orders.{order}
use Rattle.care_sets.specs.Binding.{IsCareOf}
use Rattle.care_sets.specs.Care.{CareSet}
use Rattle.diagram_decision.specs.Causes.{IsOutOfNodes}
use Rattle.equal.specs.Comparisons.{IsBelowEnoughFor}
use Rattle.netlist.specs.declared.pair.Pair.{Pair}
use Rattle.miters.specs.declared.answer.Answer.{Answer}
use Rattle.equal.specs.declared.fault.EqualFault.{EqualFault}
use Rattle.equal.specs.declared.fault.EqualFault.TheVariants.{Memory, NodeLimit}
use Rattle.equal.specs.Bounds.{IsBelowEnoughForBoth, IsOutOfNodesForBoth}
use Rattle.miters.specs.Differences.{columns_by_name, comparison, difference, AreAccepted, HaveOneSource}
use Rattle.miters.specs.Joined.{joined, joined_pairs}
use Rattle.miters.specs.Matching.{unmatched}

-- two netlists, each with its care set, and how many nodes diagrams may have
pub record Matched : Type 0 where
  pub a : Parts
  pub b : Parts
  pub care_a : CareSet
  pub care_b : CareSet
  pub limit : ℕ

abbrev pub matched_netlists : Parts → Parts → CareSet → CareSet → ℕ → Matched
matched_netlists a b care_a care_b limit = record { a = a; b = b; care_a = care_a; care_b = care_b; limit = limit }

-- their names match, and their care sets are bound from the same models
pub record AreMatched (m : Matched) : Type 0 where
  pub valid_a : IsNetlist m.a
  pub valid_b : IsNetlist m.b
  pub names : unmatched m.a m.b ≡ None
  pub first : IsCareOf m.a m.care_a
  pub second : IsCareOf m.b m.care_b
  pub source : HaveOneSource m.care_a m.care_b
  pub most : m.limit ≤ MAX_NODES

-- what a comparison comes to, and what its node limit rests on
pub record Compares (m : Matched) (d : Arena) (result : Result Answer EqualFault) : Type 0 where
  pub answer : IfOk result (λ answer. answer ≡ comparison m.a m.care_a m.b m.care_b)
  pub fault : IfErr result (λ fault. (fault ≡ Memory) ⊎ (fault ≡ NodeLimit m.limit))
  pub cause : result ≡ Err (NodeLimit m.limit) → IsOutOfNodesForBoth d m.a m.care_a m.b m.limit
  pub below : result ≡ Err (NodeLimit m.limit) → IsBelowEnoughForBoth m.a m.care_a m.b m.care_b m.limit

-- two netlists that are accepted, and the care set of the first
pub record Accepted : Type 0 where
  pub a : Parts
  pub b : Parts
  pub care : CareSet

abbrev pub accepted_netlists : Parts → Parts → CareSet → Accepted
accepted_netlists a b care = record { a = a; b = b; care = care }

-- Their names match, the columns and the pairs are theirs, and there are numbers for all signals of their miter.
pub record AreJoinedBy (columns : List ℕ) (pairs : List Pair) (m : Accepted) : Type 0 where
  pub valid_a : IsNetlist m.a
  pub valid_b : IsNetlist m.b
  pub names : unmatched m.a m.b ≡ None
  pub care_is : IsCareOf m.a m.care
  pub are_accepted : AreAccepted m.a m.b m.care
  pub columns_are : columns ≡ columns_by_name m.a m.b
  pub pairs_are : pairs ≡ joined_pairs m.a m.b
  pub fits : count m.a + suc (length m.b.gates + length pairs) ≤ 4294967294

-- what the search for the least vector on which they differ comes to, and what its node limit rests on
pub record FindsLeast (m : Accepted) (limit : ℕ) (d : Arena) (result : Result (Option (List Bool)) EqualFault) : Type 0 where
  pub found : IfOk result (λ found. found ≡ difference m.a m.b m.care)
  pub fault : IfErr result (λ fault. (fault ≡ Memory) ⊎ (fault ≡ NodeLimit limit))
  pub cause : result ≡ Err (NodeLimit limit) → IsOutOfNodes d (joined m.a m.b []) m.care limit
  pub below : result ≡ Err (NodeLimit limit) → IsBelowEnoughFor (order m.a) (joined m.a m.b []) m.care (joined_pairs m.a m.b) limit
