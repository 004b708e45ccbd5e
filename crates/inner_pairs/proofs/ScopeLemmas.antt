-- A scope of all gates, of none of which it is said that it is never unknown.
use Rattle.std.proofs.Common.{◌≡◌, ℕ, ◌<◌, true, false, Bool, List, length, get_or, All, sym, arith, ◌∙◌, true≢false}
use Rattle.netlist.specs.Netlists.{is_marked}
use Rattle.inner_pairs.proofs.Common.{Parts}
use Rattle.clause_pairs.specs.declared.pairs.Hint.{Hint}
use Rattle.netlist.specs.declared.pair.Pair.{Pair}
use Rattle.clause_decision.specs.declared.scope.Scope.{Scope}
use Rattle.netlist.specs.Pairs.{IsPairOf}
use Rattle.clause_pairs.specs.Apart.{ArePairsIn, IsPairIn}
use Rattle.clause_decision.specs.Scopes.{AreClosed, AreNeverUnknown}

pub all_close : (net : Parts) (marks : List Bool) → ((n : ℕ) → n < length net.gates → is_marked marks n ≡ true) → AreClosed net marks
all_close net marks all m n feeds marked = all m feeds.source

pub none_known : (net : Parts) (marks : List Bool) → ((n : ℕ) → n < length net.gates → is_marked marks n ≡ false) → AreNeverUnknown net marks
none_known net marks none v wide n less marked unknown = true≢false (sym marked ∙ none n less)

module _ (net : Parts) (scope : Scope) (all : (n : ℕ) → n < length net.gates → is_marked scope.gates n ≡ true) where
  pair_in : (pair : Pair) → IsPairOf net pair → IsPairIn net scope pair
  pair_in pair is = grind arith

  -- each pair of wires is in it
  pub pairs_in : (pairs : List Pair) → All (IsPairOf net) pairs → ArePairsIn net scope pairs
  pairs_in pairs are = λ k d less. pair_in (get_or pairs k d) (are k d less)

  pub hints_in : (hints : List Hint) → All (λ hint. IsPairOf net hint.pair) hints → All (λ hint. IsPairIn net scope hint.pair) hints
  hints_in hints are = λ k d less. pair_in (get_or hints k d).pair (are k d less)
