-- A literal that says whether two values aren't known and equal.
use Rattle.std.proofs.Common.{◌≡◌, Bool, true, not, List, ◌++◌, length, refl, sym, ◌∙◌, arith}
use Rattle.ternary_clauses.proofs.Common.{Trit, bit, Formula, Rails, holds, IsModel, HasModelFrom, is_one, is_known, Reads, AreRailsOf, value_read, TakesValue, HasNewRails}
use Rattle.ternary_clauses.specs.Apart.{SaysApart}
use Rattle.ternary_clauses.specs.Nodes.{agreed, apart_clauses}
use Rattle.clause_formulas.proofs.GrowthLemmas.{Grows-chain, added-both, added-model, added-grows, model-here, model-after}
use Rattle.ternary_clauses.proofs.NodeCases.{new_values, test_of, test-more, test-reads, every_four-at, alike, alike-same, alike-refl}
use Rattle.ternary_clauses.proofs.NodeLemmas.{apart_of, apart-test, one-bit, known-bit}
use Rattle.ternary_clauses.proofs.ReadingLemmas.{Reads-more, within-more}

apart-holds : (m : List Bool) (here there n : Rails) (t u x : Trit) → Reads m here t → Reads m there u → Reads m n x → holds m (apart_clauses here there n.one) ≡ alike (is_one x) (not (is_known (agreed t u)))
apart-holds m here there n t u x p q r =
    test-reads apart-test m here there n n t u x x p q r r
    ∙ alike-same (test_of apart_of (new_values t) (new_values u) (new_values x) (new_values x)) (alike (is_one x) (not (is_known (agreed t u))))
    (every_four-at (λ t u l x. alike (test_of apart_of (new_values t) (new_values u) (new_values l) (new_values x)) (alike (is_one x) (not (is_known (agreed t u))))) refl t u x x)

module _ (old mid new : Formula) (here there n : Rails) (at_here : AreRailsOf old here) (at_there : AreRailsOf old there) (made : HasNewRails old mid true n)
    (variables : new.variables ≡ mid.variables) (literals : new.literals.items ≡ mid.literals.items ++ apart_clauses here there n.one) where
  apart-extends : (m : List Bool) → length m ≡ old.variables → IsModel m old → HasModelFrom new m
  apart-extends m len h =
      let t = value_read m here in
      let u = value_read m there in
      let x : Bool = not (is_known (agreed (value_read m here) (value_read m there))) in
      let one : TakesValue mid n m (bit x) = made.takes m (bit x) (λ e. sym (known-bit x)) len h in
      let kept : (r : Rails) → AreRailsOf old r → Reads (m ++ one.more) r (value_read m r) = λ r rails. Reads-more m one.more r (value_read m r) (rw len rails.within) (rails.reads m h) in
      let says : holds (m ++ one.more) (apart_clauses here there n.one) ≡ alike (is_one (bit x)) x = apart-holds (m ++ one.more) here there n t u (bit x) (kept here at_here) (kept there at_there) one.reads in
      grind (arith, model-after new m one.more, model-here new (m ++ one.more), added-model mid new (apart_clauses here there n.one) made.grows.formula literals (m ++ one.more) one.model, alike, one-bit x, alike-refl x)

  pub apart-says : SaysApart old new here there n.one
  apart-says = record {
    grows = Grows-chain made.grows (added-grows mid new (apart_clauses here there n.one) made.grows.formula literals (omega (arith, variables)) (apart-test.whole here there n n) (λ m more long.
        test-more apart-test m more mid.variables here there n n (omega (arith, long, variables))
        (within-more old.variables mid.variables here made.grows.more at_here.within) (within-more old.variables mid.variables there made.grows.more at_there.within) made.own.within made.own.within));
    within = (let x = made.own.within.one in omega (arith, x, variables));
    says_it = λ m s t h reads_here reads_there.
        let parts = added-both mid new (apart_clauses here there n.one) made.grows.formula literals m h in
        let own : Reads m n (value_read m n) = made.own.reads m parts.0 in
        own.one ∙ alike-same (is_one (value_read m n)) (not (is_known (agreed s t))) (sym (apart-holds m here there n s t (value_read m n) reads_here reads_there own) ∙ parts.1);
    complete = apart-extends;
  }
