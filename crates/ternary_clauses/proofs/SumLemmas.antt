-- Literals that sum up others.
use Rattle.std.proofs.Common.{◌≡◌, inl, inr, ℕ, ◌<◌, ◌+◌, ◌*◌, Bool, true, false, not, ◌&&◌, ◌||◌, List, [], ◌∷◌, ◌++◌, length, sym, ap, ◌∙◌, arith}
use Rattle.ternary_clauses.proofs.Common.{cases_lt, and_parts, and_from, length_push, get_or_append_left, All-nil, All-push, All-weaker, list_any, bit, Formula, Rails, says, negation, holds, IsModel, IsFormula, HasModelFrom, SaysAny, get_or_push, TakesValue, HasNewRails}
use Rattle.std.proofs.lemmas.List.{take-append-le, take_all}
use Rattle.std.proofs.lemmas.List.Folds.{list_any-append}
use Rattle.cyc_base.proofs.TruthLemmas.{or_with_false}
use Rattle.ternary_clauses.specs.Sums.{SaysOr}
use Rattle.clause_formulas.proofs.ClauseLemmas.{says-negation, says-more}
use Rattle.clause_formulas.proofs.GrowthLemmas.{Grows-refl, Grows-chain, model-here, model-after}
use Rattle.ternary_clauses.proofs.NodeCases.{alike, alike-same, alike-refl}
use Rattle.ternary_clauses.proofs.NodeLemmas.{one-bit, known-bit}

-- ---- one of two

or-cases : (k a b s : Bool) → (((k && (not a || (s || false))) && (not b || (s || false))) && (not s || (a || (b || false)))) ≡ (k && alike s (a || b))
or-cases k a b s = grind arith

module _ (old mid one two new : Formula) (a b : ℕ) (n : Rails) (a_in : a < 2 * old.variables) (b_in : b < 2 * old.variables) (made : HasNewRails old mid true n) (variables : new.variables ≡ mid.variables) (last : IsFormula new)
    (first_says : (m : List Bool) → holds m one.literals.items ≡ (holds m mid.literals.items && list_any (says m) (negation a ∷ n.one ∷ [])))
    (second_says : (m : List Bool) → holds m two.literals.items ≡ (holds m one.literals.items && list_any (says m) (negation b ∷ n.one ∷ [])))
    (third_says : (m : List Bool) → holds m new.literals.items ≡ (holds m two.literals.items && list_any (says m) (negation n.one ∷ a ∷ b ∷ []))) where
  or-holds : (m : List Bool) → holds m new.literals.items ≡ (holds m mid.literals.items && alike (says m n.one) (says m a || says m b))
  or-holds m = rw (third_says m, second_says m, first_says m) (simp says-negation (or-cases (holds m mid.literals.items) (says m a) (says m b) (says m n.one)))

  or-parts : (m : List Bool) → IsModel m new → IsModel m mid × (alike (says m n.one) (says m a || says m b) ≡ true)
  or-parts m h = and_parts (holds m mid.literals.items) (alike (says m n.one) (says m a || says m b)) (sym (or-holds m) ∙ h)

  or-complete : (m : List Bool) → length m ≡ old.variables → IsModel m old → HasModelFrom new m
  or-complete m len h =
      let x : Bool = says m a || says m b in
      let has : TakesValue mid n m (bit x) = made.takes m (bit x) (λ e. sym (known-bit x)) len h in
      let sum : says (m ++ has.more) n.one ≡ x = has.reads.one ∙ sym (one-bit x) in
      let at_a = says-more m has.more a (omega (arith, a_in, len)) in
      let at_b = says-more m has.more b (omega (arith, b_in, len)) in
      model-after new m has.more (model-here new (m ++ has.more) (has.width ∙ sym variables)
      (or-holds (m ++ has.more) ∙ and_from _ _ has.model ((λ j. alike (sum j) (at_a j || at_b j)) ∙ alike-refl x)))

  pub or-says : SaysOr old new a b n.one
  or-says = grind (arith, or-parts, alike-same, or-complete)

-- ---- one of many

-- the last of the sums, or false where there is none
pub record IsLast (f : Formula) (literals : List ℕ) (last : ℕ) : Type 0 where
  pub within : last < 2 * f.variables
  pub is : (m : List Bool) → IsModel m f → says m last ≡ list_any (says m) literals

pub any-none : (f : Formula) → IsFormula f → SaysAny f f [] []
any-none f formula = grind (arith, Grows-refl f formula, All-nil, model-here f)

pub last-none : (f : Formula) → IsFormula f → IsLast f [] 1
last-none f formula = record { within = (let x = formula.some in omega (arith, x)); is = λ m h. ap not (formula.truth m h) }

module _ (old mid new : Formula) (literals sums : List ℕ) (last l sum : ℕ) (was : SaysAny old mid literals sums) (before : IsLast mid literals last) (step : SaysOr mid new last l sum) where
  sum-says : (m : List Bool) → IsModel m new → says m sum ≡ list_any (says m) (literals ++ l ∷ [])
  sum-says m h =
      step.says_it m h ∙ ap (λ b. b || says m l) (before.is m (step.grows.sound m h))
      ∙ ap (λ b. list_any (says m) literals || b) (or_with_false (says m l)) ∙ sym (list_any-append (says m) literals (l ∷ []))

  pub last-step : IsLast new (literals ++ l ∷ []) sum
  last-step = record { within = step.within; is = sum-says }

  pub any-step : SaysAny old new (literals ++ l ∷ []) (sums ++ sum ∷ [])
  any-step = record {
    grows = Grows-chain was.grows step.grows;
    within = All-push (λ k. k < 2 * new.variables) sums sum (All-weaker (λ k. k < 2 * mid.variables) (λ k. k < 2 * new.variables) (λ k less. let x = step.grows.more in omega (arith, less, x)) sums was.within) step.within;
    size = (let x = was.size in let y = length_push sums sum in let z = length_push literals l in omega (arith, x, y, z));
    says_each = λ m h i less. elim (cases_lt i (length literals)) [
      | inl low ↦
          ap (says m) (get_or_append_left sums (sum ∷ []) 0 i (let x = was.size in omega (arith, low, x)))
          ∙ was.says_each m (step.grows.sound m h) i low
          ∙ ap (list_any (says m)) (sym (take-append-le (i + 1) literals (l ∷ []) (omega (arith, low))))
      | inr high ↦
          let long = length_push literals l in
          ap (says m) (get_or_push sums sum 0 i (let x = was.size in omega (arith, less, high, long, x)))
          ∙ sum-says m h
          ∙ ap (list_any (says m)) (sym (take_all (i + 1) (literals ++ l ∷ []) (omega (arith, high, long))))
    ];
    complete = λ m len h.
        let one : HasModelFrom mid m = was.complete m len h in
        model-after new m one.more (step.complete (m ++ one.more) one.width one.model);
  }
