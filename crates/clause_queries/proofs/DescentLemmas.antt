-- Columns fixed one by one, and what the least vector is for tests.
use Rattle.std.proofs.Common.{◌≡◌, ◌<◌, ◌*◌, ℕ, Bool, true, false, not, List, [], ◌∷◌, ◌++◌, length, get_or, map, Option, Some, None, refl, sym, ap, subst, ◌∙◌, true≢false, arith}
use Rattle.std.specs.Prelude.{All, find, is_some}
use Rattle.std.proofs.lemmas.List.{map-append, length-map}
use Rattle.std.proofs.lemmas.List.Elements.{All-nil, All-head, All-tail, All-cons, All-push, All-append, All-map}
use Rattle.std.proofs.lemmas.Bool.{not-true, false_from_ne_true}
use Rattle.cyc_base.specs.Vectors.{vectors, AtMost}
use Rattle.cyc_base.proofs.ListLemmas.{All-but_last}
use Rattle.cyc_base.proofs.VectorLemmas.{find-none}
use Rattle.clause_formulas.specs.Formulas.{says, negation}
use Rattle.clause_formulas.proofs.ClauseLemmas.{says-negation}
use Rattle.clause_queries.specs.Clauses.{IsWithin}
use Rattle.clause_queries.specs.Queries.{Problem, IsModelUnder, HasNoModelUnder, IsPossible}
use Rattle.clause_queries.specs.Vectors.{vector_of, Asks, IsLeastVector, IsFound, IsFirstOf, TellsWhetherAny}
use Rattle.clause_queries.specs.declared.least.Found.{Found}
use Rattle.clause_queries.specs.declared.least.Found.TheVariants as founds
use Rattle.clause_queries.specs.Descent.{IsFixed}
use Rattle.clause_queries.proofs.VectorLemmas.{find_least, find_some, snoc-same, AtMost-push}

-- ---- one assumption more

pub under-fewer : (p : Problem) (assumptions : List ℕ) (l : ℕ) (m : List Bool) → IsModelUnder p (assumptions ++ l ∷ []) m → IsModelUnder p assumptions m
under-fewer p assumptions l m under = record { model = under.model; assumed = (All-but_last (λ x. says m x ≡ true) assumptions l under.assumed).0 }

pub under-last : (p : Problem) (assumptions : List ℕ) (l : ℕ) (m : List Bool) → IsModelUnder p (assumptions ++ l ∷ []) m → says m l ≡ true
under-last p assumptions l m under = (All-but_last (λ x. says m x ≡ true) assumptions l under.assumed).1

pub under-more : (p : Problem) (assumptions : List ℕ) (l : ℕ) (m : List Bool) → IsModelUnder p assumptions m → says m l ≡ true → IsModelUnder p (assumptions ++ l ∷ []) m
under-more p assumptions l m under is_true = record { model = under.model; assumed = All-push (λ x. says m x ≡ true) assumptions l under.assumed is_true }

All-first : {A : Type 0} (P : A → Type 0) (xs ys : List A) → All P (xs ++ ys) → All P xs
All-first P [] ys all = All-nil P
All-first P (x ∷ xs) ys all = grind (arith, All-first P xs ys (All-tail P x (xs ++ ys) all), All-tail, All-cons, All-head)

negation-within : (variables l : ℕ) → l < 2 * variables → negation l < 2 * variables
negation-within variables l within = grind arith

pub only-negations-within : (variables : ℕ) (others : List ℕ) → IsWithin variables others → IsWithin variables (map negation others)
only-negations-within variables others within = All-map (λ l. l < 2 * variables) negation others (λ k d less. negation-within variables (get_or others k d) (within k d less))

-- literals, and the negations of others
pub negations-within : (variables : ℕ) (ls others : List ℕ) → IsWithin variables ls → IsWithin variables others → IsWithin variables (ls ++ map negation others)
negations-within variables ls others first second =
    All-append (λ l. l < 2 * variables) ls (map negation others) first (only-negations-within variables others second)

-- fewer assumptions
pub under-first : (p : Problem) (assumptions more : List ℕ) (m : List Bool) → IsModelUnder p (assumptions ++ more) m → IsModelUnder p assumptions m
under-first p assumptions more m under = record { model = under.model; assumed = All-first (λ x. says m x ≡ true) assumptions more under.assumed }

-- ---- the descent

pub fixed-none : (p : Problem) (assumptions : List ℕ) (model : List Bool) → IsModelUnder p assumptions model → IsFixed p assumptions [] assumptions model
fixed-none p assumptions model under = record { under = under; assumed = λ m u. u; same = λ m u. refl; all = λ m u e. u; least = λ m u. tt }

vector-more : (columns : List ℕ) (column : ℕ) (m : List Bool) → vector_of (columns ++ column ∷ []) m ≡ vector_of columns m ++ says m column ∷ []
vector-more columns column m = map-append (says m) columns (column ∷ [])

-- the column has the value of the model, and no lower one
fixed-more : (p : Problem) (assumptions columns fixed : List ℕ) (model next : List Bool) (column literal : ℕ) → IsFixed p assumptions columns fixed model →
    IsModelUnder p (fixed ++ literal ∷ []) next →
    ((m : List Bool) → says m literal ≡ true → says m column ≡ says next column) →
    ((m : List Bool) → says m column ≡ says next column → says m literal ≡ true) →
    ((m : List Bool) → IsModelUnder p fixed m → says next column ≡ true → says m column ≡ true) →
    IsFixed p assumptions (columns ++ column ∷ []) (fixed ++ literal ∷ []) next
fixed-more p assumptions columns fixed model next column literal is under reads says_so lowest = record {
  under = under;
  assumed = λ m u. is.assumed m (under-fewer p fixed literal m u);
  same = λ m u.
      vector-more columns column m
      ∙ ap (λ v. v ++ says m column ∷ []) (is.same m (under-fewer p fixed literal m u) ∙ sym next_same)
      ∙ ap (λ b. vector_of columns next ++ b ∷ []) (reads m (under-last p fixed literal m u))
      ∙ sym (vector-more columns column next);
  all = λ m u e.
      let parts = snoc-same (vector_of columns m) (vector_of columns next) (says m column) (says next column) (wide m) (sym (vector-more columns column m) ∙ e ∙ vector-more columns column next) in
      under-more p fixed literal m (is.all m u (parts.0 ∙ next_same)) (says_so m parts.1);
  least = λ m u.
      let below : AtMost (vector_of columns next) (vector_of columns m) = subst (λ v. AtMost v (vector_of columns m)) (sym next_same) (is.least m u) in
      subst (λ v. AtMost (vector_of (columns ++ column ∷ []) next) v) (sym (vector-more columns column m))
      (subst (λ v. AtMost v (vector_of columns m ++ says m column ∷ [])) (sym (vector-more columns column next))
      (AtMost-push (vector_of columns next) (vector_of columns m) (says next column) (says m column) (sym (wide m)) below
      (λ tied high. lowest m (is.all m u (sym tied ∙ next_same)) high)));
}
  where
    next_same : vector_of columns next ≡ vector_of columns model
    next_same = is.same next (under-fewer p fixed literal next under)

    wide : (m : List Bool) → length (vector_of columns m) ≡ length (vector_of columns next)
    wide m = length-map columns (says m) ∙ sym (length-map columns (says next))

-- any model under what is fixed has the same vector
pub fixed-again : (p : Problem) (assumptions columns fixed : List ℕ) (model next : List Bool) → IsFixed p assumptions columns fixed model → IsModelUnder p fixed next → IsFixed p assumptions columns fixed next
fixed-again p assumptions columns fixed model next is under = record {
  under = under;
  assumed = is.assumed;
  same = λ m u. is.same m u ∙ sym (is.same next under);
  all = λ m u e. is.all m u (e ∙ is.same next under);
  least = λ m u. subst (λ v. AtMost v (vector_of columns m)) (sym (is.same next under)) (is.least m u);
}

-- a model with 0 in the column
pub fixed-low : (p : Problem) (assumptions columns fixed : List ℕ) (model next : List Bool) (column : ℕ) → IsFixed p assumptions columns fixed model →
    IsModelUnder p (fixed ++ negation column ∷ []) next → IsFixed p assumptions (columns ++ column ∷ []) (fixed ++ negation column ∷ []) next
fixed-low p assumptions columns fixed model next column is under =
    grind (arith, fixed-more p assumptions columns fixed model next column (negation column) is under, says-negation, true≢false, not-true, under-last p fixed (negation column) next under)

-- the model itself has
pub fixed-stays : (p : Problem) (assumptions columns fixed : List ℕ) (model : List Bool) (column : ℕ) → IsFixed p assumptions columns fixed model →
    says model column ≡ false → IsFixed p assumptions (columns ++ column ∷ []) (fixed ++ negation column ∷ []) model
fixed-stays p assumptions columns fixed model column is low = grind (arith, fixed-low p assumptions columns fixed model model column is, under-more p fixed (negation column) model is.under, says-negation model column)

-- none has
pub fixed-high : (p : Problem) (assumptions columns fixed : List ℕ) (model : List Bool) (column : ℕ) → IsFixed p assumptions columns fixed model →
    says model column ≡ true → HasNoModelUnder p (fixed ++ negation column ∷ []) → IsFixed p assumptions (columns ++ column ∷ []) (fixed ++ column ∷ []) model
fixed-high p assumptions columns fixed model column is high none =
    fixed-more p assumptions columns fixed model model column column is (under-more p fixed column model is.under high)
    (λ m here. here ∙ sym high)
    (λ m same. same ∙ high)
    (λ m u _. by_value m u (says m column) refl)
  where
    by_value : (m : List Bool) → IsModelUnder p fixed m → (b : Bool) → says m column ≡ b → says m column ≡ true
    by_value m u true is = is
    by_value m u false low = absurd (none m (under-more p fixed (negation column) m u (says-negation m column ∙ ap not low)))

pub fixed-all : (p : Problem) (assumptions columns fixed : List ℕ) (model : List Bool) → IsFixed p assumptions columns fixed model → IsLeastVector p columns assumptions (vector_of columns model)
fixed-all p assumptions columns fixed model is = record { some = record { model = model; under = is.assumed model is.under; reads = refl }; least = is.least }

-- ---- tests

pub least-first : (p : Problem) (columns assumptions : List ℕ) (passes : List Bool → Bool) (v : List Bool) → Asks p columns assumptions passes → IsLeastVector p columns assumptions v →
    find passes (vectors (length columns)) ≡ Some v
least-first p columns assumptions passes v asks is = grind (arith, find_least (length columns) passes v, length-map columns (says is.some.model))

pub none-first : (p : Problem) (columns assumptions : List ℕ) (passes : List Bool → Bool) → Asks p columns assumptions passes → HasNoModelUnder p assumptions →
    find passes (vectors (length columns)) ≡ None
none-first p columns assumptions passes asks none =
    find-none (length columns) passes (λ w wide. false_from_ne_true (passes w) (λ w_passes. let has = asks.complete w wide w_passes in none has.model has.under))

pub some-first : (p : Problem) (columns assumptions : List ℕ) (passes : List Bool → Bool) (m : List Bool) → Asks p columns assumptions passes → IsModelUnder p assumptions m →
    is_some (find passes (vectors (length columns))) ≡ true
some-first p columns assumptions passes m asks under = grind (arith, find_some (length columns) passes (vector_of columns m) (length-map columns (says m)) (asks.sound m under), length-map columns (says m))

-- whether there is a model, as tests see it
pub possible-vectors : (p : Problem) (assumptions : List ℕ) (possible : Option Bool) → IsPossible p assumptions possible →
    (columns : List ℕ) (passes : List Bool → Bool) → Asks p columns assumptions passes → TellsWhetherAny passes (length columns) possible
possible-vectors p assumptions (Some true) is columns passes asks = some-first p columns assumptions passes is.model asks is.is
possible-vectors p assumptions (Some false) is columns passes asks = ap is_some (none-first p columns assumptions passes asks is)
possible-vectors p assumptions None is columns passes asks = tt

-- what is found, as tests see it
pub found-first : (p : Problem) (columns assumptions : List ℕ) (found : Found) → IsFound p columns assumptions found →
    (passes : List Bool → Bool) → Asks p columns assumptions passes → IsFirstOf passes (length columns) found
found-first p columns assumptions (founds.Least v) is passes asks = least-first p columns assumptions passes v.items asks is
found-first p columns assumptions founds.NoVector is passes asks = none-first p columns assumptions passes asks is
found-first p columns assumptions founds.Unknown is passes asks = tt
