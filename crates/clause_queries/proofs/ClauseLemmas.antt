-- A list's clauses one by one, and as a solver holds them.
use Rattle.std.proofs.Common.{◌≡◌, ℕ, zero, suc, ◌+◌, ◌*◌, ◌/◌, ◌%◌, ◌==◌, ◌<◌, ◌≤◌, Bool, true, false, ◌&&◌, ◌||◌, List, [], ◌∷◌, ◌++◌, length, map, get_or, take, drop, refl, sym, ap, ap₂, ◌∙◌, arith, append_assoc, append-nil, length-append}
use Rattle.std.specs.List.{list_all, list_any, All}
use Rattle.std.proofs.lemmas.List.Folds.{list_any-append}
use Rattle.std.proofs.lemmas.List.{map-append}
use Rattle.std.proofs.lemmas.Bool.{eqb-true}
use Rattle.std.proofs.lemmas.List.Elements.{All-map, All-same, All-push, All-tail, All-take, All-drop, All-contains, Contains-append_right}
use Rattle.cyc_base.proofs.TruthLemmas.{and_with_true}
use Rattle.clause_formulas.specs.declared.formula.Formula.{Formula}
use Rattle.clause_formulas.specs.Formulas.{says, holds_from, holds as holds_all}
use Rattle.sat.specs.Cnf.{literal}
use Rattle.sat.specs.declared.lit.Lit.{Lit}
use Rattle.clause_queries.specs.Clauses.{clauses_from, clauses_of, IsWithin, AreTaken}
use Rattle.clause_queries.specs.declared.names.Names.{Names}
use Rattle.clause_queries.specs.Loaded.{loaded, AreOf, AreLoaded}
use Rattle.clause_queries.specs.Names.{has, name_of, number_of, own, named, AreNames, AreNumbered, HasNumber}
use Rattle.clause_queries.specs.Queries.{problem, is_model}
use Rattle.clause_queries.proofs.NameLemmas.{number_within, have-numbers}

-- the first clause, and the others
clauses_from-take : (size : ℕ) (begun rest : List ℕ) → clauses_from size begun rest ≡ (begun ++ take size rest) ∷ clauses_of (drop size rest)
clauses_from-take zero begun [] = ap (λ c. c ∷ []) (sym (append-nil begun))
clauses_from-take (suc size) begun [] = ap (λ c. c ∷ []) (sym (append-nil begun))
clauses_from-take zero begun (n ∷ rest) = ap (λ c. c ∷ clauses_from n [] rest) (sym (append-nil begun))
clauses_from-take (suc size) begun (l ∷ rest) = grind (arith, clauses_from-take size (begun ++ l ∷ []) rest, append_assoc begun (l ∷ []) (take size rest))

pub clauses-first : (size : ℕ) (rest : List ℕ) → clauses_of (size ∷ rest) ≡ take size rest ∷ clauses_of (drop size rest)
clauses-first size rest = clauses_from-take size [] rest

-- each clause of a list holds where the list does
holds_from-clauses : (m : List Bool) (left : ℕ) (begun rest : List ℕ) → holds_from m left (list_any (says m) begun) rest ≡ list_all (list_any (says m)) (clauses_from left begun rest)
holds_from-clauses m left begun [] = and_with_true (list_any (says m) begun)
holds_from-clauses m zero begun (n ∷ rest) = ap (λ b. list_any (says m) begun && b) (holds_from-clauses m n [] rest)
holds_from-clauses m (suc left) begun (l ∷ rest) =
    ap (λ b. holds_from m left b rest) (sym (list_any-append (says m) begun (l ∷ []) ∙ ap (λ b. list_any (says m) begun || b) (or-false (says m l))))
    ∙ holds_from-clauses m left (begun ++ l ∷ []) rest
  where
    or-false : (b : Bool) → (b || false) ≡ b
    or-false b = grind arith

holds-clauses : (m : List Bool) (literals : List ℕ) → holds_all m literals ≡ list_all (list_any (says m)) (clauses_of literals)
holds-clauses m [] = refl
holds-clauses m (n ∷ rest) = holds_from-clauses m n [] rest

-- the clauses of a formula hold where it does
pub models-same : (f : Formula) (m : List Bool) → is_model (problem f) m ≡ holds_all m f.literals.items
models-same f m = sym (holds-clauses m f.literals.items)

-- the literals that the solver's stand for
named-own : (n : Names) (l : ℕ) → has n (l / 2) ≡ true → named n (own n l) ≡ l
named-own n l is =
    let name : name_of n (number_of n (l / 2)) ≡ l / 2 = eqb-true (name_of n (number_of n (l / 2))) (l / 2) is in
    own-code n (number_of n (l / 2)) l name
  where
    own-code : (n : Names) (number l : ℕ) → name_of n number ≡ l / 2 → named n (literal number ((l % 2) == 1)) ≡ l
    own-code n number l name = grind arith

named-clause : (n : Names) (clause : List ℕ) → All (HasNumber n) clause → map (named n) (map (own n) clause) ≡ clause
named-clause n [] all = refl
named-clause n (l ∷ clause) all = ap₂ (λ a b. a ∷ b) (named-own n l (all 0 l (omega arith)).has_it) (named-clause n clause (All-tail (HasNumber n) l clause all))

named-clauses : (n : Names) (cs : List (List ℕ)) → All (All (HasNumber n)) cs → map (map (named n)) (map (map (own n)) cs) ≡ cs
named-clauses n [] all = refl
named-clauses n (c ∷ cs) all = ap₂ (λ a b. a ∷ b) (named-clause n c (all 0 c (omega arith))) (named-clauses n cs (All-tail (All (HasNumber n)) c cs all))

-- what is loaded is the problem of the formula
pub loaded-problem : (f : Formula) (n : Names) (formula : List (List Lit)) → AreLoaded f.variables n f.literals.items formula → loaded f.variables n formula ≡ problem f
loaded-problem f n formula is =
    ap (λ cs. record { variables = f.variables; clauses = cs }) (ap (map (map (named n))) is.are ∙ named-clauses n (clauses_of f.literals.items) is.numbered)

own-within : (n : Names) → AreNames n → (l : ℕ) → HasNumber n l → (own n l).code < 2 * length n.names.items
own-within n are l is = let low = number_within n are (l / 2) is.within is.has_it in code-within (number_of n (l / 2)) (length n.names.items) ((l % 2) == 1) low
  where
    code-within : (number size : ℕ) (b : Bool) → number < size → (literal number b).code < 2 * size
    code-within number size true low = omega (arith, low)
    code-within number size false low = omega (arith, low)

-- the solver's literals of a clause are of its variables
pub clause-within : (n : Names) → AreNames n → (clause : List ℕ) → All (HasNumber n) clause → All (λ (l : Lit). l.code < 2 * length n.names.items) (map (own n) clause)
clause-within n are clause all = All-map (λ (l : Lit). l.code < 2 * length n.names.items) (own n) clause (λ k d less. own-within n are (get_or clause k d) (all k d less))

pub loaded-within : (variables : ℕ) (n : Names) (literals : List ℕ) (formula : List (List Lit)) → AreNames n → AreLoaded variables n literals formula → AreOf (length n.names.items) formula
loaded-within variables n literals formula are is =
    All-same (All (λ l. l.code < 2 * length n.names.items)) formula (map (map (own n)) (clauses_of literals)) is.are
    (All-map (All (λ l. l.code < 2 * length n.names.items)) (map (own n)) (clauses_of literals)
    (λ k d less. clause-within n are (get_or (clauses_of literals) k d) (is.numbered k d less)))

-- ---- a list that is loaded up to a place

-- what is loaded, and what is left
pub record AreLoading (variables : ℕ) (n : Names) (literals : List ℕ) (added : ℕ) (rest : List ℕ) (formula : List (List Lit)) : Type 0 where
  pub done : List (List ℕ)
  pub all : clauses_of literals ≡ done ++ clauses_of rest
  pub formula_is : formula ≡ map (map (own n)) done
  pub added_is : added ≡ length done
  pub few : added ≤ 4294967295
  pub within : All (IsWithin variables) done
  pub numbered : All (All (HasNumber n)) done
  pub rest_numbered : AreNumbered n rest

numbered-after : (n : Names) (size : ℕ) (rest : List ℕ) → AreNumbered n (size ∷ rest) → AreNumbered n (drop size rest)
numbered-after n size rest all = All-drop (λ l. l / 2 < length n.numbers.items → has n (l / 2) ≡ true) size rest (All-tail (λ l. l / 2 < length n.numbers.items → has n (l / 2) ≡ true) size rest all)

pub loading-more : (variables : ℕ) (n : Names) (literals : List ℕ) (added size : ℕ) (rest : List ℕ) (formula : List (List Lit)) → AreLoading variables n literals added (size ∷ rest) formula →
    added < 4294967295 → IsWithin variables (take size rest) → All (HasNumber n) (take size rest) → AreLoading variables n literals (added + 1) (drop size rest) (formula ++ map (own n) (take size rest) ∷ [])
loading-more variables n literals added size rest formula before room within numbered = record {
  done = before.done ++ take size rest ∷ [];
  all = before.all ∙ ap (λ cs. before.done ++ cs) (clauses-first size rest) ∙ sym (append_assoc before.done (take size rest ∷ []) (clauses_of (drop size rest)));
  formula_is = ap (λ cs. cs ++ map (own n) (take size rest) ∷ []) before.formula_is ∙ sym (map-append (map (own n)) before.done (take size rest ∷ []));
  added_is = ap (λ k. k + 1) before.added_is ∙ sym (length-append before.done (take size rest ∷ []));
  few = omega (arith, room);
  within = All-push (IsWithin variables) before.done (take size rest) before.within within;
  numbered = All-push (All (HasNumber n)) before.done (take size rest) before.numbered numbered;
  rest_numbered = numbered-after n size rest before.rest_numbered;
}

-- the literals of the next clause have numbers
pub clause-numbered : (variables : ℕ) (n : Names) (literals : List ℕ) (added size : ℕ) (rest : List ℕ) (formula : List (List Lit)) → AreLoading variables n literals added (size ∷ rest) formula →
    length n.numbers.items ≡ variables → IsWithin variables (take size rest) → All (HasNumber n) (take size rest)
clause-numbered variables n literals added size rest formula before width within =
    have-numbers n variables (take size rest) width (All-take (λ l. l / 2 < length n.numbers.items → has n (l / 2) ≡ true) size rest (All-tail (λ l. l / 2 < length n.numbers.items → has n (l / 2) ≡ true) size rest before.rest_numbered)) within

-- there is no room for one clause more
pub loading-full : (variables : ℕ) (n : Names) (literals : List ℕ) (added size : ℕ) (rest : List ℕ) (formula : List (List Lit)) → AreLoading variables n literals added (size ∷ rest) formula →
    added ≡ 4294967295 → ¬ AreTaken variables literals
loading-full variables n literals added size rest formula is full taken = grind (arith, length-append is.done (clauses_of (size ∷ rest)), clauses-first size rest)

-- the next clause has a variable that is none of these
pub loading-foreign : (variables : ℕ) (n : Names) (literals : List ℕ) (added size : ℕ) (rest : List ℕ) (formula : List (List Lit)) → AreLoading variables n literals added (size ∷ rest) formula →
    ¬ IsWithin variables (take size rest) → ¬ AreTaken variables literals
loading-foreign variables n literals added size rest formula is foreign taken =
    let all : clauses_of literals ≡ is.done ++ (take size rest ∷ clauses_of (drop size rest)) = is.all ∙ ap (λ cs. is.done ++ cs) (clauses-first size rest) in
    foreign
    (All-contains (IsWithin variables) (is.done ++ (take size rest ∷ clauses_of (drop size rest))) (take size rest)
    (All-same (IsWithin variables) (is.done ++ (take size rest ∷ clauses_of (drop size rest))) (clauses_of literals) (sym all) taken.within)
    (Contains-append_right is.done (take size rest ∷ clauses_of (drop size rest)) (take size rest) (0, omega arith, refl)))
