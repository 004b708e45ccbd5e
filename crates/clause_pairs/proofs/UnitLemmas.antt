-- Literals that are clauses of their own.
use Rattle.std.proofs.Common.{◌≡◌, ℕ, Bool, true, ◌&&◌, List, [], ◌∷◌, ◌++◌, get_or, refl, sym, ◌∙◌, arith}
use Rattle.std.specs.List.{All, list_any}
use Rattle.clause_pairs.proofs.Common.{Formula, says, models-same, problem}
use Rattle.clause_formulas.specs.Formulas.{holds, IsFormula}
use Rattle.clause_pairs.specs.Pairs.{HaveNoModel, HoldsEach}
use Rattle.clause_pairs.proofs.CubeLemmas.{All-parts}

pub holds-none : (f : Formula) → IsFormula f → HoldsEach f f []
holds-none f is = record { formula = is; variables = refl; complete = λ m h all. h }

pub holds-one : (old new : Formula) (l : ℕ) → IsFormula new → new.variables ≡ old.variables → ((m : List Bool) → holds m new.literals.items ≡ (holds m old.literals.items && list_any (says m) (l ∷ []))) → HoldsEach old new (l ∷ [])
holds-one old new l formula variables says_it = record {
  formula = formula;
  variables = variables;
  complete = λ m h all. says_it m ∙ grind (arith, h, all 0 0 (omega arith));
}

pub holds-step : (old mid new : Formula) (literals : List ℕ) (l : ℕ) → HoldsEach old mid literals → HoldsEach mid new (l ∷ []) → HoldsEach old new (literals ++ l ∷ [])
holds-step old mid new literals l first last = record {
  formula = last.formula;
  variables = last.variables ∙ first.variables;
  complete = λ m h all. let parts = All-parts (λ k. says m k ≡ true) literals (l ∷ []) all in last.complete m (first.complete m h parts.0) parts.1;
}

-- none that is refuted where they are clauses has a model in which they are true
pub refuted-within : (old new : Formula) (assumed literals : List ℕ) → HoldsEach old new assumed → HaveNoModel (problem new) [] literals → HaveNoModel (problem old) assumed literals
refuted-within old new assumed literals each refuted k d less m is =
    let parts = All-parts (λ l. says m l ≡ true) assumed (get_or literals k d ∷ []) is.assumed in
    refuted k d less m (record {
      model = models-same new m ∙ each.complete m (sym (models-same old m) ∙ is.model) parts.0;
      assumed = parts.1;
    })
