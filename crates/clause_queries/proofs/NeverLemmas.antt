-- Which of some literals can't be true, and whether any can.
use Rattle.std.proofs.Common.{inl, inr, ℕ, Bool, true, false, List, set, sym, ◌∙◌, subst}
use Rattle.std.proofs.lemmas.Bool.{cases_eq}
use Rattle.std.proofs.lemmas.List.{length-set, get_or-set_other}
use Rattle.clause_queries.specs.Queries.{Problem}
use Rattle.clause_queries.specs.Each.{CannotBe, AreNever}

-- a mark more
pub never-more : (p : Problem) (literals assumptions : List ℕ) (place : ℕ) (never : List Bool) → AreNever p literals assumptions never → CannotBe p literals assumptions place →
    AreNever p literals assumptions (set never place true)
never-more p literals assumptions place never told none = record {
  width = length-set never place true ∙ told.width;
  impossible = λ i less marked. elim (cases_eq i place) [
    | inl same ↦ subst (CannotBe p literals assumptions) (sym same) none
    | inr other ↦ told.impossible i less (sym (get_or-set_other never place i true false other) ∙ marked)
  ];
}
