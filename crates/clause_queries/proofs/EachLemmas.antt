-- Which of some literals can be true.
use Rattle.std.proofs.Common.{◌≡◌, inl, inr, ℕ, ◌+◌, ◌<◌, Bool, true, false, ◌||◌, List, [], ◌∷◌, ◌++◌, length, get_or, refl, sym, ap, ◌∙◌, subst, arith, true≢false}
use Rattle.std.proofs.lemmas.Bool.{cases_lt, or_right}
use Rattle.clause_formulas.specs.Formulas.{says}
use Rattle.clause_queries.specs.Queries.{Problem, IsModelUnder}
use Rattle.clause_queries.specs.Each.{CanBe, CannotBe, AreToldBelow}
use Rattle.clause_queries.proofs.BisectionLemmas.{possible-earlier}

-- one place more is told
told-here : (p : Problem) (literals assumptions : List ℕ) (place : ℕ) (found : List Bool) → AreToldBelow p literals assumptions place found →
    (get_or found place false ≡ false → CannotBe p literals assumptions place) → AreToldBelow p literals assumptions (place + 1) found
told-here p literals assumptions place found told here = record {
  width = told.width;
  possible = told.possible;
  impossible = λ i less. elim (cases_lt i place) [
    | inl low ↦ told.impossible i low
    | inr high ↦
        let at : place ≡ i = omega (arith, less, high) in
        subst (λ k. get_or found k false ≡ false → CannotBe p literals assumptions k) at here
  ];
}

-- since it was found before
pub told-found : (p : Problem) (literals assumptions : List ℕ) (place : ℕ) (found : List Bool) → AreToldBelow p literals assumptions place found → get_or found place false ≡ true →
    AreToldBelow p literals assumptions (place + 1) found
told-found p literals assumptions place found told is = told-here p literals assumptions place found told (λ isnt. absurd (true≢false (sym is ∙ isnt)))

-- since no model has it
pub told-never : (p : Problem) (literals assumptions : List ℕ) (place : ℕ) (found : List Bool) → AreToldBelow p literals assumptions place found → CannotBe p literals assumptions place →
    AreToldBelow p literals assumptions (place + 1) found
told-never p literals assumptions place found told none = told-here p literals assumptions place found told (λ isnt. none)

or-parts : (a b : Bool) → (a || b) ≡ true → (P : Type 0) → (a ≡ true → P) → (b ≡ true → P) → P
or-parts a b h e left right = grind arith

or-none : (a b : Bool) → (a || b) ≡ false → a ≡ false
or-none a b h = grind arith

-- since a model has it, which tells of others too
pub told-model : (p : Problem) (literals assumptions : List ℕ) (place : ℕ) (m old new : List Bool) → place < length literals → AreToldBelow p literals assumptions place old →
    IsModelUnder p (assumptions ++ get_or literals place 0 ∷ []) m → says m (get_or literals place 0) ≡ true → length new ≡ length old →
    ((i : ℕ) → i < length literals → get_or new i false ≡ (get_or old i false || says m (get_or literals i 0))) → AreToldBelow p literals assumptions (place + 1) new
told-model p literals assumptions place m old new within told under here width each = record {
  width = width ∙ told.width;
  possible = λ i less marked.
      or-parts (get_or old i false) (says m (get_or literals i 0)) (sym (each i less) ∙ marked) (CanBe p literals assumptions i)
      (told.possible i less) (possible-earlier p literals assumptions place i m under);
  impossible = λ i less isnt. elim (cases_lt i place) [
    | inl low ↦ told.impossible i low (or-none (get_or old i false) (says m (get_or literals i 0)) (sym (each i (omega (arith, low, within))) ∙ isnt))
    | inr high ↦
        let at : place ≡ i = omega (arith, less, high) in
        absurd (true≢false (
        sym (each place within ∙ or_right (get_or old place false) (says m (get_or literals place 0)) here)
        ∙ ap (λ k. get_or new k false) at ∙ isnt))
  ];
}
