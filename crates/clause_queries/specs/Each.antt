-- Which of some literals can be true, each by itself.
use Rattle.std.specs.Prelude.{◌≡◌, ◌<◌, ◌+◌, ℕ, Bool, true, false, List, [], ◌∷◌, ◌++◌, length, slice_index, slice_index_or, All, Any, Some, None}
use Rattle.std.specs.declared.option.Option.{Option}
use Rattle.clause_queries.specs.Queries.{Problem, HasModelUnder, HasNoModelUnder}

-- the literal at this place can be true, or it can't
abbrev pub CanBe : Problem → List ℕ → List ℕ → ℕ → Type 0
CanBe p literals assumptions i = HasModelUnder p (assumptions ++ slice_index literals i ∷ [])

abbrev pub CannotBe : Problem → List ℕ → List ℕ → ℕ → Type 0
CannotBe p literals assumptions i = HasNoModelUnder p (assumptions ++ slice_index literals i ∷ [])

-- a mark for each literal: it can be true, or it can't where it is one of the first k
pub record AreToldBelow (p : Problem) (literals assumptions : List ℕ) (k : ℕ) (found : List Bool) : Type 0 where
  pub width : length found ≡ length literals
  pub possible : (i : ℕ) → i < length literals → slice_index_or found i false ≡ true → CanBe p literals assumptions i
  pub impossible : (i : ℕ) → i < k → slice_index_or found i false ≡ false → CannotBe p literals assumptions i

-- and all of them
abbrev pub TellEach : Problem → List ℕ → List ℕ → List Bool → Type 0
TellEach p literals assumptions found = AreToldBelow p literals assumptions (length literals) found

-- What asking for the literal at a place tells: where it isn't possible, it can't be true; and each literal up to there is told
-- of by the new marks, where those before were by the old ones.
pub record IsTold (p : Problem) (literals assumptions : List ℕ) (place : ℕ) (old new : List Bool) (possible : Bool) : Type 0 where
  pub impossible : possible ≡ false → CannotBe p literals assumptions place
  pub up_to : AreToldBelow p literals assumptions place old → AreToldBelow p literals assumptions (place + 1) new

-- marks of literals that can't
pub record AreNever (p : Problem) (literals assumptions : List ℕ) (never : List Bool) : Type 0 where
  pub width : length never ≡ length literals
  pub impossible : (i : ℕ) → i < length literals → slice_index_or never i false ≡ true → CannotBe p literals assumptions i

-- whether any of them can
abbrev pub IsAnyPossible : Problem → List ℕ → List ℕ → Option Bool → Type 0
IsAnyPossible p literals assumptions (Some true) = Any (λ l. HasModelUnder p (assumptions ++ l ∷ [])) literals
IsAnyPossible p literals assumptions (Some false) = All (λ l. HasNoModelUnder p (assumptions ++ l ∷ [])) literals
IsAnyPossible p literals assumptions None = Unit {0}
