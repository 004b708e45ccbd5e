-- What is asked of a formula, and what the answers say.
use Rattle.std.specs.Prelude.{◌≡◌, ◌<◌, ◌+◌, ℕ, Bool, true, false, List, [], ◌∷◌, ◌++◌, length, All, slice_index, Some, None}
use Rattle.std.specs.declared.option.Option.{Option}
use Rattle.std.specs.List.{list_all, list_any}
use Rattle.clause_formulas.specs.declared.formula.Formula.{Formula}
use Rattle.clause_formulas.specs.Formulas.{says}
use Rattle.clause_queries.specs.Clauses.{clauses_of}
use Rattle.clause_queries.specs.declared.query.Reply.{Reply}
use Rattle.clause_queries.specs.declared.query.Reply.TheVariants as replies
use Rattle.clause_queries.specs.declared.first.First.{First}
use Rattle.clause_queries.specs.declared.first.First.TheVariants as firsts

-- what contracts see of a query: how many variables there are, and the clauses, which are lists of literals
pub record Problem : Type 0 where
  pub variables : ℕ
  pub clauses : List (List ℕ)

abbrev pub problem : Formula → Problem
problem f = record { variables = f.variables; clauses = clauses_of f.literals.items }

-- each clause has a literal that is true
abbrev pub is_model : Problem → List Bool → Bool
is_model p m = list_all (list_any (says m)) p.clauses

-- a model in which the assumptions are true
pub record IsModelUnder (p : Problem) (assumptions : List ℕ) (m : List Bool) : Type 0 where
  pub model : is_model p m ≡ true
  pub assumed : All (λ l. says m l ≡ true) assumptions

pub record HasModelUnder (p : Problem) (assumptions : List ℕ) : Type 0 where
  pub model : List Bool
  pub is : IsModelUnder p assumptions model

abbrev pub HasNoModelUnder : Problem → List ℕ → Type 0
HasNoModelUnder p assumptions = (m : List Bool) → ¬ IsModelUnder p assumptions m

-- a model of the problem's variables, or that there is none of any
abbrev pub IsReply : Problem → List ℕ → Reply → Type 0
IsReply p assumptions (replies.Model m) = IsModelUnder p assumptions m.items × (length m.items ≡ p.variables)
IsReply p assumptions replies.NoModel = HasNoModelUnder p assumptions
IsReply p assumptions replies.Unknown = Unit {0}

-- whether there is a model
abbrev pub IsPossible : Problem → List ℕ → Option Bool → Type 0
IsPossible p assumptions (Some true) = HasModelUnder p assumptions
IsPossible p assumptions (Some false) = HasNoModelUnder p assumptions
IsPossible p assumptions None = Unit {0}

-- in each model, where one of the literals is true, the next one is
abbrev pub AreRising : Problem → List ℕ → Type 0
AreRising p literals = (m : List Bool) (i : ℕ) → is_model p m ≡ true → i + 1 < length literals →
    says m (slice_index literals i) ≡ true → says m (slice_index literals (i + 1)) ≡ true

-- the first of the literals that is true in some model
pub record IsFirstAt (p : Problem) (literals assumptions : List ℕ) (i : ℕ) : Type 0 where
  pub within : i < length literals
  pub possible : HasModelUnder p (assumptions ++ slice_index literals i ∷ [])
  pub before : (j : ℕ) → j < i → HasNoModelUnder p (assumptions ++ slice_index literals j ∷ [])

abbrev pub IsFirst : Problem → List ℕ → List ℕ → First → Type 0
IsFirst p literals assumptions (firsts.At i) = IsFirstAt p literals assumptions i
IsFirst p literals assumptions firsts.Nowhere = (j : ℕ) → j < length literals → HasNoModelUnder p (assumptions ++ slice_index literals j ∷ [])
IsFirst p literals assumptions firsts.Unknown = Unit {0}
