-- The source of a pin within a loop, and rows that gain a gate.
use Rattle.std.proofs.Common.{◌≡◌, ◌⊎◌, ℕ, ◌<◌, List, [], ◌∷◌, ◌++◌, length, get_or, set, ◌∙◌, arith}
use Rattle.loops.proofs.Common.{cases_eq, get_or-set_same, get_or-set_other, get_or_default, Contains-append_left, Contains-push, Contains-push_cases, Sig, Parts, gate_at, gate_sig, Blocks, AreBlocksOf, IsLoopPin}
use Rattle.loops.specs.Links.{IsLoopSource}
use Rattle.loops.specs.Rows.{InRow, row_at}
use Rattle.loops.proofs.Told.{told_parts}

-- an element of a list that equals another, whatever is read past the end
pub same_element : {A : Type 0} (xs ys : List A) (i : ℕ) (e : A) → ys ≡ xs → i < length ys → (d : A) → get_or xs i d ≡ get_or ys i e
same_element xs ys i e same l d = rw (← same) (get_or_default ys i d e l)

-- the source of a pin is one gate
pub same_source : (net : Parts) (blocks : Blocks) (gate : ℕ) (pin : Sig) (a b : ℕ) → IsLoopSource net blocks gate pin a → IsLoopSource net blocks gate pin b → a ≡ b
same_source net blocks gate pin a b one two = grind arith

pub pin_of_source : (net : Parts) (blocks : Blocks) (gate k : ℕ) (pin : Sig) (a : ℕ) → AreBlocksOf net blocks → k < length (gate_at net gate).pins → ((d : Sig) → get_or (gate_at net gate).pins k d ≡ pin) → IsLoopSource net blocks gate pin a → IsLoopPin net blocks a gate
pin_of_source net blocks gate k pin a are kl at source =
    let told = told_parts net blocks are a gate source.loop in
    record {
      feeds = record { source = told.first; reader = told.second; pin = (k, kl, at (gate_sig net a) ∙ source.is) };
      loop = source.loop;
    }

-- a gate is added to the row at a place
module _ (rows : List (List ℕ)) (n gate : ℕ) (row : List ℕ) (l : n < length rows) (row_is : row ≡ row_at rows n) where
  pub pushed_keeps : (x y : ℕ) → InRow rows x y → InRow (set rows n (row ++ gate ∷ [])) x y
  pushed_keeps x y c = grind (arith, cases_eq x n, get_or-set_other rows n x (row ++ gate ∷ []) [], get_or-set_same rows n (row ++ gate ∷ []) [] l, Contains-append_left row (gate ∷ []) y)

  pub pushed_new : InRow (set rows n (row ++ gate ∷ [])) n gate
  pushed_new = rw (get_or-set_same rows n (row ++ gate ∷ []) [] l) (Contains-push row gate)

  pub pushed_only : (x y : ℕ) → InRow (set rows n (row ++ gate ∷ [])) x y → InRow rows x y ⊎ ((x ≡ n) × (y ≡ gate))
  pushed_only x y c = grind (arith, cases_eq x n, get_or-set_other rows n x (row ++ gate ∷ []) [], Contains-push_cases row gate y, get_or-set_same rows n (row ++ gate ∷ []) [] l)
