-- Parts of a cover without a fault.
use Rattle.std.proofs.Common.{◌≡◌, ℕ, ◌+◌, Bool, true, not, cond, List, [], ◌∷◌, length, All, Some, None, arith}
use Rattle.std.proofs.lemmas.Bool.{eqb-true}
use Rattle.std.proofs.lemmas.List.Elements.{All-nil, All-cons}
use Rattle.std.specs.declared.option.Option.{Option}
use Rattle.std.specs.List.{position_from}
use Rattle.cover_logic.specs.declared.row.Row.{Row}
use Rattle.cover_logic.specs.Covers.{has_width}

passes_from_none : (test : Bool) (i : ℕ) (rest : Option ℕ) → cond (not test) (Some i) rest ≡ None → (test ≡ true) × (rest ≡ None)
passes_from_none test i rest e = grind arith

-- where no row has another width, each has this one
pub width_from_none : (pins : ℕ) (rows : List Row) (i : ℕ) → position_from (λ row. not (has_width pins row)) i rows ≡ None → All (λ row. length row.lits ≡ pins) rows
width_from_none pins [] i e = All-nil (λ row. length row.lits ≡ pins)
width_from_none pins (row ∷ rows) i e = grind (arith, passes_from_none, All-cons, eqb-true, width_from_none pins rows (i + 1))
