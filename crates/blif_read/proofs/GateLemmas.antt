-- Rows that fit make a cover.
use Rattle.std.proofs.Common.{◌≡◌, ◌≤◌, ℕ, ◌+◌, Bool, true, not, cond, List, [], ◌∷◌, length, All, Some, None, refl, ap, ◌∙◌, arith, eq-eqb}
use Rattle.blif_read.proofs.Common.{All-head, All-tail, MAX_PINS}
use Rattle.std.proofs.lemmas.Bool.Decides.{nat_tests}
use Rattle.std.specs.Prelude.{nat_le}
use Rattle.std.specs.List.{position_from}
use Rattle.cover_logic.specs.declared.row.Row.{Row}
use Rattle.cover_logic.specs.Covers.{has_width, first_fault}

none_of_other_width : (pins : ℕ) (rows : List Row) (i : ℕ) → All (λ row. length row.lits ≡ pins) rows → position_from (λ row. not (has_width pins row)) i rows ≡ None
none_of_other_width pins [] i each = refl
none_of_other_width pins (row ∷ rows) i each =
    let is = eq-eqb (length row.lits) pins (All-head (λ r. length r.lits ≡ pins) row rows each) in
    ap (λ (t : Bool). cond (not t) (Some i) (position_from (λ r. not (has_width pins r)) (i + 1) rows)) is
    ∙ none_of_other_width pins rows (i + 1) (All-tail (λ r. length r.lits ≡ pins) row rows each)

few : (pins : ℕ) → pins ≤ MAX_PINS → nat_le pins MAX_PINS ≡ true
few pins fits = grind (arith, nat_tests)

pub no_fault : (pins : ℕ) (rows : List Row) → pins ≤ MAX_PINS → All (λ row. length row.lits ≡ pins) rows → first_fault pins rows ≡ None
no_fault pins rows fits each = grind (arith, few pins, none_of_other_width pins rows 0 each)
