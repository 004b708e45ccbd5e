-- What rows say where some pins are X.
use Rattle.std.specs.Prelude.{ℕ, suc, Bool, true, false, not, ◌&&◌, List, [], ◌∷◌, map, slice_index_or}
use Rattle.std.specs.List.{list_any, list_all, filter, zip}
use Rattle.cyc_base.specs.declared.trit.Trit.{Trit}
use Rattle.cyc_base.specs.declared.trit.Trit.TheVariants.{Zero, One, X}
use Rattle.cover_logic.specs.declared.row.Lit.{Lit}
use Rattle.cover_logic.specs.declared.row.Lit.TheVariants as lit
use Rattle.cover_logic.specs.declared.row.Row.{Row}
use Rattle.cover_logic.specs.Covers.{allows, some_row_matches}
use Rattle.cover_logic.specs.Extensions.{completions}

-- whether a literal may allow the value of its pin, and whether it surely does
abbrev pub may_allow : Lit → Trit → Bool
may_allow lit.Zero One = false
may_allow lit.One Zero = false
may_allow literal trit = true

abbrev pub must_allow : Lit → Trit → Bool
must_allow lit.Zero Zero = true
must_allow lit.One One = true
must_allow lit.Any trit = true
must_allow literal trit = false

abbrev pub may_match : List Lit → List Trit → Bool
may_match lits trits = list_all (λ pin. may_allow pin.0 pin.1) (zip lits trits)

abbrev pub must_match : List Lit → List Trit → Bool
must_match lits trits = list_all (λ pin. must_allow pin.0 pin.1) (zip lits trits)

abbrev pub some_row_may_match : List Row → List Trit → Bool
some_row_may_match rows trits = list_any (λ row. may_match row.lits trits) rows

abbrev pub some_row_must_match : List Row → List Trit → Bool
some_row_must_match rows trits = list_any (λ row. must_match row.lits trits) rows

-- whether a row matches only where the pin at this place has this value
abbrev pub asks : List Lit → ℕ → Bool → Bool
asks lits pin b = not (allows (slice_index_or lits pin lit.Any) (not b))

-- whether one does so of the rows that may match
abbrev pub some_row_asks : List Row → List Trit → ℕ → Bool → Bool
some_row_asks rows trits pin b = list_any (λ row. asks row.lits pin b && may_match row.lits trits) rows

-- whether some row matches at each completion
abbrev pub is_tautology : List Row → List Trit → Bool
is_tautology rows trits = list_all (some_row_matches rows) (completions trits)

abbrev pub unknown_count : List Trit → ℕ
unknown_count [] = 0
unknown_count (X ∷ trits) = suc (unknown_count trits)
unknown_count (Zero ∷ trits) = unknown_count trits
unknown_count (One ∷ trits) = unknown_count trits

-- the unknown pins, and of the rows that may match what they ask of those
abbrev pub is_unknown : Trit → Bool
is_unknown X = true
is_unknown Zero = false
is_unknown One = false

abbrev pub open_pins : List Trit → List Trit
open_pins trits = filter is_unknown trits

abbrev pub open_lits : List Lit → List Trit → List Lit
open_lits lits trits = map (λ pin. pin.0) (filter (λ pin. is_unknown pin.1) (zip lits trits))

abbrev pub open_row : List Trit → Row → Row
open_row trits row = record { lits = open_lits row.lits trits }

abbrev pub open_rows : List Row → List Trit → List Row
open_rows rows trits = map (open_row trits) (filter (λ row. may_match row.lits trits) rows)
