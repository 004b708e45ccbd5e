-- The fault of a line.
use Rattle.std.specs.Prelude.{ℕ, zero, suc, Bool, true, false, not, List, [], ◌∷◌, ◌&&◌, ◌||◌, ◌==◌, nat_lt, length, codes, bytes_eq, if◌then◌else◌, Some, None}
use Rattle.std.specs.List.{list_all, before_first, after_first}
use Rattle.std.specs.declared.option.Option.{Option}
use Rattle.cyc_base.specs.declared.limits.TheConstants.{MAX_PINS}
use Rattle.blif_text.specs.Texts.{Line, is_filled}
use Rattle.blif_read.specs.declared.kind.LineKind.{LineKind}
use Rattle.blif_read.specs.declared.kind.LineKind.TheVariants.{Row, Model, Names, Latch, Subckt, LeftOut as LeavesOut, Unknown}
use Rattle.blif_read.specs.declared.fault.BlifFault.{BlifFault}
use Rattle.blif_read.specs.declared.fault.BlifFault.TheVariants.{OutsideModel, BadModel, ModelTwice, LeftOut, UnknownDirective, StrayRow, BadRow, MixedRows, NoOutputName, TooManyPins, BadLatch, LevelLatch, BadSubckt}
use Rattle.blif_read.specs.declared.place.LinePlace.{LinePlace}
use Rattle.blif_read.specs.Kinds.{kind, arguments, model_name, is_on}
use Rattle.blif_read.specs.Places.{place_behind, is_model_name}

-- `.model`: one word, a name that no earlier model has

abbrev pub model_fault : ℕ → List (List ℕ) → Bool → Option BlifFault
model_fault n (name ∷ []) taken = if taken then Some (ModelTwice n) else None
model_fault n other taken = Some (BadModel n)

-- `.names`: an output, behind at most 1,024 pins

abbrev pub names_fault : ℕ → List (List ℕ) → Option BlifFault
names_fault n [] = Some (NoOutputName n)
names_fault n (name ∷ names) = if nat_lt MAX_PINS (length names) then Some (TooManyPins n) else None

-- A row: a literal for each pin, and the plane `0` or `1`. Without pins it is the plane alone.

abbrev pub is_lit : ℕ → Bool
is_lit b = (b == 48) || (b == 49) || (b == 45)

abbrev pub is_plane : List ℕ → Bool
is_plane word = bytes_eq word (codes "0") || bytes_eq word (codes "1")

abbrev pub is_row_of : ℕ → List (List ℕ) → Bool
is_row_of zero (plane ∷ []) = is_plane plane
is_row_of (suc n) (lits ∷ plane ∷ []) = (length lits == suc n) && list_all is_lit lits && is_plane plane
is_row_of pins other = false

abbrev pub same_plane : Bool → Bool → Bool
same_plane true b = b
same_plane false b = not b

abbrev pub differs : Option Bool → Bool → Bool
differs None plane = false
differs (Some first) plane = not (same_plane first plane)

abbrev pub row_fault_in : ℕ → Option Bool → Line → Option BlifFault
row_fault_in pins first line =
    if is_row_of pins line.words
    then (if differs first (is_on line) then Some (MixedRows line.number) else None)
    else Some (BadRow line.number)

abbrev pub row_fault : Option ℕ → Option Bool → Line → Option BlifFault
row_fault None first line = Some (StrayRow line.number)
row_fault (Some pins) first line = row_fault_in pins first line

-- `.latch input output [type control] [init]`: a bad latch, and else one of a level type

abbrev pub is_edge_type : List ℕ → Bool
is_edge_type word = bytes_eq word (codes "re") || bytes_eq word (codes "fe")

abbrev pub is_level_type : List ℕ → Bool
is_level_type word = bytes_eq word (codes "ah") || bytes_eq word (codes "al") || bytes_eq word (codes "as")

abbrev pub is_init : List ℕ → Bool
is_init word = bytes_eq word (codes "0") || bytes_eq word (codes "1") || bytes_eq word (codes "2") || bytes_eq word (codes "3")

abbrev pub typed_latch_fault : ℕ → List ℕ → Bool → Option BlifFault
typed_latch_fault n trigger init_is_good =
    if init_is_good && (is_edge_type trigger || is_level_type trigger)
    then (if is_level_type trigger then Some (LevelLatch n) else None)
    else Some (BadLatch n)

abbrev pub latch_fault : ℕ → List (List ℕ) → Option BlifFault
latch_fault n (from ∷ output ∷ []) = None
latch_fault n (from ∷ output ∷ init ∷ []) = if is_init init then None else Some (BadLatch n)
latch_fault n (from ∷ output ∷ trigger ∷ control ∷ []) = typed_latch_fault n trigger true
latch_fault n (from ∷ output ∷ trigger ∷ control ∷ init ∷ []) = typed_latch_fault n trigger (is_init init)
latch_fault n other = Some (BadLatch n)

-- `.subckt model formal=actual ..`: a pair is split at its first `=`

abbrev pub is_equals : ℕ → Bool
is_equals b = b == 61

abbrev pub formal_of : List ℕ → List ℕ
formal_of = before_first is_equals

abbrev pub actual_of : List ℕ → List ℕ
actual_of = after_first is_equals

-- neither the formal nor the actual is empty; without `=` there is no actual
abbrev pub is_pair : List ℕ → Bool
is_pair word = is_filled (formal_of word) && is_filled (actual_of word)

abbrev pub subckt_fault : ℕ → List (List ℕ) → Option BlifFault
subckt_fault n [] = Some (BadSubckt n)
subckt_fault n (model ∷ pairs) = if list_all is_pair pairs then None else Some (BadSubckt n)

-- The fault of a line in a model in progress.
abbrev pub fault_inside : LineKind → Line → LinePlace → Option BlifFault
fault_inside LeavesOut line place = Some (LeftOut line.number)
fault_inside Unknown line place = Some (UnknownDirective line.number)
fault_inside Row line place = row_fault place.pins place.first line
fault_inside Names line place = names_fault line.number (arguments line)
fault_inside Latch line place = latch_fault line.number (arguments line)
fault_inside Subckt line place = subckt_fault line.number (arguments line)
fault_inside other line place = None

-- The fault of a line at a place, where it is told whether an earlier model has the line's second word as its name.
abbrev pub fault_at : LineKind → Line → LinePlace → Bool → Option BlifFault
fault_at Model line place taken = model_fault line.number (arguments line) taken
fault_at other line place taken =
    if place.in_model then fault_inside other line place else Some (OutsideModel line.number)

-- The fault of a line behind earlier ones, of which the nearest stands first.
abbrev pub fault : Line → List Line → Option BlifFault
fault line earlier = fault_at (kind line) line (place_behind earlier) (is_model_name (model_name line) earlier)

abbrev pub or_else : Option BlifFault → Option BlifFault → Option BlifFault
or_else (Some found) next = Some found
or_else None next = next

-- The first fault of lines that follow earlier ones.
abbrev pub first_fault : List Line → List Line → Option BlifFault
first_fault earlier [] = None
first_fault earlier (line ∷ rest) = or_else (fault line earlier) (first_fault (line ∷ earlier) rest)
