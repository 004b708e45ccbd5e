-- The columns that a care model's inputs name.
use Rattle.std.proofs.Common.{◌≡◌, ℕ, ◌+◌, ◌<◌, ◌≤◌, nat_lt, false, List, [], ◌∷◌, ◌++◌, length, map, get_or, slice_get, take, drop, Some, None, refl, sym, ap, subst, ◌∙◌, arith, ◌⊎◌}
use Rattle.std.specs.List.{All, position_from, list_any}
use Rattle.std.specs.Prelude.{find, option_map}
use Rattle.std.specs.Option.{option_map_or}
use Rattle.std.specs.Str.{bytes_eq}
use Rattle.std.proofs.lemmas.Bool.{ltb-false}
use Rattle.std.proofs.lemmas.List.{length-map, get_or_append_left, get_or_default, take_more, take_all, take-append-drop, drop_more, map_push, get_or-map}
use Rattle.std.proofs.lemmas.List.Sums.{position_or_len_is}
use Rattle.std.proofs.lemmas.List.Folds.{find-append, find_at}
use Rattle.std.proofs.lemmas.List.Quantifiers.{position-Some}
use Rattle.std.proofs.lemmas.Iterator.Adapters.{position_from-zero}
use Rattle.std.proofs.lemmas.Option.{get_or_from_slice_get, slice_get_within, slice_get-get_or, slice_get_past}
use Rattle.cyc_base.proofs.NameLemmas.{bytes_eq-same}
use Rattle.netlist.specs.declared.parts.Parts.{Parts}
use Rattle.netlist.specs.Netlists.{signal_names, driven_names, IsNetlist, columns}
use Rattle.netlist.proofs.Decisions.{found_none, none_found}
use Rattle.care_sets.specs.Care.{column_names}
use Rattle.care_sets.specs.Binding.{column_of, AreColumnsOf, IsUnknownName, is_unknown_name, is_before}
use Rattle.care_sets.proofs.NameLemmas.{gate_names, names_split, length-column_names, length-names, others_differ, absent_at, place_of}
use Rattle.care_sets.specs.declared.fault.CareFault.{CareFault}
use Rattle.care_sets.specs.declared.fault.CareFault.TheVariants.{UnknownName, Memory}

-- the names of the columns come first
name_of_column : (net : Parts) (k : ℕ) → k < columns net → get_or (signal_names net) k [] ≡ get_or (column_names net) k []
name_of_column net k inside = grind (arith, names_split, get_or_append_left, gate_names, length-column_names)

pub column_found : (net : Parts) (name : List ℕ) (s : ℕ) → IsNetlist net → slice_get (signal_names net) s ≡ Some name → s < length net.inputs + length net.latches →
    Some s ≡ column_of net name
column_found net name s h found inside = grind (arith, get_or_from_slice_get, place_of, position_or_len_is, length-column_names, name_of_column, others_differ, length-names, bytes_eq-same)

none_of_column : (net : Parts) (name : List ℕ) → ((k : ℕ) → k < columns net → bytes_eq name (get_or (signal_names net) k []) ≡ false) → None ≡ column_of net name
none_of_column net name differ =
    sym (found_none (bytes_eq name) (column_names net) [] (λ k d lt.
    let inside : k < columns net = omega (arith, length-column_names net) in
    ap (bytes_eq name) (get_or_default (column_names net) k d [] lt ∙ sym (name_of_column net k inside)) ∙ differ k inside))

pub column_behind : (net : Parts) (name : List ℕ) (s : ℕ) → IsNetlist net → slice_get (signal_names net) s ≡ Some name → length net.inputs + length net.latches ≤ s →
    None ≡ column_of net name
column_behind net name s h found behind = grind (arith, none_of_column, others_differ, length-names)

pub column_absent : (net : Parts) (name : List ℕ) → list_any (bytes_eq name) (signal_names net) ≡ false → None ≡ column_of net name
column_absent net name absent = grind (arith, none_of_column, absent_at, length-names)

pub input_name : (model : Parts) (i : ℕ) (name : List ℕ) → i < length model.inputs → slice_get (signal_names model) i ≡ Some name →
    slice_get model.inputs i ≡ Some name
input_name model i name inside found = grind (arith, slice_get-get_or model.inputs i [] inside, get_or_append_left model.inputs (driven_names model) [] i inside, get_or_from_slice_get (signal_names model) i name [] found)

-- a list, cut before and behind one of its items
split_at : (names : List (List ℕ)) (i : ℕ) (name : List ℕ) → slice_get names i ≡ Some name → names ≡ take i names ++ name ∷ drop (i + 1) names
split_at names i name found = grind (arith, take-append-drop i names, drop_more names i [] (slice_get_within names i name found), slice_get_within names i name found, get_or_from_slice_get names i name [] found)

pub columns_start : (net : Parts) (names : List (List ℕ)) → AreColumnsOf net (take 0 names) []
columns_start net names = record { named = refl }

take_next : (names : List (List ℕ)) (i : ℕ) (name : List ℕ) → slice_get names i ≡ Some name → take (i + 1) names ≡ take i names ++ name ∷ []
take_next names i name found = grind (arith, take_more names i [] (slice_get_within names i name found), slice_get_within names i name found, get_or_from_slice_get names i name [] found)

pub columns_more : (net : Parts) (names : List (List ℕ)) (i : ℕ) (columns : List ℕ) (name : List ℕ) (column : ℕ) → AreColumnsOf net (take i names) columns →
    slice_get names i ≡ Some name → Some column ≡ column_of net name → AreColumnsOf net (take (i + 1) names) (columns ++ column ∷ [])
columns_more net names i columns name column so_far found is = grind (arith, map_push, map_push (column_of net) (take i names) name, take_next names i name found)

pub columns_all : (net : Parts) (names : List (List ℕ)) (n : ℕ) (columns : List ℕ) → n ≡ length names → AreColumnsOf net (take n names) columns → AreColumnsOf net names columns
columns_all net names n columns is all = subst (λ (l : List (List ℕ)). AreColumnsOf net l columns) (take_all n names (omega (arith, is))) all

-- names with columns are known
all_known : (net : Parts) (names : List (List ℕ)) (columns : List ℕ) → map (λ c. Some c) columns ≡ map (column_of net) names → find (is_unknown_name net) names ≡ None
all_known net [] columns e = refl
all_known net (name ∷ names) [] e = cc
all_known net (name ∷ names) (column ∷ columns) e = grind (arith, all_known net names columns)

pub no_unknown_name : (net : Parts) (names : List (List ℕ)) (columns : List ℕ) → AreColumnsOf net names columns → find (is_unknown_name net) names ≡ None
no_unknown_name net names columns h = all_known net names columns h.named

pub unknown_name_at : (net : Parts) (names : List (List ℕ)) (i : ℕ) (columns : List ℕ) (name : List ℕ) → AreColumnsOf net (take i names) columns →
    slice_get names i ≡ Some name → None ≡ column_of net name → find (is_unknown_name net) names ≡ Some name
unknown_name_at net names i columns name so_far found none = grind (arith, split_at names i name found, find-append (is_unknown_name net) (take i names) (name ∷ drop (i + 1) names), no_unknown_name net (take i names) columns so_far)

pub first_unknown_name : (net : Parts) (names : List (List ℕ)) (i : ℕ) (columns : List ℕ) (name : List ℕ) (fault : CareFault) → AreColumnsOf net (take i names) columns →
    slice_get names i ≡ Some name → (fault ≡ Memory) ⊎ IsUnknownName net name fault →
    (fault ≡ Memory) ⊎ (option_map UnknownName (find (is_unknown_name net) names) ≡ Some fault)
first_unknown_name net names i columns name fault so_far found h = grind (arith, unknown_name_at)

pub same_length : (net : Parts) (names : List (List ℕ)) (columns : List ℕ) → AreColumnsOf net names columns → length columns ≡ length names
same_length net names columns h = omega (arith, ap length h.named, length-map columns (λ c. Some c), length-map names (column_of net))

-- the column of the name at a place
column_at : (net : Parts) (names : List (List ℕ)) (columns : List ℕ) (k : ℕ) → AreColumnsOf net names columns → k < length columns →
    column_of net (get_or names k []) ≡ Some (get_or columns k 0)
column_at net names columns k h inside = grind (arith, get_or-map (column_of net) names k [] None, same_length net names columns h, get_or-map)

before_at : (net : Parts) (first : ℕ) (names : List (List ℕ)) (columns : List ℕ) (k : ℕ) → AreColumnsOf net names columns → k < length columns →
    is_before net first (get_or names k []) ≡ nat_lt (get_or columns k 0) first
before_at net first names columns k h inside = ap (λ o. option_map_or (λ c. nat_lt c first) o false) (column_at net names columns k h inside)

-- the first column that comes too early shows the first name
pub early_name : (net : Parts) (first : ℕ) (names : List (List ℕ)) (columns : List ℕ) (i : ℕ) → AreColumnsOf net names columns →
    position_from (λ c. nat_lt c first) 0 columns ≡ Some i → find (is_before net first) names ≡ slice_get names i
early_name net first names columns i h e =
    let at = position-Some (λ c. nat_lt c first) columns i 0 (position_from-zero (λ c. nat_lt c first) columns ∙ e) in
    find_at (is_before net first) names
    ∙ ap (slice_get names)
    (position_or_len_is (is_before net first) names i [] (omega (arith, at.0, same_length net names columns h))
    (λ k lt. before_at net first names columns k h (omega (arith, at.0)) ∙ at.2 k lt)
    (λ _. before_at net first names columns i h at.0 ∙ at.1))

pub early_within : (first : ℕ) (columns : List ℕ) (i : ℕ) → position_from (λ c. nat_lt c first) 0 columns ≡ Some i → i < length columns
early_within first columns i e = (position-Some (λ c. nat_lt c first) columns i 0 (position_from-zero (λ c. nat_lt c first) columns ∙ e)).0

none_early : (first : ℕ) (columns : List ℕ) → position_from (λ c. nat_lt c first) 0 columns ≡ None → All (λ c. nat_lt c first ≡ false) columns
none_early first columns e = none_found (λ c. nat_lt c first) columns (position_from-zero (λ c. nat_lt c first) columns ∙ e)

pub columns_from_first : (first : ℕ) (columns : List ℕ) → position_from (λ c. nat_lt c first) 0 columns ≡ None → All (λ c. first ≤ c) columns
columns_from_first first columns e k d inside = let late = ltb-false (get_or columns k d) first (none_early first columns e k d inside) in omega arith

pub no_early_name : (net : Parts) (first : ℕ) (names : List (List ℕ)) (columns : List ℕ) → AreColumnsOf net names columns →
    position_from (λ c. nat_lt c first) 0 columns ≡ None → find (is_before net first) names ≡ None
no_early_name net first names columns h e =
    find_at (is_before net first) names
    ∙ ap (slice_get names)
    (position_or_len_is (is_before net first) names (length names) [] (omega arith)
    (λ k lt. before_at net first names columns k h (omega (arith, same_length net names columns h))
    ∙ none_early first columns e k 0 (omega (arith, same_length net names columns h)))
    (λ lt. absurd (omega arith)))
    ∙ slice_get_past names (length names) (omega arith)

-- each column that a name has is one of the netlist
pub column_within : (net : Parts) (name : List ℕ) (column : ℕ) → column_of net name ≡ Some column → column < columns net
column_within net name column e = grind (arith, position-Some, length-column_names)

pub columns_within : (net : Parts) (names : List (List ℕ)) (columns_named : List ℕ) (k d : ℕ) → AreColumnsOf net names columns_named → k < length columns_named →
    get_or columns_named k d < columns net
columns_within net names columns_named k d h inside =
    grind (arith, get_or_default columns_named k 0 d inside, column_within net (get_or names k []) (get_or columns_named k 0) (column_at net names columns_named k h inside), column_at net names columns_named k h inside)
