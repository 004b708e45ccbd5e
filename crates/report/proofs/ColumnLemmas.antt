-- The columns of a vector, appended one after another.
use Rattle.std.proofs.Common.{◌≡◌, ℕ, ◌+◌, ◌<◌, ◌≤◌, Bool, List, length, take, drop, get_or, zip, slice_get, Some, sym, arith}
use Rattle.report.proofs.Common.{flat_map, Option, Ok, Err, IsErr, Result, get_or_from_slice_get, SinkCall, IsAppended, over, appended_item, appended_in_item, appended_items, Parts, signal_names, column_text}
use Rattle.std.proofs.lemmas.List.{get_or-drop, get_or_default, length-drop}
use Rattle.std.proofs.lemmas.Slice.Zip.{get_or-zip, length-zip}
use Rattle.netlist.specs.Netlists.{count}
use Rattle.netlist.proofs.NameLemmas.{length-signal_names}
use Rattle.report.specs.Verdicts.{columns_text}

-- the columns from the first one on
abbrev pub columns_of : Parts → ℕ → List Bool → List (List ℕ × Bool)
columns_of net first values = zip (drop first (signal_names net)) values

module _ (net : Parts) (first : ℕ) (values : List Bool) (fits : first + length values ≤ count net) where
  pub length-columns : length (columns_of net first values) ≡ length values
  length-columns = grind (arith, length-zip (drop first (signal_names net)) values, length-drop first (signal_names net), length-signal_names net)

  column_is : (i : ℕ) (name : List ℕ) (d : Bool) (e : List ℕ × Bool) → slice_get (signal_names net) (first + i) ≡ Some name → i < length values →
      get_or (columns_of net first values) i e ≡ (name, get_or values i d)
  column_is i name d e found inside =
      grind (arith, get_or-zip (drop first (signal_names net)) values i e, length-drop first (signal_names net), length-signal_names net, get_or-drop first (signal_names net) i e.0, get_or_from_slice_get (signal_names net) (first + i) name e.0 found, get_or_default values i e.1 d inside)

  abbrev upto : ℕ → List ℕ
  upto i = flat_map column_text (take i (columns_of net first values))

  pub columns_more : {T U E : Type 0} (i : ℕ) (name : List ℕ) (d : Bool) (a b c : Option (List ℕ)) (m n o : ℕ) (t : T) (u : U)
      → slice_get (signal_names net) (first + i) ≡ Some name → i < length values
      → IsAppended {T = T} {E = E} (upto i) (over a b m n) (Ok t) → IsAppended {T = U} {E = E} (column_text (name, get_or values i d)) (over b c n o) (Ok u)
      → IsAppended {T = T} {E = E} (upto (i + 1)) (over a c m o) (Ok t)
  columns_more i name d a b c m n o t u found inside =
      let column : List ℕ × Bool = (name, get_or values i d) in
      appended_item column_text (columns_of net first values) i column a b c m n o t u (omega (arith, length-columns)) (sym (column_is i name d column found inside))

  -- the start of the next one
  pub columns_cut : {T U E : Type 0} (i : ℕ) (name : List ℕ) (d : Bool) (a b c : Option (List ℕ)) (m n o : ℕ) (t : T) (e : E) (r : Result T E)
      → slice_get (signal_names net) (first + i) ≡ Some name → i < length values
      → IsAppended {T = T} {E = E} (upto i) (over a b m n) (Ok t) → IsAppended {T = U} {E = E} (column_text (name, get_or values i d)) (over b c n o) (Err e)
      → IsErr r → IsAppended (columns_text net first values) (over a c m o) r
  columns_cut i name d a b c m n o t e r found inside =
      let column : List ℕ × Bool = (name, get_or values i d) in
      appended_in_item column_text (columns_of net first values) i column a b c m n o t e r (omega (arith, length-columns)) (sym (column_is i name d column found inside))

  pub columns_whole : {T E : Type 0} (i : ℕ) (sink : SinkCall) (t : T) → length values ≤ i → IsAppended {T = T} {E = E} (upto i) sink (Ok t)
      → IsAppended {T = T} {E = E} (columns_text net first values) sink (Ok t)
  columns_whole i sink t over = appended_items column_text (columns_of net first values) i sink t (omega (arith, length-columns))
