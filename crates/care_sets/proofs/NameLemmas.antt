-- The names of signals: those of the columns, and then those of the gates.
use Rattle.std.proofs.Common.{◌≡◌, ◌≢◌, ℕ, ◌+◌, ◌<◌, Bool, false, List, [], ◌++◌, length, map, get_or, position, slice_get, Some, sym, ap, arith, true≢false}
use Rattle.std.specs.List.{AllPairs, IsDistinct, position_or_len, list_any}
use Rattle.std.specs.Str.{bytes_eq}
use Rattle.std.proofs.lemmas.Bool.{cases_lt, false_from_ne_true}
use Rattle.std.proofs.lemmas.List.{length-append, length-map, append_assoc}
use Rattle.std.proofs.lemmas.List.Folds.{list_any_at}
use Rattle.std.proofs.lemmas.Map.Made.{AllPairs-from_IsDistinct}
use Rattle.std.proofs.lemmas.Option.{get_or_from_slice_get, slice_get_within}
use Rattle.std.proofs.lemmas.Slice.Eq.{bytes_eq-Decides}
use Rattle.netlist.specs.declared.parts.Parts.{Parts}
use Rattle.netlist.specs.Netlists.{signal_names, columns}
use Rattle.care_sets.specs.Care.{column_names}

abbrev pub gate_names : Parts → List (List ℕ)
gate_names net = map (λ gate. gate.name) net.gates

pub names_split : (net : Parts) → signal_names net ≡ column_names net ++ gate_names net
names_split net = sym (append_assoc net.inputs (map (λ latch. latch.name) net.latches) (gate_names net))

pub length-column_names : (net : Parts) → length (column_names net) ≡ columns net
length-column_names net = omega (arith, length-append net.inputs (map (λ latch. latch.name) net.latches), length-map net.latches (λ latch. latch.name))

pub length-names : (net : Parts) → length (signal_names net) ≡ columns net + length (gate_names net)
length-names net = omega (arith, ap length (names_split net), length-append (column_names net) (gate_names net), length-column_names net)

-- a name that stands at one place stands at no other
pub others_differ : (names : List (List ℕ)) (name : List ℕ) (s k : ℕ) → IsDistinct bytes_eq names → slice_get names s ≡ Some name
    → k < length names → k ≢ s → bytes_eq name (get_or names k []) ≡ false
others_differ names name s k distinct found inside other =
    let apart : AllPairs (λ x y. x ≢ y) names = AllPairs-from_IsDistinct bytes_eq-Decides names distinct in
    let is : get_or names s [] ≡ name = get_or_from_slice_get names s name [] found in
    let within : s < length names = slice_get_within names s name found in
    grind (arith, false_from_ne_true (bytes_eq name (get_or names k [])), bytes_eq-Decides name (get_or names k []), cases_lt k s)

-- a name that stands nowhere
pub absent_at : (names : List (List ℕ)) (name : List ℕ) (k : ℕ) → list_any (bytes_eq name) names ≡ false → k < length names
    → bytes_eq name (get_or names k []) ≡ false
absent_at names name k absent inside = grind (arith, false_from_ne_true, true≢false, list_any_at)

pub place_of : {X : Type 0} (p : X → Bool) (xs : List X) (i : ℕ) → position_or_len p xs ≡ i → i < length xs → Some i ≡ position p xs
place_of p xs i e inside = grind arith
