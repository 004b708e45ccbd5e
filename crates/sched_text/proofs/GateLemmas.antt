-- The gate that has a name.
use Rattle.std.proofs.Common.{◌≡◌, ℕ, ◌+◌, ◌-◌, ◌<◌, ◌≤◌, false, List, [], length, get_or, slice_get, Some, None, sym, ap, ◌∙◌, arith}
use Rattle.sched_text.proofs.Common.{list_any, length-map, IsBlifName, Parts, gate_at, IsNetlist}
use Rattle.std.specs.Str.{bytes_eq}
use Rattle.std.proofs.lemmas.List.{get_or-append-add, get_or-map, get_or_default}
use Rattle.std.proofs.lemmas.List.Sums.{position_or_len_is}
use Rattle.std.proofs.lemmas.List.Elements.{All-get_or}
use Rattle.std.proofs.lemmas.Option.{get_or_from_slice_get, slice_get_within, slice_get-get_or}
use Rattle.std.proofs.lemmas.Slice.Eq.{bytes_eq-Decides}
use Rattle.care_sets.proofs.NameLemmas.{gate_names, names_split, length-column_names, length-names, others_differ, absent_at, place_of}
use Rattle.netlist.specs.Netlists.{signal_names}
use Rattle.netlist.proofs.Decisions.{found_none}
use Rattle.sched_text.specs.LineFaults.{gate_number}

-- the names of the gates come last
name_of_gate : (net : Parts) (k : ℕ) → k < length (gate_names net)
    → get_or (gate_names net) k [] ≡ get_or (signal_names net) (length net.inputs + length net.latches + k) []
name_of_gate net k inside = grind (arith, length-column_names, names_split, get_or-append-add)

pub gate_found : (net : Parts) (name : List ℕ) (s : ℕ) → IsNetlist net → slice_get (signal_names net) s ≡ Some name → length net.inputs + length net.latches ≤ s
    → Some (s - (length net.inputs + length net.latches)) ≡ gate_number net name
gate_found net name s h found behind =
    let first = length net.inputs + length net.latches in
    let is : get_or (signal_names net) s [] ≡ name = get_or_from_slice_get (signal_names net) s name [] found in
    let within : s < length (signal_names net) = slice_get_within (signal_names net) s name found in
    let inside : s - first < length (gate_names net) = omega (arith, within, behind, length-names net) in
    let back : first + (s - first) ≡ s = omega (arith, behind) in
    grind (arith, place_of (bytes_eq name) (gate_names net) (s - first), position_or_len_is (bytes_eq name) (gate_names net) (s - first) [], name_of_gate net, others_differ (signal_names net) name s, length-names net, bytes_eq-Decides name (get_or (gate_names net) (s - first) []), name_of_gate net (s - first) inside)

none_of_gate : (net : Parts) (name : List ℕ) → ((k : ℕ) → k < length (signal_names net) → length net.inputs + length net.latches ≤ k → bytes_eq name (get_or (signal_names net) k []) ≡ false)
    → None ≡ gate_number net name
none_of_gate net name differ =
    let first = length net.inputs + length net.latches in
    sym (found_none (bytes_eq name) (gate_names net) [] (λ k d lt.
    ap (bytes_eq name) (get_or_default (gate_names net) k d [] lt ∙ name_of_gate net k lt)
    ∙ differ (first + k) (omega (arith, lt, length-names net)) (omega arith)))

pub gate_before : (net : Parts) (name : List ℕ) (s : ℕ) → IsNetlist net → slice_get (signal_names net) s ≡ Some name → s < length net.inputs + length net.latches
    → None ≡ gate_number net name
gate_before net name s h found before = grind (arith, none_of_gate, others_differ)

pub gate_absent : (net : Parts) (name : List ℕ) → list_any (bytes_eq name) (signal_names net) ≡ false → None ≡ gate_number net name
gate_absent net name absent = grind (arith, none_of_gate, absent_at)

gate_place : (net : Parts) (n : ℕ) → n < length net.gates → length net.inputs + length net.latches + n < length (signal_names net)
gate_place net n inside = omega (arith, length-names net, length-map net.gates (λ gate. gate.name), inside)

gate_name : (net : Parts) (n : ℕ) → n < length net.gates → get_or (signal_names net) (length net.inputs + length net.latches + n) [] ≡ (gate_at net n).name
gate_name net n inside = grind (arith, name_of_gate, length-map, get_or-map)

-- a gate is found by its name
pub gate_of_name : (net : Parts) (n : ℕ) → IsNetlist net → n < length net.gates → gate_number net (gate_at net n).name ≡ Some n
gate_of_name net n valid inside =
    let first = length net.inputs + length net.latches in
    grind (arith, gate_found net (gate_at net n).name (first + n) valid, slice_get-get_or (signal_names net) (first + n) [] (gate_place net n inside), gate_place net n inside, gate_name net n inside)

pub gate_named : (net : Parts) (n : ℕ) → IsNetlist net → n < length net.gates → IsBlifName (gate_at net n).name
gate_named net n valid inside = grind (arith, gate_name net n inside, All-get_or IsBlifName (signal_names net) (length net.inputs + length net.latches + n) [] (gate_place net n inside) valid.names, gate_place net n inside)
