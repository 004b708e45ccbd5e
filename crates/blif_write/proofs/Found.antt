-- Models are found by their names, where these differ.
use Rattle.std.proofs.Common.{◌≡◌, ◌≢◌, ℕ, ◌<◌, Bool, List, [], length, map, get_or, sym, ap, ◌∙◌, arith, None, Some}
use Rattle.blif_write.proofs.Common.{bytes_eq, length-map, BlifModel, Parts}
use Rattle.std.specs.List.{position, position_or_len, AllPairs, IsDistinct}
use Rattle.std.proofs.lemmas.Bool.{lt-ltb}
use Rattle.std.proofs.lemmas.List.{get_or-map}
use Rattle.std.proofs.lemmas.Map.Made.{IsDistinct-from_AllPairs}
use Rattle.std.proofs.lemmas.Slice.Eq.{bytes_eq-Decides}
use Rattle.cyc_base.proofs.ListLemmas.{map-map}
use Rattle.flatten.specs.Instances.{find_model, model_at, no_model}
use Rattle.flatten.proofs.Libraries.{place_of as model_place}
use Rattle.blif_write.proofs.Said.{model_of_text}
use Rattle.blif_write.proofs.Linked.{place_of}

no_net : Parts
no_net = record { name = []; inputs = []; clock = None; latches = []; gates = []; outputs = [] }

abbrev pub names_of : List Parts → List (List ℕ)
names_of nets = map (λ net. net.name) nets

pub names_apart : (nets : List Parts) → AllPairs (λ (a b : Parts). a.name ≢ b.name) nets → IsDistinct bytes_eq (names_of nets)
names_apart nets h =
    IsDistinct-from_AllPairs bytes_eq-Decides (names_of nets) (λ i j d lt l e.
    let n = length-map nets (λ (net : Parts). net.name) in
    let li : i < length nets = omega arith in
    let lj : j < length nets = omega arith in
    h i j no_net lt lj (sym (get_or-map (λ (net : Parts). net.name) nets i no_net d li) ∙ e ∙ get_or-map (λ (net : Parts). net.name) nets j no_net d lj))

pub model_names : (nets : List Parts) → map (λ (model : BlifModel). model.name) (map model_of_text nets) ≡ names_of nets
model_names nets = map-map (λ (model : BlifModel). model.name) model_of_text nets

found_at : {X : Type 0} (p : X → Bool) (xs : List X) (i : ℕ) → position_or_len p xs ≡ i → i < length xs → position p xs ≡ Some i
found_at p xs i e l = grind (arith, lt-ltb)

pub model_found : (nets : List Parts) (i : ℕ) (d : Parts) → IsDistinct bytes_eq (names_of nets) → i < length nets
    → find_model (map model_of_text nets) (get_or nets i d).name ≡ Some i
model_found nets i d apart l =
    let names = names_of nets in
    let inside : i < length names = omega (arith, length-map nets (λ (net : Parts). net.name)) in
    let is : get_or names i [] ≡ (get_or nets i d).name = get_or-map (λ (net : Parts). net.name) nets i d [] l in
    sym (model_place (map model_of_text nets) (get_or nets i d).name)
    ∙ ap (position (bytes_eq (get_or nets i d).name)) (model_names nets)
    ∙ found_at (bytes_eq (get_or nets i d).name) names i (ap (λ n. position_or_len (bytes_eq n) names) (sym is) ∙ place_of names i apart inside) inside

pub model_there : (nets : List Parts) (i : ℕ) (d : Parts) → i < length nets → model_at (map model_of_text nets) i ≡ model_of_text (get_or nets i d)
model_there nets i d l = get_or-map model_of_text nets i d no_model l
