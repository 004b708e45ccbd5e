-- What a name finds in a netlist.
use Rattle.std.proofs.Common.{◌≡◌, ◌⊎◌, inl, inr, ℕ, zero, suc, ◌+◌, ◌-◌, ◌<◌, ◌≤◌, Bool, true, false, ◌||◌, List, [], ◌∷◌, length, get_or, take, slice_get, position, Some, None, refl, sym, ap, ap₂, ◌∙◌, arith, true≢false}
use Rattle.miters.proofs.Common.{find, is_none, list_any, bytes_eq, length-map, get_or_append_left, get_or-append-add, get_or-map, get_or_default, get_or-take, length-take-le, take_more, list_any-append, list_any_none, find_at, find-append, get_or_from_slice_get, slice_get_within, Latch, Parts, signal, sig_eq, signal_names, driven_names, IsNetlist, signal_name, latch_named, is_input, is_output, number_or_0, column_named, signal_named, eq-eqb, false_from_ne_true, or_parts, list_any-map, length-signal_names, any-find}
use Rattle.std.specs.Prelude.{not}
use Rattle.std.proofs.lemmas.List.Folds.{list_any_at}
use Rattle.std.proofs.lemmas.Bool.{cases_eq, ne_eqb}
use Rattle.std.proofs.lemmas.List.Sums.{position_or_len_is}
use Rattle.cyc_base.proofs.NameLemmas.{bytes_eq-same}
use Rattle.netlist.proofs.Decisions.{found_none}
use Rattle.care_sets.proofs.BindingLemmas as binding
use Rattle.care_sets.proofs.NameLemmas.{others_differ, place_of}

-- ---- searches of lists

-- where an item passes and none before it does
pub find_is : {A : Type 0} (p : A → Bool) (xs : List A) (i : ℕ) (x : A) → slice_get xs i ≡ Some x → ((k : ℕ) (d : A) → k < i → p (get_or xs k d) ≡ false) → p x ≡ true → find p xs ≡ Some x
find_is p xs i x is before passes = grind (arith, slice_get_within xs i x is, find_at p xs, position_or_len_is p xs i x, get_or_from_slice_get xs i x x is)

pub find_nowhere : {A : Type 0} (p : A → Bool) (xs : List A) → ((k : ℕ) (d : A) → k < length xs → p (get_or xs k d) ≡ false) → find p xs ≡ None
find_nowhere p [] none = refl
find_nowhere p (x ∷ xs) none = rw (none zero x (omega arith)) (find_nowhere p xs (λ k d l. none (suc k) d (omega arith)))

-- and back
pub nowhere_any : {A : Type 0} (p : A → Bool) (xs : List A) → list_any p xs ≡ false → (k : ℕ) (d : A) → k < length xs → p (get_or xs k d) ≡ false
nowhere_any p xs none k d l = false_from_ne_true (p (get_or xs k d)) (λ e. true≢false (sym (list_any_at p xs k d l e) ∙ none))

pub nowhere_find : {A : Type 0} (p : A → Bool) (xs : List A) → find p xs ≡ None → (k : ℕ) (d : A) → k < length xs → p (get_or xs k d) ≡ false
nowhere_find p xs none = nowhere_any p xs (any-find p xs ∙ ap (λ o. not (is_none o)) none)

pub any_agree : {A : Type 0} (p q : A → Bool) (xs : List A) → ((k : ℕ) (d : A) → k < length xs → p (get_or xs k d) ≡ q (get_or xs k d)) → list_any p xs ≡ list_any q xs
any_agree p q [] h = refl
any_agree p q (x ∷ xs) h = ap₂ (λ s t. s || t) (h zero x (omega arith)) (any_agree p q xs (λ k d l. h (suc k) d (omega arith)))

pub find_next : {A : Type 0} (p : A → Bool) (xs : List A) (i : ℕ) (x : A) → find p (take i xs) ≡ None → slice_get xs i ≡ Some x → p x ≡ false → find p (take (i + 1) xs) ≡ None
find_next p xs i x none is fails = grind (arith, take_more xs i x (slice_get_within xs i x is), slice_get_within xs i x is, get_or_from_slice_get xs i x x is, find-append p (take i xs) (x ∷ []))

pub find_here : {A : Type 0} (p : A → Bool) (xs : List A) (i : ℕ) (x : A) → find p (take i xs) ≡ None → slice_get xs i ≡ Some x → p x ≡ true → find p xs ≡ Some x
find_here p xs i x none is = grind (arith, slice_get_within xs i x is, length-take-le i xs, find_is p xs i x is, get_or-take i xs, nowhere_find p (take i xs) none)

-- ---- names

-- the names of inputs and of latches among those of the signals
pub input_at : (net : Parts) (k : ℕ) → k < length net.inputs → get_or (signal_names net) k [] ≡ get_or net.inputs k []
input_at net k l = get_or_append_left net.inputs (driven_names net) [] k l

pub latch_at : (net : Parts) (k : ℕ) (d : Latch) → k < length net.latches → get_or (signal_names net) (length net.inputs + k) [] ≡ (get_or net.latches k d).name
latch_at net k d l =
    let m = length-map net.latches (λ (latch : Latch). latch.name) in
    grind (arith, get_or-append-add net.inputs (driven_names net) k [], get_or_append_left, get_or-map)

found_is : (net : Parts) (name : List ℕ) (s : ℕ) → slice_get (signal_names net) s ≡ Some name → get_or (signal_names net) s [] ≡ name
found_is net name s found = get_or_from_slice_get (signal_names net) s name [] found

pub input_found : (net : Parts) (name : List ℕ) (s : ℕ) → IsNetlist net → slice_get (signal_names net) s ≡ Some name → s < length net.inputs → is_input net name ≡ true
input_found net name s valid found inside = grind (arith, list_any_at (bytes_eq name) net.inputs s [] inside, bytes_eq-same name (get_or net.inputs s []), found_is net name s found, input_at net s inside)

pub input_behind : (net : Parts) (name : List ℕ) (s : ℕ) → IsNetlist net → slice_get (signal_names net) s ≡ Some name → length net.inputs ≤ s → is_input net name ≡ false
input_behind net name s valid found behind =
    list_any_none (bytes_eq name) net.inputs (λ k d l.
    let n = length-signal_names net in
    ap (bytes_eq name) (get_or_default net.inputs k d [] l ∙ sym (input_at net k l)) ∙ others_differ (signal_names net) name s k valid.names_differ found (omega arith) (omega arith))

pub input_absent : (net : Parts) (name : List ℕ) → list_any (bytes_eq name) (signal_names net) ≡ false → is_input net name ≡ false
input_absent net name absent = (or_parts (is_input net name) (list_any (bytes_eq name) (driven_names net)) (sym (list_any-append (bytes_eq name) net.inputs (driven_names net)) ∙ absent)).0

-- a latch by its name
pub latch_found : (net : Parts) (name : List ℕ) (s : ℕ) (latch : Latch) → IsNetlist net → slice_get (signal_names net) s ≡ Some name → length net.inputs ≤ s →
    slice_get net.latches (s - length net.inputs) ≡ Some latch → latch_named net name ≡ Some latch
latch_found net name s latch valid found behind is =
    let i : ℕ = s - length net.inputs in
    grind (arith, slice_get_within net.latches i latch is, find_is, length-signal_names net, latch_at net, others_differ (signal_names net) name s, bytes_eq-same name latch.name, found_is net name s found, latch_at net i latch, get_or_from_slice_get net.latches i latch latch is)

latch_elsewhere : (net : Parts) (name : List ℕ) (s : ℕ) → IsNetlist net → slice_get (signal_names net) s ≡ Some name → (s < length net.inputs) ⊎ (length net.inputs + length net.latches ≤ s) → latch_named net name ≡ None
latch_elsewhere net name s valid found outside = grind (arith, find_nowhere, length-signal_names net, latch_at net, others_differ (signal_names net) name s)

pub latch_before : (net : Parts) (name : List ℕ) (s : ℕ) → IsNetlist net → slice_get (signal_names net) s ≡ Some name → s < length net.inputs → latch_named net name ≡ None
latch_before net name s valid found l = latch_elsewhere net name s valid found (inl l)

pub latch_behind : (net : Parts) (name : List ℕ) (s : ℕ) → IsNetlist net → slice_get (signal_names net) s ≡ Some name → length net.inputs ≤ s → length net.latches ≤ s - length net.inputs → latch_named net name ≡ None
latch_behind net name s valid found low l = latch_elsewhere net name s valid found (inr (omega arith))

pub latch_absent : (net : Parts) (name : List ℕ) → list_any (bytes_eq name) (signal_names net) ≡ false → latch_named net name ≡ None
latch_absent net name absent =
    find_nowhere (λ (l : Latch). bytes_eq name l.name) net.latches (λ k d l.
    let n = length-signal_names net in
    ap (bytes_eq name) (sym (latch_at net k d l)) ∙ nowhere_any (bytes_eq name) (signal_names net) absent (length net.inputs + k) [] (omega arith))

-- an output by its name
pub output_found : (net : Parts) (name : List ℕ) (s : ℕ) → IsNetlist net → slice_get (signal_names net) s ≡ Some name → list_any (sig_eq (signal s)) net.outputs ≡ is_output net name
output_found net name s valid found =
    grind (arith, any_agree (sig_eq (signal s)), list_any-map (bytes_eq name) (signal_name net) net.outputs, length-signal_names net, cases_eq s, eq-eqb s, bytes_eq-same name, found_is net name s found, ne_eqb s, others_differ (signal_names net) name s)

pub output_absent : (net : Parts) (name : List ℕ) → IsNetlist net → list_any (bytes_eq name) (signal_names net) ≡ false → is_output net name ≡ false
output_absent net name valid absent =
    list_any-map (bytes_eq name) (signal_name net) net.outputs
    ∙ list_any_none (λ t. bytes_eq name (signal_name net t)) net.outputs (λ k d l.
    let n = length-signal_names net in
    let inside = valid.outputs k d l in
    nowhere_any (bytes_eq name) (signal_names net) absent (get_or net.outputs k d).0 [] (omega arith))

-- a column by its name
pub column_found : (net : Parts) (name : List ℕ) (s : ℕ) → IsNetlist net → slice_get (signal_names net) s ≡ Some name → s < length net.inputs + length net.latches → s ≡ column_named net name
column_found net name s valid found inside = ap number_or_0 (binding.column_found net name s valid found inside)

pub column_behind : (net : Parts) (name : List ℕ) (s : ℕ) → IsNetlist net → slice_get (signal_names net) s ≡ Some name → length net.inputs + length net.latches ≤ s → 0 ≡ column_named net name
column_behind net name s valid found behind = ap number_or_0 (binding.column_behind net name s valid found behind)

pub column_absent : (net : Parts) (name : List ℕ) → list_any (bytes_eq name) (signal_names net) ≡ false → 0 ≡ column_named net name
column_absent net name absent = ap number_or_0 (binding.column_absent net name absent)

-- a signal by its name
pub signal_place : (net : Parts) (name : List ℕ) (s : ℕ) → IsNetlist net → slice_get (signal_names net) s ≡ Some name → Some s ≡ position (bytes_eq name) (signal_names net)
signal_place net name s valid found =
    grind (arith, slice_get_within (signal_names net) s name found, place_of (bytes_eq name) (signal_names net) s, position_or_len_is (bytes_eq name) (signal_names net) s [], others_differ (signal_names net) name s, bytes_eq-same name (get_or (signal_names net) s []), found_is net name s found)

pub signal_found : (net : Parts) (name : List ℕ) (s : ℕ) → IsNetlist net → slice_get (signal_names net) s ≡ Some name → signal s ≡ signal_named net name
signal_found net name s valid found = ap (λ o. signal (number_or_0 o)) (signal_place net name s valid found)

pub signal_absent : (net : Parts) (name : List ℕ) → list_any (bytes_eq name) (signal_names net) ≡ false → signal 0 ≡ signal_named net name
signal_absent net name absent = grind (arith, found_none (bytes_eq name) (signal_names net) [], nowhere_any (bytes_eq name) (signal_names net) absent)
