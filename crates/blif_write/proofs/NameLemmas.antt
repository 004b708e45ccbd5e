-- Names of signals, and the last words of lines.
use Rattle.std.proofs.Common.{◌≡◌, ◌||◌, ◌==◌, ℕ, zero, suc, ◌-◌, ◌<◌, true, false, List, [], ◌∷◌, length, map, get_or, refl, sym, ap, ◌∙◌, arith, Some}
use Rattle.blif_write.proofs.Common.{list_any, bytes_eq, Sig, Clock, Parts, Latch, Gate, signal, signal_names, driven_names, IsNetlist, signal_name}
use Rattle.std.specs.List.{slice_get}
use Rattle.std.proofs.lemmas.Option.{get_or_from_slice_get}
use Rattle.std.proofs.lemmas.List.{get_or_append_left, get_or_default, map-id}
use Rattle.std.proofs.lemmas.List.Folds.{list_any-append}
use Rattle.std.proofs.lemmas.Slice.Eq.{bytes_eq-Decides}
use Rattle.std.proofs.lemmas.Bool.{or_left, or_right}
use Rattle.cyc_base.proofs.ListLemmas.{list_any-map}
use Rattle.cyc_base.proofs.TruthLemmas.{or_without_second}
use Rattle.netlist.specs.Netlists.{is_driven}
use Rattle.blif_text.specs.Texts.{ends_in_backslash}
use Rattle.blif_write.specs.Putting.{last_word}

pub named : (net : Parts) (s : Sig) (name : List ℕ) → slice_get (signal_names net) s.0 ≡ Some name → name ≡ signal_name net s
named net s name e = sym (get_or_from_slice_get (signal_names net) s.0 name [] e)

pub input_named : (net : Parts) (i : ℕ) → i < length net.inputs → signal_name net (signal i) ≡ get_or net.inputs i []
input_named net i l = get_or_append_left net.inputs (driven_names net) [] i l

pub input_item : (net : Parts) (i : ℕ) → i < length net.inputs → signal_name net (signal i) ≡ get_or net.inputs i (signal_name net (signal i))
input_item net i l = input_named net i l ∙ get_or_default net.inputs i [] (signal_name net (signal i)) l

-- Last words.

ends_at : (b : ℕ) (bs : List ℕ) → (get_or (b ∷ bs) (length bs) 0 == 92) ≡ ends_in_backslash (b ∷ bs)
ends_at b [] = refl
ends_at b (c ∷ bs) = ends_at c bs

pub last_byte : (word : List ℕ) → 0 < length word → (get_or word (length word - 1) 0 == 92) ≡ ends_in_backslash word
last_byte [] l = absurd (omega arith)
last_byte (b ∷ bs) l = grind (arith, ends_at b bs)

last_of : {X : Type 0} (f : X → List ℕ) (first : List ℕ) (x : X) (xs : List X) (d : X)
    → last_word first (map f (x ∷ xs)) ≡ f (get_or (x ∷ xs) (length xs) d)
last_of f first x [] d = refl
last_of f first x (y ∷ xs) d = last_of f (f x) y xs d

pub last_mapped : {X : Type 0} (f : X → List ℕ) (first : List ℕ) (xs : List X) (d : X) → 0 < length xs
    → last_word first (map f xs) ≡ f (get_or xs (length xs - 1) d)
last_mapped f first [] d l = absurd (omega arith)
last_mapped f first (x ∷ xs) d l = grind (arith, last_of f first x xs d)

pub last_input_is : (net : Parts) (first : List ℕ) → 0 < length net.inputs
    → signal_name net (signal (length net.inputs - 1)) ≡ last_word first net.inputs
last_input_is net first l = grind (arith, input_named net (length net.inputs - 1), last_mapped, map-id net.inputs)

-- A clock that a signal is named like is an input.

found_any : (names : List (List ℕ)) (i : ℕ) (name : List ℕ) → slice_get names i ≡ Some name → list_any (bytes_eq name) names ≡ true
found_any [] i name e = cc
found_any (other ∷ names) zero name e =
    or_left (bytes_eq name other) _ ((bytes_eq-Decides name other).1 (cc))
found_any (other ∷ names) (suc i) name e = or_right (bytes_eq name other) _ (found_any names i name e)

pub driven_any : (net : Parts) (name : List ℕ) → list_any (bytes_eq name) (driven_names net) ≡ is_driven net name
driven_any net name =
    list_any-append (bytes_eq name) (map (λ (l : Latch). l.name) net.latches) (map (λ (g : Gate). g.name) net.gates)
    ∙ ap (λ b. b || list_any (bytes_eq name) (map (λ (g : Gate). g.name) net.gates)) (list_any-map (bytes_eq name) (λ (l : Latch). l.name) net.latches)
    ∙ ap (λ b. list_any (λ (l : Latch). bytes_eq name l.name) net.latches || b) (list_any-map (bytes_eq name) (λ (g : Gate). g.name) net.gates)

undriven : (net : Parts) (clock : Clock) → IsNetlist net → net.clock ≡ Some clock → is_driven net clock.name ≡ false
undriven net clock valid e = grind arith

any_signal : (net : Parts) (clock : Clock) → IsNetlist net → net.clock ≡ Some clock
    → list_any (bytes_eq clock.name) (signal_names net) ≡ list_any (bytes_eq clock.name) net.inputs
any_signal net clock valid e =
    list_any-append (bytes_eq clock.name) net.inputs (driven_names net)
    ∙ or_without_second _ _ (driven_any net clock.name ∙ undriven net clock valid e)

pub clock_is_input : (net : Parts) (clock : Clock) (s : Sig) → IsNetlist net → net.clock ≡ Some clock
    → slice_get (signal_names net) s.0 ≡ Some clock.name → true ≡ list_any (bytes_eq clock.name) net.inputs
clock_is_input net clock s valid e found = grind (arith, found_any (signal_names net) s.0 clock.name found, any_signal net clock valid e)

pub clock_is_no_input : (net : Parts) (clock : Clock) → IsNetlist net → net.clock ≡ Some clock
    → list_any (bytes_eq clock.name) (signal_names net) ≡ false → false ≡ list_any (bytes_eq clock.name) net.inputs
clock_is_no_input net clock valid e absent = sym absent ∙ any_signal net clock valid e
