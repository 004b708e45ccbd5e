-- What the explicit evaluation of a refusal finds.
use Rattle.std.proofs.Common.{◌≡◌, ℕ, suc, not, ◌+◌, ◌<◌, ◌≤◌, Bool, true, false, ◌&&◌, List, [], ◌∷◌, length, zip, drop, get_or, slice_get, Some, refl, ap, ap₂, arith}
use Rattle.std.specs.Prelude.{IsTrue, ◌↔◌}
use Rattle.std.specs.List.{list_all, AllZip}
use Rattle.std.proofs.lemmas.List.{drop_more, drop_all}
use Rattle.std.proofs.lemmas.Option.{get_or_from_slice_get, slice_get_within}
use Rattle.std.proofs.lemmas.Bool.{and_parts, not-true}
use Rattle.cyc_base.specs.declared.trit.Trit.{Trit}
use Rattle.cyc_base.specs.declared.trit.Trit.TheVariants.{X}
use Rattle.cyc_base.specs.Values.{bit, bits}
use Rattle.cyc_base.specs.declared.sig.Sig.{Sig}
use Rattle.netlist.specs.Netlists.{columns}
use Rattle.netlist.specs.declared.parts.Init.TheVariants as inits
use Rattle.netlist.specs.Fixpoint.{next, Permits, IsInitialState}
use Rattle.netlist.specs.declared.parts.Latch.{Latch}
use Rattle.netlist.specs.declared.parts.Parts.{Parts}
use Rattle.care_sets.specs.Care.{CareSet, is_in_invariant, is_care_vector, IsCareVector}
use Rattle.refusals.specs.Refusals.{may_start, is_initial, is_value, is_x, is_undetermined, IsOutside, IsUnknownAt, LeavesTo}

-- each latch may start with its value
abbrev pub all_may_start : List Latch → List Bool → Bool
all_may_start latches q = list_all (λ p. may_start p.0.init p.1) (zip latches q)

next_latch : (latches : List Latch) (q : List Bool) (n : ℕ) (latch : Latch) (d : Bool) → slice_get latches n ≡ Some latch → n < length q →
    all_may_start (drop n latches) (drop n q) ≡ (may_start latch.init (get_or q n d) && all_may_start (drop (n + 1) latches) (drop (n + 1) q))
next_latch latches q n latch d found inside = grind (arith, drop_more latches n latch (slice_get_within latches n latch found), slice_get_within latches n latch found, get_or_from_slice_get latches n latch latch found, drop_more q n d inside)

pub one_may_not : (latches : List Latch) (q : List Bool) (n : ℕ) (latch : Latch) (d : Bool) → slice_get latches n ≡ Some latch → n < length q →
    false ≡ may_start latch.init (get_or q n d) → all_may_start (drop n latches) (drop n q) ≡ false
one_may_not latches q n latch d found inside fails = grind (arith, next_latch latches q n latch d found inside)

pub one_may : (latches : List Latch) (q : List Bool) (n : ℕ) (latch : Latch) (d : Bool) → slice_get latches n ≡ Some latch → n < length q →
    true ≡ may_start latch.init (get_or q n d) → all_may_start (drop (n + 1) latches) (drop (n + 1) q) ≡ all_may_start (drop n latches) (drop n q)
one_may latches q n latch d found inside holds = grind (arith, next_latch latches q n latch d found inside)

pub none_left : (latches : List Latch) (q : List Bool) (n : ℕ) → length latches ≤ n → all_may_start (drop n latches) (drop n q) ≡ true
none_left latches q n end = ap (λ (l : List Latch). all_may_start l (drop n q)) (drop_all n latches end)

is_value_decides : (t : Trit) (b : Bool) → is_value t b ≡ true → t ≡ bit b
is_value_decides t b e = grind arith

bit_is_value : (b : Bool) → is_value (bit b) b ≡ true
bit_is_value b = grind arith

each_is_value : (ts : List Trit) (q : List Bool) → length ts ≡ length q → list_all (λ p. is_value p.0 p.1) (zip ts q) ≡ true → ts ≡ bits q
each_is_value [] [] long e = refl
each_is_value [] (b ∷ q) long e = absurd (omega arith)
each_is_value (t ∷ ts) [] long e = absurd (omega arith)
each_is_value (t ∷ ts) (b ∷ q) long e = grind (arith, and_parts, is_value_decides, each_is_value ts q)

bits_are_values : (q : List Bool) → list_all (λ p. is_value p.0 p.1) (zip (bits q) q) ≡ true
bits_are_values [] = refl
bits_are_values (b ∷ q) = ap₂ (λ s t. s && t) (bit_is_value b) (bits_are_values q)

pub are_bits_decides : (ts : List Trit) (q : List Bool) (r : Bool) → length ts ≡ length q → r ≡ list_all (λ p. is_value p.0 p.1) (zip ts q) → IsTrue r ↔ (ts ≡ bits q)
are_bits_decides ts q r long is = grind (arith, each_is_value, bits_are_values)

initial_decides : (latches : List Latch) (q : List Bool) → length q ≡ length latches → all_may_start latches q ≡ true → AllZip (λ latch. Permits latch.init) latches q
initial_decides [] [] long e = tt
initial_decides [] (b ∷ q) long e = absurd (omega arith)
initial_decides (latch ∷ latches) [] long e = absurd (omega arith)
initial_decides (latch ∷ latches) (b ∷ q) long e = grind (arith, and_parts, initial_decides latches q)

initial_is : (latches : List Latch) (q : List Bool) → AllZip (λ latch. Permits latch.init) latches q → all_may_start latches q ≡ true
initial_is [] [] h = refl
initial_is [] (b ∷ q) h = absurd h
initial_is (latch ∷ latches) [] h = absurd h
initial_is (latch ∷ latches) (b ∷ q) h = grind (arith, initial_is latches q)

initial_length : (latches : List Latch) (q : List Bool) → AllZip (λ latch. Permits latch.init) latches q → length q ≡ length latches
initial_length [] [] h = refl
initial_length [] (b ∷ q) h = absurd h
initial_length (latch ∷ latches) [] h = absurd h
initial_length (latch ∷ latches) (b ∷ q) h = ap suc (initial_length latches q h.1)

-- the test of a state decides whether the inits permit it
pub is_initial_decides : (net : Parts) (q : List Bool) → length q ≡ length net.latches → is_initial net q ≡ true → IsInitialState net q
is_initial_decides net q long e = initial_decides net.latches q long e

pub initial_state_is : (net : Parts) (q : List Bool) → IsInitialState net q → is_initial net q ≡ true
initial_state_is net q h = initial_is net.latches q h

pub length-initial_state : (net : Parts) (q : List Bool) → IsInitialState net q → length q ≡ length net.latches
length-initial_state net q h = initial_length net.latches q h

pub outside_decides : (net : Parts) (care : CareSet) (q : List Bool) (r : Bool) → length q ≡ length net.latches →
    r ≡ (is_initial net q && not (is_in_invariant care q)) → IsTrue r ↔ IsOutside net care q
outside_decides net care q r long is = grind (arith, and_parts, is_initial_decides, not-true, initial_state_is)

-- the test of a vector decides whether it counts
pub care_vector_decides : (net : Parts) (care : CareSet) (v : List Bool) → length v ≡ columns net → is_care_vector net care v ≡ true → IsCareVector net care v
care_vector_decides net care v wide e = grind arith

pub care_vector_is : (net : Parts) (care : CareSet) (v : List Bool) → IsCareVector net care v → is_care_vector net care v ≡ true
care_vector_is net care v h = ap₂ (λ s t. s && t) h.state h.allowed

pub is_x_decides : (t : Trit) → is_x t ≡ true → t ≡ X
is_x_decides t e = grind arith

pub unknown_decides : (net : Parts) (care : CareSet) (v : List Bool) (s : Sig) (r : Bool) → length v ≡ columns net →
    r ≡ (is_care_vector net care v && is_undetermined net s v) → IsTrue r ↔ IsUnknownAt net care v s
unknown_decides net care v s r wide is = grind arith

-- where the vector counts and leads to the state, the invariant decides
pub leaves_decides : (net : Parts) (care : CareSet) (v q : List Bool) (counts leads r : Bool) → length v ≡ columns net → counts ≡ is_care_vector net care v →
    IsTrue leads ↔ (next net (bits v) ≡ bits q) → r ≡ (counts && (leads && not (is_in_invariant care q))) → IsTrue r ↔ LeavesTo net care v q
leaves_decides net care v q counts leads r wide counts_is leads_is is = grind arith
