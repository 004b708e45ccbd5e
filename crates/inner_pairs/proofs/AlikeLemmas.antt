-- Pairs of wires that are never apart, and pairs of the joined netlist.
use Rattle.std.proofs.Common.{◌≡◌, ℕ, ◌+◌, ◌<◌, refl, None, Some, List, [], ◌∷◌, All, Bool, false, if◌then◌else◌, length, map, slice_get, ◌∙◌, arith}
use Rattle.inner_pairs.proofs.Common.{All-nil, All-cons, length-signal_names, slice_get_within, Sig, Parts, count, signal, signal_names, CareSet, IsPairOf, Pair, some_is_apart, least_apart, pair_of, joined, care_vectors}
use Rattle.std.proofs.lemmas.List.Elements.{All-head, All-tail}
use Rattle.indexmap.specs.IndexMap.{insert_entry}
use Rattle.clause_pairs.specs.Apart.{AreNeverApartIn, HasFixed}
use Rattle.miters.proofs.DifferenceLemmas.{agree_on_care}
use Rattle.miters.proofs.JoinLemmas.{length-joined}
use Rattle.miters.proofs.NameLemmas.{find_nowhere}

pub never_least : (net : Parts) (care : CareSet) (pairs : List Pair) → AreNeverApartIn net care [] pairs → least_apart net care pairs ≡ None
never_least net care pairs never =
    agree_on_care net care (some_is_apart net pairs) (λ v. false) (λ v counts. never v counts (All-nil (HasFixed v)))
    ∙ find_nowhere (λ v. false) (care_vectors net care) (λ i d m. refl)

-- a wire of the first netlist that has a name
pub named_within : (a : Parts) (name : List ℕ) (s : Sig) → slice_get (signal_names a) s.0 ≡ Some name → s.0 < count a
named_within a name s found = grind (arith, slice_get_within (signal_names a) s.0 name found, length-signal_names a)

-- a wire of the first netlist and a gate of the second are wires of the joined netlist
pub alike_pair : (a b : Parts) (s : Sig) (n : ℕ) → s.0 < count a → n < length b.gates → IsPairOf (joined a b []) (pair_of s (signal (count a + n)))
alike_pair a b s n inside less = grind (arith, length-joined a b [])

-- how many wires the joined netlist has
pub count_joined : (a b : Parts) → count (joined a b []) ≡ count a + length b.gates
count_joined a b = let many = length-joined a b [] in omega (arith, many)

-- what holds of all values of two lists of entries, of which one is chosen
chosen_values : {K V : Type 0} (T : V → Type 0) (b : Bool) (es fs : List (K × V)) → All T (map (λ e. e.1) es) → All T (map (λ e. e.1) fs) → All T (map (λ e. e.1) (if b then es else fs))
chosen_values T b es fs here there = grind arith

-- what holds of each value of a table, and of one more, holds of each where that is put in
pub values_inserted : {K V : Type 0} (eq : K → K → Bool) (T : V → Type 0) (es : List (K × V)) (k : K) (x : V) → All T (map (λ e. e.1) es) → T x → All T (map (λ e. e.1) (insert_entry eq es k x))
values_inserted eq T [] k x all holds = All-cons T x [] holds (All-nil T)
values_inserted eq T (e ∷ es) k x all holds =
    let rest = All-tail T e.1 (map (λ e. e.1) es) all in
    chosen_values T (eq k e.0) ((e.0, x) ∷ es) (e ∷ insert_entry eq es k x)
    (All-cons T x (map (λ e. e.1) es) holds rest)
    (All-cons T e.1 (map (λ e. e.1) (insert_entry eq es k x)) (All-head T e.1 (map (λ e. e.1) es) all) (values_inserted eq T es k x rest holds))
