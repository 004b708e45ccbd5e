-- The sweeps that loops need on a care set.
use Rattle.std.proofs.Common.{◌≡◌, ◌==◌, inl, inr, ℕ, ◌≤◌, Bool, true, false, not, List, [], ◌∷◌, length, map, None, refl, sym, ap, ◌∙◌, subst, arith, true≢false, zero-add}
use Rattle.std.specs.Prelude.{find}
use Rattle.std.specs.List.{list_all, range_with_len, slice_index_or}
use Rattle.std.proofs.Math.Path.{fun_ext}
use Rattle.std.proofs.lemmas.Bool.{and_from, cases_Bool, eqb-true, not-false}
use Rattle.std.proofs.lemmas.List.FromFn.{length-range_with_len, get_or-range_with_len}
use Rattle.std.proofs.lemmas.List.Sums.{passes_at_first, fails_before_first, prefix_len-le-length}
use Rattle.cyc_base.proofs.VectorLemmas.{find-none}
use Rattle.loops.specs.declared.structure.SweepCounts.{SweepCounts}
use Rattle.loops.specs.Blocks.{AreBlocksOf}
use Rattle.loops.specs.Cuts.{IsCutOf, loops_by}
use Rattle.loops.specs.Found.{loops_of}
use Rattle.loops.specs.Sweeps.{IsCountOfSweeps}
use Rattle.loops.proofs.Existence.{loops_exist}
use Rattle.loops.proofs.LoopedLemmas.{one_loop_is_told, cut_is_told}
use Rattle.loops.proofs.Sweeps.{few_sweeps_are_enough}
use Rattle.loops.proofs.Told.{told_parts}
use Rattle.care_sets.specs.Care.{CareSet, is_one, is_care_vector, IsCareVector}
use Rattle.refusals.specs.Refusals.{is_x, care_vectors}
use Rattle.refusals.proofs.FirstLemmas.{none_passes}
use Rattle.refusals.proofs.LawLemmas.{care_test}
use Rattle.refusals.proofs.RefusalLemmas.{bits_back, length-bits, fails_after, second_fails}
use Rattle.refusals.proofs.ShowingLemmas.{care_vector_decides, care_vector_is}
use Rattle.loop_simulation.specs.Sweeping.{are_care_values, AreSweepsOnCare, trit_eq, cut_wires, are_fixed, is_enough, sweeps_needed, NeededIsLeast}
use Rattle.loop_simulation.proofs.Common.{and_parts, cases_lt, eq-eqb, length-map, Trit, bits, Parts, columns, fix_gates, Blocks, Cut, Loops, home_of, CutsAreFixed, sweeps, value_in}

-- ---- values that are equal

trit_eq-refl : (a : Trit) → trit_eq a a ≡ true
trit_eq-refl a = grind arith

trit_eq-true : (a b : Trit) → trit_eq a b ≡ true → a ≡ b
trit_eq-true a b e = grind arith

equal-map : (f g : ℕ → Trit) (cs : List ℕ) → list_all (λ c. trit_eq (f c) (g c)) cs ≡ true → map f cs ≡ map g cs
equal-map f g [] e = refl
equal-map f g (c ∷ cs) e = grind (arith, and_parts, trit_eq-true, equal-map f g cs)

map-equal : (f g : ℕ → Trit) (cs : List ℕ) → map f cs ≡ map g cs → list_all (λ c. trit_eq (f c) (g c)) cs ≡ true
map-equal f g [] e = refl
map-equal f g (c ∷ cs) e = grind (arith, and_from, trit_eq-refl, map-equal f g cs)

-- ---- tests of all care vectors

all-none : {T : Type 0} (p : T → Bool) (xs : List T) → list_all p xs ≡ true → find (λ x. not (p x)) xs ≡ None
all-none p [] e = refl
all-none p (x ∷ xs) e = grind (arith, and_parts (p x) (list_all p xs) e, all-none p xs)

none-all : {T : Type 0} (p : T → Bool) (xs : List T) → find (λ x. not (p x)) xs ≡ None → list_all p xs ≡ true
none-all p [] e = refl
none-all p (x ∷ xs) e = grind (arith, cases_Bool (p x), and_from (p x) (list_all p xs), none-all p xs)

module _ (net : Parts) (care : CareSet) (p : List Bool → Bool) where
  each-care : list_all p (care_vectors net care) ≡ true → (v : List Bool) → IsCareVector net care v → p v ≡ true
  each-care e v counts = grind (arith, care_test net care, all-none p (care_vectors net care) e, none_passes (columns net), not-false (p v), second_fails (is_care_vector net care v) (not (p v)), care_vector_is net care v counts)

  all-care : ((v : List Bool) → IsCareVector net care v → p v ≡ true) → list_all p (care_vectors net care) ≡ true
  all-care each = grind (arith, none-all p (care_vectors net care), care_test net care, find-none (columns net), fails_after, care_vector_decides net care)

-- ---- values of care vectors

pub known-bits : (ts : List Trit) → list_all (λ value. not (is_x value)) ts ≡ true → ts ≡ bits (map is_one ts)
known-bits [] e = refl
known-bits (t ∷ ts) e = grind (arith, and_parts (not (is_x t)), known-bits ts)

pub bits-known : (w : List Bool) → list_all (λ value. not (is_x value)) (bits w) ≡ true
bits-known [] = refl
bits-known (false ∷ w) = bits-known w
bits-known (true ∷ w) = bits-known w

pub care-values : (net : Parts) (care : CareSet) (w : List Bool) → length w ≡ columns net → is_care_vector net care w ≡ true → are_care_values net care (bits w) ≡ true
care-values net care w wide counts =
    and_from _ _ (bits-known w) (and_from _ _ (eq-eqb (length (bits w)) (columns net) (length-bits w ∙ wide)) (ap (is_care_vector net care) (bits_back w) ∙ counts))

-- values of a care vector as one
pub record IsBitsOf (net : Parts) (care : CareSet) (v : List Trit) : Type 0 where
  pub vector : List Bool
  pub is : v ≡ bits vector
  pub counts : IsCareVector net care vector

pub bits-of-care : (net : Parts) (care : CareSet) (v : List Trit) → are_care_values net care v ≡ true → IsBitsOf net care v
bits-of-care net care v is = grind (arith, and_parts, and_parts (length v == columns net) (is_care_vector net care (map is_one v)), known-bits v, care_vector_decides net care (map is_one v), length-map v is_one, eqb-true (length v) (columns net))

-- ---- the least number of sweeps

module _ (net : Parts) (care : CareSet) (n : ℕ) where
  -- what is enough at each care vector
  enough-is : (k : ℕ) → ((v : List Bool) → IsCareVector net care v → CutsAreFixed net (loops_of net) (bits v) n k) → is_enough net care n k ≡ true
  enough-is k each =
      all-care net care (are_fixed net n k)
      (λ v counts. map-equal (value_in (sweeps net (loops_of net) (bits v) k)) (value_in (fix_gates net (bits v))) (cut_wires net n) (each v counts))

  enough-has : (k : ℕ) → is_enough net care n k ≡ true → (v : List Bool) → IsCareVector net care v → CutsAreFixed net (loops_of net) (bits v) n k
  enough-has k e v counts =
      grind (arith, equal-map (value_in (sweeps net (loops_of net) (bits v) k)) (value_in (fix_gates net (bits v))) (cut_wires net n) (each-care net care (are_fixed net n k) e v counts), each-care net care (are_fixed net n k) e v counts)

  needed-fixed : (v : List Bool) → IsCareVector net care v → CutsAreFixed net (loops_of net) (bits v) n (sweeps_needed net care n)
  needed-fixed v counts =
      let all = length (cut_wires net n) in
      let most : sweeps_needed net care n ≤ length (range_with_len 0 all) = prefix_len-le-length (λ k. not (is_enough net care n k)) (range_with_len 0 all) in
      let long = length-range_with_len 0 all in
      elim (cases_lt (sweeps_needed net care n) all) [
        | inl below ↦
            let at = get_or-range_with_len 0 all (sweeps_needed net care n) 0 below ∙ zero-add (sweeps_needed net care n) in
            let first = passes_at_first (is_enough net care n) (range_with_len 0 all) 0 (omega (arith, long, below)) in
            enough-has (sweeps_needed net care n) (ap (is_enough net care n) (sym at) ∙ first) v counts
        | inr past ↦
            let all_of_them : all ≡ sweeps_needed net care n = omega (arith, most, long, past) in
            subst (CutsAreFixed net (loops_of net) (bits v) n) all_of_them
            (few_sweeps_are_enough net (loops_of net) (loops_exist net) n (bits v) (length-bits v ∙ counts.width))
      ]

  needed-least : (k : ℕ) → ((v : List Bool) → IsCareVector net care v → CutsAreFixed net (loops_of net) (bits v) n k) → sweeps_needed net care n ≤ k
  needed-least k each =
      elim (cases_lt k (sweeps_needed net care n)) [
        | inr most ↦ most
        | inl less ↦
            let all = length (cut_wires net n) in
            let most : sweeps_needed net care n ≤ length (range_with_len 0 all) = prefix_len-le-length (λ i. not (is_enough net care n i)) (range_with_len 0 all) in
            let long = length-range_with_len 0 all in
            let at = get_or-range_with_len 0 all k 0 (omega (arith, most, long, less)) ∙ zero-add k in
            let fails = fails_before_first (is_enough net care n) (range_with_len 0 all) k 0 less in
            absurd (true≢false (sym (enough-is k each) ∙ ap (is_enough net care n) (sym at) ∙ fails))
      ]

pub needed_is_least : NeededIsLeast
needed_is_least net care n = record {
  enough = λ values e.
      let of = bits-of-care net care values e in
      subst (λ (v : List Trit). CutsAreFixed net (loops_of net) v n (sweeps_needed net care n)) (sym of.is) (needed-fixed net care n of.vector of.counts);
  least = λ k each. needed-least net care n k (λ v counts. each (bits v) (care-values net care v counts.width (care_vector_is net care v counts)));
}

-- ---- by blocks, a cut and counted sweeps

module _ (net : Parts) (blocks : Blocks) (cut : Cut) (care : CareSet) (counts : SweepCounts) (are : AreBlocksOf net blocks) (cut_is : IsCutOf net cut) (on_care : AreSweepsOnCare net blocks cut care counts) where
  -- the loops that blocks and a cut tell are those of the netlist
  told_loops : loops_by blocks cut ≡ loops_of net
  told_loops = grind (arith, one_loop_is_told (record { net = net; blocks = blocks; cut = cut }) (record { blocks = are; cut = cut_is }), cut_is_told (record { net = net; blocks = blocks; cut = cut }) (record { blocks = are; cut = cut_is }), fun_ext)

  -- two least numbers are one
  one_least : (l : Loops) (test : List Trit → Bool) (n a b : ℕ) → IsCountOfSweeps net l test n a → IsCountOfSweeps net l test n b → a ≡ b
  one_least l test n a b first second = grind arith

  pub counts_are_needed : (n : ℕ) → (loops_of net).same n n ≡ true → slice_index_or counts.per_block (home_of blocks n) 0 ≡ sweeps_needed net care n
  counts_are_needed n looped =
      let told = told_parts net blocks are n n (subst (λ (l : Loops). l.same n n ≡ true) (sym told_loops) looped) in
      one_least (loops_of net) (are_care_values net care) n (slice_index_or counts.per_block (home_of blocks n) 0) (sweeps_needed net care n)
      (subst (λ (l : Loops). IsCountOfSweeps net l (are_care_values net care) n (slice_index_or counts.per_block (home_of blocks n) 0)) told_loops (on_care.loops n told.first told.looped))
      (needed_is_least net care n)
