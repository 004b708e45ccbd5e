-- The steps of a comparison, by its definition.
use Rattle.std.proofs.Common.{◌≡◌, ℕ, ◌+◌, ◌-◌, ◌≤◌, Bool, ◌&&◌, List, [], ◌∷◌, ◌++◌, length, All, Option, Some, None, sym, ap, ap₂, ◌∙◌, arith}
use Rattle.miters.proofs.Common.{option_map, All-map, option_map_or, Gate, Parts, count, IsNetlist, IsCareOf, CareSet, columns, is_care_vector, some_is_apart, IsPairOf, unmatched, Answer, columns_by_name, by_name, output_pairs, latch_pairs, differs, difference, HaveOneSource, AreAccepted, moved_pair_by, joined, joined_pairs, vectors, Refusal, refusal, find-filter, found_wide, accepted_without_refusal, care_vector_decides, least_apart, at_difference, comparison_of_accepted, comparison}
use Rattle.netlist.specs.Faults.{first_there}
use Rattle.refusals.specs.declared.observe.Observe.TheVariants as observe
use Rattle.miters.specs.declared.answer.Answer.TheVariants.{Equal, Unmatched, First, Second}
use Rattle.miters.proofs.MatchLemmas.{matched, length-by_name, length-table, care_by_name}
use Rattle.miters.proofs.JoinLemmas.{pairs_for, apart_same, moved_within, length-joined}
use Rattle.miters.proofs.DifferenceLemmas.{agree_on_care, known_a}

-- two netlists that are accepted, each on its care set
pub both_accepted : (a b : Parts) (care_a care_b : CareSet) → IsNetlist b → IsCareOf a care_a → IsCareOf b care_b → HaveOneSource care_a care_b →
    refusal a care_a observe.All ≡ None → refusal b care_b observe.All ≡ None → AreAccepted a b care_a
both_accepted a b care_a care_b valid_b is_a is_b one first second = record {
  first = first;
  second = λ v counts.
      let accepts = (accepted_without_refusal b care_b observe.All valid_b).0 second in
      accepts.determined (by_name a b v)
      (care_vector_decides b care_b (by_name a b v) (length-by_name a b v)
      (care_by_name a b care_a care_b v is_a is_b one ∙ ap₂ (λ s t. s && t) counts.state counts.allowed));
}

pub care_joined : (a b : Parts) (more : List Gate) (care : CareSet) → IsCareOf a care → IsCareOf (joined a b more) care
care_joined a b more care is = grind arith

module _ (a b : Parts) (valid_a : IsNetlist a) (valid_b : IsNetlist b) (none : unmatched a b ≡ None) where
  -- pairs have numbers in the joined netlist
  pub pairs_fit : (table : List ℕ) (most : ℕ) → table ≡ columns_by_name a b → count a + length b.gates ≤ most → All (λ pair. count a + (pair.there.0 - length table) ≤ most) (output_pairs a b ++ latch_pairs a b)
  pairs_fit table most is fits k d l = grind (arith, pairs_for a b valid_a valid_b (matched a b none) k d l, matched a b none, length-table a b)

  -- and are wires of it
  pub pairs_joined : (more : List Gate) → All (IsPairOf (joined a b more)) (joined_pairs a b)
  pairs_joined more =
      All-map (IsPairOf (joined a b more)) (moved_pair_by (columns_by_name a b) (count a)) (output_pairs a b ++ latch_pairs a b)
      (λ k d l.
      let p = pairs_for a b valid_a valid_b (matched a b none) k d l in
      let e = length-joined a b more in
      let here = p.here in
      record { here = omega arith; there = moved_within a b more (matched a b none) _ p.there })

  module _ (care : CareSet) (accepted : AreAccepted a b care) where
    -- so the least vector of the joined netlist on which some pair differs is that of the two netlists
    pub least_joined : (more : List Gate) → least_apart (joined a b more) care (joined_pairs a b) ≡ difference a b care
    least_joined more =
        grind (arith, agree_on_care a care (some_is_apart (joined a b more) (joined_pairs a b)) (differs a b), apart_same a b more valid_a valid_b (matched a b none), matched a b none, known_a a b care valid_a valid_b (matched a b none) accepted)

-- such a vector has the first netlist's width
pub difference_wide : (a b : Parts) (care : CareSet) (v : List Bool) → difference a b care ≡ Some v → length v ≡ columns a
difference_wide a b care v is = grind (arith, found_wide (columns a), find-filter (differs a b) (is_care_vector a care) (vectors (columns a)))

-- ---- the answer, part by part

abbrev told : Option (List ℕ) → Option Refusal → Option Refusal → Answer → Answer
told name first second last = option_map_or (λ (answer : Answer). answer) (first_there (option_map Unmatched name ∷ option_map First first ∷ option_map Second second ∷ [])) last

module _ (a : Parts) (care_a : CareSet) (b : Parts) (care_b : CareSet) where
  pub told_unmatched : (name : List ℕ) → Some name ≡ unmatched a b → Unmatched name ≡ comparison a care_a b care_b
  told_unmatched name is = ap (λ n. told n (refusal a care_a observe.All) (refusal b care_b observe.All) (comparison_of_accepted a b care_a)) is

  module _ (none : unmatched a b ≡ None) where
    pub told_first : (r : Refusal) → Some r ≡ refusal a care_a observe.All → First r ≡ comparison a care_a b care_b
    told_first r is = ap₂ (λ n x. told n x (refusal b care_b observe.All) (comparison_of_accepted a b care_a)) (sym none) is

    pub told_second : (r : Refusal) → None ≡ refusal a care_a observe.All → Some r ≡ refusal b care_b observe.All → Second r ≡ comparison a care_a b care_b
    told_second r first is = grind arith

    pub told_last : None ≡ refusal a care_a observe.All → None ≡ refusal b care_b observe.All → comparison_of_accepted a b care_a ≡ comparison a care_a b care_b
    told_last first second = grind arith

-- at a vector, or nowhere
pub told_of : (a b : Parts) (care : CareSet) (found : Option (List Bool)) → found ≡ difference a b care → option_map_or (at_difference a b) found Equal ≡ comparison_of_accepted a b care
told_of a b care found is = ap (λ o. option_map_or (at_difference a b) o Equal) is
