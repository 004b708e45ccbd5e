-- What is found of two netlists speaks of their own wires and vectors, and shows itself.
use Rattle.std.proofs.Common.{◌≡◌, ℕ, Bool, true, ◌&&◌, ◌||◌, ◌<◌, List, position, Option, Some, None, refl, sym, ap₂, subst, ◌∙◌, true≢false}
use Rattle.miters.proofs.Common.{option_map, option_or, option_map_or, length-map, list_any-append, list_any_none, position-Some, Parts, signal, IsNetlist, none_found, IsCareOf, CareSet, columns, is_care_vector, IsCareVector, Refusal, care_vectors, refusal, found_passes, found_wide, care_test, refusal_is_shown, care_vector_decides, Answer, unmatched, number_or_0, output_pairs, latch_pairs, differs_at, differs, difference, at_difference, comparison_of_accepted, rebound, IsAnswerOf}
use Rattle.miters.specs.declared.answer.Answer.TheVariants.{Equal, Unmatched, First, Second, Output, Latch}
use Rattle.std.proofs.lemmas.Bool.{and_parts}
use Rattle.care_sets.specs.Binding.{IsCare}
use Rattle.refusals.specs.declared.observe.Observe.TheVariants as observe
use Rattle.cyc_base.specs.Vectors.{vectors}
use Rattle.miters.specs.Rebound.{found}
use Rattle.miters.proofs.ReboundLemmas.{rebound_is_care, rebound_source}
use Rattle.miters.specs.Runs.{RunAlike}
use Rattle.miters.proofs.RunLemmas.{equal_run_alike}
use Rattle.miters.specs.Shown.{IsShown, ShowsItself}

module _ (a b : Parts) (care : CareSet) (valid_a : IsNetlist a) (valid_b : IsNetlist b) (is_care : IsCareOf a care) (valid_care : IsCare care) where
  alike : unmatched a b ≡ None → found a b care ≡ Equal → RunAlike a b care
  alike none equal =
      equal_run_alike a b care (rebound b care) valid_a valid_b is_care (rebound_is_care a b care none is_care valid_care) (rebound_source b care (rebound b care) refl) equal

  -- a vector on which they differ
  care_vector : (v : List Bool) → difference a b care ≡ Some v → IsCareVector a care v
  care_vector v is =
      let first = sym (care_test a care (differs a b)) ∙ is in
      let passes = and_parts (is_care_vector a care v) (differs a b v) (found_passes (λ w. is_care_vector a care w && differs a b w) (vectors (columns a)) v first) in
      care_vector_decides a care v (found_wide (columns a) (λ w. is_care_vector a care w && differs a b w) v first) passes.0

  really : (v : List Bool) → difference a b care ≡ Some v → differs a b v ≡ true
  really v is = found_passes (differs a b) (care_vectors a care) v is

  -- what is found speaks of wires and vectors of the two netlists, and shows itself
  record Speaks (answer : Answer) : Type 0 where
    fits : IsAnswerOf a b answer
    shown : IsShown a b care answer

  -- the first place that differs there
  placed : (v : List Bool) → difference a b care ≡ Some v → (o l : Option ℕ) → position (differs_at a b v) (output_pairs a b) ≡ o → position (differs_at a b v) (latch_pairs a b) ≡ l →
      Speaks (option_map_or (λ at. Output v at) o (Latch v (number_or_0 l)))
  placed v is (Some at) l at_is l_is =
      let p = position-Some (differs_at a b v) (output_pairs a b) at (record { here = signal 0; there = signal 0 }) at_is in
      let less = p.0 in
      let m = length-map a.outputs _ in
      let counts = care_vector v is in
      record {
        fits = record { width = counts.width; within = subst (λ (n : ℕ). at < n) m less };
        shown = record { vector = counts; there = less; differs = p.1 };
      }
  placed v is None (Some at) at_is l_is =
      let p = position-Some (differs_at a b v) (latch_pairs a b) at (record { here = signal 0; there = signal 0 }) l_is in
      let less = p.0 in
      let m = length-map a.latches _ in
      let counts = care_vector v is in
      record {
        fits = record { width = counts.width; within = subst (λ (n : ℕ). at < n) m less };
        shown = record {
          outputs_agree = list_any_none (differs_at a b v) (output_pairs a b) (none_found (differs_at a b v) (output_pairs a b) at_is);
          latch = record { vector = counts; there = less; differs = p.1 };
        };
      }
  placed v is None None at_is l_is =
      absurd (true≢false (
      sym (really v is)
      ∙ list_any-append (differs_at a b v) (output_pairs a b) (latch_pairs a b)
      ∙ ap₂ (λ x y. x || y) (list_any_none (differs_at a b v) (output_pairs a b) (none_found (differs_at a b v) (output_pairs a b) at_is)) (list_any_none (differs_at a b v) (latch_pairs a b) (none_found (differs_at a b v) (latch_pairs a b) l_is))))

  of_accepted : unmatched a b ≡ None → (o : Option (List Bool)) → difference a b care ≡ o → found a b care ≡ option_map_or (at_difference a b) o Equal →
      Speaks (option_map_or (at_difference a b) o Equal)
  of_accepted none None is same = record { fits = tt; shown = alike none same }
  of_accepted none (Some v) is same = placed v is (position (differs_at a b v) (output_pairs a b)) (position (differs_at a b v) (latch_pairs a b)) refl refl

  abbrev told : Option (List ℕ) → Option Refusal → Option Refusal → Answer
  told name one two =
      option_map_or (λ (answer : Answer). answer) (option_or (option_map Unmatched name) (option_or (option_map First one) (option_or (option_map Second two) None))) (comparison_of_accepted a b care)

  of_parts : (name : Option (List ℕ)) (one two : Option Refusal) → unmatched a b ≡ name → refusal a care observe.All ≡ one → refusal b (rebound b care) observe.All ≡ two →
      found a b care ≡ told name one two → Speaks (told name one two)
  of_parts (Some name) one two name_is one_is two_is same = record { fits = tt; shown = name_is }
  of_parts None (Some r) two name_is one_is two_is same =
      let is = refusal_is_shown a care observe.All r valid_a one_is in
      record { fits = is.0; shown = is.1 }
  of_parts None None (Some r) name_is one_is two_is same =
      let is = refusal_is_shown b (rebound b care) observe.All r valid_b two_is in
      record { fits = is.0; shown = is.1 }
  of_parts None None None name_is one_is two_is same = of_accepted name_is (difference a b care) refl same

  found_speaks : Speaks (found a b care)
  found_speaks = of_parts (unmatched a b) (refusal a care observe.All) (refusal b (rebound b care) observe.All) refl refl refl refl

  pub found_shows_itself : ShowsItself a b care
  found_shows_itself = record { shown = found_speaks.shown }

  pub found_fits : (answer : Answer) → answer ≡ found a b care → IsAnswerOf a b answer
  found_fits answer is = subst (IsAnswerOf a b) (sym is) found_speaks.fits
