-- Where two netlists differ whose names match, and what is told of two netlists.
use Rattle.std.specs.Prelude.{◌≡◌, ◌++◌, ℕ, Bool, true, false, List, [], ◌∷◌, map, find, position, option_map, slice_index_or, None}
use Rattle.std.specs.declared.option.Option.{Option}
use Rattle.std.specs.List.{list_any}
use Rattle.std.specs.Option.{option_map_or}
use Rattle.std.specs.Str.{bytes_eq}
use Rattle.cyc_base.specs.declared.sig.Sig.{Sig}
use Rattle.cyc_base.specs.declared.trit.Trit.{Trit}
use Rattle.cyc_base.specs.declared.trit.Trit.TheVariants.{Zero, One, X}
use Rattle.cyc_base.specs.Values.{bits}
use Rattle.netlist.specs.declared.parts.Parts.{Parts}
use Rattle.netlist.specs.Netlists.{signal, signal_names, signal_name}
use Rattle.netlist.specs.Faults.{first_there}
use Rattle.netlist.specs.Fixpoint.{wire, fix}
use Rattle.care_sets.specs.Binding.{column_of}
use Rattle.care_sets.specs.Care.{CareSet, column_names, IsCareVector}
use Rattle.care_sets.specs.declared.model.CareModel.{CareModel}
use Rattle.refusals.specs.declared.observe.Observe.TheVariants as observe
use Rattle.refusals.specs.Acceptance.{gate_sigs, AreDetermined}
use Rattle.refusals.specs.Refusals.{care_vectors, refusal}
use Rattle.miters.specs.declared.answer.Answer.{Answer}
use Rattle.miters.specs.declared.answer.Answer.TheVariants.{Equal, Unmatched, First, Second, Output, Latch as LatchAt}
use Rattle.netlist.specs.declared.pair.Pair.{Pair}
use Rattle.miters.specs.Matching.{latch_named, unmatched}

-- the number of a place, or 0 where there is none
abbrev pub number_or_0 : Option ℕ → ℕ
number_or_0 found = option_map_or (λ n. n) found 0

-- the column of a that has this name
abbrev pub column_named : Parts → List ℕ → ℕ
column_named a name = number_or_0 (column_of a name)

-- for each column of b the column of a of the same name
abbrev pub columns_by_name : Parts → Parts → List ℕ
columns_by_name a b = map (column_named a) (column_names b)

-- a vector of a as one of b, by name
abbrev pub by_name : Parts → Parts → List Bool → List Bool
by_name a b v = map (λ column. slice_index_or v column false) (columns_by_name a b)

-- the signal that has this name
abbrev pub signal_named : Parts → List ℕ → Sig
signal_named net name = signal (number_or_0 (position (bytes_eq name) (signal_names net)))

-- what the latch of this name loads
abbrev pub source_named : Parts → List ℕ → Sig
source_named net name = option_map_or (λ latch. latch.from) (latch_named net name) (signal 0)

abbrev pub pair_of : Sig → Sig → Pair
pair_of here there = record { here = here; there = there }

-- the outputs of one name, and what the latches of one name load
abbrev pub output_pairs : Parts → Parts → List Pair
output_pairs a b = map (λ s. pair_of s (signal_named b (signal_name a s))) a.outputs

abbrev pub latch_pairs : Parts → Parts → List Pair
latch_pairs a b = map (λ latch. pair_of latch.from (source_named b latch.name)) a.latches

abbrev pub are_different : Trit → Trit → Bool
are_different Zero Zero = false
are_different Zero One = true
are_different Zero X = true
are_different One Zero = true
are_different One One = false
are_different One X = true
are_different X Zero = true
are_different X One = true
are_different X X = false

-- they have another value in the fixpoint of a than in that of b, at a vector of a
abbrev pub differs_at : Parts → Parts → List Bool → Pair → Bool
differs_at a b v pair = are_different (wire (fix a (bits v)) pair.here) (wire (fix b (bits (by_name a b v))) pair.there)

abbrev pub differs : Parts → Parts → List Bool → Bool
differs a b v = list_any (differs_at a b v) (output_pairs a b ++ latch_pairs a b)

-- the least care vector on which some output or some latch's next state differs
abbrev pub difference : Parts → Parts → CareSet → Option (List Bool)
difference a b care = find (differs a b) (care_vectors a care)

-- at such a vector, the first output that differs, or else the first latch
abbrev pub at_difference : Parts → Parts → List Bool → Answer
at_difference a b v =
    option_map_or (λ at. Output v at)
    (position (differs_at a b v) (output_pairs a b))
    (LatchAt v (number_or_0 (position (differs_at a b v) (latch_pairs a b))))

-- what is told of two netlists that are accepted
abbrev pub comparison_of_accepted : Parts → Parts → CareSet → Answer
comparison_of_accepted a b care = option_map_or (at_difference a b) (difference a b care) Equal

-- what is told of two netlists, each with its care set: a name that doesn't match, or else a refusal, or else a difference
abbrev pub comparison : Parts → CareSet → Parts → CareSet → Answer
comparison a care_a b care_b =
    option_map_or (λ answer. answer)
    (first_there (
    option_map Unmatched (unmatched a b)
    ∷ option_map First (refusal a care_a observe.All)
    ∷ option_map Second (refusal b care_b observe.All)
    ∷ []))
    (comparison_of_accepted a b care_a)

-- the models of a care set, as they are before they are bound
abbrev pub model_of : Option CareModel → Option Parts
model_of model = option_map (λ m. m.net) model

-- two care sets are bound from the same models
pub record HaveOneSource (care_a care_b : CareSet) : Type 0 where
  pub assume : model_of care_a.assume ≡ model_of care_b.assume
  pub invariant : model_of care_a.invariant ≡ model_of care_b.invariant

-- both netlists are accepted: the first on its care set, and the second has no unknown gate on the vectors of the first
pub record AreAccepted (a b : Parts) (care : CareSet) : Type 0 where
  pub first : refusal a care observe.All ≡ None
  pub second : (v : List Bool) → IsCareVector a care v → AreDetermined b (by_name a b v) (gate_sigs b)
