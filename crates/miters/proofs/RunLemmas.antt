-- Tick by tick, two netlists that agree show the same by name.
use Rattle.std.proofs.Common.{◌≡◌, ◌≢◌, ℕ, ◌+◌, ◌-◌, ◌<◌, ◌≤◌, Bool, false, ◌&&◌, List, [], ◌∷◌, ◌++◌, length, map, get_or, slice_get, position, All, Option, Some, None, refl, sym, ap, ap₂, ◌∙◌, arith, true≢false}
use Rattle.miters.proofs.Common.{option_map, list_any, option_or, option_map_or, bytes_eq, length-append, length-map, get_or-map, get_or_append_left, get_or-append-add, Sig, Trit, X, bits, Parts, signal, signal_names, IsNetlist, IsCareOf, CareSet, columns, is_care_vector, IsCareVector, Refusal, refusal, care_test, care_vector_decides, Answer, signal_name, latch_name, unmatched, number_or_0, output_pairs, latch_pairs, differs_at, differs, difference, at_difference, comparison, comparison_of_accepted, renamed}
use Rattle.miters.specs.declared.answer.Answer.TheVariants.{Equal, Unmatched, First, Second, Output}
use Rattle.std.proofs.lemmas.List.{map-append}
use Rattle.std.proofs.lemmas.List.Elements.{All-head, All-tail}
use Rattle.std.proofs.lemmas.Option.{slice_get-get_or}
use Rattle.std.proofs.lemmas.Simd.{map-map}
use Rattle.cyc_base.specs.declared.trit.Trit.TheVariants.{Zero, One}
use Rattle.cyc_base.proofs.OrderLemmas.{same_bit}
use Rattle.netlist.specs.declared.parts.Latch.{Latch}
use Rattle.netlist.specs.Netlists.{count, output_names}
use Rattle.netlist.specs.Fixpoint.{wire, fix, outs, next}
use Rattle.netlist.proofs.NameLemmas.{length-signal_names}
use Rattle.loops.proofs.Reading.{map_agree}
use Rattle.refusals.specs.declared.observe.Observe.TheVariants as observe
use Rattle.refusals.specs.Acceptance.{Accepts}
use Rattle.refusals.proofs.FirstLemmas.{none_passes}
use Rattle.refusals.proofs.LawLemmas.{accepted_without_refusal}
use Rattle.refusals.proofs.ShowingLemmas.{care_vector_is}
use Rattle.schedules.specs.Moments.{History, bit_at, newest}
use Rattle.schedules.specs.Runs.{Tick, Played, gates_at, outputs_at, loaded_at, played, play, vector_of, IsFairTick}
use Rattle.schedules.proofs.RunLemmas.{Fits, last_above, fits_next, run_fits}
use Rattle.schedules.specs.Accepted.{FollowsFix}
use Rattle.schedules.proofs.CareLemmas.{care_is_kept, runs_follow_fix, follows_fix}
use Rattle.schedules.proofs.SameLemmas.{same_head, same_tail}
use Rattle.netlist.specs.declared.pair.Pair.{Pair}
use Rattle.miters.specs.declared.answer.Answer.TheVariants.{Latch as LatchAt}
use Rattle.miters.specs.Matching.{latch_named}
use Rattle.miters.specs.Differences.{column_named, by_name, signal_named, source_named, pair_of, are_different, HaveOneSource}
use Rattle.miters.proofs.MatchLemmas.{Match, matched, care_by_name, latch_any}
use Rattle.miters.proofs.NameLemmas.{input_behind, latch_at, latch_found, nowhere_any, signal_found}
use Rattle.miters.specs.Runs.{latch_names, EqualRunAlike}
use Rattle.miters.proofs.RenamingLemmas.{IsPlaceOf, place_of, place_first, place_behind, renamed_is, bit_read}

-- ---- what is found where two netlists agree

pub record Agree (a : Parts) (care_a : CareSet) (b : Parts) (care_b : CareSet) : Type 0 where
  pub match_ : Match a b
  pub first : Accepts a care_a observe.All
  pub second : Accepts b care_b observe.All
  pub nothing : difference a b care_a ≡ None

no_name : (o : Option (List ℕ)) (rest : Option Answer) (last : Answer) → option_map_or (λ (answer : Answer). answer) (option_or (option_map Unmatched o) rest) last ≡ Equal → o ≡ None
no_name None rest last e = refl
no_name (Some name) rest last e = cc

no_refusal : (of : Refusal → Answer) → ((r : Refusal) → of r ≢ Equal) → (o : Option Refusal) (rest : Option Answer) (last : Answer) → option_map_or (λ (answer : Answer). answer) (option_or (option_map of o) rest) last ≡ Equal → o ≡ None
no_refusal of never None rest last e = refl
no_refusal of never (Some r) rest last e = absurd (never r e)

no_vector : (a b : Parts) (o : Option (List Bool)) → option_map_or (at_difference a b) o Equal ≡ Equal → o ≡ None
no_vector a b None e = refl
no_vector a b (Some v) e = absurd (by (position (differs_at a b v) (output_pairs a b)) e)
  where
    by : (o : Option ℕ) → option_map_or (λ at. Output v at) o (LatchAt v (number_or_0 (position (differs_at a b v) (latch_pairs a b)))) ≡ Equal → ⊥
    by None e = cc
    by (Some n) e = cc

agree_is : (a b : Parts) (care_a care_b : CareSet) → IsNetlist a → IsNetlist b → comparison a care_a b care_b ≡ Equal → Agree a care_a b care_b
agree_is a b care_a care_b valid_a valid_b e =
    let last : Answer = comparison_of_accepted a b care_a in
    let name : unmatched a b ≡ None = no_name (unmatched a b) _ last e in
    let after_name = sym (ap (λ o. option_map_or (λ (answer : Answer). answer) (option_or (option_map Unmatched o) (option_or (option_map First (refusal a care_a observe.All)) (option_or (option_map Second (refusal b care_b observe.All)) None))) last) name) ∙ e in
    let one : refusal a care_a observe.All ≡ None = no_refusal First (λ r f. cc) (refusal a care_a observe.All) _ last after_name in
    let after_one = sym (ap (λ o. option_map_or (λ (answer : Answer). answer) (option_or (option_map First o) (option_or (option_map Second (refusal b care_b observe.All)) None)) last) one) ∙ after_name in
    let two : refusal b care_b observe.All ≡ None = no_refusal Second (λ r f. cc) (refusal b care_b observe.All) _ last after_one in
    let after_two : last ≡ Equal = sym (ap (λ o. option_map_or (λ (answer : Answer). answer) (option_or (option_map Second o) None) last) two) ∙ after_one in
    record {
      match_ = matched a b name;
      first = (accepted_without_refusal a care_a observe.All valid_a).0 one;
      second = (accepted_without_refusal b care_b observe.All valid_b).0 two;
      nothing = no_vector a b (difference a b care_a) after_two;
    }

-- ---- values that don't differ

not_different : (x y : Trit) → are_different x y ≡ false → x ≡ y
not_different Zero Zero e = refl
not_different Zero One e = absurd (true≢false e)
not_different Zero X e = absurd (true≢false e)
not_different One Zero e = absurd (true≢false e)
not_different One One e = refl
not_different One X e = absurd (true≢false e)
not_different X Zero e = absurd (true≢false e)
not_different X One e = absurd (true≢false e)
not_different X X e = refl

-- ---- names

-- a signal's name at its place
name_there : (net : Parts) (s : ℕ) → s < count net → slice_get (signal_names net) s ≡ Some (get_or (signal_names net) s [])
name_there net s inside =
    let n = length-signal_names net in
    slice_get-get_or (signal_names net) s [] (omega (arith, inside, n))

module _ (a b : Parts) (valid_a : IsNetlist a) (valid_b : IsNetlist b) (match_ : Match a b) where
  latch_there : (k : ℕ) (d : Latch) → k < length b.latches → (place : ℕ) × IsPlaceOf (latch_names a) (get_or b.latches k d).name place
  latch_there k d less = place_of (latch_names a) (get_or b.latches k d).name (latch_any (get_or b.latches k d).name a.latches (match_.latches_ba k d less))

  -- a latch of a has its name at its place, and no input has it
  latch_name_at : (place : ℕ) (d : Latch) → place < length a.latches → slice_get (signal_names a) (length a.inputs + place) ≡ Some (get_or a.latches place d).name
  latch_name_at place d less = name_there a (length a.inputs + place) (omega (arith, less)) ∙ ap (λ (n : List ℕ). Some n) (latch_at a place d less)

  -- the vector of b's columns, where inputs and latches are taken by name
  input_value : (i q : List Bool) → length i ≡ length a.inputs → (k : ℕ) (d : List ℕ) → k < length b.inputs →
      get_or i (number_or_0 (position (bytes_eq (get_or b.inputs k d)) a.inputs)) false ≡ get_or (i ++ q) (column_named a (get_or b.inputs k d)) false
  input_value i q long k d less =
      let name : List ℕ = get_or b.inputs k d in
      let at = place_of a.inputs name (match_.inputs_ba k d less) in
      let place : ℕ = at.0 in
      let is = at.1.is in
      let within = at.1.within in
      ap (λ o. get_or i (number_or_0 o) false) is
      ∙ sym (get_or_append_left i q false place (omega (arith, within, long)))
      ∙ sym (ap (λ o. get_or (i ++ q) (number_or_0 o) false) (place_first (bytes_eq name) a.inputs (map latch_name a.latches) place is))

  latch_value : (i q : List Bool) → length i ≡ length a.inputs → (k : ℕ) (d : Latch) → k < length b.latches →
      get_or q (number_or_0 (position (bytes_eq (get_or b.latches k d).name) (latch_names a))) false ≡ get_or (i ++ q) (column_named a (get_or b.latches k d).name) false
  latch_value i q long k d less =
      let name : List ℕ = (get_or b.latches k d).name in
      let at = latch_there k d less in
      let place : ℕ = at.0 in
      let is = at.1.is in
      let m = length-map a.latches latch_name in
      let within : place < length a.latches = let w = at.1.within in omega (arith, w, m) in
      let own : (get_or a.latches place d).name ≡ name = sym (get_or-map latch_name a.latches place d [] within) ∙ at.1.named in
      let none : list_any (bytes_eq name) a.inputs ≡ false =
      input_behind a name (length a.inputs + place) valid_a (latch_name_at place d within ∙ ap (λ (n : List ℕ). Some n) own) (omega arith) in
      ap (λ o. get_or q (number_or_0 o) false) is
      ∙ sym (get_or-append-add i q place false)
      ∙ ap (λ (n : ℕ). get_or (i ++ q) (n + place) false) long
      ∙ sym (ap (λ o. get_or (i ++ q) (number_or_0 o) false) (place_behind (bytes_eq name) a.inputs (map latch_name a.latches) place none is))

  pub vector_alike : (i q : List Bool) → length i ≡ length a.inputs → renamed a.inputs b.inputs i ++ renamed (latch_names a) (latch_names b) q ≡ by_name a b (i ++ q)
  vector_alike i q long =
      let value : List ℕ → Bool = λ name. get_or (i ++ q) (column_named a name) false in
      ap₂ (λ (xs ys : List Bool). xs ++ ys)
      (map_agree (λ name. get_or i (number_or_0 (position (bytes_eq name) a.inputs)) false) value b.inputs (input_value i q long))
      (map-map (λ name. get_or q (number_or_0 (position (bytes_eq name) (latch_names a))) false) latch_name b.latches
      ∙ map_agree (λ (latch : Latch). get_or q (number_or_0 (position (bytes_eq latch.name) (latch_names a))) false) (λ (latch : Latch). value latch.name) b.latches (latch_value i q long)
      ∙ sym (map-map value latch_name b.latches))
      ∙ sym (map-append value b.inputs (map latch_name b.latches))
      ∙ sym (map-map (λ column. get_or (i ++ q) column false) (column_named a) (b.inputs ++ map latch_name b.latches))

  -- ---- one tick

  -- what a tick shows and loads, by name
  pub record TickAlike (first twin : Played) : Type 0 where
    pub outputs : outputs_at b (newest twin.ended) ≡ renamed (output_names a) (output_names b) (outputs_at a (newest first.ended))
    pub loads : loaded_at b (newest twin.ended) ≡ renamed (latch_names a) (latch_names b) (loaded_at a (newest first.ended))

  module _ (v : List Bool) (same : differs a b v ≡ false) where
    abbrev pairs : List Pair
    pairs = output_pairs a b ++ latch_pairs a b

    pair_same : (k : ℕ) (d : Pair) → k < length pairs → wire (fix a (bits v)) (get_or pairs k d).here ≡ wire (fix b (bits (by_name a b v))) (get_or pairs k d).there
    pair_same k d less = not_different (wire (fix a (bits v)) (get_or pairs k d).here) (wire (fix b (bits (by_name a b v))) (get_or pairs k d).there) (nowhere_any (differs_at a b v) pairs same k d less)

    output_same : (k : ℕ) (d : Sig) → k < length a.outputs → wire (fix a (bits v)) (get_or a.outputs k d) ≡ wire (fix b (bits (by_name a b v))) (signal_named b (signal_name a (get_or a.outputs k d)))
    output_same k d less =
        let f : Sig → Pair = λ s. pair_of s (signal_named b (signal_name a s)) in
        let m = length-map a.outputs f in
        let l = length-append (output_pairs a b) (latch_pairs a b) in
        let at : get_or pairs k (f d) ≡ f (get_or a.outputs k d) = get_or_append_left (output_pairs a b) (latch_pairs a b) (f d) k (omega (arith, less, m)) ∙ get_or-map f a.outputs k d (f d) less in
        ap (λ (p : Pair). wire (fix a (bits v)) p.here) (sym at)
        ∙ pair_same k (f d) (omega (arith, less, m, l))
        ∙ ap (λ (p : Pair). wire (fix b (bits (by_name a b v))) p.there) at

    latch_same : (k : ℕ) (d : Latch) → k < length a.latches → wire (fix a (bits v)) (get_or a.latches k d).from ≡ wire (fix b (bits (by_name a b v))) (source_named b (get_or a.latches k d).name)
    latch_same k d less =
        let f : Latch → Pair = λ latch. pair_of latch.from (source_named b latch.name) in
        let n : ℕ = length (output_pairs a b) in
        let m = length-map a.latches f in
        let l = length-append (output_pairs a b) (latch_pairs a b) in
        let at : get_or pairs (length (output_pairs a b) + k) (f d) ≡ f (get_or a.latches k d) = get_or-append-add (output_pairs a b) (latch_pairs a b) k (f d) ∙ get_or-map f a.latches k d (f d) less in
        ap (λ (p : Pair). wire (fix a (bits v)) p.here) (sym at)
        ∙ pair_same (length (output_pairs a b) + k) (f d) (omega (arith, less, m, l))
        ∙ ap (λ (p : Pair). wire (fix b (bits (by_name a b v))) p.there) at

    module _ (first twin : Played) (first_is : vector_of first ≡ v) (twin_is : vector_of twin ≡ by_name a b v) (follows : FollowsFix a first) (twin_follows : FollowsFix b twin) where
      shown : bits (outputs_at a (newest first.ended)) ≡ outs a (bits v)
      shown = follows.outputs ∙ ap (λ u. outs a (bits u)) first_is

      twin_shown : bits (outputs_at b (newest twin.ended)) ≡ outs b (bits (by_name a b v))
      twin_shown = twin_follows.outputs ∙ ap (λ u. outs b (bits u)) twin_is

      loaded : bits (loaded_at a (newest first.ended)) ≡ next a (bits v)
      loaded = follows.loads ∙ ap (λ u. next a (bits u)) first_is

      twin_loaded : bits (loaded_at b (newest twin.ended)) ≡ next b (bits (by_name a b v))
      twin_loaded = twin_follows.loads ∙ ap (λ u. next b (bits u)) twin_is

      output_value : (k : ℕ) → k < length (output_names b) →
          get_or (outputs_at b (newest twin.ended)) k false ≡ get_or (outputs_at a (newest first.ended)) (number_or_0 (position (bytes_eq (get_or (output_names b) k [])) (output_names a))) false
      output_value k inside =
          let none : Sig = signal 0 in
          let name : List ℕ = get_or (output_names b) k [] in
          let nb = length-map b.outputs (signal_name b) in
          let less : k < length b.outputs = omega (arith, inside, nb) in
          let s : Sig = get_or b.outputs k none in
          let name_is : name ≡ signal_name b s = get_or-map (signal_name b) b.outputs k none [] less in
          let s_named : signal s.0 ≡ signal_named b (signal_name b s) = signal_found b (signal_name b s) s.0 valid_b (name_there b s.0 (valid_b.outputs k none less)) in
          let at = place_of (output_names a) name (match_.outputs_ba k [] inside) in
          let place : ℕ = at.0 in
          let na = length-map a.outputs (signal_name a) in
          let within : place < length a.outputs = let w = at.1.within in omega (arith, w, na) in
          let r : Sig = get_or a.outputs place none in
          let r_named : signal_name a r ≡ name = sym (get_or-map (signal_name a) a.outputs place none [] within) ∙ at.1.named in
          same_bit _ _
          (bit_read (bit_at (newest twin.ended)) (wire (fix b (bits (by_name a b v)))) b.outputs twin_shown k none less
          ∙ ap (wire (fix b (bits (by_name a b v)))) (s_named ∙ ap (signal_named b) (sym name_is ∙ sym r_named))
          ∙ sym (output_same place none within)
          ∙ sym (bit_read (bit_at (newest first.ended)) (wire (fix a (bits v))) a.outputs shown place none within))
          ∙ sym (ap (λ o. get_or (outputs_at a (newest first.ended)) (number_or_0 o) false) at.1.is)

      load_value : (k : ℕ) → k < length (latch_names b) →
          get_or (loaded_at b (newest twin.ended)) k false ≡ get_or (loaded_at a (newest first.ended)) (number_or_0 (position (bytes_eq (get_or (latch_names b) k [])) (latch_names a))) false
      load_value k inside =
          let nb = length-map b.latches latch_name in
          let less : k < length b.latches = omega (arith, inside, nb) in
          by_latch b.latches refl less
        where
          by_latch : (ls : List Latch) → ls ≡ b.latches → k < length b.latches →
              get_or (loaded_at b (newest twin.ended)) k false ≡ get_or (loaded_at a (newest first.ended)) (number_or_0 (position (bytes_eq (get_or (latch_names b) k [])) (latch_names a))) false
          by_latch [] same_list less = absurd (let e = ap length same_list in omega (arith, e, less))
          by_latch (none ∷ ls) same_list less =
              let latch : Latch = get_or b.latches k none in
              let name_is : get_or (latch_names b) k [] ≡ latch.name = get_or-map latch_name b.latches k none [] less in
              let at = latch_there k none less in
              let place : ℕ = at.0 in
              let na = length-map a.latches latch_name in
              let within : place < length a.latches = let w = at.1.within in omega (arith, w, na) in
              let own : (get_or a.latches place none).name ≡ latch.name = sym (get_or-map latch_name a.latches place none [] within) ∙ at.1.named in
              let low : length b.inputs ≤ length b.inputs + k = omega arith in
              let back : (length b.inputs + k) - length b.inputs ≡ k = omega arith in
              let found : latch_named b latch.name ≡ Some latch =
              latch_found b latch.name (length b.inputs + k) latch valid_b
              (name_there b (length b.inputs + k) (omega (arith, less)) ∙ ap (λ (n : List ℕ). Some n) (latch_at b k none less)) low
              (ap (slice_get b.latches) back ∙ slice_get-get_or b.latches k none less) in
              let source : source_named b (get_or a.latches place none).name ≡ latch.from =
              ap (source_named b) own ∙ ap (λ o. option_map_or (λ (l : Latch). l.from) o (signal 0)) found in
              same_bit _ _
              (bit_read (λ (l : Latch). bit_at (newest twin.ended) l.from) (λ (l : Latch). wire (fix b (bits (by_name a b v))) l.from) b.latches twin_loaded k none less
              ∙ ap (wire (fix b (bits (by_name a b v)))) (sym source)
              ∙ sym (latch_same place none within)
              ∙ sym (bit_read (λ (l : Latch). bit_at (newest first.ended) l.from) (λ (l : Latch). wire (fix a (bits v)) l.from) a.latches loaded place none within))
              ∙ sym (ap (λ o. get_or (loaded_at a (newest first.ended)) (number_or_0 o) false) (ap (λ n. position (bytes_eq n) (latch_names a)) name_is ∙ at.1.is))

      pub tick_alike : TickAlike first twin
      tick_alike =
          let ob = length-map b.outputs (bit_at (newest twin.ended)) in
          let nb = length-map b.outputs (signal_name b) in
          let lb = length-map b.latches (λ (l : Latch). bit_at (newest twin.ended) l.from) in
          let mb = length-map b.latches latch_name in
          record {
            outputs = renamed_is (output_names a) (output_names b) (outputs_at a (newest first.ended)) (outputs_at b (newest twin.ended)) (omega (arith, ob, nb)) output_value;
            loads = renamed_is (latch_names a) (latch_names b) (loaded_at a (newest first.ended)) (loaded_at b (newest twin.ended)) (omega (arith, lb, mb)) load_value;
          }

-- ---- all ticks

module _ (a b : Parts) (care_a care_b : CareSet) (valid_a : IsNetlist a) (valid_b : IsNetlist b) (is_a : IsCareOf a care_a) (is_b : IsCareOf b care_b) (one : HaveOneSource care_a care_b) (agree : Agree a care_a b care_b) where
  -- on a care vector nothing differs
  care_same : (v : List Bool) → IsCareVector a care_a v → differs a b v ≡ false
  care_same v counts =
      let fails : (is_care_vector a care_a v && differs a b v) ≡ false =
      none_passes (columns a) (λ w. is_care_vector a care_a w && differs a b w) v (sym (care_test a care_a (differs a b)) ∙ agree.nothing) counts.width in
      ap (λ t. t && differs a b v) (sym (care_vector_is a care_a v counts)) ∙ fails

  -- and the vector by name is one of the other's care vectors
  care_other : (v : List Bool) → IsCareVector a care_a v → (w : List Bool) → w ≡ by_name a b v → length w ≡ columns b → IsCareVector b care_b w
  care_other v counts w is wide =
      care_vector_decides b care_b w wide (ap (is_care_vector b care_b) is ∙ care_by_name a b care_a care_b v is_a is_b one ∙ care_vector_is a care_a v counts)

  pub record PlaysAlike (ticks twins : List Played) : Type 0 where
    pub outputs : map (λ (tick : Played). outputs_at b (newest tick.ended)) twins ≡ map (renamed (output_names a) (output_names b)) (map (λ (tick : Played). outputs_at a (newest tick.ended)) ticks)
    pub latches : map (λ (tick : Played). tick.latches) twins ≡ map (renamed (latch_names a) (latch_names b)) (map (λ (tick : Played). tick.latches) ticks)

  abbrev IsCareTick : Played → Type 0
  IsCareTick tick = IsCareVector a care_a (vector_of tick)

  plays_alike : (own window : ℕ) (h g : History) (q p s t : List Bool) (ticks twins : List Tick) → Fits b p t → p ≡ renamed (latch_names a) (latch_names b) q →
      map (λ (tick : Tick). tick.inputs) twins ≡ map (renamed a.inputs b.inputs) (map (λ (tick : Tick). tick.inputs) ticks) →
      All IsCareTick (play a h q s ticks) → All (FollowsFix a) (play a h q s ticks) → All (IsFairTick a own) (play a h q s ticks) → All (IsFairTick b window) (play b g p t twins) →
      PlaysAlike (play a h q s ticks) (play b g p t twins)
  plays_alike own window h g q p s t [] [] fits e inputs care_ticks follows fair_a fair = record { outputs = refl; latches = refl }
  plays_alike own window h g q p s t [] (twin ∷ twins) fits e inputs care_ticks follows fair_a fair = cc
  plays_alike own window h g q p s t (tick ∷ ticks) [] fits e inputs care_ticks follows fair_a fair = cc
  plays_alike own window h g q p s t (tick ∷ ticks) (twin ∷ twins) fits e inputs care_ticks follows fair_a fair =
      let first : Played = played a h q s tick in
      let rest : List Played = play a first.ended (loaded_at a (newest first.ended)) (gates_at a (newest first.ended)) ticks in
      let other : Played = played b g p t twin in
      let other_rest : List Played = play b other.ended (loaded_at b (newest other.ended)) (gates_at b (newest other.ended)) twins in
      let here : IsFairTick a own first = All-head (IsFairTick a own) first rest fair_a in
      let there : IsFairTick b window other = All-head (IsFairTick b window) other other_rest fair in
      let counts : IsCareTick first = All-head IsCareTick first rest care_ticks in
      let v : List Bool = tick.inputs ++ q in
      let inputs_here : twin.inputs ≡ renamed a.inputs b.inputs tick.inputs = same_head twin.inputs (renamed a.inputs b.inputs tick.inputs) (map (λ (k : Tick). k.inputs) twins) (map (renamed a.inputs b.inputs) (map (λ (k : Tick). k.inputs) ticks)) inputs in
      let vector : twin.inputs ++ p ≡ by_name a b (tick.inputs ++ q) = ap₂ (λ (i l : List Bool). i ++ l) inputs_here e ∙ vector_alike a b valid_a valid_b agree.match_ tick.inputs q here.inputs in
      let wide : length (twin.inputs ++ p) ≡ columns b = let x = length-append twin.inputs p in let i = there.inputs in let l = fits.latches in omega (arith, x, i, l) in
      let other_counts : IsCareVector b care_b (twin.inputs ++ p) = care_other (tick.inputs ++ q) counts (twin.inputs ++ p) vector wide in
      let other_follows : FollowsFix b other = follows_fix b care_b observe.All agree.second valid_b other other_counts (last_above b window g p t twin fits there) in
      let alike : TickAlike a b valid_a valid_b agree.match_ first other =
      tick_alike a b valid_a valid_b agree.match_ (tick.inputs ++ q) (care_same (tick.inputs ++ q) counts) first other refl vector (All-head (FollowsFix a) first rest follows) other_follows in
      let later : PlaysAlike rest other_rest =
      plays_alike own window first.ended other.ended (loaded_at a (newest first.ended)) (loaded_at b (newest other.ended)) (gates_at a (newest first.ended)) (gates_at b (newest other.ended)) ticks twins
      (fits_next b window g p t twin fits there) alike.loads
      (same_tail twin.inputs (renamed a.inputs b.inputs tick.inputs) (map (λ (k : Tick). k.inputs) twins) (map (renamed a.inputs b.inputs) (map (λ (k : Tick). k.inputs) ticks)) inputs)
      (All-tail IsCareTick first rest care_ticks) (All-tail (FollowsFix a) first rest follows) (All-tail (IsFairTick a own) first rest fair_a) (All-tail (IsFairTick b window) other other_rest fair) in
      record {
        outputs = ap₂ (λ (x : List Bool) xs. x ∷ xs) alike.outputs later.outputs;
        latches = ap₂ (λ (x : List Bool) xs. x ∷ xs) e later.latches;
      }

pub equal_run_alike : EqualRunAlike
equal_run_alike a b care_a care_b valid_a valid_b is_a is_b one e run twin is within twin_is inputs latches =
    let agree : Agree a care_a b care_b = agree_is a b care_a care_b valid_a valid_b e in
    let all = plays_alike a b care_a care_b valid_a valid_b is_a is_b one agree run.window twin.window run.past twin.past run.latches twin.latches run.gates twin.gates run.ticks twin.ticks
    (run_fits b twin twin_is) latches inputs
    (care_is_kept a care_a observe.All run agree.first is within)
    (λ k d l. runs_follow_fix a care_a observe.All run agree.first is within k d l valid_a)
    is.ticks twin_is.ticks in
    record { outputs = all.outputs; latches = all.latches }
