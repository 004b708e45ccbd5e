-- The unrolled netlist is a netlist.
use Rattle.std.proofs.Common.{◌≡◌, inl, inr, ℕ, zero, suc, ◌+◌, ◌^◌, ◌<◌, ◌≤◌, Bool, true, false, if◌then◌else◌, List, [], ◌∷◌, ◌++◌, length, map, get_or, IfSome, ap, ap₂, sym, ◌∙◌, subst, arith, All}
use Rattle.unroll.proofs.Common.{cases_lt, append_assoc, get_or_append_left, get_or-map, length-append, length-map, map-append, get_or-append-add, get_or-range_with_len, length-range_with_len, AllByRecursion, list_any, range_with_len, IsDistinct, MAX_REWRITTEN_ITEMS, Sig, all_weaker, map-map, all_append, all_map, longest_run, longest_run_of, Gate, Parts, gate_at, signal_names, Loops, AreLoopsOf, first_gate, gate_of, in_loop_of, in_loop_from, same_within, mark, copy_name, longest_run_in, clock_names, zero_name, Copy, copy_of, copies_of, copies, most, constants, shift, moved, old_signal, kept_latch, unrolled, IsOfLoops, unrolled_size, All-from_recursion, All-map, option_map_or, bytes_eq, Option, IsBlifName, longest-append, Clock}
use Rattle.std.proofs.lemmas.Bool.{cases_order, eqb-false, ne_eqb, or_from, or_parts}
use Rattle.std.proofs.lemmas.List.FromFn.{fill_by_all}
use Rattle.cyc_base.proofs.ListLemmas.{list_any-map}
use Rattle.netlist.specs.Netlists.{no_gate, is_driven, sig_eq, IsSignal, IsClockName, IsNetlist}
use Rattle.unroll.specs.Unrolled.{zero_gate}
use Rattle.std.proofs.lemmas.List.Elements.{All-from_get_or, recursion_from_All}
use Rattle.std.proofs.lemmas.List.Folds.{list_any-append}
use Rattle.std.proofs.lemmas.List.Sums.{get_or-le-sum_by}
use Rattle.std.proofs.lemmas.Map.Made.{AllPairs-from_IsDistinct, IsDistinct-from_AllPairs}
use Rattle.std.proofs.lemmas.Slice.Eq.{bytes_eq-Decides}
use Rattle.netlist.specs.declared.parts.Latch.{Latch}
use Rattle.netlist.proofs.NameLemmas.{length-signal_names}
use Rattle.unroll.proofs.NameLemmas.{copy_is_long, zero_is_long, all_short, copy_names_tell, zero_is_no_copy, zero_name_fits, copy_name_fits, Apart, all_between, distinct_append, distinct_between, short_from_long, long_from_short, short_is_none, all_of_first, all_of_second}
use Rattle.unroll.proofs.Measures.{size_is_shift, count_unrolled, length-unrolled}
use Rattle.unroll.proofs.Numbered.{has, numbered, pin_of, Stands, stands, has_number, moved_low, moved_high}
use Rattle.unroll.proofs.Places.{IsCopy, upto_are, upto_apart}
use Rattle.unroll.proofs.Rounds.{has_same}

-- what holds of all choices
of_three : (P : Sig → Type 0) (b d : Bool) (x y z : Sig) → (b ≡ true → P x) → (b ≡ true → P y) → P z → P (if b then (if d then x else y) else z)
of_three P b d x y z h k l = grind arith

-- gates are moved up, each to a place of its own
moved_tells : (net : Parts) (by : ℕ) (x y : Sig) → (moved net by x).0 ≡ (moved net by y).0 → x.0 ≡ y.0
moved_tells net by x y e = grind arith

-- names of gates
abbrev pub gate_names : List Gate → List (List ℕ)
gate_names gates = map (λ gate. gate.name) gates

abbrev pub latch_names : List Latch → List (List ℕ)
latch_names latches = map (λ latch. latch.name) latches

module _ (net : Parts) (loops : Loops) (m : ℕ → ℕ) where
  abbrev new : Parts
  new = unrolled net loops m

  abbrev level : ℕ
  level = longest_run_in net

  abbrev pub old_names : List (List ℕ)
  old_names = net.inputs ++ latch_names net.latches

  abbrev pub zero_names : List (List ℕ)
  zero_names = gate_names (constants net loops)

  abbrev pub copy_names : List Copy → List (List ℕ)
  copy_names cs = map (λ copy. copy_name (mark net) copy.number (gate_at net copy.gate).name) cs

  latches_named : latch_names (map (kept_latch net (shift net loops m)) net.latches) ≡ latch_names net.latches
  latches_named = map-map (λ latch. latch.name) (kept_latch net (shift net loops m)) net.latches

  own_named : map (λ n. (gate_at net n).name) (range_with_len 0 (length net.gates)) ≡ gate_names net.gates
  own_named =
      sym (fill_by_all (λ n. (gate_at net n).name) (gate_names net.gates) (length net.gates) []
      (length-map net.gates (λ gate. gate.name))
      (λ n l. get_or-map (λ gate. gate.name) net.gates n no_gate [] l))

  -- the new names
  abbrev pub new_names : List (List ℕ)
  new_names = zero_names ++ copy_names (copies net loops m)

  gates_named : gate_names new.gates ≡ new_names ++ gate_names net.gates
  gates_named = grind (arith, map-append, map-map, own_named, append_assoc)

  pub names_new : signal_names new ≡ old_names ++ (new_names ++ gate_names net.gates)
  names_new = grind (arith, latches_named, gates_named, append_assoc)

  pub names_old : signal_names net ≡ old_names ++ gate_names net.gates
  names_old = sym (append_assoc net.inputs (latch_names net.latches) (gate_names net.gates))

  pub old_wide : length old_names ≡ first_gate net
  old_wide = length-append net.inputs (latch_names net.latches) ∙ ap (λ n. length net.inputs + n) (length-map net.latches (λ latch. latch.name))

  name_of_gate : (n : ℕ) → n < length net.gates → get_or (signal_names net) (first_gate net + n) [] ≡ (gate_at net n).name
  name_of_gate n l = grind (arith, names_old, old_wide, get_or-append-add, get_or-map)

  -- what holds of the constant holds of all that there are
  all_constants : (P : Gate → Type 0) → P (zero_gate (mark net)) → AllByRecursion P (constants net loops)
  all_constants P h = grind arith

  abbrev name_of_copy : Copy → List ℕ
  name_of_copy copy = copy_name (mark net) copy.number (gate_at net copy.gate).name

  all_new : (P : List ℕ → Type 0) → P (zero_name (mark net)) → All (λ copy. P (name_of_copy copy)) (copies net loops m) → AllByRecursion P new_names
  all_new P h k =
      all_append P zero_names (copy_names (copies net loops m))
      (all_map P (λ gate. gate.name) (constants net loops) (all_constants (λ gate. P gate.name) h))
      (all_map P name_of_copy (copies net loops m) (recursion_from_All (λ copy. P (name_of_copy copy)) (copies net loops m) k))

  -- the netlist's names are short, and the new ones are long
  names_short : AllByRecursion (λ name. longest_run name ≤ level) (old_names ++ gate_names net.gates)
  names_short = grind (arith, longest-append, names_old, all_short)

  new_long : AllByRecursion (λ name. level < longest_run name) new_names
  new_long =
      all_new (λ name. level < longest_run name)
      (let h = zero_is_long (suc level) in omega arith)
      (λ i d l.
      let copy = get_or (copies net loops m) i d in
      let h = copy_is_long (suc level) copy.number (gate_at net copy.gate).name in
      omega arith)

  zero_alone : IsDistinct bytes_eq zero_names
  unfolding IsDistinct
  zero_alone = grind arith

  zero_from_copies : Apart zero_names (copy_names (copies net loops m))
  zero_from_copies = grind (arith, all_map, all_constants, recursion_from_All, zero_is_no_copy)

  module _ (is : IsNetlist net) where
    -- gates of one name are one
    gate_of_name : (i j : ℕ) → i < length net.gates → j < length net.gates → (gate_at net i).name ≡ (gate_at net j).name → i ≡ j
    gate_of_name i j l k e =
        let apart = AllPairs-from_IsDistinct bytes_eq-Decides (signal_names net) is.names_differ in
        let all = length-signal_names net in
        let at_i = name_of_gate i l in
        let at_j = name_of_gate j k in
        elim (cases_order i j) [
          | inl same ↦ same
          | inr (inl less) ↦ absurd (apart (first_gate net + i) (first_gate net + j) [] (omega arith) (omega arith) (at_i ∙ e ∙ sym at_j))
          | inr (inr more) ↦ absurd (apart (first_gate net + j) (first_gate net + i) [] (omega arith) (omega arith) (at_j ∙ sym e ∙ sym at_i))
        ]

    module _ (are : AreLoopsOf net loops) (of_loops : IsOfLoops loops m) (small : unrolled_size net loops.same m ≤ MAX_REWRITTEN_ITEMS) where
      abbrev IsCopyHere : Copy → Type 0
      IsCopyHere copy = IsCopy net loops m (most loops.same m (length net.gates)) copy

      copies_are : All IsCopyHere (copies net loops m)
      copies_are = upto_are net loops m (most loops.same m (length net.gates))

      few_copies : (n : ℕ) → n < length net.gates → copies_of loops.same m n ≤ MAX_REWRITTEN_ITEMS
      few_copies n l =
          let r = range_with_len 0 (length net.gates) in
          grind (arith, length-range_with_len 0 (length net.gates), get_or-le-sum_by (copies_of loops.same m) r n 0, get_or-range_with_len 0 (length net.gates) n 0 l)

      low_number : (copy : Copy) → IsCopyHere copy → copy.number < 2 ^ 64
      low_number copy c = (let few = few_copies copy.gate c.gate in let n = c.few in omega arith)

      -- copies of one name stand at one place
      copies_differ : IsDistinct bytes_eq (copy_names (copies net loops m))
      copies_differ =
          let cs = copies net loops m in
          let apart = upto_apart net loops m (most loops.same m (length net.gates)) in
          IsDistinct-from_AllPairs bytes_eq-Decides (copy_names cs)
          (λ i j d less l e.
          let len = length-map cs name_of_copy in
          let il : i < length cs = omega arith in
          let jl : j < length cs = omega arith in
          let x = get_or cs i (copy_of 0 0) in
          let y = get_or cs j (copy_of 0 0) in
          let cx = copies_are i (copy_of 0 0) il in
          let cy = copies_are j (copy_of 0 0) jl in
          let told = copy_names_tell level x.number y.number (gate_at net x.gate).name (gate_at net y.gate).name (low_number x cx) (low_number y cy)
          (sym (get_or-map name_of_copy cs i (copy_of 0 0) d il) ∙ e ∙ get_or-map name_of_copy cs j (copy_of 0 0) d jl) in
          apart i j (copy_of 0 0) less jl (ap₂ copy_of told.0 (gate_of_name x.gate y.gate cx.gate cy.gate told.1)))

      names_distinct : IsDistinct bytes_eq (signal_names new)
      names_distinct =
          let Gs = gate_names net.gates in
          rw names_new
          (distinct_between old_names new_names Gs (rw names_old at is.names_differ)
          (distinct_append zero_names (copy_names (copies net loops m)) zero_alone copies_differ zero_from_copies)
          (short_from_long level old_names new_names (all_of_first (λ name. longest_run name ≤ level) old_names Gs names_short) new_long)
          (long_from_short level new_names Gs new_long (all_of_second (λ name. longest_run name ≤ level) old_names Gs names_short)))

      -- BLIF names
      copy_fits : (copy : Copy) → IsCopyHere copy → IsBlifName (name_of_copy copy)
      copy_fits copy c =
          let gate = c.gate in
          grind (arith, length-signal_names net, name_of_gate copy.gate gate, copy_name_fits (suc level) copy.number (gate_at net copy.gate).name (low_number copy c), low_number copy c)

      names_fit : All IsBlifName (signal_names new)
      names_fit =
          let old = rw names_old at (recursion_from_All IsBlifName (signal_names net) is.names) in
          grind (arith, names_new, All-from_recursion IsBlifName (old_names ++ (new_names ++ gate_names net.gates)), all_between IsBlifName old_names new_names (gate_names net.gates) old, all_new IsBlifName (zero_name_fits (suc level)), zero_name_fits (suc level), copy_fits, copies_are)

      -- signals
      moved_within : (s : Sig) → IsSignal net s → IsSignal new (old_signal net loops m s)
      moved_within s l = grind (arith, count_unrolled, cases_lt, moved_low, moved_high)

      numbered_within : (k n : ℕ) → n < length net.gates → k ≤ suc (has net loops m n) → IsSignal new (numbered net loops m k n)
      numbered_within zero n l few = let all = count_unrolled net loops m in omega arith
      numbered_within (suc k) n l few = grind (arith, count_unrolled net loops m, length-unrolled net loops m, stands net loops m are of_loops k n l)

      pin_within : (k n : ℕ) (s : Sig) → k ≤ has net loops m n → IsSignal net s → IsSignal new (pin_of net loops m k n s)
      pin_within k n s few l =
          let h = gate_of net s in
          of_three (IsSignal new) (in_loop_of net loops n s) (loops.cut h) (numbered net loops m k h) (numbered net loops m (suc k) h) (old_signal net loops m s)
          (λ e. (let p = in_loop_from net loops n s e in let many = has_same net loops m are of_loops n h p.1 in numbered_within k h (same_within net loops are n h p.1) (omega arith)))
          (λ e. (let p = in_loop_from net loops n s e in let many = has_same net loops m are of_loops n h p.1 in numbered_within (suc k) h (same_within net loops are n h p.1) (omega arith)))
          (moved_within s l)

      -- a gate that reads signals, as many as its cover has pins
      record IsSound (gate : Gate) : Type 0 where
        pins : All (IsSignal new) gate.pins
        counted : length gate.pins ≡ gate.cover.pins

      constant_sound : All IsSound (constants net loops)
      constant_sound = grind arith

      sound_at : (q : ℕ) → q < length new.gates → IsSound (gate_at new q)
      sound_at q l =
          elim (cases_lt q (length (constants net loops))) [
            | inl low ↦
                subst IsSound (sym (get_or_append_left (constants net loops) _ no_gate q low)) (constant_sound q no_gate low)
            | inr real ↦
                let it = has_number net loops m q real l in
                let here = subst (λ p. Stands net loops m are of_loops p it.number it.gate) it.at (stands net loops m are of_loops it.number it.gate it.within it.few) in
                record {
                  pins = subst (All (IsSignal new)) (sym here.pins)
                      (All-map (IsSignal new) (pin_of net loops m it.number it.gate) (gate_at net it.gate).pins
                      (λ i d k. pin_within it.number it.gate (get_or (gate_at net it.gate).pins i d) it.few (is.pins it.gate no_gate it.within i d k)));
                  counted = ap length here.pins
                      ∙ length-map (gate_at net it.gate).pins (pin_of net loops m it.number it.gate)
                      ∙ is.pin_counts it.gate no_gate it.within
                      ∙ ap (λ cover. cover.pins) (sym here.cover);
                }
          ]

      all_sound : All IsSound new.gates
      all_sound = All-from_get_or IsSound new.gates no_gate sound_at

      -- outputs
      outputs_distinct : (xs : List Sig) → IsDistinct sig_eq xs → IsDistinct sig_eq (map (old_signal net loops m) xs)
      unfolding IsDistinct
      outputs_distinct [] h = tt
      outputs_distinct (x ∷ xs) h = grind (arith, all_map, all_weaker, ne_eqb, eqb-false, moved_tells, outputs_distinct xs h.1)

      -- the clock
      still_undriven : (name : List ℕ) → longest_run name ≤ level → is_driven net name ≡ false → is_driven new name ≡ false
      still_undriven name short h =
          let parts = or_parts (list_any (λ latch. bytes_eq name latch.name) net.latches) (list_any (λ gate. bytes_eq name gate.name) net.gates) h in
          or_from (list_any (λ latch. bytes_eq name latch.name) new.latches) (list_any (λ gate. bytes_eq name gate.name) new.gates)
          (list_any-map (λ latch. bytes_eq name latch.name) (kept_latch net (shift net loops m)) net.latches ∙ parts.0)
          (sym (list_any-map (bytes_eq name) (λ gate. gate.name) new.gates)
          ∙ ap (list_any (bytes_eq name)) gates_named
          ∙ list_any-append (bytes_eq name) new_names (gate_names net.gates)
          ∙ or_from (list_any (bytes_eq name) new_names) (list_any (bytes_eq name) (gate_names net.gates))
          (short_is_none level name new_names short new_long)
          (list_any-map (bytes_eq name) (λ gate. gate.name) net.gates ∙ parts.1))

      clock_kept : (o : Option Clock) → longest_run_of (option_map_or (λ clock. clock.name ∷ []) o []) ≤ level → IfSome o (λ clock. IsClockName net clock.name) → IfSome o (λ clock. IsClockName new clock.name)
      clock_kept o short h = grind (arith, still_undriven)

      pub unrolled_is_netlist : length net.inputs ≤ 4000000000 → IsNetlist new
      unrolled_is_netlist inputs = record {
        fits = (let all = count_unrolled net loops m in let size = size_is_shift net loops m in omega arith);
        pins = λ k d l. (all_sound k d l).pins;
        sources = All-map (λ latch. IsSignal new latch.from) (kept_latch net (shift net loops m)) net.latches
            (λ k d l. moved_within (get_or net.latches k d).from (is.sources k d l));
        outputs = All-map (IsSignal new) (old_signal net loops m) net.outputs (λ k d l. moved_within (get_or net.outputs k d) (is.outputs k d l));
        pin_counts = λ k d l. (all_sound k d l).counted;
        name = is.name;
        names = names_fit;
        names_differ = names_distinct;
        outputs_differ = outputs_distinct net.outputs is.outputs_differ;
        clocked = list_any-map (λ latch. latch.clocked) (kept_latch net (shift net loops m)) net.latches ∙ is.clocked;
        clock = clock_kept net.clock (let whole = longest-append (signal_names net) (clock_names net) in omega arith) is.clock;
      }
