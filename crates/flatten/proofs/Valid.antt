-- The parts of a flat netlist meet all conditions of a netlist.
use Rattle.std.proofs.Common.{◌≡◌, ⊎_elim, append_assoc, codes, ℕ, ◌+◌, ◌≤◌, Bool, true, false, not, ◌||◌, List, [], ◌∷◌, ◌++◌, length, length-append, map, refl, sym, ap, ◌∙◌, subst, arith, All, Some, None, Ok, is_some, IfSome, get_or}
use Rattle.cyc_base.specs.declared.limits.TheConstants.{MAX_FLAT_ITEMS}
use Rattle.flatten.proofs.Common.{length-map, All-nil, All-cons, All-head, All-tail, All-append, list_any-append, list_any, find, flat_map, position_or_len, IsDistinct, AllByRecursion, option_or, bytes_eq, Option, Sig, Clock, Parts, BlifModel, GateLine, LatchLine, is_among, FlatLines, IsPrintedGate, own_clocks, latch_outputs, gate_outputs, reads, first_twice, twice_after, signal_list, sig_of, has_bad_control, declared_twice, driven_twice, link_fault, latch_with, gate_with, netlist_by, linked, cases_Bool, bytes_eq-true, All-map, All-weaker}
use Rattle.std.proofs.lemmas.Map.Keys.{IsDistinct-cons, IsDistinct-head, IsDistinct-tail}
use Rattle.std.proofs.lemmas.Bool.{not-false, or_cases, both_ways, ne_eqb}
use Rattle.cyc_base.specs.Names.{IsBlifName}
use Rattle.cyc_base.proofs.ListLemmas.{option_or-neither, option_map-nothing, list_any-map, map-map}
use Rattle.cyc_base.proofs.TruthLemmas.{first_of_and, second_of_and}
use Rattle.netlist.specs.Netlists.{count, signal_names, IsSignal, IsClockName, IsNetlist, sig_eq}
use Rattle.blif_read.specs.Flattening.{IsSoundModel}
use Rattle.flatten.specs.Printable.{ArePrintedLines}
use Rattle.flatten.specs.Linking.{drivers, first_control, is_clock_of, undriven, bad_clock, clock_read}
use Rattle.flatten.proofs.Names.{bytes_refl}
use Rattle.flatten.proofs.Libraries.{among_gathered}
use Rattle.flatten.proofs.Gathering.{fresh_apart, twice-append, own_clocks_gathered}
use Rattle.flatten.proofs.Placing.{place_some, both_none, first_of}
use Rattle.std.proofs.lemmas.List.Sums.{passes_at_first}

-- one list within another
distinct_without : (xs ys zs : List (List ℕ)) → IsDistinct bytes_eq (xs ++ (ys ++ zs)) → IsDistinct bytes_eq (xs ++ zs)
distinct_without [] ys zs d = behind ys d
  where
    behind : (bs : List (List ℕ)) → IsDistinct bytes_eq (bs ++ zs) → IsDistinct bytes_eq zs
    behind [] e = e
    behind (b ∷ bs) e = behind bs (IsDistinct-tail bytes_eq b (bs ++ zs) e)
distinct_without (x ∷ xs) ys zs d =
    IsDistinct-cons bytes_eq x (xs ++ zs) (shorter xs (IsDistinct-head bytes_eq x (xs ++ (ys ++ zs)) d)) (distinct_without xs ys zs (IsDistinct-tail bytes_eq x (xs ++ (ys ++ zs)) d))
  where
    past : (bs : List (List ℕ)) → AllByRecursion (λ y. bytes_eq x y ≡ false) (bs ++ zs) → AllByRecursion (λ y. bytes_eq x y ≡ false) zs
    past [] a = a
    past (b ∷ bs) a = past bs a.1

    shorter : (bs : List (List ℕ)) → AllByRecursion (λ y. bytes_eq x y ≡ false) (bs ++ (ys ++ zs)) → AllByRecursion (λ y. bytes_eq x y ≡ false) (bs ++ zs)
    shorter [] a = past ys a
    shorter (b ∷ bs) a = (a.0, shorter bs a.1)

-- the place of a name tells the name
same_place : (names : List (List ℕ)) (a b : List ℕ) → is_among names a ≡ true → position_or_len (bytes_eq a) names ≡ position_or_len (bytes_eq b) names → a ≡ b
same_place names a b h e =
    let l = place_some (bytes_eq a) names h in
    let at_a = bytes_eq-true a _ (passes_at_first (bytes_eq a) names [] l) in
    let at_b = bytes_eq-true b _ (passes_at_first (bytes_eq b) names [] (omega (arith, l, e))) in
    at_a ∙ ap (λ k. get_or names k []) e ∙ sym at_b

among_all : (P : List ℕ → Type 0) (names : List (List ℕ)) (n : List ℕ) → All P names → is_among names n ≡ true → P n
among_all P [] n h a = absurd (cc)
among_all P (x ∷ names) n h a = grind (arith, cases_Bool (bytes_eq n x), bytes_eq-true n x, All-head P x names h, among_all P names n (All-tail P x names h), All-tail P x names h)

apart_among : (old names : List (List ℕ)) (n : List ℕ) → AllByRecursion (λ y. is_among old y ≡ false) names → is_among old n ≡ true → is_among names n ≡ false
apart_among old [] n h a = refl
apart_among old (x ∷ names) n h a = grind (arith, cases_Bool (bytes_eq n x), both_ways (is_among old x) h.0, bytes_eq-true n x, apart_among old names n h.1 a)

-- controls
first_fits : (top : BlifModel) (latches : List LatchLine) (f : Clock) → first_control latches ≡ Some f → find (has_bad_control top (Some f)) latches ≡ None → is_clock_of top f.name ≡ true
first_fits top [] f e h = absurd (cc)
first_fits top (l ∷ latches) f e h = by l.control refl (λ k m. first_fits top latches f k m)
  where
    by : (o : Option Clock) → l.control ≡ o → (first_control latches ≡ Some f → find (has_bad_control top (Some f)) latches ≡ None → is_clock_of top f.name ≡ true) → is_clock_of top f.name ≡ true
    by (Some c) o rest = grind arith
    by None o rest = grind arith

clocked_is : (sig : List ℕ → Sig) (latches : List LatchLine) → list_any (λ latch. latch.clocked) (map (latch_with sig) latches) ≡ is_some (first_control latches)
clocked_is sig [] = refl
clocked_is sig (l ∷ latches) = grind (arith, clocked_is sig latches)

none_differ : IsDistinct sig_eq []
unfolding IsDistinct
none_differ = tt

-- the netlist of sound lines without a fault
module _ (top : BlifModel) (lines : FlatLines) (sound : IsSoundModel top) (printed : ArePrintedLines lines)
    (few : length lines.latches + length lines.gates ≤ MAX_FLAT_ITEMS) (none : link_fault top lines ≡ None) where
  S : List (List ℕ)
  S = signal_list top lines

  net : Parts
  net = netlist_by (sig_of (signal_list top lines)) top lines

  abbrev missing : List ℕ → Bool
  missing name = not (is_among (drivers top lines) name)

  drivers_ok : (declared_twice top ≡ None) × (driven_twice top lines ≡ None)
  drivers_ok = option_or-neither (declared_twice top) (driven_twice top lines) (option_or-neither (option_or (declared_twice top) (driven_twice top lines)) _ none).0

  others_ok : (option_or (undriven top lines) (bad_clock top lines) ≡ None) × (clock_read top lines ≡ None)
  others_ok = grind arith

  lines_ok : (undriven top lines ≡ None) × (bad_clock top lines ≡ None)
  lines_ok = option_or-neither (undriven top lines) (bad_clock top lines) others_ok.0

  all_driven : find missing (reads top lines) ≡ None
  all_driven = option_map-nothing _ (find missing (reads top lines)) lines_ok.0

  none_clock : find (is_among (own_clocks top)) (reads top lines) ≡ None
  none_clock = option_map-nothing _ (find (is_among (own_clocks top)) (reads top lines)) others_ok.1

  drivers_once : first_twice (drivers top lines) ≡ None
  drivers_once = option_map-nothing _ (first_twice (drivers top lines)) drivers_ok.1

  names_are : signal_names net ≡ S
  unfolding S net
  names_are = grind (arith, map-map)

  count_is : count net ≡ length S
  unfolding S net
  count_is =
      let a = length-map lines.latches (latch_with (sig_of (signal_list top lines))) in
      let b = length-map lines.gates (gate_with (sig_of (signal_list top lines))) in
      let c = length-map lines.latches (λ (l : LatchLine). l.output) in
      let d = length-map lines.gates (λ (g : GateLine). g.output) in
      omega (arith, length-append top.inputs (latch_outputs lines ++ gate_outputs lines), length-append (latch_outputs lines) (gate_outputs lines))

  among_signals : (n : List ℕ) → missing n ≡ false → is_among (own_clocks top) n ≡ false → is_among S n ≡ true
  unfolding S
  among_signals n d c =
      let e = not-false (is_among (drivers top lines) n) d in
      list_any-append (bytes_eq n) top.inputs (latch_outputs lines ++ gate_outputs lines)
      ∙ sym (ap (λ b. is_among top.inputs n || (b || is_among (latch_outputs lines ++ gate_outputs lines) n)) c)
      ∙ sym (list_any-append (bytes_eq n) top.inputs (own_clocks top ++ (latch_outputs lines ++ gate_outputs lines)) ∙ ap (λ b. is_among top.inputs n || b) (list_any-append (bytes_eq n) (own_clocks top) (latch_outputs lines ++ gate_outputs lines)))
      ∙ e

  sig_fits : (n : List ℕ) → missing n ≡ false → is_among (own_clocks top) n ≡ false → IsSignal net (sig_of S n)
  sig_fits n d c = omega (arith, place_some (bytes_eq n) S (among_signals n d c), count_is)

  sigs_fit : (names : List (List ℕ)) → find missing names ≡ None → find (is_among (own_clocks top)) names ≡ None → All (IsSignal net) (map (sig_of S) names)
  sigs_fit [] h r = All-nil (IsSignal net)
  sigs_fit (x ∷ names) h r = grind (arith, first_of missing x names h, first_of (is_among (own_clocks top)) x names r, All-cons (IsSignal net) (sig_of S x) (map (sig_of S) names), net, sig_fits x, sigs_fit names)

  sources_fit : (latches : List LatchLine) → find missing (map (λ l. l.from) latches) ≡ None → find (is_among (own_clocks top)) (map (λ l. l.from) latches) ≡ None → All (λ latch. IsSignal net latch.from) (map (latch_with (sig_of S)) latches)
  sources_fit [] h r = All-nil (λ latch. IsSignal net latch.from)
  sources_fit (l ∷ latches) h r = grind (arith, first_of missing l.from, first_of (is_among (own_clocks top)) l.from, All-cons, net, sig_fits l.from, sources_fit latches)

  pins_fit : (gates : List GateLine) → find missing (flat_map (λ g. g.pins) gates) ≡ None → find (is_among (own_clocks top)) (flat_map (λ g. g.pins) gates) ≡ None → All (λ gate. All (IsSignal net) gate.pins) (map (gate_with (sig_of S)) gates)
  pins_fit [] h r = All-nil (λ gate. All (IsSignal net) gate.pins)
  pins_fit (x ∷ gates) h r =
      let f = both_none missing x.pins (flat_map (λ (g : GateLine). g.pins) gates) h in
      let g = both_none (is_among (own_clocks top)) x.pins (flat_map (λ (y : GateLine). y.pins) gates) r in
      All-cons (λ gate. All (IsSignal net) gate.pins) (gate_with (sig_of S) x) (map (gate_with (sig_of S)) gates) (sigs_fit x.pins f.0 g.0) (pins_fit gates f.1 g.1)

  widths_fit : All (λ gate. length gate.pins ≡ gate.cover.pins) (map (gate_with (sig_of S)) lines.gates)
  widths_fit =
      All-map (λ gate. length gate.pins ≡ gate.cover.pins) (gate_with (sig_of S)) lines.gates
      (All-weaker IsPrintedGate (λ g. length (map (sig_of S) g.pins) ≡ g.cover.pins) (λ g p. length-map g.pins (sig_of S) ∙ p.width) lines.gates printed.gates)

  driven_names_fit : All IsBlifName (latch_outputs lines ++ gate_outputs lines)
  driven_names_fit = grind (arith, All-append IsBlifName (latch_outputs lines) (gate_outputs lines), All-map IsBlifName, All-weaker IsPrintedGate)

  names_fit : All IsBlifName S
  unfolding S
  names_fit = grind (arith, All-append IsBlifName top.inputs (latch_outputs lines ++ gate_outputs lines) sound.inputs driven_names_fit, driven_names_fit)

  names_once : IsDistinct bytes_eq S
  unfolding S
  names_once = distinct_without top.inputs (own_clocks top) (latch_outputs lines ++ gate_outputs lines) (fresh_apart [] (drivers top lines) drivers_once).1

  outputs_apart : (names : List (List ℕ)) → IsDistinct bytes_eq names → find missing names ≡ None → find (is_among (own_clocks top)) names ≡ None → IsDistinct sig_eq (map (sig_of S) names)
  outputs_apart [] d h r = none_differ
  outputs_apart (x ∷ names) d h r =
      let f = first_of missing x names h in
      let g = first_of (is_among (own_clocks top)) x names r in
      IsDistinct-cons sig_eq (sig_of S x) (map (sig_of S) names) (apart names (IsDistinct-head bytes_eq x names d)) (outputs_apart names (IsDistinct-tail bytes_eq x names d) f.1 g.1)
    where
      here : is_among S x ≡ true
      here = among_signals x (first_of missing x names h).0 (first_of (is_among (own_clocks top)) x names r).0

      apart : (ys : List (List ℕ)) → AllByRecursion (λ y. bytes_eq x y ≡ false) ys → AllByRecursion (λ y. sig_eq (sig_of S x) y ≡ false) (map (sig_of S) ys)
      apart [] a = tt
      apart (y ∷ ys) a = grind (arith, ne_eqb (position_or_len (bytes_eq x) S) (position_or_len (bytes_eq y) S), bytes_refl x, same_place S x y here, apart ys a.1)

  outputs_once : first_twice top.outputs ≡ None
  outputs_once = (option_or-neither (first_twice top.inputs) (first_twice top.outputs) (option_map-nothing _ (option_or (first_twice top.inputs) (first_twice top.outputs)) drivers_ok.0)).1

  base_is : (n : List ℕ) → is_among (top.inputs ++ own_clocks top) n ≡ (is_among top.inputs n || is_among top.clocks n)
  base_is n = ap (λ ks. is_among ks n) (sym (own_clocks_gathered top)) ∙ among_gathered top.inputs top.clocks n

  driven_apart : AllByRecursion (λ y. is_among (top.inputs ++ own_clocks top) y ≡ false) (latch_outputs lines ++ gate_outputs lines)
  driven_apart =
      (fresh_apart (top.inputs ++ own_clocks top) (latch_outputs lines ++ gate_outputs lines)
      (option_or-neither (first_twice (top.inputs ++ own_clocks top)) (twice_after (top.inputs ++ own_clocks top) (latch_outputs lines ++ gate_outputs lines))
      (sym (ap first_twice (sym (append_assoc top.inputs (own_clocks top) (latch_outputs lines ++ gate_outputs lines))) ∙ twice-append [] (top.inputs ++ own_clocks top) (latch_outputs lines ++ gate_outputs lines)) ∙ drivers_once)).1).0

  clock_name : (n : List ℕ) → is_clock_of top n ≡ true → IsClockName net n
  unfolding net
  clock_name n h =
      let a = first_of_and (not (bytes_eq n (codes "NIL"))) (is_among top.inputs n || is_among top.clocks n) h in
      let b = second_of_and (not (bytes_eq n (codes "NIL"))) (is_among top.inputs n || is_among top.clocks n) h in
      record {
        blif = ⊎_elim (λ i. among_all IsBlifName top.inputs n sound.inputs i) (λ i. among_all IsBlifName top.clocks n sound.clocks i) (or_cases (is_among top.inputs n) (is_among top.clocks n) b);
        named = λ e. let k : false ≡ true = sym (ap not (ap (λ x. bytes_eq n x) (sym e) ∙ bytes_refl n)) ∙ a in absurd (cc);
        undriven = simp list_any-map (simp (list_any-append, list_any-map) at (apart_among (top.inputs ++ own_clocks top) (latch_outputs lines ++ gate_outputs lines) n driven_apart (base_is n ∙ b)));
      }

  clock_fits : (o : Option Clock) → first_control lines.latches ≡ o → IfSome o (λ clock. IsClockName net clock.name)
  clock_fits o e = grind (arith, clock_name, first_fits, option_map-nothing)

  pub is_netlist : IsNetlist (netlist_by (sig_of (signal_list top lines)) top lines)
  unfolding S net
  is_netlist =
      let r = both_none missing top.outputs (map (λ (l : LatchLine). l.from) lines.latches ++ flat_map (λ (g : GateLine). g.pins) lines.gates) all_driven in
      let c = both_none (is_among (own_clocks top)) top.outputs (map (λ (l : LatchLine). l.from) lines.latches ++ flat_map (λ (g : GateLine). g.pins) lines.gates) none_clock in
      let r' = both_none missing (map (λ (l : LatchLine). l.from) lines.latches) (flat_map (λ (g : GateLine). g.pins) lines.gates) r.1 in
      let c' = both_none (is_among (own_clocks top)) (map (λ (l : LatchLine). l.from) lines.latches) (flat_map (λ (g : GateLine). g.pins) lines.gates) c.1 in
      record {
        fits = omega (arith, count_is, sound.few_inputs, few, length-append top.inputs (latch_outputs lines ++ gate_outputs lines), length-append (latch_outputs lines) (gate_outputs lines), length-map lines.latches (λ (l : LatchLine). l.output), length-map lines.gates (λ (g : GateLine). g.output));
        pins = pins_fit lines.gates r'.1 c'.1;
        sources = sources_fit lines.latches r'.0 c'.0;
        outputs = sigs_fit top.outputs r.0 c.0;
        pin_counts = widths_fit;
        name = sound.name;
        names = subst (λ (ns : List (List ℕ)). All IsBlifName ns) (sym names_are) names_fit;
        names_differ = subst (λ (ns : List (List ℕ)). IsDistinct bytes_eq ns) (sym names_are) names_once;
        outputs_differ = outputs_apart top.outputs (fresh_apart [] top.outputs outputs_once).1 r.0 c.0;
        clocked = clocked_is (sig_of (signal_list top lines)) lines.latches;
        clock = clock_fits (first_control lines.latches) refl;
      }

-- what links without a fault is a netlist
pub linked_valid : (top : BlifModel) (lines : FlatLines) (parts : Parts) → IsSoundModel top → ArePrintedLines lines → length lines.latches + length lines.gates ≤ MAX_FLAT_ITEMS → linked top lines ≡ Ok parts → IsNetlist parts
linked_valid top lines parts sound printed few e = grind (arith, is_netlist)
