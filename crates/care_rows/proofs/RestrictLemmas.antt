-- The model lets a vector through just where the assumption did and the vector is in none of the rows.
use Rattle.std.proofs.Common.{◌≡◌, ◌≢◌, inl, inr, ℕ, zero, suc, ◌+◌, ◌-◌, ◌<◌, ◌≤◌, Bool, true, false, nat_lt, List, [], ◌∷◌, length, map, get_or, All, Option, Some, None, refl, sym, ap, ap₂, ◌∙◌, subst, arith}
use Rattle.std.specs.Prelude.{◌↔◌, IfSome, find, option_map}
use Rattle.care_rows.proofs.Common.{All-append, All-from_recursion, All-map, AllByRecursion, AreColumnsOf, AreSteadyRows, AreUsed, Binds, CareModel, CareSet, Gate, HasNoFault, IsBoundTo, IsCare, IsCareModel, IsCareOf, IsConeOf, IsIn, IsInNone, IsModelSize, IsNetlist, IsOver, IsRestricted, IsSignal, IsTooLarge, One, Parts, Plan, Row, Sig, Trit, WireValue, X, all_marked, assumed_columns, assumed_output, assumed_signal, assumed_size, base_of, bit, bits, cases_lt, column_name, column_of, columns, conditions, first_assumed, fix, fix_gates, gate_at, gate_sig, gates_of_rows, get_or-append-add, get_or-map, get_or_append_left, holds_at, inputs_at, inputs_of, is_allowed, is_marked, is_one, kept_gate, le-ltb, length-append, length-map, model_of, kept_signal, no_gate, option_map_or, outs, placed_row, plan_by, rank, recursion_from_All, row_gates, row_outputs, signal, signal_names, size_of, table_of, telling, telling_gates, telling_of_rows, total_of, wire, wire_value}
use Rattle.care_rows.specs.declared.fault.RestrictFault.{RestrictFault}
use Rattle.std.proofs.lemmas.Option.{slice_get-get_or}
use Rattle.cyc_base.proofs.ListLemmas.{map-map}
use Rattle.cyc_base.proofs.OrderLemmas.{bit-known, bits-at}
use Rattle.care_sets.proofs.BindingLemmas.{column_found, no_unknown_name}
use Rattle.care_sets.proofs.FaultLemmas.{no_fault}
use Rattle.care_sets.specs.Binding.{is_before}
use Rattle.loops.proofs.Determined.{loop_free_is_determined}
use Rattle.loops.proofs.Reading.{map_agree}
use Rattle.netlist.proofs.NameLemmas.{length-signal_names}
use Rattle.unroll.specs.Marks.{mark}
use Rattle.care_rows.proofs.RankLemmas.{marked_at, rank_at}
use Rattle.care_rows.proofs.PlacedLemmas.{Stands, fix_at}
use Rattle.care_rows.proofs.AndLemmas.{Holds}
use Rattle.care_rows.proofs.LayoutLemmas.{columns-model, count-model, kept_at, length-conditions, length-model, length-rows, old_at, stands-first, stands-second, told_stand}
use Rattle.care_rows.proofs.TellLemmas.{last_tells, rows_tell}
use Rattle.care_rows.proofs.PlanLemmas.{Fits, IsKeptSignal, IsOldOf, column_low, column_stands, gate_low, gate_moved, input_low, input_moved, old_moved}
use Rattle.care_rows.proofs.LoopFreeLemmas.{conditions_low, model_loop_free, rows_low}
use Rattle.care_rows.proofs.ValidLemmas.{model_valid}
use Rattle.care_rows.proofs.FitLemmas.{fits_of}

-- ---- words

is_one_from : (t : Trit) → is_one t ≡ true → t ≡ One
is_one_from t e = grind arith

one_is_one : (t : Trit) → t ≡ One → is_one t ≡ true
one_is_one t e = ap is_one e

nowhere : {A : Type 0} (p : A → Bool) (xs : List A) → ((x : A) → p x ≡ false) → find p xs ≡ None
nowhere p [] none = refl
nowhere p (x ∷ xs) none = rw (none x) (nowhere p xs none)

never_before : (net : Parts) (name : List ℕ) → is_before net 0 name ≡ false
never_before net name = by (column_of net name)
  where
    by : (o : Option ℕ) → option_map_or (λ column. nat_lt column 0) o false ≡ false
    by None = refl
    by (Some column) = le-ltb column 0 (omega arith)

same_somes : (xs ys : List ℕ) → map (λ x. Some x) xs ≡ map (λ y. Some y) ys → xs ≡ ys
same_somes [] [] e = refl
same_somes [] (y ∷ ys) e = cc
same_somes (x ∷ xs) [] e = cc
same_somes (x ∷ xs) (y ∷ ys) e = let h : x ≡ y = cc in let t : map (λ x. Some x) xs ≡ map (λ y. Some y) ys = cc in ap₂ (λ z zs. z ∷ zs) h (same_somes xs ys t)

-- a bound model by its parts
abbrev holds_by : Parts → ℕ → List ℕ → List Bool → Bool
holds_by net first columns v = is_one (get_or (outs net (bits (map (λ column. get_or v (column - first) false) columns))) 0 X)

module _ (p : Plan) (fits : Fits p) (few : base_of p + total_of p ≤ 4294967295) where
  abbrev M : Parts
  M = model_of p (mark p.net)

  abbrev K : ℕ
  K = length (all_marked p.cone)

  valid : IsNetlist M
  valid = model_valid p fits few

  -- ---- the inputs are columns by name

  named_at : (c : ℕ) → c < columns p.net → Some c ≡ column_of p.net (column_name p.net c)
  named_at c l =
      let n = length-signal_names p.net in
      column_found p.net (column_name p.net c) c fits.valid (slice_get-get_or (signal_names p.net) c [] (omega (arith, l, n))) l

  inputs_named : AreColumnsOf p.net (map (column_name p.net) (all_marked p.used)) (all_marked p.used)
  inputs_named = record {
    named =
        map_agree (λ c. Some c) (λ c. column_of p.net (column_name p.net c)) (all_marked p.used)
        (λ k d l. let at = marked_at p.used (length p.used) k d l in let w = fits.used_width in let i = at.within in named_at (get_or (all_marked p.used) k d) (omega (arith, i, w)))
        ∙ sym (map-map (column_of p.net) (column_name p.net) (all_marked p.used));
  }

  passes : HasNoFault p.net 0 M
  passes = record {
    others = no_fault p.net 0 M refl refl (no_unknown_name p.net (map (column_name p.net) (all_marked p.used)) (all_marked p.used) inputs_named) (nowhere (is_before p.net 0) (map (column_name p.net) (all_marked p.used)) (never_before p.net));
    loop_free = model_loop_free p (mark p.net) fits;
  }

  -- ---- at a vector

  module _ (v : List Bool) (wide : length v ≡ columns p.net) where
    abbrev w : List Bool
    w = map (λ column. get_or v (column - 0) false) (all_marked p.used)

    wide_w : length w ≡ columns M
    wide_w = length-map (all_marked p.used) _ ∙ sym (columns-model p (mark p.net))

    abbrev W : List Trit
    W = fix M (bits w)

    known : (s : Sig) → IsSignal M s → wire W s ≢ X
    known s inside =
        let long : length (bits w) ≡ columns M = length-map w bit ∙ wide_w in
        elim (cases_lt s.0 (columns M)) [
          | inl low ↦ (λ e. bit-known (get_or w s.0 false) (sym (bits-at w s.0 (omega (arith, low, wide_w))) ∙ sym (get_or_append_left (bits w) (fix_gates M (bits w)) X s.0 (omega (arith, low, long))) ∙ e))
          | inr high ↦
              let n : ℕ = s.0 - columns M in
              let less : n < length M.gates = omega (arith, inside, high) in
              (λ e. loop_free_is_determined M valid (model_loop_free p (mark p.net) fits) w wide_w n less
              (sym (get_or-append-add (bits w) (fix_gates M (bits w)) n X) ∙ ap (λ (k : ℕ). get_or W k X) (let f : length (bits w) + n ≡ s.0 = omega (arith, long, high) in f) ∙ e))
        ]

    -- the value of a column that is kept
    column_value : (c : ℕ) → c < columns p.net → is_marked p.used c ≡ true → get_or (bits w) (get_or (table_of p) c 0) X ≡ bit (get_or v c false)
    column_value c l is =
        let width = fits.used_width in
        let stands = column_stands p (mark p.net) fits c l in
        let low = column_low p (mark p.net) fits c l is in
        let n = length-map (all_marked p.used) (λ column. get_or v (column - 0) false) in
        ap (λ (k : ℕ). get_or (bits w) k X) stands
        ∙ bits-at w (rank p.used c) (omega (arith, low, n, stands))
        ∙ ap bit (get_or-map (λ column. get_or v (column - 0) false) (all_marked p.used) (rank p.used c) 0 false (omega (arith, low, stands))
        ∙ ap (λ (k : ℕ). get_or v k false) (let e = rank_at p.used c (length p.used) 0 (omega (arith, l, width)) is in let f : get_or (all_marked p.used) (rank p.used c) 0 - 0 ≡ c = omega (arith, e) in f))

    -- ---- the netlist's signals

    net_stands : Stands p.net M (IsKeptSignal p) (kept_signal (table_of p)) (rank p.cone)
    net_stands = record {
      column = λ s low kept. let a = column_low p (mark p.net) fits s.0 low (kept.column low) in let b = columns-model p (mark p.net) in omega (arith, a, b);
      closed = λ n l kept. fits.closed n l (own n kept);
      within = λ n l kept. let a = gate_low p (mark p.net) fits n l (own n kept) in let b = length-model p (mark p.net) in omega (arith, a, b);
      gate = λ n l kept. gate_moved p (mark p.net) fits n l;
      cover = λ n l kept. ap (λ (g : Gate). g.cover) (there n l kept);
      pins = λ n l kept. ap (λ (g : Gate). g.pins) (there n l kept);
    }
      where
        own : (n : ℕ) → IsKeptSignal p (gate_sig p.net n) → is_marked p.cone n ≡ true
        own n kept = ap (is_marked p.cone) (let e : n ≡ columns p.net + n - columns p.net = omega arith in e) ∙ kept.gate (omega arith)

        there : (n : ℕ) → n < length p.net.gates → IsKeptSignal p (gate_sig p.net n) → gate_at M (rank p.cone n) ≡ kept_gate p.net (table_of p) n
        there n l kept =
            kept_at p (mark p.net) (rank p.cone n) (gate_low p (mark p.net) fits n l (own n kept))
            ∙ ap (kept_gate p.net (table_of p)) (rank_at p.cone n (length p.cone) 0 (let w = fits.cone_width in omega (arith, l, w)) (own n kept))

    same_at : (s : Sig) → IsKeptSignal p s → wire W (kept_signal (table_of p) s) ≡ wire (fix p.net (bits v)) s
    same_at s kept =
        fix_at p.net M (IsKeptSignal p) (kept_signal (table_of p)) (rank p.cone) net_stands fits.valid (bits v) (bits w) (length-map v bit ∙ wide) (length-map w bit ∙ wide_w)
        (λ t low has. column_value t.0 low (has.column low) ∙ sym (bits-at v t.0 (omega (arith, low, wide)))) s kept.inside kept

    in_row : (row : Row) → All (λ e. IsKeptSignal p e.wire) row.values → All (Holds W) (placed_row (table_of p) row) ↔ IsIn p.net v row
    in_row row kept = (
      λ hold k d l.
          let f : WireValue → WireValue = λ e. wire_value (kept_signal (table_of p) e.wire) e.value in
          let n = length-map row.values f in
          sym (same_at (get_or row.values k d).wire (kept k d l))
          ∙ subst (Holds W) (get_or-map f row.values k d (f d) l) (hold k (f d) (omega (arith, l, n))),
      λ is.
          let f : WireValue → WireValue = λ e. wire_value (kept_signal (table_of p) e.wire) e.value in
          All-map (Holds W) f row.values (λ k d l. same_at (get_or row.values k d).wire (kept k d l) ∙ is k d l),
    )

    in_none : (rows : List Row) → AllByRecursion (λ row. All (λ e. IsKeptSignal p e.wire) row.values) rows →
        AllByRecursion (λ row. ¬ All (Holds W) (placed_row (table_of p) row)) rows ↔ AllByRecursion (λ row. ¬ IsIn p.net v row) rows
    in_none [] kept = (λ h. tt, λ h. tt)
    in_none (row ∷ rows) kept =
        let here = in_row row kept.0 in
        let rest = in_none rows kept.1 in
        (λ h. (λ is. h.0 (here.1 is), rest.0 h.1), λ h. (λ hold. h.0 (here.0 hold), rest.1 h.1))

    -- ---- the assumption's signals

    module _ (old : Parts) (is_old : p.old ≡ Some old) (u : List Bool) (wide_u : length u ≡ length old.inputs) (u_is : (k : ℕ) → k < length old.inputs → get_or u k false ≡ get_or v (get_or p.assumed k 0) false) where
      abbrev sound : IsOldOf p old
      sound = fits.old old is_old

      abbrev at : Sig → Sig
      at = assumed_signal (inputs_of p) (first_assumed p)

      old_stands : Stands old M (IsSignal old) at (λ j. K + j)
      old_stands = record {
        column = λ s low has. let none = sound.latches in let a = input_low p (mark p.net) fits old is_old s (omega (arith, low, none)) in let b = columns-model p (mark p.net) in omega (arith, a, b);
        closed = λ n l has. sound.valid.pins n no_gate l;
        within = λ n l has. let a = length-model p (mark p.net) in let b = ap assumed_size is_old in omega (arith, a, b, l);
        gate = λ n l has.
            let none = sound.latches in
            let first = columns-model p (mark p.net) in
            old_moved p (mark p.net) fits old is_old (gate_sig old n) (omega arith)
            ∙ ap signal (let e : first_assumed p + (columns old + n - length old.inputs) ≡ columns M + (K + n) = omega (arith, first, none) in e);
        cover = λ n l has. ap (λ (g : Gate). g.cover) (old_at p (mark p.net) old is_old n l);
        pins = λ n l has. ap (λ (g : Gate). g.pins) (old_at p (mark p.net) old is_old n l);
      }

      old_same : (s : Sig) → IsSignal old s → wire W (at s) ≡ wire (fix old (bits u)) s
      old_same s inside =
          let none = sound.latches in
          fix_at old M (IsSignal old) at (λ j. K + j) old_stands sound.valid (bits u) (bits w) (let n = length-map u bit in let e : length (bits u) ≡ columns old = omega (arith, n, wide_u, none) in e) (length-map w bit ∙ wide_w)
          (λ t low has.
          let l : t.0 < length old.inputs = omega (arith, low, none) in
          let i = sound.inputs in
          ap (λ (x : Sig). get_or (bits w) x.0 X) (input_moved p (mark p.net) fits old is_old t l)
          ∙ column_value (get_or p.assumed t.0 0) (fits.columns_below t.0 0 (omega (arith, l, i))) (fits.columns_used t.0 0 (omega (arith, l, i)))
          ∙ ap bit (sym (u_is t.0 l))
          ∙ sym (bits-at u t.0 (omega (arith, l, wide_u)))) s inside inside

      -- the old output holds where the old model does
      old_output : All (Holds W) (assumed_output (inputs_of p) (first_assumed p) (Some old)) ↔ (is_one (get_or (outs old (bits u)) 0 X) ≡ true)
      old_output =
          let one = sound.outputs in
          let out : Sig = get_or old.outputs 0 (signal 0) in
          let inside : IsSignal old out = sound.valid.outputs 0 (signal 0) (omega (arith, one)) in
          let shown : get_or (outs old (bits u)) 0 X ≡ wire (fix old (bits u)) out = get_or-map (wire (fix old (bits u))) old.outputs 0 (signal 0) X (omega (arith, one)) in (
            λ hold. one_is_one (get_or (outs old (bits u)) 0 X) (shown ∙ sym (old_same out inside) ∙ hold 0 (wire_value (at out) true) (omega arith)),
            λ is. only (wire_value (at out) true) (old_same out inside ∙ sym shown ∙ is_one_from (get_or (outs old (bits u)) 0 X) is),
          )
        where
          only : (e : WireValue) → Holds W e → All (Holds W) (e ∷ [])
          only e is zero d l = is
          only e is (suc k) d l = absurd (omega (arith, l))

    -- ---- all conditions

    told_inside : (g : ℕ) → g ≤ total_of p → K + assumed_size p.old + g ≤ length M.gates
    told_inside g l = let n = length-model p (mark p.net) in omega (arith, n, l)

    first_told : columns M + (K + assumed_size p.old) ≡ base_of p + 0
    first_told = let a = columns-model p (mark p.net) in omega (arith, a)

    rows_hold : AllByRecursion (Holds W) (row_outputs (base_of p) 0 p.rows) ↔ AllByRecursion (λ row. ¬ IsIn p.net v row) p.rows
    rows_hold =
        let rows = row_gates (mark p.net) (total_of p) (base_of p) (table_of p) 0 p.rows in
        let last = telling (mark p.net) (total_of p) (base_of p) (telling_of_rows p.rows) (conditions p) in
        let tells = rows_tell M w wide_w known (mark p.net) (total_of p) (base_of p) (table_of p) p.rows 0 (K + assumed_size p.old) first_told
        (stands-first M (K + assumed_size p.old) rows last (told_stand p (mark p.net)))
        (told_inside (telling_of_rows p.rows) (omega arith))
        (signals p.rows (rows_low p (mark p.net) fits)) in
        let none = in_none p.rows (recursion_from_All (λ row. All (λ e. IsKeptSignal p e.wire) row.values) p.rows fits.wires) in
        (λ h. none.0 (tells.0 h), λ h. tells.1 (none.1 h))
      where
        signals : (rows : List Row) → AllByRecursion (λ row. All (λ e. e.wire.0 < base_of p) (placed_row (table_of p) row)) rows → AllByRecursion (λ row. All (λ e. IsSignal M e.wire) (placed_row (table_of p) row)) rows
        signals [] low = tt
        signals (row ∷ rows) low = ((λ k d l. let a = low.0 k d l in let s = count-model p (mark p.net) in omega (arith, a, s)), signals rows low.1)

    output_holds : (wire W (signal (base_of p + total_of p - 1)) ≡ One) ↔ All (Holds W) (conditions p)
    output_holds =
        let rows = row_gates (mark p.net) (total_of p) (base_of p) (table_of p) 0 p.rows in
        let last = telling (mark p.net) (total_of p) (base_of p) (telling_of_rows p.rows) (conditions p) in
        let g : ℕ = K + assumed_size p.old + telling_of_rows p.rows in
        let n = length-rows (mark p.net) (total_of p) (base_of p) (table_of p) 0 p.rows in
        let many = ap telling_gates (length-conditions p (mark p.net)) in
        let first = columns-model p (mark p.net) in
        let tells = last_tells M w wide_w known (mark p.net) (total_of p) (base_of p) (telling_of_rows p.rows) (conditions p) g (omega (arith, first))
        (stands-second M (K + assumed_size p.old) g rows last (omega (arith, n)) (told_stand p (mark p.net)))
        (let i = told_inside (total_of p) (omega arith) in omega (arith, i, many))
        (λ k d l. let a = conditions_low p (mark p.net) fits k d l in let s = count-model p (mark p.net) in omega (arith, a, s)) in
        let is : signal (base_of p + telling_of_rows p.rows + telling_gates (length (conditions p)) - 1) ≡ signal (base_of p + total_of p - 1) =
        ap signal (let e : base_of p + telling_of_rows p.rows + telling_gates (length (conditions p)) - 1 ≡ base_of p + total_of p - 1 = omega (arith, many) in e) in
        (λ one. tells.0 (ap (wire W) is ∙ one), λ hold. ap (wire W) (sym is) ∙ tells.1 hold)

    -- the model's output is 1 just where the old output is and the vector is in no row
    pub shows : (holds_by M 0 (all_marked p.used) v ≡ true) ↔ (All (Holds W) (assumed_output (inputs_of p) (first_assumed p) p.old) × IsInNone p.net v p.rows)
    shows =
        let out : Sig = signal (base_of p + total_of p - 1) in
        let xs = assumed_output (inputs_of p) (first_assumed p) p.old in
        let ys = row_outputs (base_of p) 0 p.rows in (
          λ is.
              let all = output_holds.0 (is_one_from (wire W out) is) in (
                (λ k d l. subst (Holds W) (get_or_append_left xs ys d k l) (all k d (let n = length-append xs ys in omega (arith, l, n)))),
                All-from_recursion (λ row. ¬ IsIn p.net v row) p.rows (rows_hold.0 (recursion_from_All (Holds W) ys (λ k d l. subst (Holds W) (get_or-append-add xs ys k d) (all (length xs + k) d (let n = length-append xs ys in omega (arith, l, n)))))),
              ),
          λ both. one_is_one (wire W out) (output_holds.1 (All-append (Holds W) xs ys both.0
              (All-from_recursion (Holds W) ys (rows_hold.1 (recursion_from_All (λ row. ¬ IsIn p.net v row) p.rows both.1))))),
        )

-- ---- sizes

module _ (net : Parts) (care : CareSet) (rows : List Row) (used cone : List Bool) (cone_is : IsConeOf net (gates_of_rows net rows) cone) where
  abbrev planned : Plan
  planned = plan_by net care rows used cone

  size_by : (a : Option CareModel) → assumed_size (option_map (λ (m : CareModel). m.net) a) ≡ option_map_or (λ (m : CareModel). length m.net.gates) a 0
  size_by None = refl
  size_by (Some m) = refl

  one_by : (a : Option CareModel) → ◌≡◌ {A = ℕ} (option_map_or (λ (n : Parts). 1) (option_map (λ (m : CareModel). m.net) a) 0) (option_map_or (λ (m : CareModel). 1) a 0)
  one_by None = refl
  one_by (Some m) = refl

  pub size_is : (size : ℕ) → size ≡ size_of planned → IsModelSize net care rows size
  size_is size e = record {
    cone = cone;
    taken = cone_is;
    is =
        let a = size_by care.assume in
        let b = ap (λ (k : ℕ). telling_gates (k + length rows)) (one_by care.assume) in
        let w = ap (λ (k : ℕ). rank cone k) cone_is.width in
        omega (arith, e, a, b, w);
  }

  pub model_size : (mark : List ℕ) → IsModelSize net care rows (length (model_of planned mark).gates)
  model_size mark = size_is (length (model_of planned mark).gates) (length-model planned mark)

  pub too_large : (size : ℕ) (fault : RestrictFault) → size ≡ size_of planned → IsOver size fault → IsTooLarge net care rows fault
  too_large size fault e over = record { gates = size; size = size_is size e; over = over.over; is = over.is }

-- ---- bound

module _ (net : Parts) (care : CareSet) (rows : List Row) (used cone : List Bool) (valid : IsNetlist net) (bound : IsCareOf net care) (models : IsCare care) (old_valid : IfSome (option_map (λ (m : CareModel). m.net) care.assume) IsNetlist)
    (steady : AreSteadyRows net rows) (cone_is : IsConeOf net (gates_of_rows net rows) cone) (used_are : AreUsed net (assumed_columns care) rows cone used)
    (few : base_of (plan_by net care rows used cone) + total_of (plan_by net care rows used cone) ≤ 4294967295) where
  abbrev p : Plan
  p = plan_by net care rows used cone

  fits : Fits p
  fits = fits_of net care rows used cone valid bound models old_valid steady cone_is used_are

  pub restricted_valid : IsNetlist (model_of p (mark net))
  restricted_valid = model_valid p fits few

  -- the old assumption's output holds where it does
  allowed_by : (v : List Bool) (wide : length v ≡ columns net) (a : Option CareModel) → care.assume ≡ a → IfSome a (IsBoundTo net 0) → IfSome a IsCareModel →
      All (Holds (W p fits few v wide)) (assumed_output (inputs_of p) (first_assumed p) p.old) ↔ (option_map_or (λ model. holds_at model v) a true ≡ true)
  allowed_by v wide None e b m =
      let none : p.old ≡ None = ap (option_map (λ (m : CareModel). m.net)) e in
      let empty = ap (assumed_output (inputs_of p) (first_assumed p)) none in
      (λ hold. refl, λ is. subst (All (Holds (W p fits few v wide))) (sym empty) (λ k d l. absurd (omega (arith, l))))
  allowed_by v wide (Some model) e b m =
      let is_old : p.old ≡ Some model.net = ap (option_map (λ (m : CareModel). m.net)) e in
      let is_assumed : p.assumed ≡ model.columns = ap (λ (o : Option CareModel). option_map_or (λ (m : CareModel). m.columns) o []) e in
      let u = inputs_at model v in
      let n = length-map model.columns (λ column. get_or v (column - model.first) false) in
      let width = m.width in
      let start = b.start in
      let there = old_output p fits few v wide model.net is_old u (omega (arith, n, width))
      (λ k l.
      get_or-map (λ column. get_or v (column - model.first) false) model.columns k 0 false (omega (arith, l, width))
      ∙ ap (λ (i : ℕ). get_or v i false) (let f : get_or model.columns k 0 - model.first ≡ get_or model.columns k 0 = omega (arith, start) in f)
      ∙ ap (λ (xs : List ℕ). get_or v (get_or xs k 0) false) (sym is_assumed)) in
      let same = ap (assumed_output (inputs_of p) (first_assumed p)) is_old in (
        λ hold. there.0 (subst (All (Holds (W p fits few v wide))) same hold),
        λ is. subst (All (Holds (W p fits few v wide))) (sym same) (there.1 is),
      )

  lets : (b : CareModel) → Binds net 0 (model_of p (mark net)) b → (v : List Bool) → length v ≡ columns net → (holds_at b v ≡ true) ↔ ((is_allowed care v ≡ true) × IsInNone net v rows)
  lets b binds v wide =
      let M = model_of p (mark net) in
      let columns_are : b.columns ≡ all_marked used =
      same_somes b.columns (all_marked used) (binds.to.names.named ∙ ap (λ (m : Parts). map (column_of net) m.inputs) binds.kept ∙ sym (inputs_named p fits few).named) in
      let same : holds_at b v ≡ holds_by M 0 (all_marked used) v =
      ap (λ (m : Parts). holds_by m b.first b.columns v) binds.kept
      ∙ ap (λ (f : ℕ). holds_by M f b.columns v) binds.to.start
      ∙ ap (λ (cs : List ℕ). holds_by M 0 cs v) columns_are in
      let shown = shows p fits few v wide in
      let allowed = allowed_by v wide care.assume refl bound.assume models.assume in (
        λ is. let h = shown.0 (sym same ∙ is) in (allowed.0 h.0, h.1),
        λ both. same ∙ shown.1 (allowed.1 both.0, both.1),
      )

  pub restricted_is : IsRestricted net care rows (model_of p (mark net))
  restricted_is = record {
    passes = passes p fits few;
    named = refl;
    lets = lets;
  }
