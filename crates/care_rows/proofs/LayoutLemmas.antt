-- Where the gates of the model stand, and how many there are.
use Rattle.std.proofs.Common.{◌≡◌, ℕ, suc, ◌+◌, ◌<◌, Bool, List, [], ◌∷◌, ◌++◌, length, get_or, Option, Some, None, refl, ap, ◌∙◌, subst, arith}
use Rattle.std.proofs.lemmas.List.Sums.{sum_by-cons}
use Rattle.care_rows.proofs.Common.{Gate, Parts, Plan, Row, WireValue, all_marked, assumed_gate, assumed_gates, assumed_output, assumed_size, base_of, column_name, columns, conditions, count, first_assumed, gate_at, get_or-append-add, get_or-map, get_or-map-range_with_len, get_or_append_left, inputs_of, kept_gate, kept_gates, length-append, length-map, length-map-range_with_len, length-range_with_len, model_of, no_gate, old_gates, option_map_or, placed_row, places, places_from, range_with_len, rank, row_gates, row_outputs, size_of, table_of, telling, telling_gates, telling_gates_of, telling_of_rows, total_of}

-- these gates stand in a netlist from gate g on
abbrev pub StandsFrom : Parts → ℕ → List Gate → Type 0
StandsFrom net g gates = (k : ℕ) → k < length gates → gate_at net (g + k) ≡ get_or gates k no_gate

pub stands-first : (net : Parts) (g : ℕ) (xs ys : List Gate) → StandsFrom net g (xs ++ ys) → StandsFrom net g xs
stands-first net g xs ys stands k l = stands k (let n = length-append xs ys in omega (arith, l, n)) ∙ get_or_append_left xs ys no_gate k l

pub stands-second : (net : Parts) (g h : ℕ) (xs ys : List Gate) → g + length xs ≡ h → StandsFrom net g (xs ++ ys) → StandsFrom net h ys
stands-second net g h xs ys at stands k l =
    let n = length-append xs ys in
    ap (gate_at net) (let e : h + k ≡ g + (length xs + k) = omega (arith, at) in e)
    ∙ stands (length xs + k) (omega (arith, l, n))
    ∙ get_or-append-add xs ys k no_gate

pub stands-behind : (net : Parts) (xs ys : List Gate) → net.gates ≡ xs ++ ys → StandsFrom net (length xs) ys
stands-behind net xs ys is k l = ap (λ (gates : List Gate). get_or gates (length xs + k) no_gate) is ∙ get_or-append-add xs ys k no_gate

-- ---- sizes

pub told_cons : (row : Row) (rows : List Row) → telling_of_rows (row ∷ rows) ≡ telling_gates (length row.values) + telling_of_rows rows
told_cons row rows = sum_by-cons (λ (r : Row). telling_gates (length r.values)) row rows

pub length-assumed : (inputs : List ℕ) (first : ℕ) (mark : List ℕ) (old : Option Parts) → length (assumed_gates inputs first mark old) ≡ assumed_size old
length-assumed inputs first mark None = refl
length-assumed inputs first mark (Some old) = length-map-range_with_len (assumed_gate inputs first mark old) 0 (length old.gates)

pub length-telling : (mark : List ℕ) (total base number : ℕ) (wires : List WireValue) → length (telling mark total base number wires) ≡ telling_gates (length wires)
length-telling mark total base number wires = length-map (range_with_len 0 (telling_gates (length wires))) _ ∙ length-range_with_len 0 (telling_gates (length wires))

pub length-placed : (table : List ℕ) (row : Row) → length (placed_row table row) ≡ length row.values
length-placed table row = length-map row.values _

pub length-rows : (mark : List ℕ) (total base : ℕ) (table : List ℕ) (number : ℕ) (rows : List Row) → length (row_gates mark total base table number rows) ≡ telling_of_rows rows
length-rows mark total base table number [] = refl
length-rows mark total base table number (row ∷ rows) =
    let n : ℕ = telling_gates (length row.values) in
    let here = telling mark total base number (placed_row table row) in
    let rest = row_gates mark total base table (number + n) rows in
    let a = length-append here rest in
    let b = length-telling mark total base number (placed_row table row) in
    let c = ap telling_gates (length-placed table row) in
    let d = length-rows mark total base table (number + n) rows in
    let e = told_cons row rows in
    omega (arith, a, b, c, d, e)

pub length-outputs : (base number : ℕ) (rows : List Row) → length (row_outputs base number rows) ≡ length rows
length-outputs base number [] = refl
length-outputs base number (row ∷ rows) = ap suc (length-outputs base (number + telling_gates (length row.values)) rows)

pub length-output : (inputs : List ℕ) (first : ℕ) (old : Option Parts) → length (assumed_output inputs first old) ≡ option_map_or (λ net. 1) old 0
length-output inputs first None = refl
length-output inputs first (Some old) = refl

module _ (p : Plan) (mark : List ℕ) where
  abbrev pub model : Parts
  model = model_of p mark

  abbrev pub kept_count : ℕ
  kept_count = length (all_marked p.cone)

  pub columns-model : columns model ≡ rank p.used (length p.used)
  columns-model = let e = length-map (all_marked p.used) (column_name p.net) in omega (arith, e)

  pub length-kept : length (kept_gates p) ≡ kept_count
  length-kept = length-map (all_marked p.cone) (kept_gate p.net (table_of p))

  pub length-old : length (old_gates p mark) ≡ assumed_size p.old
  length-old = length-assumed (inputs_of p) (first_assumed p) mark p.old

  pub length-conditions : length (conditions p) ≡ option_map_or (λ net. 1) p.old 0 + length p.rows
  length-conditions =
      let a = length-append (assumed_output (inputs_of p) (first_assumed p) p.old) (row_outputs (base_of p) 0 p.rows) in
      let b = length-output (inputs_of p) (first_assumed p) p.old in
      let c = length-outputs (base_of p) 0 p.rows in
      omega (arith, a, b, c)

  pub length-told : length (telling_gates_of p mark) ≡ total_of p
  length-told =
      let a = length-append (row_gates mark (total_of p) (base_of p) (table_of p) 0 p.rows) (telling mark (total_of p) (base_of p) (telling_of_rows p.rows) (conditions p)) in
      let b = length-rows mark (total_of p) (base_of p) (table_of p) 0 p.rows in
      let c = length-telling mark (total_of p) (base_of p) (telling_of_rows p.rows) (conditions p) in
      let d = ap telling_gates length-conditions in
      omega (arith, a, b, c, d)

  pub length-model : length model.gates ≡ size_of p
  length-model =
      let a = length-append (kept_gates p) (old_gates p mark ++ telling_gates_of p mark) in
      let b = length-append (old_gates p mark) (telling_gates_of p mark) in
      let c = length-kept in
      let d = length-old in
      let e = length-told in
      omega (arith, a, b, c, d, e)

  pub count-model : count model ≡ base_of p + total_of p
  count-model = let a = columns-model in let b = length-model in omega (arith, a, b)

  -- ---- places

  pub kept_at : (i : ℕ) → i < kept_count → gate_at model i ≡ kept_gate p.net (table_of p) (get_or (all_marked p.cone) i 0)
  kept_at i l =
      get_or_append_left (kept_gates p) (old_gates p mark ++ telling_gates_of p mark) no_gate i (let e = length-kept in omega (arith, l, e))
      ∙ get_or-map (kept_gate p.net (table_of p)) (all_marked p.cone) i 0 no_gate l

  pub behind_kept : StandsFrom model kept_count (old_gates p mark ++ telling_gates_of p mark)
  behind_kept = subst (λ n. StandsFrom model n (old_gates p mark ++ telling_gates_of p mark)) length-kept (stands-behind model (kept_gates p) (old_gates p mark ++ telling_gates_of p mark) refl)

  pub old_stand : StandsFrom model kept_count (old_gates p mark)
  old_stand = stands-first model kept_count (old_gates p mark) (telling_gates_of p mark) behind_kept

  pub old_at : (old : Parts) → p.old ≡ Some old → (j : ℕ) → j < length old.gates → gate_at model (kept_count + j) ≡ assumed_gate (inputs_of p) (first_assumed p) mark old j
  old_at old is j l =
      let same : old_gates p mark ≡ assumed_gates (inputs_of p) (first_assumed p) mark (Some old) = ap (assumed_gates (inputs_of p) (first_assumed p) mark) is in
      let size : length (old_gates p mark) ≡ length old.gates = length-old ∙ ap assumed_size is in
      old_stand j (omega (arith, l, size))
      ∙ ap (λ (gates : List Gate). get_or gates j no_gate) same
      ∙ get_or-map-range_with_len (assumed_gate (inputs_of p) (first_assumed p) mark old) 0 (length old.gates) j j no_gate l (omega arith)

  pub told_stand : StandsFrom model (kept_count + assumed_size p.old) (telling_gates_of p mark)
  told_stand = stands-second model kept_count (kept_count + assumed_size p.old) (old_gates p mark) (telling_gates_of p mark) (let e = length-old in omega (arith, e)) behind_kept

-- ---- the places of signals

module _ (used cone : List Bool) where
  abbrev inputs : ℕ
  inputs = rank used (length used)

  length-from : (marks : List Bool) (first : ℕ) → length (places_from marks first) ≡ length marks
  length-from marks first = length-map (range_with_len 0 (length marks)) _ ∙ length-range_with_len 0 (length marks)

  pub length-places : length (places used cone) ≡ length used + length cone
  length-places =
      let a = length-append (places_from used 0) (places_from cone inputs) in
      let b = length-from used 0 in
      let c = length-from cone inputs in
      omega (arith, a, b, c)

  pub column_place : (s : ℕ) → s < length used → get_or (places used cone) s 0 ≡ rank used s
  column_place s l =
      get_or_append_left (places_from used 0) (places_from cone inputs) 0 s (let b = length-from used 0 in omega (arith, l, b))
      ∙ get_or-map-range_with_len (λ n. 0 + rank used n) 0 (length used) s s 0 l (omega arith) ∙ omega arith

  pub gate_place : (n : ℕ) → n < length cone → get_or (places used cone) (length used + n) 0 ≡ inputs + rank cone n
  gate_place n l =
      ap (λ k. get_or (places used cone) k 0) (let b = length-from used 0 in let e : length used + n ≡ length (places_from used 0) + n = omega (arith, b) in e)
      ∙ get_or-append-add (places_from used 0) (places_from cone inputs) n 0
      ∙ get_or-map-range_with_len (λ k. inputs + rank cone k) 0 (length cone) n n 0 l (omega arith)
