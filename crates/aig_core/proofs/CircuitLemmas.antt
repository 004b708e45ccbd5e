-- The text of a graph is read as its circuit.
use Rattle.std.proofs.Common.{◌≡◌, ℕ, zero, suc, ◌+◌, ◌-◌, ◌*◌, ◌%◌, ◌^◌, ◌<◌, ◌≤◌, Bool, true, false, ◌==◌, ◌&&◌, nat_le, List, [], ◌∷◌, ◌++◌, length, map, All, Some, option_map, option_and_then, slice_get, get_or, map-id, eq-eqb, ne_eqb, le-leb, lt-ltb, refl, ap, ap₂, sym, ◌∙◌, subst, append_assoc, append-nil, arith}
use Rattle.aig_core.specs.declared.aig.TheConstants.{MAX_ANDS, MAX_COLUMNS}
use Rattle.aig_core.proofs.Common.{codes, decimal, flat_map, enumerate_from, range_with_len, And, Latch, edge, input_line, latch_line, output_line, and_line, load_line, and_groups, symbol_line, signal_name, length-map}
use Rattle.std.specs.List.{slice_split}
use Rattle.std.proofs.lemmas.Bool.{and_from}
use Rattle.std.proofs.lemmas.List.FromFn.{length-range_with_len, get_or-range_with_len}
use Rattle.std.proofs.lemmas.List.Elements.{All-nil, All-cons, All-head, All-tail, All-append, All-weaker}
use Rattle.std.proofs.lemmas.List.Splits.{slice_split_at}
use Rattle.std.proofs.lemmas.Option.{slice_get_within, get_or_from_slice_get}
use Rattle.cyc_base.specs.Names.{IsBlifByte, IsBlifName}
use Rattle.cyc_base.specs.declared.sig.Sig.{Sig}
use Rattle.netlist.specs.declared.parts.Init.{Init}
use Rattle.netlist.specs.declared.parts.Init.TheVariants.{Zero, One, Either}
use Rattle.netlist.specs.declared.parts.Gate.{Gate}
use Rattle.netlist.specs.declared.parts.Parts.{Parts}
use Rattle.netlist.specs.Netlists.{IsNetlist, signal_names, driven_names}
use Rattle.aig_core.specs.declared.edge.Edge.{Edge}
use Rattle.aig_core.specs.declared.building.Built.{Built}
use Rattle.aig_core.specs.Graphs.{first_and}
use Rattle.aig_core.specs.Soundness.{IsSound, IsSoundAnd}
use Rattle.aig_core.specs.Answers.{FitsNetlist}
use Rattle.aig_core.specs.Circuits.{Circuit, CircuitLatch, CircuitAnd, Symbol, symbol, symbols_of, input_edge, latch_edge, and_edge, next_edge, circuit_latch, circuit_and, circuit, input_letter, latch_letter, output_letter}
use Rattle.aig_core.specs.Text.{numbers_line, init_words, head_text, latches_text, ands_text, names_text, symbols_text, loads_text, groups_text, groups, aiger_text, binary_text}
use Rattle.aig_core.specs.Reading.{Header, Reader, ◌>>=◌, given, each, is_lf, line, lines, header, header_of, has_room, is_literal, is_own, input_of, output_of, loading, latch_of, latch_line_of, and_of, and_line_of, places_of, symbol_line_of, symbol_lines_of, symbols, ascii, read_ascii, is_full, falling, load, differences, binary, read_binary}
use Rattle.aig_core.specs.Reading as reading
use Rattle.aig_core.proofs.TextLemmas.{few_outputs}
use Rattle.aig_core.proofs.ReadingLemmas.{Takes, Ends, takes_then, then_ends, takes_meaning, each_takes, each_alike, Lacks, up_to_at, decimal_lacks, number_decimal, AreSmall, line_takes, groups_take}

-- the header of a graph
abbrev pub header_for : Built → Header
header_for built = record {
  most = built.aig.inputs + built.aig.latches + length built.aig.ands;
  inputs = built.aig.inputs;
  latches = built.aig.latches;
  outputs = length built.outputs;
  ands = length built.aig.ands;
}

-- ---- literals

pub own_passes : (h : Header) (v : ℕ) → 1 ≤ v → v ≤ h.most → is_own h (2 * v) ≡ true
own_passes h v some within =
    and_from (nat_le 2 (2 * v)) (((2 * v) % 2 == 0) && is_literal h (2 * v)) (le-leb 2 (2 * v) (omega (arith, some)))
    (and_from ((2 * v) % 2 == 0) (is_literal h (2 * v)) (eq-eqb ((2 * v) % 2) 0 (omega arith)) (le-leb (2 * v) (2 * h.most + 1) (omega (arith, within))))

pub literal_passes : (h : Header) (n : ℕ) → n < 2 * (1 + h.most) → is_literal h n ≡ true
literal_passes h n within = le-leb n (2 * h.most + 1) (omega (arith, within))

start_read : (own : ℕ) (init : Init) (h : Header) (next : ℕ) → 2 ≤ own → latch_of h own (next ∷ init_words own init) ≡ loading h own next (Some init)
start_read own Zero h next high = refl
start_read own One h next high = refl
start_read own Either h next high =
    rw (ne_eqb own 0 (λ e. omega (arith, e, high)), ne_eqb own 1 (λ e. omega (arith, e, high)), eq-eqb own own refl) refl

pub latch_read : (h : Header) (own next : ℕ) (init : Init) → 2 ≤ own → is_own h own ≡ true → is_literal h next ≡ true
    → latch_of h own (next ∷ init_words own init) ≡ Some (record { own = edge own; next = edge next; start = init })
latch_read h own next init high own_is next_is = start_read own init h next high ∙ rw (own_is, next_is) refl

pub words_small : (own : ℕ) (init : Init) → own < 2 ^ 64 → AreSmall (init_words own init)
words_small own Zero small = tt
words_small own One small = (omega arith, tt)
words_small own Either small = (small, tt)

pub and_read : (h : Header) (own : ℕ) (and : And) → is_own h own ≡ true → is_literal h and.greater.0 ≡ true → is_literal h and.smaller.0 ≡ true
    → and_of h own and.greater.0 and.smaller.0 ≡ Some (record { own = edge own; and = and })
and_read h own and own_is a b = rw (own_is, a, b) refl

-- ---- symbols

module _ (h : Header) (letter : ℕ) where
  symbol_read : (place : ℕ) (name : List ℕ) → place < places_of h letter → place < 2 ^ 64
      → symbol_line_of h (letter ∷ (decimal place ++ 32 ∷ name)) ≡ Some (symbol letter place name)
  symbol_read place name within small =
      rw (up_to_at 32 (decimal place) name (decimal_lacks 32 place (omega arith) small), number_decimal place small, lt-ltb place (places_of h letter) within) refl

  symbol_split : (place : ℕ) (name rest : List ℕ) → (letter == 10) ≡ false → Lacks 10 name → place < 2 ^ 64
      → slice_split is_lf (symbol_line (letter ∷ []) place name ++ rest) ≡ (letter ∷ (decimal place ++ 32 ∷ name)) ∷ slice_split is_lf rest
  symbol_split place name rest mark plain small =
      let word : List ℕ = letter ∷ (decimal place ++ 32 ∷ name) in
      let whole : symbol_line (letter ∷ []) place name ++ rest ≡ word ++ 10 ∷ rest =
      ap (λ (t : List ℕ). letter ∷ t)
      (append_assoc (decimal place) (codes " " ++ (name ++ codes "\n")) rest
      ∙ ap (λ (t : List ℕ). decimal place ++ 32 ∷ t) (append_assoc name (codes "\n") rest)
      ∙ sym (append_assoc (decimal place) (32 ∷ name) (10 ∷ rest))) in
      ap (slice_split is_lf) whole
      ∙ slice_split_at is_lf word 10 rest
      (All-cons (λ b. (b == 10) ≡ false) letter (decimal place ++ 32 ∷ name) mark
      (All-append (λ b. (b == 10) ≡ false) (decimal place) (32 ∷ name) (decimal_lacks 10 place (omega arith) small) (All-cons (λ b. (b == 10) ≡ false) 32 name refl plain)))
      refl

  symbols_read : (names : List (List ℕ)) (k : ℕ) (rest : List ℕ) (more : List Symbol) → (letter == 10) ≡ false → (letter == 99) ≡ false → All (Lacks 10) names
      → k + length names ≤ places_of h letter → k + length names ≤ 2 ^ 64 → symbol_lines_of h (slice_split is_lf rest) ≡ Some more
      → symbol_lines_of h (slice_split is_lf (flat_map (λ item. symbol_line (letter ∷ []) item.0 item.1) (enumerate_from k names) ++ rest))
      ≡ Some (map (λ item. symbol letter item.0 item.1) (enumerate_from k names) ++ more)
  symbols_read [] k rest more mark comment plain within small is = is
  symbols_read (name ∷ names) k rest more mark comment plain within small is =
      let others : List ℕ = flat_map (λ item. symbol_line (letter ∷ []) item.0 item.1) (enumerate_from (k + 1) names) in
      let tail = symbols_read names (k + 1) rest more mark comment (All-tail (Lacks 10) name names plain) (omega (arith, within)) (omega (arith, small)) is in
      ap (λ t. symbol_lines_of h (slice_split is_lf t)) (append_assoc (symbol_line (letter ∷ []) k name) others rest)
      ∙ ap (symbol_lines_of h) (symbol_split k name (others ++ rest) mark (All-head (Lacks 10) name names plain) (omega (arith, small)))
      ∙ rw (comment, symbol_read k name (omega (arith, within)) (omega (arith, small)), tail) refl

name_lacks : (name : List ℕ) → IsBlifName name → Lacks 10 name
name_lacks name blif = All-weaker IsBlifByte (λ b. (b == 10) ≡ false) (λ b fits. ne_eqb b 10 (λ e. omega (arith, e, fits.0))) name blif.1

names_lack : (names : List (List ℕ)) → All IsBlifName names → All (Lacks 10) names
names_lack names blif = All-weaker IsBlifName (Lacks 10) name_lacks names blif

output_lacks : (names : List (List ℕ)) (n : ℕ) → All (Lacks 10) names → Lacks 10 (get_or names n [])
output_lacks [] n plain = All-nil (λ b. (b == 10) ≡ false)
output_lacks (name ∷ names) zero plain = All-head (Lacks 10) name names plain
output_lacks (name ∷ names) (suc n) plain = output_lacks names n (All-tail (Lacks 10) name names plain)

outputs_lack : (net : Parts) (outputs : List Sig) → All (Lacks 10) (signal_names net) → All (Lacks 10) (map (signal_name net) outputs)
outputs_lack net [] plain = All-nil (Lacks 10)
outputs_lack net (s ∷ outputs) plain = All-cons (Lacks 10) (signal_name net s) (map (signal_name net) outputs) (output_lacks (signal_names net) s.0 plain) (outputs_lack net outputs plain)

front_lacks : (xs ys : List (List ℕ)) → All (Lacks 10) (xs ++ ys) → All (Lacks 10) xs
front_lacks [] ys plain = All-nil (Lacks 10)
front_lacks (x ∷ xs) ys plain = All-cons (Lacks 10) x xs (All-head (Lacks 10) x (xs ++ ys) plain) (front_lacks xs ys (All-tail (Lacks 10) x (xs ++ ys) plain))

back_lacks : (xs ys : List (List ℕ)) → All (Lacks 10) (xs ++ ys) → All (Lacks 10) ys
back_lacks [] ys plain = plain
back_lacks (x ∷ xs) ys plain = back_lacks xs ys (All-tail (Lacks 10) x (xs ++ ys) plain)

-- ---- what is read behind each part

abbrev behind_ands : Header → List Edge → List CircuitLatch → List Edge → List CircuitAnd → Reader Circuit
behind_ands h inputs latches outputs ands =
    symbols h >>= λ names. given (Some (record { most = h.most; inputs = inputs; latches = latches; outputs = outputs; ands = ands; symbols = names }))

abbrev behind_outputs : Header → List Edge → List CircuitLatch → List Edge → Reader Circuit
behind_outputs h inputs latches outputs = lines (and_line_of h) h.ands >>= behind_ands h inputs latches outputs

abbrev behind_latches : Header → List Edge → List CircuitLatch → Reader Circuit
behind_latches h inputs latches = lines (output_of h) h.outputs >>= behind_outputs h inputs latches

abbrev behind_inputs : Header → List Edge → Reader Circuit
behind_inputs h inputs = lines (latch_line_of h) h.latches >>= behind_latches h inputs

abbrev behind_header : Header → Reader Circuit
behind_header h = lines (input_of h) h.inputs >>= behind_inputs h

abbrev behind_binary_outputs : Header → List CircuitLatch → List Edge → Reader Circuit
behind_binary_outputs h latches outputs = each (differences h) (range_with_len 0 h.ands) >>= behind_ands h (map input_edge (range_with_len 0 h.inputs)) latches outputs

abbrev behind_loads : Header → List CircuitLatch → Reader Circuit
behind_loads h latches = lines (output_of h) h.outputs >>= behind_binary_outputs h latches

abbrev behind_binary_header : Header → Reader Circuit
behind_binary_header h = each (load h) (range_with_len 0 h.latches) >>= behind_loads h

-- what bounds the graph of a netlist
pub record IsBounded (net : Parts) (built : Built) : Type 0 where
  pub valid : IsNetlist net
  pub fits : FitsNetlist net built
  pub sound : IsSound built.aig
  pub columns : built.aig.inputs + built.aig.latches ≤ MAX_COLUMNS
  pub ands : length built.aig.ands ≤ MAX_ANDS
  pub outputs : length net.outputs ≤ 4294967295

pub bounded : (net : Parts) (built : Built) (ands : ℕ) → IsNetlist net → FitsNetlist net built → IsSound built.aig
    → built.aig.inputs + built.aig.latches ≤ MAX_COLUMNS → ands ≡ length built.aig.ands → ands ≤ MAX_ANDS → IsBounded net built
bounded net built ands valid fits sound columns count few = record {
  valid = valid;
  fits = fits;
  sound = sound;
  columns = columns;
  ands = omega (arith, count, few);
  outputs = few_outputs net valid;
}

module _ (net : Parts) (built : Built) (is : IsBounded net built) where
  abbrev h : Header
  h = header_for built

  counts_take : (fits : Header → Bool) → fits h ≡ true → Takes (line (header_of fits)) (numbers_line (h.most ∷ h.inputs ∷ h.latches ∷ h.outputs ∷ h.ands ∷ [])) h
  counts_take fits passes =
      let columns = is.columns in
      let ands = is.ands in
      let outputs = is.outputs in
      let count = is.fits.output_count in
      line_takes (header_of fits) h.most (h.inputs ∷ h.latches ∷ h.outputs ∷ h.ands ∷ []) h
      (omega arith, (omega arith, (omega arith, (omega arith, (omega arith, tt)))))
      (rw passes refl)

  header_takes : Takes (header (codes "aag") has_room) (head_text (codes "aag ") built) h
  header_takes = counts_take has_room (le-leb (h.inputs + h.latches + h.ands) h.most (omega arith))

  binary_header_takes : Takes (header (codes "aig") is_full) (head_text (codes "aig ") built) h
  binary_header_takes = counts_take is_full (eq-eqb (h.inputs + h.latches + h.ands) h.most refl)

  inputs_take : Takes (lines (input_of h) h.inputs) (flat_map input_line (range_with_len 0 h.inputs)) (map input_edge (range_with_len 0 h.inputs))
  inputs_take =
      let numbers : List ℕ = range_with_len 0 h.inputs in
      let takes = each_alike (line (input_of h)) input_line input_edge numbers 0
      (λ i z at.
      let within : i < h.inputs = (let l = slice_get_within numbers i z at in let n = length-range_with_len 0 h.inputs in omega (arith, l, n)) in
      let place : i ≡ z = (let e : 0 + i ≡ z = sym (get_or-range_with_len 0 h.inputs i 0 within) ∙ get_or_from_slice_get numbers i z 0 at in omega (arith, e)) in
      let columns = is.columns in
      line_takes (input_of h) (2 * (1 + z)) [] (input_edge z) (omega (arith, within, place, columns), tt)
      (rw (own_passes h (1 + z) (omega arith) (omega (arith, within, place))) refl)) in
      subst (λ n. Takes (lines (input_of h) n) (flat_map input_line numbers) (map input_edge numbers)) (length-range_with_len 0 h.inputs) takes

  loaded : (i : ℕ) → i < built.aig.latches → (next_edge built i).0 < 2 * (1 + h.most)
  loaded i within =
      let count = is.fits.latches in
      let n = is.fits.next_count in
      let l = is.fits.nexts i (edge 0) (omega (arith, n, within, count)) in
      omega (arith, l)

  -- the numbers of a latch are read, in either form
  latch_words : (i : ℕ) (latch : Latch) → i < built.aig.latches → latch_of h (latch_edge built.aig i).0 ((next_edge built i).0 ∷ init_words (latch_edge built.aig i).0 latch.init) ≡ Some (circuit_latch built i latch)
  latch_words i latch within =
      latch_read h (latch_edge built.aig i).0 (next_edge built i).0 latch.init (omega arith) (own_passes h (1 + built.aig.inputs + i) (omega arith) (omega (arith, within))) (literal_passes h (next_edge built i).0 (loaded i within))

  latch_small : (i : ℕ) (latch : Latch) → i < built.aig.latches → AreSmall ((next_edge built i).0 ∷ init_words (latch_edge built.aig i).0 latch.init)
  latch_small i latch within =
      let columns = is.columns in
      let ands = is.ands in
      (omega (arith, loaded i within, columns, ands), words_small (latch_edge built.aig i).0 latch.init (omega (arith, within, columns)))

  latches_take : Takes (lines (latch_line_of h) h.latches) (latches_text net built) (map (λ item. circuit_latch built item.0 item.1) (enumerate_from 0 net.latches))
  latches_take =
      let count : built.aig.latches ≡ length net.latches = is.fits.latches in
      let takes = each_takes (λ i. line (latch_line_of h)) (latch_line built) (circuit_latch built) net.latches 0
      (λ i j latch e at.
      let within : j < built.aig.latches = (let l = slice_get_within net.latches i latch at in omega (arith, l, count, e)) in
      let columns = is.columns in
      line_takes (latch_line_of h) (latch_edge built.aig j).0 ((next_edge built j).0 ∷ init_words (latch_edge built.aig j).0 latch.init) (circuit_latch built j latch)
      (omega (arith, within, columns), latch_small j latch within) (latch_words j latch within)) in
      subst (λ n. Takes (lines (latch_line_of h) n) (latches_text net built) (map (λ item. circuit_latch built item.0 item.1) (enumerate_from 0 net.latches))) (sym count) takes

  outputs_take : Takes (lines (output_of h) h.outputs) (flat_map output_line built.outputs) built.outputs
  outputs_take =
      let takes = each_alike (line (output_of h)) output_line (λ e. e) built.outputs 0
      (λ i e at.
      let columns = is.columns in
      let ands = is.ands in
      let read : e.0 < 2 * (1 + h.most) =
      (let l = is.fits.outputs i e (slice_get_within built.outputs i e at) in let same = ap (λ (x : Edge). x.0) (get_or_from_slice_get built.outputs i e e at) in omega (arith, l, same)) in
      line_takes (output_of h) e.0 [] e (omega (arith, read, columns, ands), tt) (rw (literal_passes h e.0 read) refl)) in
      subst (λ found. Takes (lines (output_of h) h.outputs) (flat_map output_line built.outputs) found) (map-id built.outputs) takes

  and_words : (i : ℕ) (and : And) → slice_get built.aig.ands i ≡ Some and → and_of h (and_edge built.aig i).0 and.greater.0 and.smaller.0 ≡ Some (circuit_and built.aig i and)
  and_words i and at =
      let within : i < length built.aig.ands = slice_get_within built.aig.ands i and at in
      let sound : IsSoundAnd (first_and built.aig + i) and = is.sound.each i and at in
      let earlier = sound.earlier in
      let greater = sound.greater in
      and_read h (and_edge built.aig i).0 and (own_passes h (first_and built.aig + i) (omega arith) (omega (arith, within)))
      (literal_passes h and.greater.0 (omega (arith, earlier, within))) (literal_passes h and.smaller.0 (omega (arith, earlier, greater, within)))

  ands_take : Takes (lines (and_line_of h) h.ands) (ands_text built.aig) (map (λ item. circuit_and built.aig item.0 item.1) (enumerate_from 0 built.aig.ands))
  ands_take =
      each_takes (λ i. line (and_line_of h)) (and_line built.aig) (circuit_and built.aig) built.aig.ands 0
      (λ i j and e at.
      let within : j < length built.aig.ands = (let l = slice_get_within built.aig.ands i and at in omega (arith, l, e)) in
      let columns = is.columns in
      let ands = is.ands in
      let sound : IsSoundAnd (first_and built.aig + i) and = is.sound.each i and at in
      let earlier = sound.earlier in
      let greater = sound.greater in
      line_takes (and_line_of h) (and_edge built.aig j).0 (and.greater.0 ∷ and.smaller.0 ∷ []) (circuit_and built.aig j and)
      (omega (arith, within, columns, ands), (omega (arith, within, columns, ands, earlier, e), (omega (arith, within, columns, ands, earlier, greater, e), tt)))
      (and_words j and (subst (λ n. slice_get built.aig.ands n ≡ Some and) (let same : i ≡ j = omega (arith, e) in same) at)))

  names_end : Ends (symbols h) (names_text net) (circuit net built).symbols
  names_end =
      let fits = is.valid.fits in
      let plain : All (Lacks 10) (signal_names net) = names_lack (signal_names net) is.valid.names in
      let latch_names : List (List ℕ) = map (λ (latch : Latch). latch.name) net.latches in
      let gate_names : List (List ℕ) = map (λ (gate : Gate). gate.name) net.gates in
      let output_names : List (List ℕ) = map (signal_name net) net.outputs in
      let latches_plain : All (Lacks 10) latch_names = front_lacks latch_names gate_names (back_lacks net.inputs (driven_names net) plain) in
      let inputs_count = is.fits.inputs in
      let latches_count = is.fits.latches in
      let outputs_count = is.fits.output_count in
      let few = is.outputs in
      let latches_length = length-map net.latches (λ (latch : Latch). latch.name) in
      let outputs_length = length-map net.outputs (signal_name net) in
      let last_text : List ℕ = symbols_text (codes "o") output_names in
      let last : List Symbol = symbols_of output_letter output_names in
      let last_read : symbol_lines_of h (slice_split is_lf last_text) ≡ Some last =
      ap (λ (t : List ℕ). symbol_lines_of h (slice_split is_lf t)) (sym (append-nil last_text))
      ∙ symbols_read h output_letter output_names 0 [] [] refl refl (outputs_lack net net.outputs plain) (omega (arith, outputs_count, outputs_length)) (omega (arith, few, outputs_length)) refl
      ∙ ap (λ (found : List Symbol). Some found) (append-nil last) in
      let latches_text_of : List ℕ = symbols_text (codes "l") latch_names in
      ap (option_map (λ found. (found, [])))
      (symbols_read h input_letter net.inputs 0 (latches_text_of ++ last_text) (symbols_of latch_letter latch_names ++ last) refl refl (front_lacks net.inputs (driven_names net) plain) (omega (arith, inputs_count)) (omega (arith, fits))
      (symbols_read h latch_letter latch_names 0 last_text last refl refl latches_plain (omega (arith, latches_count, latches_length)) (omega (arith, fits, latches_length))
      last_read))

  named : (let c : Circuit = circuit net built in Ends (behind_ands h c.inputs c.latches c.outputs c.ands) (names_text net) c)
  named =
      let c : Circuit = circuit net built in
      ap (option_and_then (λ taken. given (Some (record { most = h.most; inputs = c.inputs; latches = c.latches; outputs = c.outputs; ands = c.ands; symbols = taken.0 })) taken.1)) names_end

  -- the whole text
  pub ascii_reads : read_ascii (aiger_text net built) ≡ Some (circuit net built)
  ascii_reads =
      let names : List ℕ = names_text net in
      let ands : List ℕ = ands_text built.aig ++ names in
      let outputs : List ℕ = flat_map output_line built.outputs ++ ands in
      let latches : List ℕ = latches_text net built ++ outputs in
      let inputs : List ℕ = flat_map input_line (range_with_len 0 h.inputs) ++ latches in
      let c : Circuit = circuit net built in
      let end : Ends ascii (aiger_text net built) c =
      then_ends (header (codes "aag") has_room) behind_header (head_text (codes "aag ") built) inputs h c header_takes
      (then_ends (lines (input_of h) h.inputs) (behind_inputs h) (flat_map input_line (range_with_len 0 h.inputs)) latches c.inputs c inputs_take
      (then_ends (lines (latch_line_of h) h.latches) (behind_latches h c.inputs) (latches_text net built) outputs c.latches c latches_take
      (then_ends (lines (output_of h) h.outputs) (behind_outputs h c.inputs c.latches) (flat_map output_line built.outputs) ands c.outputs c outputs_take
      (then_ends (lines (and_line_of h) h.ands) (behind_ands h c.inputs c.latches c.outputs) (ands_text built.aig) names c.ands c ands_take named)))) in
      ap (option_map (λ taken. taken.0)) end

  -- ---- the binary form

  loads_take : Takes (each (load h) (range_with_len 0 h.latches)) (loads_text net built) (map (λ item. circuit_latch built item.0 item.1) (enumerate_from 0 net.latches))
  loads_take =
      let count : built.aig.latches ≡ length net.latches = is.fits.latches in
      let takes = each_takes (load h) (load_line built) (circuit_latch built) net.latches 0
      (λ i j latch e at.
      let within : j < built.aig.latches = (let l = slice_get_within net.latches i latch at in omega (arith, l, count, e)) in
      line_takes (latch_of h (latch_edge built.aig j).0) (next_edge built j).0 (init_words (latch_edge built.aig j).0 latch.init) (circuit_latch built j latch)
      (latch_small j latch within) (latch_words j latch within)) in
      subst (λ n. Takes (each (load h) (range_with_len 0 n)) (loads_text net built) (map (λ item. circuit_latch built item.0 item.1) (enumerate_from 0 net.latches))) (sym count) takes

  falling_read : (i : ℕ) (and : And) → slice_get built.aig.ands i ≡ Some and
      → falling h (and_edge built.aig i).0 ((and_edge built.aig i).0 - and.greater.0) (and.greater.0 - and.smaller.0) ≡ Some (circuit_and built.aig i and)
  falling_read i and at =
      let sound : IsSoundAnd (first_and built.aig + i) and = is.sound.each i and at in
      let earlier = sound.earlier in
      let greater = sound.greater in
      let own : ℕ = (and_edge built.aig i).0 in
      let first : ℕ = own - and.greater.0 in
      let second : ℕ = and.greater.0 - and.smaller.0 in
      let a : own - first ≡ and.greater.0 = omega (arith, earlier) in
      let b : own - first - second ≡ and.smaller.0 = omega (arith, earlier, greater) in
      rw (lt-ltb 0 first (omega (arith, earlier)), le-leb (first + second) own (omega (arith, earlier, greater)))
      (ap₂ (and_of h own) a b ∙ and_words i and at)

  differences_take : Takes (each (differences h) (range_with_len 0 h.ands)) (groups_text built.aig) (map (λ item. circuit_and built.aig item.0 item.1) (enumerate_from 0 built.aig.ands))
  differences_take =
      each_takes (differences h) (and_groups built.aig) (circuit_and built.aig) built.aig.ands 0
      (λ i j and e at.
      let own : ℕ = (and_edge built.aig j).0 in
      takes_then reading.groups (λ first. reading.groups >>= λ second. given (falling h own first second)) (groups (own - and.greater.0)) (groups (and.greater.0 - and.smaller.0))
      (own - and.greater.0) (circuit_and built.aig j and) (groups_take (own - and.greater.0))
      (takes_meaning reading.groups (falling h own (own - and.greater.0)) (groups (and.greater.0 - and.smaller.0)) (and.greater.0 - and.smaller.0) (circuit_and built.aig j and)
      (groups_take (and.greater.0 - and.smaller.0))
      (falling_read j and (subst (λ n. slice_get built.aig.ands n ≡ Some and) (let same : i ≡ j = omega (arith, e) in same) at))))

  pub binary_reads : read_binary (binary_text net built) ≡ Some (circuit net built)
  binary_reads =
      let names : List ℕ = names_text net in
      let ands : List ℕ = groups_text built.aig ++ names in
      let outputs : List ℕ = flat_map output_line built.outputs ++ ands in
      let latches : List ℕ = loads_text net built ++ outputs in
      let c : Circuit = circuit net built in
      let end : Ends binary (binary_text net built) c =
      then_ends (header (codes "aig") is_full) behind_binary_header (head_text (codes "aig ") built) latches h c binary_header_takes
      (then_ends (each (load h) (range_with_len 0 h.latches)) (behind_loads h) (loads_text net built) outputs c.latches c loads_take
      (then_ends (lines (output_of h) h.outputs) (behind_binary_outputs h c.latches) (flat_map output_line built.outputs) ands c.outputs c outputs_take
      (then_ends (each (differences h) (range_with_len 0 h.ands)) (behind_ands h c.inputs c.latches c.outputs) (groups_text built.aig) names c.ands c differences_take named))) in
      ap (option_map (λ taken. taken.0)) end
