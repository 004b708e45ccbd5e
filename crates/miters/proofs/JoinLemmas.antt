-- Both netlists stand in the joined one, each with the fixpoint that it has alone.
use Rattle.std.proofs.Common.{◌≡◌, ◌≢◌, inl, inr, ℕ, ◌+◌, ◌-◌, ◌<◌, ◌≤◌, Bool, true, false, List, [], ◌∷◌, ◌++◌, length, get_or, All, Option, refl, sym, ap, ap₂, subst, ◌∙◌, arith}
use Rattle.miters.proofs.Common.{list_any, option_map_or, bytes_eq, cases_lt, length-append, length-map, get_or-map, get_or_append_left, get_or-append-add, map-id, All-map, All-append, length-map-range_with_len, get_or-map-range_with_len, position-Some, slice_get_within, get_or_from_slice_get, Sig, Trit, X, bit, bits, Gate, Latch, Parts, count, signal, gate_at, no_gate, gate_sig, signal_names, IsSignal, IsNetlist, wire, fix, columns, mark, Pair, some_is_apart, are_apart, is_apart_at, signal_name, latch_named, has_latch, is_output, init_eq, columns_by_name, by_name, signal_named, source_named, pair_of, output_pairs, latch_pairs, differs, moved, moved_gate_by, moved_gates, moved_pair_by, joined, joined_pairs, find_at, length-signal_names, list_any-map, gate_sigs, AreDetermined}
use Rattle.std.proofs.lemmas.Bool.{lt-ltb, le-ltb}
use Rattle.miters.specs.Differences.{are_different, differs_at}
use Rattle.cyc_base.proofs.OrderLemmas.{bits-at}
use Rattle.refusals.proofs.RefusalLemmas.{column_known, gate_sig_at, length-gate_sigs}
use Rattle.miters.proofs.NameLemmas.{any_agree}
use Rattle.miters.proofs.PartLemmas.{IsPartOf, fix_at}
use Rattle.miters.proofs.MatchLemmas.{Match, table_within, length-table, length-by_name, by_name_at}

-- ---- where signals stand

pub moved_low : (a b : Parts) (s : Sig) → s.0 < columns b → moved a b s ≡ signal (get_or (columns_by_name a b) s.0 0)
moved_low a b s l = grind (arith, length-table a b, lt-ltb s.0 (length (columns_by_name a b)))

pub moved_high : (a b : Parts) (s : Sig) → columns b ≤ s.0 → moved a b s ≡ signal (count a + (s.0 - columns b))
moved_high a b s l = grind (arith, length-table a b, le-ltb s.0 (length (columns_by_name a b)))

pub length-moved : (a b : Parts) → length (moved_gates a b) ≡ length b.gates
length-moved a b = length-map-range_with_len (moved_gate_by (columns_by_name a b) (count a) (mark a) b) 0 (length b.gates)

module _ (a b : Parts) (more : List Gate) where
  abbrev big : Parts
  big = joined a b more

  pub length-joined : length big.gates ≡ length a.gates + (length b.gates + length more)
  length-joined =
      let x = length-append a.gates (moved_gates a b ++ more) in
      let y = length-append (moved_gates a b) more in
      let z = length-moved a b in
      omega arith

  pub first_gate : (n : ℕ) → n < length a.gates → gate_at big n ≡ gate_at a n
  first_gate n l = get_or_append_left a.gates (moved_gates a b ++ more) no_gate n l

  pub second_gate : (n : ℕ) → n < length b.gates → gate_at big (length a.gates + n) ≡ moved_gate_by (columns_by_name a b) (count a) (mark a) b n
  second_gate n l =
      grind (arith, length-moved a b, get_or-append-add a.gates (moved_gates a b ++ more) n no_gate, get_or_append_left (moved_gates a b) more no_gate n, get_or-map-range_with_len (moved_gate_by (columns_by_name a b) (count a) (mark a) b) 0 (length b.gates) n n no_gate l)

  pub first_part : IsPartOf a big (λ s. s) (λ n. n)
  first_part = grind (arith, length-joined, first_gate, map-id)

  pub second_part : Match a b → IsPartOf b big (moved a b) (λ n. length a.gates + n)
  second_part match_ = grind (arith, length-joined, second_gate, moved_high a b, moved_low a b, table_within a b match_)

  module _ (valid_a : IsNetlist a) (valid_b : IsNetlist b) (match_ : Match a b) (v : List Bool) (wide : length v ≡ columns a) where
    pub fix_first : (s : Sig) → IsSignal a s → wire (fix big (bits v)) s ≡ wire (fix a (bits v)) s
    fix_first =
        fix_at a big (λ s. s) (λ n. n) first_part valid_a (bits v) (bits v) (length-map v bit ∙ wide) (length-map v bit ∙ wide) (λ s l. refl)

    pub fix_second : (s : Sig) → IsSignal b s → wire (fix big (bits v)) (moved a b s) ≡ wire (fix b (bits (by_name a b v))) s
    fix_second =
        fix_at b big (moved a b) (λ n. length a.gates + n) (second_part match_) valid_b (bits (by_name a b v)) (bits v)
        (length-map (by_name a b v) bit ∙ length-by_name a b v) (length-map v bit ∙ wide)
        (λ s l.
        let w = table_within a b match_ s.0 l in
        let y = length-by_name a b v in
        ap (λ (t : Sig). get_or (bits v) t.0 X) (moved_low a b s l)
        ∙ bits-at v (get_or (columns_by_name a b) s.0 0) (omega arith)
        ∙ ap bit (sym (by_name_at a b v s.0 l))
        ∙ sym (bits-at (by_name a b v) s.0 (omega arith)))

-- ---- known signals

pub signal_known : (net : Parts) (v : List Bool) → length v ≡ columns net → AreDetermined net v (gate_sigs net) → (s : Sig) → IsSignal net s → wire (fix net (bits v)) s ≢ X
signal_known net v wide determined s inside = elim (cases_lt s.0 (columns net)) [
  | inl low ↦ column_known net v s wide low
  | inr high ↦
      let k : ℕ = s.0 - columns net in
      let less : k < length net.gates = omega arith in
      let at : get_or (gate_sigs net) k s ≡ s = gate_sig_at net k s less ∙ ap signal (let e : columns net + k ≡ s.0 = omega arith in e) in
      let len = length-gate_sigs net in
      subst (λ (t : Sig). wire (fix net (bits v)) t ≢ X) at (determined k s (omega arith))
]

-- ---- pairs

pub record IsPairFor (a b : Parts) (pair : Pair) : Type 0 where
  pub here : IsSignal a pair.here
  pub there : IsSignal b pair.there

named_signal : (net : Parts) (name : List ℕ) → 0 < count net → IsSignal net (signal_named net name)
named_signal net name some = grind (arith, position-Some (bytes_eq name) (signal_names net), length-signal_names net)

has_output : (net : Parts) (name : List ℕ) → IsNetlist net → is_output net name ≡ true → 0 < count net
has_output net name valid e = by net.outputs refl (sym (list_any-map (bytes_eq name) (signal_name net) net.outputs) ∙ e)
  where
    by : (outputs : List Sig) → net.outputs ≡ outputs → list_any (λ s. bytes_eq name (signal_name net s)) outputs ≡ true → 0 < count net
    by [] same h = cc
    by (s ∷ ss) same h = let l = valid.outputs 0 s (subst (λ (xs : List Sig). 0 < length xs) (sym same) (omega arith)) in omega arith

has_source : (net : Parts) (latch : Latch) → IsNetlist net → has_latch net latch ≡ true → IsSignal net (source_named net latch.name)
has_source net latch valid e = by (latch_named net latch.name) refl e
  where
    by : (o : Option Latch) → latch_named net latch.name ≡ o → option_map_or (λ (other : Latch). init_eq latch.init other.init) o false ≡ true → IsSignal net (option_map_or (λ (l : Latch). l.from) o (signal 0))
    by o found h = grind (arith, find_at, get_or_from_slice_get, slice_get_within)

module _ (a b : Parts) (valid_a : IsNetlist a) (valid_b : IsNetlist b) (match_ : Match a b) where
  pub pairs_for : All (IsPairFor a b) (output_pairs a b ++ latch_pairs a b)
  pairs_for =
      All-append (IsPairFor a b) (output_pairs a b) (latch_pairs a b)
      (All-map (IsPairFor a b) (λ s. pair_of s (signal_named b (signal_name a s))) a.outputs
      (λ k d l. record {
        here = valid_a.outputs k d l;
        there =
            named_signal b (signal_name a (get_or a.outputs k d))
            (has_output b (signal_name a (get_or a.outputs k d)) valid_b
            (let m = length-map a.outputs (signal_name a) in
            ap (is_output b) (sym (get_or-map (signal_name a) a.outputs k d [] l)) ∙ match_.outputs_ab k [] (omega arith)));
      }))
      (All-map (IsPairFor a b) (λ (latch : Latch). pair_of latch.from (source_named b latch.name)) a.latches
      (λ k d l. record {
        here = valid_a.sources k d l;
        there = has_source b (get_or a.latches k d) valid_b (match_.latches_ab k d l);
      }))

-- of known values
pub apart_is_different : (x y : Trit) → x ≢ X → y ≢ X → are_apart x y ≡ are_different x y
apart_is_different x y h k = grind arith

module _ (a b : Parts) (more : List Gate) (valid_a : IsNetlist a) (valid_b : IsNetlist b) (match_ : Match a b) (v : List Bool) (wide : length v ≡ columns a)
    (known_a : AreDetermined a v (gate_sigs a)) (known_b : AreDetermined b (by_name a b v) (gate_sigs b)) where
  known_here : (s : Sig) → IsSignal a s → wire (fix a (bits v)) s ≢ X
  known_here = signal_known a v wide known_a

  known_there : (s : Sig) → IsSignal b s → wire (fix b (bits (by_name a b v))) s ≢ X
  known_there = signal_known b (by_name a b v) (length-by_name a b v) known_b

  -- so a pair differs where it does in the joined netlist
  pub pair_same : (pair : Pair) → IsPairFor a b pair → is_apart_at (joined a b more) v (moved_pair_by (columns_by_name a b) (count a) pair) ≡ differs_at a b v pair
  pair_same pair is =
      let here : IsSignal a pair.here = is.here in
      let there : IsSignal b pair.there = is.there in
      ap₂ are_apart (fix_first a b more valid_a valid_b match_ v wide pair.here here) (fix_second a b more valid_a valid_b match_ v wide pair.there there)
      ∙ apart_is_different (wire (fix a (bits v)) pair.here) (wire (fix b (bits (by_name a b v))) pair.there) (known_here pair.here here) (known_there pair.there there)

  pub apart_same : some_is_apart (joined a b more) (joined_pairs a b) v ≡ differs a b v
  apart_same = grind (arith, list_any-map (is_apart_at (joined a b more) v) (moved_pair_by (columns_by_name a b) (count a)) (output_pairs a b ++ latch_pairs a b), any_agree, pair_same, pairs_for a b valid_a valid_b match_)

  -- the signals of both are known there
  first_known : (s : Sig) → IsSignal a s → wire (fix (joined a b more) (bits v)) s ≢ X
  first_known s inside e = known_here s inside (sym (fix_first a b more valid_a valid_b match_ v wide s inside) ∙ e)

  second_known : (s : Sig) → IsSignal b s → wire (fix (joined a b more) (bits v)) (moved a b s) ≢ X
  second_known s inside e = known_there s inside (sym (fix_second a b more valid_a valid_b match_ v wide s inside) ∙ e)

  -- so the wires of each pair are
  pub pair_known : (k : ℕ) (d : Pair) → k < length (joined_pairs a b) →
      (wire (fix (joined a b more) (bits v)) (get_or (joined_pairs a b) k d).here ≢ X) × (wire (fix (joined a b more) (bits v)) (get_or (joined_pairs a b) k d).there ≢ X)
  pair_known k d l =
      let pairs = output_pairs a b ++ latch_pairs a b in
      grind (arith, length-map pairs (moved_pair_by (columns_by_name a b) (count a)), pairs_for a b valid_a valid_b match_ k d, get_or-map (moved_pair_by (columns_by_name a b) (count a)) pairs k d d, first_known (get_or pairs k d).here, second_known (get_or pairs k d).there)

  -- and so are the gates of both netlists
  pub gate_known : (n : ℕ) → n < length a.gates + length b.gates → wire (fix (joined a b more) (bits v)) (gate_sig (joined a b more) n) ≢ X
  gate_known n l = elim (cases_lt n (length a.gates)) [
    | inl low ↦ first_known (gate_sig a n) (omega arith)
    | inr high ↦
        let i : ℕ = n - length a.gates in
        let at : moved a b (gate_sig b i) ≡ gate_sig (joined a b more) n =
        moved_high a b (gate_sig b i) (omega arith) ∙ ap signal (let f : count a + ((columns b + i) - columns b) ≡ columns a + n = omega arith in f) in
        subst (λ (s : Sig). wire (fix (joined a b more) (bits v)) s ≢ X) at (second_known (gate_sig b i) (omega arith))
  ]

pub moved_within : (a b : Parts) (more : List Gate) → Match a b → (s : Sig) → IsSignal b s → IsSignal (joined a b more) (moved a b s)
moved_within a b more match_ s inside = grind (arith, length-joined a b more, cases_lt s.0 (columns b), table_within a b match_ s.0, moved_low a b s, moved_high a b s)
