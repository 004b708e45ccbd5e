-- Where the second netlist stands in the first, gate by gate, the two don't differ.
use Rattle.std.proofs.Common.{◌≡◌, ℕ, ◌+◌, ◌-◌, ◌<◌, ◌≤◌, List, ◌++◌, None, Bool, false, length, get_or, All, sym, ap, ap₂, refl, ◌∙◌, arith}
use Rattle.std.proofs.lemmas.Bool.{lt-ltb, le-ltb}
use Rattle.miters.proofs.Common.{Sig, Trit, X, bit, bits, Parts, Pair, signal, IsSignal, IsNetlist, wire, fix, columns, length-map, by_name, columns_by_name, difference, differs, output_pairs, latch_pairs, list_any_none, CareSet, care_vectors}
use Rattle.miters.specs.Differences.{are_different, differs_at}
use Rattle.miters.specs.Placed.{placed, place_in, StandIn}
use Rattle.cyc_base.proofs.OrderLemmas.{bits-at}
use Rattle.miters.proofs.DifferenceLemmas.{agree_on_care}
use Rattle.miters.proofs.JoinLemmas.{pairs_for}
use Rattle.miters.proofs.MatchLemmas.{Match, table_within, length-table, length-by_name, by_name_at}
use Rattle.miters.proofs.NameLemmas.{find_nowhere}
use Rattle.miters.proofs.PartLemmas.{IsPartOf, fix_at}

not_other : (x : Trit) → are_different x x ≡ false
not_other x = grind arith

module _ (a b : Parts) (places : List ℕ) (valid_a : IsNetlist a) (valid_b : IsNetlist b) (match_ : Match a b)
    (few : length b.gates ≤ length a.gates) (stand : StandIn a b (columns_by_name a b) places) where
  placed_low : (s : Sig) → s.0 < columns b → placed a b places s ≡ signal (get_or (columns_by_name a b) s.0 0)
  placed_low s l = grind (arith, length-table a b, lt-ltb s.0 (length (columns_by_name a b)))

  placed_high : (s : Sig) → columns b ≤ s.0 → placed a b places s ≡ signal (get_or places (s.0 - columns b) 0)
  placed_high s l = grind (arith, length-table a b, le-ltb s.0 (length (columns_by_name a b)))

  at_gate : (s : Sig) → columns b ≤ s.0 → IsSignal b s → (placed a b places s).0 ≡ columns a + place_in a places (s.0 - columns b)
  at_gate s high inside =
      let n : ℕ = s.0 - columns b in
      let there = stand n (omega arith) in
      let above = there.above in
      ap (λ (t : Sig). t.0) (placed_high s high) ∙ (let e : get_or places n 0 ≡ columns a + (get_or places n 0 - columns a) = omega (arith, above) in e)

  at_column : (s : Sig) → s.0 < columns b → (placed a b places s).0 < columns a
  at_column s low = grind (arith, placed_low s low, table_within a b match_ s.0 low)

  gate_within : (n : ℕ) → n < length b.gates → place_in a places n < length a.gates
  gate_within n l = let there = stand n l in let above = there.above in let below = there.below in omega (arith, above, below)

  part : IsPartOf b a (placed a b places) (place_in a places)
  part = record {
    few = few;
    within = gate_within;
    covers = λ n l. (stand n l).cover_is;
    pins = λ n l. (stand n l).pins_are;
    gates = at_gate;
    column = at_column;
  }

  -- a signal has in the first netlist the value that it has in the second
  same_there : (v : List Bool) → length v ≡ columns a → (s : Sig) → IsSignal b s → wire (fix a (bits v)) (placed a b places s) ≡ wire (fix b (bits (by_name a b v))) s
  same_there v wide =
      fix_at b a (placed a b places) (place_in a places) part valid_b (bits (by_name a b v)) (bits v)
      (length-map (by_name a b v) bit ∙ length-by_name a b v) (length-map v bit ∙ wide)
      (λ s l.
      let w = table_within a b match_ s.0 l in
      let y = length-by_name a b v in
      ap (λ (t : Sig). get_or (bits v) t.0 X) (placed_low s l)
      ∙ bits-at v (get_or (columns_by_name a b) s.0 0) (omega arith)
      ∙ ap bit (sym (by_name_at a b v s.0 l))
      ∙ sym (bits-at (by_name a b v) s.0 (omega arith)))

  module _ (care : CareSet) (pairs_stand : All (λ pair. (placed a b places pair.there).0 ≡ pair.here.0) (output_pairs a b ++ latch_pairs a b)) where
    pair_same : (v : List Bool) → length v ≡ columns a → (k : ℕ) (d : Pair) → k < length (output_pairs a b ++ latch_pairs a b) → differs_at a b v (get_or (output_pairs a b ++ latch_pairs a b) k d) ≡ false
    pair_same v wide k d l =
        let pair : Pair = get_or (output_pairs a b ++ latch_pairs a b) k d in
        let is = pairs_for a b valid_a valid_b match_ k d l in
        ap₂ are_different
        (ap (λ (n : ℕ). wire (fix a (bits v)) (signal n)) (sym (pairs_stand k d l)))
        (sym (same_there v wide pair.there is.there))
        ∙ not_other (wire (fix a (bits v)) (placed a b places pair.there))

    pub never_differs : difference a b care ≡ None
    never_differs =
        agree_on_care a care (differs a b) (λ v. false) (λ v counts. list_any_none (differs_at a b v) (output_pairs a b ++ latch_pairs a b) (pair_same v counts.width))
        ∙ find_nowhere (λ v. false) (care_vectors a care) (λ k d l. refl)
