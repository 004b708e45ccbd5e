-- Excerpts whose inputs are the columns.
use Rattle.std.proofs.Common.{◌≡◌, ◌<◌, ◌∙◌, length, ap, arith}
use Rattle.isolation.proofs.Common.{get_or-map, get_or_default, get_or_append_left, length-map, ext_get_or, range_with_len, X, bit, bits, signal, wire, fix, fix_gates, first_gate, inputs_in}
use Rattle.std.proofs.lemmas.List.FromFn.{length-range_with_len, get_or-range_with_len}
use Rattle.isolation.specs.Laws.{column_signals, ExcerptsKeep, ColumnsGiveVectors, UnsettledExcerptDecides}
use Rattle.isolation.proofs.KeptLemmas.{fix-kept}
use Rattle.isolation.proofs.LoopLemmas.{loop-same, cut-same, sweeps-same, fixed-up, fixed-down}
use Rattle.isolation.proofs.SettledLemmas.{unsettled_loops_decide}

pub excerpts_keep : ExcerptsKeep
excerpts_keep net outside gates small one two valid is whole one_is two_is v width = record {
  fixpoint = fix-kept net outside gates small valid is whole.within v width;
  same = loop-same net outside gates small valid is whole one two one_is two_is;
  cut = cut-same net outside gates small valid is whole one two one_is two_is;
  sweeps = λ k i l. sweeps-same net outside gates small valid is whole one two one_is two_is v width k i l;
  fixed = λ k i l. (
    fixed-up net outside gates small valid is whole one two one_is two_is v width i k l,
    fixed-down net outside gates small valid is whole one two one_is two_is v width i k l,
  );
}

pub columns_give_vectors : ColumnsGiveVectors
columns_give_vectors net v width =
    let l1 = length-map (column_signals net) (wire (fix net v)) in
    let l2 = length-map (range_with_len 0 (first_gate net)) signal in
    let l3 = length-range_with_len 0 (first_gate net) in
    ext_get_or X (inputs_in net v (column_signals net)) v (omega (arith, l1, l2, l3, width))
    (λ i less.
    let l : i < first_gate net = omega (arith, l1, l2, l3, less) in
    get_or-map (wire (fix net v)) (column_signals net) i (signal 0) X (omega (arith, l, l2, l3))
    ∙ ap (wire (fix net v)) (get_or-map signal (range_with_len 0 (first_gate net)) i 0 (signal 0) (omega (arith, l, l3)) ∙ ap signal (get_or-range_with_len 0 (first_gate net) i 0 l ∙ omega arith))
    ∙ get_or_append_left v (fix_gates net v) X i (omega (arith, l, width)))

pub unsettled_excerpt_decides : UnsettledExcerptDecides
unsettled_excerpt_decides net blocks settled gates small valid are alone small_valid is whole has v width known n nl =
    grind (arith, unsettled_loops_decide net blocks settled valid are alone v width n nl, length-map v bit, get_or_default gates, columns_give_vectors net (bits v), fix-kept net (column_signals net) gates small small_valid is whole.within (bits v))
