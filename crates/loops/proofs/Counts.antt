-- The number of sweeps is one for each loop.
use Rattle.std.proofs.Common.{◌≡◌, ℕ, true, List, arith}
use Rattle.std.proofs.lemmas.List.Elements.{filter_agree}
use Rattle.loops.proofs.Common.{Trit, same_truth, Parts, Loops, AreLoopsOf}
use Rattle.loops.specs.Sweeps.{cuts_of, CutsAreFixed}
use Rattle.loops.specs.Laws.{CountIsOfLoops}
use Rattle.loops.proofs.Sweeps.{same-sym, same-trans}

module _ (net : Parts) (loops : Loops) (are : AreLoopsOf net loops) where
  cuts_same : (a b : ℕ) → loops.same a b ≡ true → cuts_of net loops a ≡ cuts_of net loops b
  cuts_same a b e = grind (arith, filter_agree, same_truth, same-trans net loops are b a, same-sym net loops are a b e, same-trans net loops are a b)

  fixed_of : (v : List Trit) (a b k : ℕ) → loops.same a b ≡ true → CutsAreFixed net loops v a k → CutsAreFixed net loops v b k
  fixed_of v a b k e h = grind (arith, cuts_same)

pub count_is_of_loops : CountIsOfLoops
count_is_of_loops net loops are care m count a b e =
    let back = same-sym net loops are a b e in
    let one = count a (same-trans net loops are a b a e back) in
    let two = count b (same-trans net loops are b a b back e) in
    let low = one.least (m b) (λ v h. fixed_of net loops are v b a (m b) back (two.enough v h)) in
    let high = two.least (m a) (λ v h. fixed_of net loops are v a b (m a) e (one.enough v h)) in
    omega arith
