-- Words of a line by their places.
use Rattle.std.proofs.Common.{◌≡◌, ℕ, suc, ◌+◌, ◌-◌, ◌<◌, ◌≤◌, List, [], ◌∷◌, ◌++◌, drop, length, get_or, refl, arith, length-drop, get_or-drop}
use Rattle.blif_read.proofs.Common.{slice_range}
use Rattle.std.proofs.Math.Seq.{take-suc}
use Rattle.std.proofs.lemmas.Grind.{common_steps}

pub slice_more : {X : Type 0} (xs : List X) (from k : ℕ) (d : X) → from ≤ k → k < length xs
    → slice_range xs from (k + 1) ≡ slice_range xs from k ++ get_or xs k d ∷ []
slice_more xs from k d low high =
    let e : k + 1 - from ≡ suc (k - from) = omega arith in
    let at : from + (k - from) ≡ k = omega arith in
    let inside : k - from < length (drop from xs) = simp length-drop (omega arith) in
    rw (e, take-suc (drop from xs) (k - from) d inside, get_or-drop, at) refl

pub slice_none : {X : Type 0} (xs : List X) (from : ℕ) → slice_range xs from from ≡ []
slice_none xs from = let e : from - from ≡ 0 = omega arith in rw e refl

pub slice_rest : {X : Type 0} (xs : List X) (from to : ℕ) → to ≡ length xs → slice_range xs from to ≡ drop from xs
slice_rest xs from to is = let size : to - from ≡ length (drop from xs) = simp length-drop (omega arith) in rw size (grind (arith, common_steps))
