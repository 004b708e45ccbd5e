-- The fault of a latch line by the number of its words.
use Rattle.std.proofs.Common.{◌≡◌, ℕ, List, [], ◌∷◌, drop, length, get_or, refl, arith}
use Rattle.blif_read.specs.Faults.{latch_fault, typed_latch_fault, is_init}

pub fault_of_six : (n : ℕ) (words : List (List ℕ)) → length words ≡ 6
    → latch_fault n (drop 1 words) ≡ typed_latch_fault n (get_or words 3 []) (is_init (get_or words 5 []))
fault_of_six n [] is = absurd (omega arith)
fault_of_six n (a ∷ []) is = absurd (omega arith)
fault_of_six n (a ∷ b ∷ []) is = absurd (omega arith)
fault_of_six n (a ∷ b ∷ c ∷ []) is = absurd (omega arith)
fault_of_six n (a ∷ b ∷ c ∷ d ∷ []) is = absurd (omega arith)
fault_of_six n (a ∷ b ∷ c ∷ d ∷ e ∷ []) is = absurd (omega arith)
fault_of_six n (a ∷ b ∷ c ∷ d ∷ e ∷ f ∷ []) is = refl
fault_of_six n (a ∷ b ∷ c ∷ d ∷ e ∷ f ∷ g ∷ more) is = absurd (omega arith)
