-- The bits by column, decided in turn: at each place 0 where that leaves the function true somewhere.
use Rattle.std.proofs.Common.{◌≡◌, ◌≢◌, ℕ, zero, suc, ◌+◌, ◌<◌, Bool, true, false, List, [], ◌∷◌, ◌++◌, length, take, get_or, set, replicate, refl, sym, ap, ◌∙◌, inl, inr, arith, length-set, get_or-set_same}
use Rattle.std.proofs.lemmas.Bool.{cases_eq, cases_lt}
use Rattle.std.proofs.lemmas.List.{length-replicate, length-take-le, take-set, take_more, take_more_set, get_or_at}
use Rattle.std.proofs.Math.Seq.{take-append_seam}
use Rattle.cyc_base.specs.Vectors.{AtMost}
use Rattle.bdd_store.specs.declared.node.Node.{Node}
use Rattle.bdd_store.specs.Arena.{Arena, index, is_marked, complemented_if, constant, den, top_of, IsNodeOf}
use Rattle.bdd_store.specs.Soundness.{IsLawful}
use Rattle.bdd_store.proofs.ValueLemmas.{no_entry}
use Rattle.bdd_store.proofs.BranchLemmas.{IsBranch, entry, exact_lo, exact_hi}
use Rattle.bdd_ops.specs.Apply.{IsCofactor}
use Rattle.bdd_ops.specs.Least.{IsLayout, by_variable}
use Rattle.bdd_ops.specs.Possible.{Takes, IsUnread}
use Rattle.bdd_ops.proofs.LeastLemmas.{AtMost-extend, number_one, high_alive}
use Rattle.bdd_ops.proofs.PossibleLemmas.{Takes-branch}

-- ---- each function but the constant false is true somewhere

module _ (s : Arena) (lawful : IsLawful s) (columns : List ℕ) (are : IsLayout s.vars columns) where
  IsCofactor-branch : (n m : Node) (b : Bool) → IsBranch s.vars s.entries n b m → IsCofactor s n (top_of s n) b m
  IsCofactor-branch n m b branch = record { node = branch.node; lower = branch.lower; function = branch.function }

  pub true_somewhere : (fuel : ℕ) (n : Node) → index n < fuel → IsNodeOf s n → n ≢ constant false → Takes (λ w. den s n (by_variable columns w)) s.vars [] true
  true_somewhere zero n less in_n alive = absurd (omega arith)
  true_somewhere (suc fuel) n less in_n alive = elim (cases_lt n.number 2) [
    | inl low ↦ record {
      vector = replicate s.vars false;
      long = length-replicate s.vars false;
      begins = refl;
      value_there = ap (λ (m : Node). den s m (by_variable columns (replicate s.vars false))) (number_one n low alive) ∙ lawful.constants true (by_variable columns (replicate s.vars false));
    }
    | inr branching ↦
        let lo = complemented_if (is_marked n) (entry lawful.sound n no_entry branching in_n).lo in
        let hi = complemented_if (is_marked n) (entry lawful.sound n no_entry branching in_n).hi in
        let low = exact_lo lawful.sound n no_entry branching in_n in
        let high = exact_hi lawful.sound n no_entry branching in_n in
        elim (cases_eq lo.number 0) [
          | inl none ↦
              let lo_is : lo ≡ constant false = λ j. record { number = none j } in
              Takes-branch s lawful columns are n lo hi low.within (IsCofactor-branch n lo false low) (IsCofactor-branch n hi true high) [] true (omega arith)
              (true_somewhere fuel hi (omega (arith, high.earlier)) high.node (high_alive s lawful n lo hi in_n branching lo_is low.function high.function))
          | inr some ↦
              Takes-branch s lawful columns are n lo hi low.within (IsCofactor-branch n lo false low) (IsCofactor-branch n hi true high) [] false (omega arith)
              (true_somewhere fuel lo (omega (arith, low.earlier)) low.node (λ same. some (ap (λ (m : Node). m.number) same)))
        ]
  ]

-- ---- the bits that are decided

-- the function is true at some vector that begins with the first c bits, and at none that is less there
pub record AreDecided (f : List Bool → Bool) (count : ℕ) (out : List Bool) (c : ℕ) : Type 0 where
  pub possible : Takes f count (take c out) true
  pub before : (w : List Bool) → length w ≡ count → f w ≡ true → AtMost (take c out) w

pub AreDecided-start : (f : List Bool → Bool) (count : ℕ) (out : List Bool) → Takes f count [] true → AreDecided f count out 0
AreDecided-start f count out possible = record { possible = possible; before = λ w long there. tt }

module _ (f : List Bool → Bool) (count : ℕ) (out : List Bool) (c : ℕ) (long : length out ≡ count) (less : c < length out) (were : AreDecided f count out c) where
  length-first : length (take c out) ≡ c
  length-first = length-take-le c out (omega arith)

  -- the bit stays 0, where a vector goes on so
  pub AreDecided-zero : Takes f count (take (c + 1) (set out c false)) true → AreDecided f count (set out c false) (c + 1)
  AreDecided-zero possible = grind (arith, take_more_set out c false less, AtMost-extend (take c out) false 0, length-first)

  -- a vector at which the function is true, and its next bit
  next_bit : (w : List Bool) (b : Bool) → length w ≡ count → take c w ≡ take c out → get_or w c false ≡ b → take (c + 1) w ≡ take c out ++ b ∷ []
  next_bit w b w_long begins bit = take_more w c false (omega arith) ∙ (λ j. begins j ++ bit j ∷ [])

  -- where the bit isn't read, some vector goes on with 0
  pub Takes-unread : IsUnread f c → Takes f count (take (c + 1) (set out c false)) true
  Takes-unread unread =
      let old = were.possible in
      let zeroed = set old.vector c false in
      grind (arith, take-set old.vector c false, length-first, length-take-le (c + 1) (set out c false), length-set out c false, length-set old.vector c false, next_bit zeroed false, get_or-set_same old.vector c false false, take_more_set out c false less)

  module _ (none : Takes f count (take (c + 1) (set out c false)) true → ⊥) where
    not_zero : (w : List Bool) → length w ≡ count → f w ≡ true → take c w ≡ take c out → get_or w c false ≡ false → ⊥
    not_zero w w_long there begins bit = grind (arith, length-take-le, length-set, next_bit, take_more_set)

    one_there : (w : List Bool) → length w ≡ count → f w ≡ true → take c w ≡ take c out → get_or w c false ≡ true
    one_there w w_long there begins = grind (arith, not_zero)

    cut : take (c + 1) (set (set out c false) c true) ≡ take c out ++ true ∷ []
    cut = take_more_set (set out c false) c true (omega (arith, length-set out c false)) ∙ ap (λ (v : List Bool). v ++ true ∷ []) (take-set out c false)

    -- else it becomes 1
    pub AreDecided-one : AreDecided f count (set (set out c false) c true) (c + 1)
    AreDecided-one =
        let old = were.possible in
        let begins : take c old.vector ≡ take c out = ap (λ k. take k old.vector) (sym length-first) ∙ old.begins in
        let size : length (take (c + 1) (set (set out c false) c true)) ≡ c + 1 = length-take-le (c + 1) (set (set out c false) c true) (omega (arith, length-set (set out c false) c true, length-set out c false)) in
        grind (arith, next_bit old.vector true old.long begins (one_there old.vector old.long old.value_there begins), one_there old.vector old.long old.value_there begins, cut, AtMost-extend (take c out) true 0, length-first, not_zero, take-append_seam (take c out), get_or_at (take c out) false)
