-- What the least vector of pairs says, where rails stand for the fixpoint and a set for the care vectors.
use Rattle.std.proofs.Common.{◌≡◌, ℕ, suc, ◌+◌, ◌<◌, Bool, true, false, ◌&&◌, ◌||◌, List, [], ◌∷◌, length, map, get_or, refl, sym, ap, ap₂, ◌∙◌, arith}
use Rattle.equal.proofs.Common.{find, Node, Arena, den, IsLayout, by_variable, bits, vectors, find-alike, Rails, IsWide, Parts, rails_at, rails_at-proper, CareSet, columns, is_care_vector, Pair, IsLaidBy, TellsBy, AreFixedBy, some_differ, BoundsPairs}
use Rattle.std.specs.List.{All, list_any}
use Rattle.std.proofs.lemmas.List.{length-append}
use Rattle.dual_rail.specs.Rails.{trit_of}
use Rattle.dual_rail.proofs.SurelyLemmas.{length-values}
use Rattle.netlist.specs.Fixpoint.{fix, fix_gates}
use Rattle.netlist.proofs.FixpointLemmas.{length-fix_gates}
use Rattle.loops.specs.declared.structure.Blocks.{Blocks}
use Rattle.loops.specs.declared.structure.Cut.{Cut}
use Rattle.fixpoint.specs.declared.solved.Solved.{Solved}
use Rattle.fixpoint.specs.Kept.{rails_under}
use Rattle.fixpoint.specs.Solved.{Vectors, IsSolution}
use Rattle.refusals.proofs.LawLemmas.{care_test}
use Rattle.diagram_decision.proofs.CareLemmas.{value_at-place}
use Rattle.netlist.specs.Pairs.{are_apart, is_apart_at, some_is_apart, IsPairOf}
use Rattle.miters.specs.Pairs.{least_apart}
use Rattle.equal.specs.Sets.{pair_differs}
use Rattle.equal.proofs.LaidLemmas.{above-bounded}

-- ---- values

-- one rail with the other's opposite, in a set
apart-rails : (s h1 h0 t1 t0 : Bool) → (h1 && h0) ≡ false → (t1 && t0) ≡ false → ((s && (h1 && t0)) || (s && (t1 && h0))) ≡ (s && are_apart (trit_of h1 h0) (trit_of t1 t0))
apart-rails s h1 h0 t1 t0 here there = grind arith

-- a test in a set
any-in : {T : Type 0} (s : Bool) (f g : T → Bool) (xs : List T) → ((k : ℕ) (d : T) → k < length xs → g (get_or xs k d) ≡ (s && f (get_or xs k d))) → list_any g xs ≡ (s && list_any f xs)
any-in true f g [] each = refl
any-in false f g [] each = refl
any-in s f g (x ∷ xs) each =
    ap₂ (λ p q. p || q) (each 0 x (omega arith)) (any-in s f g xs (λ k d less. each (suc k) d (omega (arith, less)))) ∙ by s (f x) (list_any f xs)
  where
    by : (s p q : Bool) → ((s && p) || (s && q)) ≡ (s && (p || q))
    by s p q = grind arith

-- ---- pairs

module _ (order : List ℕ) (net : Parts) (care : CareSet) (a : Arena) (vars : a.vars ≡ columns net) (set : Node) (rails : List Rails)
    (told : TellsBy order a set (is_care_vector net care)) (fixed : AreFixedBy order net a rails) (pairs : List Pair) (are : All (IsPairOf net) pairs) where
  pair-apart : (v : List Bool) → length v ≡ columns net → (pair : Pair) → IsPairOf net pair → pair_differs a set rails (by_variable order v) pair ≡ (is_care_vector net care v && is_apart_at net v pair)
  pair-apart v long pair is =
      let w : List Bool = by_variable order v in
      let h : Rails = rails_at rails pair.here.0 in
      let t : Rails = rails_at rails pair.there.0 in
      grind (arith, rails_at-proper a rails fixed.proper pair.here.0, rails_at-proper a rails fixed.proper pair.there.0, value_at-place a rails pair.here.0 w, value_at-place a rails pair.there.0 w, apart-rails (den a set w) (den a h.one w) (den a h.zero w) (den a t.one w) (den a t.zero w))

  -- the least vector of the set is the least care vector
  pub least-is : find (λ v. some_differ a set rails pairs (by_variable order v)) (vectors a.vars) ≡ least_apart net care pairs
  least-is =
      ap (λ (n : ℕ). find (λ v. some_differ a set rails pairs (by_variable order v)) (vectors n)) vars
      ∙ find-alike (columns net) (λ v. some_differ a set rails pairs (by_variable order v)) (λ v. is_care_vector net care v && some_is_apart net pairs v)
      (λ v long. any-in (is_care_vector net care v) (is_apart_at net v) (pair_differs a set rails (by_variable order v)) pairs (λ k d less. pair-apart v long (get_or pairs k d) (are k d less)))
      ∙ sym (care_test net care (some_is_apart net pairs))

  -- what it works with
  pub pairs-bounded : IsLayout (columns net) order → (w : ℕ) → IsWide (columns net) (IsLaidBy order net care) w → BoundsPairs a set rails pairs w
  pairs-bounded layout w wide k d less =
      let is = are k d less in
      let pair : Pair = get_or pairs k d in
      record {
        above = above-bounded order net care layout a vars rails fixed wide set told pair.here.0 pair.there.0 is.here is.there;
        below = above-bounded order net care layout a vars rails fixed wide set told pair.there.0 pair.here.0 is.there is.here;
      }

-- ---- the fixpoint at the columns

pub fixed-is : (order : List ℕ) (net : Parts) (blocks : Blocks) (cut : Cut) (a : Arena) (points : Vectors) (solved : Solved) → a.vars ≡ columns net →
    ((v : List Bool) → length v ≡ columns net → points (by_variable order v) ≡ bits v) → IsSolution net blocks cut a points solved → AreFixedBy order net a (map (rails_under a) solved.rails)
fixed-is order net blocks cut a points solved vars are is = record {
  width =
      sym (length-values a (map (rails_under a) solved.rails) [])
      ∙ ap length (is.values [])
      ∙ length-append (points []) (fix_gates net (points []))
      ∙ ap₂ (λ m n. m + n) (is.vector []) (length-fix_gates net (points []));
  proper = is.rails;
  values = λ v wide. is.values (by_variable order v) ∙ ap (fix net) (are v (wide ∙ vars));
}
