-- What a comparison works with, where the columns are laid on the variables in some order.
use Rattle.std.proofs.Common.{◌≡◌, ℕ, ◌<◌, Bool, ◌&&◌, List, length, refl, sym, ap, subst, ◌∙◌, arith}
use Rattle.equal.proofs.Common.{Node, Arena, den, IsLayout, by_variable, conjunction, bits, Rails, value_of, IsWide, Parts, rails_at, rails_at-proper, CareSet, columns, is_care_vector, IsLaidBy, TellsBy, AreFixedBy, BoundsAbove, is_above}
use Rattle.netlist.specs.Fixpoint.{fix}
use Rattle.netlist.specs.Netlists.{count}
use Rattle.loops.specs.Sweeps.{value_in}
use Rattle.fixpoint.proofs.LayoutLemmas.{by_column, columns-back}
use Rattle.diagram_decision.proofs.CareLemmas.{value_at-place}
use Rattle.diagram_decision.proofs.MadeLemmas.{IsList, IsMadeBy, AreOfSignal, made-listed, made-wide, wide-two, wide-three, made-one_rail, made-zero_rail}
use Rattle.equal.specs.Comparisons.{IsOfComparison, IsColumn, SaysCare, IsOfNetlist, IsOfAssumption, IsOfInvariant}

pub comparison_list : (net : Parts) (care : CareSet) → IsList net care (IsOfComparison net care)
comparison_list net care = record {
  column = λ c within. IsColumn c within (λ v. refl);
  counts = SaysCare (λ v. refl);
  gate = λ g is. IsOfNetlist is;
  assumption = λ g is. IsOfAssumption is;
  invariant = λ g is. IsOfInvariant is;
}

module _ (order : List ℕ) (net : Parts) (care : CareSet) (layout : IsLayout (columns net) order) {n w : ℕ} (vars : n ≡ columns net) (wide : IsWide (columns net) (IsLaidBy order net care) w) where
  laid-listed : (f : List Bool → Bool) → IsOfComparison net care f → IsLaidBy order net care (λ u. f (by_column order u))
  laid-listed f is = record { of = f; is = is; same = λ v long. ap f (columns-back (columns net) order layout v long) }

  -- a width serves what is made of that, too
  pub comparison-wide : IsWide n (IsMadeBy order net (IsOfComparison net care)) w
  comparison-wide = made-wide order net layout (IsOfComparison net care) (IsLaidBy order net care) laid-listed vars (subst (λ k. IsWide k (IsLaidBy order net care) w) (sym vars) wide)

-- ---- rails of signals, and the care vectors

module _ (order : List ℕ) (net : Parts) (care : CareSet) (layout : IsLayout (columns net) order) (a : Arena) (vars : a.vars ≡ columns net) (rails : List Rails) (fixed : AreFixedBy order net a rails) where
  signal-value : (signal : ℕ) → signal < count net → (v : List Bool) → length v ≡ columns net → value_of a (rails_at rails signal) (by_variable order v) ≡ value_in (fix net (bits v)) signal
  signal-value signal within v long = grind (arith, value_at-place a rails signal (by_variable order v))

  are-of_signal : (signal : ℕ) → signal < count net → AreOfSignal order net a (rails_at rails signal) signal
  are-of_signal signal within = record { within = within; proper = rails_at-proper a rails fixed.proper signal; value = signal-value signal within }

  -- where one is 1 and another 0, on care
  pub above-bounded : {w : ℕ} → IsWide (columns net) (IsLaidBy order net care) w → (set : Node) → TellsBy order a set (is_care_vector net care) →
      (here there : ℕ) → here < count net → there < count net → BoundsAbove a set (rails_at rails here) (rails_at rails there) w
  above-bounded wide set told here there here_in there_in =
      let h : Rails = rails_at rails here in
      let t : Rails = rails_at rails there in
      let made = comparison-wide order net care layout vars wide in
      let counts : IsMadeBy order net (IsOfComparison net care) (den a set) = made-listed (SaysCare (λ v. refl)) (λ v long. told.value v (long ∙ sym vars)) in
      let one = made-one_rail (comparison_list net care) order a h here (are-of_signal here here_in) in
      let zero = made-zero_rail (comparison_list net care) order a t there (are-of_signal there there_in) in
      record {
        first = wide-two made (λ p q. p && q) (den a h.one) (den a t.zero) (conjunction a h.one t.zero) one zero (λ v long. refl);
        second = wide-three made (λ o p q. o && (p && q)) (den a set) (den a h.one) (den a t.zero) (is_above a set h t) counts one zero (λ v long. refl);
      }
