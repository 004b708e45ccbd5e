-- What care models work with, as functions that are made of those of a list.
use Rattle.std.proofs.Common.{◌≡◌, inr, ℕ, Bool, if◌then◌else◌, List, ◌++◌, length, drop, replicate, Option, Some, refl, sym, ap, ◌∙◌, subst, arith}
use Rattle.diagram_decision.proofs.Common.{IsSomeAnd, Node, Arena, den, by_variable, Trit, X, bits, IsWide, BoundsEach, is_bit, Parts, next, laid, Vectors, CareModel, CareSet, columns, state_of, is_care_vector, read_by, IsOfModel, IsLaid, SaysCare, next_within, Tells, IfSome}
use Rattle.cover_logic.specs.Covers.{value}
use Rattle.cover_logic.specs.Extensions.{exact}
use Rattle.dual_rail.proofs.WidthLemmas.{wide-one}
use Rattle.netlist.specs.Netlists.{gate_at}
use Rattle.fixpoint.specs.Working.{read_at_fix}
use Rattle.diagram_decision.specs.Enough.{IsOfNext}
use Rattle.diagram_decision.proofs.DecisionLemmas.{vector_of, length-vector_of, laid-vector_of, decision-wide, made-laid, made-told}
use Rattle.diagram_decision.proofs.MadeLemmas.{IsList, IsMadeBy, made-listed, wide-two}

-- ---- a function that a model works with, on other values of the columns

module _ (model : CareModel) (u : Vectors) (g : List Bool → Bool) (is : IsOfModel model u g) where
  -- what it says of such values
  pub says : List Trit → Bool
  says values = is_bit is.bit (exact (λ rest. value (gate_at model.net is.gate).cover (is.first ++ rest)) (drop (length is.first) (read_at_fix model.net (read_by model values) is.gate)))

  pub says-own : (x : List Bool) → g x ≡ says (u x)
  unfolding says
  says-own x = grind arith

  pub says-of : (v : Vectors) → IsOfModel model v (λ x. says (v x))
  unfolding says
  says-of v = record {
    gate = is.gate;
    within = is.within;
    first = is.first;
    short = is.short;
    bit = is.bit;
    read = λ x. read_at_fix model.net (read_by model (v x)) is.gate;
    reads = inr (record { plain = refl; is = λ x. refl });
    same = λ x. refl;
  }

-- ---- the models of a care set

pub there_each : (o : Option CareModel) (P : CareModel → Type 0) → ((model : CareModel) → o ≡ Some model → P model) → IfSome o P
there_each o P each = grind arith

pub there_and : (o : Option CareModel) (model : CareModel) (P : CareModel → Type 0) → o ≡ Some model → P model → IsSomeAnd o P
there_and o model P there is = subst (λ (p : Option CareModel). IsSomeAnd p P) (sym there) is

module _ {net : Parts} {care : CareSet} {Listed : (List Bool → Bool) → Type 0} (list : IsList net care Listed) (order : List ℕ) {n w : ℕ} (vars : n ≡ columns net) (wide : IsWide n (IsMadeBy order net Listed) w) where
  model-bounded : (model : CareModel) (u v : Vectors) → ((x : List Bool) → length x ≡ n → u (by_variable order x) ≡ v x) → ((g : List Bool → Bool) → IsOfModel model v g → Listed g) → BoundsEach n (IsOfModel model u) w
  model-bounded model u v same into g is =
      wide-one wide g (made-listed (into (λ x. says model u g is (v x)) (says-of model u g is v)) (λ x long. says-own model u g is (by_variable order x) ∙ ap (says model u g is) (same x (long ∙ sym vars))))

  -- the assumption on the columns
  pub assume-bounded : (u : Vectors) → ((x : List Bool) → length x ≡ n → u (by_variable order x) ≡ bits x) → IfSome care.assume (λ model. BoundsEach n (IsOfModel model u) w)
  assume-bounded u same = there_each care.assume (λ model. BoundsEach n (IsOfModel model u) w)
      (λ model there. model-bounded model u bits same (λ g is. list.assumption g (there_and care.assume model (λ m. IsOfModel m bits g) there is)))

  -- the invariant on the state
  pub invariant-bounded : (u : Vectors) → ((x : List Bool) → length x ≡ n → u (by_variable order x) ≡ bits (state_of net x)) → IfSome care.invariant (λ model. BoundsEach n (IsOfModel model u) w)
  invariant-bounded u same = there_each care.invariant (λ model. BoundsEach n (IsOfModel model u) w)
      (λ model there. model-bounded model u (λ x. bits (state_of net x)) same (λ g is. list.invariant g (there_and care.invariant model (λ m. IsOfModel m (λ x. bits (state_of net x)) g) there is)))

-- the invariant on the next state, where the set tells the care vectors: elsewhere all is X, and its functions are constant
module _ (net : Parts) (care : CareSet) (n : ℕ) (vars : n ≡ columns net) {w : ℕ} (wide : IsWide n (IsLaid net care) w) (a : Arena) (set : Node) (width : a.vars ≡ n) (told : Tells net a set (is_care_vector net care)) where
  chosen : (f : List Trit → Bool) (c : Bool) (x : List Bool) → f (if c then next net (bits x) else replicate (length net.latches) X) ≡ (if c then f (next net (bits x)) else f (replicate (length net.latches) X))
  chosen f c x = grind arith

  pub next-bounded : (u : Vectors) → ((x : List Bool) → length x ≡ n → u (laid net x) ≡ next_within net a set x) → IfSome care.invariant (λ model. BoundsEach n (IsOfModel model u) w)
  next-bounded u same = there_each care.invariant (λ model. BoundsEach n (IsOfModel model u) w)
      (λ model there g is.
      let f : List Trit → Bool = says model u g is in
      wide-two (decision-wide vars wide) (λ c b. if c then b else f (replicate (length net.latches) X)) (den a set) (λ y. f (next net (bits (vector_of net y)))) g
      (made-told (width ∙ vars) (SaysCare (λ x. refl)) told)
      (made-laid (made-listed {h = λ x. f (next net (bits x))} (IsOfNext (there_and care.invariant model (λ m. IsOfModel m (λ x. next net (bits x)) (λ x. f (next net (bits x)))) there (says-of model u g is (λ x. next net (bits x))))) (λ x long. refl)))
      (λ y long.
      let x : List Bool = vector_of net y in
      let back : laid net x ≡ y = laid-vector_of net y (long ∙ vars) in
      ap g (sym back) ∙ says-own model u g is (laid net x) ∙ ap f (same x (length-vector_of net y ∙ sym vars)) ∙ chosen f (den a set (laid net x)) x
      ∙ ap (λ z. if den a set z then f (next net (bits x)) else f (replicate (length net.latches) X)) back))
