-- Functions that are made of those of a list, where a netlist's columns are laid on the variables of diagrams in some order.
use Rattle.std.proofs.Common.{◌≡◌, inl, inr, ℕ, ◌<◌, ◌≤◌, Bool, true, false, ◌⊎◌, List, length, sym, ap, ap₂, ◌∙◌, subst, arith}
use Rattle.diagram_decision.proofs.Common.{IsSomeAnd, Node, Arena, den, nodes, nodes-alike, IsLayout, by_variable, bit, bits, Rails, AreRailsOf, value_of, IsWide, is_bit, Parts, fix, count, value_in, Loops, Vectors, IsWorking, one-of, zero-of, by_column, length-by_column, variables-back, CareSet, columns, state_of, is_care_vector, IsOfModel}
use Rattle.bdd_ops.specs.Operations.{bit_at}
use Rattle.dual_rail.proofs.WidthLemmas.{IsWide-fewer}
use Rattle.loops.specs.Found.{loops_of}
use Rattle.fixpoint.specs.Working.{IsGatePart}
use Rattle.fixpoint.proofs.WorkingLemmas.{IsOfColumn, IsOfGate, column-bit, working-is}
use Rattle.diagram_decision.proofs.SignalLemmas.{signal-is}

-- it lists the columns, the care vectors, and what the netlist and the models of its care set work with
pub record IsList (net : Parts) (care : CareSet) (Listed : (List Bool → Bool) → Type 0) : Type 0 where
  pub column : (c : ℕ) → c < columns net → Listed (bit_at c)
  pub counts : Listed (is_care_vector net care)
  pub gate : (g : List Bool → Bool) → IsGatePart net (loops_of net) bits g → Listed g
  pub assumption : (g : List Bool → Bool) → IsSomeAnd care.assume (λ model. IsOfModel model bits g) → Listed g
  pub invariant : (g : List Bool → Bool) → IsSomeAnd care.invariant (λ model. IsOfModel model (λ v. bits (state_of net v)) g) → Listed g

-- at vectors by column of the netlist's width, h is made of one function of the list
pub record IsMadeOf (net : Parts) (Listed : (List Bool → Bool) → Type 0) (h : List Bool → Bool) : Type 0 where
  pub of : List Bool → Bool
  pub listed : Listed of
  pub by : Bool → Bool
  pub same : (v : List Bool) → length v ≡ columns net → h v ≡ by (of v)

-- and so is g at vectors by variable
abbrev pub IsMadeBy : List ℕ → Parts → ((List Bool → Bool) → Type 0) → (List Bool → Bool) → Type 0
IsMadeBy order net Listed g = IsMadeOf net Listed (λ v. g (by_variable order v))

pub made-listed : {net : Parts} {Listed : (List Bool → Bool) → Type 0} {f h : List Bool → Bool} → Listed f → ((v : List Bool) → length v ≡ columns net → h v ≡ f v) → IsMadeOf net Listed h
made-listed {f = f} is same = record { of = f; listed = is; by = λ x. x; same = same }

-- the same function in other words
pub made-same : {net : Parts} {Listed : (List Bool → Bool) → Type 0} {g h : List Bool → Bool} → ((v : List Bool) → length v ≡ columns net → h v ≡ g v) → IsMadeOf net Listed g → IsMadeOf net Listed h
made-same same m = record { of = m.of; listed = m.listed; by = m.by; same = λ v long. same v long ∙ m.same v long }

-- ---- a width serves what is made, too

-- what is made of three functions of a list, and of two
pub wide-three : {n w : ℕ} {P : (List Bool → Bool) → Type 0} → IsWide n P w → (c : Bool → Bool → Bool → Bool) (f g h made : List Bool → Bool) →
    P f → P g → P h → ((v : List Bool) → length v ≡ n → made v ≡ c (f v) (g v) (h v)) → nodes n made ≤ w
wide-three {n} wide c f g h made x y z same =
    let most = wide.combinations c f g h x y z in
    let alike : nodes n made ≡ nodes n (λ v. c (f v) (g v) (h v)) = nodes-alike n made (λ v. c (f v) (g v) (h v)) same in
    omega (arith, most, alike)

pub wide-two : {n w : ℕ} {P : (List Bool → Bool) → Type 0} → IsWide n P w → (c : Bool → Bool → Bool) (f g made : List Bool → Bool) →
    P f → P g → ((v : List Bool) → length v ≡ n → made v ≡ c (f v) (g v)) → nodes n made ≤ w
wide-two wide c f g made x y same = wide-three wide (λ p q r. c p q) f g g made x y y same

module _ (order : List ℕ) (net : Parts) (layout : IsLayout (columns net) order) (Listed Laid : (List Bool → Bool) → Type 0) (lay : (f : List Bool → Bool) → Listed f → Laid (λ u. f (by_column order u))) where
  -- a vector by variable is one by column, laid out
  made-at : (g : List Bool → Bool) (x : IsMadeBy order net Listed g) (u : List Bool) → length u ≡ columns net → g u ≡ x.by (x.of (by_column order u))
  made-at g x u long = ap g (sym (variables-back (columns net) order layout u long)) ∙ x.same (by_column order u) (length-by_column order u ∙ layout.long)

  pub made-wide : {n w : ℕ} → n ≡ columns net → IsWide n Laid w → IsWide n (IsMadeBy order net Listed) w
  made-wide vars wide = record {
    variables = wide.variables;
    combinations = λ c f g h x y z.
        let at : List Bool → List Bool = by_column order in
        wide-three wide (λ p q r. c (x.by p) (y.by q) (z.by r)) (λ u. x.of (at u)) (λ u. y.of (at u)) (λ u. z.of (at u)) (λ u. c (f u) (g u) (h u)) (lay x.of x.listed) (lay y.of y.listed) (lay z.of z.listed)
        (λ u long. ap (λ p. c p (g u) (h u)) (made-at f x u (long ∙ vars)) ∙ ap₂ (λ q r. c (x.by (x.of (at u))) q r) (made-at g y u (long ∙ vars)) (made-at h z u (long ∙ vars)));
  }

-- ---- signals at the fixpoint

-- these rails stand for a signal there
pub record AreOfSignal (order : List ℕ) (net : Parts) (a : Arena) (rails : Rails) (signal : ℕ) : Type 0 where
  pub within : signal < count net
  pub proper : AreRailsOf a rails
  pub value : (v : List Bool) → length v ≡ columns net → value_of a rails (by_variable order v) ≡ value_in (fix net (bits v)) signal

module _ {net : Parts} {care : CareSet} {Listed : (List Bool → Bool) → Type 0} (list : IsList net care Listed) where
  -- a column, and what a gate works with
  made-working : {h : List Bool → Bool} → IsOfColumn net h ⊎ IsOfGate net h → IsMadeOf net Listed h
  made-working (inl c) = record { of = bit_at c.column; listed = list.column c.column c.within; by = λ x. is_bit c.bit (bit x); same = column-bit c }
  made-working (inr g) = made-listed (list.gate g.of g.is) g.same

  pub made-signal : (signal : ℕ) → signal < count net → (b : Bool) → IsMadeOf net Listed (λ v. is_bit b (value_in (fix net (bits v)) signal))
  made-signal signal within b = made-working (signal-is net signal within b)

  -- the working list of the fixpoint
  module _ (order : List ℕ) (points : Vectors) (are : (v : List Bool) → length v ≡ columns net → points (by_variable order v) ≡ bits v) where
    pub working-made : (g : List Bool → Bool) → IsWorking net (loops_of net) points g → IsMadeBy order net Listed g
    working-made g is = made-working (working-is net points (by_variable order) are g is)

    pub working-wide : (loops : Loops) {n w : ℕ} → loops ≡ loops_of net → IsWide n (IsMadeBy order net Listed) w → IsWide n (IsWorking net loops points) w
    working-wide loops {n} {w} is wide =
        subst (λ (l : Loops). IsWide n (IsWorking net l points) w) (sym is) (IsWide-fewer (IsMadeBy order net Listed) (IsWorking net (loops_of net) points) w working-made wide)

  -- the nodes of rails
  module _ (order : List ℕ) (a : Arena) (rails : Rails) (signal : ℕ) (are : AreOfSignal order net a rails signal) where
    made-rail : (b : Bool) (node : Node) → ((v : List Bool) → den a node v ≡ is_bit b (value_of a rails v)) → IsMadeBy order net Listed (den a node)
    made-rail b node says = made-same (λ v long. says (by_variable order v) ∙ ap (is_bit b) (are.value v long)) (made-signal signal are.within b)

    pub made-one_rail : IsMadeBy order net Listed (den a rails.one)
    made-one_rail = made-rail true rails.one (λ v. sym (one-of (den a rails.one v) (den a rails.zero v)))

    pub made-zero_rail : IsMadeBy order net Listed (den a rails.zero)
    made-zero_rail = made-rail false rails.zero (λ v. sym (zero-of (den a rails.one v) (den a rails.zero v) (are.proper.proper v)))
