-- Functions that are made of those of a decision.
use Rattle.std.proofs.Common.{◌≡◌, inr, ℕ, ◌+◌, ◌<◌, ◌≤◌, Result, Bool, not, ◌&&◌, List, length, refl, sym, ap, subst, ◌∙◌, arith}
use Rattle.diagram_decision.proofs.Common.{Node, StoreFault, Arena, den, KeepsNodes, adds_moved, within_then, within_moved, conjunction, nodes, bits, Rails, value_of, IsWide, Parts, fix, count, value_in, order, laid, rails_at, by_column, length-by_column, variables-back, order-is, rails_at-proper, CareSet, columns, is_care_vector, IsLaid, AddsInDecision, GrowsInDecision, SaysCare, Tells, AreFixed, BoundsBoth, BoundsStarts, starts, has_state_inside, difference}
use Rattle.bdd_store.proofs.GrowthLemmas.{adds_caused}
use Rattle.diagram_decision.specs.Sets.{unknown_in}
use Rattle.dual_rail.proofs.WidthLemmas.{wide-one}
use Rattle.fixpoint.proofs.LayoutLemmas.{columns-back}
use Rattle.diagram_decision.specs.Enough.{IsOfDecision, IsColumn, SaysStart, SaysInside, IsOfNetlist, IsOfAssumption, IsOfInvariant}
use Rattle.diagram_decision.proofs.CareLemmas.{value_at-place}
use Rattle.diagram_decision.proofs.MadeLemmas.{IsList, IsMadeOf, IsMadeBy, AreOfSignal, made-listed, made-same, made-wide, wide-two, wide-three, made-one_rail, made-zero_rail}
use Rattle.diagram_decision.proofs.PartLemmas.{unknown-values}

-- what a decision works with
pub decision_list : (net : Parts) (care : CareSet) → IsList net care (IsOfDecision net care)
decision_list net care = record {
  column = λ c within. IsColumn c within (λ v. refl);
  counts = SaysCare (λ v. refl);
  gate = λ g is. IsOfNetlist is;
  assumption = λ g is. IsOfAssumption is;
  invariant = λ g is. IsOfInvariant is;
}

-- made of that at vectors by variable
abbrev pub IsMade : Parts → CareSet → (List Bool → Bool) → Type 0
IsMade net care g = IsMadeBy (order net) net (IsOfDecision net care) g

pub made-constant : {net : Parts} {care : CareSet} {h : List Bool → Bool} (b : Bool) → ((v : List Bool) → h v ≡ b) → IsMadeOf net (IsOfDecision net care) h
made-constant {net} {care} b is = record { of = is_care_vector net care; listed = SaysCare (λ v. refl); by = λ t. b; same = λ v long. is v }

-- a vector by variable is one by column, laid out
pub vector_of : Parts → List Bool → List Bool
vector_of net u = by_column (order net) u

pub length-vector_of : (net : Parts) (u : List Bool) → length (vector_of net u) ≡ columns net
unfolding vector_of
length-vector_of net u = length-by_column (order net) u ∙ (order-is net).long

pub laid-vector_of : (net : Parts) (u : List Bool) → length u ≡ columns net → laid net (vector_of net u) ≡ u
unfolding vector_of
laid-vector_of net u wide = variables-back (columns net) (order net) (order-is net) u wide

pub vector_of-laid : (net : Parts) (v : List Bool) → length v ≡ columns net → vector_of net (laid net v) ≡ v
unfolding vector_of
vector_of-laid net v wide = columns-back (columns net) (order net) (order-is net) v wide

pub made-laid : {net : Parts} {care : CareSet} {h : List Bool → Bool} → IsMadeOf net (IsOfDecision net care) h → IsMade net care (λ u. h (vector_of net u))
made-laid {net} {h = h} x = made-same (λ v long. ap h (vector_of-laid net v long)) x

laid-listed : {net : Parts} {care : CareSet} (f : List Bool → Bool) → IsOfDecision net care f → IsLaid net care (λ u. f (by_column (order net) u))
laid-listed {net} f is = record { of = f; is = is; same = λ v long. ap f (columns-back (columns net) (order net) (order-is net) v long) }

-- a width serves what is made, too
pub decision-wide : {net : Parts} {care : CareSet} {n w : ℕ} → n ≡ columns net → IsWide n (IsLaid net care) w → IsWide n (IsMade net care) w
decision-wide {net} {care} vars wide = made-wide (order net) net (order-is net) (IsOfDecision net care) (IsLaid net care) laid-listed vars wide

pub wide-kept : {net : Parts} {care : CareSet} {s t : Arena} {w : ℕ} → KeepsNodes s t → IsWide s.vars (IsLaid net care) w → IsWide t.vars (IsLaid net care) w
wide-kept {net} {care} {w = w} keeps wide = subst (λ n. IsWide n (IsLaid net care) w) (sym keeps.vars) wide

-- a part of a decision, and another after it
pub decision-then : {T U : Type 0} {r : Result T StoreFault} {q : Result U StoreFault} {s t u : Arena} {net : Parts} {care : CareSet} {m n : ℕ} →
    GrowsInDecision r s t net care m → GrowsInDecision q t u net care n → GrowsInDecision q s u net care (m + n)
decision-then first after = within_then first (within_moved (λ w wide. wide-kept first.keeps wide) after)

-- what it adds, by the netlist's columns
pub decision-adds : {T : Type 0} {r : Result T StoreFault} {s t : Arena} {net : Parts} {care : CareSet} {n : ℕ} → s.vars ≡ columns net → GrowsInDecision r s t net care n → AddsInDecision r s t net care n
decision-adds {net = net} {care} vars grows = adds_caused (λ over. inr over) (adds_moved (λ w wide. subst (λ k. IsWide k (IsLaid net care) w) (sym vars) wide) grows.adds)

-- a node of a set
pub made-told : {net : Parts} {care : CareSet} {a : Arena} {n : Node} {test : List Bool → Bool} → a.vars ≡ columns net → IsOfDecision net care test → Tells net a n test → IsMade net care (den a n)
made-told vars is told = made-listed is (λ v long. told.value v (long ∙ sym vars))

-- the permitted states, and those outside of the invariant
pub starts-fit : {net : Parts} {care : CareSet} {n w : ℕ} → n ≡ columns net → IsWide n (IsLaid net care) w → BoundsStarts net w
starts-fit {net} {care} {w = w} vars wide g same = wide-one (decision-wide refl (subst (λ k. IsWide k (IsLaid net care) w) vars wide)) g (made-listed (SaysStart (λ v. refl)) same)

pub outside-fits : {net : Parts} {care : CareSet} {w : ℕ} (a : Arena) (permitted inside : Node) → a.vars ≡ columns net → Tells net a permitted (starts net) → Tells net a inside (has_state_inside net care) →
    IsWide a.vars (IsLaid net care) w → nodes a.vars (difference a permitted inside) ≤ w
outside-fits a permitted inside vars permitted_is inside_is wide =
    wide-two (decision-wide vars wide) (λ p q. p && not q) (den a permitted) (den a inside) (difference a permitted inside)
    (made-told vars (SaysStart (λ v. refl)) permitted_is) (made-told vars (SaysInside (λ v. refl)) inside_is) (λ v long. refl)

-- ---- signals at the fixpoint

module _ (net : Parts) (care : CareSet) (a : Arena) (rails : List Rails) (vars : a.vars ≡ columns net) (fixed : AreFixed net a rails) (signal : ℕ) (within : signal < count net) where
  pub signal-value : (v : List Bool) → length v ≡ columns net → value_of a (rails_at rails signal) (laid net v) ≡ value_in (fix net (bits v)) signal
  signal-value v long = grind (arith, value_at-place a rails signal (laid net v))

  -- the rails that stand for it

  abbrev signal_rails : Rails
  signal_rails = rails_at rails signal

  are-of_signal : AreOfSignal (order net) net a signal_rails signal
  are-of_signal = record { within = within; proper = rails_at-proper a rails fixed.proper signal; value = signal-value }

  one-made : IsMade net care (den a signal_rails.one)
  one-made = made-one_rail (decision_list net care) (order net) a signal_rails signal are-of_signal

  zero-made : IsMade net care (den a signal_rails.zero)
  zero-made = made-zero_rail (decision_list net care) (order net) a signal_rails signal are-of_signal

  module _ (set : Node) (told : Tells net a set (is_care_vector net care)) {w : ℕ} (wide : IsWide a.vars (IsLaid net care) w) where
    made-set : IsMade net care (den a set)
    made-set = made-told vars (SaysCare (λ v. refl)) told

    -- where one is unknown on care
    pub unknown-bounded : BoundsBoth a.vars (difference a set signal_rails.one) (unknown_in a set signal_rails) w
    unknown-bounded = record {
      first = wide-two (decision-wide vars wide) (λ p q. p && not q) (den a set) (den a signal_rails.one) (difference a set signal_rails.one) made-set one-made (λ v long. refl);
      second = wide-three (decision-wide vars wide) (λ p q o. (p && not q) && not o) (den a set) (den a signal_rails.one) (den a signal_rails.zero) (unknown_in a set signal_rails) made-set one-made zero-made
          (λ v long. sym (unknown-values (den a set v) (den a signal_rails.one v) (den a signal_rails.zero v)));
    }

    -- where one is 1 there, and where it is 0
    pub known-bounded : BoundsBoth a.vars (conjunction a set signal_rails.one) (conjunction a set signal_rails.zero) w
    known-bounded = record {
      first = wide-two (decision-wide vars wide) (λ p q. p && q) (den a set) (den a signal_rails.one) (conjunction a set signal_rails.one) made-set one-made (λ v long. refl);
      second = wide-two (decision-wide vars wide) (λ p q. p && q) (den a set) (den a signal_rails.zero) (conjunction a set signal_rails.zero) made-set zero-made (λ v long. refl);
    }
