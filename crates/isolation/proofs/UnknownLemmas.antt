-- Rails that aren't known at all vectors, and the gates that they stand for.
use Rattle.std.proofs.Common.{◌≡◌, ◌≢◌, inl, inr, ◌⊎◌, ℕ, zero, suc, ◌+◌, ◌-◌, ◌<◌, Bool, true, false, ◌||◌, ◌==◌, List, [], ◌∷◌, length, get_or, Option, Result, IfOk, sym, ap, ◌∙◌, arith, true≢false}
use Rattle.isolation.proofs.Common.{cases_Bool, cases_lt, eq-eqb, get_or-map, get_or_default, get_or_append_left, get_or-append_right, length-map, All, Node, Arena, den, KeepsNodes, IsLawful, Trit, X, bit, bits, Rails, AreRailsOf, value_of, values_of, Parts, fix, fix_gates, IsNetlist, first_gate, value_in, order, Vectors, rails_at, unknown, IsLoopNetlist, HasUnknownRails}
use Rattle.std.specs.Prelude.{IfNone}
use Rattle.cyc_base.proofs.ListLemmas.{empty_list}
use Rattle.cyc_base.proofs.OrderLemmas.{bit-known}
use Rattle.bdd_store.specs.Arena.{constant, IsNodeOf}
use Rattle.bdd_ops.specs.Operations.{disjunction}
use Rattle.dual_rail.specs.Rails.{trit_of}
use Rattle.dual_rail.proofs.SurelyLemmas.{value_of-kept}
use Rattle.fixpoint.specs.Orders.{laid}
use Rattle.fixpoint.proofs.LayoutLemmas.{by_column, length-by_column, variables-back}
use Rattle.fixpoint.proofs.OrderLemmas.{order-is}
use Rattle.isolation.specs.Settling.{AreColumnVectors, HasUnknownVector}
use Rattle.isolation.specs.Unsettled.{AreUnsettled, HasUnknown, IsBelowEnough}
use Rattle.isolation.proofs.WidthLemmas.{rails-size}

-- ---- a vector at which a function is false

record IsFalseAt (n : ℕ) (f : List Bool → Bool) : Type 0 where
  vector : List Bool
  width : length vector ≡ n
  is : f vector ≡ false

abbrev IsTrueAtAll : ℕ → (List Bool → Bool) → Type 0
IsTrueAtAll n f = (v : List Bool) → length v ≡ n → f v ≡ true

all_longer : (n : ℕ) (f : List Bool → Bool) → IsTrueAtAll n (λ v. f (false ∷ v)) → IsTrueAtAll n (λ v. f (true ∷ v)) → IsTrueAtAll (suc n) f
all_longer n f zeros ones [] long = absurd (omega (arith, long))
all_longer n f zeros ones (false ∷ v) long = zeros v (omega (arith, long))
all_longer n f zeros ones (true ∷ v) long = ones v (omega (arith, long))

false_or_all : (n : ℕ) (f : List Bool → Bool) → IsFalseAt n f ⊎ IsTrueAtAll n f
false_or_all zero f = grind (arith, cases_Bool (f []), empty_list)
false_or_all (suc n) f = elim (false_or_all n (λ v. f (false ∷ v))) [
  | inl at ↦ inl (record { vector = false ∷ at.vector; width = ap suc at.width; is = at.is })
  | inr zeros ↦ elim (false_or_all n (λ v. f (true ∷ v))) [
    | inl at ↦ inl (record { vector = true ∷ at.vector; width = ap suc at.width; is = at.is })
    | inr ones ↦ inr (all_longer n f zeros ones)
  ]
]

-- ---- rails that are X there

neither : (p q : Bool) → (p || q) ≡ false → trit_of p q ≡ X
neither p q e = grind arith

-- where the node that says where rails are known isn't true, they are X at a vector
pub unknown-vector : (s t : Arena) (r : Rails) (n true_node : Node) (b : Bool) → IsLawful t → KeepsNodes s t → IsNodeOf t n → ((x : List Bool) → den t n x ≡ disjunction s r.one r.zero x) → true_node ≡ constant true → b ≡ (n.number == true_node.number) → b ≡ false →
    HasUnknownVector s r
unknown-vector s t r n true_node b lawful keeps node function is same other = elim (false_or_all s.vars (disjunction s r.one r.zero)) [
  | inl at ↦ record { vector = at.vector; width = at.width; is = neither (den s r.one at.vector) (den s r.zero at.vector) at.is }
  | inr all ↦
      let vars = keeps.vars in
      let e : n ≡ constant true = lawful.canonical n (constant true) node (omega arith) (λ x long. function x ∙ all x (long ∙ vars) ∙ sym (lawful.constants true x)) in
      absurd (true≢false (sym (eq-eqb n.number true_node.number (ap (λ (m : Node). m.number) (e ∙ sym is))) ∙ sym same ∙ other))
]

-- the first rails are known, and the next
pub known-next : {s t : Arena} → KeepsNodes s t → (rails : List Rails) → All (AreRailsOf s) rails → (i : ℕ) → i < length rails →
    ((k : ℕ) (none : Rails) → k < i → (v : List Bool) → value_of s (get_or rails k none) v ≢ X) → ((v : List Bool) → value_of t (rails_at rails i) v ≢ X) →
    (k : ℕ) (none : Rails) → k < i + 1 → (v : List Bool) → value_of s (get_or rails k none) v ≢ X
known-next {s} {t} keeps rails proper i inside before here k none less v x = elim (cases_lt k i) [
  | inl low ↦ before k none low v x
  | inr high ↦
      let same : k ≡ i = omega (arith, less, high) in
      here v
      (value_of-kept keeps (rails_at rails i) (proper i unknown inside) v
      ∙ ap (λ (r : Rails). value_of s r v) (get_or_default rails i unknown none inside ∙ ap (λ (n : ℕ). get_or rails n none) (sym same)) ∙ x)
]

-- ---- a gate that is X

pub unknown-gate : (net : Parts) (points : Vectors) → AreColumnVectors net points → (a : Arena) (rails : List Rails) → All (AreRailsOf a) rails → ((x : List Bool) → length (points x) ≡ first_gate net) → ((x : List Bool) → values_of a rails x ≡ fix net (points x)) →
    a.vars ≡ first_gate net → HasUnknownRails a rails → HasUnknown net
unknown-gate net points points_are a rails proper vector values vars at =
    let x : List Bool = at.at.vector in
    let u : List Bool = by_column (order net) x in
    let wide : length u ≡ first_gate net = length-by_column (order net) x ∙ (order-is net).long in
    let back : laid net u ≡ x = variables-back (first_gate net) (order net) (order-is net) x (at.at.width ∙ vars) in
    let points_is : points x ≡ bits u = ap points (sym back) ∙ points_are u wide in
    let is : value_in (fix net (bits u)) at.place ≡ X =
    ap (λ (ts : List Trit). value_in (fix net ts) at.place) (sym points_is)
    ∙ ap (λ (ts : List Trit). get_or ts at.place X) (sym (values x))
    ∙ get_or-map (λ (r : Rails). value_of a r x) rails at.place unknown X at.within
    ∙ at.at.is in
    let size = rails-size net points points_are a rails proper vector values in
    let within = at.within in
    let long = length-map u bit in
    elim (cases_lt at.place (first_gate net)) [
      | inl column ↦
          absurd (bit-known (get_or u at.place false)
          (sym (get_or-map bit u at.place false X (omega (arith, wide, column))) ∙ sym (get_or_append_left (bits u) (fix_gates net (bits u)) X at.place (omega (arith, long, wide, column))) ∙ is))
      | inr high ↦ record {
        vector = u;
        width = wide;
        gate = at.place - first_gate net;
        within = omega (arith, size, within, high);
        unknown = sym (get_or-append_right (bits u) (fix_gates net (bits u)) (first_gate net) at.place X (long ∙ wide) high) ∙ is;
      }
    ]

-- ---- the loop in the whole netlist

-- none for one of two causes
pub unknown-or : (net : Parts) (budget : ℕ) (found : Option ℕ) → IfNone found (HasUnknown net) → IfNone found (HasUnknown net ⊎ IsBelowEnough net budget)
unknown-or net budget found is = grind arith

pub unsettled-found : {E : Type 0} (net : Parts) (gates : List ℕ) (small : Parts) (budget : ℕ) (made : Result (Option ℕ) E) → IsNetlist small → IsLoopNetlist net gates small → IfOk made (λ found. IfNone found (HasUnknown small ⊎ IsBelowEnough small budget)) → IfOk made (λ found. IfNone found (AreUnsettled net gates budget))
unsettled-found net gates small budget made valid is shown = grind arith
