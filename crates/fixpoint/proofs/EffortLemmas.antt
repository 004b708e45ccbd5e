-- What the gates of a netlist cost: an order of them at most its effort, and the effort at most what is enough.
use Rattle.std.proofs.Common.{◌≡◌, ℕ, suc, ◌+◌, ◌*◌, ◌<◌, ◌≤◌, true, List, [], ◌∷◌, length, take, get_or, refl, ◌∙◌, subst, arith, Contains, true≢false}
use Rattle.fixpoint.proofs.Common.{get_or_default, sum_by, sum_by-take-le, size, Gate, Parts, no_gate, ReadsUncut, IsInOrder, cost, order_cost, effort}
use Rattle.std.proofs.lemmas.List.Elements.{recursion_from_All}
use Rattle.std.proofs.lemmas.List.Sums.{sum_by-cons, sum_by_more_le}
use Rattle.std.specs.List.{slice_index}
use Rattle.netlist.specs.Orders.{IsGateOrder}
use Rattle.fixpoint.proofs.CostLemmas.{order-total, total-all}

-- with all wires cut, an order that has no gate twice follows itself
once-follows : (net : Parts) (order : List ℕ) → ((i j : ℕ) → i < length order → j < length order → get_or order i 0 ≡ get_or order j 0 → i ≡ j) → IsInOrder net (λ n. true) order
once-follows net [] once = tt
once-follows net (n ∷ order) once = (
  recursion_from_All (λ g. (¬ (g ≡ n)) × (¬ ReadsUncut net (λ m. true) n g)) order
      (λ k d less. (
        (λ e. let same : suc k ≡ 0 = once (suc k) 0 (omega (arith, less)) (omega arith) (get_or_default order k 0 d less ∙ e) in absurd (omega (arith, same))),
        (λ reads. true≢false reads.uncut),
      )),
  once-follows net order (λ i j inside_i inside_j e. let same : suc i ≡ suc j = once (suc i) (suc j) (omega (arith, inside_i)) (omega (arith, inside_j)) e in omega (arith, same)),
)

order-effort : (net : Parts) (order : List ℕ) → IsGateOrder net order → order_cost net order ≤ effort net
order-effort net order is =
    let gates : (n : ℕ) → Contains order n → (n < length net.gates) × (true ≡ true) = λ n has.
    (subst (λ m. m < length net.gates) (get_or_default order has.0 0 n has.1 ∙ has.2) (is.within has.0 has.1), refl) in
    let once = order-total net (λ n. true) (cost net) (λ n. true) (length net.gates) order (once-follows net order is.once) gates in
    let all = total-all (λ gate. size gate.cover + 1) net.gates no_gate (λ n. true) in
    omega (arith, once, all)

-- and so do its first gates, also with the next one
pub part-effort : (net : Parts) (order : List ℕ) → IsGateOrder net order → (i : ℕ) → order_cost net (take i order) ≤ effort net
part-effort net order is i = omega (arith, order-effort net order is, sum_by-take-le (cost net) order i)

pub next-effort : (net : Parts) (order : List ℕ) → IsGateOrder net order → (i : ℕ) → i < length order →
    order_cost net (take i order) + cost net (slice_index order i) ≤ effort net
next-effort net order is i inside = omega (arith, order-effort net order is, sum_by_more_le (cost net) order i 0 inside)

-- ---- the effort itself

-- each gate counts one at least
pub gates-effort : (gates : List Gate) → length gates ≤ sum_by (λ gate. size gate.cover + 1) gates
gates-effort [] = omega arith
gates-effort (gate ∷ gates) =
    let sum = sum_by-cons (λ (g : Gate). size g.cover + 1) gate gates in
    omega (arith, gates-effort gates, sum)

-- a limit that is below the effort is below what is enough
pub effort-enough : (limit e w gates v : ℕ) → limit < e → v + 1 ≤ w → limit < 16 * w * (gates + 2) * (e + v + 4)
effort-enough limit e w gates v less wide = grind arith
