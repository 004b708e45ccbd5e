-- The table of rails, and what a loop over the nodes adds.
use Rattle.std.proofs.Common.{◌≡◌, ℕ, ◌<◌, ◌≤◌, Bool, true, false, not, ◌⊎◌, inl, inr, List, [], ◌∷◌, ◌++◌, length, if◌then◌else◌, sym, ap, subst, ◌∙◌, arith}
use Rattle.dual_rail.proofs.Common.{not-not, cases_lt, get_or_append_left, length_push, All, slice_index_or, Node, Arena, complemented, den, IsLawful, nodes, KeepsNodes, Rails, values_of, AreRailsOf, function, IsLift, IsTable}
use Rattle.std.proofs.lemmas.List.{get_or_push}
use Rattle.bdd_store.specs.Arena.{empty, index, is_marked, flipped, value_at, constant}
use Rattle.bdd_store.proofs.NodeLemmas.{same_node, index-complemented, is_marked-complemented}
use Rattle.bdd_store.proofs.ValueLemmas.{value_at-zero, node_value-complemented, den-constant}
use Rattle.bdd_store.proofs.GrowthLemmas.{count-parts}
use Rattle.dual_rail.specs.Local.{Local, local_size, IsLocal}
use Rattle.dual_rail.proofs.SurelyLemmas.{surely-constant, IsLift-kept, IsLift-complement}

-- the rails of the constant without a mark
abbrev pub base_rails : List Rails
base_rails = (record { one = constant true; zero = constant false }) ∷ []

pub base-table : (l : Local) (a : Arena) (pins : List Rails) → IsTable l a pins base_rails
base-table l a pins = record { each = λ n none plain less. by n none plain (omega (arith, less)) }
  where
    first : (none : Rails) (i : ℕ) → i ≡ 0 → slice_index_or base_rails i none ≡ record { one = constant true; zero = constant false }
    first none i e = ap (λ k. slice_index_or base_rails k none) e

    by : (n : Node) (none : Rails) → is_marked n ≡ false → index n ≡ 0 → IsLift a pins (den l.store n) (slice_index_or base_rails (index n) none)
    by n none plain low =
        let one : (bs : List Bool) → den l.store n bs ≡ true = λ bs. ap (λ m. flipped m (value_at l.store.entries (index n) bs)) plain ∙ ap (λ i. value_at l.store.entries i bs) low ∙ value_at-zero l.store.entries bs in
        subst (IsLift a pins (den l.store n)) (sym (first none (index n) low)) (record {
          one = record { node = omega arith; says = λ bs. den-constant true a bs ∙ sym (surely-constant (den l.store n) true (values_of a pins bs) one) };
          zero = record { node = omega arith; says = λ bs. den-constant false a bs ∙ sym (surely-constant (λ cs. not (den l.store n cs)) false (values_of a pins bs) (λ cs. ap not (one cs))) };
        })

-- what the table stands for stays while nodes are kept
pub IsTable-kept : {l : Local} {s t : Arena} {pins table : List Rails} → KeepsNodes s t → All (AreRailsOf s) pins → IsTable l s pins table → IsTable l t pins table
IsTable-kept k all is = record { each = λ n none plain less. IsLift-kept k all (is.each n none plain less) }

-- with the rails of one more node
pub step-table : {l : Local} {s t : Arena} {pins table : List Rails} (more : List Rails) (node : Node) (r : Rails) → IsTable l s pins table → KeepsNodes s t → All (AreRailsOf s) pins → length table ≡ index node → is_marked node ≡ false → IsLift t pins (den l.store node) r → more ≡ table ++ r ∷ [] → IsTable l t pins more
step-table {l} {s} {t} {pins} {table} more node r before k all at unmarked is items = subst (IsTable l t pins) (sym items) (record { each = λ n none plain less. by n none plain less (cases_lt (index n) (length table)) })
  where
    by : (n : Node) (none : Rails) → is_marked n ≡ false → index n < length (table ++ r ∷ []) → (index n < length table) ⊎ (length table ≤ index n) → IsLift t pins (den l.store n) (slice_index_or (table ++ r ∷ []) (index n) none)
    by n none plain less (inl low) = subst (IsLift t pins (den l.store n)) (sym (get_or_append_left table (r ∷ []) none (index n) low)) (IsLift-kept k all (before.each n none plain low))
    by n none plain less (inr high) = grind (arith, length_push table r, same_node node n, get_or_push table r none (index n))

-- the rails of a node with a mark are those of the one without, exchanged
pub IsLift-at : {l : Local} {s : Arena} {pins table : List Rails} (n : Node) (none : Rails) → IsTable l s pins table → index n < length table → (m : Bool) → m ≡ is_marked n → (r : Rails) → r ≡ slice_index_or table (index n) none
    → IsLift s pins (den l.store n) (if m then (record { one = r.zero; zero = r.one }) else r)
IsLift-at {l} {s} {pins} {table} n none is less true mark r at =
    let m = complemented n in
    let plain : is_marked (complemented n) ≡ false = is_marked-complemented n ∙ ap not (sym mark) in
    let there : IsLift s pins (den l.store (complemented n)) r = subst (IsLift s pins (den l.store (complemented n))) (ap (λ i. slice_index_or table i none) (index-complemented n) ∙ sym at) (is.each (complemented n) none plain (omega (arith, less, index-complemented n))) in
    IsLift-complement (λ bs. sym (not-not (den l.store n bs)) ∙ ap not (sym (node_value-complemented l.store.entries n bs))) there
IsLift-at {l} {s} {pins} {table} n none is less false mark r at = subst (IsLift s pins (den l.store n)) (sym at) (is.each n none (sym mark) less)

-- ---- counting

-- a diagram has no more nodes than its function
pub local-count : (l : Local) → IsLawful l.store → IsLocal l → length l.store.entries ≤ local_size l
local-count l lawful local = grind (arith, cases_lt, count-parts l.store lawful.canonical (function l) lawful.constants (empty l.store.vars l.store.limit))
