-- The bounds of a comparison, from those of its parts.
use Rattle.std.proofs.Common.{◌≡◌, ◌⊎◌, inl, inr, ℕ, ◌+◌, ◌-◌, ◌*◌, ◌<◌, ◌≤◌, List, [], ◌++◌, length, map, None, refl, sym, ap, ap₂, subst, ◌∙◌, arith}
use Rattle.equal.proofs.Common.{Result, Err, range_with_len, cases_lt, length-append, length-map, append-nil, map-map, Gate, Latch, Parts, count, gate_at, no_gate, IsNetlist, order, CareSet, columns, signal_name, unmatched, columns_by_name, pair_of, signal_named, source_named, output_pairs, latch_pairs, HaveOneSource, moved_gates, moved_pair_by, joined, joined_pairs, Arena, IsOutOfNodes, IsBelowEnoughFor, IsBelowEnoughForBoth, IsOutOfNodesForBoth}
use Rattle.std.specs.List.{sum, sum_by}
use Rattle.std.proofs.lemmas.List.FromFn.{fill_by_all}
use Rattle.std.proofs.lemmas.List.Sums.{sum_by-append, sum-map}
use Rattle.std.proofs.lemmas.Nat.{mul-le}
use Rattle.dual_rail.specs.Local.{size}
use Rattle.fixpoint.specs.Working.{effort, HasLargeCover}
use Rattle.diagram_decision.specs.Causes.{HasModelOver, HasCoverOver}
use Rattle.diagram_decision.specs.Enough.{in_all, enough, IsBelowEnough}
use Rattle.equal.specs.Bounds.{in_both}
use Rattle.equal.proofs.BothLemmas.{both_are_wide}
use Rattle.miters.proofs.JoinLemmas.{first_gate, second_gate, length-joined}

-- ---- the joined netlist's gates are those of both

sum_mapped : {A B : Type 0} (f : B → ℕ) (g : A → B) (xs : List A) → sum_by f (map g xs) ≡ sum_by (λ x. f (g x)) xs
sum_mapped f g xs = sym (sum-map f (map g xs)) ∙ ap sum (map-map f g xs) ∙ sum-map (λ x. f (g x)) xs

own_gates : (net : Parts) → map (gate_at net) (range_with_len 0 (length net.gates)) ≡ net.gates
own_gates net = sym (fill_by_all (gate_at net) net.gates (length net.gates) no_gate refl (λ k l. refl))

effort_moved : (a b : Parts) → sum_by (λ gate. size gate.cover + 1) (moved_gates a b) ≡ effort b
effort_moved a b = grind (arith, sum_mapped, own_gates b)

effort_joined : (a b : Parts) → effort (joined a b []) ≡ effort a + effort b
effort_joined a b = grind (arith, sum_by-append, append-nil (moved_gates a b), effort_moved a b)

gates_joined : (a b : Parts) → length (a.gates ++ (moved_gates a b ++ [])) ≡ length a.gates + length b.gates
gates_joined a b = length-joined a b [] ∙ omega arith

length_pairs : (a b : Parts) → length (joined_pairs a b) ≡ length a.outputs + length a.latches
length_pairs a b =
    length-map (output_pairs a b ++ latch_pairs a b) (moved_pair_by (columns_by_name a b) (count a))
    ∙ length-append (output_pairs a b) (latch_pairs a b)
    ∙ ap₂ (λ m n. m + n)
    (length-map a.outputs (λ s. pair_of s (signal_named b (signal_name a s))))
    (length-map a.latches (λ (latch : Latch). pair_of latch.from (source_named b latch.name)))

-- ---- what is enough

product_le : (w g e h f : ℕ) → g ≤ h → e ≤ f → 16 * w * g * e ≤ 16 * w * h * f
product_le w g e h f l m = mul-le (16 * w * g) e (16 * w * h) f (mul-le (16 * w) g (16 * w) h (omega arith) l) m

below_one : (l x y p q : ℕ) → l < x → l < x + y + p + q
below_one l x y p q h = omega arith

below_two : (l x y p q : ℕ) → l < y → l < x + y + p + q
below_two l x y p q h = omega arith

below_three : (l x y p q r s : ℕ) → l < r + s → r ≤ p → s ≡ q → l < x + y + p + q
below_three l x y p q r s h m e = omega arith

module _ (a : Parts) (care_a : CareSet) (b : Parts) (care_b : CareSet) (limit : ℕ) where
  pub below_first : IsBelowEnough a care_a limit → IsBelowEnoughForBoth a care_a b care_b limit
  below_first is = record { below = λ v w u wide_a wide_b wide. below_one limit (enough a care_a v) (enough b care_b w) _ _ (is.below v wide_a) }

  pub below_second : IsBelowEnough b care_b limit → IsBelowEnoughForBoth a care_a b care_b limit
  below_second is = record { below = λ v w u wide_a wide_b wide. below_two limit (enough a care_a v) (enough b care_b w) _ _ (is.below w wide_b) }

  joined_le : (w : ℕ) → enough (joined a b []) care_a w ≤ 16 * w * (in_both (λ net. length net.gates) a care_a b care_b + 2) * (in_both effort a care_a b care_b + columns a + 4)
  joined_le w =
      let g = gates_joined a b in
      let e = effort_joined a b in
      product_le w (in_all (λ net. length net.gates) (joined a b []) care_a + 2) (in_all effort (joined a b []) care_a + columns a + 4)
      (in_both (λ net. length net.gates) a care_a b care_b + 2) (in_both effort a care_a b care_b + columns a + 4) (omega arith) (omega arith)

  pub below_both : IsNetlist a → IsNetlist b → unmatched a b ≡ None → IsBelowEnoughFor (order a) (joined a b []) care_a (joined_pairs a b) limit → IsBelowEnoughForBoth a care_a b care_b limit
  below_both valid_a valid_b none is = record {
    below = λ v w u wide_a wide_b wide.
        below_three limit (enough a care_a v) (enough b care_b w) _ _ (enough (joined a b []) care_a u) (8 * u * length (joined_pairs a b)) (is.below u (both_are_wide a b care_a care_b valid_a valid_b none u wide)) (joined_le u)
        (ap (λ n. 8 * u * n) (length_pairs a b));
  }

-- ---- causes

model_over : (care_a care_b : CareSet) (limit : ℕ) → HaveOneSource care_a care_b → HasModelOver care_b limit → HasModelOver care_a limit
model_over care_a care_b limit one h = grind arith

large_joined : (a b : Parts) (limit : ℕ) → HasLargeCover (joined a b []) limit → HasLargeCover a limit ⊎ HasLargeCover b limit
large_joined a b limit h = elim (cases_lt h.gate (length a.gates)) [
  | inl low ↦ inl (record { gate = h.gate; within = low; over = subst (λ (g : Gate). limit < size g.cover) (first_gate a b [] h.gate low) h.over })
  | inr high ↦
      let i : ℕ = h.gate - length a.gates in
      let e : h.gate ≡ length a.gates + i = omega arith in
      let within = h.within in
      let g = gates_joined a b in
      let less : i < length b.gates = omega arith in
      inr (record {
        gate = i;
        within = less;
        over = subst (λ (g : Gate). limit < size g.cover) (ap (gate_at (joined a b [])) e ∙ second_gate a b [] i less) h.over;
      })
]

-- what one decision runs out of nodes for
out_by : (d : Arena) (a : Parts) (care_a : CareSet) (b : Parts) (limit : ℕ) (net : Parts) (care : CareSet) → IsOutOfNodes d net care limit →
    (HasCoverOver net care limit → HasLargeCover a limit ⊎ (HasLargeCover b limit ⊎ HasModelOver care_a limit)) → IsOutOfNodesForBoth d a care_a b limit
out_by d a care_a b limit net care is over = record { most = is.store.most; cause = elim is.cause [ inl e ↦ inl e | inr h ↦ inr (over h) ] }

pub out_first : (d : Arena) (a : Parts) (care_a : CareSet) (b : Parts) (limit : ℕ) → IsOutOfNodes d a care_a limit → IsOutOfNodesForBoth d a care_a b limit
out_first d a care_a b limit is = out_by d a care_a b limit a care_a is (λ over. elim over [ inl h ↦ inl h | inr h ↦ inr (inr h) ])

pub out_second : (d : Arena) (a : Parts) (care_a : CareSet) (b : Parts) (care_b : CareSet) (limit : ℕ) → HaveOneSource care_a care_b → IsOutOfNodes d b care_b limit → IsOutOfNodesForBoth d a care_a b limit
out_second d a care_a b care_b limit one is = grind (arith, out_by d a care_a b limit b care_b is, model_over care_a care_b limit one)

pub out_both : (d : Arena) (a : Parts) (care_a : CareSet) (b : Parts) (limit : ℕ) → IsOutOfNodes d (joined a b []) care_a limit → IsOutOfNodesForBoth d a care_a b limit
out_both d a care_a b limit is =
    out_by d a care_a b limit (joined a b []) care_a is
    (λ over. elim over [
      | inl h ↦ elim (large_joined a b limit h) [ inl x ↦ inl x | inr x ↦ inr (inl x) ]
      | inr h ↦ inr (inr h)
    ])

-- one fault of two results
pub same_fault : {T U E : Type 0} (x y : E) → ◌≡◌ {A = Result T E} (Err x) (Err y) → ◌≡◌ {A = Result U E} (Err x) (Err y)
same_fault x y e = let same : x ≡ y = cc in ap (λ z. Err z) same
