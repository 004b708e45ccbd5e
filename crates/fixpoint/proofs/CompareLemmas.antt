-- Counting the nodes that a comparison of steps adds.
use Rattle.std.proofs.Common.{◌≡◌, inl, inr, ◌⊎◌, ℕ, zero, suc, ◌+◌, ◌*◌, ◌<◌, ◌≤◌, Bool, ◌&&◌, List, [], ◌∷◌, length, refl, sym, ◌∙◌, subst, arith, Contains}
use Rattle.fixpoint.proofs.Common.{get_or_default, mul-le-mul_left, All, Node, Arena, den, IsNodeOf, KeepsNodes, Rails, IsWide, LoopSteps, step_at, steps_under, unknown, rails_at, AreNodes, IsCompared, IsComparedIn}
use Rattle.bdd_store.specs.Subfunctions.{nodes}
use Rattle.bdd_ops.specs.Operations.{xor, conjunction, exclusive_or}
use Rattle.dual_rail.proofs.WidthLemmas.{IsWide-fewer}
use Rattle.fixpoint.specs.Counts.{IsStepNode, difference, BoundsDifference}

-- ---- lists of fewer functions

-- where each node that one list may have is one that the other may have
module _ {s t : Arena} (keeps : KeepsNodes s t) (care : Node) (cared : IsNodeOf s care) (more fewer : List (List Rails))
    (nodes_of : (n : Node) → IsStepNode fewer n → IsNodeOf s n) (into : (n : Node) → IsStepNode fewer n → IsStepNode more n) where
  compared-into : (g : List Bool → Bool) → IsCompared t care fewer g → IsCompared s care more g
  compared-into g is = record {
    node = is.node;
    of = elim is.of [ inl e ↦ inl e | inr n ↦ inr (into is.node n) ];
    same = λ bits. is.same bits ∙ keeps.function is.node bits (elim is.of [ inl e ↦ subst (IsNodeOf s) (sym e) cared | inr n ↦ nodes_of is.node n ]);
  }

  pub wide-compared : {w : ℕ} → IsWide s.vars (IsCompared s care more) w → IsWide t.vars (IsCompared t care fewer) w
  wide-compared {w} wide = subst (λ (v : ℕ). IsWide v (IsCompared t care fewer) w) (sym keeps.vars) (IsWide-fewer (IsCompared s care more) (IsCompared t care fewer) w compared-into wide)

pub step-nodes : (s : Arena) (steps : List (List Rails)) → All (All (AreNodes s)) steps → (n : Node) → IsStepNode steps n → IsNodeOf s n
step-nodes s steps all n is = grind arith

pub pair-into : (r q : Rails) (step last : List Rails) → Contains step r → Contains last q → (n : Node) → IsStepNode ((r ∷ q ∷ []) ∷ []) n → IsStepNode (step ∷ last ∷ []) n
pair-into r q step last rc qc n is = grind arith

pub steps-into : (step last : List Rails) (steps : List (List Rails)) → Contains steps step → Contains steps last → (n : Node) → IsStepNode (step ∷ last ∷ []) n → IsStepNode steps n
steps-into step last steps sc lc n is = grind arith

-- ---- one comparison

module _ (s : Arena) (care r q : Node) (steps : List (List Rails)) (rn : IsStepNode steps r) (qn : IsStepNode steps q) {w : ℕ} (wide : IsWide s.vars (IsCompared s care steps) w) where
  function-of : (n : Node) → IsStepNode steps n → IsCompared s care steps (den s n)
  function-of n is = record { node = n; of = inr is; same = λ bits. refl }

  pub bounds-difference : BoundsDifference s care r q w
  bounds-difference = (
    wide.combinations (λ x y z. xor x y) (den s r) (den s q) (den s q) (function-of r rn) (function-of q qn) (function-of q qn),
    wide.combinations (λ x y z. x && xor y z) (den s care) (den s r) (den s q) (record { node = care; of = inl refl; same = λ bits. refl }) (function-of r rn) (function-of q qn),
  )

-- the second operation is on the difference
pub difference-is : (s t : Arena) (care m n differ : Node) → KeepsNodes s t → IsNodeOf s care → ((bits : List Bool) → den t differ bits ≡ exclusive_or s m n bits) → nodes t.vars (conjunction t care differ) ≡ nodes s.vars (difference s care m n)
difference-is s t care m n differ keeps cared differs = grind arith

-- ---- two rails

pair-first : (r q : Rails) (n : Node) → (n ≡ r.one) ⊎ (n ≡ r.zero) → IsStepNode ((r ∷ q ∷ []) ∷ []) n
pair-first r q n is = record { step = r ∷ q ∷ []; among = (zero, omega arith, refl); rails = r; within = (zero, omega arith, refl); is = is }

pair-second : (r q : Rails) (n : Node) → (n ≡ q.one) ⊎ (n ≡ q.zero) → IsStepNode ((r ∷ q ∷ []) ∷ []) n
pair-second r q n is = record { step = r ∷ q ∷ []; among = (zero, omega arith, refl); rails = q; within = (suc zero, omega arith, refl); is = is }

pub pair-nodes : (s : Arena) (r q : Rails) → AreNodes s r → AreNodes s q → (n : Node) → IsStepNode ((r ∷ q ∷ []) ∷ []) n → IsNodeOf s n
pair-nodes s r q rn qn = grind arith

-- two nodes of theirs are compared
pub pair-bounds : (s t : Arena) (care : Node) → IsNodeOf s care → (r q : Rails) → AreNodes s r → AreNodes s q → KeepsNodes s t → (m n : Node) → (m ≡ r.one) ⊎ (m ≡ r.zero) → (n ≡ q.one) ⊎ (n ≡ q.zero) → {w : ℕ}
    → IsWide s.vars (IsCompared s care ((r ∷ q ∷ []) ∷ [])) w → BoundsDifference t care m n w
pair-bounds s t care cared r q rn qn keeps m n m_is n_is wide =
    bounds-difference t care m n ((r ∷ q ∷ []) ∷ []) (pair-first r q m m_is) (pair-second r q n n_is)
    (wide-compared keeps care cared ((r ∷ q ∷ []) ∷ []) ((r ∷ q ∷ []) ∷ []) (pair-nodes s r q rn qn) (λ n2 is. is) wide)

-- at one place of two steps
pub place-wide : (s t : Arena) (care : Node) (step last : List Rails) (place : ℕ) {w : ℕ} → KeepsNodes s t → IsNodeOf s care → place < length step → place < length last → All (AreNodes s) step → All (AreNodes s) last
    → IsWide s.vars (IsCompared s care (step ∷ last ∷ [])) w → IsWide t.vars (IsCompared t care ((rails_at step place ∷ rails_at last place ∷ []) ∷ [])) w
place-wide s t care step last place keeps cared ls ll ns nl wide =
    wide-compared keeps care cared (step ∷ last ∷ []) ((rails_at step place ∷ rails_at last place ∷ []) ∷ [])
    (pair-nodes s (rails_at step place) (rails_at last place) (ns place unknown ls) (nl place unknown ll))
    (pair-into (rails_at step place) (rails_at last place) step last (place, ls, get_or_default step place (rails_at step place) unknown ls) (place, ll, get_or_default last place (rails_at last place) unknown ll)) wide

-- two steps of a loop
pub steps-wide : (s t : Arena) (care : Node) (steps : List (List Rails)) (step last : List Rails) (i j : ℕ) {w : ℕ} → KeepsNodes s t → IsNodeOf s care → All (All (AreNodes s)) steps → i < length steps → j < length steps
    → step ≡ step_at steps i → last ≡ step_at steps j → IsWide s.vars (IsCompared s care steps) w → IsWide t.vars (IsCompared t care (step ∷ last ∷ [])) w
steps-wide s t care steps step last i j keeps cared all li lj is js wide =
    let sc : Contains steps step = (i, li, get_or_default steps i step [] li ∙ sym is) in
    let lc : Contains steps last = (j, lj, get_or_default steps j last [] lj ∙ sym js) in
    wide-compared keeps care cared steps (step ∷ last ∷ []) (λ n has. step-nodes s steps all n (steps-into step last steps sc lc n has)) (steps-into step last steps sc lc) wide

-- the steps of one of the loops
pub loop-wide : (s t : Arena) (care : Node) (loops : List LoopSteps) (loop : LoopSteps) {w : ℕ} → KeepsNodes s t → IsNodeOf s care → All (All (AreNodes s)) (steps_under s loop) → Contains loops loop
    → IsWide s.vars (IsComparedIn s care loops) w → IsWide t.vars (IsCompared t care (steps_under s loop)) w
loop-wide s t care loops loop {w} keeps cared all has wide =
    subst (λ (v : ℕ). IsWide v (IsCompared t care (steps_under s loop)) w) (sym keeps.vars)
    (IsWide-fewer (IsComparedIn s care loops) (IsCompared t care (steps_under s loop)) w
    (λ g is. record {
      node = is.node;
      of = elim is.of [ inl e ↦ inl e | inr n ↦ inr (record { loop = loop; among = has; node = n }) ];
      same = λ bits. is.same bits ∙ keeps.function is.node bits (elim is.of [ inl e ↦ subst (IsNodeOf s) (sym e) cared | inr n ↦ step-nodes s (steps_under s loop) all is.node n ]);
    }) wide)

-- ---- the cut wires of the first loops

pub loops-more : (G before now c len : ℕ) → now ≡ before + c → now ≤ G → len ≤ c + 2 → 4 * (G + 2) * before + 4 * c * len ≤ 4 * (G + 2) * now
loops-more G before now c len e within few = grind (arith, mul-le-mul_left {m = len} {n = G + 2} (4 * c))

pub loops-within : (G now : ℕ) → now ≤ G → 4 * (G + 2) * now ≤ 6 * G * (G + 2)
loops-within G now less = grind arith
