-- The questions that wait: each is a part of the root's function.
use Rattle.std.proofs.Common.{◌≡◌, ℕ, true, false, Bool, List, [], ◌∷◌, ◌++◌, Result, is_ok, is_err, if◌then◌else◌, refl, sym, ap, subst, ◌∙◌, reverse, arith}
use Rattle.std.proofs.lemmas.List.{reverse-append}
use Rattle.bdd_store.specs.declared.node.Node.{Node}
use Rattle.bdd_store.specs.Arena.{Arena}
use Rattle.bdd_store.specs.Soundness.{IsLawful}
use Rattle.bdd_store.specs.Growth.{KeepsNodes, NewAreParts, IsRefusedPart}
use Rattle.bdd_store.specs.Subfunctions.{IsPart}
use Rattle.bdd_store.proofs.SubfunctionLemmas.{IsPart-whole, IsPart-alike, IsPart-chain}
use Rattle.bdd_store.proofs.GrowthLemmas.{NewAreParts-chain, NewAreParts-part, IsRefusedPart-part}
use Rattle.bdd_ops.specs.declared.operands.Operation.{Operation}
use Rattle.bdd_ops.specs.declared.operands.Operands.{Operands}
use Rattle.bdd_ops.specs.declared.apply.Question.{Question}
use Rattle.bdd_ops.specs.declared.apply.Question.TheVariants.{Low, High}
use Rattle.bdd_ops.specs.declared.apply.Turn.{Turn}
use Rattle.bdd_ops.specs.declared.apply.Turn.TheVariants.{Ask, Answer}
use Rattle.bdd_ops.specs.Apply.{value, AreNodesOf, IsAnswer}
use Rattle.bdd_ops.specs.Turns.{WaitsFor, IsAnswered, IsChain, IsTurn, asked_of}
use Rattle.bdd_ops.proofs.ApplyLemmas.{value-kept, IsSplit-kept, IsAnswer-kept, AreNodesOf-cofactors, IsPart-cofactors}

WaitsFor-kept : (operation : Operation) (s t : Arena) (w : Question) (q : Operands) → KeepsNodes s t → WaitsFor operation s w q → WaitsFor operation t w q
WaitsFor-kept operation s t (Low asked var high) q k h = IsSplit-kept k h
WaitsFor-kept operation s t (High asked var low) q k h = (h.0, IsSplit-kept k h.1, IsAnswer-kept k (AreNodesOf-cofactors operation s asked var false h.0 h.1.low) h.2)

pub IsChain-kept : (operation : Operation) (s t : Arena) (root : Operands) (ws : List Question) (q : Operands) → KeepsNodes s t → IsChain operation s root ws q → IsChain operation t root ws q
IsChain-kept operation s t root [] q k h = h
IsChain-kept operation s t root (w ∷ ws) q k h = (WaitsFor-kept operation s t w q k h.0, IsChain-kept operation s t root ws (asked_of w) k h.1)

pub WaitsFor-nodes : (operation : Operation) (s : Arena) (w : Question) (q : Operands) → WaitsFor operation s w q → AreNodesOf s q
WaitsFor-nodes operation s w q h = grind arith

pub IsChain-nodes : (operation : Operation) (s : Arena) (root : Operands) (ws : List Question) (q : Operands) → AreNodesOf s root → IsChain operation s root ws q → AreNodesOf s q
IsChain-nodes operation s root [] q nodes h = subst (λ (r : Operands). AreNodesOf s r) (sym h) nodes
IsChain-nodes operation s root (w ∷ ws) q nodes h = WaitsFor-nodes operation s w q h.0

WaitsFor-part : (operation : Operation) (s : Arena) → IsLawful s → (w : Question) (q : Operands) → WaitsFor operation s w q → IsPart s.vars (value operation s (asked_of w)) (value operation s q)
WaitsFor-part operation s lawful (Low asked var high) q h = IsPart-cofactors operation s asked var false q h.low lawful h.within
WaitsFor-part operation s lawful (High asked var low) q h = IsPart-cofactors operation s asked var true q h.1.high lawful h.1.within

pub IsChain-part : (operation : Operation) (s : Arena) → IsLawful s → (root : Operands) (ws : List Question) (q : Operands) → IsChain operation s root ws q → IsPart s.vars (value operation s root) (value operation s q)
IsChain-part operation s lawful root [] q h = subst (λ (r : Operands). IsPart s.vars (value operation s root) (value operation s r)) (sym h) (IsPart-whole s.vars (value operation s root))
IsChain-part operation s lawful root (w ∷ ws) q h = IsPart-chain (IsChain-part operation s lawful root ws (asked_of w) h.1) (WaitsFor-part operation s lawful w q h.0)

-- the last question is the first of the list turned round
pub reverse-push : (ws : List Question) (w : Question) → reverse (ws ++ w ∷ []) ≡ w ∷ reverse ws
reverse-push ws w = reverse-append ws (w ∷ [])

-- the question that is asked in a turn
pub asked-turn : (operation : Operation) (s : Arena) (root : Operands) (ws : List Question) (turn : Turn) (q : Operands) → turn ≡ Ask q → IsTurn operation s root ws turn → IsChain operation s root ws q
asked-turn operation s root ws turn q is t = subst (IsTurn operation s root ws) is t

-- the questions behind the one that is taken from the stack
pub behind : (operation : Operation) (s : Arena) (root : Operands) (items rest : List Question) (w : Question) (turn : Turn) (n : Node) → turn ≡ Answer n → items ≡ rest ++ w ∷ [] → IsTurn operation s root (reverse items) turn → IsChain operation s root (reverse rest) (asked_of w)
behind operation s root items rest w turn n is e t = grind (arith, reverse-push)

IsPart-root : (operation : Operation) (vars : ℕ) (r s : Arena) (root : Operands) → AreNodesOf r root → KeepsNodes r s → IsPart vars (value operation r root) (value operation s root)
IsPart-root operation vars r s root nodes k = IsPart-alike (IsPart-whole vars (value operation r root)) (λ bits len. value-kept operation root k nodes bits)

-- what a turn adds, seen from the first one
NewAreParts-turn : (operation : Operation) (r s t : Arena) (root : Operands) → AreNodesOf r root → KeepsNodes r s → KeepsNodes s t → NewAreParts r s (value operation r root) → NewAreParts s t (value operation s root) → NewAreParts r t (value operation r root)
NewAreParts-turn operation r s t root nodes k l before now = NewAreParts-chain k l before (NewAreParts-part (IsPart-root operation s.vars r s root nodes k) now)

IsRefusedPart-turn : (operation : Operation) (r s t : Arena) (root : Operands) → AreNodesOf r root → KeepsNodes r s → IsRefusedPart t (value operation s root) → IsRefusedPart t (value operation r root)
IsRefusedPart-turn operation r s t root nodes k h = IsRefusedPart-part (IsPart-root operation t.vars r s root nodes k) h

-- once the answer at 0 is there, the one at 1 is waited for
pub chain-high : (operation : Operation) (s : Arena) (root : Operands) (items more : List Question) (w : Question) (asked : Operands) (var : ℕ) (high : Operands) (n : Node) → w ≡ Low asked var high → more ≡ items ++ High asked var n ∷ [] → IsAnswered operation s w n
    → IsChain operation s root (reverse items) (asked_of w) → IsChain operation s root (reverse more) high
chain-high operation s root items more w asked var high n is e answered chain =
    subst (λ ws. IsChain operation s root ws high) (sym (ap reverse e ∙ reverse-push items (High asked var n)))
    (subst (λ v. IsAnswered operation s v n) is answered, subst (λ v. IsChain operation s root (reverse items) (asked_of v)) is chain)

-- what a push that did not fail left
pub pushed : {T X E : Type 0} (r : Result X E) (xs ys zs : List T) → false ≡ is_err r → xs ≡ (if is_ok r then ys else zs) → xs ≡ ys
pushed r xs ys zs e h = grind arith

-- ---- a question that is taken from the stack with its answer

module _ (operation : Operation) (s t : Arena) (root : Operands) (items rest : List Question) (w : Question) (n : Node) (kept : KeepsNodes s t) (last : items ≡ rest ++ w ∷ []) (turn : IsTurn operation s root (reverse items) (Answer n)) where
  -- what waits for it, in the store that its answer leaves
  pub behind-kept : IsChain operation t root (reverse rest) (asked_of w)
  behind-kept = IsChain-kept operation s t root (reverse rest) (asked_of w) kept (behind operation s root items rest w (Answer n) n refl last turn)

  taken-part : IsLawful s → IsPart s.vars (value operation s root) (value operation s (asked_of w))
  taken-part lawful = IsChain-part operation s lawful root (reverse rest) (asked_of w) (behind operation s root items rest w (Answer n) n refl last turn)

  pub NewAreParts-taken : (r : Arena) → IsLawful s → AreNodesOf r root → KeepsNodes r s → NewAreParts r s (value operation r root) → NewAreParts s t (value operation s (asked_of w)) → NewAreParts r t (value operation r root)
  NewAreParts-taken r lawful nodes before made now = NewAreParts-turn operation r s t root nodes before kept made (NewAreParts-part (taken-part lawful) now)

  pub IsRefusedPart-taken : (r : Arena) → IsLawful s → AreNodesOf r root → KeepsNodes r s → IsRefusedPart t (value operation s (asked_of w)) → IsRefusedPart t (value operation r root)
  IsRefusedPart-taken r lawful nodes before refused =
      IsRefusedPart-turn operation r s t root nodes before
      (IsRefusedPart-part (subst (λ (v : ℕ). IsPart v (value operation s root) (value operation s (asked_of w))) (sym kept.vars) (taken-part lawful)) refused)
