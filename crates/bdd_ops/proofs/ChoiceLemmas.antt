-- Answers to choices stay right.
use Rattle.std.proofs.Common.{◌≡◌, ℕ, Bool, ◌⊎◌, inl, inr, List, Option, Some, None, IfSome, Contains, if◌then◌else◌, refl, sym, subst, arith}
use Rattle.bdd_store.specs.declared.node.Node.{Node}
use Rattle.bdd_store.specs.declared.node.Choice.{Choice}
use Rattle.bdd_store.specs.Arena.{Arena, empty, den, with_answers, answer_to, same_choice, IsNodeOf}
use Rattle.bdd_store.specs.Growth.{KeepsNodes}
use Rattle.bdd_store.proofs.AnswerLemmas.{same_choice-true}
use Rattle.lru.proofs.CallerLemmas.{Contains-lookup}
use Rattle.bdd_ops.specs.Operations.{if_then_else}
use Rattle.bdd_ops.specs.Choices.{IsNodeOfChoice, AreRight}

pub IsNodeOfChoice-kept : (s t : Arena) (q : Choice) (n : Node) → KeepsNodes s t → IsNodeOfChoice s q n → IsNodeOfChoice t q n
IsNodeOfChoice-kept s t q n k is = grind arith

pub AreRight-kept : (s t : Arena) → KeepsNodes s t → t.answers ≡ s.answers → AreRight s → AreRight t
AreRight-kept s t k same are = record { each = λ q n has. IsNodeOfChoice-kept s t q n k (are.each q n (subst (λ l. Contains l (q, n)) same has)) }

-- other answers change no node
pub KeepsNodes-answers : (s t : Arena) → t ≡ with_answers s t.answers → KeepsNodes s t
KeepsNodes-answers s t e = subst (KeepsNodes s) (sym e) (record { vars = refl; limit = refl; more = omega arith; function = λ n bits h. refl; variable = λ n h. refl; roots = refl })

-- one more answer that is right
pub AreRight-more : (s t : Arena) (choice : Choice) (n : Node) → t ≡ with_answers s t.answers → AreRight s → IsNodeOfChoice s choice n → ((x : Choice) (m : Node) → Contains t.answers (x, m) → ((x ≡ choice) × (m ≡ n)) ⊎ Contains s.answers (x, m)) → AreRight t
AreRight-more s t choice n e are is cases = record {
  each = λ x m has. IsNodeOfChoice-kept s t x m (KeepsNodes-answers s t e) (elim (cases x m has) [
    | inl here ↦ subst (λ (y : Choice). IsNodeOfChoice s y m) (sym here.0) (subst (λ (k : Node). IsNodeOfChoice s choice k) (sym here.1) is)
    | inr there ↦ are.each x m there
  ]);
}

pub right_answer : (s : Arena) (choice : Choice) (r : Option Node) → AreRight s → r ≡ answer_to s choice → IfSome r (IsNodeOfChoice s choice)
right_answer s choice None are e = tt
right_answer s choice (Some n) are e =
    let has = Contains-lookup (same_choice choice) s.answers n (sym e) in
    subst (λ (y : Choice). IsNodeOfChoice s y n) (sym (same_choice-true choice has.0 has.2)) (are.each has.0 n has.1)

pub right_node : (s : Arena) (choice : Choice) (r : Option Node) → AreRight s → r ≡ answer_to s choice → IfSome r (IsNodeOf s)
right_node s choice None are e = tt
right_node s choice (Some n) are e = (right_answer s choice (Some n) are e).node

pub right_function : (s : Arena) (choice : Choice) (r : Option Node) → AreRight s → r ≡ answer_to s choice → IfSome r (λ n. (bits : List Bool) → den s n bits ≡ if_then_else s choice.a choice.b choice.c bits)
right_function s choice None are e = tt
right_function s choice (Some n) are e = (right_answer s choice (Some n) are e).function

-- where no answers are kept, all are right
pub AreRight-empty : (vars limit : ℕ) → AreRight (empty vars limit)
AreRight-empty vars limit = record { each = λ q n has. absurd (omega (arith, has.1)) }
