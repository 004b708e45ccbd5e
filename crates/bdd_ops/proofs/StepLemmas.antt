-- Each step leaves fewer of them.
use Rattle.std.proofs.Common.{◌≡◌, ℕ, zero, suc, ◌+◌, ◌-◌, ◌<◌, ◌≤◌, List, [], ◌∷◌, ◌++◌, reverse, arith}
use Rattle.bdd_store.specs.Arena.{Arena}
use Rattle.bdd_ops.specs.declared.operands.Operation.{Operation}
use Rattle.bdd_ops.specs.declared.operands.Operands.{Operands}
use Rattle.bdd_ops.specs.declared.apply.Question.{Question}
use Rattle.bdd_ops.specs.declared.apply.Question.TheVariants.{Low, High}
use Rattle.bdd_ops.specs.declared.apply.Turn.TheVariants.{Ask}
use Rattle.bdd_ops.specs.Apply.{IsBelow}
use Rattle.bdd_ops.specs.Steps.{var_of, most_steps, last_vars, steps_from, steps_left}
use Rattle.bdd_ops.specs.Turns.{WaitsFor, IsChain, asked_of}
use Rattle.bdd_ops.proofs.ChainLemmas.{reverse-push}

most_steps-grow : (m n : ℕ) → m ≤ n → most_steps m ≤ most_steps n
most_steps-grow zero zero h = omega arith
most_steps-grow zero (suc n) h = omega arith
most_steps-grow (suc m) zero h = absurd (omega (arith, h))
most_steps-grow (suc m) (suc n) h = omega (arith, most_steps-grow m n (omega (arith, h)))

most_steps-twice : (m n : ℕ) → m < n → most_steps m + most_steps m + 3 ≤ most_steps n
most_steps-twice m n h = most_steps-grow (suc m) n h

module _ (operation : Operation) (s : Arena) where
  within : (w : Question) (q : Operands) → WaitsFor operation s w q → var_of w < s.vars
  within w q h = grind arith

  most : (w : Question) (q : Operands) → WaitsFor operation s w q → (v : ℕ) → IsBelow s (asked_of w) v → v ≤ var_of w
  most (Low asked var high) q h = h.most
  most (High asked var low) q h = h.1.most

  IsBelow-waits : (w : Question) (q : Operands) → WaitsFor operation s w q → IsBelow s q (suc (var_of w))
  IsBelow-waits w q h = grind arith

  steps_from-most : (w : Question) → steps_from s.vars w ≤ most_steps (s.vars - suc (var_of w)) + 2
  steps_from-most w = grind arith

  -- a question is of a variable behind those of the questions that wait
  last_vars-fewer : (root : Operands) (ws : List Question) (q : Operands) (w : Question) (low : Operands) → IsChain operation s root ws q → asked_of w ≡ q → WaitsFor operation s w low → s.vars - suc (var_of w) < last_vars s.vars ws
  last_vars-fewer root [] q w low chain is waits = omega (arith, within w low waits)
  last_vars-fewer root (u ∷ us) q w low chain is waits =
      grind (arith, most w low waits (suc (var_of u)), IsBelow-waits u q chain.0, within w low waits)

  pub asked-fewer : (root : Operands) (items more : List Question) (q : Operands) (w : Question) (low : Operands) → more ≡ items ++ w ∷ [] → IsChain operation s root (reverse items) q → asked_of w ≡ q → WaitsFor operation s w low
      → steps_left s.vars (reverse more) (Ask low) < steps_left s.vars (reverse items) (Ask q)
  asked-fewer root items more q w low is chain asked waits =
      grind (arith, reverse-push items w, steps_from-most w, most_steps-twice (s.vars - suc (var_of w)) (last_vars s.vars (reverse items)) (last_vars-fewer root (reverse items) q w low chain asked waits), last_vars-fewer root (reverse items) q w low chain asked waits)
