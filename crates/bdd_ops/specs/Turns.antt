-- The questions that wait while an operation runs.
use Rattle.std.specs.Prelude.{◌≡◌, List, [], ◌∷◌}
use Rattle.bdd_store.specs.declared.node.Node.{Node}
use Rattle.bdd_store.specs.Arena.{Arena}
use Rattle.bdd_ops.specs.declared.operands.Operation.{Operation}
use Rattle.bdd_ops.specs.declared.operands.Operands.{Operands}
use Rattle.bdd_ops.specs.declared.apply.Question.{Question}
use Rattle.bdd_ops.specs.declared.apply.Question.TheVariants.{Low, High}
use Rattle.bdd_ops.specs.declared.apply.Turn.{Turn}
use Rattle.bdd_ops.specs.declared.apply.Turn.TheVariants.{Ask, Answer}
use Rattle.bdd_ops.specs.Apply.{IsAnswer, IsSplit}

-- the operands whose answer is open
abbrev pub asked_of : Question → Operands
asked_of (Low asked var high) = asked
asked_of (High asked var low) = asked

-- it waits for the answer to these operands: to the cofactors at 0, or, once those are answered, to the ones at 1
abbrev pub WaitsFor : Operation → Arena → Question → Operands → Type 0
WaitsFor operation s (Low asked var high) q = IsSplit s asked var q high
WaitsFor operation s (High asked var low) q = (p : Operands) × IsSplit s asked var p q × IsAnswer operation s p low

-- n is the answer that it waits for
abbrev pub IsAnswered : Operation → Arena → Question → Node → Type 0
IsAnswered operation s w n = (q : Operands) × WaitsFor operation s w q × IsAnswer operation s q n

-- each question that waits, the last first, is what the one before waits for, and the first one is the root
abbrev pub IsChain : Operation → Arena → Operands → List Question → Operands → Type 0
IsChain operation s root [] q = q ≡ root
IsChain operation s root (w ∷ ws) q = WaitsFor operation s w q × IsChain operation s root ws (asked_of w)

-- the question that comes next, or the answer to the last one
abbrev pub IsTurn : Operation → Arena → Operands → List Question → Turn → Type 0
IsTurn operation s root ws (Ask q) = IsChain operation s root ws q
IsTurn operation s root ws (Answer n) = (q : Operands) × IsChain operation s root ws q × IsAnswer operation s q n
