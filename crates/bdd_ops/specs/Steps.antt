-- How many steps an operation may still take. Each question is of a variable behind those of the questions that wait, so
-- there is an end to them.
use Rattle.std.specs.Prelude.{ℕ, zero, suc, ◌+◌, ◌-◌, List, [], ◌∷◌}
use Rattle.bdd_ops.specs.declared.apply.Question.{Question}
use Rattle.bdd_ops.specs.declared.apply.Question.TheVariants.{Low, High}
use Rattle.bdd_ops.specs.declared.apply.Turn.{Turn}
use Rattle.bdd_ops.specs.declared.apply.Turn.TheVariants.{Ask, Answer}

abbrev pub var_of : Question → ℕ
var_of (Low asked var high) = var
var_of (High asked var low) = var

-- at most so many answer operands that read none but the last so many variables
abbrev pub most_steps : ℕ → ℕ
most_steps zero = 1
most_steps (suc last) = most_steps last + most_steps last + 3

-- how many variables come behind those of the questions that wait
abbrev pub last_vars : ℕ → List Question → ℕ
last_vars vars [] = vars
last_vars vars (w ∷ ws) = vars - suc (var_of w)

-- once the answer is there that the question waits for
abbrev pub steps_from : ℕ → Question → ℕ
steps_from vars (Low asked var high) = most_steps (vars - suc var) + 2
steps_from vars (High asked var low) = 1

abbrev pub steps_waiting : ℕ → List Question → ℕ
steps_waiting vars [] = 0
steps_waiting vars (w ∷ ws) = steps_from vars w + steps_waiting vars ws

abbrev pub steps_left : ℕ → List Question → Turn → ℕ
steps_left vars ws (Ask q) = most_steps (last_vars vars ws) + steps_waiting vars ws
steps_left vars ws (Answer n) = steps_waiting vars ws
