-- Conjunction, disjunction and exclusive or as choices.
use Rattle.std.proofs.Common.{◌≡◌, Bool, true, false, ◌&&◌, ◌||◌, List, if◌then◌else◌, ◌∙◌, arith}
use Rattle.bdd_store.specs.declared.node.Node.{Node}
use Rattle.bdd_store.specs.Arena.{Arena, den}
use Rattle.bdd_ops.specs.Operations.{conjunction, disjunction, if_then_else}

and_values : (x y : Bool) → (if x then y else false) ≡ (x && y)
and_values x y = grind arith

or_values : (x y : Bool) → (if x then true else y) ≡ (x || y)
or_values x y = grind arith

pub conjunction_is : (s : Arena) (a b never : Node) → ((bits : List Bool) → den s never bits ≡ false) → (bits : List Bool) → if_then_else s a b never bits ≡ conjunction s a b bits
conjunction_is s a b never is bits = (λ j. if den s a bits then den s b bits else is bits j) ∙ and_values (den s a bits) (den s b bits)

pub disjunction_is : (s : Arena) (a b ever : Node) → ((bits : List Bool) → den s ever bits ≡ true) → (bits : List Bool) → if_then_else s a ever b bits ≡ disjunction s a b bits
disjunction_is s a b ever is bits = (λ j. if den s a bits then is bits j else den s b bits) ∙ or_values (den s a bits) (den s b bits)
