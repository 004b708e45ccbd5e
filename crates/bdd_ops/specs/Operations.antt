-- The functions that the operations make of the functions of nodes.
use Rattle.std.specs.Prelude.{ℕ, Bool, false, not, ◌&&◌, ◌||◌, List, if◌then◌else◌}
use Rattle.std.specs.List.{slice_index_or}
use Rattle.bdd_store.specs.declared.node.Node.{Node}
use Rattle.bdd_store.specs.Arena.{Arena, den}

-- one of the two, and not both
abbrev pub xor : Bool → Bool → Bool
xor x y = if x then not y else y

-- hi where `one` is true, lo where `zero` is, and what both have where neither is
abbrev pub select : Bool → Bool → Bool → Bool → Bool
select one zero hi lo = ((one && hi) || (hi && lo)) || (zero && lo)

-- the bit at a variable
abbrev pub bit_at : ℕ → List Bool → Bool
bit_at v bits = slice_index_or bits v false

abbrev pub complement : Arena → Node → List Bool → Bool
complement s a bits = not (den s a bits)

abbrev pub conjunction : Arena → Node → Node → List Bool → Bool
conjunction s a b bits = den s a bits && den s b bits

abbrev pub disjunction : Arena → Node → Node → List Bool → Bool
disjunction s a b bits = den s a bits || den s b bits

abbrev pub exclusive_or : Arena → Node → Node → List Bool → Bool
exclusive_or s a b bits = xor (den s a bits) (den s b bits)

abbrev pub if_then_else : Arena → Node → Node → Node → List Bool → Bool
if_then_else s a b c bits = if den s a bits then den s b bits else den s c bits

abbrev pub selection : Arena → Node → Node → Node → Node → List Bool → Bool
selection s one zero hi lo bits = select (den s one bits) (den s zero bits) (den s hi bits) (den s lo bits)
