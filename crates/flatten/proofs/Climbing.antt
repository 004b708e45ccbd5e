-- Tables that are filled on the way down agree with climbing from below.
use Rattle.std.proofs.Common.{◌≡◌, ℕ, Bool, List, [], ◌∷◌, ◌++◌, refl, append_assoc, if◌then◌else◌, Some, None, arith}
use Rattle.flatten.proofs.Common.{append-nil, decimal, Option, Wire, Instance, actual_of, climb, name_at, resolved, bound}
use Rattle.flatten.specs.Wires.{printed_at}
use Rattle.flatten.specs.Paths.{numbers}
use Rattle.flatten.specs.Laws.{prefix_of, table_of, ResolvedIsClimbed}

printed_onto : (m path name : List ℕ) → printed_at m path name ≡ printed_at m path [] ++ name
printed_onto m [] name = refl
printed_onto m (k ∷ path) name = rw (append_assoc, append_assoc, ← printed_onto m path name)

printed_inner : (m path : List ℕ) (k : ℕ) (name : List ℕ) → printed_at m (path ++ (k ∷ [])) name ≡ printed_at m path (decimal k ++ (m ++ name))
printed_inner m [] k name = refl
printed_inner m (j ∷ path) k name = rw (printed_inner m path k name)

prefix_is : (m : List ℕ) (path : List Instance) → prefix_of m path ≡ printed_at m (numbers path) []
prefix_is m [] = refl
prefix_is m (o ∷ up) = rw (prefix_is m up, printed_inner m (numbers up) o.number [], append-nil m, ← printed_onto m (numbers up) (decimal o.number ++ m))

own_name : (m : List ℕ) (path : List Instance) (name : List ℕ) → prefix_of m path ++ name ≡ printed_at m (numbers path) name
own_name m path name = rw (prefix_is m path, ← printed_onto m (numbers path) name)

-- what a table of resolved actuals answers
abbrev option_at : {X Y : Type 0} → (X → Y) → Option X → Option Y
option_at f None = None
option_at f (Some x) = Some (f x)

some_of : (f : List ℕ → List ℕ) (b : Bool) (x : List ℕ) (o : Option (List ℕ)) → (if b then Some (f x) else option_at f o) ≡ option_at f (if b then Some x else o)
some_of f b x o = grind arith

actual_bound : (prefix : List ℕ) (table pairs : List (List ℕ × List ℕ)) (name : List ℕ) → actual_of (bound prefix table pairs) name ≡ option_at (λ a. resolved prefix table a) (actual_of pairs name)
actual_bound prefix table [] name = refl
actual_bound prefix table (p ∷ pairs) name = grind (arith, actual_bound prefix table pairs name, some_of)

abbrev wire_by : List Instance → ℕ → List ℕ → Option (List ℕ) → Wire
wire_by up n name (Some actual) = climb up actual
wire_by up n name None = record { path = numbers up ++ (n ∷ []); name = name }

abbrev by_answer : List ℕ → List ℕ → Option (List ℕ) → List ℕ
by_answer prefix name (Some printed) = printed
by_answer prefix name None = prefix ++ name

by_cases : (m : List ℕ) (o : Instance) (up : List Instance) (name : List ℕ) (x : Option (List ℕ)) → ((a : List ℕ) → resolved (prefix_of m up) (table_of m up) a ≡ name_at m up a) → by_answer (prefix_of m (o ∷ up)) name (option_at (λ a. resolved (prefix_of m up) (table_of m up) a) x) ≡ printed_at m (wire_by up o.number name x).path (wire_by up o.number name x).name
by_cases m o up name (Some a) h = h a
by_cases m o up name None h = own_name m (o ∷ up) name

pub resolved_is_climbed : ResolvedIsClimbed
resolved_is_climbed m [] name = refl
resolved_is_climbed m (o ∷ up) name = grind (arith, actual_bound (prefix_of m up) (table_of m up) o.part.pairs name, by_cases m o up name (actual_of o.part.pairs name), resolved_is_climbed m up)
