-- Climbing stays within the names of the file, so printed names tell wires.
use Rattle.std.proofs.Common.{ℕ, ◌^◌, ◌<◌, Bool, List, [], ◌∷◌, ◌++◌, cond, All, Contains, Some, None, arith}
use Rattle.flatten.proofs.Common.{All-head, All-tail, bytes_eq, Option, Wire, Instance, actual_of, climb}
use Rattle.flatten.specs.Paths.{numbers}
use Rattle.flatten.specs.Laws.{BindsAmong, NamesTellWires}
use Rattle.flatten.proofs.Printing.{AreNumbers, printed_differs}

abbrev InFile : List (List ℕ) → Option (List ℕ) → Type 0
InFile names None = Unit {0}
InFile names (Some a) = Contains names a

one_in : (names : List (List ℕ)) (b : Bool) (a : List ℕ) (x : Option (List ℕ)) → Contains names a → InFile names x → InFile names (cond b (Some a) x)
one_in names b a x h i = grind arith

actual_in : (names : List (List ℕ)) (pairs : List (List ℕ × List ℕ)) (name : List ℕ) → All (λ p. Contains names p.1) pairs → InFile names (actual_of pairs name)
actual_in names [] name h = tt
actual_in names (p ∷ pairs) name h =
    let P : (List ℕ × List ℕ) → Type 0 = λ q. Contains names q.1 in
    one_in names (bytes_eq name p.0) p.1 (actual_of pairs name) (All-head P p pairs h) (actual_in names pairs name (All-tail P p pairs h))

numbers_push : (path : List ℕ) (k : ℕ) → AreNumbers path → k < 2 ^ 64 → AreNumbers (path ++ (k ∷ []))
numbers_push [] k h l = (l, tt)
numbers_push (j ∷ path) k h l = (h.0, numbers_push path k h.1 l)

numbers_fit : (names : List (List ℕ)) (path : List Instance) → BindsAmong names path → AreNumbers (numbers path)
numbers_fit names [] h = tt
numbers_fit names (o ∷ up) h = numbers_push (numbers up) o.number (numbers_fit names up h.2) h.0

abbrev Fine : List (List ℕ) → Wire → Type 0
Fine names w = Contains names w.name × AreNumbers w.path

abbrev reached : List Instance → ℕ → List ℕ → Option (List ℕ) → Wire
reached up n name (Some actual) = climb up actual
reached up n name None = record { path = numbers up ++ (n ∷ []); name = name }

by_cases : (names : List (List ℕ)) (up : List Instance) (n : ℕ) (name : List ℕ) (x : Option (List ℕ)) → InFile names x → n < 2 ^ 64 → BindsAmong names up → Contains names name → ((a : List ℕ) → Contains names a → Fine names (climb up a)) → Fine names (reached up n name x)
by_cases names up n name (Some a) i l h one ih = ih a i
by_cases names up n name None i l h one ih = (one, numbers_push (numbers up) n (numbers_fit names up h) l)

climb_fine : (names : List (List ℕ)) (path : List Instance) (name : List ℕ) → BindsAmong names path → Contains names name → Fine names (climb path name)
climb_fine names [] name h one = (one, tt)
climb_fine names (o ∷ up) name h one =
    by_cases names up o.number name (actual_of o.part.pairs name) (actual_in names o.part.pairs name h.1) h.0 h.2 one (λ a i. climb_fine names up a h.2 i)

pub names_tell : NamesTellWires
names_tell names p q v w hp hq hv hw e = grind (arith, climb_fine names p v hp hv, climb_fine names q w hq hw, printed_differs names (climb p v) (climb q w))
