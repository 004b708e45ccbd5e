-- A Boolean function of a list of bits with its first bits fixed, and how many such functions there are.
use Rattle.std.specs.Prelude.{◌≡◌, ℕ, zero, suc, ◌≤◌, Bool, not, ◌||◌, List, [], ◌∷◌, ◌++◌, length, drop, map, filter}
use Rattle.std.specs.List.{list_all}
use Rattle.std.specs.Set.{distinct_count}
use Rattle.std.specs.Bool.{beq}
use Rattle.std.specs.Cmp.Lexicographic.{pointwise}
use Rattle.cyc_base.specs.Vectors.{vectors}

-- f, with its first bits fixed as in p
abbrev pub fixed : (List Bool → Bool) → List Bool → List Bool → Bool
fixed f p bits = f (p ++ drop (length p) bits)

-- all lists of at most so many bits
abbrev pub prefixes : ℕ → List (List Bool)
prefixes zero = [] ∷ []
prefixes (suc n) = prefixes n ++ vectors (suc n)

-- the function's values at all lists of so many bits
unfoldable pub table : ℕ → (List Bool → Bool) → List Bool
table vars f = map f (vectors vars)

-- all values are the same
abbrev pub is_constant : List Bool → Bool
is_constant t = list_all (λ b. b) t || list_all not t

-- how many functions, without the constants, f gives with its first bits fixed in all ways
unfoldable pub nodes : ℕ → (List Bool → Bool) → ℕ
nodes vars f = distinct_count (pointwise beq) (filter (λ t. not (is_constant t)) (map (λ p. table vars (fixed f p)) (prefixes vars)))

-- g is f with some first bits fixed
pub record IsPart (vars : ℕ) (f g : List Bool → Bool) : Type 0 where
  pub first : List Bool
  pub short : length first ≤ vars
  pub same : (bits : List Bool) → length bits ≡ vars → g bits ≡ fixed f first bits

-- f and g have one value at each list of so many bits
abbrev pub Alike : ℕ → (List Bool → Bool) → (List Bool → Bool) → Type 0
Alike vars f g = (bits : List Bool) → length bits ≡ vars → f bits ≡ g bits
