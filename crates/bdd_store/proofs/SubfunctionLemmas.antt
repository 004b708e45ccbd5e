-- Functions of bits with their first bits fixed, and their tables.
use Rattle.std.proofs.Common.{◌≡◌, ℕ, zero, suc, ◌≤◌, Bool, true, false, List, [], ◌∷◌, ◌++◌, length, drop, map, Contains, refl, ap, ◌∙◌, arith, append_assoc, length-append, length-drop, true≢false}
use Rattle.std.proofs.lemmas.List.{drop_all, append-nil, drop-append-le}
use Rattle.std.proofs.lemmas.Slice.{drop-append-drop}
use Rattle.std.proofs.Math.Bool.{not-not}
use Rattle.bdd_store.proofs.Common.{and_parts, cases_lt, AllByRecursion, table, is_constant, nodes, IsPart}
use Rattle.std.proofs.lemmas.List.Elements.{All-contains, All-from_recursion, Contains-append_left, Contains-append_right}
use Rattle.std.specs.List.{list_all}
use Rattle.cyc_base.specs.Vectors.{vectors}
use Rattle.cyc_base.proofs.ListLemmas.{Contains-here, all_append, all_map, all_weaker}
use Rattle.cyc_base.proofs.VectorLemmas.{Contains-vectors}
use Rattle.bdd_store.specs.Subfunctions.{fixed, prefixes}

-- ---- parts

pub IsPart-whole : (vars : ℕ) (f : List Bool → Bool) → IsPart vars f f
IsPart-whole vars f = record { first = []; short = omega arith; same = λ bits len. refl }

pub IsPart-alike : {vars : ℕ} {f g h : List Bool → Bool} → IsPart vars f g → ((bits : List Bool) → length bits ≡ vars → h bits ≡ g bits) → IsPart vars f h
IsPart-alike p same = record { first = p.first; short = p.short; same = λ bits len. same bits len ∙ p.same bits len }

-- the length of a list whose first bits are fixed
pub length-fixed : (vars : ℕ) (p bits : List Bool) → length p ≤ vars → length bits ≡ vars → length (p ++ drop (length p) bits) ≡ vars
length-fixed vars p bits short len = omega (arith, length-append p (drop (length p) bits), length-drop (length p) bits)

pub IsPart-of_alike : {vars : ℕ} {f e g : List Bool → Bool} → IsPart vars f g → ((bits : List Bool) → length bits ≡ vars → f bits ≡ e bits) → IsPart vars e g
IsPart-of_alike {vars} p same = record { first = p.first; short = p.short; same = λ bits len. p.same bits len ∙ same (p.first ++ drop (length p.first) bits) (length-fixed vars p.first bits p.short len) }

-- fixing q's bits and then p's is fixing p's and the rest of q's
fixed_twice : (p q bits : List Bool) → p ++ drop (length p) (q ++ drop (length q) bits) ≡ (p ++ drop (length p) q) ++ drop (length (p ++ drop (length p) q)) bits
fixed_twice p q bits = grind (arith, cases_lt, drop-append-drop, drop_all, append-nil, drop-append-le, length-append, length-drop, append_assoc)

-- a part of a part is a part
pub IsPart-chain : {vars : ℕ} {f g h : List Bool → Bool} → IsPart vars f g → IsPart vars g h → IsPart vars f h
IsPart-chain {vars} {f} p q = grind (arith, length-append p.first (drop (length p.first) q.first), length-drop (length p.first) q.first, length-fixed vars q.first, fixed_twice p.first q.first)

-- ---- lists of bits

pub prefixes-all : (n : ℕ) (p : List Bool) → length p ≤ n → Contains (prefixes n) p
prefixes-all zero [] h = Contains-here [] []
prefixes-all zero (b ∷ p) h = absurd (omega arith)
prefixes-all (suc n) p h = grind (arith, cases_lt (length p) (suc n), Contains-append_left (prefixes n) (vectors (suc n)) p, prefixes-all n p, Contains-append_right (prefixes n) (vectors (suc n)) p, Contains-vectors (suc n) p)

-- ---- tables

map-alike_all : {X Y : Type 0} (f g : X → Y) (xs : List X) → AllByRecursion (λ x. f x ≡ g x) xs → map f xs ≡ map g xs
map-alike_all f g [] h = refl
map-alike_all f g (x ∷ xs) h = λ j. h.0 j ∷ map-alike_all f g xs h.1 j

all-map_alike : {X Y : Type 0} (f g : X → Y) (xs : List X) → map f xs ≡ map g xs → AllByRecursion (λ x. f x ≡ g x) xs
all-map_alike f g [] e = tt
all-map_alike f g (x ∷ xs) e = (cc, all-map_alike f g xs (cc))

-- functions of one table have one value at each list of bits
pub alike-from_table : (n : ℕ) (f g : List Bool → Bool) → table n f ≡ table n g → (bits : List Bool) → length bits ≡ n → f bits ≡ g bits
unfolding table
alike-from_table n f g e bits len = All-contains (λ v. f v ≡ g v) (vectors n) bits (All-from_recursion (λ v. f v ≡ g v) (vectors n) (all-map_alike f g (vectors n) e)) (Contains-vectors n bits len)

vectors-long : (n : ℕ) → AllByRecursion (λ v. length v ≡ n) (vectors n)
vectors-long zero = (refl, tt)
vectors-long (suc n) =
    let longer : (b : Bool) → AllByRecursion (λ v. length v ≡ suc n) (map (λ v. b ∷ v) (vectors n)) = λ b. all_map (λ v. length v ≡ suc n) (λ v. b ∷ v) (vectors n) (all_weaker (λ v. length v ≡ n) (λ v. length (b ∷ v) ≡ suc n) (vectors n) (λ v e. ap suc e) (vectors-long n)) in
    all_append (λ v. length v ≡ suc n) (map (λ v. false ∷ v) (vectors n)) (map (λ v. true ∷ v) (vectors n)) (longer false) (longer true)

-- and the other way round
pub table-alike : (n : ℕ) (f g : List Bool → Bool) → ((bits : List Bool) → length bits ≡ n → f bits ≡ g bits) → table n f ≡ table n g
unfolding table
table-alike n f g h = map-alike_all f g (vectors n) (all_weaker (λ v. length v ≡ n) (λ v. f v ≡ g v) (vectors n) h (vectors-long n))

prefixes-short : (n : ℕ) → AllByRecursion (λ v. length v ≤ n) (prefixes n)
prefixes-short zero = (omega arith, tt)
prefixes-short (suc n) = all_append (λ v. length v ≤ suc n) (prefixes n) (vectors (suc n)) (all_weaker (λ v. length v ≤ n) (λ v. length v ≤ suc n) (prefixes n) (λ v h. omega arith) (prefixes-short n)) (all_weaker (λ v. length v ≡ suc n) (λ v. length v ≤ suc n) (vectors (suc n)) (λ v h. omega arith) (vectors-long (suc n)))

-- functions with one value at each list of bits have as many nodes
pub nodes-alike : (n : ℕ) (f g : List Bool → Bool) → ((bits : List Bool) → length bits ≡ n → f bits ≡ g bits) → nodes n f ≡ nodes n g
unfolding nodes
nodes-alike n f g h = grind (arith, map-alike_all, all_weaker, table-alike, length-fixed, prefixes-short)

-- a constant table is that of a constant function
all_alike : {X : Type 0} (test : Bool → Bool) (b : Bool) → ((c : Bool) → test c ≡ true → c ≡ b) → (f : X → Bool) (xs : List X) → list_all test (map f xs) ≡ true → map f xs ≡ map (λ x. b) xs
all_alike test b only f [] h = refl
all_alike test b only f (x ∷ xs) h = grind (arith, and_parts, all_alike test b only f xs)

pub constant_value : (n : ℕ) (f : List Bool → Bool) → is_constant (table n f) ≡ true → (b : Bool) × (table n f ≡ table n (λ bits. b))
unfolding table
constant_value n f h = grind (arith, all_alike, not-not, true≢false)
