-- Bounds on the number of subfunctions.
use Rattle.std.proofs.Common.{◌≡◌, ℕ, zero, suc, ◌+◌, ◌-◌, ◌^◌, ◌<◌, ◌≤◌, Bool, true, false, not, ◌||◌, ◌⊎◌, inl, inr, List, [], ◌∷◌, ◌++◌, length, drop, map, filter, get_or, Contains, refl, sym, ap, ◌∙◌, arith, length-append, true≢false}
use Rattle.std.proofs.Math.Bool.{or-true}
use Rattle.std.proofs.Math.Nat.{pow-suc}
use Rattle.dual_rail.proofs.Common.{cases_lt, length-map, get_or_append_left, list_all, nodes}
use Rattle.std.proofs.lemmas.Bool.{or_parts}
use Rattle.std.proofs.lemmas.List.{drop_all, append-nil, get_or-append_right, get_or-drop}
use Rattle.std.proofs.lemmas.Map.Keys.{IsDistinct-cons}
use Rattle.std.proofs.lemmas.Map.Made.{length-le_from_is_member, is_member-Decides}
use Rattle.std.specs.Cmp.{IsEquivalence, bool_eq_equiv}
use Rattle.std.specs.Cmp.Lexicographic.{lists_equiv}
use Rattle.std.specs.List.{AllByRecursion, IsDistinct}
use Rattle.std.specs.Set.{is_member, unique_keys}
use Rattle.cyc_base.specs.Vectors.{vectors}
use Rattle.cyc_base.proofs.ListLemmas.{Contains-map, all_append, all_map}
use Rattle.bdd_store.specs.Subfunctions.{fixed, prefixes, table, is_constant}
use Rattle.bdd_store.proofs.SubfunctionLemmas.{prefixes-all, table-alike}
use Rattle.bdd_store.proofs.PigeonholeLemmas.{table_eq, table_decides}

table_laws : IsEquivalence table_eq
table_laws = lists_equiv bool_eq_equiv

-- ---- keys without repeats

module _ {K : Type 0} (eq : K → K → Bool) where
  apart : (x : K) (xs : List K) → is_member eq xs x ≡ false → AllByRecursion (λ y. eq x y ≡ false) (unique_keys eq xs)
  apart x [] h = tt
  apart x (y ∷ ys) h = grind (arith, apart x ys, or_parts (eq x y) (is_member eq ys x) h)

  unique_keys-distinct : (xs : List K) → IsDistinct eq (unique_keys eq xs)
  unfolding IsDistinct
  unique_keys-distinct [] = tt
  unique_keys-distinct (x ∷ xs) = grind (arith, unique_keys-distinct xs, IsDistinct-cons eq x (unique_keys eq xs), apart x xs)

  unique_keys-were : (xs : List K) (q : K) → is_member eq (unique_keys eq xs) q ≡ true → is_member eq xs q ≡ true
  unique_keys-were [] q h = h
  unique_keys-were (x ∷ xs) q h = grind (arith, unique_keys-were xs q, or-true (eq q x))

-- ---- lists of bits

all_vectors : (n : ℕ) (P : List Bool → Type 0) → ((v : List Bool) → length v ≡ n → P v) → AllByRecursion P (vectors n)
all_vectors zero P h = (h [] refl, tt)
all_vectors (suc n) P h =
    let half : (b : Bool) → AllByRecursion P (map (λ v. b ∷ v) (vectors n)) = λ b. all_map P (λ v. b ∷ v) (vectors n) (all_vectors n (λ v. P (b ∷ v)) (λ v e. h (b ∷ v) (ap suc e))) in
    all_append P (map (λ v. false ∷ v) (vectors n)) (map (λ v. true ∷ v) (vectors n)) (half false) (half true)

all_prefixes : (n : ℕ) (P : List Bool → Type 0) → ((p : List Bool) → length p ≤ n → P p) → AllByRecursion P (prefixes n)
all_prefixes zero P h = (h [] (omega arith), tt)
all_prefixes (suc n) P h = all_append P (prefixes n) (vectors (suc n)) (all_prefixes n P (λ p short. h p (omega arith))) (all_vectors (suc n) P (λ v long. h v (omega arith)))

length-vectors : (n : ℕ) → length (vectors n) ≡ 2 ^ n
length-vectors zero = refl
length-vectors (suc n) = grind (arith, length-append, length-map {B = List Bool} (vectors n), length-vectors n, pow-suc 2 n)

length-prefixes : (n : ℕ) → length (prefixes n) + 1 ≡ 2 ^ suc n
length-prefixes zero = refl
length-prefixes (suc n) = omega (arith, length-append (prefixes n) (vectors (suc n)), length-prefixes n, length-vectors (suc n), pow-suc 2 (suc n))

-- ---- nodes

abbrev varying : List (List Bool) → List (List Bool)
varying = filter (λ t. not (is_constant t))

abbrev IsAmong : List (List Bool) → List Bool → Type 0
IsAmong ts t = is_constant t ≡ false → Contains ts t

among : (ts xs : List (List Bool)) → AllByRecursion (IsAmong ts) xs → (q : List Bool) → is_member table_eq (varying xs) q ≡ true → Contains ts q
among ts [] a q m = absurd (true≢false (sym m))
among ts (x ∷ xs) a q m = grind (arith, among ts xs a.1 q, table_decides q x)

-- a list that has each table but the constant ones is at least as long
pub nodes-at_most : (vars : ℕ) (f : List Bool → Bool) (ts : List (List Bool)) → ((p : List Bool) → length p ≤ vars → IsAmong ts (table vars (fixed f p))) → nodes vars f ≤ length ts
unfolding nodes
nodes-at_most vars f ts all =
    let tables : List (List Bool) = map (λ p. table vars (fixed f p)) (prefixes vars) in
    let each : AllByRecursion (IsAmong ts) (map (λ p. table vars (fixed f p)) (prefixes vars)) = all_map (IsAmong ts) (λ p. table vars (fixed f p)) (prefixes vars) (all_prefixes vars (λ p. IsAmong ts (table vars (fixed f p))) all) in
    length-le_from_is_member table_laws (unique_keys table_eq (varying (map (λ p. table vars (fixed f p)) (prefixes vars)))) ts (unique_keys-distinct table_eq (varying (map (λ p. table vars (fixed f p)) (prefixes vars))))
    (λ q m. (is_member-Decides table_decides ts q).1 (among ts (map (λ p. table vars (fixed f p)) (prefixes vars)) each q (unique_keys-were table_eq (varying (map (λ p. table vars (fixed f p)) (prefixes vars))) q m)))

-- ---- constants

all_of : (b : Bool) (vs : List (List Bool)) → is_constant (map (λ v. b) vs) ≡ true
all_of true vs = ap (λ c. c || list_all not (map (λ v. true) vs)) (trues vs)
  where
    trues : (ws : List (List Bool)) → list_all (λ c. c) (map (λ w. true) ws) ≡ true
    trues [] = refl
    trues (w ∷ ws) = trues ws
all_of false vs = ap (λ c. list_all (λ d. d) (map (λ v. false) vs) || c) (falses vs) ∙ or-true (list_all (λ d. d) (map (λ v. false) vs))
  where
    falses : (ws : List (List Bool)) → list_all not (map (λ w. false) ws) ≡ true
    falses [] = refl
    falses (w ∷ ws) = falses ws

constant_table : (vars : ℕ) (f : List Bool → Bool) (b : Bool) → ((bits : List Bool) → length bits ≡ vars → f bits ≡ b) → is_constant (table vars f) ≡ true
unfolding table
constant_table vars f b h = ap is_constant (table-alike vars f (λ bits. b) h) ∙ all_of b (vectors vars)

-- at most one less than two to the power of the number of variables
pub nodes-below_power : (vars : ℕ) (f : List Bool → Bool) → nodes vars f ≤ 2 ^ vars - 1
nodes-below_power zero f = nodes-at_most zero f [] (λ p short varies. absurd (true≢false (sym (constant_table zero (fixed f p) (f p) (λ bits len. ap f (whole p bits short len))) ∙ varies)))
  where
    whole : (p bits : List Bool) → length p ≤ 0 → length bits ≡ 0 → p ++ drop (length p) bits ≡ p
    whole p bits short len = ap (λ l. p ++ l) (drop_all (length p) bits (omega arith)) ∙ append-nil p
nodes-below_power (suc n) f =
    let ts : List (List Bool) = map (λ p. table (suc n) (fixed f p)) (prefixes n) in
    let most = nodes-at_most (suc n) f (map (λ p. table (suc n) (fixed f p)) (prefixes n)) (λ p short varies. by p (cases_lt (length p) (suc n)) short varies) in
    omega (arith, most, length-map {B = List Bool} (prefixes n) (λ p. table (suc n) (fixed f p)), length-prefixes n)
  where
    by : (p : List Bool) → (length p < suc n) ⊎ (suc n ≤ length p) → length p ≤ suc n → IsAmong (map (λ q. table (suc n) (fixed f q)) (prefixes n)) (table (suc n) (fixed f p))
    by p (inl less) short varies = Contains-map (λ q. table (suc n) (fixed f q)) (prefixes n) p (prefixes-all n p (omega arith))
    by p (inr all) short varies = absurd (true≢false (sym (constant_table (suc n) (fixed f p) (f p) (λ bits len. ap f (ap (λ l. p ++ l) (drop_all (length p) bits (omega arith)) ∙ append-nil p))) ∙ varies))

-- a variable or its complement has one
pub nodes-of_bit : (vars v : ℕ) (g : Bool → Bool) → nodes vars (λ bits. g (get_or bits v false)) ≤ 1
nodes-of_bit vars v g = nodes-at_most vars bit_function (table vars bit_function ∷ []) (λ p short varies. by p (cases_lt v (length p)) varies)
  where
    bit_function : List Bool → Bool
    bit_function = λ bits. g (get_or bits v false)

    by : (p : List Bool) → (v < length p) ⊎ (length p ≤ v) → IsAmong (table vars (λ bits. g (get_or bits v false)) ∷ []) (table vars (fixed (λ bits. g (get_or bits v false)) p))
    by p (inl less) varies = absurd (true≢false (sym (constant_table vars (fixed (λ bits. g (get_or bits v false)) p) (g (get_or p v false)) (λ bits len. ap g (get_or_append_left p (drop (length p) bits) false v less))) ∙ varies))
    by p (inr more) varies = (zero, omega arith, table-alike vars (λ bits. g (get_or bits v false)) (fixed (λ bits. g (get_or bits v false)) p) (λ bits len. ap g (sym (get_or-append_right p (drop (length p) bits) (length p) v false refl more ∙ get_or-drop (length p) bits (v - length p) false ∙ ap (λ n. get_or bits n false) (sum (length p) more)))))
      where
        sum : (n : ℕ) → n ≤ v → n + (v - n) ≡ v
        sum n h = omega arith
