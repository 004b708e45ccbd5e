-- Different parts of a function are at most as many as its `nodes`: one count of distinct tables.
use Rattle.std.proofs.Common.{◌≡◌, ℕ, ◌≤◌, Bool, true, false, not, ◌&&◌, ◌||◌, List, [], ◌∷◌, length, map, filter, Contains, refl, sym, subst, ◌∙◌, arith}
use Rattle.std.proofs.lemmas.List.Elements.{All-contains, All-from_recursion}
use Rattle.std.proofs.lemmas.Map.Made.{length-le_from_is_member, is_member-filter, is_member-Decides, alike_from_same}
use Rattle.std.specs.Bool.{beq, Decides}
use Rattle.std.specs.Cmp.{IsEquivalence, bool_eq_equiv, booleans_Decides}
use Rattle.std.specs.Cmp.Lexicographic.{pointwise, lists_equiv, pointwise_decides}
use Rattle.bdd_store.proofs.Common.{AllByRecursion, table, is_constant, nodes, IsPart}
use Rattle.std.specs.List.{IsDistinct}
use Rattle.std.specs.Set.{is_member, unique_keys}
use Rattle.std.proofs.lemmas.Bool.{false_from_ne_true}
use Rattle.cyc_base.proofs.ListLemmas.{Contains-map}
use Rattle.bdd_store.specs.Subfunctions.{fixed, prefixes}
use Rattle.bdd_store.proofs.SubfunctionLemmas.{prefixes-all, alike-from_table, table-alike}

abbrev pub table_eq : List Bool → List Bool → Bool
table_eq = pointwise beq

table_laws : IsEquivalence table_eq
table_laws = lists_equiv bool_eq_equiv

pub table_decides : (s t : List Bool) → Decides (table_eq s t) (s ≡ t)
table_decides s t = pointwise_decides booleans_Decides s t

abbrev pub counted : ℕ → (List Bool → Bool) → List (List Bool)
counted vars f = filter (λ t. not (is_constant t)) (map (λ p. table vars (fixed f p)) (prefixes vars))

module _ {K : Type 0} {eq : K → K → Bool} (laws : IsEquivalence eq) where
  member_alike : (q x : K) (xs : List K) → eq q x ≡ true → is_member eq xs q ≡ is_member eq xs x
  member_alike q x [] h = refl
  member_alike q x (y ∷ ys) h = λ j. laws.congr q x y h j || member_alike q x ys h j

  -- a list and its keys have the same members
  unique_keys-member : (xs : List K) (q : K) → is_member eq xs q ≡ true → is_member eq (unique_keys eq xs) q ≡ true
  unique_keys-member [] q h = h
  unique_keys-member (x ∷ xs) q h = grind (arith, unique_keys-member xs q, member_alike)

-- distinct tables that are counted are no more than `nodes`
pub nodes-at_least : (vars : ℕ) (f : List Bool → Bool) (ts : List (List Bool)) → IsDistinct table_eq ts → AllByRecursion (λ t. is_member table_eq (counted vars f) t ≡ true) ts → length ts ≤ nodes vars f
unfolding nodes
nodes-at_least vars f ts distinct all =
    length-le_from_is_member table_laws ts (unique_keys table_eq (counted vars f)) distinct
    (λ q m. unique_keys-member table_laws (counted vars f) q (All-contains (λ t. is_member table_eq (counted vars f) t ≡ true) ts q (All-from_recursion (λ t. is_member table_eq (counted vars f) t ≡ true) ts all) ((is_member-Decides table_decides ts q).0 m)))

-- a part that is no constant is counted
pub counted-part : (vars : ℕ) (f g : List Bool → Bool) → IsPart vars f g → is_constant (table vars g) ≡ false → is_member table_eq (counted vars f) (table vars g) ≡ true
counted-part vars f g p varies =
    let tables = map (λ q. table vars (fixed f q)) (prefixes vars) in
    let there : Contains tables (table vars (fixed f p.first)) = Contains-map (λ q. table vars (fixed f q)) (prefixes vars) p.first (prefixes-all vars p.first p.short) in
    let here : Contains tables (table vars g) = subst (λ (t : List Bool). Contains tables t) (sym (table-alike vars g (fixed f p.first) p.same)) there in
    is_member-filter table_laws (λ t. not (is_constant t)) (table vars g) (λ t e. alike_from_same table_decides (λ u. not (is_constant u)) (table vars g) t e) tables
    ∙ (λ j. (is_member-Decides table_decides tables (table vars g)).1 here j && not (varies j))

-- different functions have different tables
pub tables_apart : (vars : ℕ) (g h : List Bool → Bool) → (((bits : List Bool) → length bits ≡ vars → g bits ≡ h bits) → ⊥) → table_eq (table vars g) (table vars h) ≡ false
tables_apart vars g h differ = false_from_ne_true _ (λ e. differ (alike-from_table vars g h ((table_decides (table vars g) (table vars h)).0 e)))
