-- The least vector of a set.
use Rattle.std.proofs.Common.{◌≡◌, ◌==◌, ℕ, Bool, true, false, List, [], ◌∷◌, length, Option, Some, None, refl, sym, ap, ◌∙◌, arith, true≢false}
use Rattle.diagram_decision.proofs.Common.{find, is_none, eqb-true, Node, Arena, den, IsNodeOf, IsLawful, IsLayout, by_variable, vectors, by_column, length-by_column, variables-back, difference, none_passes, found_wide}
use Rattle.std.proofs.lemmas.Bool.{eq-eqb}
use Rattle.bdd_store.specs.Arena.{constant, den_within}
use Rattle.bdd_ops.specs.Least.{IsLeast}
use Rattle.bdd_ops.specs.Operations.{if_then_else}
use Rattle.cyc_base.specs.Vectors.{AtMost}
use Rattle.cyc_base.proofs.VectorLemmas.{find-none}
use Rattle.refusals.proofs.FirstLemmas.{found_passes, found_least}

-- two vectors of one width that are each at most the other
same_vectors : (v w : List Bool) → length v ≡ length w → AtMost v w → AtMost w v → v ≡ w
same_vectors [] [] long there back = refl
same_vectors [] (b ∷ w) long there back = absurd (omega arith)
same_vectors (b ∷ v) [] long there back = absurd (omega arith)
same_vectors (false ∷ v) (false ∷ w) long there back = ap (λ u. false ∷ u) (same_vectors v w (omega arith) there back)
same_vectors (false ∷ v) (true ∷ w) long there back = absurd back
same_vectors (true ∷ v) (false ∷ w) long there back = absurd there
same_vectors (true ∷ v) (true ∷ w) long there back = ap (λ u. true ∷ u) (same_vectors v w (omega arith) there back)

-- the least vector is the first of all
pub least-first : (n : ℕ) (f : List Bool → Bool) (v : List Bool) → length v ≡ n → IsLeast f v → find f (vectors n) ≡ Some v
least-first n f v wide least = by_found (find f (vectors n)) refl
  where
    by_found : (o : Option (List Bool)) → find f (vectors n) ≡ o → find f (vectors n) ≡ Some v
    by_found o is = grind (arith, true≢false, none_passes, found_wide, same_vectors, found_passes, found_least)

-- the constant false finds nothing
pub never-none : (a : Arena) (columns : List ℕ) (n : Node) → n ≡ constant false → find (λ v. den a n (by_variable columns v)) (vectors a.vars) ≡ None
unfolding den_within
never-none a columns n is = find-none a.vars (λ v. den a n (by_variable columns v)) (λ v wide. ap (λ (m : Node). den a m (by_variable columns v)) is)

-- and no other node
pub none-never : (a : Arena) → IsLawful a → (columns : List ℕ) → IsLayout a.vars columns → (n : Node) → IsNodeOf a n → find (λ v. den a n (by_variable columns v)) (vectors a.vars) ≡ None → n ≡ constant false
none-never a lawful columns layout n in_n none =
    lawful.canonical n (constant false) in_n (omega arith) (λ w wide.
    let v : List Bool = by_column columns w in
    ap (den a n) (sym (variables-back a.vars columns layout w wide))
    ∙ none_passes a.vars (λ u. den a n (by_variable columns u)) v none (length-by_column columns w ∙ layout.long)
    ∙ sym (lawful.constants false w))

-- the test for the constant false
pub never_is : (a : Arena) → IsLawful a → (n c : Node) → IsNodeOf a n → c ≡ constant false → (r : Bool) → r ≡ (n.number == c.number) →
    (columns : List ℕ) → IsLayout a.vars columns → r ≡ is_none (find (λ v. den a n (by_variable columns v)) (vectors a.vars))
never_is a lawful n c in_n c_is h is columns layout = grind (arith, eqb-true, never-none, none-never, true≢false, eq-eqb)

-- what the choice of a difference costs
pub difference-is_choice : (a : Arena) (m n never : Node) → never ≡ constant false → (v : List Bool) → if_then_else a n never m v ≡ difference a m n v
unfolding den_within
difference-is_choice a m n never is v = grind arith
