-- Numbers of sweeps on the vectors of a care set.
use Rattle.std.proofs.Common.{◌≡◌, ℕ, zero, suc, ◌<◌, ◌≤◌, Bool, true, false, List, [], ◌∷◌, length, get_or, refl, sym, ap, ◌∙◌, subst, arith}
use Rattle.diagram_decision.proofs.Common.{length-map, Node, Arena, den, IsLayout, Trit, bits, Rails, values_of, Parts, Loops, IsCountOfSweeps, map_agree, CareSet, columns, is_care_vector, Tells, AreColumnVectors, AreColumns, order, laid, by_column, length-by_column, variables-back, order-is, Vectors, are_care_values, care_vector_is}
use Rattle.bdd_store.specs.declared.node.Entry.{Entry}
use Rattle.bdd_store.specs.Arena.{index, is_marked, flipped, den_within}
use Rattle.bdd_store.specs.Soundness.{IsSound}
use Rattle.loops.specs.Sweeps.{CutsAreFixed}
use Rattle.loop_simulation.proofs.NeededLemmas.{care-values, bits-of-care}
use Rattle.diagram_decision.specs.Solving.{fit}

-- ---- lists of any length

pub length-fit : (n : ℕ) (bs : List Bool) → length (fit n bs) ≡ n
unfolding fit
length-fit zero bs = refl
length-fit (suc n) [] = ap suc (length-fit n [])
length-fit (suc n) (b ∷ bs) = ap suc (length-fit n bs)

get_or-fit : (n : ℕ) (bs : List Bool) (i : ℕ) → i < n → get_or (fit n bs) i false ≡ get_or bs i false
unfolding fit
get_or-fit zero bs i inside = absurd (omega (arith, inside))
get_or-fit (suc n) [] zero inside = refl
get_or-fit (suc n) [] (suc i) inside = get_or-fit n [] i (omega (arith, inside))
get_or-fit (suc n) (b ∷ bs) zero inside = refl
get_or-fit (suc n) (b ∷ bs) (suc i) inside = get_or-fit n bs i (omega (arith, inside))

pub fit-whole : (n : ℕ) (bs : List Bool) → length bs ≡ n → fit n bs ≡ bs
unfolding fit
fit-whole zero [] long = refl
fit-whole zero (b ∷ bs) long = absurd (omega (arith, long))
fit-whole (suc n) [] long = absurd (omega (arith, long))
fit-whole (suc n) (b ∷ bs) long = ap (λ l. b ∷ l) (fit-whole n bs (omega (arith, long)))

-- a node reads the bits at variables of its store alone
within-fit : (vars : ℕ) (es : List Entry) → IsSound vars es → (bs : List Bool) (k i : ℕ) → den_within k es i (fit vars bs) ≡ den_within k es i bs
unfolding den_within
within-fit vars es sound bs zero i = refl
within-fit vars es sound bs (suc k) zero = refl
within-fit vars es sound bs (suc k) (suc p) = grind (arith, within-fit vars es sound bs k, get_or-fit vars bs)

den-fit : (a : Arena) → IsSound a.vars a.entries → (n : Node) (bs : List Bool) → den a n (fit a.vars bs) ≡ den a n bs
den-fit a sound n bs = ap (flipped (is_marked n)) (within-fit a.vars a.entries sound bs (suc (index n)) (index n))

pub values_of-fit : (a : Arena) → IsSound a.vars a.entries → (rails : List Rails) (bs : List Bool) → values_of a rails (fit a.vars bs) ≡ values_of a rails bs
values_of-fit a sound rails bs = grind (arith, map_agree, den-fit a sound)

pub column-vectors : (net : Parts) (a : Arena) (given : List Rails) → IsSound a.vars a.entries → a.vars ≡ columns net → AreColumns a (order net) given → AreColumnVectors net (values_of a given)
column-vectors net a given sound vars are = grind (arith, length-map {B = Trit} given, values_of-fit a sound given)

-- a number of sweeps on the vectors of a set is one on care
pub count-on-care : (net : Parts) (care : CareSet) (loops : Loops) (a : Arena) (points : Vectors) (set : Node) (gate k : ℕ) → IsSound a.vars a.entries → AreColumnVectors net points → a.vars ≡ columns net →
    Tells net a set (is_care_vector net care) →
    ((bs : List Bool) → den a set bs ≡ true → CutsAreFixed net loops (points bs) gate k) →
    ((j : ℕ) → ((bs : List Bool) → den a set bs ≡ true → CutsAreFixed net loops (points bs) gate j) → k ≤ j) →
    IsCountOfSweeps net loops (are_care_values net care) gate k
count-on-care net care loops a points set gate k sound are vars told enough least = record {
  enough = λ v is.
      let b = bits-of-care net care v is in
      subst (λ (u : List Trit). CutsAreFixed net loops u gate k) (are.laid_are b.vector b.counts.width ∙ sym b.is)
      (enough (laid net b.vector) (told.value b.vector (b.counts.width ∙ sym vars) ∙ care_vector_is net care b.vector b.counts));
  least = λ j fixed. least j (λ bs is.
      let u : List Bool = fit a.vars bs in
      let layout : IsLayout a.vars (order net) = subst (λ n. IsLayout n (order net)) (sym vars) (order-is net) in
      let w : List Bool = by_column (order net) u in
      let wide : length w ≡ a.vars = length-by_column (order net) u ∙ layout.long in
      let back : laid net w ≡ u = variables-back a.vars (order net) layout u (length-fit a.vars bs) in
      let counts : is_care_vector net care w ≡ true = sym (told.value w wide) ∙ ap (den a set) back ∙ den-fit a sound set bs ∙ is in
      subst (λ (x : List Trit). CutsAreFixed net loops x gate j) (sym (are.laid_are w (wide ∙ vars)) ∙ ap points back ∙ ap (λ (n : ℕ). points (fit n bs)) vars ∙ are.fit_are bs) (fixed (bits w) (care-values net care w (wide ∙ vars) counts)));
}
