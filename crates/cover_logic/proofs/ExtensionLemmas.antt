-- The exact extension is what all completions agree on, and so it keeps the order.
use Rattle.std.proofs.Common.{◌≡◌, Bool, true, false, not, cond, ◌&&◌, List, [], ◌∷◌, ◌++◌, map, refl, ap, sym, ◌∙◌, true≢false, ℕ, zero, suc, set, get_or, ◌↔◌, arith}
use Rattle.std.specs.List.{list_all}
use Rattle.std.proofs.lemmas.Bool.{and_parts, and_from, not-true, not_from_false}
use Rattle.std.proofs.lemmas.List.Folds.{list_all-append, list_all-map}
use Rattle.cyc_base.specs.declared.trit.Trit.{Trit}
use Rattle.cyc_base.specs.declared.trit.Trit.TheVariants.{Zero, One, X}
use Rattle.cyc_base.specs.Values.{bit, bits, Below, EachBelow, Completes}
use Rattle.cyc_base.proofs.OrderLemmas.{Below-refl, Below-trans, Below-from, Below-at, same_bit, EachBelow-trans, above_bits}
use Rattle.cover_logic.specs.Covers.{Cover, value}
use Rattle.cover_logic.specs.Extensions.{completions, exact, ext}
use Rattle.cover_logic.specs.Laws.{ExtIsExact, ExtAtBits, IsMonotone, IsBelowValue, IsMostInformative, ValueIsMonotone}

-- with one more pin that is X, a test goes over two lists
both_listed : (f : List Bool → Bool) (xs : List (List Bool)) → list_all f (map (λ bs. false ∷ bs) xs ++ map (λ bs. true ∷ bs) xs) ≡ (list_all (λ bs. f (false ∷ bs)) xs && list_all (λ bs. f (true ∷ bs)) xs)
both_listed f xs = simp (list_all-append, list_all-map)

-- a test that passes at every listed completion passes at every list above
pub passes_above : (f : List Bool → Bool) (trits : List Trit) → list_all f (completions trits) ≡ true → (bs : List Bool) → Completes trits bs → f bs ≡ true
passes_above f [] h [] c = (and_parts (f []) true h).0
passes_above f [] h (b ∷ bs) c = absurd c
passes_above f (Zero ∷ trits) h [] c = absurd c
passes_above f (One ∷ trits) h [] c = absurd c
passes_above f (X ∷ trits) h [] c = absurd c
passes_above f (Zero ∷ trits) h (true ∷ bs) c = let e = c.0 in cc
passes_above f (Zero ∷ trits) h (false ∷ bs) c =
    passes_above (λ r. f (false ∷ r)) trits (rw list_all-map at h) bs c.1
passes_above f (One ∷ trits) h (false ∷ bs) c = let e = c.0 in cc
passes_above f (One ∷ trits) h (true ∷ bs) c =
    passes_above (λ r. f (true ∷ r)) trits (rw list_all-map at h) bs c.1
passes_above f (X ∷ trits) h (false ∷ bs) c =
    passes_above (λ r. f (false ∷ r)) trits (and_parts _ _ (sym (both_listed f (completions trits)) ∙ h)).0 bs c.1
passes_above f (X ∷ trits) h (true ∷ bs) c =
    passes_above (λ r. f (true ∷ r)) trits (and_parts _ _ (sym (both_listed f (completions trits)) ∙ h)).1 bs c.1

-- and the other way round
pub passes_listed : (f : List Bool → Bool) (trits : List Trit) → ((bs : List Bool) → Completes trits bs → f bs ≡ true) → list_all f (completions trits) ≡ true
passes_listed f [] h = and_from (f []) true (h [] tt) refl
passes_listed f (Zero ∷ trits) h =
    rw list_all-map (passes_listed (λ r. f (false ∷ r)) trits (λ bs c. h (false ∷ bs) (refl, c)))
passes_listed f (One ∷ trits) h =
    rw list_all-map (passes_listed (λ r. f (true ∷ r)) trits (λ bs c. h (true ∷ bs) (refl, c)))
passes_listed f (X ∷ trits) h =
    both_listed f (completions trits)
    ∙ and_from _ _
    (passes_listed (λ r. f (false ∷ r)) trits (λ bs c. h (false ∷ bs) (tt, c)))
    (passes_listed (λ r. f (true ∷ r)) trits (λ bs c. h (true ∷ bs) (tt, c)))

pub some_completion : (trits : List Trit) → (bs : List Bool) × Completes trits bs
some_completion [] = ([], tt)
some_completion (Zero ∷ trits) = (false ∷ (some_completion trits).0, (refl, (some_completion trits).1))
some_completion (One ∷ trits) = (true ∷ (some_completion trits).0, (refl, (some_completion trits).1))
some_completion (X ∷ trits) = (true ∷ (some_completion trits).0, (tt, (some_completion trits).1))

at_one : (a b : Bool) → cond a One (cond b Zero X) ≡ One → a ≡ true
at_one a b e = grind arith

at_zero : (a b : Bool) → cond a One (cond b Zero X) ≡ Zero → b ≡ true
at_zero a b e = grind arith

gives_one : (a b : Bool) → a ≡ true → cond a One (cond b Zero X) ≡ One
gives_one a b e = grind arith

gives_zero : (a b : Bool) → (a ≡ true → ⊥) → b ≡ true → cond a One (cond b Zero X) ≡ Zero
gives_zero a b n e = grind arith

pub exact_says : (f : List Bool → Bool) (trits : List Trit) (b : Bool) → exact f trits ≡ bit b → (bs : List Bool) → Completes trits bs → f bs ≡ b
exact_says f trits b e bs c = grind (arith, passes_above, at_one, not-true, at_zero)

pub exact_from : (f : List Bool → Bool) (trits : List Trit) (b : Bool) → ((bs : List Bool) → Completes trits bs → f bs ≡ b) → exact f trits ≡ bit b
exact_from f trits true h = gives_one _ _ (passes_listed f trits h)
exact_from f trits false h =
    let some = some_completion trits in
    gives_zero _ _
    (λ all. true≢false (sym (passes_above f trits all some.0 some.1) ∙ h some.0 some.1))
    (passes_listed (λ r. not (f r)) trits (λ bs c. not_from_false (f bs) (h bs c)))

-- ---- of any Boolean function

pub exact_at_bits : (f : List Bool → Bool) (bs : List Bool) → exact f (bits bs) ≡ bit (f bs)
exact_at_bits f bs = exact_from f (bits bs) (f bs) (λ cs c. ap f (above_bits bs cs c))

pub exact_monotone : (f : List Bool → Bool) (low high : List Trit) → EachBelow low high → Below (exact f low) (exact f high)
exact_monotone f low high h =
    Below-from (exact f low) (exact f high)
    (λ b e. exact_from f high b (λ bs c. exact_says f low b e bs (EachBelow-trans low high (bits bs) h c)))

-- below the function at each completion
pub exact_below : (f : List Bool → Bool) (trits : List Trit) (bs : List Bool) → Completes trits bs → Below (exact f trits) (bit (f bs))
exact_below f trits bs c =
    Below-from (exact f trits) (bit (f bs)) (λ b e. ap bit (exact_says f trits b e bs c))

-- a value that is below the function at each completion is below the extension
pub exact_above : (f : List Bool → Bool) (trits : List Trit) (x : Trit) → ((bs : List Bool) → Completes trits bs → Below x (bit (f bs))) → Below x (exact f trits)
exact_above f trits x h = grind (arith, Below-from, exact_from, same_bit, Below-at)

-- ---- the cofactors at an unknown place

-- a completion has some value at each place, and completes the list that has it too
pub completes-set : (trits : List Trit) (bs : List Bool) (pin : ℕ) → Completes trits bs → Completes (set trits pin (bit (get_or bs pin false))) bs
completes-set [] [] pin c = tt
completes-set [] (b ∷ bs) pin c = absurd c
completes-set (t ∷ trits) [] pin c = absurd c
completes-set (t ∷ trits) (b ∷ bs) zero c = (Below-refl (bit b), c.1)
completes-set (t ∷ trits) (b ∷ bs) (suc pin) c = (c.0, completes-set trits bs pin c.1)

pub completes-unset : (trits : List Trit) (bs : List Bool) (pin : ℕ) (b : Bool) → get_or trits pin X ≡ X → Completes (set trits pin (bit b)) bs → Completes trits bs
completes-unset [] bs pin b e c = c
completes-unset (t ∷ trits) [] zero b e c = absurd c
completes-unset (t ∷ trits) [] (suc pin) b e c = absurd c
completes-unset (t ∷ trits) (d ∷ bs) zero b e c = (rw e tt, c.1)
completes-unset (t ∷ trits) (d ∷ bs) (suc pin) b e c = (c.0, completes-unset trits bs pin b e c.1)

both_say : (f : List Bool → Bool) (trits : List Trit) (n : ℕ) (b : Bool) → exact f (set trits n Zero) ≡ bit b → exact f (set trits n One) ≡ bit b → (bs : List Bool) (d : Bool) → Completes (set trits n (bit d)) bs → f bs ≡ b
both_say f trits n b low high bs false c = exact_says f (set trits n Zero) b low bs c
both_say f trits n b low high bs true c = exact_says f (set trits n One) b high bs c

-- where a place is X, the extension is b exactly where both cofactors' extensions are
pub exact_split : (f : List Bool → Bool) (trits : List Trit) (n : ℕ) (b : Bool) → get_or trits n X ≡ X → (exact f trits ≡ bit b) ↔ ((exact f (set trits n Zero) ≡ bit b) × (exact f (set trits n One) ≡ bit b))
exact_split f trits n b x = (
  (λ e. (
    exact_from f (set trits n Zero) b (λ bs c. exact_says f trits b e bs (completes-unset trits bs n false x c)),
    exact_from f (set trits n One) b (λ bs c. exact_says f trits b e bs (completes-unset trits bs n true x c)),
  )),
  λ h. exact_from f trits b (λ bs c. both_say f trits n b h.0 h.1 bs (get_or bs n false) (completes-set trits bs n c)),
)

-- ---- of a cover

pub ext_is_exact : ExtIsExact
ext_is_exact cover trits b = (exact_says (value cover) trits b, exact_from (value cover) trits b)

pub ext_at_bits : ExtAtBits
ext_at_bits cover = exact_at_bits (value cover)

pub ext_is_monotone : (cover : Cover) → IsMonotone (ext cover)
ext_is_monotone cover = exact_monotone (value cover)

pub ext_below_value : (cover : Cover) → IsBelowValue cover (ext cover)
ext_below_value cover = exact_below (value cover)

pub ext_is_most_informative : (cover : Cover) → IsMostInformative cover
ext_is_most_informative cover = record {
  monotone = ext_is_monotone cover;
  below = ext_below_value cover;
  most = λ f h trits. exact_above (value cover) trits (f trits) (h trits);
  most_at_bits = λ f m h trits. exact_above (value cover) trits (f trits)
      (λ bs c. Below-trans (f trits) (f (bits bs)) (bit (value cover bs)) (m trits (bits bs) c) (h bs));
}

pub value_is_monotone : ValueIsMonotone
value_is_monotone cover low high h = grind (arith, above_bits, Below-refl)
