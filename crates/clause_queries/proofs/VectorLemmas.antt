-- The first of all vectors that passes a test, and vectors that grow at their end.
use Rattle.std.proofs.Common.{◌≡◌, ℕ, zero, suc, Bool, true, false, cond, List, [], ◌∷◌, ◌++◌, length, get_or, Option, Some, None, refl, sym, ap, ap₂, ◌∙◌, arith, true≢false}
use Rattle.std.specs.Prelude.{find, is_some}
use Rattle.std.specs.Option.{option_or, option_map}
use Rattle.std.proofs.lemmas.List.{get_or_push, append_cancel_right}
use Rattle.std.proofs.lemmas.Bool.{false_from_ne_true}
use Rattle.cyc_base.specs.Vectors.{vectors, AtMost}
use Rattle.cyc_base.proofs.VectorLemmas.{find-halves, find-none}

-- one that passes and is at most each that passes is the first
pub find_least : (n : ℕ) (p : List Bool → Bool) (v : List Bool) → length v ≡ n → p v ≡ true → ((w : List Bool) → length w ≡ n → p w ≡ true → AtMost v w) →
    find p (vectors n) ≡ Some v
find_least zero p [] wide passes least = ap (λ t. let nothing : Option (List Bool) = None in cond t (Some []) nothing) passes
find_least zero p (b ∷ v) wide passes least = absurd (omega arith)
find_least (suc n) p [] wide passes least = absurd (omega arith)
find_least (suc n) p (false ∷ v) wide passes least = grind (arith, find-halves n p, find_least n)
find_least (suc n) p (true ∷ v) wide passes least = grind (arith, find-halves n p, find-none n, false_from_ne_true, find_least n)

pub find_some : (n : ℕ) (p : List Bool → Bool) (v : List Bool) → length v ≡ n → p v ≡ true → is_some (find p (vectors n)) ≡ true
find_some zero p [] wide passes = ap (λ t. let nothing : Option (List Bool) = None in is_some (cond t (Some []) nothing)) passes
find_some zero p (b ∷ v) wide passes = absurd (omega arith)
find_some (suc n) p [] wide passes = absurd (omega arith)
find_some (suc n) p (false ∷ v) wide passes = grind (arith, find-halves n p, find_some n, true≢false)
find_some (suc n) p (true ∷ v) wide passes = grind (arith, find-halves n p, find_some n, true≢false)

-- ---- one more column

-- lists of one length that end alike
pub snoc-same : {X : Type 0} (xs ys : List X) (x y : X) → length xs ≡ length ys → xs ++ x ∷ [] ≡ ys ++ y ∷ [] → (xs ≡ ys) × (x ≡ y)
snoc-same xs ys x y wide is = grind (arith, get_or_push xs x x (length xs), get_or_push ys y x (length xs), append_cancel_right xs ys (x ∷ []))

-- the order goes on where the two were the same
pub AtMost-push : (vs ws : List Bool) (v w : Bool) → length vs ≡ length ws → AtMost vs ws → (vs ≡ ws → v ≡ true → w ≡ true) → AtMost (vs ++ v ∷ []) (ws ++ w ∷ [])
AtMost-push [] [] v w wide below tied = grind arith
AtMost-push [] (c ∷ ws) v w wide below tied = absurd (omega arith)
AtMost-push (b ∷ vs) [] v w wide below tied = absurd (omega arith)
AtMost-push (false ∷ vs) (false ∷ ws) v w wide below tied = AtMost-push vs ws v w (omega arith) below (λ same. tied (ap (λ l. false ∷ l) same))
AtMost-push (false ∷ vs) (true ∷ ws) v w wide below tied = tt
AtMost-push (true ∷ vs) (false ∷ ws) v w wide below tied = below
AtMost-push (true ∷ vs) (true ∷ ws) v w wide below tied = AtMost-push vs ws v w (omega arith) below (λ same. tied (ap (λ l. true ∷ l) same))
