-- Adding up what gates cost.
use Rattle.std.proofs.Common.{◌≡◌, ◌==◌, ℕ, zero, suc, ◌+◌, ◌<◌, ◌≤◌, ltb, add-one, Bool, true, not, ◌&&◌, if◌then◌else◌, List, [], ◌∷◌, length, take, get_or, refl, ap, ◌∙◌, arith, Contains, true≢false}
use Rattle.fixpoint.proofs.Common.{cases_eq, eqb-true, eq-eqb, All-contains, sum_by_more, take_all, sum_by, Parts, ReadsUncut, IsInOrder, total}
use Rattle.std.proofs.lemmas.Bool.{ne_eqb, and_from}
use Rattle.std.proofs.lemmas.List.Elements.{All-from_recursion}
use Rattle.std.proofs.lemmas.List.Sums.{sum_by-cons}

pub if-at-most : (b : Bool) (x : ℕ) → (if b then x else 0) ≤ x
if-at-most b x = grind arith

-- two kinds apart make the third
pub total-split : (p q r : ℕ → Bool) (f : ℕ → ℕ) (n : ℕ) → ((m : ℕ) → (if p m then f m else 0) + (if q m then f m else 0) ≡ (if r m then f m else 0)) → total p f n + total q f n ≡ total r f n
total-split p q r f zero each = refl
total-split p q r f (suc n) each = omega (arith, total-split p q r f n each, each n)

-- one of a kind costs at most what all do
pub total-at : (f : ℕ → ℕ) (p : ℕ → Bool) (n k : ℕ) → n < k → p n ≡ true → f n ≤ total p f k
total-at f p n zero less is = absurd (omega (arith, less))
total-at f p n (suc k) less is = grind (arith, cases_eq n k, total-at f p n k)

-- gates of a kind that stand once each in an order cost at most what all of the kind do
pub order-total : (net : Parts) (cut : ℕ → Bool) (f : ℕ → ℕ) (p : ℕ → Bool) (k : ℕ) (order : List ℕ) → IsInOrder net cut order → ((n : ℕ) → Contains order n → (n < k) × (p n ≡ true)) → sum_by f order ≤ total p f k
order-total net cut f p k [] follows within = omega arith
order-total net cut f p k (n ∷ order) follows within =
    let here = within n (zero, omega arith, refl) in
    let rest : sum_by f order ≤ total (λ m. p m && not (m == n)) f k = order-total net cut f (λ m. p m && not (m == n)) k order follows.1
    (λ m has.
    let w = within m (suc has.0, (let l = has.1 in omega (arith, l)), has.2) in
    let other : ¬ (m ≡ n) = (All-contains (λ g. (¬ (g ≡ n)) × (¬ ReadsUncut net cut n g)) order m (All-from_recursion (λ g. (¬ (g ≡ n)) × (¬ ReadsUncut net cut n g)) order follows.0) has).0 in
    (w.0, and_from (p m) (not (m == n)) w.1 (ap not (ne_eqb m n other)))) in
    let whole = total-split (λ m. p m && not (m == n)) (λ m. m == n) p f k (λ m. parts (p m) (m == n) (f m) (λ e. ap p (eqb-true m n e) ∙ here.1)) in
    omega (arith, rest, whole, total-at f (λ m. m == n) n k here.0 (eq-eqb n n refl), sum_by-cons f n order)
  where
    parts : (a b : Bool) (x : ℕ) → (b ≡ true → a ≡ true) → (if a && not b then x else 0) + (if b then x else 0) ≡ (if a then x else 0)
    parts a b x h = grind (arith, true≢false)

-- one block more
pub total-next : (home : ℕ → ℕ) (f : ℕ → ℕ) (b k : ℕ) → total (λ n. ltb (home n) b) f k + total (λ n. home n == b) f k ≡ total (λ n. ltb (home n) (b + 1)) f k
total-next home f b k = total-split (λ n. ltb (home n) b) (λ n. home n == b) (λ n. ltb (home n) (b + 1)) f k (λ n. parts (home n) (f n))
  where
    parts : (h x : ℕ) → (if ltb h b then x else 0) + (if h == b then x else 0) ≡ (if ltb h (b + 1) then x else 0)
    parts h x = grind arith

-- and all of them
pub total-all : {T : Type 0} (g : T → ℕ) (xs : List T) (none : T) (p : ℕ → Bool) → total p (λ n. g (get_or xs n none)) (length xs) ≤ sum_by g xs
total-all g xs none p = omega (arith, by (length xs) (omega arith), ap (sum_by g) (take_all (length xs) xs (omega arith)))
  where
    by : (k : ℕ) → k ≤ length xs → total p (λ n. g (get_or xs n none)) k ≤ sum_by g (take k xs)
    by zero less = omega arith
    by (suc k) less = grind (arith, add-one, sum_by_more g xs k none, by k, if-at-most (p k) (g (get_or xs k none)))
