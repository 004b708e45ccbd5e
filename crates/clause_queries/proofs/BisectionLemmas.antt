-- Where the first literal that can be true is.
use Rattle.std.proofs.Common.{◌≡◌, ℕ, zero, suc, ◌+◌, ◌-◌, ◌<◌, ◌≤◌, Bool, true, List, [], ◌∷◌, ◌++◌, length, get_or, subst, arith}
use Rattle.clause_formulas.specs.Formulas.{says}
use Rattle.clause_queries.specs.Queries.{Problem, is_model, IsModelUnder, HasModelUnder, HasNoModelUnder, AreRising, IsFirstAt}
use Rattle.clause_queries.specs.Bisection.{IsOpen}
use Rattle.clause_queries.proofs.DescentLemmas.{under-fewer, under-last, under-more}

-- so many places later a literal is true too
rising-by : (p : Problem) (literals : List ℕ) (m : List Bool) (i n : ℕ) → AreRising p literals → is_model p m ≡ true → i + n < length literals →
    says m (get_or literals i 0) ≡ true → says m (get_or literals (i + n) 0) ≡ true
rising-by p literals m i zero rising model less here = let e : i ≡ i + 0 = omega arith in subst (λ k. says m (get_or literals k 0) ≡ true) e here
rising-by p literals m i (suc n) rising model less here = grind (arith, rising-by p literals m i n rising model)

-- where a literal can't be true, no earlier one can
pub none-earlier : (p : Problem) (literals assumptions : List ℕ) (i : ℕ) → AreRising p literals → i < length literals →
    HasNoModelUnder p (assumptions ++ get_or literals i 0 ∷ []) → (j : ℕ) → j ≤ i → HasNoModelUnder p (assumptions ++ get_or literals j 0 ∷ [])
none-earlier p literals assumptions i rising less none j before m under =
    let e : j + (i - j) ≡ i = omega arith in
    none m
    (under-more p assumptions (get_or literals i 0) m (under-fewer p assumptions (get_or literals j 0) m under)
    (subst (λ k. says m (get_or literals k 0) ≡ true) e (rising-by p literals m j (i - j) rising under.model (omega arith) (under-last p assumptions (get_or literals j 0) m under))))

-- a model of a later one that has an earlier one true
pub possible-earlier : (p : Problem) (literals assumptions : List ℕ) (later i : ℕ) (m : List Bool) → IsModelUnder p (assumptions ++ get_or literals later 0 ∷ []) m →
    says m (get_or literals i 0) ≡ true → HasModelUnder p (assumptions ++ get_or literals i 0 ∷ [])
possible-earlier p literals assumptions later i m under here =
    record { model = m; is = under-more p assumptions (get_or literals i 0) m (under-fewer p assumptions (get_or literals later 0) m under) here }

pub open-first : (p : Problem) (literals assumptions : List ℕ) (high : ℕ) → high < length literals → HasModelUnder p (assumptions ++ get_or literals high 0 ∷ []) → IsOpen p literals assumptions 0 high
open-first p literals assumptions high less possible = record { within = less; possible = possible; before = λ j below. absurd (omega arith) }

pub open-lower : (p : Problem) (literals assumptions : List ℕ) (low high middle next : ℕ) (m : List Bool) → IsOpen p literals assumptions low high → middle < high → next ≤ middle →
    IsModelUnder p (assumptions ++ get_or literals middle 0 ∷ []) m → says m (get_or literals next 0) ≡ true → IsOpen p literals assumptions low next
open-lower p literals assumptions low high middle next m is below to under here = grind (arith, possible-earlier p literals assumptions middle next m under here)

pub open-higher : (p : Problem) (literals assumptions : List ℕ) (low high middle : ℕ) → AreRising p literals → IsOpen p literals assumptions low high → middle < high →
    HasNoModelUnder p (assumptions ++ get_or literals middle 0 ∷ []) → IsOpen p literals assumptions (middle + 1) high
open-higher p literals assumptions low high middle rising is below none =
    let within : high < length literals = is.within in
    record { within = is.within; possible = is.possible; before = λ j less. none-earlier p literals assumptions middle rising (omega arith) none j (omega arith) }

pub open-end : (p : Problem) (literals assumptions : List ℕ) (low high : ℕ) → IsOpen p literals assumptions low high → high ≤ low → IsFirstAt p literals assumptions high
open-end p literals assumptions low high is closed = record { within = is.within; possible = is.possible; before = λ j less. is.before j (omega arith) }
