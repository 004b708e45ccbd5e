-- How many variables are open, and the assignment that the values are.
use Rattle.std.proofs.Common.{◌≡◌, inl, inr, ℕ, ◌/◌, ◌%◌, ◌<◌, ◌≤◌, List, length, get_or, set, refl, ap, sym, ◌∙◌, arith, Bool, true, false, not, true≢false}
use Rattle.std.specs.Prelude.{cond}
use Rattle.std.proofs.Math.ListN.{get_or-map}
use Rattle.std.proofs.lemmas.Bool.{cases_eq, cases_lt}
use Rattle.std.proofs.lemmas.List.{get_or_past, set_past}
use Rattle.std.proofs.lemmas.List.Sums.{sum_by-set}
use Rattle.sat.specs.declared.lit.Lit.{Lit}
use Rattle.sat.specs.declared.values.Truth.{Truth}
use Rattle.sat.specs.declared.values.Truth.TheVariants.{Open, True, False}
use Rattle.sat.specs.Cnf.{holds}
use Rattle.sat.specs.Values.{opposite, is_true, is_open, value_of, assigned, open_count, valuation}

abbrev opened : (t : Truth) → ℕ
opened t = cond (is_open t) 1 0

-- a value is set that isn't open
count_set : (values : List Truth) (i : ℕ) (t : Truth) → is_open t ≡ false → open_count (set values i t) ≤ open_count values
count_set values i t closed = grind (arith, cases_lt i (length values), sum_by-set opened values i t False, set_past values i t)

open_within : (values : List Truth) (i : ℕ) → get_or values i False ≡ Open → i < length values
open_within values i e = grind (arith, cases_lt i (length values), true≢false, get_or_past values i False)

count_open_set : (values : List Truth) (i : ℕ) (t : Truth) → is_open t ≡ false → get_or values i False ≡ Open → open_count (set values i t) < open_count values
count_open_set values i t closed e = grind (arith, open_within values i e, sum_by-set opened values i t False)

opposite-open : (t : Truth) → opposite t ≡ Open → t ≡ Open
opposite-open t e = grind arith

opposite-true : (t : Truth) → opposite t ≡ True → is_true t ≡ false
opposite-true t e = grind arith

even-value : (values : List Truth) (l : Lit) → l.code % 2 ≡ 0 → value_of values l ≡ get_or values (l.code / 2) False
even-value values l e = rw e refl

odd-value : (values : List Truth) (l : Lit) → l.code % 2 ≡ 1 → value_of values l ≡ opposite (get_or values (l.code / 2) False)
odd-value values l e = rw e refl

even-assigned : (values : List Truth) (l : Lit) → l.code % 2 ≡ 0 → assigned values l ≡ set values (l.code / 2) True
even-assigned values l e = rw e refl

odd-assigned : (values : List Truth) (l : Lit) → l.code % 2 ≡ 1 → assigned values l ≡ set values (l.code / 2) False
odd-assigned values l e = rw e refl

pub open_assigned : (values : List Truth) (l : Lit) → open_count (assigned values l) ≤ open_count values
open_assigned values l = grind (arith, cases_eq (l.code % 2) 0, even-assigned values l, count_set values (l.code / 2) True, odd-assigned values l, count_set values (l.code / 2) False)

pub open_decided : (values : List Truth) (l : Lit) → value_of values l ≡ Open → open_count (assigned values l) < open_count values
open_decided values l is_open =
    grind (arith, cases_eq (l.code % 2) 0, even-assigned values l, count_open_set values (l.code / 2) True, even-value values l, odd-assigned values l, count_open_set values (l.code / 2) False, opposite-open (get_or values (l.code / 2) False), odd-value values l)

valuation-at : (values : List Truth) (v : ℕ) → valuation values v ≡ is_true (get_or values v False)
valuation-at values v = get_or-map is_true values v False

-- a true literal holds
pub true_holds : (values : List Truth) (l : Lit) → value_of values l ≡ True → holds (valuation values) l ≡ true
true_holds values l e = grind (arith, cases_eq (l.code % 2) 0, valuation-at values (l.code / 2), even-value values l, opposite-true (get_or values (l.code / 2) False), odd-value values l)

-- an open variable is an open literal, whichever sign it gets
pub open_variable : (values : List Truth) (v : ℕ) (l : Lit) → l.code / 2 ≡ v → get_or values v False ≡ Open → value_of values l ≡ Open
open_variable values v l at e = grind arith
