-- Tables of copies, entered one after another.
use Rattle.std.proofs.Common.{◌≡◌, ℕ, suc, ◌+◌, ◌<◌, List, [], ◌∷◌, ◌++◌, length, take, get_or, set, refl, ap, ◌∙◌, arith, length-set}
use Rattle.unroll.proofs.Common.{take_more, entered}
use Rattle.std.proofs.lemmas.List.{length-take}

entered_append : (table gates : List ℕ) (n first : ℕ) → entered table (gates ++ n ∷ []) first ≡ set (entered table gates first) n (first + length gates)
entered_append table [] n first = ap (set table n) (let e : first ≡ first + 0 = omega arith in e)
entered_append table (g ∷ gates) n first = grind (arith, entered_append (set table g first) gates n (suc first))

pub entered_more : (table gates : List ℕ) (i first x : ℕ) → i < length gates → x ≡ get_or gates i x → entered table (take (i + 1) gates) first ≡ set (entered table (take i gates) first) x (first + i)
entered_more table gates i first x l e = grind (arith, length-take i gates, take_more gates i x l, entered_append table (take i gates) x first)

pub length_entered : (table gates : List ℕ) (first : ℕ) → length (entered table gates first) ≡ length table
length_entered table [] first = refl
length_entered table (g ∷ gates) first = length_entered (set table g first) gates (suc first) ∙ length-set table g first
