-- Places in two lists, one behind the other.
use Rattle.std.proofs.Common.{◌≡◌, ℕ, ◌-◌, ◌<◌, ◌≤◌, List, [], ◌∷◌, ◌++◌, length, get_or, refl, sym, ap, ◌∙◌, arith, append-nil, append_assoc}
use Rattle.std.proofs.lemmas.List.{get_or_append_left, get_or-append_right}

pub push_short : {X : Type 0} → (short long : List X) (x : X) → length long ≡ 0 → (short ++ x ∷ []) ++ long ≡ (short ++ long) ++ x ∷ []
push_short short [] x none = append-nil (short ++ x ∷ []) ∙ ap (λ all. all ++ x ∷ []) (sym (append-nil short))
push_short short (y ∷ ys) x none = absurd (omega arith)

pub push_long : {X : Type 0} → (short long : List X) (x : X) → short ++ (long ++ x ∷ []) ≡ (short ++ long) ++ x ∷ []
push_long short long x = sym (append_assoc short long (x ∷ []))

pub at_short : {X : Type 0} → (short long : List X) (k : ℕ) (d : X) → k < length short → get_or short k d ≡ get_or (short ++ long) k d
at_short short long k d here = sym (get_or_append_left short long d k here)

pub at_long : {X : Type 0} → (short long : List X) (k : ℕ) (d : X) → length short ≤ k → get_or long (k - length short) d ≡ get_or (short ++ long) k d
at_long short long k d there = sym (get_or-append_right short long (length short) k d refl there)
