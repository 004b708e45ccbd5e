-- Slots: what stands in them where they are filled, and where there come to be more.
use Rattle.std.proofs.Common.{◌≡◌, refl, ℕ, ◌-◌, ◌++◌, Bool, true, false, List, [], ◌∷◌, All, Contains, set, take, drop, replicate, slice_range, if◌then◌else◌}
use Rattle.std.proofs.lemmas.List.Elements.{All-nil, All-cons, All-same, All-append, All-take, All-drop, All-replicate, All-contains_itself}

All-part : {X : Type 0} (xs : List X) (from to : ℕ) → All (Contains xs) (slice_range xs from to)
All-part xs from to = All-take (Contains xs) (to - from) (drop from xs) (All-drop (Contains xs) from xs (All-contains_itself xs))

-- where there is memory, a list with a part of it once more at its end
pub All-doubled : {X : Type 0} (old new : List X) (from to : ℕ) (b : Bool) → new ≡ (if b then old ++ slice_range old from to else old) → All (Contains old) new
All-doubled old new from to true e = All-same (Contains old) new (old ++ slice_range old from to) e (All-append (Contains old) old (slice_range old from to) (All-contains_itself old) (All-part old from to))
All-doubled old new from to false e = All-same (Contains old) new old e (All-contains_itself old)

All-first : {X : Type 0} (xs : List X) (x : X) → All (λ y. y ≡ x) (set (take 1 xs) 0 x)
All-first [] x = All-nil (λ y. y ≡ x)
All-first (y ∷ ys) x = All-cons (λ y. y ≡ x) x [] refl (All-nil (λ y. y ≡ x))

-- the first slot is written, and more are made of what it has
pub All-refilled : {X : Type 0} (old new : List X) (n m : ℕ) (x : X) (b : Bool) → new ≡ (if b then take n (set (take 1 old) 0 x) ++ replicate m x else set (take 1 old) 0 x) → All (λ y. y ≡ x) new
All-refilled old new n m x true e = All-same (λ y. y ≡ x) new (take n (set (take 1 old) 0 x) ++ replicate m x) e (All-append (λ y. y ≡ x) (take n (set (take 1 old) 0 x)) (replicate m x) (All-take (λ y. y ≡ x) n (set (take 1 old) 0 x) (All-first old x)) (All-replicate (λ y. y ≡ x) m x refl))
All-refilled old new n m x false e = All-same (λ y. y ≡ x) new (set (take 1 old) 0 x) e (All-first old x)
