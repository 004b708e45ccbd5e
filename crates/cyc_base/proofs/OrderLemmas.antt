-- The order of values, and that of lists of them.
use Rattle.std.proofs.Common.{◌≡◌, ◌≢◌, ◌⊎◌, inl, inr, ℕ, zero, suc, ◌<◌, Bool, true, false, List, [], ◌∷◌, ◌++◌, length, replicate, get_or, set, map, refl, ap, ap₂, arith}
use Rattle.std.proofs.lemmas.List.{get_or-map}
use Rattle.cyc_base.specs.declared.sig.Sig.{Sig}
use Rattle.cyc_base.specs.declared.trit.Trit.{Trit}
use Rattle.cyc_base.specs.declared.trit.Trit.TheVariants.{Zero, One, X}
use Rattle.cyc_base.specs.Values.{bit, bits, Below, EachBelow, Completes}

pub Below-refl : (x : Trit) → Below x x
Below-refl x = grind arith

pub Below-trans : (x y z : Trit) → Below x y → Below y z → Below x z
Below-trans x y z h k = grind arith

-- what the first value determines, the second has
pub Below-from : (x y : Trit) → ((b : Bool) → x ≡ bit b → y ≡ bit b) → Below x y
Below-from X y h = tt
Below-from Zero y h = h false refl
Below-from One y h = h true refl

pub Below-at : (x y : Trit) (b : Bool) → Below x y → x ≡ bit b → y ≡ bit b
Below-at x y b h e = grind arith

pub same_bit : (a b : Bool) → bit a ≡ bit b → a ≡ b
same_bit a b e = grind arith

pub EachBelow-refl : (xs : List Trit) → EachBelow xs xs
EachBelow-refl [] = tt
EachBelow-refl (x ∷ xs) = (Below-refl x, EachBelow-refl xs)

pub EachBelow-trans : (xs ys zs : List Trit) → EachBelow xs ys → EachBelow ys zs → EachBelow xs zs
EachBelow-trans [] [] zs h k = k
EachBelow-trans [] (y ∷ ys) zs h k = absurd h
EachBelow-trans (x ∷ xs) [] zs h k = absurd h
EachBelow-trans (x ∷ xs) (y ∷ ys) [] h k = absurd k
EachBelow-trans (x ∷ xs) (y ∷ ys) (z ∷ zs) h k = (Below-trans x y z h.0 k.0, EachBelow-trans xs ys zs h.1 k.1)

pub EachBelow-append : (xs ys us vs : List Trit) → EachBelow xs ys → EachBelow us vs → EachBelow (xs ++ us) (ys ++ vs)
EachBelow-append [] [] us vs h k = k
EachBelow-append [] (y ∷ ys) us vs h k = absurd h
EachBelow-append (x ∷ xs) [] us vs h k = absurd h
EachBelow-append (x ∷ xs) (y ∷ ys) us vs h k = (h.0, EachBelow-append xs ys us vs h.1 k)

-- at each place, and past the end, where both are X
pub EachBelow-at : (xs ys : List Trit) (n : ℕ) → EachBelow xs ys → Below (get_or xs n X) (get_or ys n X)
EachBelow-at [] [] n h = tt
EachBelow-at [] (y ∷ ys) n h = tt
EachBelow-at (x ∷ xs) [] n h = absurd h
EachBelow-at (x ∷ xs) (y ∷ ys) zero h = h.0
EachBelow-at (x ∷ xs) (y ∷ ys) (suc n) h = EachBelow-at xs ys n h.1

pub Completes-at : (xs : List Trit) (bs : List Bool) (n : ℕ) → Completes xs bs → Below (get_or xs n X) (bit (get_or bs n false))
Completes-at [] bs n h = tt
Completes-at (x ∷ xs) [] n h = absurd h
Completes-at (x ∷ xs) (b ∷ bs) zero h = h.0
Completes-at (x ∷ xs) (b ∷ bs) (suc n) h = Completes-at xs bs n h.1

pub Completes-from_at : (xs : List Trit) (bs : List Bool) → length xs ≡ length bs → ((n : ℕ) → n < length xs → Below (get_or xs n X) (bit (get_or bs n false))) → Completes xs bs
Completes-from_at [] [] e h = tt
Completes-from_at [] (b ∷ bs) e h = absurd (omega arith)
Completes-from_at (x ∷ xs) [] e h = absurd (omega arith)
Completes-from_at (x ∷ xs) (b ∷ bs) e h =
    (h zero (omega arith), Completes-from_at xs bs (omega arith) (λ n l. h (suc n) (omega arith)))

pub Completes-set : (xs : List Trit) (bs : List Bool) (n : ℕ) (b : Bool) → Completes xs bs → Below (get_or xs n X) (bit b) → Completes xs (set bs n b)
Completes-set [] [] n b h k = tt
Completes-set [] (c ∷ bs) n b h k = absurd h
Completes-set (x ∷ xs) [] n b h k = absurd h
Completes-set (x ∷ xs) (c ∷ bs) zero b h k = (k, h.1)
Completes-set (x ∷ xs) (c ∷ bs) (suc n) b h k = (h.0, Completes-set xs bs n b h.1 k)

pub Completes-length : (xs : List Trit) (bs : List Bool) → Completes xs bs → length xs ≡ length bs
Completes-length [] [] h = refl
Completes-length [] (b ∷ bs) h = absurd h
Completes-length (x ∷ xs) [] h = absurd h
Completes-length (x ∷ xs) (b ∷ bs) h = ap suc (Completes-length xs bs h.1)

pub EachBelow-map : {A : Type 0} (f g : A → Trit) (ns : List A) → ((n : A) → Below (f n) (g n)) → EachBelow (map f ns) (map g ns)
EachBelow-map f g [] h = tt
EachBelow-map f g (n ∷ ns) h = (h n, EachBelow-map f g ns h)

-- only the list itself is above a list of Boolean values
pub above_bits : (bs cs : List Bool) → Completes (bits bs) cs → cs ≡ bs
above_bits [] [] h = refl
above_bits [] (c ∷ cs) h = absurd h
above_bits (b ∷ bs) [] h = absurd h
above_bits (true ∷ bs) (true ∷ cs) h = ap (λ l. true ∷ l) (above_bits bs cs h.1)
above_bits (true ∷ bs) (false ∷ cs) h = let e = h.0 in cc
above_bits (false ∷ bs) (true ∷ cs) h = let e = h.0 in cc
above_bits (false ∷ bs) (false ∷ cs) h = ap (λ l. false ∷ l) (above_bits bs cs h.1)

pub Below-antisym : (x y : Trit) → Below x y → Below y x → x ≡ y
Below-antisym x y h k = grind arith

pub EachBelow-antisym : (xs ys : List Trit) → EachBelow xs ys → EachBelow ys xs → xs ≡ ys
EachBelow-antisym [] [] h k = refl
EachBelow-antisym [] (y ∷ ys) h k = absurd h
EachBelow-antisym (x ∷ xs) [] h k = absurd h
EachBelow-antisym (x ∷ xs) (y ∷ ys) h k = ap₂ (λ z zs. z ∷ zs) (Below-antisym x y h.0 k.0) (EachBelow-antisym xs ys h.1 k.1)

pub EachBelow-set : (xs ys : List Trit) (n : ℕ) (x : Trit) → EachBelow xs ys → Below x (get_or ys n X) → EachBelow (set xs n x) ys
EachBelow-set [] [] n x h k = tt
EachBelow-set [] (y ∷ ys) n x h k = absurd h
EachBelow-set (z ∷ xs) [] n x h k = absurd h
EachBelow-set (z ∷ xs) (y ∷ ys) zero x h k = (k, h.1)
EachBelow-set (z ∷ xs) (y ∷ ys) (suc n) x h k = (h.0, EachBelow-set xs ys n x h.1 k)

pub EachBelow-length : (xs ys : List Trit) → EachBelow xs ys → length xs ≡ length ys
EachBelow-length [] [] h = refl
EachBelow-length [] (y ∷ ys) h = absurd h
EachBelow-length (x ∷ xs) [] h = absurd h
EachBelow-length (x ∷ xs) (y ∷ ys) h = ap suc (EachBelow-length xs ys h.1)

-- as many unknown values are below a list
pub EachBelow-unknown : (xs : List Trit) → EachBelow (replicate (length xs) X) xs
EachBelow-unknown [] = tt
EachBelow-unknown (x ∷ xs) = (tt, EachBelow-unknown xs)

pub Below-bit : (b : Bool) (x : Trit) → Below (bit b) x → x ≡ bit b
Below-bit b x h = grind arith

pub EachBelow-bits : (bs : List Bool) (xs : List Trit) → EachBelow (bits bs) xs → xs ≡ bits bs
EachBelow-bits [] [] h = refl
EachBelow-bits [] (x ∷ xs) h = absurd h
EachBelow-bits (b ∷ bs) [] h = absurd h
EachBelow-bits (b ∷ bs) (x ∷ xs) h = ap₂ (λ z zs. z ∷ zs) (Below-bit b x h.0) (EachBelow-bits bs xs h.1)

pub EachBelow-from_at : (xs ys : List Trit) → length xs ≡ length ys → ((n : ℕ) → n < length xs → Below (get_or xs n X) (get_or ys n X)) → EachBelow xs ys
EachBelow-from_at [] [] e h = tt
EachBelow-from_at [] (y ∷ ys) e h = absurd (omega arith)
EachBelow-from_at (x ∷ xs) [] e h = absurd (omega arith)
EachBelow-from_at (x ∷ xs) (y ∷ ys) e h =
    (h zero (omega arith), EachBelow-from_at xs ys (omega arith) (λ n l. h (suc n) (omega arith)))

pub EachBelow-map_at : (f g : Sig → Trit) (xs : List Sig) → ((k : ℕ) (d : Sig) → k < length xs → Below (f (get_or xs k d)) (g (get_or xs k d))) → EachBelow (map f xs) (map g xs)
EachBelow-map_at f g [] h = tt
EachBelow-map_at f g (x ∷ xs) h = (h zero x (omega arith), EachBelow-map_at f g xs (λ k d l. h (suc k) d (omega arith)))

-- known values

pub bit-known : (b : Bool) → bit b ≢ X
bit-known b e = grind arith

pub unknown_or_bit : (t : Trit) → (t ≡ X) ⊎ ((b : Bool) × (t ≡ bit b))
unknown_or_bit X = inl refl
unknown_or_bit Zero = inr (false, refl)
unknown_or_bit One = inr (true, refl)

pub Below-known : (x y : Trit) → Below x y → x ≢ X → y ≡ x
Below-known x y h known = grind arith

pub Below-unknown : (x y : Trit) → Below x y → y ≡ X → x ≡ X
Below-unknown x y below is = grind arith

pub bits-at : (v : List Bool) (k : ℕ) → k < length v → get_or (bits v) k X ≡ bit (get_or v k false)
bits-at v k l = get_or-map bit v k false X l
