-- A list that is made of another one, place by place.
use Rattle.std.proofs.Common.{◌≡◌, inl, inr, ℕ, ◌+◌, ◌<◌, List, [], ◌∷◌, ◌++◌, length, get_or, ap, ◌∙◌, subst, arith}
use Rattle.std.proofs.lemmas.Bool.{cases_lt}
use Rattle.std.proofs.lemmas.List.{get_or-append-add, get_or_append_left, get_or_default}

pub last_is : {A : Type 0} (xs : List A) (x : A) (n : ℕ) (d : A) → length xs ≡ n → get_or (xs ++ x ∷ []) n d ≡ x
last_is xs x n d wide = ap (λ (i : ℕ). get_or (xs ++ x ∷ []) i d) (let e : n ≡ length xs + 0 = omega (arith, wide) in e) ∙ get_or-append-add xs (x ∷ []) 0 d

-- d and e are what stands past the ends of the lists
module _ {A B : Type 0} (g : ℕ → A → B) (d : ℕ → A) (e : ℕ → B) (xs : List A) where
  abbrev pub AreMade : ℕ → List B → Type 0
  AreMade n ys = (i : ℕ) → i < n → get_or ys i (e i) ≡ g i (get_or xs i (d i))

  pub made_next : (ys : List B) (n : ℕ) (y : B) (z : A) → length ys ≡ n → n < length xs → y ≡ g n (get_or xs n z) → AreMade n ys → AreMade (n + 1) (ys ++ y ∷ [])
  made_next ys n y z wide inside is h i l = elim (cases_lt i n) [
    | inl before ↦ get_or_append_left ys (y ∷ []) (e i) i (omega arith) ∙ h i before
    | inr after ↦ subst (λ (k : ℕ). get_or (ys ++ y ∷ []) k (e k) ≡ g k (get_or xs k (d k))) (let here : n ≡ i = omega arith in here) (last_is ys y n (e n) wide ∙ is ∙ ap (g n) (get_or_default xs n z (d n) inside))
  ]
