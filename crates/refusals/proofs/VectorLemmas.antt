-- All vectors of a width are listed, once and in order.
use Rattle.std.proofs.Common.{◌≡◌, inl, inr, ℕ, zero, suc, ◌+◌, ◌-◌, ◌<◌, ◌≤◌, Bool, true, false, List, [], ◌∷◌, length, map, get_or, sym, ap, ◌∙◌, arith}
use Rattle.std.specs.List.{Contains}
use Rattle.std.proofs.lemmas.Bool.{cases_lt}
use Rattle.std.proofs.lemmas.List.{get_or-map, get_or_append_left, get_or-append_right, get_or_default, length-append, length-map}
use Rattle.std.proofs.lemmas.List.Elements.{Contains-append_cases}
use Rattle.cyc_base.specs.Vectors.{vectors}
use Rattle.cyc_base.proofs.VectorLemmas.{Contains-vectors}
use Rattle.refusals.specs.Vectors.{IsBefore, VectorsAreListed}

-- an item of a mapped list is one's image
record IsImage {X Y : Type 0} (f : X → Y) (xs : List X) (y : Y) : Type 0 where
  pub item : X
  pub there : Contains xs item
  pub is : y ≡ f item

image : {Y : Type 0} (f : List Bool → Y) (xs : List (List Bool)) (y : Y) → Contains (map f xs) y → IsImage f xs y
image f xs y c = grind (arith, length-map xs f, get_or_default xs c.0 (get_or xs c.0 []) [], get_or-map f xs c.0 [] y)

listed_wide : (n : ℕ) (v : List Bool) → Contains (vectors n) v → length v ≡ n
listed_wide zero v c = let e : c.0 ≡ 0 = omega (arith, c.1) in ap length (sym (ap (λ k. let one : List (List Bool) = [] ∷ [] in get_or one k v) (sym e) ∙ c.2))
listed_wide (suc n) v c =
    elim (Contains-append_cases (map (λ u. false ∷ u) (vectors n)) (map (λ u. true ∷ u) (vectors n)) v c) [
      | inl low ↦ let m = image (λ u. false ∷ u) (vectors n) v low in ap length m.is ∙ ap suc (listed_wide n m.item m.there)
      | inr high ↦ let m = image (λ u. true ∷ u) (vectors n) v high in ap length m.is ∙ ap suc (listed_wide n m.item m.there)
    ]

before_low : (v w : List Bool) → IsBefore v w → IsBefore (false ∷ v) (false ∷ w)
before_low v w h = record { most = h.most; other = λ e. h.other cc }

before_high : (v w : List Bool) → IsBefore v w → IsBefore (true ∷ v) (true ∷ w)
before_high v w h = record { most = h.most; other = λ e. h.other cc }

low_before_high : (v w : List Bool) → IsBefore (false ∷ v) (true ∷ w)
low_before_high v w = record { most = tt; other = λ e. cc }

-- an item of either half
low_at : (n k : ℕ) (d : List Bool) → k < length (vectors n) → get_or (vectors (suc n)) k d ≡ false ∷ get_or (vectors n) k []
low_at n k d inside = grind (arith, get_or_append_left, length-map, get_or-map)

high_at : (n k : ℕ) (d : List Bool) → length (vectors n) ≤ k → k < length (vectors n) + length (vectors n) → get_or (vectors (suc n)) k d ≡ true ∷ get_or (vectors n) (k - length (vectors n)) []
high_at n k d behind inside = grind (arith, get_or-append_right, length-map, get_or-map)

length-vectors : (n : ℕ) → length (vectors (suc n)) ≡ length (vectors n) + length (vectors n)
length-vectors n =
    omega (
      arith,
      length-append (map (λ (u : List Bool). false ∷ u) (vectors n)) (map (λ (u : List Bool). true ∷ u) (vectors n)),
      length-map (vectors n) (λ (u : List Bool). false ∷ u),
      length-map (vectors n) (λ (u : List Bool). true ∷ u),
    )

in_order : (n i j : ℕ) (d : List Bool) → i < j → j < length (vectors n) → IsBefore (get_or (vectors n) i d) (get_or (vectors n) j d)
in_order zero i j d lt inside = absurd (omega arith)
in_order (suc n) i j d lt inside = grind (arith, length-vectors, cases_lt, low_at, before_low, in_order n i j [] lt, high_at, low_before_high, before_high, in_order n (i - length (vectors n)) (j - length (vectors n)) [])

pub vectors_are_listed : VectorsAreListed
vectors_are_listed n = record { widths = listed_wide n; all = Contains-vectors n; order = λ i j d lt inside. in_order n i j d lt inside }
