-- What is marked among the first n, in order, and how many.
use Rattle.std.proofs.Common.{◌≡◌, inl, inr, ℕ, zero, suc, ◌+◌, ◌<◌, ◌≤◌, Bool, true, false, cond, List, [], ◌∷◌, ◌++◌, length, filter, get_or, sym, ap, ◌∙◌, arith}
use Rattle.care_rows.proofs.Common.{cases_Bool, cases_lt, get_or_append_left, get_or_push, length_push, append-nil, Contains-get_or, is_marked, marked_below, rank, range_with_len}
use Rattle.std.proofs.lemmas.List.Elements.{filter-append}
use Rattle.cyc_base.proofs.ListLemmas.{range-suc}
use Rattle.loops.proofs.Reading.{Contains-filter_from, Contains-range_from}

below_suc : (marks : List Bool) (n : ℕ) → marked_below marks (suc n) ≡ marked_below marks n ++ cond (is_marked marks n) (n ∷ []) []
below_suc marks n =
    ap (filter (is_marked marks)) (range-suc 0 n ∙ ap (λ k. range_with_len 0 n ++ k ∷ []) (let e : 0 + n ≡ n = omega arith in e))
    ∙ filter-append (is_marked marks) (range_with_len 0 n) (n ∷ [])

pub below_marked : (marks : List Bool) (n : ℕ) → is_marked marks n ≡ true → marked_below marks (suc n) ≡ marked_below marks n ++ n ∷ []
below_marked marks n is = below_suc marks n ∙ ap (λ b. marked_below marks n ++ cond b (n ∷ []) []) is

pub below_unmarked : (marks : List Bool) (n : ℕ) → is_marked marks n ≡ false → marked_below marks (suc n) ≡ marked_below marks n
below_unmarked marks n isnt = below_suc marks n ∙ ap (λ b. marked_below marks n ++ cond b (n ∷ []) []) isnt ∙ append-nil (marked_below marks n)

pub rank_marked : (marks : List Bool) (n : ℕ) → is_marked marks n ≡ true → rank marks (suc n) ≡ suc (rank marks n)
rank_marked marks n is = let e = ap (λ (xs : List ℕ). length xs) (below_marked marks n is) in let f = length_push (marked_below marks n) n in omega (arith, e, f)

pub rank_unmarked : (marks : List Bool) (n : ℕ) → is_marked marks n ≡ false → rank marks (suc n) ≡ rank marks n
rank_unmarked marks n isnt = ap (λ (xs : List ℕ). length xs) (below_unmarked marks n isnt)

-- the place of one that is marked
pub rank_below : (marks : List Bool) (n m : ℕ) → n < m → is_marked marks n ≡ true → rank marks n < rank marks m
rank_below marks n zero l is = absurd (omega arith)
rank_below marks n (suc m) l is =
    elim (cases_lt n m) [
      | inl low ↦
          let before = rank_below marks n m low is in
          elim (cases_Bool (is_marked marks m)) [
            | inl is_on ↦ let e = rank_marked marks m is_on in omega (arith, before, e)
            | inr is_off ↦ let e = rank_unmarked marks m is_off in omega (arith, before, e)
          ]
      | inr high ↦
          let same : n ≡ m = omega (arith, l, high) in
          let e = rank_marked marks m (ap (is_marked marks) (sym same) ∙ is) in
          let f = ap (rank marks) same in
          omega (arith, e, f)
    ]

pub rank_at : (marks : List Bool) (n m d : ℕ) → n < m → is_marked marks n ≡ true → get_or (marked_below marks m) (rank marks n) d ≡ n
rank_at marks n zero d l is = absurd (omega arith)
rank_at marks n (suc m) d l is =
    elim (cases_lt n m) [
      | inl low ↦
          let before = rank_at marks n m d low is in
          let less = rank_below marks n m low is in
          elim (cases_Bool (is_marked marks m)) [
            | inl is_on ↦ ap (λ (xs : List ℕ). get_or xs (rank marks n) d) (below_marked marks m is_on) ∙ get_or_append_left (marked_below marks m) (m ∷ []) d (rank marks n) less ∙ before
            | inr is_off ↦ ap (λ (xs : List ℕ). get_or xs (rank marks n) d) (below_unmarked marks m is_off) ∙ before
          ]
      | inr high ↦
          let same : n ≡ m = omega (arith, l, high) in
          ap (λ (xs : List ℕ). get_or xs (rank marks n) d) (below_marked marks m (ap (is_marked marks) (sym same) ∙ is))
          ∙ get_or_push (marked_below marks m) m d (rank marks n) (ap (rank marks) (sym same)) ∙ sym same
    ]

-- what stands at a place is marked, and has this place
pub record IsMarkedAt (marks : List Bool) (m i n : ℕ) : Type 0 where
  pub within : n < m
  pub marked : is_marked marks n ≡ true

pub marked_at : (marks : List Bool) (m i d : ℕ) → i < rank marks m → IsMarkedAt marks m i (get_or (marked_below marks m) i d)
marked_at marks m i d l =
    let from = Contains-filter_from (is_marked marks) (range_with_len 0 m) (get_or (marked_below marks m) i d) (Contains-get_or (marked_below marks m) i d l) in
    record { within = Contains-range_from m (get_or (marked_below marks m) i d) from.1; marked = from.0 }

pub rank_of : (marks : List Bool) (m i d : ℕ) → i < rank marks m → rank marks (get_or (marked_below marks m) i d) ≡ i
rank_of marks zero i d l = absurd (omega arith)
rank_of marks (suc m) i d l =
    elim (cases_Bool (is_marked marks m)) [
      | inl is_on ↦
          let e = rank_marked marks m is_on in
          elim (cases_lt i (rank marks m)) [
            | inl low ↦ ap (λ (xs : List ℕ). rank marks (get_or xs i d)) (below_marked marks m is_on) ∙ ap (rank marks) (get_or_append_left (marked_below marks m) (m ∷ []) d i low) ∙ rank_of marks m i d low
            | inr high ↦
                let at : rank marks m ≡ i = omega (arith, l, high, e) in
                ap (λ (xs : List ℕ). rank marks (get_or xs i d)) (below_marked marks m is_on) ∙ ap (rank marks) (get_or_push (marked_below marks m) m d i at) ∙ at
          ]
      | inr is_off ↦
          let e = rank_unmarked marks m is_off in
          ap (λ (xs : List ℕ). rank marks (get_or xs i d)) (below_unmarked marks m is_off) ∙ rank_of marks m i d (omega (arith, l, e))
    ]

-- they are is_off more than all
pub rank_within : (marks : List Bool) (m : ℕ) → rank marks m ≤ m
rank_within marks zero = omega arith
rank_within marks (suc m) =
    let before = rank_within marks m in
    elim (cases_Bool (is_marked marks m)) [
      | inl is_on ↦ let e = rank_marked marks m is_on in omega (arith, before, e)
      | inr is_off ↦ let e = rank_unmarked marks m is_off in omega (arith, before, e)
    ]
