-- Where the copies stand: each at one place, and those of one number one after another.
use Rattle.std.proofs.Common.{◌≡◌, ◌==◌, inl, inr, ℕ, zero, suc, ◌+◌, ◌<◌, ◌≤◌, leb, Bool, true, ◌&&◌, if◌then◌else◌, List, [], ◌∷◌, ◌++◌, length, map, get_or, refl, ap, ap₂, sym, ◌∙◌, subst, arith, Contains, All, true≢false}
use Rattle.unroll.proofs.Common.{append_assoc, get_or_append_left, get_or-map, length-append, length-map, get_or-append-add, append-nil, cases_lt, le-leb, leb-true, false_from_ne_true, get_or-range_with_len, length-range_with_len, range_with_len, Parts, Loops, Copy, copy_of, copies_of, copies_upto, most, copies, place, copied, All-append, All-map}
use Rattle.std.proofs.lemmas.Bool.{cases_eq}
use Rattle.std.specs.List.{AllPairs, position_or_len}
use Rattle.std.proofs.lemmas.List.Elements.{Contains-append_left, Contains-append_right, All-filter, All-weaker, filter_passes}
use Rattle.std.proofs.lemmas.List.Kept.{AllPairs-cons, AllPairs-filter}
use Rattle.std.proofs.lemmas.List.Recursion.{is_position_or_len}
use Rattle.std.proofs.lemmas.List.Sums.{fails_before_first, passes_at_first, position_or_len_is}
use Rattle.cyc_base.proofs.ListLemmas.{Contains-map, Contains-filter, Contains-range}

abbrev is_copy : ℕ → ℕ → Copy → Bool
is_copy k n copy = copy.number == k && copy.gate == n

is_this : (copy : Copy) (k n : ℕ) → copy ≡ copy_of k n → is_copy k n copy ≡ true
is_this copy k n e = grind arith

this_is : (copy : Copy) (k n : ℕ) → is_copy k n copy ≡ true → copy ≡ copy_of k n
this_is copy k n e = grind arith

place_is : (cs : List Copy) (k n : ℕ) → place cs k n ≡ position_or_len (is_copy k n) cs
place_is cs k n =
    is_position_or_len (λ xs. place xs k n) (is_copy k n) refl
    (λ x xs. (let one : suc (place xs k n) ≡ 1 + place xs k n = omega arith in ap (λ p. if is_copy k n x then 0 else p) one)) cs

-- a copy stands at its place
pub record Placed (cs : List Copy) (k n : ℕ) : Type 0 where
  pub within : place cs k n < length cs
  pub is : (d : Copy) → get_or cs (place cs k n) d ≡ copy_of k n

pub placed : (cs : List Copy) (k n : ℕ) → Contains cs (copy_of k n) → Placed cs k n
placed cs k n c = grind (arith, place_is, cases_lt, true≢false, is_this, fails_before_first, this_is, passes_at_first)

-- copies that differ
abbrev pub Apart : List Copy → Type 0
Apart cs = AllPairs (λ x y. x ≡ y → ⊥) cs

pub place_at : (cs : List Copy) (p : ℕ) (d : Copy) → Apart cs → p < length cs → place cs (get_or cs p d).number (get_or cs p d).gate ≡ p
place_at cs p d apart l = grind (arith, place_is, position_or_len_is, false_from_ne_true, this_is, is_this)

apart_append : (xs ys : List Copy) → Apart xs → Apart ys → All (λ x. All (λ y. x ≡ y → ⊥) ys) xs → Apart (xs ++ ys)
apart_append [] ys h k far = k
apart_append (x ∷ xs) ys h k far =
    AllPairs-cons (λ x y. x ≡ y → ⊥) x (xs ++ ys)
    (All-append (λ y. x ≡ y → ⊥) xs ys (λ i d l. h 0 (suc i) d (omega arith) (omega arith)) (far 0 x (omega arith)))
    (apart_append xs ys (λ i j d less l. h (suc i) (suc j) d (omega arith) (omega arith)) k (λ i d l. far (suc i) d (omega arith)))

-- numbers that rise
abbrev pub Increasing : List ℕ → Type 0
Increasing ns = AllPairs (λ x y. x < y) ns

round_apart : (k : ℕ) (ns : List ℕ) → Increasing ns → Apart (map (copy_of k) ns)
round_apart k ns up i j d less l e = grind (arith, length-map ns (copy_of k), get_or-map (copy_of k) ns i 0 d, get_or-map (copy_of k) ns j 0 d)

pub most-above : (same : ℕ → ℕ → Bool) (m : ℕ → ℕ) (bound n : ℕ) → n < bound → copies_of same m n ≤ most same m bound
most-above same m zero n l = absurd (omega arith)
most-above same m (suc bound) n l = grind (arith, cases_eq, most-above same m bound n)

module _ (net : Parts) (loops : Loops) (m : ℕ → ℕ) where
  abbrev has : ℕ → ℕ
  has n = copies_of loops.same m n

  range_within : All (λ n. n < length net.gates) (range_with_len 0 (length net.gates))
  range_within i d l = grind (arith, length-range_with_len, get_or-range_with_len)

  pub copied_within : (k : ℕ) → All (λ n. n < length net.gates) (copied net loops m k)
  copied_within k = All-filter (λ n. leb k (has n)) (λ n. n < length net.gates) (range_with_len 0 (length net.gates)) range_within

  pub copied_has : (k i d : ℕ) → i < length (copied net loops m k) → k ≤ has (get_or (copied net loops m k) i d)
  copied_has k i d l = grind (arith, leb-true, filter_passes)

  pub Contains-copied : (k n : ℕ) → n < length net.gates → k ≤ has n → Contains (copied net loops m k) n
  Contains-copied k n l few = grind (arith, Contains-filter, le-leb, Contains-range)

  pub copied_increasing : (k : ℕ) → Increasing (copied net loops m k)
  copied_increasing k =
      AllPairs-filter (λ x y. x < y) (λ n. leb k (has n)) (range_with_len 0 (length net.gates))
      (λ i j d less l.
      let len = length-range_with_len 0 (length net.gates) in
      let at_i = get_or-range_with_len 0 (length net.gates) i d (omega arith) in
      let at_j = get_or-range_with_len 0 (length net.gates) j d (omega arith) in
      omega arith)

  upto_has : (top k n : ℕ) → n < length net.gates → suc k ≤ has n → suc k ≤ top → Contains (copies_upto net loops m top) (copy_of (suc k) n)
  upto_has zero k n l few less = absurd (omega arith)
  upto_has (suc top) k n l few less =
      elim (cases_eq k top) [
        | inl e ↦
            subst (λ (j : ℕ). Contains (copies_upto net loops m (suc top)) (copy_of (suc j) n)) (sym e)
            (Contains-append_right (copies_upto net loops m top) (map (copy_of (suc top)) (copied net loops m (suc top))) (copy_of (suc top) n)
            (Contains-map (copy_of (suc top)) (copied net loops m (suc top)) n (Contains-copied (suc top) n l (omega arith))))
        | inr ne ↦
            Contains-append_left (copies_upto net loops m top) (map (copy_of (suc top)) (copied net loops m (suc top))) (copy_of (suc k) n)
            (upto_has top k n l few (omega (arith, ne)))
      ]

  pub copy_placed : (k n : ℕ) → n < length net.gates → suc k ≤ has n → Placed (copies net loops m) (suc k) n
  copy_placed k n l few = grind (arith, placed, upto_has, most-above)

  -- what each copy up to one number is
  pub record IsCopy (top : ℕ) (copy : Copy) : Type 0 where
    pub positive : 1 ≤ copy.number
    pub upto : copy.number ≤ top
    pub gate : copy.gate < length net.gates
    pub few : copy.number ≤ has copy.gate

  pub upto_are : (k : ℕ) → All (IsCopy k) (copies_upto net loops m k)
  upto_are zero = λ i d l. absurd (omega arith)
  upto_are (suc k) =
      grind (arith, All-append (IsCopy (suc k)) (copies_upto net loops m k) (map (copy_of (suc k)) (copied net loops m (suc k))), All-weaker (IsCopy k) (IsCopy (suc k)), upto_are k, All-map (IsCopy (suc k)) (copy_of (suc k)) (copied net loops m (suc k)), copied_within (suc k), copied_has (suc k))

  pub upto_apart : (k : ℕ) → Apart (copies_upto net loops m k)
  upto_apart zero = λ i j d less l. absurd (omega arith)
  upto_apart (suc k) =
      apart_append (copies_upto net loops m k) (map (copy_of (suc k)) (copied net loops m (suc k)))
      (upto_apart k)
      (round_apart (suc k) (copied net loops m (suc k)) (copied_increasing (suc k)))
      (λ i c l. All-map (λ y. get_or (copies_upto net loops m k) i c ≡ y → ⊥) (copy_of (suc k)) (copied net loops m (suc k))
      (λ j d here e. (let up = (upto_are k i c l).upto in let one = ap (λ x. x.number) e in omega arith)))

  -- the copies up to one number begin those up to a later one
  begins : (k top : ℕ) → k ≤ top → (rest : List Copy) × (copies_upto net loops m top ≡ copies_upto net loops m k ++ rest)
  begins k zero l = ([], ap (copies_upto net loops m) (let e : 0 ≡ k = omega arith in e) ∙ sym (append-nil (copies_upto net loops m k)))
  begins k (suc top) l =
      elim (cases_eq k (suc top)) [
        | inl e ↦ ([], ap (copies_upto net loops m) (sym e) ∙ sym (append-nil (copies_upto net loops m k)))
        | inr ne ↦
            let rest = begins k top (omega (arith, ne)) in
            let more = map (copy_of (suc top)) (copied net loops m (suc top)) in
            (rest.0 ++ more, ap (λ cs. cs ++ more) rest.1 ∙ append_assoc (copies_upto net loops m k) rest.0 more)
      ]

  pub length-round : (k : ℕ) → length (copies_upto net loops m (suc k)) ≡ length (copies_upto net loops m k) + length (copied net loops m (suc k))
  length-round k =
      length-append (copies_upto net loops m k) (map (copy_of (suc k)) (copied net loops m (suc k)))
      ∙ ap (λ n. length (copies_upto net loops m k) + n) (length-map (copied net loops m (suc k)) (copy_of (suc k)))

  pub upto_short : (k : ℕ) → k ≤ most loops.same m (length net.gates) → length (copies_upto net loops m k) ≤ length (copies net loops m)
  upto_short k l =
      let rest = begins k (most loops.same m (length net.gates)) l in
      let len = ap length rest.1 ∙ length-append (copies_upto net loops m k) rest.0 in
      omega arith

  -- the copies of one number stand one after another, behind those of lower numbers
  pub place_in_round : (k i : ℕ) → suc k ≤ most loops.same m (length net.gates) → i < length (copied net loops m (suc k)) → place (copies net loops m) (suc k) (get_or (copied net loops m (suc k)) i 0) ≡ length (copies_upto net loops m k) + i
  place_in_round k i top l =
      let d = copy_of 0 0 in
      let rest = begins (suc k) (most loops.same m (length net.gates)) top in
      let p = length (copies_upto net loops m k) + i in
      let len = length-round k in
      let short = upto_short (suc k) top in
      let here : p < length (copies_upto net loops m (suc k)) = omega arith in
      let is : get_or (copies net loops m) p d ≡ copy_of (suc k) (get_or (copied net loops m (suc k)) i 0) =
      ap (λ cs. get_or cs p d) rest.1 ∙ get_or_append_left (copies_upto net loops m (suc k)) rest.0 d p here
      ∙ get_or-append-add (copies_upto net loops m k) (map (copy_of (suc k)) (copied net loops m (suc k))) i d
      ∙ get_or-map (copy_of (suc k)) (copied net loops m (suc k)) i 0 d l in
      ap₂ (place (copies net loops m)) (sym (ap (λ c. c.number) is)) (sym (ap (λ c. c.gate) is))
      ∙ place_at (copies net loops m) p d (upto_apart (most loops.same m (length net.gates))) (omega arith)
