-- A gate is the same with its pins in another order.
use Rattle.std.proofs.Common.{◌≡◌, ℕ, zero, suc, ◌<◌, Bool, true, false, not, ◌||◌, List, [], ◌∷◌, length, get_or, set, map, refl, sym, ap, ◌∙◌, subst, arith, inl, inr, true≢false}
use Rattle.std.specs.List.{swap, AllZip}
use Rattle.std.proofs.lemmas.Bool.{cases_Bool, cases_eq}
use Rattle.std.proofs.lemmas.List.{same_lists, length-set, get_or-set_same, get_or-set_other}
use Rattle.std.proofs.lemmas.List.Elements.{All-cons}
use Rattle.std.proofs.lemmas.List.Sorted.{All-permutation, IsPermutation-swap}
use Rattle.std.proofs.lemmas.List.Edits.{length-swap, swap_is, Swapped}
use Rattle.std.proofs.lemmas.Slice.Zip.{AllZip-long}
use Rattle.cover_logic.specs.declared.row.Lit.{Lit}
use Rattle.cover_logic.specs.declared.row.Row.{Row}
use Rattle.cover_logic.specs.Covers.{Cover, IsCover, allows, matches, some_row_matches, value, value_of_rows}
use Rattle.cover_logic.specs.Extensions.{ext}
use Rattle.cover_logic.proofs.ExtensionLemmas.{ext_is_exact}
use Rattle.cyc_base.specs.Values.{Below, Completes}
use Rattle.ternary_clauses.proofs.Common.{All, All-head, All-tail, All-nil, and_from, and_parts, Formula, Trit, Zero, One, X, bit, Rails, Reads, AreWithin}
use Rattle.ternary_clauses.specs.Lifts.{SaysGate}
use Rattle.ternary_clauses.specs.Orders.{exchanged_row, exchanged_cover, IsSameGate}

-- ---- two elements in each other's place

module _ {A B : Type 0} (R : A → B → Type 0) where
  at-place : (xs : List A) (ys : List B) (i : ℕ) (d : A) (e : B) → i < length xs → AllZip R xs ys → R (get_or xs i d) (get_or ys i e)
  at-place [] ys i d e less all = absurd (omega (arith, less))
  at-place (x ∷ xs) [] i d e less all = absurd all
  at-place (x ∷ xs) (y ∷ ys) zero d e less all = all.0
  at-place (x ∷ xs) (y ∷ ys) (suc i) d e less all = at-place xs ys i d e (omega (arith, less)) all.1

  with-set : (xs : List A) (ys : List B) (i : ℕ) (x : A) (y : B) → AllZip R xs ys → R x y → AllZip R (set xs i x) (set ys i y)
  with-set [] [] i x y all r = all
  with-set [] (b ∷ ys) i x y all r = absurd all
  with-set (a ∷ xs) [] i x y all r = absurd all
  with-set (a ∷ xs) (b ∷ ys) zero x y all r = (r, all.1)
  with-set (a ∷ xs) (b ∷ ys) (suc i) x y all r = (all.0, with-set xs ys i x y all.1 r)

  -- what holds at each place of two lists holds still where both have two elements exchanged
  pub AllZip-swap : (xs : List A) (ys : List B) (i j : ℕ) → i < length xs → j < length xs → AllZip R xs ys → AllZip R (swap xs i j) (swap ys i j)
  AllZip-swap [] ys i j li lj all = absurd (omega (arith, li))
  AllZip-swap (x ∷ xs) [] i j li lj all = absurd all
  AllZip-swap (x ∷ xs) (y ∷ ys) i j li lj all =
      with-set (set (x ∷ xs) i (get_or (x ∷ xs) j x)) (set (y ∷ ys) i (get_or (y ∷ ys) j y)) j (get_or (x ∷ xs) i x) (get_or (y ∷ ys) i y)
      (with-set (x ∷ xs) (y ∷ ys) i (get_or (x ∷ xs) j x) (get_or (y ∷ ys) j y) all (at-place (x ∷ xs) (y ∷ ys) j x y lj all))
      (at-place (x ∷ xs) (y ∷ ys) i x y li all)

swapped : {A : Type 0} (xs : List A) (i j : ℕ) (d : A) → i < length xs → j < length xs → Swapped (λ n. get_or xs n d) (λ n. get_or (swap xs i j) n d) i j
swapped {A} xs i j d li lj =
    let w = set xs i (get_or xs j d) in
    let is : (m : ℕ) → get_or (swap xs i j) m d ≡ get_or (set w j (get_or xs i d)) m d = λ m. ap (λ (l : List A). get_or l m d) (sym (swap_is xs i j d li lj)) in
    let last : get_or (swap xs i j) j d ≡ get_or xs i d = is j ∙ get_or-set_same w j (get_or xs i d) d (omega (arith, lj, length-set xs i (get_or xs j d))) in (
      elim (cases_eq i j) [
        | inl k ↦ ap (λ (m : ℕ). get_or (swap xs i j) m d) k ∙ last ∙ ap (λ (m : ℕ). get_or xs m d) k
        | inr k ↦ is i ∙ get_or-set_other w j i (get_or xs i d) d k ∙ get_or-set_same xs i (get_or xs j d) d li
      ],
      last,
      λ m h k. is m ∙ get_or-set_other w j m (get_or xs i d) d k ∙ get_or-set_other xs i m (get_or xs j d) d h,
    )

-- exchanging twice changes nothing
pub swap-swap : {A : Type 0} (xs : List A) (i j : ℕ) → i < length xs → j < length xs → swap (swap xs i j) i j ≡ xs
swap-swap {A} xs i j li lj =
    let long = length-swap xs i j in
    same_lists (swap (swap xs i j) i j) xs (length-swap (swap xs i j) i j ∙ long) (λ k d less.
    let first = swapped xs i j d li lj in
    let then = swapped (swap xs i j) i j d (omega (arith, li, long)) (omega (arith, lj, long)) in
    elim (cases_eq k i) [
      | inl e ↦ ap (λ (m : ℕ). get_or (swap (swap xs i j) i j) m d) e ∙ then.0 ∙ first.1 ∙ ap (λ (m : ℕ). get_or xs m d) (sym e)
      | inr other ↦ elim (cases_eq k j) [
        | inl e ↦ ap (λ (m : ℕ). get_or (swap (swap xs i j) i j) m d) e ∙ then.1 ∙ first.0 ∙ ap (λ (m : ℕ). get_or xs m d) (sym e)
        | inr another ↦ then.2 k other another ∙ first.2 k other another
      ]
    ])

all-swap : {A : Type 0} (P : A → Type 0) (xs : List A) (i j : ℕ) → i < length xs → j < length xs → All P xs → All P (swap xs i j)
all-swap P [] i j li lj all = absurd (omega (arith, li))
all-swap P (x ∷ xs) i j li lj all = All-permutation P (x ∷ xs) (swap (x ∷ xs) i j) (IsPermutation-swap (x ∷ xs) (swap (x ∷ xs) i j) i j li lj refl) all

-- ---- covers

matches-all : (lits : List Lit) (bs : List Bool) → length lits ≡ length bs → matches lits bs ≡ true → AllZip (λ l b. allows l b ≡ true) lits bs
matches-all [] [] long h = tt
matches-all [] (b ∷ bs) long h = absurd (omega (arith, long))
matches-all (l ∷ lits) [] long h = absurd (omega (arith, long))
matches-all (l ∷ lits) (b ∷ bs) long h = let both = and_parts (allows l b) (matches lits bs) h in (both.0, matches-all lits bs (omega (arith, long)) both.1)

all-matches : (lits : List Lit) (bs : List Bool) → AllZip (λ l b. allows l b ≡ true) lits bs → matches lits bs ≡ true
all-matches [] [] all = refl
all-matches [] (b ∷ bs) all = absurd all
all-matches (l ∷ lits) [] all = absurd all
all-matches (l ∷ lits) (b ∷ bs) all = and_from (allows l b) (matches lits bs) all.0 (all-matches lits bs all.1)

completes-each : (trits : List Trit) (bs : List Bool) → Completes trits bs → AllZip (λ t b. Below t (bit b)) trits bs
completes-each [] [] all = tt
completes-each [] (b ∷ bs) all = absurd all
completes-each (t ∷ trits) [] all = absurd all
completes-each (t ∷ trits) (b ∷ bs) all = (all.0, completes-each trits bs all.1)

each-completes : (trits : List Trit) (bs : List Bool) → AllZip (λ t b. Below t (bit b)) trits bs → Completes trits bs
each-completes [] [] all = tt
each-completes [] (b ∷ bs) all = absurd all
each-completes (t ∷ trits) [] all = absurd all
each-completes (t ∷ trits) (b ∷ bs) all = (all.0, each-completes trits bs all.1)

completes-long : (trits : List Trit) (bs : List Bool) → Completes trits bs → length bs ≡ length trits
completes-long trits bs all = AllZip-long (λ t b. Below t (bit b)) trits bs (completes-each trits bs all)

-- a value is another one where it is each Boolean value just where the other one is
same-trit : (t u : Trit) → ((b : Bool) → t ≡ bit b → u ≡ bit b) → ((b : Bool) → u ≡ bit b → t ≡ bit b) → t ≡ u
same-trit Zero u there back = sym (there false refl)
same-trit One u there back = sym (there true refl)
same-trit X Zero there back = back false refl
same-trit X One there back = back true refl
same-trit X X there back = refl

module _ (i j : ℕ) where
  still-matches : (lits : List Lit) (bs : List Bool) → length lits ≡ length bs → i < length lits → j < length lits → matches lits bs ≡ true → matches (swap lits i j) (swap bs i j) ≡ true
  still-matches lits bs long li lj h = all-matches (swap lits i j) (swap bs i j) (AllZip-swap (λ l b. allows l b ≡ true) lits bs i j li lj (matches-all lits bs long h))

  back-matches : (lits : List Lit) (bs : List Bool) → length lits ≡ length bs → i < length lits → j < length lits → matches (swap lits i j) (swap bs i j) ≡ true → matches lits bs ≡ true
  back-matches lits bs long li lj h =
      let there = length-swap lits i j in
      subst (λ (ls : List Lit). matches ls bs ≡ true) (swap-swap lits i j li lj)
      (subst (λ (cs : List Bool). matches (swap (swap lits i j) i j) cs ≡ true) (swap-swap bs i j (omega (arith, li, long)) (omega (arith, lj, long)))
      (still-matches (swap lits i j) (swap bs i j) (there ∙ long ∙ sym (length-swap bs i j)) (omega (arith, li, there)) (omega (arith, lj, there)) h))

  same-match : (lits : List Lit) (bs : List Bool) → length lits ≡ length bs → i < length lits → j < length lits → matches (swap lits i j) (swap bs i j) ≡ matches lits bs
  same-match lits bs long li lj = elim (cases_Bool (matches lits bs)) [
    | inl h ↦ still-matches lits bs long li lj h ∙ sym h
    | inr h ↦ elim (cases_Bool (matches (swap lits i j) (swap bs i j))) [
      | inl g ↦ absurd (true≢false (sym (back-matches lits bs long li lj g) ∙ h))
      | inr g ↦ g ∙ sym h
    ]
  ]

  some-match : (rows : List Row) (bs : List Bool) → All (λ row. length row.lits ≡ length bs) rows → i < length bs → j < length bs → some_row_matches (map (exchanged_row i j) rows) (swap bs i j) ≡ some_row_matches rows bs
  some-match [] bs width li lj = refl
  some-match (row ∷ rows) bs width li lj =
      let wide : length row.lits ≡ length bs = All-head (λ (r : Row). length r.lits ≡ length bs) row rows width in
      let one = same-match row.lits bs wide (omega (arith, li, wide)) (omega (arith, lj, wide)) in
      let rest = some-match rows bs (All-tail (λ (r : Row). length r.lits ≡ length bs) row rows width) li lj in
      ap (λ (b : Bool). b || some_row_matches (map (exchanged_row i j) rows) (swap bs i j)) one ∙ ap (λ (b : Bool). matches row.lits bs || b) rest

  value-of : (plane : Bool) (rows : List Row) (bs : List Bool) → All (λ row. length row.lits ≡ length bs) rows → i < length bs → j < length bs → value_of_rows plane (map (exchanged_row i j) rows) (swap bs i j) ≡ value_of_rows plane rows bs
  value-of true rows bs width li lj = some-match rows bs width li lj
  value-of false [] bs width li lj = refl
  value-of false (row ∷ rows) bs width li lj = ap not (some-match (row ∷ rows) bs width li lj)

  -- a cover with two pins exchanged has the same value where the bits are exchanged too
  value-exchanged : (cover : Cover) (bs : List Bool) → IsCover cover → length bs ≡ cover.pins → i < cover.pins → j < cover.pins → value (exchanged_cover cover i j) (swap bs i j) ≡ value cover bs
  value-exchanged cover bs is long li lj =
      value-of cover.plane cover.rows bs (subst (λ (n : ℕ). All (λ (row : Row). length row.lits ≡ n) cover.rows) (sym long) is.width) (omega (arith, li, long)) (omega (arith, lj, long))

  completes-swap : (trits : List Trit) (bs : List Bool) → i < length trits → j < length trits → Completes trits bs → Completes (swap trits i j) (swap bs i j)
  completes-swap trits bs li lj all = each-completes (swap trits i j) (swap bs i j) (AllZip-swap (λ t b. Below t (bit b)) trits bs i j li lj (completes-each trits bs all))

  module _ (cover : Cover) (trits : List Trit) (is : IsCover cover) (long : length trits ≡ cover.pins) (li : i < cover.pins) (lj : j < cover.pins) where
    to-exchanged : (b : Bool) → ext cover trits ≡ bit b → ext (exchanged_cover cover i j) (swap trits i j) ≡ bit b
    to-exchanged b h = (ext_is_exact (exchanged_cover cover i j) (swap trits i j) b).1 (λ cs all.
        let wide : length cs ≡ length trits = completes-long (swap trits i j) cs all ∙ length-swap trits i j in
        let there = length-swap trits i j in
        let ic : i < length cs = omega (arith, li, long, wide) in
        let jc : j < length cs = omega (arith, lj, long, wide) in
        let same = swap-swap cs i j ic jc in
        let completes : Completes trits (swap cs i j) = subst (λ (ts : List Trit). Completes ts (swap cs i j)) (swap-swap trits i j (omega (arith, li, long)) (omega (arith, lj, long))) (completes-swap (swap trits i j) cs (omega (arith, li, long, there)) (omega (arith, lj, long, there)) all) in
        subst (λ (ds : List Bool). value (exchanged_cover cover i j) ds ≡ b) same (value-exchanged cover (swap cs i j) is (length-swap cs i j ∙ wide ∙ long) li lj ∙ (ext_is_exact cover trits b).0 h (swap cs i j) completes))

    from-exchanged : (b : Bool) → ext (exchanged_cover cover i j) (swap trits i j) ≡ bit b → ext cover trits ≡ bit b
    from-exchanged b h = (ext_is_exact cover trits b).1 (λ bs all.
        sym (value-exchanged cover bs is (completes-long trits bs all ∙ long) li lj) ∙ (ext_is_exact (exchanged_cover cover i j) (swap trits i j) b).0 h (swap bs i j) (completes-swap trits bs (omega (arith, li, long)) (omega (arith, lj, long)) all))

    -- and the same extension where the values are
    ext-exchanged : ext (exchanged_cover cover i j) (swap trits i j) ≡ ext cover trits
    ext-exchanged = same-trit (ext (exchanged_cover cover i j) (swap trits i j)) (ext cover trits) from-exchanged to-exchanged

  widths : (rows : List Row) (n : ℕ) → All (λ row. length row.lits ≡ n) rows → All (λ row. length row.lits ≡ n) (map (exchanged_row i j) rows)
  widths [] n all = All-nil (λ (row : Row). length row.lits ≡ n)
  widths (row ∷ rows) n all =
      All-cons (λ (r : Row). length r.lits ≡ n) (exchanged_row i j row) (map (exchanged_row i j) rows)
      (length-swap row.lits i j ∙ All-head (λ (r : Row). length r.lits ≡ n) row rows all) (widths rows n (All-tail (λ (r : Row). length r.lits ≡ n) row rows all))

  none-exchanged : (rows : List Row) → map (exchanged_row i j) rows ≡ [] → rows ≡ []
  none-exchanged [] e = refl
  none-exchanged (row ∷ rows) e = cc

  proper-exchanged : (cover : Cover) → IsCover cover → IsCover (exchanged_cover cover i j)
  proper-exchanged cover is = record { pins = is.pins; width = widths cover.rows cover.pins is.width; plane = λ e. is.plane (none-exchanged cover.rows e) }

-- ---- gates

-- each gate is the same gate as itself
pub same_gate : (cover : Cover) (pins : List Rails) → IsCover cover → length pins ≡ cover.pins → IsSameGate cover pins cover pins
same_gate cover pins is size = record {
  proper = is;
  width = refl;
  size = size;
  within = λ v all. all;
  at = λ m trits long reads. record { trits = trits; size = long; reads = reads; is = refl };
}

-- and stays so where two pins are exchanged
pub exchanged_gate : (cover : Cover) (pins : List Rails) (other : Cover) (others : List Rails) (i j : ℕ) → i < other.pins → j < other.pins → IsSameGate cover pins other others → IsSameGate cover pins (exchanged_cover other i j) (swap others i j)
exchanged_gate cover pins other others i j li lj same = record {
  proper = proper-exchanged i j other same.proper;
  width = same.width;
  size = length-swap others i j ∙ same.size;
  within = λ v all. all-swap (AreWithin v) others i j (omega (arith, li, same.size)) (omega (arith, lj, same.size)) (same.within v all);
  at = λ m trits long reads.
      let r = same.at m trits long reads in record {
        trits = swap r.trits i j;
        size = length-swap r.trits i j ∙ r.size;
        reads = AllZip-swap (Reads m) others r.trits i j (omega (arith, li, same.size)) (omega (arith, lj, same.size)) r.reads;
        is = ext-exchanged i j other r.trits same.proper r.size li lj ∙ r.is;
      };
}

-- what says the one gate says the other
pub says_gate : (old new : Formula) (cover : Cover) (pins : List Rails) (other : Cover) (others : List Rails) (out : Rails) → IsSameGate cover pins other others → SaysGate old new others out other → SaysGate old new pins out cover
says_gate old new cover pins other others out same says = record {
  grows = says.grows;
  reads = λ m trits long model reads. let r = same.at m trits long reads in subst (Reads m out) r.is (says.reads m r.trits r.size model r.reads);
  complete = λ m trits long size model reads given. let r = same.at m trits long reads in says.complete m r.trits r.size size model r.reads (subst (Reads m out) (sym r.is) given);
}
