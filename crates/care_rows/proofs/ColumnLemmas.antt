-- Marks of columns, and places, while they are found.
use Rattle.std.proofs.Common.{◌≡◌, ℕ, zero, suc, ◌+◌, ◌<◌, ◌≤◌, Bool, true, false, if◌then◌else◌, List, [], ◌∷◌, ◌++◌, length, map, take, get_or, All, refl, sym, ap, ◌∙◌, subst, arith}
use Rattle.std.proofs.Math.ListN.{set}
use Rattle.care_rows.proofs.Common.{IsUsed, KeepsMarks, Parts, Row, Sig, append_assoc, append-nil, cases_eq, gate_at, get_or-set_other, get_or-set_same, if_marked, is_marked, length-set, map-append, map-range_with_len_more, marked_below, range_with_len, rank, take_all}
use Rattle.std.proofs.lemmas.List.Elements.{All-more, All-nil}
use Rattle.std.proofs.Common.{inl, inr}
use Rattle.care_rows.proofs.RankLemmas.{below_marked, below_unmarked, rank_marked, rank_unmarked, rank_within}

pub keeps-all : (marks : List Bool) → KeepsMarks marks marks
keeps-all marks = record { width = refl; keeps = λ s is. is }

pub keeps-trans : (first mid last : List Bool) → KeepsMarks first mid → KeepsMarks mid last → KeepsMarks first last
keeps-trans first mid last one two = record { width = two.width ∙ one.width; keeps = λ s is. two.keeps s (one.keeps s is) }

pub used-kept : (old new : List Bool) (s : Sig) → KeepsMarks old new → IsUsed old s → IsUsed new s
used-kept old new s keeps used l = let w = keeps.width in keeps.keeps s.0 (used (omega (arith, l, w)))

pub wires-kept : (old new : List Bool) (row : Row) → KeepsMarks old new → All (λ e. IsUsed old e.wire) row.values → All (λ e. IsUsed new e.wire) row.values
wires-kept old new row keeps used k d l = used-kept old new (get_or row.values k d).wire keeps (used k d l)

-- the first i of a list are marked, each in the sense of P, which marks that are kept keep
pub record MarkedSoFar {A : Type 0} (P : List Bool → A → Type 0) (xs : List A) (first : List Bool) (i : ℕ) (marks : List Bool) : Type 0 where
  pub keeps : KeepsMarks first marks
  pub marked : All (P marks) (take i xs)

pub so_far-start : {A : Type 0} (P : List Bool → A → Type 0) (xs : List A) (marks : List Bool) → MarkedSoFar P xs marks 0 marks
so_far-start P xs marks = record { keeps = keeps-all marks; marked = All-nil (P marks) }

pub so_far-more : {A : Type 0} (P : List Bool → A → Type 0) (kept : (old new : List Bool) (x : A) → KeepsMarks old new → P old x → P new x) (xs : List A) (first marks new : List Bool) (i : ℕ) (d : A) → i < length xs →
    MarkedSoFar P xs first i marks → KeepsMarks marks new → P new (get_or xs i d) → MarkedSoFar P xs first (i + 1) new
so_far-more P kept xs first marks new i d l before keeps here = record {
  keeps = keeps-trans first marks new before.keeps keeps;
  marked = All-more (P new) xs i d l (λ k e m. kept marks new (get_or (take i xs) k e) keeps (before.marked k e m)) here;
}

pub so_far-all : {A : Type 0} (P : List Bool → A → Type 0) (xs : List A) (first marks : List Bool) (i : ℕ) → length xs ≤ i → MarkedSoFar P xs first i marks → All (P marks) xs
so_far-all P xs first marks i all are = subst (All (P marks)) (take_all i xs all) are.marked

pub set-keeps : (marks : List Bool) (column : ℕ) → KeepsMarks marks (set marks column true)
set-keeps marks column = record {
  width = length-set marks column true;
  keeps = λ s is. elim (cases_eq s column) [
    | inl e ↦ by s is e
    | inr ne ↦ get_or-set_other marks column s true false ne ∙ is
  ];
}
  where
    by : (s : ℕ) → is_marked marks s ≡ true → s ≡ column → is_marked (set marks column true) s ≡ true
    by s is e = grind (arith, get_or-set_same marks column true false, marked_inside marks s is)
      where
        marked_inside : (marks : List Bool) (s : ℕ) → is_marked marks s ≡ true → s < length marks
        marked_inside [] s is = absurd (by_false is)
          where
            by_false : false ≡ true → ⊥
            by_false e = cc
        marked_inside (m ∷ marks) zero is = omega arith
        marked_inside (m ∷ marks) (suc s) is = let h = marked_inside marks s is in omega arith

-- the pins of the marked gates before gate n
pub record PinsSoFar (net : Parts) (cone first : List Bool) (n : ℕ) (marks : List Bool) : Type 0 where
  pub keeps : KeepsMarks first marks
  pub pins : (m : ℕ) → m < n → is_marked cone m ≡ true → All (IsUsed marks) (gate_at net m).pins

pub pins-start : (net : Parts) (cone marks : List Bool) → PinsSoFar net cone marks 0 marks
pins-start net cone marks = record { keeps = keeps-all marks; pins = λ m l. absurd (omega arith) }

pub pins-more : (net : Parts) (cone first marks new : List Bool) (n : ℕ) → PinsSoFar net cone first n marks → KeepsMarks marks new → (is_marked cone n ≡ true → All (IsUsed new) (gate_at net n).pins) → PinsSoFar net cone first (n + 1) new
pins-more net cone first marks new n before keeps here = record {
  keeps = keeps-trans first marks new before.keeps keeps;
  pins = λ m l is. elim (cases_eq m n) [
    | inl e ↦ subst (λ (k : ℕ). All (IsUsed new) (gate_at net k).pins) (sym e) (here (ap (is_marked cone) (sym e) ∙ is))
    | inr ne ↦ (λ k d inside. used-kept marks new (get_or (gate_at net m).pins k d) keeps (before.pins m (omega (arith, l, ne)) is k d inside))
  ];
}

-- ---- what is listed and placed

pub below_more : (marks : List Bool) (n : ℕ) → marked_below marks (n + 1) ≡ marked_below marks n ++ if_marked marks n
below_more marks n = ap (marked_below marks) (let e : n + 1 ≡ suc n = omega arith in e) ∙ by (is_marked marks n) refl
  where
    by : (b : Bool) → is_marked marks n ≡ b → marked_below marks (suc n) ≡ marked_below marks n ++ (if b then n ∷ [] else [])
    by true is = below_marked marks n is
    by false isnt = below_unmarked marks n isnt ∙ sym (append-nil (marked_below marks n))

pub listed_more : {A : Type 0} (f : ℕ → A) (marks : List Bool) (n : ℕ) → map f (marked_below marks n) ++ map f (if_marked marks n) ≡ map f (marked_below marks (n + 1))
listed_more f marks n = sym (ap (map f) (below_more marks n) ∙ map-append f (marked_below marks n) (if_marked marks n))

pub rank_more : (marks : List Bool) (n : ℕ) (mark : Bool) (first : ℕ) → is_marked marks n ≡ mark → (if mark then first + rank marks n + 1 else first + rank marks n) ≡ first + rank marks (n + 1)
rank_more marks n mark first is = by mark is ∙ ap (λ k. first + rank marks k) (let e : suc n ≡ n + 1 = omega arith in e)
  where
    by : (b : Bool) → is_marked marks n ≡ b → (if b then first + rank marks n + 1 else first + rank marks n) ≡ first + rank marks (suc n)
    by true on = let e = rank_marked marks n on in omega (arith, e)
    by false off = let e = rank_unmarked marks n off in omega (arith, e)

-- places so far, and the next one
pub record PlacedSoFar (marks : List Bool) (first : ℕ) (old : List ℕ) (n next : ℕ) (new : List ℕ) : Type 0 where
  pub next_is : next ≡ first + rank marks n
  pub places_are : new ≡ old ++ map (λ k. first + rank marks k) (range_with_len 0 n)

pub placed-start : (marks : List Bool) (first : ℕ) (old : List ℕ) → PlacedSoFar marks first old 0 first old
placed-start marks first old = record { next_is = omega arith; places_are = sym (append-nil old) }

pub placed-more : (marks : List Bool) (first : ℕ) (old : List ℕ) (n next : ℕ) (new : List ℕ) (mark : Bool) (after : ℕ) → is_marked marks n ≡ mark → after ≡ (if mark then next + 1 else next) →
    PlacedSoFar marks first old n next new → PlacedSoFar marks first old (n + 1) after (new ++ next ∷ [])
placed-more marks first old n next new mark after is then_ before = record {
  next_is = then_ ∙ ap (λ k. if mark then k + 1 else k) before.next_is ∙ rank_more marks n mark first is;
  places_are =
      ap (λ (xs : List ℕ). xs ++ next ∷ []) before.places_are
      ∙ append_assoc old (map (λ k. first + rank marks k) (range_with_len 0 n)) (next ∷ [])
      ∙ ap (λ (xs : List ℕ). old ++ xs) (ap (λ k. map (λ k. first + rank marks k) (range_with_len 0 n) ++ k ∷ []) before.next_is ∙ sym (map-range_with_len_more (λ k. first + rank marks k) 0 n n (omega arith)));
}

pub placed-room : (marks : List Bool) (first n next : ℕ) → n < length marks → next ≡ first + rank marks n → first + length marks ≤ 4294967295 → next < 4294967295
placed-room marks first n next l is fits = let r = rank_within marks n in omega (arith, l, is, fits, r)
