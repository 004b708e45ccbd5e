-- The cofactor tells what the cover does of its operands.
use Rattle.std.proofs.Common.{◌≡◌, inl, inr, ℕ, zero, suc, ◌+◌, ◌<◌, ◌≤◌, ◌++◌, take, Bool, true, false, not, ◌&&◌, ◌||◌, cond, List, [], ◌∷◌, length, map, get_or, Option, Some, None, refl, sym, ap, ◌∙◌, subst, arith, All, true≢false}
use Rattle.std.specs.Prelude.{◌==◌, nat_le}
use Rattle.std.proofs.lemmas.Bool.Decides.{nat_tests}
use Rattle.std.specs.List.{AllZip, AllByRecursion, list_any, filter, position_from}
use Rattle.std.proofs.lemmas.Bool.{and_parts, cases_Bool, eq-eqb, false_from_ne_true, ne_eqb, or_parts}
use Rattle.std.proofs.lemmas.List.Elements.{All-from_recursion, All-head, All-tail, recursion_from_All}
use Rattle.cyc_base.specs.declared.limits.TheConstants.{MAX_PINS}
use Rattle.cyc_base.specs.declared.sig.Sig.{Sig}
use Rattle.cyc_base.specs.declared.trit.Trit.{Trit}
use Rattle.cyc_base.specs.declared.trit.Trit.TheVariants.{Zero, One, X}
use Rattle.cyc_base.specs.Values.{bit, Below, Completes}
use Rattle.cyc_base.proofs.ListLemmas.{all_map}
use Rattle.cyc_base.proofs.OrderLemmas.{Below-refl, Below-from, Below-trans, EachBelow-map, EachBelow-trans}
use Rattle.cover_logic.specs.Covers.{Cover, IsCover, allows, cover_of, first_fault, has_width, matches, some_row_matches, value, value_of_rows}
use Rattle.cover_logic.specs.Extensions.{ext}
use Rattle.cover_logic.specs.Partial.{may_allow}
use Rattle.cover_logic.specs.declared.row.Lit.{Lit}
use Rattle.cover_logic.specs.declared.row.Lit.TheVariants as lit
use Rattle.cover_logic.specs.declared.row.Row.{Row}
use Rattle.cover_logic.proofs.ExtensionLemmas.{exact_from, exact_says, some_completion}
use Rattle.case_split.specs.declared.operands.Operand.{Operand}
use Rattle.case_split.specs.declared.operands.Operand.TheVariants.{Constant, Wire}
use Rattle.case_split.specs.Operands.{value_by, known_value, IsWithin}
use Rattle.case_split.specs.Cofactors.{is_live, live_rows, is_literal, is_asked, left_at, AreLeft, wires_of, left_lits, left_row, IsLeft, IsFolded}

nil_from : {A : Type 0} (xs : List A) → length xs ≡ 0 → xs ≡ []
nil_from [] e = refl
nil_from (x ∷ xs) e = absurd (omega arith)

-- ---- covers of one width have no fault

no_other_width : (pins : ℕ) (rows : List Row) (i : ℕ) → All (λ row. length row.lits ≡ pins) rows → position_from (λ row. not (has_width pins row)) i rows ≡ None
no_other_width pins [] i h = refl
no_other_width pins (row ∷ rows) i h =
    let is = eq-eqb (length row.lits) pins (All-head (λ r. length r.lits ≡ pins) row rows h) in
    let nothing : Option ℕ = None in
    ap (λ (t : Bool). cond (not t) (Some i) (position_from (λ r. not (has_width pins r)) (i + 1) rows)) is
    ∙ no_other_width pins rows (i + 1) (All-tail (λ r. length r.lits ≡ pins) row rows h)

few : (pins : ℕ) → pins ≤ MAX_PINS → nat_le pins MAX_PINS ≡ true
few pins fits = grind (arith, nat_tests)

pub no_fault : (pins : ℕ) (rows : List Row) → pins ≤ MAX_PINS → All (λ row. length row.lits ≡ pins) rows → first_fault pins rows ≡ None
no_fault pins rows fits each = grind (arith, few pins, no_other_width pins rows 0 each)

-- ---- a completion of the wires that are left as one of all operands

some_bit : Trit → Bool
some_bit One = true
some_bit Zero = false
some_bit X = false

some_bit-above : (x : Trit) → Below x (bit (some_bit x))
unfolding some_bit
some_bit-above One = refl
some_bit-above Zero = refl
some_bit-above X = tt

filled : List Operand → List (Option Sig) → (Sig → Trit) → List Bool → List Bool
filled [] left f cs = []
filled (o ∷ os) [] f cs = some_bit (value_by f o) ∷ filled os [] f cs
filled (o ∷ os) (None ∷ left) f cs = some_bit (value_by f o) ∷ filled os left f cs
filled (o ∷ os) (Some s ∷ left) f [] = some_bit (value_by f o) ∷ filled os left f []
filled (o ∷ os) (Some s ∷ left) f (c ∷ cs) = c ∷ filled os left f cs

-- what is left at a pin is its wire
abbrev pub IsLeftPin : Operand → Option Sig → Type 0
IsLeftPin o None = Unit {0}
IsLeftPin o (Some s) = o ≡ Wire s

filled-completes : (os : List Operand) (left : List (Option Sig)) (f : Sig → Trit) (cs : List Bool) → AllZip IsLeftPin os left → Completes (map f (wires_of left)) cs → Completes (map (value_by f) os) (filled os left f cs)
unfolding filled
filled-completes [] left f cs l c = tt
filled-completes (o ∷ os) [] f cs l c = absurd l
filled-completes (o ∷ os) (None ∷ left) f cs l c = (some_bit-above (value_by f o), filled-completes os left f cs l.1 c)
filled-completes (o ∷ os) (Some s ∷ left) f [] l c = absurd c
filled-completes (o ∷ os) (Some s ∷ left) f (b ∷ cs) l c = (subst (λ (p : Operand). Below (value_by f p) (bit b)) (sym l.0) c.0, filled-completes os left f cs l.1 c.1)

known_below : (f : Sig → Trit) (o : Operand) → Below (known_value o) (value_by f o)
known_below f (Constant b) = Below-refl (bit b)
known_below f (Wire s) = tt

filled-known : (os : List Operand) (left : List (Option Sig)) (f : Sig → Trit) (cs : List Bool) → AllZip IsLeftPin os left → Completes (map f (wires_of left)) cs → Completes (map known_value os) (filled os left f cs)
filled-known os left f cs l c =
    EachBelow-trans (map known_value os) (map (value_by f) os) (map bit (filled os left f cs))
    (EachBelow-map known_value (value_by f) os (known_below f)) (filled-completes os left f cs l c)

-- ---- rows

-- a literal of a live row at a pin where nothing is left allows what is known, and asks nothing of a wire
abbrev pub FitsPin : Operand → Option Sig → Lit → Type 0
FitsPin (Constant b) None l = may_allow l (bit b) ≡ true
FitsPin (Constant b) (Some s) l = ⊥
FitsPin (Wire s) None l = l ≡ lit.Any
FitsPin (Wire s) (Some t) l = Unit {0}

abbrev pub Fits : List Operand → List (Option Sig) → List Lit → Type 0
Fits [] [] [] = Unit {0}
Fits [] [] (l ∷ ls) = ⊥
Fits [] (p ∷ ps) ls = ⊥
Fits (o ∷ os) [] ls = ⊥
Fits (o ∷ os) (p ∷ ps) [] = ⊥
Fits (o ∷ os) (p ∷ ps) (l ∷ ls) = FitsPin o p l × Fits os ps ls

passes : (f : Sig → Trit) (o : Operand) (l : Lit) → FitsPin o None l → allows l (some_bit (value_by f o)) ≡ true
unfolding some_bit
passes f (Constant true) lit.Zero h = h
passes f (Constant true) lit.One h = refl
passes f (Constant true) lit.Any h = refl
passes f (Constant false) lit.Zero h = refl
passes f (Constant false) lit.One h = h
passes f (Constant false) lit.Any h = refl
passes f (Wire s) l h = ap (λ k. allows k (some_bit (f s))) h

matches-filled : (os : List Operand) (left : List (Option Sig)) (ls : List Lit) (f : Sig → Trit) (cs : List Bool) → Fits os left ls → Completes (map f (wires_of left)) cs → matches ls (filled os left f cs) ≡ matches (left_lits ls left) cs
unfolding filled
matches-filled [] [] [] f cs h c = refl
matches-filled [] [] (l ∷ ls) f cs h c = absurd h
matches-filled [] (p ∷ ps) ls f cs h c = absurd h
matches-filled (o ∷ os) [] ls f cs h c = absurd h
matches-filled (o ∷ os) (None ∷ ps) [] f cs h c = absurd h
matches-filled (o ∷ os) (Some s ∷ ps) [] f cs h c = absurd h
matches-filled (o ∷ os) (None ∷ ps) (l ∷ ls) f cs h c =
    ap (λ t. t && matches ls (filled os ps f cs)) (passes f o l h.0) ∙ matches-filled os ps ls f cs h.1 c
matches-filled (o ∷ os) (Some s ∷ ps) (l ∷ ls) f [] h c = absurd c
matches-filled (o ∷ os) (Some s ∷ ps) (l ∷ ls) f (b ∷ cs) h c =
    ap (λ t. allows l b && t) (matches-filled os ps ls f cs h.1 c.1)

allows_may : (l : Lit) (t : Trit) (b : Bool) → Below t (bit b) → allows l b ≡ true → may_allow l t ≡ true
allows_may l t b c h = grind arith

and_both : (a b : Bool) → a ≡ true → b ≡ true → (a && b) ≡ true
and_both a b h k = grind arith

matches_live : (lits : List Lit) (os : List Operand) (bs : List Bool) → Completes (map known_value os) bs → matches lits bs ≡ true → is_live lits os ≡ true
matches_live [] os bs c h = refl
matches_live (l ∷ lits) [] bs c h = refl
matches_live (l ∷ lits) (o ∷ os) [] c h = absurd c
matches_live (l ∷ lits) (o ∷ os) (b ∷ bs) c h =
    let p = and_parts (allows l b) (matches lits bs) h in
    and_both (may_allow l (known_value o)) (is_live lits os) (allows_may l (known_value o) b c.0 p.0) (matches_live lits os bs c.1 p.1)

-- each live row fits
abbrev pub LiveFits : List Operand → List (Option Sig) → Row → Type 0
LiveFits os left row = is_live row.lits os ≡ true → Fits os left row.lits

row_same : (os : List Operand) (left : List (Option Sig)) (row : Row) (f : Sig → Trit) (cs : List Bool) → LiveFits os left row → AllZip IsLeftPin os left → Completes (map f (wires_of left)) cs →
    matches row.lits (filled os left f cs) ≡ (is_live row.lits os && matches (left_lits row.lits left) cs)
row_same os left row f cs fits l c = elim (cases_Bool (is_live row.lits os)) [
  | inl e ↦ matches-filled os left row.lits f cs (fits e) c ∙ sym (ap (λ t. t && matches (left_lits row.lits left) cs) e)
  | inr e ↦
      false_from_ne_true (matches row.lits (filled os left f cs))
      (λ h. true≢false (sym (matches_live row.lits os (filled os left f cs) (filled-known os left f cs l c) h) ∙ e))
      ∙ sym (ap (λ t. t && matches (left_lits row.lits left) cs) e)
]

any_kept : {A B : Type 0} (g : B → Bool) (h : A → B) (x : A) (xs : List A) (kept : Bool) → list_any g (map h (cond kept (x ∷ xs) xs)) ≡ ((kept && g (h x)) || list_any g (map h xs))
any_kept g h x xs kept = grind arith

rows_same : (os : List Operand) (left : List (Option Sig)) (rows : List Row) (f : Sig → Trit) (cs : List Bool) → AllByRecursion (LiveFits os left) rows → AllZip IsLeftPin os left → Completes (map f (wires_of left)) cs →
    some_row_matches rows (filled os left f cs) ≡ some_row_matches (map (left_row left) (live_rows rows os)) cs
rows_same os left [] f cs fits l c = refl
rows_same os left (row ∷ rows) f cs fits l c =
    grind (arith, row_same os left row f cs fits.0 l c, rows_same os left rows f cs fits.1 l c, any_kept (λ r. matches r.lits cs) (left_row left) row (live_rows rows os) (is_live row.lits os))

-- ---- planes

in_plane : Bool → Bool → Bool
in_plane true b = b
in_plane false b = not b

in_plane-true : (plane : Bool) → in_plane plane true ≡ plane
unfolding in_plane
in_plane-true true = refl
in_plane-true false = refl

in_plane-false : (plane : Bool) → in_plane plane false ≡ not plane
unfolding in_plane
in_plane-false true = refl
in_plane-false false = refl

value_in_plane : (plane : Bool) (rows : List Row) (bs : List Bool) → (rows ≡ [] → plane ≡ true) → value_of_rows plane rows bs ≡ in_plane plane (some_row_matches rows bs)
unfolding in_plane
value_in_plane true rows bs n = refl
value_in_plane false [] bs n = absurd (true≢false (sym (n refl)))
value_in_plane false (row ∷ rows) bs n = refl

plane_kept : (plane : Bool) (live : List Row) (left : List (Option Sig)) → (live ≡ [] → ⊥) → (plane || (length (map (left_row left) live) == 0)) ≡ plane
plane_kept true live left some = refl
plane_kept false [] left some = absurd (some refl)
plane_kept false (row ∷ live) left some = ne_eqb (length (map (left_row left) (row ∷ live))) 0 (λ e. absurd (omega (arith, e)))

-- ---- what is left fits

live-at : (ls : List Lit) (os : List Operand) (i : ℕ) (d : Operand) → is_live ls os ≡ true → i < length os → i < length ls → may_allow (get_or ls i lit.Any) (known_value (get_or os i d)) ≡ true
live-at [] os i d h l k = absurd (omega arith)
live-at (x ∷ ls) [] i d h l k = absurd (omega arith)
live-at (x ∷ ls) (o ∷ os) zero d h l k = (and_parts (may_allow x (known_value o)) (is_live ls os) h).0
live-at (x ∷ ls) (o ∷ os) (suc i) d h l k = live-at ls os i d (and_parts (may_allow x (known_value o)) (is_live ls os) h).1 (omega arith) (omega arith)

fits_by : (os : List Operand) (left : List (Option Sig)) (ls : List Lit) → length left ≡ length os → length ls ≡ length os → ((i : ℕ) (d : Operand) → i < length os → FitsPin (get_or os i d) (get_or left i None) (get_or ls i lit.Any)) → Fits os left ls
fits_by [] [] [] a b h = tt
fits_by [] [] (l ∷ ls) a b h = absurd (omega arith)
fits_by [] (p ∷ left) ls a b h = absurd (omega arith)
fits_by (o ∷ os) [] ls a b h = absurd (omega arith)
fits_by (o ∷ os) (p ∷ left) [] a b h = absurd (omega arith)
fits_by (o ∷ os) (p ∷ left) (l ∷ ls) a b h = (h zero o (omega arith), fits_by os left ls (omega arith) (omega arith) (λ i d k. h (suc i) d (omega arith)))

left_by : (os : List Operand) (left : List (Option Sig)) → length left ≡ length os → ((i : ℕ) (d : Operand) → i < length os → IsLeftPin (get_or os i d) (get_or left i None)) → AllZip IsLeftPin os left
left_by [] [] a h = tt
left_by [] (p ∷ left) a h = absurd (omega arith)
left_by (o ∷ os) [] a h = absurd (omega arith)
left_by (o ∷ os) (p ∷ left) a h = (h zero o (omega arith), left_by os left (omega arith) (λ i d k. h (suc i) d (omega arith)))

not_literal : (l : Lit) → is_literal l ≡ false → l ≡ lit.Any
not_literal lit.Zero h = cc
not_literal lit.One h = cc
not_literal lit.Any h = refl

none_of_kept : {A : Type 0} (q : A → Bool) (x : A) (xs : List A) (kept : Bool) → list_any q (cond kept (x ∷ xs) xs) ≡ false → (kept ≡ true → q x ≡ false) × (list_any q xs ≡ false)
none_of_kept q x xs true h = let p = or_parts (q x) (list_any q xs) h in (λ e. p.0, p.1)
none_of_kept q x xs false h = (λ e. cc, h)

none_of_filtered : {A : Type 0} (p q : A → Bool) (xs : List A) (k : ℕ) (d : A) → list_any q (filter p xs) ≡ false → k < length xs → p (get_or xs k d) ≡ true → q (get_or xs k d) ≡ false
none_of_filtered p q [] k d h l e = absurd (omega arith)
none_of_filtered p q (x ∷ xs) zero d h l e = (none_of_kept q x (filter p xs) (p x) h).0 e
none_of_filtered p q (x ∷ xs) (suc k) d h l e = none_of_filtered p q xs k d (none_of_kept q x (filter p xs) (p x) h).1 (omega arith) e

asked_or_not : (b : Bool) (s : Sig) (l : Lit) → (b ≡ false → l ≡ lit.Any) → FitsPin (Wire s) (cond b (Some s) None) l
asked_or_not true s l h = tt
asked_or_not false s l h = h refl

wire_or_not : (b : Bool) (s : Sig) → IsLeftPin (Wire s) (cond b (Some s) None)
wire_or_not true s = refl
wire_or_not false s = tt

left_is_pin : (live : List Row) (i : ℕ) (o : Operand) → IsLeftPin o (left_at live i o)
left_is_pin live i (Constant b) = tt
left_is_pin live i (Wire s) = wire_or_not (is_asked live i) s

module _ (os : List Operand) (rows : List Row) (width : All (λ row. length row.lits ≡ length os) rows) where
  abbrev live : List Row
  live = live_rows rows os

  left_fits : (k : ℕ) (d : Row) (i : ℕ) (o : Operand) → k < length rows → is_live (get_or rows k d).lits os ≡ true → (may_allow (get_or (get_or rows k d).lits i lit.Any) (known_value o) ≡ true) → FitsPin o (left_at live i o) (get_or (get_or rows k d).lits i lit.Any)
  left_fits k d i (Constant b) l may known = known
  left_fits k d i (Wire s) l may known =
      asked_or_not (is_asked live i) s (get_or (get_or rows k d).lits i lit.Any)
      (λ e. not_literal (get_or (get_or rows k d).lits i lit.Any) (none_of_filtered (λ row. is_live row.lits os) (λ row. is_literal (get_or row.lits i lit.Any)) rows k d e l may))

  module _ (left : List (Option Sig)) (are : AreLeft live os left) where
    zipped : AllZip IsLeftPin os left
    zipped = left_by os left are.width (λ i d l. subst (IsLeftPin (get_or os i d)) (sym (are.each i d l)) (left_is_pin live i (get_or os i d)))

    all_fit : AllByRecursion (LiveFits os left) rows
    all_fit = recursion_from_All (LiveFits os left) rows (λ k d l may.
        fits_by os left (get_or rows k d).lits are.width (width k d l)
        (λ i o h.
        let w = width k d l in
        subst (λ (p : Option Sig). FitsPin (get_or os i o) p (get_or (get_or rows k d).lits i lit.Any)) (sym (are.each i o h))
        (left_fits k d i (get_or os i o) l may (live-at (get_or rows k d).lits os i o may h (omega arith)))))

    module _ (plane : Bool) (proper : rows ≡ [] → plane ≡ true) (f : Sig → Trit) where
      -- the cover's value at a completion is by the live rows
      value_left : (cs : List Bool) → Completes (map f (wires_of left)) cs → value_of_rows plane rows (filled os left f cs) ≡ in_plane plane (some_row_matches (map (left_row left) live) cs)
      value_left cs c = value_in_plane plane rows (filled os left f cs) proper ∙ ap (in_plane plane) (rows_same os left rows f cs all_fit zipped c)

-- ---- no row is live

nothing_kept : {A : Type 0} (kept : Bool) (x : A) (xs : List A) → cond kept (x ∷ xs) xs ≡ [] → (kept ≡ false) × (xs ≡ [])
nothing_kept true x xs e = cc
nothing_kept false x xs e = (refl, e)

none_match : (rows : List Row) (os : List Operand) (bs : List Bool) → live_rows rows os ≡ [] → Completes (map known_value os) bs → some_row_matches rows bs ≡ false
none_match [] os bs e c = refl
none_match (row ∷ rows) os bs e c =
    let n = nothing_kept (is_live row.lits os) row (live_rows rows os) e in
    ap (λ t. t || some_row_matches rows bs) (false_from_ne_true (matches row.lits bs) (λ h. true≢false (sym (matches_live row.lits os bs c h) ∙ n.0)))
    ∙ none_match rows os bs n.1 c

pub folded_none : (cover : Cover) (os : List Operand) → IsCover cover → live_rows cover.rows os ≡ [] → IsFolded cover os (Constant (not cover.plane))
folded_none cover os proper none = record {
  tells = λ f. Below-from (ext cover (map (value_by f) os)) (bit (not cover.plane)) (λ b e.
      let some = some_completion (map (value_by f) os) in
      let known = EachBelow-trans (map known_value os) (map (value_by f) os) (map bit some.0) (EachBelow-map known_value (value_by f) os (known_below f)) some.1 in
      ap bit
      (sym (value_in_plane cover.plane cover.rows some.0 proper.plane ∙ ap (in_plane cover.plane) (none_match cover.rows os some.0 none known) ∙ in_plane-false cover.plane)
      ∙ exact_says (value cover) (map (value_by f) os) b e some.0 some.1));
  within = λ bound all. tt;
}

-- ---- no pin is left

matches-nil : (ls : List Lit) → matches ls [] ≡ true
matches-nil [] = refl
matches-nil (l ∷ ls) = refl

some_left : (left : List (Option Sig)) (live : List Row) → (live ≡ [] → ⊥) → some_row_matches (map (left_row left) live) [] ≡ true
some_left left [] some = absurd (some refl)
some_left left (row ∷ live) some = ap (λ t. t || some_row_matches (map (left_row left) live) []) (matches-nil (left_lits row.lits left))

pub folded_all : (cover : Cover) (os : List Operand) (left : List (Option Sig)) → IsCover cover → length os ≡ cover.pins → (live_rows cover.rows os ≡ [] → ⊥) → AreLeft (live_rows cover.rows os) os left → wires_of left ≡ [] → IsFolded cover os (Constant cover.plane)
folded_all cover os left proper pins some are none =
    let width : All (λ row. length row.lits ≡ length os) cover.rows = λ k d l. proper.width k d l ∙ sym pins in
    record {
      tells = λ f. Below-from (ext cover (map (value_by f) os)) (bit cover.plane) (λ b e.
          let nothing : Completes (map f (wires_of left)) [] = subst (λ (ws : List Sig). Completes (map f ws) []) (sym none) tt in
          ap bit
          (sym (value_left os cover.rows width left are cover.plane proper.plane f [] nothing ∙ ap (in_plane cover.plane) (some_left left (live_rows cover.rows os) some) ∙ in_plane-true cover.plane)
          ∙ exact_says (value cover) (map (value_by f) os) b e (filled os left f []) (filled-completes os left f [] (zipped os cover.rows width left are) nothing)));
      within = λ bound all. tt;
    }

-- ---- a cover is left

pub left_few : (left : List (Option Sig)) → length (wires_of left) ≤ length left
left_few [] = omega arith
left_few (None ∷ left) = omega (arith, left_few left)
left_few (Some s ∷ left) = omega (arith, left_few left)

left_width : (ls : List Lit) (left : List (Option Sig)) → length ls ≡ length left → length (left_lits ls left) ≡ length (wires_of left)
left_width [] [] e = refl
left_width [] (p ∷ left) e = absurd (omega arith)
left_width (l ∷ ls) [] e = absurd (omega arith)
left_width (l ∷ ls) (None ∷ left) e = left_width ls left (omega arith)
left_width (l ∷ ls) (Some s ∷ left) e = ap suc (left_width ls left (omega arith))

all_kept : {A : Type 0} (P : A → Type 0) (kept : Bool) (x : A) (xs : List A) → P x → AllByRecursion P xs → AllByRecursion P (cond kept (x ∷ xs) xs)
all_kept P true x xs h k = (h, k)
all_kept P false x xs h k = k

pub all_filtered : {A : Type 0} (P : A → Type 0) (p : A → Bool) (xs : List A) → AllByRecursion P xs → AllByRecursion P (filter p xs)
all_filtered P p [] h = tt
all_filtered P p (x ∷ xs) h = all_kept P (p x) x (filter p xs) h.0 (all_filtered P p xs h.1)

pub left_rows_fit : (cover : Cover) (os : List Operand) (left : List (Option Sig)) → IsCover cover → length os ≡ cover.pins → length left ≡ length os →
    All (λ row. length row.lits ≡ length (wires_of left)) (map (left_row left) (live_rows cover.rows os))
left_rows_fit cover os left proper pins wide =
    All-from_recursion (λ row. length row.lits ≡ length (wires_of left)) (map (left_row left) (live_rows cover.rows os))
    (all_map (λ row. length row.lits ≡ length (wires_of left)) (left_row left) (live_rows cover.rows os)
    (all_filtered (λ row. length (left_row left row).lits ≡ length (wires_of left)) (λ row. is_live row.lits os) cover.rows
    (recursion_from_All (λ row. length (left_row left row).lits ≡ length (wires_of left)) cover.rows
    (λ k d l. left_width (get_or cover.rows k d).lits left (proper.width k d l ∙ sym pins ∙ sym wide)))))

wires_within : (bound : ℕ) (os : List Operand) (left : List (Option Sig)) → AllZip IsLeftPin os left → AllByRecursion (IsWithin bound) os → AllByRecursion (λ s. s.0 < bound) (wires_of left)
wires_within bound [] [] l h = tt
wires_within bound [] (p ∷ left) l h = absurd l
wires_within bound (o ∷ os) [] l h = absurd l
wires_within bound (o ∷ os) (None ∷ left) l h = wires_within bound os left l.1 h.1
wires_within bound (o ∷ os) (Some s ∷ left) l h = (subst (IsWithin bound) l.0 h.0, wires_within bound os left l.1 h.1)

no_rows : (left : List (Option Sig)) (live : List Row) → (live ≡ [] → ⊥) → map (left_row left) live ≡ [] → ⊥
no_rows left [] some e = some refl
no_rows left (row ∷ live) some e = cc

pub cover_is_left : (cover : Cover) (os : List Operand) (left : List (Option Sig)) → IsCover cover → length os ≡ cover.pins → (live_rows cover.rows os ≡ [] → ⊥) → AreLeft (live_rows cover.rows os) os left →
    IsLeft cover os (cover_of (length (wires_of left)) cover.plane (map (left_row left) (live_rows cover.rows os))) (wires_of left)
cover_is_left cover os left proper pins some are =
    let live = live_rows cover.rows os in
    let rows = map (left_row left) live in
    let width : All (λ row. length row.lits ≡ length os) cover.rows = λ k d l. proper.width k d l ∙ sym pins in
    let rest = cover_of (length (wires_of left)) cover.plane rows in
    record {
      tells = λ f. Below-from (ext cover (map (value_by f) os)) (ext rest (map f (wires_of left))) (λ b e.
          exact_from (value rest) (map f (wires_of left)) b (λ cs c.
          ap (λ p. value_of_rows p rows cs) (plane_kept cover.plane live left some)
          ∙ value_in_plane cover.plane rows cs (λ nil. absurd (no_rows left live some nil))
          ∙ sym (value_left os cover.rows width left are cover.plane proper.plane f cs c)
          ∙ exact_says (value cover) (map (value_by f) os) b e (filled os left f cs) (filled-completes os left f cs (zipped os cover.rows width left are) c)));
      width = refl;
      within = λ bound all. All-from_recursion (λ s. s.0 < bound) (wires_of left)
          (wires_within bound os left (zipped os cover.rows width left are) (recursion_from_All (IsWithin bound) os all));
    }

-- ---- one pin more

next_wire : (left : List (Option Sig)) (k : ℕ) (p d : Option Sig) → k < length left → get_or left k d ≡ p → wires_of (take (suc k) left) ≡ wires_of (take k left) ++ wires_of (p ∷ [])
next_wire [] k p d l e = absurd (omega arith)
next_wire (None ∷ left) zero p d l e = subst (λ (q : Option Sig). wires_of (None ∷ []) ≡ wires_of (q ∷ [])) e refl
next_wire (Some s ∷ left) zero p d l e = subst (λ (q : Option Sig). wires_of (Some s ∷ []) ≡ wires_of (q ∷ [])) e refl
next_wire (None ∷ left) (suc k) p d l e = next_wire left k p d (omega arith) e
next_wire (Some s ∷ left) (suc k) p d l e = ap (λ ws. s ∷ ws) (next_wire left k p d (omega arith) e)

pub wires_next : (left : List (Option Sig)) (k : ℕ) (p d : Option Sig) → k < length left → get_or left k d ≡ p → wires_of (take (k + 1) left) ≡ wires_of (take k left) ++ wires_of (p ∷ [])
wires_next left k p d l e = subst (λ n. wires_of (take n left) ≡ wires_of (take k left) ++ wires_of (p ∷ [])) (let e : suc k ≡ k + 1 = omega arith in e) (next_wire left k p d l e)

-- ---- by what is known of the parts

module _ (cover : Cover) (os : List Operand) (rows live : List Row) (plane : Bool) (proper : IsCover cover) (er : rows ≡ cover.rows) (el : live ≡ live_rows rows os) (ep : plane ≡ cover.plane) where
  pub none_answer : length live ≡ 0 → IsFolded cover os (Constant (not plane))
  none_answer none =
      subst (λ p. IsFolded cover os (Constant (not p))) (sym ep)
      (folded_none cover os proper (sym (el ∙ ap (λ r. live_rows r os) er) ∙ nil_from live none))

module _ (cover : Cover) (os : List Operand) (live : List Row) (left : List (Option Sig)) (wires : List Sig) (proper : IsCover cover) (pins : length os ≡ cover.pins) (el : live ≡ live_rows cover.rows os) (are : AreLeft live os left) (ew : wires ≡ wires_of left) where
  left_are : AreLeft (live_rows cover.rows os) os left
  left_are = subst (λ (r : List Row). AreLeft r os left) el are

  pub all_answer : (plane : Bool) → plane ≡ cover.plane → (length live ≡ 0 → ⊥) → length wires ≡ 0 → IsFolded cover os (Constant plane)
  all_answer plane ep some none =
      subst (λ p. IsFolded cover os (Constant p)) (sym ep)
      (folded_all cover os left proper pins (λ e. some (ap length (el ∙ e))) left_are (sym ew ∙ nil_from wires none))

  pub left_answer : (plane : Bool) (rest : List Row) (count : ℕ) (made : Cover) → plane ≡ cover.plane → (length live ≡ 0 → ⊥) → rest ≡ map (left_row left) live → count ≡ length wires → made ≡ cover_of count plane rest → IsLeft cover os made wires
  left_answer plane rest count made ep some em ec is =
      let made_is : cover_of (length (wires_of left)) cover.plane (map (left_row left) (live_rows cover.rows os)) ≡ made =
      ap (λ r. cover_of (length (wires_of left)) cover.plane (map (left_row left) r)) (sym el)
      ∙ ap (λ p. cover_of (length (wires_of left)) p (map (left_row left) live)) (sym ep)
      ∙ ap (λ r. cover_of (length (wires_of left)) plane r) (sym em)
      ∙ ap (λ n. cover_of n plane rest) (ap length (sym ew) ∙ sym ec)
      ∙ sym is in
      subst (λ ws. IsLeft cover os made ws) (sym ew)
      (subst (λ m. IsLeft cover os m (wires_of left)) made_is
      (cover_is_left cover os left proper pins (λ e. some (ap length (el ∙ e))) left_are))

  pub rest_fits : (rest : List Row) (count : ℕ) → rest ≡ map (left_row left) live → count ≡ length wires → first_fault count rest ≡ None
  rest_fits rest count em ec =
      let counted : count ≡ length (wires_of left) = ec ∙ ap length ew in
      let small = left_few left in
      let fits = left_rows_fit cover os left proper pins are.width in
      let most : cover.pins ≤ MAX_PINS = proper.pins in
      let wide = are.width in
      no_fault count rest (omega arith)
      (subst (λ (n : ℕ). All (λ row. length row.lits ≡ n) rest) (sym counted)
      (subst (λ (r : List Row). All (λ row. length row.lits ≡ length (wires_of left)) r) (ap (map (left_row left)) (sym el) ∙ sym em) fits))

-- ---- a cover of one pin that is the same as it

same_below : (cover : Cover) (x : Trit) → value cover (false ∷ []) ≡ false → value cover (true ∷ []) ≡ true → Below (ext cover (x ∷ [])) x
same_below cover Zero low high = Below-from (ext cover (Zero ∷ [])) Zero (λ b e. ap bit (sym low ∙ exact_says (value cover) (Zero ∷ []) b e (false ∷ []) (refl, tt)))
same_below cover One low high = Below-from (ext cover (One ∷ [])) One (λ b e. ap bit (sym high ∙ exact_says (value cover) (One ∷ []) b e (true ∷ []) (refl, tt)))
same_below cover X low high =
    Below-from (ext cover (X ∷ [])) X (λ b e.
    absurd (true≢false
    (sym high ∙ exact_says (value cover) (X ∷ []) b e (true ∷ []) (tt, tt) ∙ sym (exact_says (value cover) (X ∷ []) b e (false ∷ []) (tt, tt)) ∙ low)))

pub same_folded : (cover : Cover) (os : List Operand) (rest : Cover) (wires : List Sig) (d : Sig) → length wires ≡ 1 → value rest (false ∷ []) ≡ false → value rest (true ∷ []) ≡ true → IsLeft cover os rest wires → IsFolded cover os (Wire (get_or wires 0 d))
same_folded cover os rest [] d e low high is = absurd (omega arith)
same_folded cover os rest (w ∷ x ∷ wires) d e low high is = absurd (omega arith)
same_folded cover os rest (w ∷ []) d e low high is = record {
  tells = λ f. Below-trans (ext cover (map (value_by f) os)) (ext rest (f w ∷ [])) (f w) (is.tells f) (same_below rest (f w) low high);
  within = λ bound all. is.within bound all 0 w (omega arith);
}
