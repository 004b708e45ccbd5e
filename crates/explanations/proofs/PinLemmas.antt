-- Choosing values of free pins, one by one.
use Rattle.std.proofs.Common.{◌≡◌, ◌⊎◌, inl, inr, ℕ, zero, suc, Bool, true, false, not, List, [], ◌∷◌, map, get_or, set, refl, ap, sym, ◌∙◌, subst, arith, true≢false, ◌↔◌}
use Rattle.std.specs.List.{list_any, AllZip, All}
use Rattle.std.specs.Prelude.{IfOk}
use Rattle.std.specs.declared.result.Result.{Result}
use Rattle.std.proofs.lemmas.Bool.{or_cases, or_parts, or_left, or_right, false_from_ne_true}
use Rattle.std.proofs.lemmas.List.{length-set}
use Rattle.cyc_base.specs.declared.trit.Trit.{Trit}
use Rattle.cyc_base.specs.declared.trit.Trit.TheVariants.{Zero, One, X}
use Rattle.cyc_base.specs.Values.{bit, Below, EachBelow}
use Rattle.cyc_base.proofs.OrderLemmas.{Below-refl, Below-at, EachBelow-refl}
use Rattle.cover_logic.specs.declared.row.Row.{Row}
use Rattle.cover_logic.specs.Covers.{Cover, value, matches, some_row_matches, value_of_rows}
use Rattle.cover_logic.specs.Extensions.{ext}
use Rattle.cover_logic.specs.Partial.{asks}
use Rattle.cover_logic.proofs.ExtensionLemmas.{exact_says, exact_from, ext_is_monotone}
use Rattle.cover_logic.proofs.TautologyLemmas.{matches_other, completes-reset, set-completes}
use Rattle.explanations.specs.declared.pins.Pin.{Pin}
use Rattle.explanations.specs.declared.pins.Pin.TheVariants.{Known, Open, Free}
use Rattle.explanations.specs.Pins.{trit_of, is_free, MayBe, AreAsGood, CanBe, spoiling, IsBetter, free_count}

-- ---- rows at the two values of a pin

some_matches_other : (rows : List Row) (bs : List Bool) (pin : ℕ) (b : Bool) → list_any (λ row. asks row.lits pin b) rows ≡ false → some_row_matches rows (set bs pin b) ≡ true → some_row_matches rows (set bs pin (not b)) ≡ true
some_matches_other [] bs pin b n h = h
some_matches_other (row ∷ rows) bs pin b n h =
    let q = or_parts (asks row.lits pin b) (list_any (λ r. asks r.lits pin b) rows) n in
    elim (or_cases (matches row.lits (set bs pin b)) (some_row_matches rows (set bs pin b)) h) [
      | inl e ↦ or_left (matches row.lits (set bs pin (not b))) (some_row_matches rows (set bs pin (not b))) (matches_other row.lits bs pin b q.0 e)
      | inr e ↦ or_right (matches row.lits (set bs pin (not b))) (some_row_matches rows (set bs pin (not b))) (some_matches_other rows bs pin b q.1 e)
    ]

-- where rows match that list a value, or don't that list the other, a gate has it
value_moves : (plane : Bool) (rows : List Row) (bs cs : List Bool) → (some_row_matches rows bs ≡ true → some_row_matches rows cs ≡ true) → value_of_rows plane rows bs ≡ plane → value_of_rows plane rows cs ≡ plane
value_moves true rows bs cs m h = m h
value_moves false [] bs cs m h = refl
value_moves false (row ∷ rows) bs cs m h = grind arith

value_stays : (plane : Bool) (rows : List Row) (bs cs : List Bool) → (some_row_matches rows cs ≡ true → some_row_matches rows bs ≡ true) → value_of_rows plane rows bs ≡ not plane → value_of_rows plane rows cs ≡ not plane
value_stays true rows bs cs m h = false_from_ne_true (some_row_matches rows cs) (λ e. true≢false (sym (m e) ∙ h))
value_stays false [] bs cs m h = absurd (true≢false (sym h))
value_stays false (row ∷ rows) bs cs m h = grind arith

-- the gate has the wanted value at b wherever it has it at not b
value_better : (plane : Bool) (rows : List Row) (bs : List Bool) (pin : ℕ) (wanted b : Bool) → list_any (λ row. asks row.lits pin (spoiling plane wanted b)) rows ≡ false →
    value_of_rows plane rows (set bs pin (not b)) ≡ wanted → value_of_rows plane rows (set bs pin b) ≡ wanted
value_better true rows bs pin true true n h = value_moves true rows (set bs pin false) (set bs pin true) (some_matches_other rows bs pin false n) h
value_better true rows bs pin true false n h = value_moves true rows (set bs pin true) (set bs pin false) (some_matches_other rows bs pin true n) h
value_better false rows bs pin false true n h = value_moves false rows (set bs pin false) (set bs pin true) (some_matches_other rows bs pin false n) h
value_better false rows bs pin false false n h = value_moves false rows (set bs pin true) (set bs pin false) (some_matches_other rows bs pin true n) h
value_better true rows bs pin false true n h = value_stays true rows (set bs pin false) (set bs pin true) (some_matches_other rows bs pin true n) h
value_better true rows bs pin false false n h = value_stays true rows (set bs pin true) (set bs pin false) (some_matches_other rows bs pin false n) h
value_better false rows bs pin true true n h = value_stays false rows (set bs pin false) (set bs pin true) (some_matches_other rows bs pin true n) h
value_better false rows bs pin true false n h = value_stays false rows (set bs pin true) (set bs pin false) (some_matches_other rows bs pin false n) h

-- ---- completions with another value of a pin

ext_better : (cover : Cover) (values : List Trit) (pin : ℕ) (wanted b : Bool) → IsBetter cover pin wanted b → ext cover (set values pin (bit (not b))) ≡ bit wanted → ext cover (set values pin (bit b)) ≡ bit wanted
ext_better cover values pin wanted b better e =
    exact_from (value cover) (set values pin (bit b)) wanted (λ bs c.
    let other = exact_says (value cover) (set values pin (bit (not b))) wanted e (set bs pin (not b)) (completes-reset values bs pin b (not b) c) in
    subst (λ (cs : List Bool). value cover cs ≡ wanted) (set-completes values bs pin b c)
    (value_better cover.plane cover.rows bs pin wanted b better other))

-- ---- pins and their values

may_be_known : (pin : Pin) → MayBe pin (trit_of pin)
may_be_known pin = grind arith

all_may_be_known : (pins : List Pin) → AllZip MayBe pins (map trit_of pins)
all_may_be_known [] = tt
all_may_be_known (pin ∷ pins) = (may_be_known pin, all_may_be_known pins)

pub can_be_known : (cover : Cover) (pins : List Pin) (wanted : Bool) → ext cover (map trit_of pins) ≡ bit wanted → CanBe cover pins wanted
can_be_known cover pins wanted e = record { values = map trit_of pins; may = all_may_be_known pins; is = e }

-- without a free pin there is no choice
same_known : (pin : Pin) (value : Trit) → is_free pin ≡ false → MayBe pin value → value ≡ trit_of pin
same_known pin value n m = grind arith

only_known : (pins : List Pin) (values : List Trit) → All (λ pin. is_free pin ≡ false) pins → AllZip MayBe pins values → values ≡ map trit_of pins
only_known [] [] n m = refl
only_known [] (v ∷ values) n m = absurd m
only_known (pin ∷ pins) [] n m = absurd m
only_known (pin ∷ pins) (v ∷ values) n m =
    ap (λ t. t ∷ values) (same_known pin v (n 0 pin (omega arith)) m.0)
    ∙ ap (λ ts. trit_of pin ∷ ts) (only_known pins values (λ k d l. n (suc k) d (omega arith)) m.1)

pub cannot_be : (cover : Cover) (pins : List Pin) (wanted : Bool) → All (λ pin. is_free pin ≡ false) pins → (ext cover (map trit_of pins) ≡ bit wanted → ⊥) → ¬ CanBe cover pins wanted
cannot_be cover pins wanted n not_known can = not_known (ap (ext cover) (sym (only_known pins can.values n can.may)) ∙ can.is)

may_set : (pins : List Pin) (values : List Trit) (pin : ℕ) (b : Bool) → AllZip MayBe pins values → AllZip MayBe (set pins pin (Known b)) (set values pin (bit b))
may_set [] [] pin b m = tt
may_set [] (v ∷ values) pin b m = absurd m
may_set (p ∷ pins) [] pin b m = absurd m
may_set (p ∷ pins) (v ∷ values) zero b m = (refl, m.1)
may_set (p ∷ pins) (v ∷ values) (suc pin) b m = (m.0, may_set pins values pin b m.1)

may_unset : (pins : List Pin) (values : List Trit) (pin : ℕ) (b : Bool) → get_or pins pin Free ≡ Free → AllZip MayBe (set pins pin (Known b)) values → AllZip MayBe pins values
may_unset [] values pin b e m = m
may_unset (p ∷ pins) [] zero b e m = absurd m
may_unset (p ∷ pins) [] (suc pin) b e m = absurd m
may_unset (p ∷ pins) (v ∷ values) zero b e m = (rw e tt, m.1)
may_unset (p ∷ pins) (v ∷ values) (suc pin) b e m = (m.0, may_unset pins values pin b e m.1)

set_known : (pins : List Pin) (values : List Trit) (pin : ℕ) (b : Bool) → AllZip MayBe (set pins pin (Known b)) values → set values pin (bit b) ≡ values
set_known [] [] pin b m = refl
set_known [] (v ∷ values) pin b m = absurd m
set_known (p ∷ pins) [] zero b m = absurd m
set_known (p ∷ pins) [] (suc pin) b m = absurd m
set_known (p ∷ pins) (v ∷ values) zero b m = ap (λ t. t ∷ values) (sym m.0)
set_known (p ∷ pins) (v ∷ values) (suc pin) b m = ap (λ ts. v ∷ ts) (set_known pins values pin b m.1)

-- a choice at one value is a choice
pub can_be_at : (cover : Cover) (pins : List Pin) (pin : ℕ) (b wanted : Bool) → get_or pins pin Free ≡ Free → CanBe cover (set pins pin (Known b)) wanted → CanBe cover pins wanted
can_be_at cover pins pin b wanted free can = record { values = can.values; may = may_unset pins can.values pin b free can.may; is = can.is }

-- and each choice is one at a value that the pin has there, or may have
below_chosen : (values : List Trit) (pin : ℕ) (b : Bool) → Below (get_or values pin X) (bit b) → EachBelow values (set values pin (bit b))
below_chosen [] pin b h = tt
below_chosen (v ∷ values) zero b h = (h, EachBelow-refl values)
below_chosen (v ∷ values) (suc pin) b h = (Below-refl v, below_chosen values pin b h)

chosen : Trit → Bool
chosen One = true
chosen Zero = false
chosen X = false

below-chosen : (t : Trit) → Below t (bit (chosen t))
unfolding chosen
below-chosen One = refl
below-chosen Zero = refl
below-chosen X = tt

pub can_be_split : (cover : Cover) (pins : List Pin) (pin : ℕ) (wanted : Bool) → CanBe cover pins wanted → CanBe cover (set pins pin (Known false)) wanted ⊎ CanBe cover (set pins pin (Known true)) wanted
can_be_split cover pins pin wanted can = at (chosen (get_or can.values pin X)) (below-chosen (get_or can.values pin X))
  where
    with_value : (b : Bool) → Below (get_or can.values pin X) (bit b) → CanBe cover (set pins pin (Known b)) wanted
    with_value b h = record {
      values = set can.values pin (bit b);
      may = may_set pins can.values pin b can.may;
      is = Below-at (ext cover can.values) (ext cover (set can.values pin (bit b))) wanted
          (ext_is_monotone cover can.values (set can.values pin (bit b)) (below_chosen can.values pin b h)) can.is;
    }

    at : (b : Bool) → Below (get_or can.values pin X) (bit b) → CanBe cover (set pins pin (Known false)) wanted ⊎ CanBe cover (set pins pin (Known true)) wanted
    at false h = inl (with_value false h)
    at true h = inr (with_value true h)

can_be_better : (cover : Cover) (pins : List Pin) (pin : ℕ) (b wanted : Bool) → IsBetter cover pin wanted b → CanBe cover (set pins pin (Known (not b))) wanted → CanBe cover (set pins pin (Known b)) wanted
can_be_better cover pins pin b wanted better can =
    let is : ext cover (set can.values pin (bit (not b))) ≡ bit wanted = ap (ext cover) (set_known pins can.values pin (not b) can.may) ∙ can.is in
    record {
      values = set can.values pin (bit b);
      may = subst (λ (ps : List Pin). AllZip MayBe ps (set can.values pin (bit b))) (set_set pins pin (Known (not b)) (Known b)) (may_set (set pins pin (Known (not b))) can.values pin b can.may);
      is = ext_better cover can.values pin wanted b better is;
    }
  where
    set_set : (ps : List Pin) (n : ℕ) (x y : Pin) → set (set ps n x) n y ≡ set ps n y
    set_set [] n x y = refl
    set_set (p ∷ ps) zero x y = refl
    set_set (p ∷ ps) (suc n) x y = ap (λ r. p ∷ r) (set_set ps n x y)

pub can_be_by_better : (cover : Cover) (pins : List Pin) (pin : ℕ) (b wanted : Bool) → IsBetter cover pin wanted b → CanBe cover pins wanted → CanBe cover (set pins pin (Known b)) wanted
can_be_by_better cover pins pin true wanted better can =
    elim (can_be_split cover pins pin wanted can) [ inl low ↦ can_be_better cover pins pin true wanted better low | inr high ↦ high ]
can_be_by_better cover pins pin false wanted better can =
    elim (can_be_split cover pins pin wanted can) [ inl low ↦ low | inr high ↦ can_be_better cover pins pin false wanted better high ]

pub free_count-set : (pins : List Pin) (pin : ℕ) (b : Bool) → get_or pins pin Open ≡ Free → free_count pins ≡ suc (free_count (set pins pin (Known b)))
free_count-set [] pin b e = cc
free_count-set (Free ∷ pins) zero b e = refl
free_count-set (Known c ∷ pins) zero b e = cc
free_count-set (Open ∷ pins) zero b e = cc
free_count-set (Free ∷ pins) (suc pin) b e = ap suc (free_count-set pins pin b e)
free_count-set (Known c ∷ pins) (suc pin) b e = free_count-set pins pin b e
free_count-set (Open ∷ pins) (suc pin) b e = free_count-set pins pin b e

-- ---- both values

-- ---- the steps of the choice

pub free_there : (pins : List Pin) (pin : ℕ) → get_or pins pin Open ≡ Free → get_or pins pin Free ≡ Free
free_there [] pin e = refl
free_there (p ∷ pins) zero e = e
free_there (p ∷ pins) (suc pin) e = free_there pins pin e

pub as_good_better : (cover : Cover) (pins : List Pin) (pin : ℕ) (b wanted : Bool) → get_or pins pin Free ≡ Free → IsBetter cover pin wanted b → AreAsGood cover wanted pins (set pins pin (Known b))
as_good_better cover pins pin b wanted free better = record {
  size = length-set pins pin (Known b);
  can = (can_be_at cover pins pin b wanted free, can_be_by_better cover pins pin b wanted better);
}

pub by_low : (cover : Cover) (pins : List Pin) (pin : ℕ) (wanted : Bool) → get_or pins pin Open ≡ Free → CanBe cover (set pins pin (Known false)) wanted → CanBe cover pins wanted
by_low cover pins pin wanted free c = can_be_at cover pins pin false wanted (free_there pins pin free) c

pub by_high : (cover : Cover) (pins : List Pin) (pin : ℕ) (wanted can : Bool) → get_or pins pin Open ≡ Free → ¬ CanBe cover (set pins pin (Known false)) wanted →
    (can ≡ true) ↔ CanBe cover (set pins pin (Known true)) wanted → (can ≡ true) ↔ CanBe cover pins wanted
by_high cover pins pin wanted can free none h = grind (arith, can_be_at cover pins pin true wanted (free_there pins pin free), free_there pins pin free, can_be_split cover pins pin wanted)

-- what is true of an answer whatever it is, is true of a result
pub mapped : {A E : Type 0} {P Q : A → Type 0} (r : Result A E) → IfOk r P → ((a : A) → P a → Q a) → IfOk r Q
mapped r h f = grind arith
