-- An unknown pin matters exactly where some row shows so, and an unknown gate has a pin that matters.
use Rattle.std.proofs.Common.{◌≡◌, ◌≢◌, ◌⊎◌, inl, inr, ℕ, zero, suc, ◌<◌, ◌↔◌, Bool, true, false, not, List, [], ◌∷◌, length, get_or, set, refl, ap, sym, ◌∙◌, subst, arith, true≢false, Some}
use Rattle.std.specs.List.{Contains, slice_get}
use Rattle.std.proofs.lemmas.Bool.{and_parts, and_from, false_from_ne_true}
use Rattle.std.proofs.lemmas.List.{get_or-set_same}
use Rattle.std.proofs.lemmas.List.Folds.{list_any_at, list_any_none}
use Rattle.std.proofs.lemmas.Option.{same_Some, slice_get_within, get_or_from_slice_get}
use Rattle.cyc_base.specs.declared.trit.Trit.{Trit}
use Rattle.cyc_base.specs.declared.trit.Trit.TheVariants.{Zero, One, X}
use Rattle.cyc_base.specs.Values.{bit, bits, Below, EachBelow, Completes}
use Rattle.cyc_base.proofs.OrderLemmas.{Below-trans, Below-bit, EachBelow-trans, EachBelow-length, Completes-at, Completes-set, same_bit, bit-known}
use Rattle.cover_logic.specs.declared.row.Lit.{Lit}
use Rattle.cover_logic.specs.declared.row.Lit.TheVariants as lit
use Rattle.cover_logic.specs.declared.row.Row.{Row}
use Rattle.cover_logic.specs.Covers.{Cover, IsCover, allows, matches, some_row_matches, value_of_rows, value}
use Rattle.cover_logic.specs.Extensions.{ext}
use Rattle.cover_logic.proofs.ExtensionLemmas.{exact_says, exact_from, completes-set}
use Rattle.cover_logic.proofs.TautologyLemmas.{completes-reset}
use Rattle.explanations.specs.Matters.{flipped, met, cube_of, Matters, MattersBy}

-- ---- completions at which a function has a value

abbrev Found : (List Bool → Bool) → List Trit → Type 0
Found f trits = (bs : List Bool) × Completes trits bs × (f bs ≡ true)

abbrev Never : (List Bool → Bool) → List Trit → Type 0
Never f trits = (bs : List Bool) → Completes trits bs → f bs ≡ false

behind : (f : List Bool → Bool) (t : Trit) (trits : List Trit) (d : Bool) → Below t (bit d) → Found (λ bs. f (d ∷ bs)) trits → Found f (t ∷ trits)
behind f t trits d below found = (d ∷ found.0, (below, found.1), found.2)

nowhere : (f : List Bool → Bool) (t : Trit) (trits : List Trit) → ((d : Bool) → Below t (bit d) → Never (λ bs. f (d ∷ bs)) trits) → Never f (t ∷ trits)
nowhere f t trits h [] c = absurd c
nowhere f t trits h (b ∷ bs) c = h b c.0 bs c.1

never_at : (f : List Bool → Bool) (trits : List Trit) (d b : Bool) → Never (λ bs. f (d ∷ bs)) trits → bit b ≡ bit d → Never (λ bs. f (b ∷ bs)) trits
never_at f trits d b h e bs c = ap (λ x. f (x ∷ bs)) (same_bit b d e) ∙ h bs c

never_either : (f : List Bool → Bool) (trits : List Trit) → Never (λ bs. f (false ∷ bs)) trits → Never (λ bs. f (true ∷ bs)) trits → (d : Bool) → Below X (bit d) → Never (λ bs. f (d ∷ bs)) trits
never_either f trits low high false below = low
never_either f trits low high true below = high

-- some completion at which the function is 1, or none
found_or_never : (f : List Bool → Bool) (trits : List Trit) → Found f trits ⊎ Never f trits
found_or_never f [] = at (f []) refl
  where
    only : f [] ≡ false → Never f []
    only e [] c = e
    only e (b ∷ bs) c = absurd c

    at : (b : Bool) → f [] ≡ b → Found f [] ⊎ Never f []
    at true e = inl ([], tt, e)
    at false e = inr (only e)
found_or_never f (Zero ∷ trits) =
    elim (found_or_never (λ bs. f (false ∷ bs)) trits) [
      | inl found ↦ inl (behind f Zero trits false refl found)
      | inr never ↦ inr (nowhere f Zero trits (λ d below. never_at f trits false d never below))
    ]
found_or_never f (One ∷ trits) =
    elim (found_or_never (λ bs. f (true ∷ bs)) trits) [
      | inl found ↦ inl (behind f One trits true refl found)
      | inr never ↦ inr (nowhere f One trits (λ d below. never_at f trits true d never below))
    ]
found_or_never f (X ∷ trits) =
    elim (found_or_never (λ bs. f (false ∷ bs)) trits) [
      | inl found ↦ inl (behind f X trits false tt found)
      | inr low ↦
          elim (found_or_never (λ bs. f (true ∷ bs)) trits) [
            | inl found ↦ inl (behind f X trits true tt found)
            | inr high ↦ inr (nowhere f X trits (never_either f trits low high))
          ]
    ]

from_not : (b c : Bool) → not b ≡ not c → b ≡ c
from_not b c e = grind arith

-- a cover that isn't determined with a value has the other one at some completion
pub other_value : (cover : Cover) (trits : List Trit) (b : Bool) → (ext cover trits ≡ bit b → ⊥) → (bs : List Bool) × Completes trits bs × (value cover bs ≡ not b)
other_value cover trits true n =
    elim (found_or_never (λ bs. not (value cover bs)) trits) [
      | inl found ↦ (found.0, found.1, from_not (value cover found.0) false found.2)
      | inr never ↦ absurd (n (exact_from (value cover) trits true (λ bs c. from_not (value cover bs) true (never bs c))))
    ]
other_value cover trits false n =
    elim (found_or_never (value cover) trits) [
      | inl found ↦ found
      | inr never ↦ absurd (n (exact_from (value cover) trits false never))
    ]

-- ---- an unknown gate has a pin that matters

record Flip (f : List Bool → Bool) (trits : List Trit) : Type 0 where
  pin : ℕ
  unknown : slice_get trits pin ≡ Some X
  values : List Bool
  completes : Completes trits values
  flips : f (flipped values pin) ≢ f values

flip_behind : (f : List Bool → Bool) (t : Trit) (trits : List Trit) (d : Bool) → Below t (bit d) → Flip (λ bs. f (d ∷ bs)) trits → Flip f (t ∷ trits)
flip_behind f t trits d below flip = record { pin = suc flip.pin; unknown = flip.unknown; values = d ∷ flip.values; completes = (below, flip.completes); flips = flip.flips }

flip_here : (f : List Bool → Bool) (t : Trit) (trits : List Trit) (d : Bool) (bs : List Bool) → t ≡ X → Completes trits bs → f (not d ∷ bs) ≢ f (d ∷ bs) → Flip f (t ∷ trits)
flip_here f t trits d bs x c flips = record { pin = 0; unknown = ap Some x; values = d ∷ bs; completes = (rw x tt, c); flips = flips }

both_unknown : (t : Trit) → Below t (bit true) → Below t (bit false) → t ≡ X
both_unknown t high low = grind arith

-- on the way from one completion to another, place by place, some flip changes the function
some_flip : (f : List Bool → Bool) (trits : List Trit) (cs ds : List Bool) → Completes trits cs → Completes trits ds → f cs ≡ true → f ds ≡ false → Flip f trits
some_flip f [] [] [] ca cb one zero' = absurd (true≢false (sym one ∙ zero'))
some_flip f [] [] (b ∷ ds) ca cb one zero' = absurd cb
some_flip f [] (a ∷ cs) ds ca cb one zero' = absurd ca
some_flip f (t ∷ trits) [] ds ca cb one zero' = absurd ca
some_flip f (t ∷ trits) (a ∷ cs) [] ca cb one zero' = absurd cb
some_flip f (t ∷ trits) (true ∷ cs) (true ∷ ds) ca cb one zero' = flip_behind f t trits true ca.0 (some_flip (λ xs. f (true ∷ xs)) trits cs ds ca.1 cb.1 one zero')
some_flip f (t ∷ trits) (false ∷ cs) (false ∷ ds) ca cb one zero' = flip_behind f t trits false ca.0 (some_flip (λ xs. f (false ∷ xs)) trits cs ds ca.1 cb.1 one zero')
some_flip f (t ∷ trits) (true ∷ cs) (false ∷ ds) ca cb one zero' = at (f (false ∷ cs)) refl (λ e. some_flip (λ xs. f (false ∷ xs)) trits cs ds ca.1 cb.1 e zero')
  where
    at : (u : Bool) → f (false ∷ cs) ≡ u → (f (false ∷ cs) ≡ true → Flip (λ xs. f (false ∷ xs)) trits) → Flip f (t ∷ trits)
    at true e later = flip_behind f t trits false cb.0 (later e)
    at false e later = flip_here f t trits true cs (both_unknown t ca.0 cb.0) ca.1 (λ same. true≢false (sym one ∙ sym same ∙ e))
some_flip f (t ∷ trits) (false ∷ cs) (true ∷ ds) ca cb one zero' = at (f (true ∷ cs)) refl (λ e. some_flip (λ xs. f (true ∷ xs)) trits cs ds ca.1 cb.1 e zero')
  where
    at : (u : Bool) → f (true ∷ cs) ≡ u → (f (true ∷ cs) ≡ true → Flip (λ xs. f (true ∷ xs)) trits) → Flip f (t ∷ trits)
    at true e later = flip_behind f t trits true cb.0 (later e)
    at false e later = flip_here f t trits false cs (both_unknown t cb.0 ca.0) ca.1 (λ same. true≢false (sym one ∙ sym same ∙ e))

pub unknown_matters : (cover : Cover) (trits : List Trit) → ext cover trits ≡ X → (pin : ℕ) × Matters cover trits pin
unknown_matters cover trits x =
    let high = other_value cover trits false (λ e. bit-known false (sym e ∙ x)) in
    let low = other_value cover trits true (λ e. bit-known true (sym e ∙ x)) in
    let flip = some_flip (value cover) trits high.0 low.0 high.1 low.1 high.2 low.2 in
    (flip.pin, record { unknown = flip.unknown; values = flip.values; completes = flip.completes; flips = flip.flips })

-- ---- what a row shows is so

below_set : (trits cube : List Trit) (pin : ℕ) (x : Trit) → slice_get trits pin ≡ Some X → EachBelow trits cube → EachBelow trits (set cube pin x)
below_set [] [] pin x e h = tt
below_set [] (c ∷ cube) pin x e h = absurd h
below_set (t ∷ trits) [] pin x e h = absurd h
below_set (t ∷ trits) (c ∷ cube) zero x e h = (rw (same_Some t X e) tt, h.1)
below_set (t ∷ trits) (c ∷ cube) (suc pin) x e h = (h.0, below_set trits cube pin x e h.1)

pin_is : (trits : List Trit) (bs : List Bool) (pin : ℕ) (d : Bool) → pin < length trits → Completes (set trits pin (bit d)) bs → get_or bs pin false ≡ d
pin_is trits bs pin d l c =
    same_bit (get_or bs pin false) d
    (Below-bit d (bit (get_or bs pin false))
    (subst (λ (t : Trit). Below t (bit (get_or bs pin false))) (get_or-set_same trits pin (bit d) X l) (Completes-at (set trits pin (bit d)) bs pin c)))

not-not : (b : Bool) → not (not b) ≡ b
not-not true = refl
not-not false = refl

not-same : (b : Bool) → b ≡ not b → ⊥
not-same b e = grind arith

pub shown_at : (cover : Cover) (trits cube : List Trit) (pin : ℕ) (b : Bool) → slice_get trits pin ≡ Some X → EachBelow trits cube → ext cover (set cube pin (bit b)) ≡ bit cover.plane →
    (ext cover (set cube pin (bit (not b))) ≡ bit cover.plane → ⊥) → Matters cover trits pin
shown_at cover trits cube pin b unknown below listed other =
    let found = other_value cover (set cube pin (bit (not b))) cover.plane other in
    let within = slice_get_within trits pin X unknown in
    let size = EachBelow-length trits cube below in
    let there = completes-reset cube found.0 pin (not b) b found.1 in
    let here : value cover (set found.0 pin b) ≡ cover.plane = exact_says (value cover) (set cube pin (bit b)) cover.plane listed (set found.0 pin b) there in
    let pin_value : get_or found.0 pin false ≡ not b = pin_is cube found.0 pin (not b) (omega arith) found.1 in
    let flip : flipped found.0 pin ≡ set found.0 pin b = ap (λ d. set found.0 pin d) (ap not pin_value ∙ not-not b) in
    record {
      unknown = unknown;
      values = found.0;
      completes = EachBelow-trans trits (set cube pin (bit (not b))) (bits found.0) (below_set trits cube pin (bit (not b)) unknown below) found.1;
      flips = λ same. not-same cover.plane (sym here ∙ sym (ap (value cover) flip) ∙ same ∙ found.2);
    }

met_below : (l : Lit) (t : Trit) → Below t (met l t)
met_below l t = grind arith

below_cube : (lits : List Lit) (trits : List Trit) → length lits ≡ length trits → EachBelow trits (cube_of lits trits)
below_cube [] [] e = tt
below_cube [] (t ∷ trits) e = absurd (omega arith)
below_cube (l ∷ lits) [] e = absurd (omega arith)
below_cube (l ∷ lits) (t ∷ trits) e = (met_below l t, below_cube lits trits (omega arith))

pub cube_size : (lits : List Lit) (trits cube : List Trit) → length lits ≡ length trits → cube ≡ cube_of lits trits → length cube ≡ length trits
cube_size lits trits cube size is = ap length is ∙ sym (EachBelow-length trits (cube_of lits trits) (below_cube lits trits size))

pub shown : (cover : Cover) (row : Row) (trits cube : List Trit) (pin : ℕ) (low high : Bool) → slice_get trits pin ≡ Some X → length row.lits ≡ length trits → cube ≡ cube_of row.lits trits →
    (low ≡ true) ↔ (ext cover (set cube pin (bit false)) ≡ bit cover.plane) → (high ≡ true) ↔ (ext cover (set cube pin (bit true)) ≡ bit cover.plane) → low ≢ high → Matters cover trits pin
shown cover row trits cube pin true true unknown size is h k differ = absurd (differ refl)
shown cover row trits cube pin false false unknown size is h k differ = absurd (differ refl)
shown cover row trits cube pin true false unknown size is h k differ =
    shown_at cover trits cube pin false unknown (rw is (below_cube row.lits trits size)) (h.0 refl) (λ e. true≢false (sym (k.1 e)))
shown cover row trits cube pin false true unknown size is h k differ =
    shown_at cover trits cube pin true unknown (rw is (below_cube row.lits trits size)) (k.0 refl) (λ e. true≢false (sym (h.1 e)))

-- ---- rows that match

in_plane : (plane : Bool) (rows : List Row) (bs : List Bool) → some_row_matches rows bs ≡ true → value_of_rows plane rows bs ≡ plane
in_plane true rows bs h = h
in_plane false [] bs h = absurd (true≢false (sym h))
in_plane false (row ∷ rows) bs h = ap not h

row_listed : (cover : Cover) (row : Row) (bs : List Bool) → Contains cover.rows row → matches row.lits bs ≡ true → value cover bs ≡ cover.plane
row_listed cover row bs on m =
    in_plane cover.plane cover.rows bs (list_any_at (λ r. matches r.lits bs) cover.rows on.0 row on.1 (ap (λ r. matches r.lits bs) on.2 ∙ m))

plane_matches : (plane : Bool) (rows : List Row) (bs : List Bool) → (rows ≡ [] → plane ≡ true) → value_of_rows plane rows bs ≡ plane → some_row_matches rows bs ≡ true
plane_matches true rows bs n h = h
plane_matches false [] bs n h = absurd (true≢false (sym (n refl)))
plane_matches false (row ∷ rows) bs n h = from_not (some_row_matches (row ∷ rows) bs) true h

any_flipped : (lits : List Lit) (values : List Bool) (pin : ℕ) → get_or lits pin lit.Any ≡ lit.Any → matches lits values ≡ true → matches lits (flipped values pin) ≡ true
any_flipped [] values pin e m = refl
any_flipped (l ∷ lits) [] pin e m = refl
any_flipped (l ∷ lits) (v ∷ values) zero e m = rw e (and_parts (allows l v) (matches lits values) m).1
any_flipped (l ∷ lits) (v ∷ values) (suc pin) e m =
    let parts = and_parts (allows l v) (matches lits values) m in
    and_from (allows l v) (matches lits (flipped values pin)) parts.0 (any_flipped lits values pin e parts.1)

-- a row that asks for no value of the pin shows nothing
pub shows_nothing : (cover : Cover) (row : Row) (trits : List Trit) (pin : ℕ) → Contains cover.rows row → get_or row.lits pin lit.Any ≡ lit.Any → ¬ MattersBy cover row trits pin
shows_nothing cover row trits pin on any m =
    m.flips
    (row_listed cover row (flipped m.values pin) on (any_flipped row.lits m.values pin any m.matched)
    ∙ sym (row_listed cover row m.values on m.matched))

met_above : (l : Lit) (t : Trit) (v : Bool) → allows l v ≡ true → Below t (bit v) → Below (met l t) (bit v)
met_above l t v a below = grind arith

met_allows : (l : Lit) (t : Trit) (v b : Bool) → allows l v ≡ true → Below t (bit v) → Below (met l t) (bit b) → allows l b ≡ true
met_allows l t v b a below met' = grind arith

values_in_cube : (lits : List Lit) (trits : List Trit) (values : List Bool) → length lits ≡ length trits → matches lits values ≡ true → Completes trits values → Completes (cube_of lits trits) values
values_in_cube [] [] [] e m c = tt
values_in_cube [] [] (v ∷ values) e m c = absurd c
values_in_cube [] (t ∷ trits) values e m c = absurd (omega arith)
values_in_cube (l ∷ lits) [] values e m c = absurd (omega arith)
values_in_cube (l ∷ lits) (t ∷ trits) [] e m c = absurd c
values_in_cube (l ∷ lits) (t ∷ trits) (v ∷ values) e m c =
    let parts = and_parts (allows l v) (matches lits values) m in
    (met_above l t v parts.0 c.0, values_in_cube lits trits values (omega arith) parts.1 c.1)

cube_matches : (lits : List Lit) (trits : List Trit) (values bs : List Bool) → matches lits values ≡ true → Completes trits values → Completes (cube_of lits trits) bs → matches lits bs ≡ true
cube_matches [] trits values bs m c d = refl
cube_matches (l ∷ lits) trits values [] m c d = refl
cube_matches (l ∷ lits) [] values (b ∷ bs) m c d = absurd d
cube_matches (l ∷ lits) (t ∷ trits) [] (b ∷ bs) m c d = absurd c
cube_matches (l ∷ lits) (t ∷ trits) (v ∷ values) (b ∷ bs) m c d =
    let parts = and_parts (allows l v) (matches lits values) m in
    and_from (allows l b) (matches lits bs) (met_allows l t v b parts.0 c.0 d.0) (cube_matches lits trits values bs parts.1 c.1 d.1)

completes-less : (trits : List Trit) (bs : List Bool) (pin : ℕ) (b : Bool) → Below (get_or trits pin X) (bit b) → Completes (set trits pin (bit b)) bs → Completes trits bs
completes-less [] bs pin b below c = c
completes-less (t ∷ trits) [] zero b below c = absurd c
completes-less (t ∷ trits) [] (suc pin) b below c = absurd c
completes-less (t ∷ trits) (d ∷ bs) zero b below c = (Below-trans t (bit b) (bit d) below c.0, c.1)
completes-less (t ∷ trits) (d ∷ bs) (suc pin) b below c = (c.0, completes-less trits bs pin b below c.1)

-- ---- each row by which the pin matters shows so

module _ (cover : Cover) (row : Row) (trits : List Trit) (pin : ℕ) (on : Contains cover.rows row) (size : length row.lits ≡ length trits) (m : MattersBy cover row trits pin) where
  in_cube : Completes (cube_of row.lits trits) m.values
  in_cube = values_in_cube row.lits trits m.values size m.matched m.completes

  listed_here : ext cover (set (cube_of row.lits trits) pin (bit (get_or m.values pin false))) ≡ bit cover.plane
  listed_here =
      exact_from (value cover) (set (cube_of row.lits trits) pin (bit (get_or m.values pin false))) cover.plane
      (λ bs c. row_listed cover row bs on
      (cube_matches row.lits trits m.values bs m.matched m.completes
      (completes-less (cube_of row.lits trits) bs pin (get_or m.values pin false) (Completes-at (cube_of row.lits trits) m.values pin in_cube) c)))

  not_there : ext cover (set (cube_of row.lits trits) pin (bit (not (get_or m.values pin false)))) ≡ bit cover.plane → ⊥
  not_there e =
      let b : Bool = get_or m.values pin false in
      let there = completes-reset (cube_of row.lits trits) m.values pin (get_or m.values pin false) (not (get_or m.values pin false)) (completes-set (cube_of row.lits trits) m.values pin in_cube) in
      m.flips
      (exact_says (value cover) (set (cube_of row.lits trits) pin (bit (not (get_or m.values pin false)))) cover.plane e (flipped m.values pin) there
      ∙ sym (row_listed cover row m.values on m.matched))

  pub shows_it : (cube : List Trit) (low high : Bool) → cube ≡ cube_of row.lits trits → (low ≡ true) ↔ (ext cover (set cube pin (bit false)) ≡ bit cover.plane) →
      (high ≡ true) ↔ (ext cover (set cube pin (bit true)) ≡ bit cover.plane) → low ≢ high
  shows_it cube low high is h k same = at (get_or m.values pin false) refl
    where
      listed_at : (b : Bool) → get_or m.values pin false ≡ b → ext cover (set cube pin (bit b)) ≡ bit cover.plane
      listed_at b e =
          subst (λ (ts : List Trit). ext cover (set ts pin (bit b)) ≡ bit cover.plane) (sym is)
          (subst (λ (d : Bool). ext cover (set (cube_of row.lits trits) pin (bit d)) ≡ bit cover.plane) e listed_here)

      not_there_at : (b : Bool) → get_or m.values pin false ≡ b → ext cover (set cube pin (bit (not b))) ≡ bit cover.plane → ⊥
      not_there_at b e there =
          not_there
          (subst (λ (d : Bool). ext cover (set (cube_of row.lits trits) pin (bit (not d))) ≡ bit cover.plane) (sym e)
          (subst (λ (ts : List Trit). ext cover (set ts pin (bit (not b))) ≡ bit cover.plane) is there))

      at : (b : Bool) → get_or m.values pin false ≡ b → ⊥
      at false e =
          let here : ext cover (set cube pin (bit false)) ≡ bit cover.plane = listed_at false e in
          not_there_at false e (k.0 (sym same ∙ h.1 here))
      at true e =
          let here : ext cover (set cube pin (bit true)) ≡ bit cover.plane = listed_at true e in
          not_there_at true e (h.0 (same ∙ k.1 here))

-- ---- a pin that matters does so by some row

flipped-twice : (values : List Bool) (pin : ℕ) → flipped (flipped values pin) pin ≡ values
flipped-twice [] pin = refl
flipped-twice (v ∷ values) zero = ap (λ b. b ∷ values) (not-not v)
flipped-twice (v ∷ values) (suc pin) = ap (λ r. v ∷ r) (flipped-twice values pin)

module _ (cover : Cover) (trits : List Trit) (pin : ℕ) (is : IsCover cover) (none : (k : ℕ) (d : Row) → k < length cover.rows → ¬ MattersBy cover (get_or cover.rows k d) trits pin) where
  not_listed : (values : List Bool) → Completes trits values → value cover (flipped values pin) ≢ value cover values → value cover values ≡ cover.plane → ⊥
  not_listed values c flips listed =
      let some = plane_matches cover.plane cover.rows values is.plane listed in
      let never = list_any_none (λ r. matches r.lits values) cover.rows
      (λ k d l. false_from_ne_true (matches (get_or cover.rows k d).lits values) (λ e. none k d l (record { values = values; completes = c; matched = e; flips = flips }))) in
      true≢false (sym some ∙ never)

  other_bool : (a b c : Bool) → a ≢ b → b ≢ c → a ≡ c
  other_bool a b c n m = grind arith

  pub no_row_shows : ¬ Matters cover trits pin
  no_row_shows m =
      elim (cases_bool (value cover m.values) cover.plane) [
        | inl listed ↦ not_listed m.values m.completes m.flips listed
        | inr not_plane ↦
            let x : get_or trits pin X ≡ X = get_or_from_slice_get trits pin X X m.unknown in
            not_listed (flipped m.values pin)
            (Completes-set trits m.values pin (not (get_or m.values pin false)) m.completes (rw x tt))
            (λ same. m.flips (sym same ∙ ap (value cover) (flipped-twice m.values pin)))
            (other_bool (value cover (flipped m.values pin)) (value cover m.values) cover.plane m.flips not_plane)
      ]
    where
      cases_bool : (a b : Bool) → (a ≡ b) ⊎ (a ≢ b)
      cases_bool true true = inl refl
      cases_bool false false = inl refl
      cases_bool true false = inr true≢false
      cases_bool false true = inr (λ e. true≢false (sym e))
