-- Leaving out wires beside a cycle, one by one.
use Rattle.std.proofs.Common.{◌≡◌, ◌≢◌, ◌⊎◌, inl, inr, ℕ, zero, suc, ◌+◌, ◌<◌, ◌≤◌, ◌||◌, cond, Bool, true, false, List, [], ◌∷◌, ◌++◌, length, map, get_or, set, take, replicate, refl, ap, sym, ◌∙◌, subst, arith, true≢false}
use Rattle.std.specs.Prelude.{◌==◌}
use Rattle.std.specs.List.{All, AllZip, list_any}
use Rattle.std.proofs.lemmas.Bool.{cases_eq, cases_lt, eqb-true, eq-eqb, ne_eqb, or_cases, or_parts}
use Rattle.std.proofs.lemmas.List.{get_or_past, get_or_push, get_or_append_left, get_or-set_same, get_or-set_other, length-append, length-replicate, length-set, take_all}
use Rattle.std.proofs.lemmas.List.Folds.{list_any_more}
use Rattle.cyc_base.specs.declared.sig.Sig.{Sig}
use Rattle.cyc_base.specs.declared.trit.Trit.{Trit}
use Rattle.cyc_base.specs.declared.trit.Trit.TheVariants.{Zero, One, X}
use Rattle.cover_logic.specs.Extensions.{ext}
use Rattle.netlist.specs.declared.parts.Parts.{Parts}
use Rattle.netlist.specs.Fixpoint.{wire}
use Rattle.netlist.specs.Netlists.{count, gate_at, gate_sig, no_gate, IsNetlist, is_marked}
use Rattle.explanations.specs.declared.pins.Pin.{Pin}
use Rattle.explanations.specs.declared.pins.Pin.TheVariants.{Known, Open, Free}
use Rattle.explanations.specs.Pins.{trit_of, is_free, MayBe, StaysOpen}
use Rattle.explanations.specs.Sides.{is_one_of, beside, StaysBeside, HoldsCycle, AreSides, AreMarksOf, StandsOpen, side_of, AreAllSides, reads, ReaderStays, ReadersStay, HasLeftOut, IsLeavingOut}
use Rattle.explanations.proofs.HeldLemmas.{zip_weaker}

-- ---- marks of the cycle's gates

or_false : (b : Bool) → (b || false) ≡ b
or_false true = refl
or_false false = refl

or_true : (b : Bool) → (b || true) ≡ true
or_true true = refl
or_true false = refl

pub marks_none : (net : Parts) (gates : List ℕ) (n : ℕ) → n ≡ count net → AreMarksOf net gates 0 (replicate n false)
marks_none net gates n is = record { size = length-replicate n false ∙ is; each = unmarked n }
  where
    unmarked : (n s : ℕ) → is_marked (replicate n false) s ≡ false
    unmarked zero s = refl
    unmarked (suc n) zero = refl
    unmarked (suc n) (suc s) = unmarked n s

pub marks_more : (net : Parts) (gates : List ℕ) (n : ℕ) (marks : List Bool) → n < length gates → get_or gates n 0 < length net.gates → AreMarksOf net gates n marks →
    AreMarksOf net gates (n + 1) (set marks (gate_sig net (get_or gates n 0)).0 true)
marks_more net gates n marks inside gate h =
    let size = h.size in
    let within : (gate_sig net (get_or gates n 0)).0 < length marks = omega arith in
    record {
      size = length-set marks (gate_sig net (get_or gates n 0)).0 true ∙ h.size;
      each = λ s.
          let more = list_any_more (λ g. (gate_sig net g).0 == s) gates n 0 inside in
          elim (cases_eq s (gate_sig net (get_or gates n 0)).0) [
            | inl same ↦
                let here : is_marked (set marks (gate_sig net (get_or gates n 0)).0 true) s ≡ true =
                ap (λ m. get_or (set marks (gate_sig net (get_or gates n 0)).0 true) m false) same ∙ get_or-set_same marks (gate_sig net (get_or gates n 0)).0 true false within in
                here ∙ sym (more ∙ ap (λ b. is_one_of net (take n gates) s || b) (eq-eqb (gate_sig net (get_or gates n 0)).0 s (sym same)) ∙ or_true (is_one_of net (take n gates) s))
            | inr apart ↦
                get_or-set_other marks (gate_sig net (get_or gates n 0)).0 s true false apart
                ∙ h.each s
                ∙ sym (more ∙ ap (λ b. is_one_of net (take n gates) s || b) (ne_eqb (gate_sig net (get_or gates n 0)).0 s (λ e. apart (sym e))) ∙ or_false (is_one_of net (take n gates) s))
          ];
    }

pub marks_all : (net : Parts) (gates : List ℕ) (n : ℕ) (marks : List Bool) → length gates ≤ n → AreMarksOf net gates n marks → (s : ℕ) → is_marked marks s ≡ is_one_of net gates s
marks_all net gates n marks over h s = h.each s ∙ ap (λ (gs : List ℕ). is_one_of net gs s) (take_all n gates over)

-- ---- all sides hold the cycle open

pub all_sides_more : (known : List Trit) (marks : List Bool) (n : ℕ) (sides : List Pin) (x : Pin) → AreAllSides known marks n sides → x ≡ side_of (is_marked marks n) (get_or known n X) → AreAllSides known marks (n + 1) (sides ++ x ∷ [])
all_sides_more known marks n sides x h is = record {
  size = (let joined = length-append sides (x ∷ []) in let size = h.size in omega arith);
  each = λ s l.
      let size = h.size in
      elim (cases_eq s n) [
        | inl same ↦
            get_or_push sides x Free s (omega arith) ∙ is ∙ ap (λ m. side_of (is_marked marks m) (get_or known m X)) (sym same)
        | inr apart ↦ get_or_append_left sides (x ∷ []) Free s (omega arith) ∙ h.each s (omega arith)
      ];
}

pub all_sides_none : (known : List Trit) (marks : List Bool) → AreAllSides known marks 0 []
all_sides_none known marks = record { size = refl; each = λ s l. absurd (omega arith) }

on_unknown : (net : Parts) (known : List Trit) (gates : List ℕ) (s : ℕ) → All (StandsOpen net known) gates → is_one_of net gates s ≡ true → get_or known s X ≡ X
on_unknown net known [] s all on = absurd (true≢false (sym on))
on_unknown net known (g ∷ gates) s all on =
    elim (or_cases ((gate_sig net g).0 == s) (is_one_of net gates s) on) [
      | inl here ↦ ap (λ m. get_or known m X) (sym (eqb-true (gate_sig net g).0 s here)) ∙ (all 0 g (omega arith)).unknown
      | inr later ↦ on_unknown net known gates s (λ k d l. all (suc k) d (omega arith)) later
    ]

-- values that each pin may have alone are those that are known
zip_known : (f : Sig → Pin) (known : List Trit) (signals : List Sig) (values : List Trit) → ((k : ℕ) (d : Sig) (v : Trit) → k < length signals → MayBe (f (get_or signals k d)) v → v ≡ wire known (get_or signals k d)) →
    AllZip MayBe (map f signals) values → values ≡ map (wire known) signals
zip_known f known [] [] one h = refl
zip_known f known [] (v ∷ values) one h = absurd h
zip_known f known (s ∷ signals) [] one h = absurd h
zip_known f known (s ∷ signals) (v ∷ values) one h =
    ap (λ t. t ∷ values) (one 0 s v (omega arith) h.0) ∙ ap (λ ts. wire known s ∷ ts) (zip_known f known signals values (λ k d w l m. one (suc k) d w (omega arith) m) h.1)

seen_known : (mark : Bool) (side : Pin) (value v : Trit) → (mark ≡ true → value ≡ X) → (mark ≡ false → side ≡ side_of false value) → MayBe (cond mark Open side) v → v ≡ value
seen_known true side value v on off may = may ∙ sym (on refl)
seen_known false side value v on off may = own value (subst (λ (p : Pin). MayBe p v) (off refl) may)
  where
    own : (t : Trit) → MayBe (side_of false t) v → v ≡ t
    own Zero m = m
    own One m = m
    own X m = m

pub all_hold : (net : Parts) (known : List Trit) (cycle : List ℕ) (marks : List Bool) (sides : List Pin) → IsNetlist net → All (StandsOpen net known) cycle → ((s : ℕ) → is_marked marks s ≡ is_one_of net cycle s) →
    AreAllSides known marks (count net) sides → HoldsCycle net (is_marked marks) sides cycle
all_hold net known cycle marks sides valid open' same all = λ k d l. stays (get_or cycle k d) (open' k d l)
  where
    stays : (g : ℕ) → StandsOpen net known g → StaysBeside net (is_marked marks) sides g
    stays g o values may =
        ap (ext (gate_at net g).cover)
        (zip_known (beside (is_marked marks) sides) known (gate_at net g).pins values
        (λ k d v l m.
        let s : Sig = get_or (gate_at net g).pins k d in
        let within : s.0 < count net = valid.pins g no_gate o.gate k d l in
        seen_known (is_marked marks s.0) (get_or sides s.0 Free) (wire known s) v
        (λ on. on_unknown net known cycle s.0 open' (sym (same s.0) ∙ on))
        (λ off. all.each s.0 within ∙ ap (λ b. side_of b (wire known s)) off) m) may)
        ∙ o.value

-- ---- more sides hold it open too

may_more : (mark : Bool) (less more : Pin) (v : Trit) → (less ≡ Free) ⊎ (less ≡ more) → MayBe (cond mark Open more) v → MayBe (cond mark Open less) v
may_more true less more v fewer m = m
may_more false less more v fewer m =
    elim fewer [
      | inl free ↦ rw free tt
      | inr same ↦ subst (λ (p : Pin). MayBe p v) (sym same) m
    ]

pub holds_with_more : (net : Parts) (on : ℕ → Bool) (less more : List Pin) (cycle : List ℕ) → ((s : ℕ) → (get_or less s Free ≡ Free) ⊎ (get_or less s Free ≡ get_or more s Free)) → HoldsCycle net on less cycle → HoldsCycle net on more cycle
holds_with_more net on less more cycle fewer h = λ k d l. λ values may.
    h k d l values
    (zip_weaker (beside on more) (beside on less) (λ s v m. may_more (on s.0) (get_or less s.0 Free) (get_or more s.0 Free) v (fewer s.0) m) (gate_at net (get_or cycle k d)).pins values may)

-- ---- gates that don't read a signal

beside_other : (on : ℕ → Bool) (sides : List Pin) (n : ℕ) (signals : List Sig) → list_any (λ pin. pin.0 == n) signals ≡ false → map (beside on (set sides n Free)) signals ≡ map (beside on sides) signals
beside_other on sides n [] none = refl
beside_other on sides n (s ∷ signals) none =
    let parts = or_parts (s.0 == n) (list_any (λ pin. pin.0 == n) signals) none in
    let apart : s.0 ≢ n = λ e. true≢false (sym (eq-eqb s.0 n e) ∙ parts.0) in
    ap (λ p. cond (on s.0) Open p ∷ map (beside on (set sides n Free)) signals) (get_or-set_other sides n s.0 Free Free apart)
    ∙ ap (λ ps. beside on sides s ∷ ps) (beside_other on sides n signals parts.1)

pub readers_hold : (net : Parts) (on : ℕ → Bool) (sides : List Pin) (cycle : List ℕ) (n : ℕ) → HoldsCycle net on sides cycle → ReadersStay net on (set sides n Free) cycle n → HoldsCycle net on (set sides n Free) cycle
readers_hold net on sides cycle n h stay = λ k d l. at (get_or cycle k d) (reads net (get_or cycle k d) n) refl (h k d l) (stay k d l)
  where
    at : (g : ℕ) (b : Bool) → reads net g n ≡ b → StaysBeside net on sides g → ReaderStays net on (set sides n Free) n g → StaysBeside net on (set sides n Free) g
    at g true e held reader = reader e
    at g false e held reader = subst (λ (ps : List Pin). StaysOpen (gate_at net g).cover ps) (sym (beside_other on sides n (gate_at net g).pins e)) held

pub holding_readers : (net : Parts) (on : ℕ → Bool) (sides : List Pin) (cycle : List ℕ) (n : ℕ) → HoldsCycle net on sides cycle → ReadersStay net on sides cycle n
holding_readers net on sides cycle n h = λ k d l e. h k d l

-- ---- leaving out

cleared-at : (sides : List Pin) (n : ℕ) → get_or (set sides n Free) n Free ≡ Free
cleared-at [] n = refl
cleared-at (p ∷ sides) zero = refl
cleared-at (p ∷ sides) (suc n) = cleared-at sides n

cleared-other : (sides : List Pin) (n s : ℕ) → (get_or (set sides n Free) s Free ≡ Free) ⊎ (get_or (set sides n Free) s Free ≡ get_or sides s Free)
cleared-other sides n s =
    elim (cases_eq s n) [
      | inl same ↦ inl (ap (λ m. get_or (set sides n Free) m Free) same ∙ cleared-at sides n)
      | inr apart ↦ inr (get_or-set_other sides n s Free Free apart)
    ]

-- with a signal left out of either
cleared-fewer : (less more : List Pin) (n : ℕ) → ((s : ℕ) → (get_or less s Free ≡ Free) ⊎ (get_or less s Free ≡ get_or more s Free)) →
    (s : ℕ) → (get_or (set less n Free) s Free ≡ Free) ⊎ (get_or (set less n Free) s Free ≡ get_or (set more n Free) s Free)
cleared-fewer less more n fewer s =
    elim (cases_eq s n) [
      | inl same ↦ inl (ap (λ m. get_or (set less n Free) m Free) same ∙ cleared-at less n)
      | inr apart ↦
          elim (fewer s) [
            | inl free ↦ inl (get_or-set_other less n s Free Free apart ∙ free)
            | inr is ↦ inr (get_or-set_other less n s Free Free apart ∙ is ∙ sym (get_or-set_other more n s Free Free apart))
          ]
    ]

pub free_pin : (p : Pin) → is_free p ≡ true → p ≡ Free
free_pin Free e = refl
free_pin (Known b) e = absurd (true≢false (sym e))
free_pin Open e = absurd (true≢false (sym e))

-- what one step does: the side was free already, its readers stay unknown without it, or one of them doesn't
pub kept_free : (net : Parts) (on : ℕ → Bool) (cycle : List ℕ) (n : ℕ) (sides : List Pin) → get_or sides n Free ≡ Free → HasLeftOut net on cycle n sides sides
kept_free net on cycle n sides free = inr (refl, λ known. absurd (known free))

pub left_out : (net : Parts) (on : ℕ → Bool) (cycle : List ℕ) (n : ℕ) (sides : List Pin) → HoldsCycle net on sides cycle → ReadersStay net on (set sides n Free) cycle n → HasLeftOut net on cycle n sides (set sides n Free)
left_out net on cycle n sides h stay = inl (refl, readers_hold net on sides cycle n h stay)

pub kept_side : (net : Parts) (on : ℕ → Bool) (cycle : List ℕ) (n : ℕ) (sides : List Pin) → (¬ ReadersStay net on (set sides n Free) cycle n) → HasLeftOut net on cycle n sides (set (set sides n Free) n (get_or sides n Free))
kept_side net on cycle n sides none = inr (restored sides n, λ known held. none (holding_readers net on (set sides n Free) cycle n held))
  where
    restored : (ps : List Pin) (k : ℕ) → set (set ps k Free) k (get_or ps k Free) ≡ ps
    restored [] k = refl
    restored (p ∷ ps) zero = refl
    restored (p ∷ ps) (suc k) = ap (λ qs. p ∷ qs) (restored ps k)

pub leaving_first : (net : Parts) (on : ℕ → Bool) (cycle : List ℕ) (all : List Pin) → HoldsCycle net on all cycle → IsLeavingOut net on cycle 0 all all
leaving_first net on cycle all h = record { size = refl; fewer = λ s. inr refl; holds = h; each = λ s l. absurd (omega arith) }

-- what is left when one more is out is what was left before, or free
fewer_after : (all now new : List Pin) (n : ℕ) → new ≡ set now n Free → ((s : ℕ) → (get_or now s Free ≡ Free) ⊎ (get_or now s Free ≡ get_or all s Free)) →
    (s : ℕ) → (get_or new s Free ≡ Free) ⊎ (get_or new s Free ≡ get_or all s Free)
fewer_after all now new n is fewer s =
    elim (cleared-other now n s) [
      | inl free ↦ inl (ap (λ ps. get_or ps s Free) is ∙ free)
      | inr same ↦
          elim (fewer s) [
            | inl free ↦ inl (ap (λ ps. get_or ps s Free) is ∙ same ∙ free)
            | inr own ↦ inr (ap (λ ps. get_or ps s Free) is ∙ same ∙ own)
          ]
    ]

-- one after the other
pub leaving_on : (net : Parts) (on : ℕ → Bool) (cycle : List ℕ) (n : ℕ) (all now new : List Pin) → IsLeavingOut net on cycle 0 all now → IsLeavingOut net on cycle n now new → IsLeavingOut net on cycle n all new
leaving_on net on cycle n all now new first later = record {
  size = later.size ∙ first.size;
  fewer = λ s.
      elim (later.fewer s) [
        | inl free ↦ inl free
        | inr same ↦
            elim (first.fewer s) [
              | inl free ↦ inl (same ∙ free)
              | inr own ↦ inr (same ∙ own)
            ]
      ];
  holds = later.holds;
  each = later.each;
}

pub leaving_next : (net : Parts) (on : ℕ → Bool) (cycle : List ℕ) (n : ℕ) (all now new : List Pin) → IsLeavingOut net on cycle n all now → HasLeftOut net on cycle n now new → IsLeavingOut net on cycle (n + 1) all new
leaving_next net on cycle n all now new h tried =
    elim tried [
      | inl out ↦
          let is : new ≡ set now n Free = out.0 in
          record {
            size = ap length is ∙ length-set now n Free ∙ h.size;
            fewer = fewer_after all now new n is h.fewer;
            holds = out.1;
            each = λ s l known held.
                elim (cases_eq s n) [
                  | inl same ↦ known (ap (λ ps. get_or ps s Free) is ∙ ap (λ m. get_or (set now n Free) m Free) same ∙ cleared-at now n)
                  | inr apart ↦
                      h.each s (omega arith)
                      (λ free. known (ap (λ ps. get_or ps s Free) is ∙ get_or-set_other now n s Free Free apart ∙ free))
                      (holds_with_more net on (set new s Free) (set now s Free) cycle
                      (cleared-fewer new now s (λ m. subst (λ (ps : List Pin). (get_or ps m Free ≡ Free) ⊎ (get_or ps m Free ≡ get_or now m Free)) (sym is) (cleared-other now n m))) held)
                ];
          }
      | inr kept ↦
          let is : now ≡ new = sym kept.0 in
          subst (λ (ps : List Pin). IsLeavingOut net on cycle (n + 1) all ps) is
          (record {
            size = h.size;
            fewer = h.fewer;
            holds = h.holds;
            each = λ s l known held.
                elim (cases_eq s n) [
                  | inl same ↦
                      kept.1 (λ free. known (ap (λ m. get_or now m Free) same ∙ free))
                      (subst (λ (m : ℕ). HoldsCycle net on (set now m Free) cycle) same held)
                  | inr apart ↦ h.each s (omega arith) known held
                ];
          })
    ]

-- ---- what is left

same_beside : (on other : ℕ → Bool) (sides : List Pin) (signals : List Sig) → ((s : ℕ) → on s ≡ other s) → map (beside on sides) signals ≡ map (beside other sides) signals
same_beside on other sides [] same = refl
same_beside on other sides (s ∷ signals) same =
    ap (λ b. cond b Open (get_or sides s.0 Free) ∷ map (beside on sides) signals) (same s.0) ∙ ap (λ ps. beside other sides s ∷ ps) (same_beside on other sides signals same)

holds_same : (net : Parts) (on other : ℕ → Bool) (sides : List Pin) (cycle : List ℕ) → ((s : ℕ) → on s ≡ other s) → HoldsCycle net on sides cycle → HoldsCycle net other sides cycle
holds_same net on other sides cycle same h = λ k d l.
    subst (λ (ps : List Pin). StaysOpen (gate_at net (get_or cycle k d)).cover ps) (same_beside on other sides (gate_at net (get_or cycle k d)).pins same) (h k d l)

side_is : (mark : Bool) (value : Trit) (p : Pin) → p ≡ side_of mark value → p ≢ Free → trit_of p ≡ value
side_is mark value p is known = grind arith

pub are_sides : (net : Parts) (known : List Trit) (cycle : List ℕ) (marks : List Bool) (all sides : List Pin) → ((s : ℕ) → is_marked marks s ≡ is_one_of net cycle s) → AreAllSides known marks (count net) all →
    IsLeavingOut net (is_marked marks) cycle (count net) all sides → AreSides net known cycle sides
are_sides net known cycle marks all sides same h left = record {
  size = left.size ∙ h.size;
  values = λ s needed.
      elim (left.fewer s) [
        | inl free ↦ absurd (needed free)
        | inr is ↦ side_is (is_marked marks s) (get_or known s X) (get_or sides s Free) (is ∙ h.each s (within s needed)) needed
      ];
  enough = holds_same net (is_marked marks) (is_one_of net cycle) sides cycle same left.holds;
  each = λ s needed held. left.each s (within s needed) needed (holds_same net (is_one_of net cycle) (is_marked marks) (set sides s Free) cycle (λ m. sym (same m)) held);
}
  where
    within : (s : ℕ) → get_or sides s Free ≢ Free → s < count net
    within s needed = grind (arith, cases_lt s (count net), get_or_past sides s Free, left.size, h.size)
