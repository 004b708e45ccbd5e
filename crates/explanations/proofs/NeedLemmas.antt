-- Leaving columns out one by one.
use Rattle.std.proofs.Common.{◌≡◌, ◌≢◌, ◌⊎◌, inl, inr, ℕ, zero, suc, ◌+◌, ◌-◌, ◌*◌, ◌<◌, ◌≤◌, Bool, true, false, List, [], ◌∷◌, length, map, get_or, set, replicate, refl, ap, sym, ◌∙◌, subst, arith, true≢false}
use Rattle.std.specs.List.{All, AllZip, zip}
use Rattle.std.proofs.lemmas.Bool.{cases_eq, cases_lt}
use Rattle.std.proofs.lemmas.List.{length-map, get_or_append_left, get_or_past, get_or-set_other, get_or-set_same, length-set}
use Rattle.cyc_base.specs.declared.sig.Sig.{Sig}
use Rattle.cyc_base.specs.declared.trit.Trit.{Trit}
use Rattle.cyc_base.specs.declared.trit.Trit.TheVariants.{Zero, One, X}
use Rattle.cyc_base.specs.Values.{bit, bits, Below, EachBelow}
use Rattle.cyc_base.proofs.OrderLemmas.{Below-refl, EachBelow-refl, EachBelow-trans, EachBelow-at, EachBelow-from_at, EachBelow-length, EachBelow-unknown}
use Rattle.cover_logic.specs.Extensions.{ext}
use Rattle.netlist.specs.declared.parts.Parts.{Parts}
use Rattle.netlist.specs.Fixpoint.{wire, fix_gates, fix}
use Rattle.netlist.specs.Netlists.{count, gate_at, gate_sig, no_gate, IsNetlist, is_marked}
use Rattle.netlist.proofs.FixpointLemmas.{fix_is_monotone}
use Rattle.ternary_run.proofs.SettlingLemmas.{falls, length-fix}
use Rattle.explanations.specs.declared.needs.Holding.{Holding}
use Rattle.explanations.specs.declared.needs.Run.{Run}
use Rattle.explanations.specs.Pins.{MayBe}
use Rattle.explanations.specs.Held.{seen, pin_at, AreUnknownGates, IsHeldOpen, IsGreatestWithin, AreMarked, HoldsOpen}
use Rattle.explanations.specs.Explained.{IsUnknown, AreNeeded, AreFurther, both, or_else, beyond, HasTriedWithout, IsHolding, IsNeeding, IsNeededRun, IsNextRun, IsWithoutRun, AreAllUnknown}
use Rattle.explanations.proofs.ClearedLemmas.{below_x, fix_at_gate}
use Rattle.explanations.proofs.HeldLemmas.{held_with_more_known, holds_open_with_more}

-- ---- all unknown gates, at a vector

get_or-bits : (v : List Bool) (n : ℕ) → n < length v → get_or (bits v) n X ≢ X
get_or-bits [] n l e = absurd (omega arith)
get_or-bits (true ∷ v) zero l e = let same : One ≡ X = e in cc
get_or-bits (false ∷ v) zero l e = let same : Zero ≡ X = e in cc
get_or-bits (b ∷ v) (suc n) l e = get_or-bits v n (omega arith) e

mark_within : (marks : List Bool) (n : ℕ) → is_marked marks n ≡ true → n < length marks
mark_within [] n e = absurd (true≢false (sym e))
mark_within (b ∷ marks) zero e = omega arith
mark_within (b ∷ marks) (suc n) e = (let l = mark_within marks n e in omega arith)

-- what a pin sees that is known or unknown for good is its value
same_seen : (mark : Bool) (value v : Trit) → (value ≡ X → mark ≡ true) → (mark ≡ true → value ≡ X) → MayBe (seen mark value) v → v ≡ value
same_seen true value v a o m = m ∙ sym (o refl)
same_seen false X v a o m = absurd (true≢false (sym (a refl)))
same_seen false Zero v a o m = m
same_seen false One v a o m = m

values_seen : (known : List Trit) (marks : List Bool) (signals : List Sig) (values : List Trit) →
    ((k : ℕ) → k < length signals → (d : Sig) → wire known (get_or signals k d) ≡ X → is_marked marks (get_or signals k d).0 ≡ true) →
    ((n : ℕ) → is_marked marks n ≡ true → get_or known n X ≡ X) →
    AllZip MayBe (map (pin_at known marks) signals) values → values ≡ map (wire known) signals
values_seen known marks [] [] a o m = refl
values_seen known marks [] (v ∷ values) a o m = absurd m
values_seen known marks (s ∷ signals) [] a o m = absurd m
values_seen known marks (s ∷ signals) (v ∷ values) a o m =
    ap (λ t. t ∷ values) (same_seen (is_marked marks s.0) (wire known s) v (a zero (omega arith) s) (o s.0) m.0)
    ∙ ap (λ ts. wire known s ∷ ts) (values_seen known marks signals values (λ k l d. a (suc k) (omega arith) d) o m.1)

pub width_of_bits : (net : Parts) (v : List Bool) → length v ≡ length net.inputs + length net.latches → length (bits v) ≡ length net.inputs + length net.latches
width_of_bits net v width = length-map v bit ∙ width

-- a column has its value in the fixpoint
pub column_is_known : (net : Parts) (v : List Bool) → length v ≡ length net.inputs + length net.latches → (n : ℕ) → n < length net.inputs + length net.latches → get_or (fix net (bits v)) n X ≡ X → ⊥
column_is_known net v width n l e =
    let size = width_of_bits net v width in
    get_or-bits v n (omega arith) (sym (get_or_append_left (bits v) (fix_gates net (bits v)) X n (omega arith)) ∙ e)

module _ (net : Parts) (v : List Bool) (marks : List Bool) (valid : IsNetlist net) (width : length v ≡ length net.inputs + length net.latches)
    (h : AreAllUnknown net (fix net (bits v)) (count net) marks) where
  pins_within : (g k : ℕ) (d : Sig) → g < length net.gates → k < length (gate_at net g).pins → (get_or (gate_at net g).pins k d).0 < count net
  pins_within g k d l m = valid.pins g no_gate l k d m

  unknown_marked : (n : ℕ) → n < count net → get_or (fix net (bits v)) n X ≡ X → is_marked marks n ≡ true
  unknown_marked n l e =
      elim (cases_lt n (length net.inputs + length net.latches)) [
        | inl column ↦ absurd (column_is_known net v width n column e)
        | inr behind ↦ h.all n l behind e
      ]

  pub vector_holds : IsHeldOpen net (fix net (bits v)) marks
  vector_holds = record {
    unknown = λ n e.
        let is = h.only n e in
        let within = mark_within marks n e in
        let size = h.size in
        (record { behind = is.0; within = omega arith }, is.1);
    held = λ g l e values may.
        ap (ext (gate_at net g).cover)
        (values_seen (fix net (bits v)) marks (gate_at net g).pins values
        (λ k m d x. unknown_marked (get_or (gate_at net g).pins k d).0 (pins_within g k d l m) x)
        (λ n f. (h.only n f).1) may)
        ∙ sym (fix_at_gate net (bits v) g (width_of_bits net v width) l) ∙ (h.only (gate_sig net g).0 e).1;
  }

  pub vector_holding : IsHolding net (bits v) marks
  vector_holding = record {
    width = width_of_bits net v width;
    size = h.size;
    greatest = record {
      held = vector_holds;
      greatest = λ others held n e.
          let is = held.unknown n e in
          unknown_marked n is.0.within is.1;
    };
  }

pub vector_holding_at : (net : Parts) (v : List Bool) (known given : List Trit) (marks : List Bool) → IsNetlist net → length v ≡ length net.inputs + length net.latches → given ≡ bits v → known ≡ fix net given →
    AreAllUnknown net known (count net) marks → IsHolding net given marks
vector_holding_at net v known given marks valid width is fixed h =
    rw is (vector_holding net v marks valid width (rw (fixed, is) at h))

-- ---- fewer columns

set_below : (low high : List Trit) (column : ℕ) → EachBelow low high → EachBelow (set low column X) (set high column X)
set_below [] [] column h = tt
set_below [] (y ∷ ys) column h = absurd h
set_below (x ∷ xs) [] column h = absurd h
set_below (x ∷ xs) (y ∷ ys) zero h = (tt, h.1)
set_below (x ∷ xs) (y ∷ ys) (suc column) h = (h.0, set_below xs ys column h.1)

pub length-fix_of : (net : Parts) (given fewer : List Trit) → length given ≡ length net.inputs + length net.latches → EachBelow fewer given → length (fix net fewer) ≡ count net
length-fix_of net given fewer width below = length-fix net fewer (EachBelow-length fewer given below ∙ width)

module _ (net : Parts) (given : List Trit) (marks : List Bool) (h : IsHolding net given marks) (fewer : List Trit) (below : EachBelow fewer given) where
  -- the gates that are held open are unknown with fewer, too
  pub less_unknown : AreUnknownGates net (fix net fewer) marks
  less_unknown n e =
      let was = h.greatest.held.unknown n e in (
        was.0,
        below_x (get_or (fix net fewer) n X)
            (subst (λ (t : Trit). Below (get_or (fix net fewer) n X) t) was.1 (EachBelow-at (fix net fewer) (fix net given) n (fix_is_monotone net fewer given below))),
      )

  pub less_holding : (less : List Bool) → IsGreatestWithin net (fix net fewer) marks less → IsHolding net fewer less
  less_holding less g = record {
    width = EachBelow-length fewer given below ∙ h.width;
    size = g.size ∙ h.size;
    greatest = record {
      held = g.held;
      greatest = λ others held.
          g.greatest others held
          (h.greatest.greatest others (held_with_more_known net fewer given others held h.width below));
    };
  }

pub without_one_more : (kept given fewer : List Trit) (first column : ℕ) (value : Trit) → first ≤ column → column < length given → value ≡ get_or kept column X → IsWithoutRun kept first column given fewer →
    IsWithoutRun kept first (column + 1) given (set fewer column value)
without_one_more kept given fewer first column value from within is h = record {
  size = length-set fewer column value ∙ h.size;
  before = λ n l. get_or-set_other fewer column n value X (λ same. omega (arith, same)) ∙ h.before n l;
  inside = λ n low high.
      elim (cases_eq n column) [
        | inl same ↦
            let size = h.size in
            rw same (get_or-set_same fewer column value X (omega arith) ∙ is)
        | inr apart ↦ get_or-set_other fewer column n value X apart ∙ h.inside n low (omega arith)
      ];
  behind = λ n l. get_or-set_other fewer column n value X (λ same. omega (arith, same)) ∙ h.behind n (omega arith);
}

module _ (kept given fewer : List Trit) (first last : ℕ) (keeps : EachBelow kept given) (is : IsWithoutRun kept first last given fewer) where
  fewer_at : (n : ℕ) → (get_or fewer n X ≡ get_or given n X) ⊎ (get_or fewer n X ≡ get_or kept n X)
  fewer_at n = grind (arith, cases_lt n first, cases_lt n last, is.before n, is.inside n, is.behind n)

  pub without_below : EachBelow fewer given
  without_below =
      EachBelow-from_at fewer given is.size
      (λ n l. elim (fewer_at n) [
        | inl same ↦ rw same (Below-refl (get_or given n X))
        | inr same ↦ rw same (EachBelow-at kept given n keeps)
      ])

  pub keeps_without : EachBelow kept fewer
  keeps_without =
      EachBelow-from_at kept fewer (EachBelow-length kept given keeps ∙ sym is.size)
      (λ n l. elim (fewer_at n) [
        | inl same ↦ rw same (EachBelow-at kept given n keeps)
        | inr same ↦ rw same (Below-refl (get_or kept n X))
      ])

-- a value that isn't needed where nothing is
get_or-unknown : (n k : ℕ) → get_or (replicate n X) k X ≡ X
get_or-unknown zero k = refl
get_or-unknown (suc n) zero = refl
get_or-unknown (suc n) (suc k) = get_or-unknown n k

pub needing_first : (net : Parts) (v : List Bool) (gates : List ℕ) (kept given : List Trit) (marks : List Bool) → IsHolding net given marks → given ≡ bits v → EachBelow kept (bits v) →
    AreAllUnknown net (fix net (bits v)) (count net) marks → All (IsUnknown net (fix net (bits v))) gates → IsNeeding net v gates kept 0 given marks
needing_first net v gates kept given marks h is keeps all unknown = record {
  holding = h;
  of_vector = rw is (EachBelow-refl (bits v));
  keeps = rw is keeps;
  among = λ k d l. marked (get_or gates k d) (unknown k d l);
  each = λ column l. absurd (omega arith);
}
  where
    marked : (g : ℕ) → IsUnknown net (fix net (bits v)) g → is_marked marks (gate_sig net g).0 ≡ true
    marked g u = (let l = u.gate in all.all (gate_sig net g).0 (omega arith) (omega arith) u.unknown)

-- a column that is left out is X
cleared : (ts : List Trit) (m : ℕ) → get_or (set ts m X) m X ≡ X
cleared [] m = refl
cleared (t ∷ ts) zero = refl
cleared (t ∷ ts) (suc m) = cleared ts m

module _ (net : Parts) (v : List Bool) (gates : List ℕ) (kept : List Trit) (first : ℕ) (given : List Trit) (marks : List Bool) (h : IsNeeding net v gates kept first given marks) where
  -- the gates stay open without the run
  needing_less : (last : ℕ) (fewer : List Trit) (less : List Bool) → IsWithoutRun kept first last given fewer → IsHolding net fewer less → AreMarked net less gates → IsNeeding net v gates kept last fewer less
  needing_less last fewer less is holding among = record {
    holding = holding;
    of_vector = EachBelow-trans fewer given (bits v) (without_below kept given fewer first last h.keeps is) h.of_vector;
    keeps = keeps_without kept given fewer first last h.keeps is;
    among = among;
    each = λ column l own known open'.
        elim (cases_lt column first) [
          | inl before ↦
              h.each column before own (λ x. known (is.before column before ∙ x))
              (holds_open_with_more net (set fewer column X) (set given column X) gates
              (length-set given column X ∙ h.holding.width)
              (set_below fewer given column (without_below kept given fewer first last h.keeps is)) open')
          | inr behind ↦ known (is.inside column behind l ∙ own)
        ];
  }

  -- they don't stay so without the one column, and its value is needed
  needing_it : IsNeededRun net gates kept first (first + 1) given → IsNeeding net v gates kept (first + 1) given marks
  needing_it needed = record {
    holding = h.holding;
    of_vector = h.of_vector;
    keeps = h.keeps;
    among = h.among;
    each = λ column l own known open'.
        elim (cases_eq column first) [
          | inl same ↦
              let here : get_or kept first X ≡ X = subst (λ (m : ℕ). get_or kept m X ≡ X) same own in
              needed.not
              (holds_open_with_more net (set given first X) needed.fewer gates (needed.is.size ∙ h.holding.width)
              (EachBelow-from_at (set given first X) needed.fewer (length-set given first X ∙ sym needed.is.size) (λ n in_list. alike here n))
              (subst (λ (m : ℕ). HoldsOpen net (set given m X) gates) same open'))
          | inr apart ↦ h.each column (omega arith) own known open'
        ];
  }
    where
      alike : get_or kept first X ≡ X → (n : ℕ) → Below (get_or (set given first X) n X) (get_or needed.fewer n X)
      alike here n =
          elim (cases_eq n first) [
            | inl same ↦ rw (same, cleared given first) tt
            | inr apart ↦ rw (get_or-set_other given first n X X apart, other n apart) (Below-refl (get_or given n X))
          ]
        where
          other : (m : ℕ) → (m ≡ first → ⊥) → get_or needed.fewer m X ≡ get_or given m X
          other m apart = grind (arith, cases_lt m first, needed.is.before m, needed.is.behind m)

  pub needing_next : (columns : ℕ) (run next : Run) (old new : Holding) (out : Bool) → run.first ≡ first → given ≡ old.given.items → marks ≡ old.marks.items →
      HasTriedWithout net gates kept run old new out → IsNextRun columns run out next → IsNeeding net v gates kept next.first new.given.items new.marks.items
  needing_next columns run next old new true at is own tried after =
      rw (after.out_of refl, at)
      (needing_less (first + run.count) new.given.items new.marks.items (rw (at, ← is) at tried.0) tried.1 tried.2)
  needing_next columns run next old new false at is own tried after =
      rw (tried.0, tried.1, ← is, ← own)
      (elim (after.stays refl) [
        | inl half ↦ rw (half.0, at) h
        | inr single ↦ rw (single.0, at) (needing_it (rw (at, single.1, ← is) at tried.2))
      ])

-- the columns that are left and those of the run, so weighed that it falls with each try
abbrev pub tries_left : ℕ → Run → ℕ
tries_left columns run = (columns - run.first) * suc columns + run.count

pub tries_fall : (columns : ℕ) (run next : Run) (out : Bool) → 0 < run.count → run.first + run.count ≤ columns → IsNextRun columns run out next → tries_left columns next < tries_left columns run
tries_fall columns run next out some within after =
    elim (forward out after) [
      | inl ahead ↦
          (let further = falls (columns - next.first) (columns - run.first) columns (run.count - 1) next.count (omega (arith, after.within)) (omega (arith, after.within)) in
          omega (arith, further))
      | inr half ↦ rw half.0 (let less = half.1 in omega arith)
    ]
  where
    forward : (b : Bool) → IsNextRun columns run b next → (run.first < next.first) ⊎ ((next.first ≡ run.first) × (next.count < run.count))
    forward true a = (let is = a.out_of refl in inl (omega arith))
    forward false a =
        elim (a.stays refl) [
          | inl half ↦ inr half
          | inr single ↦ (let is = single.0 in inl (omega arith))
        ]

pub all_needed : (net : Parts) (v : List Bool) (gates : List ℕ) (columns n : ℕ) (given : List Trit) (marks : List Bool) → length v ≡ n → IsNeeding net v gates (replicate columns X) n given marks → AreNeeded net v gates given
all_needed net v gates columns n given marks width h = record {
  of_vector = h.of_vector;
  enough = record { marks = marks; held = h.holding.greatest.held; among = h.among };
  each = λ column inside.
      let size = EachBelow-length given (bits v) h.of_vector in
      let same = length-map v bit in
      h.each column (omega arith) (get_or-unknown columns column);
}

pub unknown_below : (v : List Bool) (columns : ℕ) → columns ≡ length v → EachBelow (replicate columns X) (bits v)
unknown_below v columns is = subst (λ (n : ℕ). EachBelow (replicate n X) (bits v)) (length-map v bit ∙ sym is) (EachBelow-unknown (bits v))

-- ---- what is needed besides

abbrev pub all_beyond : List Trit → List Trit → List Trit
all_beyond needs given = map (λ p. beyond p.0 p.1) (zip needs given)

beyond_is : (need value : Trit) → Below need value → or_else need (beyond need value) ≡ value
beyond_is need value h = grind arith

both_beyond : (needs given : List Trit) → EachBelow needs given → both needs (all_beyond needs given) ≡ given
both_beyond [] [] h = refl
both_beyond [] (g ∷ given) h = absurd h
both_beyond (t ∷ needs) [] h = absurd h
both_beyond (t ∷ needs) (g ∷ given) h = ap (λ x. x ∷ both needs (all_beyond needs given)) (beyond_is t g h.0) ∙ ap (λ xs. g ∷ xs) (both_beyond needs given h.1)

both_set : (needs given : List Trit) (column : ℕ) → EachBelow needs given → get_or needs column X ≡ X → both needs (set (all_beyond needs given) column X) ≡ set given column X
both_set [] [] column h e = refl
both_set [] (g ∷ given) column h e = absurd h
both_set (t ∷ needs) [] column h e = absurd h
both_set (t ∷ needs) (g ∷ given) zero h e = ap (λ x. or_else x X ∷ both needs (all_beyond needs given)) e ∙ ap (λ xs. X ∷ xs) (both_beyond needs given h.1)
both_set (t ∷ needs) (g ∷ given) (suc column) h e =
    ap (λ x. x ∷ both needs (set (all_beyond needs given) column X)) (beyond_is t g h.0) ∙ ap (λ xs. g ∷ xs) (both_set needs given column h.1 e)

beyond_below : (need value b : Trit) → Below value b → Below (beyond need value) b
beyond_below need value b h = grind arith

all_beyond_below : (needs given high : List Trit) → EachBelow needs given → EachBelow given high → EachBelow (all_beyond needs given) high
all_beyond_below [] [] high h k = k
all_beyond_below [] (g ∷ given) high h k = absurd h
all_beyond_below (t ∷ needs) [] high h k = absurd h
all_beyond_below (t ∷ needs) (g ∷ given) [] h k = absurd k
all_beyond_below (t ∷ needs) (g ∷ given) (b ∷ high) h k = (beyond_below t g b k.0, all_beyond_below needs given high h.1 k.1)

needed_not_beyond : (need value : Trit) → need ≢ X → beyond need value ≡ X
needed_not_beyond need value n = grind arith

apart_beyond : (needs given : List Trit) (column : ℕ) → get_or needs column X ≢ X → get_or (all_beyond needs given) column X ≡ X
apart_beyond [] given column n = refl
apart_beyond (t ∷ needs) [] column n = refl
apart_beyond (t ∷ needs) (g ∷ given) zero n = needed_not_beyond t g n
apart_beyond (t ∷ needs) (g ∷ given) (suc column) n = apart_beyond needs given column n

known_beyond : (need value : Trit) → beyond need value ≢ X → (need ≡ X) × (value ≢ X)
known_beyond X value n = (refl, n)
known_beyond Zero value n = absurd (n refl)
known_beyond One value n = absurd (n refl)

known_there : (needs given : List Trit) (column : ℕ) → get_or (all_beyond needs given) column X ≢ X → (get_or needs column X ≡ X) × (get_or given column X ≢ X)
known_there [] given column n = absurd (n refl)
known_there (t ∷ needs) [] column n = absurd (n refl)
known_there (t ∷ needs) (g ∷ given) zero n = known_beyond t g n
known_there (t ∷ needs) (g ∷ given) (suc column) n = known_there needs given column n

pub further_added : (net : Parts) (v : List Bool) (gates : List ℕ) (needs : List Trit) (n : ℕ) (given : List Trit) (marks : List Bool) → length v ≡ n → IsNeeding net v gates needs n given marks →
    AreFurther net v needs gates (all_beyond needs given)
further_added net v gates needs n given marks width h = record {
  of_vector = all_beyond_below needs given (bits v) h.keeps h.of_vector;
  apart = apart_beyond needs given;
  enough = rw (both_beyond needs given h.keeps) (record { marks = marks; held = h.holding.greatest.held; among = h.among });
  each = λ column known open'.
      let there = known_there needs given column known in
      let size = EachBelow-length given (bits v) h.of_vector in
      let same = length-map v bit in
      h.each column (within column there.1) there.0 there.1 (subst (λ (ts : List Trit). HoldsOpen net ts gates) (both_set needs given column h.keeps there.0) open');
}
  where
    within : (column : ℕ) → get_or given column X ≢ X → column < n
    within column known = (let size = EachBelow-length given (bits v) h.of_vector in let same = length-map v bit in grind (arith, cases_lt column n, get_or_past given column X))

both_unknown_rest : (needs : List Trit) (n : ℕ) → n ≡ length needs → both needs (replicate n X) ≡ needs
both_unknown_rest [] zero e = refl
both_unknown_rest [] (suc n) e = absurd (omega arith)
both_unknown_rest (t ∷ needs) zero e = absurd (omega arith)
both_unknown_rest (X ∷ needs) (suc n) e = ap (λ xs. X ∷ xs) (both_unknown_rest needs n (omega arith))
both_unknown_rest (Zero ∷ needs) (suc n) e = ap (λ xs. Zero ∷ xs) (both_unknown_rest needs n (omega arith))
both_unknown_rest (One ∷ needs) (suc n) e = ap (λ xs. One ∷ xs) (both_unknown_rest needs n (omega arith))

pub further_none : (net : Parts) (v : List Bool) (gates : List ℕ) (needs : List Trit) (marks : List Bool) (columns : ℕ) → columns ≡ length v → EachBelow needs (bits v) → IsHolding net needs marks → AreMarked net marks gates →
    AreFurther net v needs gates (replicate columns X)
further_none net v gates needs marks columns is below h among = record {
  of_vector = unknown_below v columns is;
  apart = λ column known. get_or-unknown columns column;
  enough =
      (let size = EachBelow-length needs (bits v) below in
      let same = length-map v bit in
      rw (both_unknown_rest needs columns (omega arith)) (record { marks = marks; held = h.greatest.held; among = among }));
  each = λ column known. absurd (known (get_or-unknown columns column));
}
