-- How a tally of glitches grows by a change.
use Rattle.std.proofs.Common.{◌≡◌, ◌≢◌, ◌<◌, ◌≤◌, ◌+◌, ◌==◌, ◌&&◌, ◌||◌, ℕ, zero, suc, Bool, true, false, cond, nat_lt, List, [], ◌∷◌, ◌++◌, length, filter, get_or, set, max, replicate, inl, inr, refl, ap, sym, ◌∙◌, arith}
use Rattle.std.specs.List.{fold, sum_by, range_with_len}
use Rattle.std.proofs.lemmas.Bool.{both_ways, ltb-true, ltb-false, lt-ltb, le-ltb, eq-eqb, cases_eq, cases_lt, cases_Bool, and_from, and_right}
use Rattle.std.proofs.lemmas.List.{length-append, length-set, length-replicate, get_or-replicate, get_or-set_same, get_or-set_other}
use Rattle.std.proofs.Math.ListN.{get_or-eq_default}
use Rattle.std.proofs.lemmas.List.Elements.{filter-append}
use Rattle.std.proofs.lemmas.List.Sums.{sum_by-cons}
use Rattle.cyc_base.specs.declared.sig.Sig.{Sig}
use Rattle.netlist.specs.declared.parts.Parts.{Parts}
use Rattle.netlist.specs.Netlists.{gate_sig, signal}
use Rattle.delay_core.specs.declared.change.Change.{Change}
use Rattle.probes.specs.Texts.{last_tick, is_turn, glitches_in}
use Rattle.probes.specs.Tables.{has_turn, turns_in, glitches_upto, IsTally}

pub cond_or : (b x : Bool) → cond b true x ≡ (b || x)
cond_or b x = grind arith

-- ---- sums of which one term grows

pub sum_same : (f g : ℕ → ℕ) (a n : ℕ) → ((i : ℕ) → g i ≡ f i) → sum_by g (range_with_len a n) ≡ sum_by f (range_with_len a n)
sum_same f g a zero same = refl
sum_same f g a (suc n) same = grind arith

sum_before : (f g : ℕ → ℕ) (a n k : ℕ) → ((i : ℕ) → i ≢ k → g i ≡ f i) → k < a → sum_by g (range_with_len a n) ≡ sum_by f (range_with_len a n)
sum_before f g a zero k same before = refl
sum_before f g a (suc n) k same before = grind (arith, sum_by-cons g a (range_with_len (a + 1) n), sum_before f g (a + 1) n k same, sum_by-cons f a (range_with_len (a + 1) n))

pub sum_one : (f g : ℕ → ℕ) (a n j k d : ℕ) → a + j ≡ k → j < n → ((i : ℕ) → i ≢ k → g i ≡ f i) → g k ≡ f k + d → sum_by g (range_with_len a n) ≡ sum_by f (range_with_len a n) + d
sum_one f g a zero j k d e short same more = omega (arith, short)
sum_one f g a (suc n) zero k d e short same more = grind (arith, sum_by-cons g a (range_with_len (a + 1) n), sum_by-cons f a (range_with_len (a + 1) n), sum_before f g (a + 1) n k same)
sum_one f g a (suc n) (suc j) k d e short same more = grind (arith, sum_by-cons g a (range_with_len (a + 1) n), sum_by-cons f a (range_with_len (a + 1) n), sum_one f g (a + 1) n j k d)

-- ---- one more change

abbrev one_of : Bool → ℕ
one_of b = cond b 1 0

one_if : (p : Change → Bool) (c : Change) → length (filter p (c ∷ [])) ≡ cond (p c) 1 0
one_if p c = elim (cases_Bool (p c)) [ inl is ↦ rw is refl | inr isnt ↦ rw isnt refl ]

pub turns_more : (changes : List Change) (c : Change) (s : Sig) (t : ℕ) → turns_in (changes ++ c ∷ []) s t ≡ turns_in changes s t + cond (is_turn s t c) 1 0
turns_more changes c s t =
    ap (λ (xs : List Change). length xs) (filter-append (is_turn s t) changes (c ∷ []))
    ∙ length-append (filter (is_turn s t) changes) (filter (is_turn s t) (c ∷ []))
    ∙ ap (λ (n : ℕ). turns_in changes s t + n) (one_if (is_turn s t) c)

-- a change that is no turn of this signal in this tick, or its first one there, is no glitch
same_glitches : (changes : List Change) (c : Change) (s : Sig) (t : ℕ) → (is_turn s t c ≡ true → turns_in changes s t ≡ 0) → glitches_in (changes ++ c ∷ []) s t ≡ glitches_in changes s t
same_glitches changes c s t first = grind (arith, cases_Bool (is_turn s t c), turns_more changes c s t)

-- each later one is
one_glitch : (changes : List Change) (c : Change) (s : Sig) (t : ℕ) → is_turn s t c ≡ true → 0 < turns_in changes s t → glitches_in (changes ++ c ∷ []) s t ≡ glitches_in changes s t + 1
one_glitch changes c s t is some = omega (arith, ap one_of is, turns_more changes c s t, some)

seen_more : (x y h : Bool) (n : ℕ) → h ≡ nat_lt 0 n → (x && y || h) ≡ nat_lt 0 (n + cond (x && (y && true)) 1 0)
seen_more x y h n e = grind arith

module _ (net : Parts) (changes : List Change) (c : Change) (ticks : ℕ) (turns : List (ℕ × ℕ)) (counts : List ℕ) (total : ℕ) (before : IsTally net changes ticks turns counts total) where
  abbrev after : List Change
  after = changes ++ c ∷ []

  longer : length after ≡ length changes + 1
  longer = length-append changes (c ∷ [])

  -- no gate has a glitch more
  tally_same : (newer : List (ℕ × ℕ)) → ((s : Sig) (t : ℕ) → has_turn newer s t ≡ nat_lt 0 (turns_in after s t)) → ((gate t : ℕ) → glitches_in after (gate_sig net gate) t ≡ glitches_in changes (gate_sig net gate) t) → IsTally net after ticks newer counts total
  tally_same newer seen same = grind (arith, sum_same, longer)

  -- a change at a tick's opening
  pub tally_opening : c.round ≡ 0 → IsTally net after ticks turns counts total
  tally_opening opening = grind (arith, and_right, le-ltb 0 c.round, tally_same turns, turns_more changes c, same_glitches changes c, both_ways)

  module _ (round : 0 < c.round) (newer : List (ℕ × ℕ)) (entered : (s : Sig) (t : ℕ) → has_turn newer s t ≡ (c.sig.0 == s.0 && c.tick == t || has_turn turns s t)) where
    in_round : nat_lt 0 c.round ≡ true
    in_round = lt-ltb 0 c.round round

    seen_after : (s : Sig) (t : ℕ) → has_turn newer s t ≡ nat_lt 0 (turns_in after s t)
    seen_after s t = grind (arith, seen_more (c.sig.0 == s.0) (c.tick == t) (has_turn turns s t) (turns_in changes s t) (before.seen s t), in_round, turns_more changes c s t)

    -- a turn of the change's signal in its tick is meant
    turn_parts : (s : Sig) (t : ℕ) → is_turn s t c ≡ true → (c.sig ≡ s) × (c.tick ≡ t)
    turn_parts s t is = grind arith

    -- the first change of its signal in a round of its tick
    pub tally_first : has_turn turns c.sig c.tick ≡ false → IsTally net after ticks newer counts total
    tally_first first =
        let none : turns_in changes c.sig c.tick ≡ 0 = omega (arith, ltb-false 0 (turns_in changes c.sig c.tick) (sym (before.seen c.sig c.tick) ∙ first)) in
        tally_same newer seen_after
        (λ gate t. same_glitches changes c (gate_sig net gate) t (λ is.
        let parts = turn_parts (gate_sig net gate) t is in
        rw (sym parts.0, sym parts.1) none))

    -- a change of an input or a latch
    pub tally_given : c.sig.0 < length net.inputs + length net.latches → IsTally net after ticks newer counts total
    tally_given given =
        tally_same newer seen_after
        (λ gate t. same_glitches changes c (gate_sig net gate) t (λ is.
        let parts = turn_parts (gate_sig net gate) t is in
        omega (arith, given, ap (λ (s : Sig). s.0) parts.0)))

    -- a later change of a gate
    pub tally_glitch : (k : ℕ) → has_turn turns c.sig c.tick ≡ true → c.sig ≡ gate_sig net k → k < length net.gates → c.tick < ticks →
        IsTally net after ticks newer (set counts k (get_or counts k 0 + 1)) (total + 1)
    tally_glitch k again is short timely =
        let some : 0 < turns_in changes c.sig c.tick = ltb-true 0 (turns_in changes c.sig c.tick) (sym (before.seen c.sig c.tick) ∙ again) in
        let turn : is_turn c.sig c.tick c ≡ true =
        and_from (c.sig.0 == c.sig.0) (c.tick == c.tick && nat_lt 0 c.round) (eq-eqb c.sig.0 c.sig.0 refl) (and_from (c.tick == c.tick) (nat_lt 0 c.round) (eq-eqb c.tick c.tick refl) in_round) in
        let own : glitches_upto ticks after (gate_sig net k) ≡ glitches_upto ticks changes (gate_sig net k) + 1 =
        rw (sym is)
        (sum_one (glitches_in changes c.sig) (glitches_in after c.sig) 0 ticks c.tick c.tick 1 (omega arith) timely
        (λ t other. same_glitches changes c c.sig t (λ e. absurd (other (sym (turn_parts c.sig t e).1))))
        (one_glitch changes c c.sig c.tick turn some)) in
        let others : (gate : ℕ) → gate ≢ k → glitches_upto ticks after (gate_sig net gate) ≡ glitches_upto ticks changes (gate_sig net gate) =
        λ gate other. sum_same (glitches_in changes (gate_sig net gate)) (glitches_in after (gate_sig net gate)) 0 ticks
        (λ t. same_glitches changes c (gate_sig net gate) t (λ e. absurd (other (omega (arith, ap (λ (s : Sig). s.0) (sym (turn_parts (gate_sig net gate) t e).0 ∙ is)))))) in
        let here : k < length counts = omega (arith, short, before.size) in
        record {
          seen = seen_after;
          size = length-set counts k (get_or counts k 0 + 1) ∙ before.size;
          each = λ gate fits. elim (cases_eq gate k) [
            | inl same ↦ rw same (get_or-set_same counts k (get_or counts k 0 + 1) 0 here ∙ ap (λ (n : ℕ). n + 1) (before.each k short) ∙ sym own)
            | inr other ↦ get_or-set_other counts k gate (get_or counts k 0 + 1) 0 other ∙ before.each gate fits ∙ sym (others gate other)
          ];
          few = λ gate. elim (cases_eq gate k) [
            | inl same ↦ rw (same, get_or-set_same counts k (get_or counts k 0 + 1) 0 here) (omega (arith, before.few k, longer))
            | inr other ↦ rw (get_or-set_other counts k gate (get_or counts k 0 + 1) 0 other) (omega (arith, before.few gate, longer))
          ];
          all = ap (λ (n : ℕ). n + 1) before.all
              ∙ sym (sum_one (λ gate. glitches_upto ticks changes (gate_sig net gate)) (λ gate. glitches_upto ticks after (gate_sig net gate)) 0 (length net.gates) k k 1 (omega arith) short others own);
          few_all = omega (arith, before.few_all, longer);
        }

-- ---- the empty tally, and ticks

sum_zero : (f : ℕ → ℕ) (a n : ℕ) → ((i : ℕ) → f i ≡ 0) → sum_by f (range_with_len a n) ≡ 0
sum_zero f a zero none = refl
sum_zero f a (suc n) none = sum_by-cons f a (range_with_len (a + 1) n) ∙ omega (arith, none a, sum_zero f (a + 1) n none)

zeros : (n i : ℕ) → ◌≡◌ {A = ℕ} (get_or (replicate n 0) i 0) 0
zeros n i =
    elim (cases_lt i n) [
      | inl short ↦ get_or-replicate n i 0 0 short
      | inr far ↦ get_or-eq_default (replicate n 0) 0 (omega (arith, far, length-replicate {A = ℕ} n 0))
    ]

pub tally_none : (net : Parts) (ticks : ℕ) → IsTally net [] ticks [] (replicate (length net.gates) 0) 0
tally_none net ticks =
    let none : (s : Sig) → glitches_upto ticks [] s ≡ 0 = λ s. sum_zero (glitches_in [] s) 0 ticks (λ t. refl) in
    let entry : (gate : ℕ) → ◌≡◌ {A = ℕ} (get_or (replicate (length net.gates) 0) gate 0) 0 = λ gate. zeros (length net.gates) gate in
    record {
      seen = λ s t. refl;
      size = length-replicate (length net.gates) 0;
      each = λ gate short. entry gate ∙ sym (none (gate_sig net gate));
      few = λ gate. omega (arith, entry gate);
      all = sym (sum_zero (λ gate. glitches_upto ticks [] (gate_sig net gate)) 0 (length net.gates) (λ gate. none (gate_sig net gate)));
      few_all = omega arith;
    }

most_least : (a : ℕ) (changes : List Change) → a ≤ fold (λ most (change : Change). max most change.tick) a changes
most_least a [] = omega arith
most_least a (c ∷ changes) = omega (arith, most_least (max a c.tick) changes)

most_bound : (a : ℕ) (changes : List Change) (i : ℕ) (d : Change) → i < length changes → (get_or changes i d).tick ≤ fold (λ most (change : Change). max most change.tick) a changes
most_bound a [] i d short = omega (arith, short)
most_bound a (c ∷ changes) zero d short = omega (arith, most_least (max a c.tick) changes)
most_bound a (c ∷ changes) (suc i) d short = most_bound (max a c.tick) changes i d (omega (arith, short))

pub tick_below : (changes : List Change) (i : ℕ) (d : Change) → i < length changes → (get_or changes i d).tick < last_tick changes + 1
tick_below changes i d short = omega (arith, most_bound 0 changes i d short)
