-- The unrolled netlist has no loop: a walk in it is a walk of the netlist, in which the numbers of the copies rise at each
-- cut wire.
use Rattle.std.proofs.Common.{◌≡◌, ◌⊎◌, inl, inr, ℕ, zero, suc, ◌+◌, ◌<◌, ◌≤◌, leb, true, false, List, [], ◌∷◌, length, map, get_or, refl, ap, sym, ◌∙◌, subst, arith, Contains, true≢false}
use Rattle.unroll.proofs.Common.{cases_lt, and_from, le-leb, cases_Bool, get_or-map, length-map, AllByRecursion, Sig, all_weaker, all_map, Parts, signal, gate_at, gate_sig, Loops, AreLoopsOf, first_gate, gate_of, in_loop_of, in_loop_from, same-sym, same-trans, same_within, has_loop, constants, shift, kept_latch, unrolled, IsOfLoops, Feeds, feeds_at}
use Rattle.netlist.specs.Walks.{Walk}
use Rattle.loops.specs.Walks.{SameLoop}
use Rattle.loops.proofs.Walks.{on_closed_walk, leads-any, cuts_leave_no_loop}
use Rattle.unroll.specs.Laws.{UnrolledIsLoopFree}
use Rattle.unroll.proofs.Measures.{length-unrolled}
use Rattle.unroll.proofs.Numbered.{has, spot, numbered, pin_of, origin as origin_by, level as level_by, is_at, has_number, stands, old_numbered, moved_low, moved_high}
use Rattle.unroll.proofs.Rounds.{has_same, self_of}
use Rattle.unroll.proofs.SizeLemmas.{one_in_range}

-- an item of a list that a function makes comes from some place
record FromPlace {A B : Type 0} (f : A → B) (xs : List A) (y : B) : Type 0 where
  at : ℕ
  within : at < length xs
  is : (d : A) → f (get_or xs at d) ≡ y

from_place : {A B : Type 0} (f : A → B) (xs : List A) (y : B) → Contains (map f xs) y → FromPlace f xs y
from_place f xs y c = grind (arith, length-map, get_or-map)

all_unmap : (P : ℕ → Type 0) (f : ℕ → ℕ) (xs : List ℕ) → AllByRecursion P (map f xs) → AllByRecursion (λ n. P (f n)) xs
all_unmap P f [] h = tt
all_unmap P f (x ∷ xs) h = (h.0, all_unmap P f xs h.1)

module _ (net : Parts) (loops : Loops) (m : ℕ → ℕ) where
  -- where there is a loop, there is the constant
  constant_is_there : (n : ℕ) → n < length net.gates → loops.same n n ≡ true → length (constants net loops) ≡ 1
  constant_is_there n l same =
      let has : has_loop net loops.same ≡ true = one_in_range (λ g. loops.same g g) (length net.gates) n l same in
      rw has refl

  -- the constant has no pins
  real_from_pin : (q : ℕ) (s : Sig) → Contains (gate_at (unrolled net loops m) q).pins s → length (constants net loops) ≤ q
  real_from_pin q s c = grind arith

  -- the signal of a gate of the unrolled netlist
  new_sig : (p : ℕ) → gate_sig (unrolled net loops m) p ≡ signal (first_gate net + p)
  new_sig p = ap (λ n. signal (length net.inputs + n + p)) (length-map net.latches (kept_latch net (shift net loops m)))

  -- the gate that a gate of the unrolled netlist stands for, and its number
  abbrev origin : ℕ → ℕ
  origin q = origin_by net loops m q

  abbrev level : ℕ → ℕ
  level q = level_by net loops m q

  -- a step of a walk from p to a gate that stands for n at this level
  record Step (p n high : ℕ) : Type 0 where
    feeds : Feeds net (origin p) n
    rises : loops.same n (origin p) ≡ true → (level p < high) ⊎ ((level p ≡ high) × (loops.cut (origin p) ≡ false))

  -- where p is number j + 1 of gate h
  step_from : (p k n j h : ℕ) → Feeds net h n → h < length net.gates → j ≤ has net loops m h → spot net loops m (suc j) h ≡ p → (loops.same n h ≡ true → (j < k) ⊎ ((j ≡ k) × (loops.cut h ≡ false))) → Step p n (suc k)
  step_from p k n j h feeds l few at up = grind (arith, is_at)

  module _ (are : AreLoopsOf net loops) (of_loops : IsOfLoops loops m) where
    -- the constant 0 is read by no gate on a walk
    step_from_cut : (p k n h : ℕ) → Feeds net h n → n < length net.gates → loops.same n h ≡ true → k ≤ has net loops m h → length (constants net loops) ≤ p → numbered net loops m k h ≡ signal (first_gate net + p) → Step p n (suc k)
    step_from_cut p zero n h feeds l same few real e = grind (arith, constant_is_there n l (self_of net loops m are of_loops n h same), self_of net loops m are of_loops n h same)
    step_from_cut p (suc j) n h feeds l same few real e = grind (arith, step_from p (suc j) n j h feeds (same_within net loops are n h same), same_within net loops are n h same)

    step_by_pin : (p k n i : ℕ) (d : Sig) → n < length net.gates → k ≤ has net loops m n → length (constants net loops) ≤ p → p < length (unrolled net loops m).gates → i < length (gate_at net n).pins → pin_of net loops m k n (get_or (gate_at net n).pins i d) ≡ signal (first_gate net + p) → Step p n (suc k)
    step_by_pin p k n i d l few real short here reads =
        let s = get_or (gate_at net n).pins i d in
        let h = gate_of net s in
        let all = length-unrolled net loops m in
        elim (cases_Bool (in_loop_of net loops n s)) [
          | inl inside ↦
              let q = in_loop_from net loops n s inside in
              let hl = same_within net loops are n h q.1 in
              let many = has_same net loops m are of_loops n h q.1 in
              let feeds = feeds_at net n i d l here q.0 hl in
              elim (cases_Bool (loops.cut h)) [
                | inl cut ↦ step_from_cut p k n h feeds l q.1 (omega arith) real (rw (inside, cut) at reads)
                | inr free ↦
                    let number = ap (λ (s : Sig). s.0) (rw (inside, free) at reads) in
                    step_from p k n k h feeds hl (omega arith) (omega arith) (λ same. inr (refl, free))
              ]
          | inr out ↦
              let old = rw out at reads in
              elim (cases_lt s.0 (first_gate net)) [
                | inl low ↦
                    let number = ap (λ (s : Sig). s.0) (sym (moved_low net (shift net loops m) s low) ∙ old) in
                    absurd (omega arith)
                | inr high ↦
                    let number = ap (λ (s : Sig). s.0) (sym (old_numbered net loops m s high) ∙ old) in
                    let moves = ap (λ (s : Sig). s.0) (sym (moved_high net (shift net loops m) s high) ∙ old) in
                    let hl : h < length net.gates = omega arith in
                    step_from p k n (has net loops m h) h (feeds_at net n i d l here high hl) hl (omega arith) (omega arith)
                    (λ same. absurd (true≢false (sym (and_from (leb (first_gate net) s.0) (loops.same n h) (le-leb (first_gate net) s.0 high) same) ∙ out)))
              ]
        ]

    step : (p q : ℕ) → Feeds (unrolled net loops m) p q → length (constants net loops) ≤ p → Step p (origin q) (level q)
    step p q f real =
        let pin = subst (Contains (gate_at (unrolled net loops m) q).pins) (new_sig p) f.pin in
        let it = has_number net loops m q (real_from_pin q (signal (first_gate net + p)) pin) f.reader in
        let is = is_at net loops m q it.number it.gate it.within it.few it.at in
        let reads = stands net loops m are of_loops it.number it.gate it.within it.few in
        let w = from_place (pin_of net loops m it.number it.gate) (gate_at net it.gate).pins (signal (first_gate net + p))
        (subst (λ (pins : List Sig). Contains pins (signal (first_gate net + p))) (ap (λ k. (gate_at (unrolled net loops m) k).pins) (sym it.at) ∙ reads.pins) pin) in
        grind (arith, step_by_pin p it.number it.gate w.at (signal 0) it.within it.few real f.source w.within (w.is (signal 0)))

    ends_real : (a b : ℕ) (via : List ℕ) → Walk (unrolled net loops m) a via b → length (constants net loops) ≤ b
    ends_real a b [] h = real_from_pin b (gate_sig (unrolled net loops m) a) h.pin
    ends_real a b (x ∷ via) h = ends_real x b via h.1

    project : (a b : ℕ) (via : List ℕ) → Walk (unrolled net loops m) a via b → length (constants net loops) ≤ a → Walk net (origin a) (map origin via) (origin b)
    project a b [] h real = let s = step a b h real in s.feeds
    project a b (x ∷ via) h real = grind (arith, step a x h.0 real, project x b via h.1 (real_from_pin x (gate_sig (unrolled net loops m) a) h.0.pin), real_from_pin x (gate_sig (unrolled net loops m) a) h.0.pin)

    -- along a walk within one loop levels rise, and stay only where it passes no cut wire
    record Rises (a b : ℕ) (via : List ℕ) : Type 0 where
      up : level a ≤ level b
      uncut : level a ≡ level b → (loops.cut (origin a) ≡ false) × AllByRecursion (λ g. loops.cut (origin g) ≡ false) via

    levels : (c a b : ℕ) (via : List ℕ) → Walk (unrolled net loops m) a via b → length (constants net loops) ≤ a → loops.same c (origin a) ≡ true → loops.same c (origin b) ≡ true → AllByRecursion (λ g. loops.same c (origin g) ≡ true) via → Rises a b via
    levels c a b [] h real sa sb all = grind (arith, step a b h real, same-trans net loops are (origin b) c (origin a) (same-sym net loops are c (origin b) sb) sa, same-sym net loops are c (origin b) sb)
    levels c a b (x ∷ via) h real sa sb all =
        let s = step a x h.0 real in
        let rest = levels c x b via h.1 (real_from_pin x (gate_sig (unrolled net loops m) a) h.0.pin) all.0 sb all.1 in
        let up = rest.up in
        elim (s.rises (same-trans net loops are (origin x) c (origin a) (same-sym net loops are c (origin x) all.0) sa)) [
          | inl less ↦ record { up = omega arith; uncut = λ e. absurd (omega arith) }
          | inr w ↦ let e = w.0 in record { up = omega arith; uncut = λ d. (w.1, rest.uncut (omega arith)) }
        ]

    opened : (a : ℕ) (via : List ℕ) → Walk (unrolled net loops m) a via a → ⊥
    opened a via walk =
        let real = ends_real a a via walk in
        let below = project a a via walk real in
        let o = origin a in
        let self : loops.same o o ≡ true =
        (are.same o o).1 (record { there = leads-any net o o (map origin via) below; back = leads-any net o o (map origin via) below }) in
        let all : AllByRecursion (λ g. loops.same o (origin g) ≡ true) via =
        all_weaker (λ g. SameLoop net o (origin g)) (λ g. loops.same o (origin g) ≡ true) via (λ g s. (are.same o (origin g)).1 s)
        (all_unmap (SameLoop net o) origin via (on_closed_walk net o (map origin via) below)) in
        let rises = levels o a a via walk real self self all in
        let uncut = rises.uncut refl in
        cuts_leave_no_loop net loops are o (map origin via) below uncut.0
        (all_map (λ g. loops.cut g ≡ false) origin via uncut.1)

pub unrolled_is_loop_free : UnrolledIsLoopFree
unrolled_is_loop_free net loops are m of_loops a via walk = opened net loops m are of_loops a via walk
