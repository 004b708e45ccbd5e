-- The copies of a gate by their numbers, where the number behind the last one is the gate itself: so what a gate of the
-- unrolled netlist reads is said once.
use Rattle.std.proofs.Common.{◌≡◌, inl, inr, ℕ, zero, suc, ◌+◌, ◌-◌, ◌<◌, ◌≤◌, leb, ltb, Bool, true, ◌&&◌, if◌then◌else◌, List, ◌++◌, length, map, get_or, refl, ap, ap₂, sym, ◌∙◌, arith}
use Rattle.unroll.proofs.Common.{cases_lt, le-leb, lt-leb, map-map, Sig, Trit, Gate, Parts, signal, gate_at, wire, fix, fix_gates, Loops, AreLoopsOf, first_gate, gate_of, in_loop_of, in_loop_from, Copy, copy_of, copies_of, copies, most, place, constants, moved, old_signal, copy_signal, unrolled, IsOfLoops, copy_pin, kept_pin, get_or-append-add, X, ext, get_or-fix}
use Rattle.std.proofs.lemmas.Bool.{lt-ltb, le-ltb}
use Rattle.unroll.specs.Unrolled.{redirected}
use Rattle.unroll.proofs.Measures.{length-unrolled}
use Rattle.unroll.proofs.Places.{copy_placed, place_at, upto_are, upto_apart}
use Rattle.unroll.proofs.Rounds.{choice_same, has_same, many_of, self_of, map_same}
use Rattle.unroll.proofs.Standing.{gate_at_copy, gate_at_kept}

pub moved_low : (net : Parts) (by : ℕ) (s : Sig) → s.0 < first_gate net → moved net by s ≡ s
moved_low net by s l = rw (lt-leb (first_gate net) s.0 l) refl

pub moved_high : (net : Parts) (by : ℕ) (s : Sig) → first_gate net ≤ s.0 → moved net by s ≡ signal (s.0 + by)
moved_high net by s l = rw (le-leb (first_gate net) s.0 l) refl

-- a choice between two signals as one among three
pub choice_of_two : (b d : Bool) (x y x' y' : Sig) → (b ≡ true → x ≡ x') → (b ≡ true → y ≡ y') → (if b && d then x else y) ≡ (if b then (if d then x' else y') else y)
choice_of_two b d x y x' y' h k = grind arith

module _ (net : Parts) (loops : Loops) (m : ℕ → ℕ) where
  abbrev pub has : ℕ → ℕ
  has n = copies_of loops.same m n

  -- where number k of gate n stands among the gates of the unrolled netlist
  abbrev pub spot : ℕ → ℕ → ℕ
  spot k n = length (constants net loops) + (if leb k (has n) then place (copies net loops m) k n else length (copies net loops m) + n)

  abbrev pub numbered : ℕ → ℕ → Sig
  numbered zero n = signal (first_gate net)
  numbered (suc k) n = signal (first_gate net + spot (suc k) n)

  -- what a pin of number k + 1 of gate n reads
  abbrev pub pin_of : ℕ → ℕ → Sig → Sig
  pin_of k n s = redirected net loops (numbered k) (numbered (suc k)) (old_signal net loops m) n s

  numbered_copy : (k n : ℕ) → k ≤ has n → copy_signal net loops m k n ≡ numbered k n
  numbered_copy k n l = grind arith

  spot_itself : (n : ℕ) → spot (suc (has n)) n ≡ length (constants net loops) + (length (copies net loops m) + n)
  spot_itself n = rw (lt-leb (suc (has n)) (has n) (omega arith)) refl

  pub old_numbered : (s : Sig) → first_gate net ≤ s.0 → old_signal net loops m s ≡ numbered (suc (has (gate_of net s))) (gate_of net s)
  old_numbered s l = grind arith

  -- the gate at a place behind the constant, and its number
  abbrev no_copy : Copy
  no_copy = copy_of 0 0

  abbrev copy_behind : ℕ → Copy
  copy_behind q = get_or (copies net loops m) (q - length (constants net loops)) no_copy

  abbrev before_kept : ℕ
  before_kept = length (constants net loops) + length (copies net loops m)

  abbrev pub origin : ℕ → ℕ
  origin q = if ltb q before_kept then (copy_behind q).gate else q - before_kept

  abbrev pub level : ℕ → ℕ
  level q = if ltb q before_kept then (copy_behind q).number else suc (has (q - before_kept))

  pub record IsAt (q k n : ℕ) : Type 0 where
    pub origin : origin q ≡ n
    pub level : level q ≡ suc k

  pub is_at : (q k n : ℕ) → n < length net.gates → k ≤ has n → spot (suc k) n ≡ q → IsAt q k n
  is_at q k n l few at = grind (arith, cases_lt, copy_placed, le-leb, lt-ltb, lt-leb, le-ltb)

  -- each gate behind the constant is a number of a gate
  pub record HasNumber (q : ℕ) : Type 0 where
    pub number : ℕ
    pub gate : ℕ
    pub within : gate < length net.gates
    pub few : number ≤ has gate
    pub at : spot (suc number) gate ≡ q

  pub has_number : (q : ℕ) → length (constants net loops) ≤ q → q < length (unrolled net loops m).gates → HasNumber q
  has_number q real short =
      elim (cases_lt q before_kept) [
        | inl low ↦
            let i = q - length (constants net loops) in
            let copy = copy_behind q in
            let top = most loops.same m (length net.gates) in
            let is = upto_are net loops m top i no_copy (omega arith) in
            let placed = place_at (copies net loops m) i no_copy (upto_apart net loops m top) (omega arith) in
            let positive = is.positive in
            let few = is.few in
            let number : suc (copy.number - 1) ≡ copy.number = omega arith in
            record {
              number = copy.number - 1;
              gate = copy.gate;
              within = is.gate;
              few = omega arith;
              at = ap (λ k. spot k copy.gate) number ∙ rw (le-leb copy.number (has copy.gate) few) (omega arith);
            }
        | inr past ↦
            let n = q - before_kept in
            let all = length-unrolled net loops m in
            let is = spot_itself n in
            record { number = has n; gate = n; within = omega arith; few = omega arith; at = omega arith }
      ]

  module _ (are : AreLoopsOf net loops) (of_loops : IsOfLoops loops m) where
    pin_of_copy : (k n : ℕ) (s : Sig) → suc k ≤ has n → copy_pin net loops m k n s ≡ pin_of k n s
    pin_of_copy k n s few =
        let h = gate_of net s in
        choice_same (in_loop_of net loops n s) (loops.cut h)
        (copy_signal net loops m k h) (copy_signal net loops m (suc k) h) (old_signal net loops m s)
        (numbered k h) (numbered (suc k) h) (old_signal net loops m s)
        (λ e. (let p = in_loop_from net loops n s e in let many = has_same net loops m are of_loops n h p.1 in numbered_copy k h (omega arith)))
        (λ e. (let p = in_loop_from net loops n s e in let many = has_same net loops m are of_loops n h p.1 in numbered_copy (suc k) h (omega arith)))
        refl

    pin_of_itself : (n : ℕ) (s : Sig) → kept_pin net loops m n s ≡ pin_of (has n) n s
    pin_of_itself n s =
        let h = gate_of net s in
        choice_of_two (in_loop_of net loops n s) (loops.cut h)
        (copy_signal net loops m (m n) h) (old_signal net loops m s) (numbered (has n) h) (numbered (suc (has n)) h)
        (λ e.
        let p = in_loop_from net loops n s e in
        let many = has_same net loops m are of_loops n h p.1 in
        ap (λ k. copy_signal net loops m k h) (sym (many_of net loops m are of_loops n (self_of net loops m are of_loops n h p.1))) ∙ numbered_copy (has n) h (omega arith))
        (λ e.
        let p = in_loop_from net loops n s e in
        old_numbered s p.0 ∙ ap (λ k. numbered (suc k) h) (has_same net loops m are of_loops n h p.1))

    -- what stands at a place reads this
    pub record Stands (q k n : ℕ) : Type 0 where
      pub within : q < length (unrolled net loops m).gates
      pub pins : (gate_at (unrolled net loops m) q).pins ≡ map (pin_of k n) (gate_at net n).pins
      pub cover : (gate_at (unrolled net loops m) q).cover ≡ (gate_at net n).cover

    pub stands : (k n : ℕ) → n < length net.gates → k ≤ has n → Stands (spot (suc k) n) k n
    stands k n l few =
        let all = length-unrolled net loops m in
        elim (cases_lt k (has n)) [
          | inl more ↦
              let placed = copy_placed net loops m k n l more in
              let p = place (copies net loops m) (suc k) n in
              let within = placed.within in
              let at : spot (suc k) n ≡ length (constants net loops) + p = rw (le-leb (suc k) (has n) more) refl in
              let is = ap (gate_at (unrolled net loops m)) at ∙ gate_at_copy net loops m p (copy_of (suc k) n) no_copy within (placed.is no_copy) in
              record {
                within = omega arith;
                pins = ap (λ (g : Gate). g.pins) is ∙ map_same (copy_pin net loops m k n) (pin_of k n) (gate_at net n).pins (λ s. pin_of_copy k n s more);
                cover = ap (λ (g : Gate). g.cover) is;
              }
          | inr last ↦
              let number : has n ≡ k = omega arith in
              let at : spot (suc k) n ≡ length (constants net loops) + (length (copies net loops m) + n) = ap (λ j. spot (suc j) n) (sym number) ∙ spot_itself n in
              let is = ap (gate_at (unrolled net loops m)) at ∙ gate_at_kept net loops m n l in
              record {
                within = omega arith;
                pins = ap (λ (g : Gate). g.pins) is ∙ map_same (kept_pin net loops m n) (pin_of k n) (gate_at net n).pins (λ s. pin_of_itself n s ∙ ap (λ j. pin_of j n s) number);
                cover = ap (λ (g : Gate). g.cover) is;
              }
        ]

    module _ (v : List Trit) (width : length v ≡ first_gate net) where
      -- the value of a signal of the unrolled netlist
      abbrev pub val : Sig → Trit
      val s = wire (fix (unrolled net loops m) v) s

      pub val_numbered : (k n : ℕ) → n < length net.gates → k ≤ has n → val (numbered (suc k) n) ≡ ext (gate_at net n).cover (map (λ s. val (pin_of k n s)) (gate_at net n).pins)
      val_numbered k n l few =
          let other = unrolled net loops m in
          let q = spot (suc k) n in
          let it = stands k n l few in
          ap (λ first. get_or (v ++ fix_gates other v) (first + q) X) (sym width)
          ∙ get_or-append-add v (fix_gates other v) q X
          ∙ get_or-fix other v q it.within
          ∙ ap₂ (λ cover pins. ext cover (map val pins)) it.cover it.pins
          ∙ ap (ext (gate_at net n).cover) (map-map val (pin_of k n) (gate_at net n).pins)
