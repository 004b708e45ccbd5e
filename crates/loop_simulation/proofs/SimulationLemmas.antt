-- A loop at one vector, sweep by sweep.
use Rattle.std.proofs.Common.{◌≡◌, ◌≢◌, ℕ, suc, ◌<◌, ◌+◌, Bool, true, List, [], length, map, get_or, Contains, sym, ap, subst, ◌∙◌, arith}
use Rattle.std.specs.List.{All}
use Rattle.std.proofs.lemmas.Bool.{leb-true}
use Rattle.loop_simulation.proofs.Common.{Contains-get_or, Sig, Trit, bits, count, gate_at, no_gate, wire, fix, is_cut, CutsAreFixed, first_gate, gate_of, sweeps, value_in, map_agree, IsSweeping, LoopAt, IsLoopAt, gates_in, loops_in}
use Rattle.cover_logic.specs.Extensions.{ext}
use Rattle.loops.specs.Sweeps.{gate_in, in_loop_of, pin_in}
use Rattle.loops.proofs.OrderedSweeps.{sweep_of_one_loop}
use Rattle.loops.proofs.Reading.{choice, in_loop_from}
use Rattle.loop_simulation.specs.Events.{IsSwept}
use Rattle.loop_simulation.specs.Simulations.{seen_of}
use Rattle.loop_simulation.proofs.LoopLemmas.{are-loops, gate-fits, moved-unfixed, of-loop, same-home, unmoved-fixed}

first-same : (b d : Bool) (x y z w : Trit) → (b ≡ true → d ≡ true → x ≡ w) → choice b d x y z ≡ choice b d w y z
first-same b d x y z w h = grind arith

module _ (l : LoopAt) (is_loop : IsLoopAt l) where
  -- what a gate of the block sees
  seen-is : (v before after : List Trit) (n : ℕ) → Contains (gates_in l) n → (pin : Sig) → pin.0 < count l.net → seen_of l (fix l.net v) before after pin ≡ pin_in l.net (loops_in l) v before after n pin
  seen-is v before after n inside pin low = grind (arith, same-home l is_loop n inside, leb-true)

  -- and what its cover makes of it
  value-is : (v before after : List Trit) (n : ℕ) → Contains (gates_in l) n →
      ext (gate_at l.net n).cover (map (seen_of l (fix l.net v) before after) (gate_at l.net n).pins) ≡ gate_in l.net (loops_in l) v before after n
  value-is v before after n inside =
      ap (ext (gate_at l.net n).cover)
      (map_agree (seen_of l (fix l.net v) before after) (pin_in l.net (loops_in l) v before after n) (gate_at l.net n).pins
      (λ k d low. seen-is v before after n inside (get_or (gate_at l.net n).pins k d) (is_loop.net.pins n no_gate (gate-fits l is_loop n inside) k d low)))

  -- states in which the loop's cut wires agree give a gate of it one value
  cuts-agree : (v c e s : List Trit) → ((g : ℕ) → Contains (gates_in l) g → is_cut l.cut.wires g ≡ true → value_in c g ≡ value_in e g) → (n : ℕ) → Contains (gates_in l) n →
      gate_in l.net (loops_in l) v c s n ≡ gate_in l.net (loops_in l) v e s n
  cuts-agree v c e s agree n inside =
      ap (ext (gate_at l.net n).cover)
      (map_agree (pin_in l.net (loops_in l) v c s n) (pin_in l.net (loops_in l) v e s n) (gate_at l.net n).pins
      (λ k d low.
      let pin : Sig = get_or (gate_at l.net n).pins k d in
      first-same (in_loop_of l.net (loops_in l) n pin) (is_cut l.cut.wires (gate_of l.net pin)) (value_in c (gate_of l.net pin)) (value_in s (gate_of l.net pin)) (wire (fix l.net v) pin) (value_in e (gate_of l.net pin))
      (λ same cut. agree (gate_of l.net pin) ((of-loop l is_loop n inside).0 (gate_of l.net pin) (in_loop_from l.net (loops_in l) n pin same).1) cut)))

  -- where no gate waits, the sweep is done: its state is the one in which each gate has its cover's value
  pub swept-next : (v outside before after : List Trit) (k : ℕ) → outside ≡ fix l.net v → IsSweeping l outside before after [] →
      ((n : ℕ) → Contains (gates_in l) n → is_cut l.cut.wires n ≡ true → value_in before n ≡ value_in (sweeps l.net (loops_in l) v k) n) →
      (n : ℕ) → Contains (gates_in l) n → value_in after n ≡ value_in (sweeps l.net (loops_in l) v (k + 1)) n
  swept-next v outside before after k is sweeping agree n inside =
      let loop = of-loop l is_loop n inside in
      let next : suc k ≡ k + 1 = omega arith in
      grind (arith, sweep_of_one_loop l.net (loops_in l) (are-loops l is_loop) v (sweeps l.net (loops_in l) v k) after n, are-loops l is_loop, value-is v before after, cuts-agree v before (sweeps l.net (loops_in l) v k) after agree)

  module _ (v : List Bool) (wide : length (bits v) ≡ first_gate l.net) (before after : List Trit) (k : ℕ)
      (at_before : (n : ℕ) → Contains (gates_in l) n → is_cut l.cut.wires n ≡ true → value_in before n ≡ value_in (sweeps l.net (loops_in l) (bits v) k) n)
      (at_after : (n : ℕ) → Contains (gates_in l) n → value_in after n ≡ value_in (sweeps l.net (loops_in l) (bits v) (k + 1)) n) where
    next : k + 1 ≡ suc k
    next = omega arith

    at-next : (n : ℕ) → Contains (gates_in l) n → value_in after n ≡ value_in (sweeps l.net (loops_in l) (bits v) (suc k)) n
    at-next n inside = at_after n inside ∙ ap (λ (j : ℕ). value_in (sweeps l.net (loops_in l) (bits v) j) n) next

    -- where a cut wire changes in a sweep, the loop wasn't at the fixpoint
    pub changed-needs : (wire : ℕ) → Contains (gates_in l) wire → is_cut l.cut.wires wire ≡ true → value_in before wire ≢ value_in after wire → (a : ℕ) → Contains (gates_in l) a → ¬ CutsAreFixed l.net (loops_in l) (bits v) a k
    changed-needs wire there is differs = moved-unfixed l is_loop (bits v) wide k wire there is (λ e. differs (at_before wire there is ∙ e ∙ sym (at-next wire there)))

    -- and where none does, it was
    pub still-fixed : ((n : ℕ) → Contains (gates_in l) n → is_cut l.cut.wires n ≡ true → value_in before n ≡ value_in after n) → (a : ℕ) → Contains (gates_in l) a →
        CutsAreFixed l.net (loops_in l) (bits v) a k
    still-fixed same = unmoved-fixed l is_loop (bits v) wide k (λ n there is. sym (at-next n there) ∙ sym (same n there is) ∙ at_before n there is)

-- a sweep of values that are those of the fixpoint
pub swept_at : (l : LoopAt) (read outside seen before after : List Trit) (changed : List ℕ) → read ≡ outside → seen ≡ before → IsSwept l read seen after changed → IsSwept l outside before after changed
swept_at l read outside seen before after changed first second h = grind arith

-- the cut wires that have changed are gates
pub changed-fits : (l : LoopAt) → IsLoopAt l → (outside before after : List Trit) (changed read : List ℕ) → read ≡ changed → IsSwept l outside before after changed → All (λ n. n < length l.net.gates) read
changed-fits l is outside before after changed read same swept =
    subst (All (λ n. n < length l.net.gates)) (sym same) (λ k d low. gate-fits l is (get_or changed k d) (swept.unseen.inside (get_or changed k d) (Contains-get_or changed k d low)))
