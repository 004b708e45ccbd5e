-- How many sweeps a loop needs that is settled by itself.
use Rattle.std.proofs.Common.{◌≡◌, ◌≢◌, inl, inr, ℕ, zero, suc, ◌<◌, ◌≤◌, ◌+◌, Bool, true, List, length, replicate, get_or, sym, ap, ◌∙◌, subst, arith, Contains}
use Rattle.isolation.proofs.Common.{cases_lt, get_or-map, get_or_default, get_or_append_left, get_or-replicate, length-map, Sig, Trit, X, bit, bits, Parts, IsNetlist, count, gate_at, signal, no_gate, wire, fix, fix_gates, Feeds, Blocks, AreBlocksOf, block_at, home_of, Loops, AreLoopsOf, loops_of, first_gate, gate_of, CutsAreFixed, loops_exist, wire_of_gate, same_within, gate_home, home_gate, gate_in, inputs_in, Contains-get_or}
use Rattle.loops.specs.Walks.{SameLoop}
use Rattle.loops.proofs.LoopCuts.{has-cut}
use Rattle.loops.proofs.OrderLemmas.{block_rises, block_within}
use Rattle.loops.proofs.Sweeps.{cut_values_agree}
use Rattle.loops.proofs.Walks.{begins_at}
use Rattle.isolation.specs.Excerpts.{AreRead, AreWhole}
use Rattle.isolation.specs.Settled.{SettleInSweeps}
use Rattle.isolation.specs.Laws.{AreDeterminedAt, SettledLoopsSweep, OneSweepIsExact}
use Rattle.isolation.proofs.ExcerptLemmas.{known_list, first-small}
use Rattle.isolation.proofs.LoopLemmas.{fixed-up}

-- a wire on a pin of such a gate is known
wire-known : (net : Parts) (gates : List ℕ) (v : List Trit) → AreDeterminedAt net gates v → (n : ℕ) → Contains gates n → n < length net.gates → (s : Sig) → Contains (gate_at net n).pins s → s.0 < count net →
    wire (fix net v) s ≢ X
wire-known net gates v is n among reader s pin inside x =
    elim (cases_lt s.0 (first_gate net)) [
      | inl low ↦ is.columns s.0 (omega (arith, is.width)) (sym (get_or_append_left v (fix_gates net v) X s.0 (omega (arith, is.width))) ∙ x)
      | inr high ↦
          let feeds : Feeds net (gate_of net s) n = record {
            source = omega (arith, inside, high);
            reader = reader;
            pin = subst (Contains (gate_at net n).pins) (let e : s.0 ≡ first_gate net + gate_of net s = omega (arith, high) in ap signal e) pin;
          } in
          is.feeding (gate_of net s) n among feeds (sym (wire_of_gate v (fix_gates net v) (first_gate net) s.0 is.width high) ∙ x)
    ]

-- a block is whole
pub block-whole : (net : Parts) (blocks : Blocks) → AreBlocksOf net blocks → (b : ℕ) → b < length blocks.list → AreWhole net (block_at blocks b).gates
block-whole net blocks are b within = record {
  within = block_within net blocks are b within;
  rise = block_rises net blocks are b within;
  loops = λ i g l s.
      let c = gate_home net blocks are b (get_or (block_at blocks b).gates i 0) within (Contains-get_or (block_at blocks b).gates i 0 l) in
      let gl = begins_at net g (get_or (block_at blocks b).gates i 0) s.back.via s.back.walk in
      let home : home_of blocks g ≡ b = sym ((are.same (get_or (block_at blocks b).gates i 0) g c.0 gl).1 (inr s)) ∙ c.1 in
      subst (λ (p : ℕ). Contains (block_at blocks p).gates g) home (home_gate net blocks are g gl);
}

module _ (net : Parts) (blocks : Blocks) (loops : Loops) (valid : IsNetlist net) (are : AreBlocksOf net blocks) (loops_are : AreLoopsOf net loops) (b : ℕ) (within : b < length blocks.list) (looped : (block_at blocks b).looped ≡ true)
    (a : ℕ) (has : Contains (block_at blocks b).gates a) (v : List Trit) (is : AreDeterminedAt net (block_at blocks b).gates v) where
  home : (a < length net.gates) × (home_of blocks a ≡ b)
  home = gate_home net blocks are b a within has

  at : get_or (block_at blocks b).gates has.0 0 ≡ a
  at = get_or_default (block_at blocks b).gates has.0 0 a has.1 ∙ has.2

  known-inputs : (outside : List Sig) → AreRead net (block_at blocks b).gates outside → (us : List Bool) × (bits us ≡ inputs_in net v outside)
  known-inputs outside read =
      known_list (inputs_in net v outside)
      (λ j d less.
      let l : j < length outside = subst (λ (n : ℕ). j < n) (length-map outside (wire (fix net v))) less in
      let r = read (get_or outside j (signal 0)) (Contains-get_or outside j (signal 0) l) in
      let p = valid.pins (gate_in (block_at blocks b).gates r.place) no_gate (block_within net blocks are b within r.place r.within) r.pin.0 (get_or outside j (signal 0)) r.pin.1 in
      let e = ap (λ (q : Sig). q.0) r.pin.2 in
      λ x. wire-known net (block_at blocks b).gates v is (gate_in (block_at blocks b).gates r.place) (Contains-get_or (block_at blocks b).gates r.place 0 r.within) (block_within net blocks are b within r.place r.within)
      (get_or outside j (signal 0)) r.pin (omega (arith, p, e)) (sym (get_or-map (wire (fix net v)) outside j (signal 0) d l) ∙ x))

  -- as many sweeps as the loop needs by itself are enough
  enough-alone : (k : ℕ) → SettleInSweeps net (block_at blocks b).gates k → CutsAreFixed net loops v a k
  enough-alone k settled =
      let alone = settled.alone in
      let us = known-inputs alone.outside alone.read in
      let wide : length us.0 ≡ first_gate alone.small = sym (length-map us.0 bit) ∙ ap length us.1 ∙ length-map alone.outside (wire (fix net v)) ∙ sym (first-small net alone.outside (block_at blocks b).gates alone.small alone.valid alone.is) in
      subst (λ (n : ℕ). CutsAreFixed net loops v n k) at
      (fixed-up net alone.outside (block_at blocks b).gates alone.small alone.valid alone.is (block-whole net blocks are b within) loops (loops_of alone.small) loops_are (loops_exist alone.small) v is.width
      has.0 k has.1
      (subst (λ (xs : List Trit). CutsAreFixed alone.small (loops_of alone.small) xs has.0 k) us.1 (settled.sweeps us.0 wide has.0 (omega (arith, alone.is.size, has.1)))))

  -- and one is needed, since the cut wires begin at X
  one-needed : (n : ℕ) → CutsAreFixed net loops v a n → 1 ≤ n
  one-needed (suc n) h = omega arith
  one-needed zero h =
      let c = has-cut net loops loops_are a ((are.looped a home.0).0 (subst (λ (p : ℕ). (block_at blocks p).looped ≡ true) (sym home.1) looped)) in
      let l = same_within net loops loops_are a c.wire c.same in
      let own : Contains (block_at blocks b).gates c.wire =
      (block-whole net blocks are b within).loops has.0 c.wire has.1 (subst (λ (n : ℕ). SameLoop net n c.wire) (sym at) ((loops_are.same a c.wire).0 c.same)) in
      absurd (is.own c.wire own (sym (cut_values_agree net loops loops_are a (replicate (length net.gates) X) (fix_gates net v) h c.wire c.same c.cut) ∙ get_or-replicate (length net.gates) c.wire X X l))

pub settled_loops_sweep : SettledLoopsSweep
settled_loops_sweep net blocks loops valid are loops_are b k within looped alone care determined a m has count = (
  count.least k (λ v cared. enough-alone net blocks loops valid are loops_are b within looped a has v (determined v cared) k alone),
  λ v cared. one-needed net blocks loops valid are loops_are b within looped a has v (determined v cared) m (count.enough v cared),
)

pub one_sweep_is_exact : OneSweepIsExact
one_sweep_is_exact net blocks loops valid are loops_are b within looped alone care determined v cared a has = record {
  enough = λ u cares. enough-alone net blocks loops valid are loops_are b within looped a has u (determined u cares) 1 alone;
  least = λ n all. one-needed net blocks loops valid are loops_are b within looped a has v (determined v cared) n (all v cared);
}
