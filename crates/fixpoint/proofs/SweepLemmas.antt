-- A sweep of one loop on rails is the sweep at each vector.
use Rattle.std.proofs.Common.{◌≡◌, ◌≢◌, inl, inr, ℕ, zero, suc, ◌+◌, ◌<◌, ◌≤◌, leb, Bool, true, false, ◌&&◌, if◌then◌else◌, List, [], ◌∷◌, length, map, take, get_or, refl, sym, ap, ap₂, ◌∙◌, subst, arith, Contains}
use Rattle.fixpoint.proofs.Common.{Looped, cases_eq, cases_Bool, get_or_append_left, get_or_default, take_all, All-contains, All-get_or, All, Arena, KeepsNodes, ext, Sig, Trit, X, Rails, value_of, value_of-kept, Gate, Parts, IsNetlist, IsSignal, count, gate_at, no_gate, wire, fix, fix_gates, Feeds, block_at, home_of, is_cut, in_one_loop, loops_by, ReadsUncut, IsInOrder, first_gate, gate_of, value_in, map_agree, wire_of_gate, feeds_at, told_parts, gate_home, home_gate, Vectors, rails_at, rails_read, IsGateSet, AreSwept, IsSolvedBelow, IsSweepable}
use Rattle.std.proofs.lemmas.Bool.{leb-true, leb-false}
use Rattle.std.proofs.lemmas.List.Elements.{All-from_recursion}
use Rattle.cyc_base.proofs.ListLemmas.{Contains-there}
use Rattle.loops.specs.Sweeps.{sweep, pin_in}
use Rattle.loops.proofs.Sweeps.{sweep_each}
use Rattle.fixpoint.specs.Sweeping.{States}
use Rattle.fixpoint.proofs.CutLemmas.{one-block}
use Rattle.fixpoint.proofs.WireLemmas.{next-or-before, rails_at-proper, set-same, set-other, AreWires-set}

-- ---- orders

-- the gates that a gate of an order reads uncut stand before it
order-before : (net : Parts) (cut : ℕ → Bool) (order : List ℕ) (i g : ℕ) → IsInOrder net cut order → i < length order → Contains order g → ReadsUncut net cut (get_or order i 0) g
    → ((n : ℕ) → ¬ ReadsUncut net cut n n) → Contains (take i order) g
order-before net cut [] i g follows less has reads irreflexive = absurd (omega (arith, less))
order-before net cut (n ∷ order) zero g follows less (zero, l, e) reads irreflexive = absurd (irreflexive n (subst (λ (m : ℕ). ReadsUncut net cut n m) (sym e) reads))
order-before net cut (n ∷ order) zero g follows less (suc k, l, e) reads irreflexive = grind (arith, All-contains, All-from_recursion)
order-before net cut (n ∷ order) (suc i) g follows less (zero, l, e) reads irreflexive = (zero, omega arith, e)
order-before net cut (n ∷ order) (suc i) g follows less (suc k, l, e) reads irreflexive = grind (arith, Contains-there n (take i order) g, order-before net cut order i g follows.1)

-- ---- blocks that are solved

-- when a gate of another block than these is set, they are as they were
pub solved-set : {l : Looped} {d e : Arena} {v : Vectors} {b : ℕ} {before rails after : List Rails} (n : ℕ) → KeepsNodes d e → b ≤ home_of l.blocks n → IsSolvedBelow l d v b before rails → IsGateSet l.net l.cut d e before rails after n
    → IsSolvedBelow l e v b before after
solved-set {l} {d} {e} {v} {b} {before} {rails} {after} n keeps later solved done =
    let stays = set-other rails after (first_gate l.net + n) done.made keeps solved.wires.proper done.is in
    record {
      wires = AreWires-set n keeps solved.wires done;
      vector = solved.vector;
      given = λ s bits low. stays s bits (λ same. omega (arith, low, same)) ∙ solved.given s bits low;
      gates = λ m bits inside low.
          stays (first_gate l.net + m) bits (λ same. let home : home_of l.blocks m ≡ home_of l.blocks n = ap (home_of l.blocks) (omega (arith, same)) in omega (arith, home, low, later))
          ∙ solved.gates m bits inside low;
      cuts = λ m bits inside low cut_wire. value_of-kept keeps (rails_at before m) (rails_at-proper d before solved.wires.before_proper m) bits ∙ solved.cuts m bits inside low cut_wire;
    }

-- one block more, whose gates stand at the fixpoint
pub solved-more : {l : Looped} {a : Arena} {v : Vectors} {b : ℕ} {before rails : List Rails} → IsSolvedBelow l a v b before rails
    → ((n : ℕ) (bits : List Bool) → n < length l.net.gates → home_of l.blocks n ≡ b → value_of a (rails_at rails (first_gate l.net + n)) bits ≡ value_in (fix_gates l.net (v bits)) n)
    → ((n : ℕ) (bits : List Bool) → n < length l.net.gates → home_of l.blocks n ≡ b → is_cut l.cut.wires n ≡ true → value_of a (rails_at before n) bits ≡ value_in (fix_gates l.net (v bits)) n)
    → IsSolvedBelow l a v (b + 1) before rails
solved-more {l} {b = b} solved gates cuts = record {
  wires = solved.wires;
  vector = solved.vector;
  given = solved.given;
  gates = λ n bits less low. elim (cases_eq (home_of l.blocks n) b) [ inl own ↦ gates n bits less own | inr other ↦ solved.gates n bits less (omega (arith, low, other)) ];
  cuts = λ n bits less low cut_wire. elim (cases_eq (home_of l.blocks n) b) [
    | inl own ↦ cuts n bits less own cut_wire
    | inr other ↦ solved.cuts n bits less (omega (arith, low, other)) cut_wire
  ];
}

module _ (l : Looped) (d : Arena) (v : Vectors) (b : ℕ) (before rails : List Rails) (solved : IsSolvedBelow l d v b before rails) (bits : List Bool) (pin : Sig) where
  -- an input or a latch is read as it is
  pub reads-given : leb (first_gate l.net) pin.0 ≡ false → value_of d (rails_at rails pin.0) bits ≡ wire (fix l.net (v bits)) pin
  reads-given early = grind (arith, leb-false (first_gate l.net) pin.0 early, get_or_append_left (v bits) (fix_gates l.net (v bits)) X pin.0)

  -- and a gate of an earlier block at the fixpoint
  pub reads-earlier : first_gate l.net ≤ pin.0 → gate_of l.net pin < length l.net.gates → home_of l.blocks (gate_of l.net pin) < b →
      value_of d (if is_cut l.cut.wires (gate_of l.net pin) then rails_at before (gate_of l.net pin) else rails_at rails pin.0) bits ≡ wire (fix l.net (v bits)) pin
  reads-earlier above within low = by (is_cut l.cut.wires (gate_of l.net pin)) refl ∙ sym (wire_of_gate (v bits) (fix_gates l.net (v bits)) (first_gate l.net) pin.0 (solved.vector bits) above)
    where
      by : (x : Bool) → is_cut l.cut.wires (gate_of l.net pin) ≡ x →
          value_of d (if x then rails_at before (gate_of l.net pin) else rails_at rails pin.0) bits ≡ value_in (fix_gates l.net (v bits)) (gate_of l.net pin)
      by true cut_wire = solved.cuts (gate_of l.net pin) bits within low cut_wire
      by false cut_wire =
          let place : first_gate l.net + gate_of l.net pin ≡ pin.0 = omega (arith, above) in
          ap (λ (p : ℕ). value_of d (rails_at rails p) bits) (sym place) ∙ solved.gates (gate_of l.net pin) bits within low

-- what a gate reads, by its pins: inputs and latches, and gates that feed it
pub reads-each : (l : Looped) → IsNetlist l.net → (n : ℕ) → n < length l.net.gates → (d : Arena) (before rails : List Rails) (bits : List Bool) (read : Sig → Trit)
    → ((pin : Sig) → leb (first_gate l.net) pin.0 ≡ false → value_of d (rails_at rails pin.0) bits ≡ read pin)
    → ((pin : Sig) → leb (first_gate l.net) pin.0 ≡ true → Feeds l.net (gate_of l.net pin) n →
    value_of d (if is_cut l.cut.wires (gate_of l.net pin) then rails_at before (gate_of l.net pin) else rails_at rails pin.0) bits ≡ read pin)
    → map (λ pin. value_of d (rails_read l.net l.cut before rails pin) bits) (gate_at l.net n).pins ≡ map read (gate_at l.net n).pins
reads-each l valid n less d before rails bits read given fed =
    map_agree (λ pin. value_of d (rails_read l.net l.cut before rails pin) bits) read (gate_at l.net n).pins
    (λ k none inside.
    let pin : Sig = get_or (gate_at l.net n).pins k none in
    let within : pin.0 < count l.net = All-get_or (λ (g : Gate). All (IsSignal l.net) g.pins) l.net.gates n no_gate less valid.pins k none inside in
    let rails_of : Bool → Rails = λ early. if early && is_cut l.cut.wires (gate_of l.net pin) then rails_at before (gate_of l.net pin) else rails_at rails pin.0 in
    elim (cases_Bool (leb (first_gate l.net) pin.0)) [
      | inl late ↦
          let above : first_gate l.net ≤ pin.0 = leb-true (first_gate l.net) pin.0 late in
          ap (λ early. value_of d (rails_of early) bits) late ∙ fed pin late (feeds_at l.net n k none less inside above (omega (arith, within, above)))
      | inr early ↦ ap (λ early. value_of d (rails_of early) bits) early ∙ given pin early
    ])

-- ---- what a gate of the loop reads

-- how far a sweep has come
abbrev pub IsSweeping : Looped → List ℕ → Arena → List Rails → List Rails → Arena → List Rails → ℕ → Type 0
IsSweeping l order s before old d rails i = (b : ℕ) (v : Vectors) (c : States) → IsSweepable l s v c b order before old →
    IsSweepable l d v c b order before rails × AreSwept l d v c (Contains (take i order)) rails

module _ (l : Looped) (valid : IsNetlist l.net) (b : ℕ) (v : Vectors) (c : States) (order : List ℕ) (d : Arena) (before rails : List Rails) (ready : IsSweepable l d v c b order before rails) (i : ℕ) (inside : i < length order) where
  abbrev gate : ℕ
  gate = get_or order i 0

  -- the next gate of the order is one of the block's
  pub own-gate : (gate < length l.net.gates) × (home_of l.blocks gate ≡ b)
  own-gate = gate_home l.net l.blocks ready.are.blocks b gate ready.loop.within (ready.follows.only gate (i, inside, get_or_default order i gate 0 inside))

  irreflexive : (n : ℕ) → ¬ ReadsUncut l.net (is_cut l.cut.wires) n n
  irreflexive n reads = grind arith

  -- a gate of another block is in no loop with it
  same-out : (g : ℕ) → (home_of l.blocks g ≢ b) → in_one_loop l.blocks gate g ≡ false
  same-out g other = elim (cases_Bool (in_one_loop l.blocks gate g)) [
    | inl is ↦ absurd (other (sym (told_parts l.net l.blocks ready.are.blocks gate g is).homes ∙ own-gate.1))
    | inr isnt ↦ isnt
  ]

  module _ (swept : AreSwept l d v c (Contains (take i order)) rails) (bits : List Bool) where
    -- the state after the sweep, and what the gate reads of it
    abbrev after_sweep : List Trit
    after_sweep = sweep l.net (loops_by l.blocks l.cut) (v bits) (c bits)

    abbrev pinned : Sig → Bool → Trit
    pinned pin in_loop =
        if in_loop then (if is_cut l.cut.wires (gate_of l.net pin) then value_in (c bits) (gate_of l.net pin) else value_in after_sweep (gate_of l.net pin)) else wire (fix l.net (v bits)) pin

    -- a gate of this loop
    reads-own : (pin : Sig) → first_gate l.net ≤ pin.0 → Feeds l.net (gate_of l.net pin) gate → home_of l.blocks (gate_of l.net pin) ≡ b →
        value_of d (if is_cut l.cut.wires (gate_of l.net pin) then rails_at before (gate_of l.net pin) else rails_at rails pin.0) bits ≡ pinned pin true
    reads-own pin above feeds home = by (is_cut l.cut.wires (gate_of l.net pin)) refl
      where
        by : (x : Bool) → is_cut l.cut.wires (gate_of l.net pin) ≡ x →
            value_of d (if x then rails_at before (gate_of l.net pin) else rails_at rails pin.0) bits ≡ (if x then value_in (c bits) (gate_of l.net pin) else value_in after_sweep (gate_of l.net pin))
        by true cut_wire = ready.cuts (gate_of l.net pin) bits feeds.source home cut_wire
        by false cut_wire =
            let listed : Contains (block_at l.blocks b).gates (gate_of l.net pin) = subst (λ (p : ℕ). Contains (block_at l.blocks p).gates (gate_of l.net pin)) home (home_gate l.net l.blocks ready.are.blocks (gate_of l.net pin) feeds.source) in
            let taken : Contains (take i order) (gate_of l.net pin) =
            order-before l.net (is_cut l.cut.wires) order i (gate_of l.net pin) ready.follows.follows inside (ready.follows.each (gate_of l.net pin) listed) (record { feeds = feeds; uncut = cut_wire }) irreflexive in
            let place : first_gate l.net + gate_of l.net pin ≡ pin.0 = omega (arith, above) in
            ap (λ (p : ℕ). value_of d (rails_at rails p) bits) (sym place) ∙ swept (gate_of l.net pin) bits feeds.source taken

    -- what is read of a gate is what the sweep has there
    reads-gate : (pin : Sig) → leb (first_gate l.net) pin.0 ≡ true → Feeds l.net (gate_of l.net pin) gate →
        value_of d (if is_cut l.cut.wires (gate_of l.net pin) then rails_at before (gate_of l.net pin) else rails_at rails pin.0) bits ≡ pin_in l.net (loops_by l.blocks l.cut) (v bits) (c bits) after_sweep gate pin
    reads-gate pin late feeds =
        let above : first_gate l.net ≤ pin.0 = leb-true (first_gate l.net) pin.0 late in
        let g : ℕ = gate_of l.net pin in
        elim (cases_eq (home_of l.blocks g) b) [
          | inl own ↦
              reads-own pin above feeds own
              ∙ sym (ap (pinned pin) (ap₂ (λ x y. x && y) late (one-block l.net l.blocks ready.are.blocks l.cut b ready.loop gate g own-gate.0 own-gate.1 feeds.source own)))
          | inr other ↦
              reads-earlier l d v b before rails ready.solved bits pin above feeds.source (omega (arith, ready.are.blocks.after_reads g gate feeds, own-gate.1, other))
              ∙ sym (ap (pinned pin) (ap₂ (λ x y. x && y) late (same-out g other)))
        ]

    -- so what it reads is what the sweep has there, and it gets the value of the sweep
    pub reads-all : map (λ pin. value_of d (rails_read l.net l.cut before rails pin) bits) (gate_at l.net gate).pins ≡ map (pin_in l.net (loops_by l.blocks l.cut) (v bits) (c bits) after_sweep gate) (gate_at l.net gate).pins
    reads-all =
        reads-each l valid gate own-gate.0 d before rails bits (pin_in l.net (loops_by l.blocks l.cut) (v bits) (c bits) after_sweep gate)
        (λ pin early. reads-given l d v b before rails ready.solved bits pin early ∙ sym (ap (λ x. pinned pin (x && in_one_loop l.blocks gate (gate_of l.net pin))) early))
        reads-gate

    pub gate-swept : (e : Arena) (after : List Rails) → (done : IsGateSet l.net l.cut d e before rails after gate) → value_of e done.made bits ≡ value_in after_sweep gate
    gate-swept e after done = done.value bits ∙ ap (ext (gate_at l.net gate).cover) reads-all ∙ sym (sweep_each l.net (loops_by l.blocks l.cut) (v bits) (c bits) gate own-gate.0)

-- one gate more is swept
pub sweeping-step : (l : Looped) → IsNetlist l.net → (order : List ℕ) (s d e : Arena) (before old rails after : List Rails) (i : ℕ) → KeepsNodes d e → i < length order →
    IsGateSet l.net l.cut d e before rails after (get_or order i 0) → IsSweeping l order s before old d rails i → IsSweeping l order s before old e after (i + 1)
sweeping-step l valid order s d e before old rails after i keeps inside done so_far b v c start =
    let far = so_far b v c start in
    let ready = far.0 in
    let n : ℕ = get_or order i 0 in
    let own = own-gate l valid b v c order d before rails ready i inside in (
      record {
        are = ready.are;
        loop = ready.loop;
        follows = ready.follows;
        solved = solved-set n keeps (omega (arith, own.1)) ready.solved done;
        cuts = λ m bits less home cut_wire. value_of-kept keeps (rails_at before m) (rails_at-proper d before ready.solved.wires.before_proper m) bits ∙ ready.cuts m bits less home cut_wire;
      },
      λ m bits less has. elim (cases_eq n m) [
        | inl same ↦
            subst (λ (p : ℕ). value_of e (rails_at after (first_gate l.net + p)) bits ≡ value_in (sweep l.net (loops_by l.blocks l.cut) (v bits) (c bits)) p) same
            (set-same e rails after (first_gate l.net + n) done.made done.is (omega (arith, ready.solved.wires.width, own.0)) bits ∙ gate-swept l valid b v c order d before rails ready i inside far.1 bits e after done)
        | inr other ↦
            set-other rails after (first_gate l.net + n) done.made keeps ready.solved.wires.proper done.is (first_gate l.net + m) bits (λ same. other (omega (arith, same)))
            ∙ far.1 m bits less (elim (next-or-before order i m inside has) [ inl taken ↦ taken | inr next ↦ absurd (other next) ])
      ],
    )

-- and after the last
pub sweeping-end : (l : Looped) (order : List ℕ) (s d : Arena) (before old rails : List Rails) (i : ℕ) → length order ≤ i → IsSweeping l order s before old d rails i →
    (b : ℕ) (v : Vectors) (c : States) → IsSweepable l s v c b order before old → AreSwept l d v c (λ n. home_of l.blocks n ≡ b) rails
sweeping-end l order s d before old rails i all so_far b v c ready n bits less home =
    let listed : Contains (block_at l.blocks b).gates n = subst (λ (p : ℕ). Contains (block_at l.blocks p).gates n) home (home_gate l.net l.blocks ready.are.blocks n less) in
    (so_far b v c ready).1 n bits less (subst (λ (ns : List ℕ). Contains ns n) (sym (take_all i order all)) (ready.follows.each n listed))
