-- What the netlist determines, the unrolled netlist determines too: block by block, since with less known outside a loop
-- may need more sweeps.
use Rattle.std.proofs.Common.{◌≡◌, ◌⊎◌, inl, inr, ℕ, zero, suc, ◌<◌, ◌≤◌, leb, Bool, true, false, if◌then◌else◌, List, length, map, get_or, refl, ap, sym, ◌∙◌, subst, arith, true≢false}
use Rattle.unroll.proofs.Common.{cases_lt, and_from, le-leb, cases_Bool, false_from_ne_true, get_or_append_left, get_or-replicate, Sig, Trit, Parts, gate_at, wire, fix, fix_gates, Loops, AreLoopsOf, first_gate, gate_of, in_loop_of, in_loop_from, same-sym, same-trans, same_within, shift, old_signal, unrolled, IsOfLoops, get_or-map-range_with_len, X, ext, Feeds, get_or-fix, feeds_at}
use Rattle.std.proofs.lemmas.Bool.{and_right}
use Rattle.std.proofs.lemmas.List.{get_or_past}
use Rattle.loops.specs.Sweeps.{pin_in, gate_in, sweep_steps, sweeps, CutsAreFixed}
use Rattle.loops.proofs.Reading.{choice, wire_of_gate}
use Rattle.loops.proofs.Sweeps.{fixed_cuts_give_fix, length-fix}
use Rattle.cyc_base.specs.Values.{Below}
use Rattle.cyc_base.proofs.OrderLemmas.{Below-refl, EachBelow-map_at}
use Rattle.cover_logic.proofs.ExtensionLemmas.{ext_is_monotone}
use Rattle.loops.specs.Walks.{Leads, AnyGate}
use Rattle.loops.proofs.Ancestors.{by_ancestors}
use Rattle.loops.proofs.Walks.{leads-trans, leads-step, begins_within}
use Rattle.unroll.specs.Laws.{UnrolledIsAbove}
use Rattle.unroll.proofs.Rounds.{has_same, many_of, self_of}
use Rattle.unroll.proofs.Numbered.{moved_low, has, numbered, old_numbered, pin_of, val, val_numbered}

-- the extension at pins read in two ways, at each of the gate's own pins one below the other
ext_below_at : (net : Parts) (n : ℕ) (f g : Sig → Trit) → ((k : ℕ) (d : Sig) → k < length (gate_at net n).pins → Below (f (get_or (gate_at net n).pins k d)) (g (get_or (gate_at net n).pins k d))) → Below (ext (gate_at net n).cover (map f (gate_at net n).pins)) (ext (gate_at net n).cover (map g (gate_at net n).pins))
ext_below_at net n f g h = grind (arith, ext_is_monotone, EachBelow-map_at)

-- what a choice among three signals reads
choice_below_read : (f : Sig → Trit) (b d : Bool) (x y z : Trit) (p q r : Sig) → (b ≡ true → Below x (f p)) → (b ≡ true → Below y (f q)) → (b ≡ false → Below z (f r)) → Below (choice b d x y z) (f (if b then (if d then p else q) else r))
choice_below_read f b d x y z p q r h k l = grind arith

-- x leads to n from another block
record LeadsFromOutside (net : Parts) (loops : Loops) (x n : ℕ) : Type 0 where
  leads : Leads net AnyGate x n
  apart : loops.same n x ≡ false

module _ (net : Parts) (loops : Loops) (are : AreLoopsOf net loops) where
  outside_within : (x n : ℕ) → LeadsFromOutside net loops x n → x < length net.gates
  outside_within x n r = begins_within net loops are x n r.leads.via r.leads.walk

  outside-trans : (x y z : ℕ) → LeadsFromOutside net loops x y → LeadsFromOutside net loops y z → LeadsFromOutside net loops x z
  outside-trans x y z r q = grind (arith, leads-trans net x y z r.leads q.leads, false_from_ne_true (loops.same z x), leads-trans net z x y, true≢false)

  outside-irreflexive : (x : ℕ) → LeadsFromOutside net loops x x → ⊥
  outside-irreflexive x r = true≢false (sym ((are.same x x).1 (record { there = r.leads; back = r.leads })) ∙ r.apart)

  module _ (m : ℕ → ℕ) (of_loops : IsOfLoops loops m) (v : List Trit) (width : length v ≡ first_gate net) (fixed : (a : ℕ) → loops.same a a ≡ true → CutsAreFixed net loops v a (m a)) where
    abbrev now : Sig → Trit
    now s = val net loops m are of_loops v width s

    abbrev copies_of_gate : ℕ → ℕ
    copies_of_gate n = has net loops m n

    abbrev at : ℕ → ℕ → Sig
    at k n = numbered net loops m k n

    -- what the gate has in the netlist, it has in the unrolled one
    abbrev Kept : ℕ → Type 0
    Kept n = Below (get_or (fix_gates net v) n X) (now (at (suc (copies_of_gate n)) n))

    kept_past : (n : ℕ) → length net.gates ≤ n → Kept n
    kept_past n past = rw (get_or_past (fix_gates net v) n X (omega (arith, length-fix net loops v))) tt

    -- a signal is above, where the gate is that drives it
    signal_above : (s : Sig) → (first_gate net ≤ s.0 → gate_of net s < length net.gates → Kept (gate_of net s)) → Below (wire (fix net v) s) (now (old_signal net loops m s))
    signal_above s h =
        elim (cases_lt s.0 (first_gate net)) [
          | inl low ↦
              let here : s.0 < length v = omega arith in
              subst (Below (wire (fix net v) s)) (sym (ap now (moved_low net (shift net loops m) s low) ∙ get_or_append_left v (fix_gates (unrolled net loops m) v) X s.0 here))
              (rw (get_or_append_left v (fix_gates net v) X s.0 here) (Below-refl (get_or v s.0 X)))
          | inr high ↦
              let x = gate_of net s in
              subst (λ (t : Trit). Below t (now (old_signal net loops m s))) (sym (wire_of_gate v (fix_gates net v) (first_gate net) s.0 width high))
              (subst (λ (r : Sig). Below (get_or (fix_gates net v) x X) (now r)) (sym (old_numbered net loops m s high))
              (elim (cases_lt x (length net.gates)) [ inl inside ↦ h high inside | inr past ↦ kept_past x past ]))
        ]

    module _ (n : ℕ) (before : (x : ℕ) → LeadsFromOutside net loops x n → Kept x) where
      -- gate n itself, or a gate of its loop
      abbrev Near : ℕ → Type 0
      Near g = (g ≡ n) ⊎ (loops.same n g ≡ true)

      enters : (g x : ℕ) → Near g → Feeds net x g → loops.same g x ≡ false → LeadsFromOutside net loops x n
      enters g x (inl e) f s = subst (LeadsFromOutside net loops x) e (record { leads = leads-step net x g f; apart = s })
      enters g x (inr d) f s =
          grind (arith, leads-trans net x g n (leads-step net x g f), leads-step net x g f, false_from_ne_true (loops.same n x), true≢false, same-trans net loops are g n x (same-sym net loops are n g d), same-sym net loops are n g d)

      -- a pin that reads from outside the loop
      outside : (g k : ℕ) (d : Sig) → Near g → g < length net.gates → k < length (gate_at net g).pins → in_loop_of net loops g (get_or (gate_at net g).pins k d) ≡ false → Below (wire (fix net v) (get_or (gate_at net g).pins k d)) (now (old_signal net loops m (get_or (gate_at net g).pins k d)))
      outside g k d near l here out =
          let s = get_or (gate_at net g).pins k d in
          let x = gate_of net s in
          signal_above s (λ high inside. before x (enters g x near (feeds_at net g k d l here high inside)
          (false_from_ne_true (loops.same g x) (λ e. true≢false (sym (and_from (leb (first_gate net) s.0) (loops.same g x) (le-leb (first_gate net) s.0 high) e) ∙ out)))))

      -- number k + 1 is above each step of sweep k + 1, where number k is above sweep k
      steps_above : (k : ℕ) → ((h : ℕ) → loops.same n h ≡ true → k ≤ copies_of_gate h → Below (get_or (sweeps net loops v k) h X) (now (at k h))) → (j g : ℕ) → loops.same n g ≡ true → k ≤ copies_of_gate g → Below (get_or (sweep_steps net loops v (sweeps net loops v k) j) g X) (now (at (suc k) g))
      steps_above k cuts zero g same few = rw (get_or-replicate (length net.gates) g X X (same_within net loops are n g same)) tt
      steps_above k cuts (suc j) g same few =
          let l = same_within net loops are n g same in
          let c = sweeps net loops v k in
          let t = sweep_steps net loops v c j in
          subst (λ (x : Trit). Below x (now (at (suc k) g))) (sym (get_or-map-range_with_len (gate_in net loops v c t) 0 (length net.gates) g g X l (omega arith)))
          (subst (Below (gate_in net loops v c t g)) (sym (val_numbered net loops m are of_loops v width k g l few))
          (ext_below_at net g (pin_in net loops v c t g) (λ s. now (pin_of net loops m k g s))
          (λ i d here.
          let s = get_or (gate_at net g).pins i d in
          let h = gate_of net s in
          choice_below_read now (in_loop_of net loops g s) (loops.cut h)
          (get_or c h X) (get_or t h X) (wire (fix net v) s) (at k h) (at (suc k) h) (old_signal net loops m s)
          (λ e.
          let p = in_loop_from net loops g s e in
          let many = has_same net loops m are of_loops g h p.1 in
          cuts h (same-trans net loops are n g h same p.1) (omega arith))
          (λ e.
          let p = in_loop_from net loops g s e in
          let many = has_same net loops m are of_loops g h p.1 in
          steps_above k cuts j h (same-trans net loops are n g h same p.1) (omega arith))
          (λ e. outside g i d (inr same) l here e))))

      sweeps_above : (k g : ℕ) → loops.same n g ≡ true → k ≤ suc (copies_of_gate g) → Below (get_or (sweeps net loops v k) g X) (now (at k g))
      sweeps_above zero g same few = rw (get_or-replicate (length net.gates) g X X (same_within net loops are n g same)) tt
      sweeps_above (suc k) g same few = grind (arith, steps_above, sweeps_above k)

      -- after as many sweeps as it has copies one more sets a loop to the fixpoint
      kept_in_loop : loops.same n n ≡ true → Kept n
      kept_in_loop self = grind (arith, fixed_cuts_give_fix net loops are v width n (m n) (fixed n self), many_of net loops m are of_loops n self, sweeps_above (suc (copies_of_gate n)) n self)

      kept_alone : n < length net.gates → loops.same n n ≡ false → Kept n
      kept_alone l alone =
          subst (λ (x : Trit). Below x (now (at (suc (copies_of_gate n)) n))) (sym (get_or-fix net v n l))
          (subst (Below (ext (gate_at net n).cover (map (wire (fix net v)) (gate_at net n).pins))) (sym (val_numbered net loops m are of_loops v width (copies_of_gate n) n l (omega arith)))
          (ext_below_at net n (wire (fix net v)) (λ s. now (pin_of net loops m (copies_of_gate n) n s))
          (λ i d here.
          let s = get_or (gate_at net n).pins i d in
          let h = gate_of net s in
          let none = false_from_ne_true (loops.same n h) (λ e. true≢false (sym (self_of net loops m are of_loops n h e) ∙ alone)) in
          let out = and_right (leb (first_gate net) s.0) (loops.same n h) none in
          rw out (outside n i d (inl refl) l here out))))

      kept_step : Kept n
      kept_step = grind (arith, cases_lt, cases_Bool, kept_in_loop, kept_alone, kept_past)

    kept : (n : ℕ) → Kept n
    kept n = by_ancestors (length net.gates) (LeadsFromOutside net loops) outside_within outside-trans outside-irreflexive Kept kept_step n

pub unrolled_is_above : UnrolledIsAbove
unrolled_is_above net loops are m of_loops v enough s = grind (arith, signal_above net loops are m of_loops v enough.width enough.fixed s, kept net loops are m of_loops v enough.width enough.fixed (gate_of net s))
