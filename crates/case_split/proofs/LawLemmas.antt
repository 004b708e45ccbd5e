-- At a vector of a case the netlist that is made tells at least what the netlist does: by steps, since loops may be left.
use Rattle.std.proofs.Common.{◌≡◌, inl, inr, ℕ, zero, suc, ◌+◌, ◌<◌, Bool, true, false, List, [], ◌∷◌, ◌++◌, length, map, get_or, sym, ap, ◌∙◌, subst, arith}
use Rattle.std.proofs.lemmas.Bool.{cases_Bool, cases_lt}
use Rattle.std.proofs.lemmas.List.{get_or-append-add, get_or-replicate, get_or_append_left, get_or_past, length-append}
use Rattle.cyc_base.specs.declared.sig.Sig.{Sig}
use Rattle.cyc_base.specs.declared.trit.Trit.{Trit}
use Rattle.cyc_base.specs.declared.trit.Trit.TheVariants.{X}
use Rattle.cyc_base.specs.Values.{bit, Below, EachBelow}
use Rattle.cyc_base.proofs.OrderLemmas.{Below-refl, Below-trans, EachBelow-at, EachBelow-map}
use Rattle.cover_logic.specs.Extensions.{ext}
use Rattle.cover_logic.proofs.ExtensionLemmas.{ext_is_monotone}
use Rattle.netlist.specs.declared.parts.Gate.{Gate}
use Rattle.netlist.specs.declared.parts.Parts.{Parts}
use Rattle.netlist.specs.Fixpoint.{wire, steps, fix, fix_gates}
use Rattle.netlist.specs.Netlists.{count, gate_at, gate_sig, no_gate, signal, IsNetlist}
use Rattle.netlist.proofs.FixpointLemmas.{get_or-fix, get_or-step, length-steps, steps_below_fix}
use Rattle.loops.specs.Sweeps.{first_gate, gate_of}
use Rattle.loops.proofs.Reading.{wire_of_gate}
use Rattle.unroll.specs.Laws.{TellsAsMuchAt}
use Rattle.case_split.specs.declared.operands.Operand.{Operand}
use Rattle.case_split.specs.declared.operands.Operand.TheVariants.{Wire}
use Rattle.case_split.specs.Operands.{value_by, Agrees}
use Rattle.case_split.specs.Tables.{operand_at, IsKnownBy, IsPlain, IsCopy, IsCopied, IsMade, IsTable}
use Rattle.case_split.specs.Splits.{SameGate, split_by}

-- signals and operands one by one
pins_below : (f : Sig → Trit) (g : Operand → Trit) (pins : List Sig) (os : List Operand) → length os ≡ length pins → ((i : ℕ) (d : Sig) → i < length pins → Below (f (get_or pins i d)) (g (get_or os i (Wire d)))) → EachBelow (map f pins) (map g os)
pins_below f g [] [] e h = tt
pins_below f g [] (o ∷ os) e h = absurd (omega arith)
pins_below f g (p ∷ pins) [] e h = absurd (omega arith)
pins_below f g (p ∷ pins) (o ∷ os) e h = (h zero p (omega arith), pins_below f g pins os (omega arith) (λ i d l. h (suc i) d (omega arith)))

module _ (net : Parts) (valid : IsNetlist net) (heads more : List Gate) (wide : length heads ≡ length net.gates) (v : List Trit) (columns : length v ≡ first_gate net) where
  abbrev new : Parts
  new = split_by net heads more

  -- what is seen of a signal in the new netlist, and after k steps in the old one
  abbrev pub now : Sig → Trit
  now s = wire (fix new v) s

  abbrev then : ℕ → Sig → Trit
  then k s = wire (v ++ steps net v k) s

  new_gates : length new.gates ≡ length net.gates + length more
  new_gates = omega (arith, length-append heads more, wide)

  pub now_column : (s : Sig) → s.0 < first_gate net → now s ≡ get_or v s.0 X
  now_column s l = get_or_append_left v (fix_gates new v) X s.0 (omega arith)

  now_gate : (n : ℕ) → n < length new.gates → now (gate_sig net n) ≡ ext (gate_at new n).cover (map now (gate_at new n).pins)
  now_gate n l = get_or_at n ∙ get_or-fix new v n l
    where
      get_or_at : (m : ℕ) → now (gate_sig net m) ≡ get_or (fix_gates new v) m X
      get_or_at m = ap (λ (i : ℕ). get_or (v ++ fix_gates new v) i X) (let e : first_gate net + m ≡ length v + m = omega arith in e) ∙ get_or-append-add v (fix_gates new v) m X

  pub now_head : (n : ℕ) → n < length net.gates → now (gate_sig net n) ≡ ext (get_or heads n no_gate).cover (map now (get_or heads n no_gate).pins)
  now_head n l = now_gate n (omega (arith, new_gates)) ∙ ap (λ (g : Gate). ext g.cover (map now g.pins)) (get_or_append_left heads more no_gate n (omega arith))

  -- the copies have the values of their covers
  pub agrees : Agrees now (count net) more
  agrees i l =
      let at : gate_at new (length heads + i) ≡ get_or more i no_gate = get_or-append-add heads more i no_gate in
      ap now (ap signal (let e : count net + i ≡ first_gate net + (length heads + i) = omega arith in e))
      ∙ now_gate (length heads + i) (omega (arith, new_gates))
      ∙ ap (λ (g : Gate). ext g.cover (map now g.pins)) at

  then_column : (k : ℕ) (s : Sig) → s.0 < first_gate net → then k s ≡ get_or v s.0 X
  then_column k s l = get_or_append_left v (steps net v k) X s.0 (omega arith)

  then_gate : (k n : ℕ) → then k (gate_sig net n) ≡ get_or (steps net v k) n X
  then_gate k n = ap (λ (i : ℕ). get_or (v ++ steps net v k) i X) (let e : first_gate net + n ≡ length v + n = omega arith in e) ∙ get_or-append-add v (steps net v k) n X

  then_below_fix : (k : ℕ) (s : Sig) → Below (then k s) (wire (fix net v) s)
  then_below_fix k s = elim (cases_lt s.0 (first_gate net)) [
    | inl low ↦ subst (Below (then k s)) (then_column k s low ∙ sym (get_or_append_left v (fix_gates net v) X s.0 (omega arith))) (Below-refl (then k s))
    | inr high ↦
        subst (λ (x : Trit). Below x (wire (fix net v) s)) (sym (wire_of_gate v (steps net v k) (first_gate net) s.0 columns high))
        (subst (Below (get_or (steps net v k) (gate_of net s) X)) (sym (wire_of_gate v (fix_gates net v) (first_gate net) s.0 columns high))
        (EachBelow-at (steps net v k) (fix_gates net v) (gate_of net s) (steps_below_fix net v k)))
  ]

  -- by what holds of columns and of gates
  by_signal : (k : ℕ) → ((n : ℕ) → n < length net.gates → Below (then k (gate_sig net n)) (now (gate_sig net n))) → (s : Sig) → Below (then k s) (now s)
  by_signal k gates s = elim (cases_lt s.0 (first_gate net)) [
    | inl low ↦ subst (Below (then k s)) (then_column k s low ∙ sym (now_column s low)) (Below-refl (then k s))
    | inr high ↦ elim (cases_lt (gate_of net s) (length net.gates)) [
      | inl inside ↦ subst (λ (t : Sig). Below (then k t) (now t)) (ap signal (let e : first_gate net + gate_of net s ≡ s.0 = omega arith in e)) (gates (gate_of net s) inside)
      | inr past ↦
          subst (λ (x : Trit). Below x (now s)) (sym (wire_of_gate v (steps net v k) (first_gate net) s.0 columns high ∙ get_or_past (steps net v k) (gate_of net s) X (omega (arith, length-steps net v k)))) tt
    ]
  ]

  module _ (copied : ℕ → Bool) (values : List Trit) (known : (s : Sig) (b : Bool) → wire values s ≡ bit b → wire (fix net v) s ≡ bit b) (table : List Operand) (is : IsTable net copied values (count net) more table)
      (kept : (n : ℕ) → n < length net.gates → copied n ≡ false → SameGate (get_or heads n no_gate) (gate_at net n))
      (chosen : (n : ℕ) → n < length net.gates → copied n ≡ true → Below (value_by now (operand_at table (gate_sig net n))) (now (gate_sig net n))) where
    abbrev stands : Sig → Trit
    stands s = value_by now (operand_at table s)

    known_stands : (k : ℕ) (s : Sig) → IsKnownBy values s (operand_at table s) → Below (then k s) (stands s)
    known_stands k s h =
        subst (λ (o : Operand). Below (then k s) (value_by now o)) (sym h.is)
        (subst (Below (then k s)) (known s h.value h.known) (then_below_fix k s))

    -- what is seen after k steps is below what is seen in the new netlist, and below what stands for it
    pub record After (k : ℕ) : Type 0 where
      pub wires : (s : Sig) → Below (then k s) (now s)
      pub stand : (s : Sig) → s.0 < count net → Below (then k s) (stands s)

    copy_stands : (k : ℕ) → After k → (n : ℕ) → n < length net.gates → IsCopy net (count net) more table n → Below (then (suc k) (gate_sig net n)) (stands (gate_sig net n))
    copy_stands k after n l copy =
        subst (λ (x : Trit). Below x (stands (gate_sig net n))) (sym (then_gate (suc k) n ∙ get_or-step net v (steps net v k) n l))
        (Below-trans (ext (gate_at net n).cover (map (then k) (gate_at net n).pins)) (ext (gate_at net n).cover (map (value_by now) copy.operands)) (stands (gate_sig net n))
        (ext_is_monotone (gate_at net n).cover (map (then k) (gate_at net n).pins) (map (value_by now) copy.operands)
        (pins_below (then k) (value_by now) (gate_at net n).pins copy.operands copy.width
        (λ i d h.
        let p = get_or (gate_at net n).pins i d in
        elim (copy.each i d h) [
          | inl e ↦ subst (λ (o : Operand). Below (then k p) (value_by now o)) (sym e) (after.wires p)
          | inr e ↦ subst (λ (o : Operand). Below (then k p) (value_by now o)) (sym e) (after.stand p (valid.pins n no_gate l i d h))
        ])))
        (copy.tells now agrees))

    kept_above : (k : ℕ) → After k → (n : ℕ) → n < length net.gates → copied n ≡ false → Below (then (suc k) (gate_sig net n)) (now (gate_sig net n))
    kept_above k after n l e =
        let same = kept n l e in
        let at : gate_at new n ≡ get_or heads n no_gate = get_or_append_left heads more no_gate n (omega arith) in
        subst (λ (x : Trit). Below x (now (gate_sig net n))) (sym (then_gate (suc k) n ∙ get_or-step net v (steps net v k) n l))
        (subst (Below (ext (gate_at net n).cover (map (then k) (gate_at net n).pins)))
        (sym (now_gate n (omega (arith, new_gates)) ∙ ap (λ (g : Gate). ext g.cover (map now g.pins)) at ∙ ap (λ c. ext c (map now (get_or heads n no_gate).pins)) same.cover ∙ ap (λ ps. ext (gate_at net n).cover (map now ps)) same.pins))
        (ext_is_monotone (gate_at net n).cover (map (then k) (gate_at net n).pins) (map now (gate_at net n).pins) (EachBelow-map (then k) now (gate_at net n).pins after.wires)))

    made_stands : (k : ℕ) → After k → (n : ℕ) → n < length net.gates → IsMade net values (count net) more table n → Below (then (suc k) (gate_sig net n)) (stands (gate_sig net n))
    made_stands k after n l (inl h) = known_stands (suc k) (gate_sig net n) h
    made_stands k after n l (inr h) = copy_stands k after n l h

    next_wires : (k : ℕ) → After k → (s : Sig) → Below (then (suc k) s) (now s)
    next_wires k after = by_signal (suc k) (λ n l. elim (cases_Bool (copied n)) [
      | inl e ↦ Below-trans (then (suc k) (gate_sig net n)) (stands (gate_sig net n)) (now (gate_sig net n)) (made_stands k after n l (is.made n l e)) (chosen n l e)
      | inr e ↦ kept_above k after n l e
    ])

    plain_stands : (k : ℕ) → ((s : Sig) → Below (then k s) (now s)) → (s : Sig) → IsPlain values s (operand_at table s) → Below (then k s) (stands s)
    plain_stands k wires s (inl e) = subst (λ (o : Operand). Below (then k s) (value_by now o)) (sym e) (wires s)
    plain_stands k wires s (inr h) = known_stands k s h

    first_wires : (s : Sig) → Below (then zero s) (now s)
    first_wires = by_signal zero (λ n l. subst (λ (x : Trit). Below x (now (gate_sig net n))) (sym (then_gate zero n ∙ get_or-replicate (length net.gates) n X X l)) tt)

    copied_first : (s : Sig) → IsCopied net (count net) more table s → Below (then zero s) (stands s)
    copied_first s h =
        subst (λ (t : Sig). Below (then zero t) (stands t)) (sym h.is)
        (subst (λ (x : Trit). Below x (stands (gate_sig net h.gate))) (sym (then_gate zero h.gate ∙ get_or-replicate (length net.gates) h.gate X X h.within)) tt)

    copied_next : (k : ℕ) → After k → (s : Sig) → IsCopied net (count net) more table s → Below (then (suc k) s) (stands s)
    copied_next k after s h = subst (λ (t : Sig). Below (then (suc k) t) (stands t)) (sym h.is) (copy_stands k after h.gate h.within h.copy)

    after_steps : (k : ℕ) → After k
    after_steps zero = record {
      wires = first_wires;
      stand = λ s l. elim (is.each s l) [ inl p ↦ plain_stands zero first_wires s p | inr h ↦ copied_first s h ];
    }
    after_steps (suc k) =
        let after = after_steps k in
        record {
          wires = next_wires k after;
          stand = λ s l. elim (is.each s l) [ inl p ↦ plain_stands (suc k) (next_wires k after) s p | inr h ↦ copied_next k after s h ];
        }

    pub wires_above : (s : Sig) → Below (wire (fix net v) s) (now s)
    wires_above s = (after_steps (length net.gates)).wires s

    pub tells_as_much : TellsAsMuchAt net new v
    tells_as_much = record {
      outputs = EachBelow-map (wire (fix net v)) now net.outputs wires_above;
      loads = EachBelow-map (λ latch. wire (fix net v) latch.from) (λ latch. now latch.from) net.latches (λ latch. wires_above latch.from);
    }
