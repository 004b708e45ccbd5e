-- Where a signal changes, its readers' blocks become due, and all other blocks stay stable.
use Rattle.std.proofs.Common.{◌≡◌, ◌≢◌, inl, inr, ℕ, ◌+◌, ◌<◌, Bool, true, false, List, length, get_or, set, refl, ap, sym, ◌∙◌, arith, Contains, true≢false}
use Rattle.simulation.proofs.Common.{cases_lt, cases_eq, get_or-set_same, get_or-set_other, get_or_past, length-set, Sig, Trit, X, Parts, gate_sig, Blocks, home_of, readers_of, AreKept, is_due}
use Rattle.simulation.specs.Plans.{AreReadersOf}
use Rattle.simulation.specs.Marking.{AreMarked, StayDue}

due_here : (due : List Bool) (p : ℕ) → is_due (set due p true) p ≡ true
due_here due p = grind (arith, cases_lt p (length due), get_or-set_same due p true true, length-set due p true, get_or_past (set due p true) p true)

due_still : (due : List Bool) (p q : ℕ) → is_due due q ≡ true → is_due (set due p true) q ≡ true
due_still due p q h = grind (arith, cases_eq q p, due_here due p, get_or-set_other due p q true true)

pub marked_none : (gates home : List ℕ) (due : List Bool) → AreMarked gates home 0 due due
marked_none gates home due = record { size = refl; each = λ i d l. absurd (omega arith); stay = λ p h. h }

pub marked_more : (gates home : List ℕ) (k gate place : ℕ) (old due : List Bool) → ((d : ℕ) → get_or gates k d ≡ gate) → get_or home gate 0 ≡ place → AreMarked gates home k old due → AreMarked gates home (k + 1) old (set due place true)
marked_more gates home k gate place old due at is h = record {
  size = length-set due place true ∙ h.size;
  each = λ i d l.
      elim (cases_eq i k) [
        | inl e ↦ rw (e, at d, is) (due_here due place)
        | inr ne ↦ due_still due place (get_or home (get_or gates i d) 0) (h.each i d (omega (arith, ne)))
      ];
  stay = λ q was. due_still due place q (h.stay q was);
}

-- the same of what code has read
pub marked_from : (gates other home homes : List ℕ) (old older new : List Bool) → other ≡ gates → homes ≡ home → older ≡ old → AreMarked other homes (length other) older new → AreMarked gates home (length gates) old new
marked_from gates other home homes old older new e f g h = rw (e, f, g) at h

-- what is not due now was not due before
pub was_not_due : (old new : List Bool) (place : ℕ) → StayDue old new → is_due new place ≡ false → is_due old place ≡ false
was_not_due old new place stay e = grind arith

pub changed : (net : Parts) (blocks : Blocks) (readers : List (List ℕ)) (values : List Trit) (old new : List Bool) (signal : Sig) (value : Trit) → AreReadersOf net readers →
    AreKept net blocks values old →
    ((n : ℕ) → n < length net.gates → signal ≡ gate_sig net n → is_due old (home_of blocks n) ≡ true) →
    AreMarked (readers_of readers signal) blocks.home (length (readers_of readers signal)) old new →
    AreKept net blocks (set values signal.0 value) new
changed net blocks readers values old new signal value lists kept driver marked = record {
  width = length-set values signal.0 value ∙ kept.width;
  flags = marked.size ∙ kept.flags;
  stable = λ place e.
      let was : is_due old place ≡ false = was_not_due old new place marked.stay e in
      let stable = kept.stable place was in
      record {
        vector = stable.vector;
        width = stable.width;
        gates = λ n l h.
            let other : (gate_sig net n).0 ≢ signal.0 =
            λ same.
            let is : signal ≡ gate_sig net n = ap (λ (m : ℕ). let s : Sig = record { 0 = m } in s) (sym same) in
            let due : is_due old place ≡ true = rw h at (driver n l is) in
            true≢false (sym due ∙ was) in
            get_or-set_other values signal.0 (gate_sig net n).0 value X other ∙ stable.gates n l h;
        pins = λ n s l h c.
            let other : s.0 ≢ signal.0 =
            λ same.
            let is : s ≡ signal = ap (λ (m : ℕ). let t : Sig = record { 0 = m } in t) same in
            let listed : Contains (readers_of readers signal) n = rw is at (lists.each n s l c) in
            let due : is_due new place ≡ true = rw (listed.2, h) at (marked.each listed.0 n listed.1) in
            true≢false (sym due ∙ e) in
            get_or-set_other values signal.0 s.0 value X other ∙ stable.pins n s l h c;
      };
}
