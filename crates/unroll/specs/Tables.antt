-- Copies by tables: for each gate the number of a copy's signal.
use Rattle.std.specs.Prelude.{◌≡◌, ℕ, suc, ◌+◌, ◌<◌, min, List, [], ◌∷◌, ◌++◌, length, map, slice_index_or, slice_set}
use Rattle.std.specs.List.{range_with_len}
use Rattle.cyc_base.specs.declared.sig.Sig.{Sig}
use Rattle.netlist.specs.declared.parts.Gate.{Gate}
use Rattle.netlist.specs.declared.parts.Parts.{Parts}
use Rattle.netlist.specs.Netlists.{signal, gate_at}
use Rattle.loops.specs.Cuts.{Loops}
use Rattle.loops.specs.Sweeps.{first_gate}
use Rattle.unroll.specs.Marks.{copy_name}
use Rattle.unroll.specs.Unrolled.{copies_of, copied, copies_upto, constants, shift, copy_signal, copy_gate, moved, redirected}

abbrev pub at_table : List ℕ → ℕ → Sig
at_table table n = signal (slice_index_or table n 0)

-- a pin of a copy, by the signals of the copies before and of those beside it, or of a gate itself, which stands behind its
-- last copy
abbrev pub copy_pin_by : Parts → Loops → ℕ → List ℕ → List ℕ → ℕ → Sig → Sig
copy_pin_by net loops by earlier current n = redirected net loops (at_table earlier) (at_table current) (moved net by) n

-- a gate of this name that has gate n's cover and reads by tables
abbrev pub gate_by_tables : Parts → Loops → ℕ → List ℕ → List ℕ → List ℕ → ℕ → Gate
gate_by_tables net loops by earlier current name n = record {
  name = name;
  pins = map (copy_pin_by net loops by earlier current n) (gate_at net n).pins;
  cover = (gate_at net n).cover;
}

abbrev pub copy_gate_by : Parts → Loops → List ℕ → ℕ → List ℕ → List ℕ → ℕ → ℕ → Gate
copy_gate_by net loops mark by earlier current k n = gate_by_tables net loops by earlier current (copy_name mark k (gate_at net n).name) n

-- the table after the copies of these gates were entered, which stand one after another from `first` on
abbrev pub entered : List ℕ → List ℕ → ℕ → List ℕ
entered table [] first = table
entered table (n ∷ gates) first = entered (slice_set table n first) gates (suc first)

-- a table of the copies number k, and of the last ones where a gate has fewer
pub record AreCopies (net : Parts) (loops : Loops) (m : ℕ → ℕ) (k : ℕ) (table : List ℕ) : Type 0 where
  pub width : length table ≡ length net.gates
  pub each : (n : ℕ) → n < length net.gates → at_table table n ≡ copy_signal net loops m (min k (copies_of loops.same m n)) n

-- a table of the last copies
pub record AreLastCopies (net : Parts) (loops : Loops) (m : ℕ → ℕ) (table : List ℕ) : Type 0 where
  pub width : length table ≡ length net.gates
  pub each : (n : ℕ) → n < length net.gates → at_table table n ≡ copy_signal net loops m (copies_of loops.same m n) n

-- what the gates themselves read: the last copies, and each other
pub record AreLast (net : Parts) (loops : Loops) (m : ℕ → ℕ) (last own : List ℕ) : Type 0 where
  pub copies : AreLastCopies net loops m last
  pub itself : own ≡ range_with_len (first_gate net + shift net loops m) (length net.gates)

-- the copies up to number k are made, and these gates have one more
pub record AreMade (net : Parts) (loops : Loops) (m : ℕ → ℕ) (k : ℕ) (active : List ℕ) (gates : List Gate) (earlier current : List ℕ) : Type 0 where
  pub next : active ≡ copied net loops m (suc k)
  pub made : gates ≡ constants net loops ++ map (copy_gate net loops m) (copies_upto net loops m k)
  pub before : AreCopies net loops m k earlier
  pub width : length current ≡ length net.gates
