-- What stands for a signal in a case: a constant, or a wire of the netlist that is made.
use Rattle.std.specs.Prelude.{◌≡◌, ◌+◌, ◌<◌, ℕ, List, length, map, slice_index_or}
use Rattle.cyc_base.specs.declared.sig.Sig.{Sig}
use Rattle.cyc_base.specs.declared.trit.Trit.{Trit}
use Rattle.cyc_base.specs.declared.trit.Trit.TheVariants.{X}
use Rattle.cyc_base.specs.Values.{bit, Below}
use Rattle.cover_logic.specs.Covers.{Cover}
use Rattle.cover_logic.specs.Extensions.{ext}
use Rattle.netlist.specs.declared.parts.Gate.{Gate}
use Rattle.netlist.specs.Netlists.{signal, no_gate}
use Rattle.case_split.specs.declared.operands.Operand.{Operand}
use Rattle.case_split.specs.declared.operands.Operand.TheVariants.{Constant, Wire}

-- its value where f gives the values of wires
abbrev pub value_by : (Sig → Trit) → Operand → Trit
value_by f (Constant b) = bit b
value_by f (Wire s) = f s

-- what is known of it whatever the wires are
abbrev pub known_value : Operand → Trit
known_value (Constant b) = bit b
known_value (Wire s) = X

-- it is a constant or a wire of a lower number
abbrev pub IsWithin : ℕ → Operand → Type 0
IsWithin bound (Constant b) = Unit {0}
IsWithin bound (Wire s) = s.0 < bound

-- f gives these gates, whose wires are numbered from `first` on, the values of their covers
abbrev pub Agrees : (Sig → Trit) → ℕ → List Gate → Type 0
Agrees f first gates = (i : ℕ) → i < length gates →
    f (signal (first + i)) ≡ ext (slice_index_or gates i no_gate).cover (map f (slice_index_or gates i no_gate).pins)

-- beside these gates the operand tells at least what the cover does of those operands
abbrev pub Tells : ℕ → List Gate → Cover → List Operand → Operand → Type 0
Tells first gates cover operands operand = (f : Sig → Trit) → Agrees f first gates →
    Below (ext cover (map (value_by f) operands)) (value_by f operand)
