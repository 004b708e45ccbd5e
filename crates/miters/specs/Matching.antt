-- Names that two netlists have in common.
use Rattle.std.specs.Prelude.{ℕ, Bool, true, false, not, List, [], ◌∷◌, map, find, option_map, slice_index_or}
use Rattle.std.specs.declared.option.Option.{Option}
use Rattle.std.specs.List.{list_any}
use Rattle.std.specs.Option.{option_map_or}
use Rattle.std.specs.Str.{bytes_eq}
use Rattle.cyc_base.specs.declared.sig.Sig.{Sig}
use Rattle.netlist.specs.declared.parts.Init.{Init}
use Rattle.netlist.specs.declared.parts.Init.TheVariants.{Zero, One, Either}
use Rattle.netlist.specs.declared.parts.Latch.{Latch}
use Rattle.netlist.specs.declared.parts.Parts.{Parts}
use Rattle.netlist.specs.Netlists.{signal_names, output_names}
use Rattle.netlist.specs.Faults.{first_there}

-- two latches start alike
abbrev pub init_eq : Init → Init → Bool
init_eq Zero Zero = true
init_eq One One = true
init_eq Either Either = true
init_eq Zero One = false
init_eq Zero Either = false
init_eq One Zero = false
init_eq One Either = false
init_eq Either Zero = false
init_eq Either One = false

-- the latch that has this name
abbrev pub latch_named : Parts → List ℕ → Option Latch
latch_named net name = find (λ latch. bytes_eq name latch.name) net.latches

-- an input, a latch, or an output has this name
abbrev pub is_input : Parts → List ℕ → Bool
is_input net name = list_any (bytes_eq name) net.inputs

abbrev pub is_latch : Parts → List ℕ → Bool
is_latch net name = option_map_or (λ latch. true) (latch_named net name) false

abbrev pub is_output : Parts → List ℕ → Bool
is_output net name = list_any (bytes_eq name) (output_names net)

-- a latch has this latch's name and init
abbrev pub has_latch : Parts → Latch → Bool
has_latch net latch = option_map_or (λ other. init_eq latch.init other.init) (latch_named net latch.name) false

abbrev pub latch_name : Latch → List ℕ
latch_name latch = latch.name

-- The first name of one netlist that the other doesn't have in its place: inputs, then latches, then outputs. The inits
-- of latches are compared too, and clocks aren't.
abbrev pub unmatched : Parts → Parts → Option (List ℕ)
unmatched a b = first_there (
    find (λ name. not (is_input b name)) a.inputs
    ∷ find (λ name. not (is_input a name)) b.inputs
    ∷ option_map latch_name (find (λ latch. not (has_latch b latch)) a.latches)
    ∷ option_map latch_name (find (λ latch. not (is_latch a latch.name)) b.latches)
    ∷ find (λ name. not (is_output b name)) (output_names a)
    ∷ find (λ name. not (is_output a name)) (output_names b)
    ∷ [])
