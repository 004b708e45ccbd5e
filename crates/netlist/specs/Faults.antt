-- What is wrong with parts: the first fault that they have.
use Rattle.std.specs.Prelude.{◌++◌, ◌==◌, ◌&&◌, ℕ, nat_lt, nat_le, Bool, not, false, if◌then◌else◌, List, [], ◌∷◌, length, Some, None, position, option_map, codes}
use Rattle.std.specs.declared.option.Option.{Option}
use Rattle.std.specs.List.{list_all, list_any}
use Rattle.std.specs.Option.{option_or, option_map_or}
use Rattle.std.specs.Str.{bytes_eq}
use Rattle.cyc_base.specs.declared.sig.Sig.{Sig}
use Rattle.netlist.specs.declared.parts.Gate.{Gate}
use Rattle.netlist.specs.declared.parts.Parts.{Parts}
use Rattle.netlist.specs.declared.parts.PartsFault.{PartsFault}
use Rattle.netlist.specs.declared.parts.PartsFault.TheVariants.{TooMany, BadSig, PinCount, BadName, NameTwice, OutputTwice, BadClock}
use Rattle.netlist.specs.Netlists.{signal, sig_eq, count, signal_names, is_driven}

abbrev pub is_signal : ℕ → Sig → Bool
is_signal signals s = nat_lt s.0 signals

-- every pin, latch and output reads a signal
abbrev pub reads_signals : Parts → Bool
reads_signals net =
    list_all (λ gate. list_all (is_signal (count net)) gate.pins) net.gates
    && list_all (λ latch. is_signal (count net) latch.from) net.latches
    && list_all (is_signal (count net)) net.outputs

abbrev pub has_cover_pins : Gate → Bool
has_cover_pins gate = length gate.pins == gate.cover.pins

abbrev pub is_blif_byte : ℕ → Bool
is_blif_byte b = nat_le 33 b && nat_le b 126 && not (b == 35)

abbrev pub is_blif_name : List ℕ → Bool
is_blif_name [] = false
is_blif_name (b ∷ bs) = list_all is_blif_byte (b ∷ bs)

-- the model's name and those of all signals can stand in a BLIF text
abbrev pub has_blif_names : Parts → Bool
has_blif_names net =
    is_blif_name net.name
    && list_all is_blif_name net.inputs
    && list_all (λ latch. is_blif_name latch.name) net.latches
    && list_all (λ gate. is_blif_name gate.name) net.gates

-- the first item that stands among the earlier ones already, with its place
abbrev pub repeat_after : {T : Type 0} → (T → T → Bool) → List T → List T → Option (ℕ × T)
repeat_after eq earlier [] = None
repeat_after eq earlier (x ∷ xs) =
    if list_any (eq x) earlier then Some (length earlier, x) else repeat_after eq (earlier ++ x ∷ []) xs

abbrev pub first_repeat : {T : Type 0} → (T → T → Bool) → List T → Option (ℕ × T)
first_repeat eq xs = repeat_after eq [] xs

-- a name that a clock may have: no latch and no gate drives it
abbrev pub is_clock_name : Parts → List ℕ → Bool
is_clock_name net name =
    is_blif_name name && not (bytes_eq name (codes "NIL")) && not (is_driven net name)

-- a clock is there exactly where some latch is clocked, and has a name that it may have
abbrev pub has_fitting_clock : Parts → Bool
has_fitting_clock net =
    option_map_or (λ clock. list_any (λ latch. latch.clocked) net.latches && is_clock_name net clock.name)
    net.clock (not (list_any (λ latch. latch.clocked) net.latches))

-- the fault, unless the condition holds
abbrev pub unless : Bool → PartsFault → Option PartsFault
unless holds fault = if holds then None else Some fault

-- the first that is there
abbrev pub first_there : {T : Type 0} → List (Option T) → Option T
first_there [] = None
first_there (x ∷ xs) = option_or x (first_there xs)

-- the first fault in this order, if there is one
abbrev pub first_fault : Parts → Option PartsFault
first_fault net = first_there (
    unless (nat_le (count net) 4294967295) TooMany
    ∷ unless (reads_signals net) BadSig
    ∷ option_map PinCount (position (λ gate. not (has_cover_pins gate)) net.gates)
    ∷ unless (has_blif_names net) BadName
    ∷ option_map (λ p. NameTwice (signal p.0)) (first_repeat bytes_eq (signal_names net))
    ∷ option_map (λ p. OutputTwice p.1) (first_repeat sig_eq net.outputs)
    ∷ unless (has_fitting_clock net) BadClock
    ∷ [])
