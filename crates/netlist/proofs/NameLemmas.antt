-- How many names a netlist's signals have, and when two signals are one.
use Rattle.std.proofs.Common.{◌≡◌, ℕ, map, length, true, ap, arith, length-append}
use Rattle.std.proofs.lemmas.Bool.{eqb-true}
use Rattle.std.proofs.lemmas.List.{length-map}
use Rattle.cyc_base.specs.declared.sig.Sig.{Sig}
use Rattle.netlist.specs.declared.parts.Gate.{Gate}
use Rattle.netlist.specs.declared.parts.Latch.{Latch}
use Rattle.netlist.specs.declared.parts.Parts.{Parts}
use Rattle.netlist.specs.Netlists.{count, driven_names, signal_names, sig_eq}

pub length-signal_names : (net : Parts) → length (signal_names net) ≡ count net
length-signal_names net =
    omega (
      arith,
      length-append net.inputs (driven_names net),
      length-append (map (λ (latch : Latch). latch.name) net.latches) (map (λ (gate : Gate). gate.name) net.gates),
      length-map net.latches (λ (latch : Latch). latch.name),
      length-map net.gates (λ (gate : Gate). gate.name),
    )

pub sig_eq-true : (s t : Sig) → sig_eq s t ≡ true → s ≡ t
sig_eq-true s t e = ap (λ (n : ℕ). let r : Sig = record { 0 = n } in r) (eqb-true s.0 t.0 e)
