-- Parts have no fault exactly where they make a netlist.
use Rattle.std.proofs.Common.{◌≡◌, ◌==◌, ℕ, not, ap, Bool, true, false, Option, None, refl, eqb-true, arith}
use Rattle.std.specs.Option.{option_or, option_map}
use Rattle.std.proofs.lemmas.Bool.{leb-true, le-leb, not-false, eq-eqb}
use Rattle.std.proofs.lemmas.Cmp.{nat_eq_equiv, nat_list_eq_equiv}
use Rattle.std.specs.Str.{bytes_eq}
use Rattle.cyc_base.proofs.ListLemmas.{option_or-neither, option_map-nothing}
use Rattle.netlist.specs.declared.parts.Parts.{Parts}
use Rattle.netlist.specs.declared.parts.PartsFault.{PartsFault}
use Rattle.netlist.specs.Netlists.{signal_names, sig_eq, no_gate, IsNetlist}
use Rattle.netlist.specs.Faults.{first_fault, unless}
use Rattle.netlist.proofs.Decisions.{reads_signals_decides, has_blif_names_decides, has_fitting_clock_decides, none_found, found_none}
use Rattle.netlist.proofs.Differ.{differ_from_no_repeat, no_repeat_from_differ}

holds : (b : Bool) (fault : PartsFault) → unless b fault ≡ None → b ≡ true
holds b fault e = grind arith

pub netlist_without_fault : (net : Parts) → first_fault net ≡ None → IsNetlist net
netlist_without_fault net e =
    let many = option_or-neither _ _ e in
    let signals = option_or-neither _ _ many.1 in
    let counts = option_or-neither _ _ signals.1 in
    let names = option_or-neither _ _ counts.1 in
    let twice = option_or-neither _ _ names.1 in
    let outputs = option_or-neither _ _ twice.1 in
    let clock = option_or-neither _ _ outputs.1 in
    let reads = (reads_signals_decides net).0 (holds _ _ signals.0) in
    let blif = (has_blif_names_decides net).0 (holds _ _ names.0) in
    let fitting = (has_fitting_clock_decides net).0 (holds _ _ clock.0) in
    record {
      fits = leb-true _ _ (holds _ _ many.0);
      pins = reads.0.0;
      sources = reads.0.1;
      outputs = reads.1;
      pin_counts = λ k d l. eqb-true _ _ (not-false _ (none_found _ net.gates (option_map-nothing _ _ counts.0) k d l));
      name = blif.0;
      names = blif.1;
      names_differ = differ_from_no_repeat bytes_eq nat_list_eq_equiv.symm (signal_names net) (option_map-nothing _ _ twice.0);
      outputs_differ = differ_from_no_repeat sig_eq (λ a b. nat_eq_equiv.symm a.0 b.0) net.outputs (option_map-nothing _ _ outputs.0);
      clocked = fitting.0;
      clock = fitting.1;
    }

none_of : {T : Type 0} (x y : Option T) → x ≡ None → y ≡ None → option_or x y ≡ None
none_of x y e f = rw e f

unless_holds : (b : Bool) (fault : PartsFault) → b ≡ true → unless b fault ≡ None
unless_holds b fault e = rw e refl

no_value : {A B : Type 0} (f : A → B) (r : Option A) → r ≡ None → option_map f r ≡ None
no_value f r e = rw e refl

pub no_fault_of_netlist : (net : Parts) → IsNetlist net → first_fault net ≡ None
no_fault_of_netlist net h =
    none_of _ _ (unless_holds _ _ (le-leb _ _ h.fits))
    (none_of _ _ (unless_holds _ _ ((reads_signals_decides net).1 ((h.pins, h.sources), h.outputs)))
    (none_of _ _ (no_value _ _ (found_none _ net.gates no_gate (λ k d l. not_of (h.pin_counts k d l))))
    (none_of _ _ (unless_holds _ _ ((has_blif_names_decides net).1 (h.name, h.names)))
    (none_of _ _ (no_value _ _ (no_repeat_from_differ bytes_eq nat_list_eq_equiv.symm (signal_names net) h.names_differ))
    (none_of _ _ (no_value _ _ (no_repeat_from_differ sig_eq (λ a b. nat_eq_equiv.symm a.0 b.0) net.outputs h.outputs_differ))
    (none_of _ _ (unless_holds _ _ ((has_fitting_clock_decides net).1 (h.clocked, h.clock))) refl))))))
  where
    not_of : {m n : ℕ} → m ≡ n → not (m == n) ≡ false
    not_of {m} {n} e = ap not (eq-eqb m n e)
