-- Which gates are observed, as marks.
use Rattle.std.specs.Prelude.{◌≡◌, ◌<◌, ℕ, Bool, false, List, length, slice_index_or}
use Rattle.cyc_base.specs.declared.sig.Sig.{Sig}
use Rattle.netlist.specs.declared.parts.Parts.{Parts}
use Rattle.netlist.specs.Netlists.{gate_sig}
use Rattle.refusals.specs.Refusals.{is_among}

-- the marked gates are those that are among these signals
pub record AreMarksOf (net : Parts) (signals : List Sig) (marks : List Bool) : Type 0 where
  pub width : length marks ≡ length net.gates
  pub each : (k : ℕ) → k < length net.gates → slice_index_or marks k false ≡ is_among signals (gate_sig net k)
