-- The storm of a plan is the storm of its vector.
use Rattle.std.proofs.Common.{◌≡◌, ◌-◌, ℕ, Bool, List, sym, ap, ◌∙◌, arith}
use Rattle.plain_commands.proofs.Common.{bits, Sig, Parts, IsRefusalOf, Refusal, Undetermined, fix, told, Outcome}
use Rattle.cyc_base.specs.declared.trit.Trit.TheVariants.{X}
use Rattle.refusals.specs.Refusals.{IsAt}
use Rattle.netlist.specs.Fixpoint.{wire}
use Rattle.netlist.specs.Netlists.{signal, gate_sig, columns}
use Rattle.plain_commands.specs.Storms.{storm_or_refusal, storm_told, LeavesUnknown}
use Rattle.plain_commands.specs.Seen.{IsShown}

-- a refused wire is a gate that its vector leaves unknown
pub leaves_unknown : (net : Parts) (v given : List Bool) (refused_wire : Sig) (refused : Refusal) → refused ≡ Undetermined v refused_wire → given ≡ v
    → IsRefusalOf net refused → IsShown net refused → LeavesUnknown net given
leaves_unknown net v given refused_wire refused is same fits shown =
    let at : IsAt net v refused_wire = rw is at fits in
    let unknown : wire (fix net (bits v)) refused_wire ≡ X = rw is at shown in
    let low = at.gate.behind in
    let high = at.gate.within in
    let gate : ℕ = refused_wire.0 - columns net in
    let sig : gate_sig net gate ≡ refused_wire = ap signal (omega (arith, low)) in
    record {
      gate = gate;
      within = omega (arith, low, high);
      unknown = ap (λ (b : List Bool). wire (fix net (bits b)) (gate_sig net gate)) same ∙ ap (wire (fix net (bits v))) sig ∙ unknown;
    }

-- a refused wire is told by its storm
pub wire_stormed : (net : Parts) (rounds : ℕ) (v given : List Bool) (wire : Sig) (refused : Refusal) (end : Outcome) → refused ≡ Undetermined v wire
    → given ≡ v → end ≡ told (storm_told net rounds given) → end ≡ told (storm_or_refusal net rounds refused)
wire_stormed net rounds v given wire refused end is same ends =
    ends ∙ ap (λ (b : List Bool). told (storm_told net rounds b)) same ∙ sym (ap (λ (r : Refusal). told (storm_or_refusal net rounds r)) is)
