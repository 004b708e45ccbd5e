-- A wire that is told with why.
use Rattle.std.proofs.Common.{◌≡◌, ◌+◌, ◌-◌, ◌<◌, ℕ, Bool, List, length, ap, arith}
use Rattle.std.proofs.lemmas.List.{length-map}
use Rattle.std.proofs.lemmas.List.Elements.{All-weaker}
use Rattle.cyc_tool.proofs.Common.{Sig, bits, Parts, fix, Form, told, Outcome}
use Rattle.cyc_base.specs.Values.{bit}
use Rattle.cyc_base.proofs.OrderLemmas.{EachBelow-length}
use Rattle.netlist.specs.Netlists.{signal, gate_sig, columns}
use Rattle.explanations.specs.declared.explanation.Explanation.{Explanation}
use Rattle.explanations.specs.Explained.{Explains, IsUnknown}
use Rattle.dot_text.specs.ExplanationGraphs.{IsExplanationOf}
use Rattle.cyc_tool.specs.Answer.{IsWireExplained}
use Rattle.cyc_tool.specs.Endings.{wire_explained}
use Rattle.plain_commands.specs.Plans.{Refuses}

-- an explanation speaks of gates and columns of its netlist
pub fits_netlist : (net : Parts) (v : List Bool) (gate : ℕ) (why : Explanation) → length v ≡ columns net → Explains net v gate why → IsExplanationOf net why
fits_netlist net v gate why width h = record {
  cycle = All-weaker (IsUnknown net (fix net (bits v))) (λ g. g < length net.gates) (λ g u. u.gate) why.cycle h.cycle.unknown;
  sides = (let size = h.sides.size in omega arith);
  way = All-weaker (IsUnknown net (fix net (bits v))) (λ g. g < length net.gates) (λ g u. u.gate) why.way h.leads.unknown;
  needs = (let size = EachBelow-length why.needs (bits v) h.needs.of_vector in let same = length-map v bit in omega arith);
  also = (let size = EachBelow-length why.also (bits v) h.also.of_vector in let same = length-map v bit in omega arith);
}

pub was_explained : (form : Form) (net : Parts) (v : List Bool) (wire : Sig) (why : Explanation) (end : Outcome)
    → Explains net v (wire.0 - (length net.inputs + length net.latches)) why → end ≡ told (Refuses (wire_explained form net v wire why))
    → IsWireExplained form net v wire end
was_explained form net v wire why end explains same = record { why = why; explains = explains; is = same }

pub number_of_gate : (net : Parts) (wire : Sig) (gate : ℕ) → length net.inputs + length net.latches + gate ≡ wire.0 → gate_sig net gate ≡ wire
number_of_gate net wire gate e = ap signal e
