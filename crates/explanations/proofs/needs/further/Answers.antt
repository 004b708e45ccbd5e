use Rattle.std.proofs.Common.{◌<◌, length, arith}
use Rattle.std.proofs.lemmas.List.Elements.{All-weaker}
use Rattle.cyc_base.specs.Values.{bits}
use Rattle.netlist.specs.Fixpoint.{fix}
use Rattle.explanations.specs.Explained.{IsUnknown}
use Rattle.explanations.proofs.NeedLemmas.{further_none}
use Rattle.explanations.proofs.needs.further.Goals as goal

pub are_marked-requires : goal.are_marked-requires
are_marked-requires c =
    All-weaker (IsUnknown c.args.net.now (fix c.args.net.now (bits c.args.vector.now))) (λ g. g < length c.args.net.now.gates) (λ g u. u.gate) c.args.gates.now c.requires.gates

pub returns-then-are_marked : goal.returns-then-are_marked
returns-then-are_marked c = grind (arith, further_none c.args.net.now c.args.vector.now c.args.gates.now c.args.needs.now.given.items c.args.needs.now.marks.items)
