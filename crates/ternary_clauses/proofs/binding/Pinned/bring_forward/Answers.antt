use Rattle.std.proofs.Common.{sym, subst, arith}
use Rattle.std.specs.List.{swap}
use Rattle.cover_logic.specs.Covers.{Cover}
use Rattle.ternary_clauses.specs.Orders.{IsSameGate}
use Rattle.ternary_clauses.proofs.OrderLemmas.{exchanged_gate}
use Rattle.ternary_clauses.proofs.binding.Pinned.bring_forward.Goals as goal

pub returns-in_ok-self : goal.returns-in_ok-self
returns-in_ok-self c cover pins same =
    subst (IsSameGate cover pins c.in_ok-self.field-0) (sym c.swap.ensures.items)
    (subst (λ (other : Cover). IsSameGate cover pins other (swap c.args.self.now.pins.items c.args.front c.args.place)) (sym c.in_ok-self.ensures)
    (exchanged_gate cover pins c.args.self.now.cover c.args.self.now.pins.items c.args.front c.args.place (omega (arith, c.requires.front, c.requires.place)) c.requires.place same))
