use Rattle.std.proofs.Common.{inl, inr}
use Rattle.cyc_tool.proofs.decision.tell_refusal.Goals as goal

pub returns-in-Rewrite : goal.returns-in-Rewrite
returns-in-Rewrite c =
    let told = rw (c.net-net.ensures.net, c.refusal-refusal.ensures.refusal) at c.tell_declined.ensures in
    elim c.in-Rewrite.is [ inl is ↦ rw is.1 told | inr is ↦ rw is.2 told ]

pub returns-in-Explain : goal.returns-in-Explain
returns-in-Explain c = rw c.in-Explain.is c.tell_explained.ensures

pub returns-in-Demonstrate : goal.returns-in-Demonstrate
returns-in-Demonstrate c = rw c.in-Demonstrate.is (rw (c.net-net.ensures.net, c.refusal-refusal.ensures.refusal) at c.tell_refused.ensures)
