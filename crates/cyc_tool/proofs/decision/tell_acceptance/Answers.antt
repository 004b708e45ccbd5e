use Rattle.cyc_tool.proofs.decision.tell_acceptance.Goals as goal

pub returns-in-Rewrite : goal.returns-in-Rewrite
returns-in-Rewrite c = rw c.in-Rewrite.is c.tell_rewritten_in.ensures

pub returns-in-Aiger : goal.returns-in-Aiger
returns-in-Aiger c = rw c.in-Aiger.is c.tell_graphed_in.ensures

pub returns-in-Explain : goal.returns-in-Explain
returns-in-Explain c = rw c.in-Explain.is c.explain_accepted.ensures

pub returns-in-Demonstrate : goal.returns-in-Demonstrate
returns-in-Demonstrate c = rw c.in-Demonstrate.is c.demonstrate.ensures
