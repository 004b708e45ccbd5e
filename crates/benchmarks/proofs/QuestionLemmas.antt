-- What the question of a netlist speaks of.
use Rattle.std.proofs.Common.{ℕ, Bool, List, inr}
use Rattle.netlist.specs.declared.parts.Parts.{Parts}
use Rattle.loops.specs.Cones.{IsConeOf}
use Rattle.loops.proofs.Walks.{leads-step}
use Rattle.loops.proofs.UpstreamLemmas.{upstream-trans}
use Rattle.clause_decision.specs.Scopes.{AreClosed}

-- a cone has with each gate those that feed it
pub cone_closes : (net : Parts) (gates : List ℕ) (marks : List Bool) → IsConeOf net gates marks → AreClosed net marks
cone_closes net gates marks are m n feeds marked =
    let lead = (are.each n feeds.reader).0 marked in
    (are.each m feeds.source).1 (record { gate = lead.gate; among = lead.among; upstream = upstream-trans net m n lead.gate (inr (leads-step net m n feeds)) lead.upstream })
