use Rattle.std.proofs.Common.{◌-◌, length, subst, sym, arith}
use Rattle.equal.proofs.Common.{Parts, IsCareOf, joined_pairs, miter_gates}
use Rattle.miters.proofs.ComparisonLemmas.{care_joined}
use Rattle.miters.proofs.MatchLemmas.{matched}
use Rattle.equal.proofs.CompareLemmas.{unknown_last}
use Rattle.equal.proofs.accepted.AcceptedNetlists.unknown_in_miter.Goals as goal

pub unknown_within-requires-clause-care : goal.unknown_within-requires-clause-care
unknown_within-requires-clause-care c =
    let m = c.self.inside in
    let a = m.a.now in
    let b = m.b.now in
    subst (λ (net : Parts). IsCareOf net c.self.inside.care.now) (sym c.in_ok-net.ensures) (care_joined a b (miter_gates a (length b.gates) (joined_pairs a b)) m.care.now c.self.invariant.care_is)

pub returns : goal.returns
returns c =
    let m = c.self.inside in
    let is = c.self.invariant in
    let a = m.a.now in
    let b = m.b.now in
    grind (arith, unknown_last a b m.care.now is.valid_a is.valid_b (matched a b is.names) is.are_accepted c.unknown_within.result (c.gates-last.result - 1), matched a b is.names)
