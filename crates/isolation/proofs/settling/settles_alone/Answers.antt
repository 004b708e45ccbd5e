use Rattle.std.proofs.Common.{ℕ, List, subst}
use Rattle.isolation.proofs.Common.{IfSome, IsNetlist, block_at, IsLoopNetlist}
use Rattle.isolation.proofs.BuildingLemmas.{found_then}
use Rattle.isolation.proofs.SettlingLemmas.{settles-is}
use Rattle.isolation.proofs.UnknownLemmas.{unsettled-found}
use Rattle.isolation.proofs.settling.settles_alone.Goals as goal

pub returns : goal.returns
returns c =
    let l = c.args.looped.now in
    let gates : List ℕ = (block_at l.blocks c.args.place).gates in
    let valid : IsNetlist c.in-Some.small = subst (λ o. IfSome o IsNetlist) c.in-Some.is c.in_ok-small.ensures.valid in
    let small : IsLoopNetlist l.net (block_at l.blocks c.args.place).gates c.in-Some.small = subst (λ o. IfSome o (IsLoopNetlist l.net (block_at l.blocks c.args.place).gates)) c.in-Some.is c.in_ok-small.ensures.small in
    record {
      settled = found_then c.settle_within.result (λ k settled. settles-is l.net gates c.in-Some.small k valid small settled) c.settle_within.ensures.settled;
      unsettled = unsettled-found l.net gates c.in-Some.small c.args.budget c.settle_within.result valid small c.settle_within.ensures.unknown;
    }
