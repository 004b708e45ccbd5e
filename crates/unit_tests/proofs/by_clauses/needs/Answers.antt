use Rattle.loops.specs.Blocks.{block_at}
use Rattle.unit_tests.proofs.ByClausesLemmas.{accepted_fed, accepted_known, block_in_scope}
use Rattle.unit_tests.proofs.by_clauses.needs.Goals as goal

pub sweeps_needed-requires-clause-within : goal.sweeps_needed-requires-clause-within
sweeps_needed-requires-clause-within c =
    let l = c.args.looped.now in
    block_in_scope l.net l.blocks c.in_ok-scope.scope c.net-net.ensures.looped.blocks (rw c.net-net.ensures.net at c.in_ok-scope.ensures.all) 0 c.requires.block

pub sweeps_needed-requires-clause-known : goal.sweeps_needed-requires-clause-known
sweeps_needed-requires-clause-known c = accepted_known c.args.looped.now.net c.args.care.now c.requires.accepts

pub sweeps_fed_known-requires-clause-within : goal.sweeps_fed_known-requires-clause-within
sweeps_fed_known-requires-clause-within c =
    let l = c.args.looped.now in
    block_in_scope l.net l.blocks c.in_ok-scope.scope c.net-net.ensures.looped.blocks (rw c.net-net.ensures.net at c.in_ok-scope.ensures.all) 0 c.requires.block

pub sweeps_fed_known-requires-clause-fed : goal.sweeps_fed_known-requires-clause-fed
sweeps_fed_known-requires-clause-fed c =
    let l = c.args.looped.now in accepted_fed l.net c.args.care.now (block_at l.blocks 0).gates c.requires.accepts
