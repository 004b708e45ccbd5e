use Rattle.assumptions.proofs.CareLemmas.{invariant_passes, is_beside, without_fault}
use Rattle.assumptions.proofs.strengthening.beside.Goals as goal

pub returns-in-Ok : goal.returns-in-Ok
returns-in-Ok c =
    is_beside c.args.net.now c.args.care.now c.args.model c.in_ok-invariant.invariant c.in-Ok.stronger c.requires.care c.in_ok-invariant.ensures.copy
    c.in-Ok.ensures.bound c.in-Ok.ensures.care

pub want_of_memory-requires : goal.want_of_memory-requires
want_of_memory-requires c =
    without_fault c.args.net.now c.args.model c.in_ok-invariant.invariant c.in-Err.fault c.requires.passes
    (invariant_passes c.args.net.now c.args.care.now c.in_ok-invariant.invariant c.requires.care c.copy_invariant.ensures.valid c.in_ok-invariant.ensures.copy)
    c.in-Err.ensures.fault
