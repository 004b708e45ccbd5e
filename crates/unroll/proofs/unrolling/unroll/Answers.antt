use Rattle.unroll.proofs.unrolling.unroll.Goals as goal

pub returns-clause-unrolled : goal.returns-clause-unrolled
returns-clause-unrolled c = rw (c.new-counted.ensures, c.new-looped.ensures) at c.unroll_counted.ensures.unrolled

pub returns-clause-fault : goal.returns-clause-fault
returns-clause-fault c = rw (c.new-counted.ensures, c.new-looped.ensures) at c.unroll_counted.ensures.fault

pub returns-clause-tells : goal.returns-clause-tells
returns-clause-tells c = rw (c.new-counted.ensures, c.new-looped.ensures) at c.unroll_counted.ensures.tells
