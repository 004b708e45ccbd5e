use Rattle.sat.proofs.learning.keep.Goals as goal

pub returns-clause-last : goal.returns-clause-last
returns-clause-last c = record { earlier = c.args.database.now; is = c.in_ok-push.ensures.added }
