use Rattle.isolation.proofs.ValidLemmas.{no_fault}
use Rattle.isolation.proofs.excerpt.made_of.Goals as goal

pub returns-in_default : goal.returns-in_default
returns-in_default c = record { same = tt; valid = tt; some = λ valid. absurd (no_fault c.args.parts c.in-Err.fault c.in-Err.ensures.fault c.in_default.not-Memory valid) }
