use Rattle.std.proofs.Common.{arith}
use Rattle.flatten.proofs.link.add_inputs.Goals as goal

pub returns-in_err-declare-clause-fault : goal.returns-in_err-declare-clause-fault
returns-in_err-declare-clause-fault c = grind arith

pub returns-in_err-check_outputs-clause-fault : goal.returns-in_err-check_outputs-clause-fault
returns-in_err-check_outputs-clause-fault c = grind arith

pub returns-clause-once : goal.returns-clause-once
returns-clause-once c = grind arith
