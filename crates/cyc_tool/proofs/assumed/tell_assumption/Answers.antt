use Rattle.cyc_tool.proofs.Common.{IfOk-weaker}
use Rattle.cyc_tool.proofs.assumed.tell_assumption.Goals as goal

pub returns-in-Stands-clause-told : goal.returns-in-Stands-clause-told
returns-in-Stands-clause-told c = rw c.in-Stands.is c.tell_care.ensures.told

pub returns-in-Stands-clause-written : goal.returns-in-Stands-clause-written
returns-in-Stands-clause-written c = rw c.in-Stands.is (IfOk-weaker c.tell_care.result _ _ (λ told file. file c.args.net.now c.requires.care) c.tell_care.ensures.written)

pub returns-in-Weakest-clause-told : goal.returns-in-Weakest-clause-told
returns-in-Weakest-clause-told c = rw c.in-Weakest.is c.tell_care-in-Weakest.ensures.told

pub returns-in-Weakest-clause-written : goal.returns-in-Weakest-clause-written
returns-in-Weakest-clause-written c =
    let fits = rw c.in-Weakest.is at c.requires.fits in
    rw c.in-Weakest.is (IfOk-weaker c.tell_care-in-Weakest.result _ _ (λ told file. file c.args.net.now fits) c.tell_care-in-Weakest.ensures.written)

pub returns-in-Refused-clause-told : goal.returns-in-Refused-clause-told
returns-in-Refused-clause-told c = rw c.in-Refused.is c.tell_declined.ensures

pub returns-in-TooManyRows-clause-told : goal.returns-in-TooManyRows-clause-told
returns-in-TooManyRows-clause-told c = rw c.in-TooManyRows.is c.tell_too_many_rows.ensures

pub returns-in-TooLarge-clause-told : goal.returns-in-TooLarge-clause-told
returns-in-TooLarge-clause-told c = rw c.in-TooLarge.is c.tell_too_large.ensures

pub tell_declined-requires : goal.tell_declined-requires
tell_declined-requires c = rw c.in-Refused.is at c.requires.fits
