use Rattle.cyc_base.proofs.OrderLemmas.{EachBelow-refl, EachBelow-trans, EachBelow-antisym, EachBelow-length, EachBelow-unknown, EachBelow-bits, Below-bit}
use Rattle.cyc_base.proofs.laws.values_are_ordered.Goals as goal

pub returns-clause-lists : goal.returns-clause-lists
returns-clause-lists c =
    record { reflexive = EachBelow-refl; transitive = EachBelow-trans; antisymmetric = EachBelow-antisym; same_length = EachBelow-length; bottom = EachBelow-unknown }

pub returns-clause-top : goal.returns-clause-top
returns-clause-top c = record { value = Below-bit; list = EachBelow-bits }
