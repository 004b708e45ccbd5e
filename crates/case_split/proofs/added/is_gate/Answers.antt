use Rattle.std.proofs.Common.{◌≡◌, Decides, arith}
use Rattle.std.proofs.lemmas.Slice.Eq.{slice_eq-Decides}
use Rattle.cyc_base.specs.declared.sig.Sig.{Sig}
use Rattle.cyc_base.specs.contracts.sig.SigPartialEq.TheImpl.{eq-value}
use Rattle.case_split.proofs.added.is_gate.Goals as goal

signals_decide : (a b : Sig) → Decides (eq-value.it a b) (a ≡ b)
signals_decide a b = grind arith

pub returns-clause-pins : goal.returns-clause-pins
returns-clause-pins c same = grind (arith, slice_eq-Decides, signals_decide)
