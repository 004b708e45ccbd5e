use Rattle.std.proofs.Common.{◌≡◌, Decides, arith}
use Rattle.std.proofs.lemmas.Slice.Eq.{slice_eq-Decides}
use Rattle.cyc_base.specs.declared.sig.Sig.{Sig}
use Rattle.cyc_base.specs.contracts.sig.SigPartialEq.TheImpl.{eq-value}
use Rattle.miters.proofs.standing.is_gate.Goals as goal

signals_decide : (a b : Sig) → Decides (eq-value.it a b) (a ≡ b)
signals_decide a b = grind arith

pub returns : goal.returns
returns c same = record {
  above = grind arith;
  below = grind arith;
  cover_is = grind arith;
  pins_are = grind (arith, slice_eq-Decides, signals_decide);
}
