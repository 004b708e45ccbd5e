use Rattle.std.proofs.Common.{◌≡◌, Decides, arith}
use Rattle.std.proofs.lemmas.Slice.Eq.{slice_eq-Decides}
use Rattle.cover_logic.specs.declared.row.Lit.{Lit}
use Rattle.cover_logic.specs.contracts.row.LitPartialEq.TheImpl.{eq-value}
use Rattle.cover_logic.proofs.row.Row.is_same.Goals as goal

literals_decide : (a b : Lit) → Decides (eq-value.it a b) (a ≡ b)
literals_decide a b = grind arith

pub returns : goal.returns
returns c = grind (arith, slice_eq-Decides, literals_decide)
