use Rattle.std.proofs.Common.{arith}
use Rattle.std.specs.Prelude.{OnOk}
use Rattle.std.specs.declared.result.Result.{Result}
use Rattle.blif_write.proofs.ReadingBack.{reads_back}
use Rattle.blif_write.proofs.text.write.Goals as goal

both_ok : {T E P Q R : Type 0} (r : Result T E) → (P → Q → R) → OnOk r P → OnOk r Q → OnOk r R
both_ok r f p q = grind arith

pub returns-clause-reads_back : goal.returns-clause-reads_back
returns-clause-reads_back g c =
    both_ok c.put_netlist.result (λ valid covers few. reads_back c.args.net.now valid covers few) c.put_netlist.ensures.valid c.put_netlist.ensures.covers
