use Rattle.std.proofs.Common.{◌<◌, List, length, refl, subst, sym, arith}
use Rattle.miters.proofs.Common.{IsDistinct, Sig, sig_eq}
use Rattle.miters.proofs.LoopLemmas.{outputs_more}
use Rattle.miters.proofs.matching.output_set.Goals as goal

pub loop-output-preserved : goal.loop-output-preserved
loop-output-preserved c =
    let own = c.outputs-own.result.now in
    let valid = c.outputs-own.ensures.valid in
    let inside : c.loop-output.output-index < length own = omega arith in
    outputs_more own c.loop-output.output-index _ _ c.loop-output.outputs.keys c.insert.new.self.keys (subst (λ (xs : List Sig). IsDistinct sig_eq xs) (sym c.outputs-own.ensures.outputs) valid.outputs_differ) inside refl
    c.loop-output.invariant c.in_ok-insert.ensures.keys
