use Rattle.std.proofs.Common.{◌<◌, length, refl, sym, ◌∙◌, arith}
use Rattle.miters.proofs.LoopLemmas.{output_next, output_here}
use Rattle.miters.proofs.matching.first_output_missing.Goals as goal

pub loop-output-preserved : goal.loop-output-preserved
loop-output-preserved c =
    let own = c.outputs-own.result.now in
    let inside : c.loop-output.output-index < length own = omega arith in
    output_next c.args.net.now c.args.other.now own c.outputs-own.ensures.outputs c.loop-output.output-index _ _ c.name_of-name.result.now inside refl c.name_of-name.ensures.name c.loop-output.invariant
    (sym c.is_output.ensures ∙ c.if-not-is_output.false)

pub returns-then-not-is_output : goal.returns-then-not-is_output
returns-then-not-is_output c =
    let own = c.outputs-own.result.now in
    let inside : c.loop-output.output-index < length own = omega arith in
    output_here c.args.net.now c.args.other.now own c.outputs-own.ensures.outputs c.loop-output.output-index _ _ c.name_of-name.result.now inside refl c.name_of-name.ensures.name c.loop-output.invariant
    (sym c.is_output.ensures ∙ c.if-not-is_output.true)
