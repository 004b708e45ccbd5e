use Rattle.std.proofs.Common.{◌≡◌, ◌≤◌, ◌+◌, length, subst, Ok, arith}
use Rattle.cyc_base.specs.declared.limits.TheConstants.{MAX_FLAT_ITEMS}
use Rattle.std.proofs.lemmas.Result.{IfOk-weaker}
use Rattle.flatten.proofs.Common.{BlifModel, model_at, lines_of, linked}
use Rattle.flatten.proofs.Printable.{sound_model}
use Rattle.flatten.proofs.Stepping.{few_lines}
use Rattle.flatten.proofs.Valid.{linked_valid}
use Rattle.flatten.proofs.flattening.flat_parts.Goals as goal

pub link-requires-clause-lines : goal.link-requires-clause-lines
link-requires-clause-lines c = grind (arith, few_lines c.args.limit _ (lines_of c.in_ok-lines.lines) c.in_ok-lines.ensures.lines)

pub returns-clause-parts : goal.returns-clause-parts
returns-clause-parts c = grind arith

pub returns-clause-valid : goal.returns-clause-valid
returns-clause-valid c =
    let models = c.args.hierarchy.now.models in
    let lines = lines_of c.in_ok-lines.lines in
    let room = few_lines c.args.limit _ lines c.in_ok-lines.ensures.lines in
    let few : length lines.latches + length lines.gates ≤ MAX_FLAT_ITEMS = omega (arith, room, c.requires.limit) in
    let sound = sound_model models c.args.place c.laws.ensures c.requires.place in
    IfOk-weaker c.link.result _ _ (λ parts is. linked_valid (model_at models c.args.place) lines parts sound c.in_ok-lines.ensures.printed few (subst (λ (top : BlifModel). linked top lines ≡ Ok parts) c.model.ensures is)) c.link.ensures.parts
