use Rattle.std.proofs.Common.{◌≡◌, ◌≤◌, ◌+◌, length, sym, subst, ap, ◌∙◌, arith}
use Rattle.std.proofs.lemmas.Result.{IfOk-weaker}
use Rattle.cyc_base.specs.declared.limits.TheConstants.{MAX_FLAT_ITEMS}
use Rattle.flatten.proofs.Common.{lines_of, linked}
use Rattle.flatten.specs.Alone.{own_lines, flat_alone}
use Rattle.flatten.specs.Printable.{ArePrintedLines}
use Rattle.flatten.proofs.OwnLines.{few_own_lines, own_lines_printed, alone_fits}
use Rattle.flatten.proofs.Valid.{linked_valid}
use Rattle.flatten.proofs.Results.{fault_of}
use Rattle.flatten.proofs.alone.parts_alone.Goals as goal
use Rattle.flatten.proofs.alone.parts_alone.Goals.{In_ok-lines}

-- the lines that are handed over are those of the body, and link as the model does
same : (c : In_ok-lines) → lines_of c.in_ok-lines.lines ≡ own_lines c.args.model.body
same c = c.in_ok-lines.ensures ∙ ap own_lines (c.into_vec.ensures ∙ c.replace-body.ensures.value)

linked_alone : (c : In_ok-lines) → flat_alone c.args.limit c.args.model ≡ linked c.args.model (lines_of c.in_ok-lines.lines)
linked_alone c = alone_fits c.args.limit c.args.model (omega (arith, c.if-items-limit.false, ap length c.items.ensures)) ∙ ap (linked c.args.model) (sym (same c))

few : (c : In_ok-lines) → length c.in_ok-lines.lines.latches.items + length c.in_ok-lines.lines.gates.items ≤ MAX_FLAT_ITEMS
few c = grind (arith, same c, few_own_lines c.args.model.body)

pub link-requires-clause-lines : goal.link-requires-clause-lines
link-requires-clause-lines c = few (goal.at.link-requires-clause-lines c).In_ok-lines

pub returns-clause-fault : goal.returns-clause-fault
returns-clause-fault c =
    fault_of _ _ c.link.result (λ fault h. linked_alone (goal.at.returns-clause-fault c).In_ok-lines ∙ h) c.link.ensures.fault

pub returns-clause-parts : goal.returns-clause-parts
returns-clause-parts c = IfOk-weaker c.link.result _ _ (λ parts is. linked_alone (goal.at.returns-clause-parts c).In_ok-lines ∙ is) c.link.ensures.parts

pub returns-clause-valid : goal.returns-clause-valid
returns-clause-valid c =
    let here = (goal.at.returns-clause-valid c).In_ok-lines in
    let printed = subst ArePrintedLines (sym (same here)) (own_lines_printed c.args.model.body c.requires.sound.body) in
    IfOk-weaker c.link.result _ _ (λ parts is. linked_valid c.args.model (lines_of c.in_ok-lines.lines) parts c.requires.sound printed (few here) is) c.link.ensures.parts
