use Rattle.std.proofs.lemmas.Result.{on_ok_weaker}
use Rattle.flatten.proofs.Common.{lines_of}
use Rattle.flatten.proofs.Placing.{linked_undriven, linked_clock, linked_parts}
use Rattle.flatten.proofs.Results.{handed_on, fault_of}
use Rattle.flatten.proofs.link.fill_parts.Goals as goal

pub returns-in_err-fill_lines-clause-fault : goal.returns-in_err-fill_lines-clause-fault
returns-in_err-fill_lines-clause-fault c =
    handed_on _ c.from_residual-in_err-fill_lines.result _ c.from_residual-in_err-fill_lines.ensures.1 c.in_err-fill_lines.ensures.fault
    (linked_undriven c.args.top.now (lines_of c.args.lines.now) c.args.drivers.now c.requires.drivers c.requires.once c.in_err-fill_lines.field-0.0)

pub returns-clause-fault : goal.returns-clause-fault
returns-clause-fault c =
    fault_of _ _ c.check_clocks.result
    (λ fault h. linked_clock c.args.top.now (lines_of c.args.lines.now) c.args.drivers.now c.requires.drivers c.requires.once c.fill_lines.new.clock c.in_ok-fill_lines.ensures.read fault
    (rw (c.deref-2.ensures.value, c.in_ok-fill_lines.ensures.latches) at h))
    c.check_clocks.ensures.fault

pub returns-clause-parts : goal.returns-clause-parts
returns-clause-parts c =
    on_ok_weaker c.check_clocks.result
    (λ fits. linked_parts c.args.top.now (lines_of c.args.lines.now) c.args.drivers.now c.requires.drivers c.requires.once c.fill_lines.new.clock c.in_ok-fill_lines.ensures.read c.fill_lines.new.parts c.in_ok-fill_lines.ensures.parts
    (rw (c.deref-2.ensures.value, c.in_ok-fill_lines.ensures.latches) at fits))
    c.check_clocks.ensures.fits
