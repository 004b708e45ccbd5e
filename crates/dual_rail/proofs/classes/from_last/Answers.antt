use Rattle.std.proofs.Common.{sym, subst, ◌∙◌, ◌≡◌, ◌+◌, ◌-◌, arith, [], get_or}
use Rattle.dual_rail.proofs.Common.{length_push}
use Rattle.std.proofs.lemmas.List.{get_or_read}
use Rattle.dual_rail.specs.Classes.{AreClasses}
use Rattle.dual_rail.proofs.ClassLemmas.{AreClassesBack-end, AreClassesBack-more}
use Rattle.dual_rail.proofs.classes.from_last.Goals as goal

pub loop-back-init : goal.loop-back-init
loop-back-init c = grind (arith, AreClassesBack-end c.args.rows.now c.args.pins c.of.result c.requires.width)

pub classes_before-requires-clause-rests : goal.classes_before-requires-clause-rests
classes_before-requires-clause-rests c =
    let here = c.loop-back.invariant.classes c.loop-back.back (omega (arith, c.loop-back.invariant.long)) in
    let next : c.args.pins - c.loop-back.back ≡ c.args.pins - 1 - c.loop-back.back + 1 = omega (arith, c.loop-back-test.true) in
    let read = get_or_read c.loop-back.classes.items c.loop-back.back c.index.result.now (omega (arith, c.loop-back.invariant.long)) c.index.ensures [] in
    subst (AreClasses c.args.rows.now (c.args.pins - 1 - c.loop-back.back + 1)) (sym (c.items.ensures ∙ read)) (subst (λ p. AreClasses c.args.rows.now p (get_or c.loop-back.classes.items c.loop-back.back [])) next here)

pub loop-back-preserved : goal.loop-back-preserved
loop-back-preserved c =
    grind (arith, length_push c.loop-back.classes.items c.of-in-loop-back.result, AreClassesBack-more c.args.rows.now c.args.pins c.loop-back.classes.items c.of-in-loop-back.result c.loop-back.back c.loop-back.invariant.long c.loop-back.invariant.classes)
