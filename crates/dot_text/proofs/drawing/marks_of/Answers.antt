use Rattle.std.proofs.Common.{◌≡◌, Bool, List, length, sym, subst, arith}
use Rattle.std.proofs.lemmas.List.{take_at}
use Rattle.dot_text.specs.Marks.{AreMarksOf}
use Rattle.dot_text.proofs.drawing.marks_of.Goals as goal

pub returns : goal.returns
returns c =
    let marks = c.mark_alone.new.marks in
    let size : length marks ≡ c.in_ok-marks.marks.len = grind (arith, c.mark_alone.ensures.width) in
    subst (λ (list : List Bool). AreMarksOf c.args.net.now c.args.gates.now list) (sym (take_at marks _ c.in_ok-marks.marks.len size)) c.mark_alone.ensures
