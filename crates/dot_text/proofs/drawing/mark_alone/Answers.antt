use Rattle.dot_text.proofs.MarkLemmas.{marks_of}
use Rattle.dot_text.proofs.drawing.mark_alone.Goals as goal

pub returns : goal.returns
returns c = marks_of c.args.net.now c.args.gates.now c.args.marks.now c.mark_all.new.marks c.requires.width c.requires.none c.mark_all.ensures
