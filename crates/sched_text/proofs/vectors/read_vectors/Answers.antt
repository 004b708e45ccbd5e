use Rattle.sched_text.proofs.VectorLemmas.{have_width, are_known}
use Rattle.sched_text.proofs.vectors.read_vectors.Goals as goal

pub returns-clause-width : goal.returns-clause-width
returns-clause-width c = have_width c.args.width c.args.unknowns c.in_ok-lines.lines c.in_ok-read_lines.field-0.items c.in_ok-read_lines.ensures

pub returns-clause-known : goal.returns-clause-known
returns-clause-known c = λ boolean. are_known c.args.width c.args.unknowns c.in_ok-lines.lines c.in_ok-read_lines.field-0.items boolean c.in_ok-read_lines.ensures
