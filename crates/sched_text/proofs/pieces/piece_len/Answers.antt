use Rattle.std.proofs.Common.{◌≡◌, drop, Some, sym, ap, ◌∙◌}
use Rattle.std.specs.Prelude.{position}
use Rattle.sched_text.specs.declared.pieces.TheConstants.{LEAST_PIECE}
use Rattle.sched_text.proofs.Common.{is_lf}
use Rattle.sched_text.proofs.PieceLemmas.{cut_at}
use Rattle.sched_text.proofs.pieces.piece_len.Goals as goal

pub returns-in-Some-clause-cut : goal.returns-in-Some-clause-cut
returns-in-Some-clause-cut c =
    let found : position is_lf (drop LEAST_PIECE c.args.text.now) ≡ Some c.in-Some.at =
    ap (position is_lf) (sym c.split_at.ensures.back) ∙ sym c.first_break.ensures.first ∙ c.in-Some.is in
    cut_at c.args.text.now LEAST_PIECE c.in-Some.at found
