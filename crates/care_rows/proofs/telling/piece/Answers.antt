use Rattle.std.proofs.Common.{◌*◌, arith}
use Rattle.care_rows.specs.declared.telling.TheConstants.{PIECE}
use Rattle.care_rows.proofs.TellerLemmas.{piece_is}
use Rattle.care_rows.proofs.telling.piece.Goals as goal

pub returns-clause-piece : goal.returns-clause-piece
returns-clause-piece c =
    let r = c.requires in
    piece_is c.args.wires.now (PIECE * c.args.place) c.min-end.result (omega (arith, r)) c.min-end.ensures
