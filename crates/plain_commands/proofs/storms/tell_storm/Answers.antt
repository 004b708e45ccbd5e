use Rattle.commands.specs.Seen.{rounds_seen}
use Rattle.plain_commands.proofs.Common.{outcome_of}
use Rattle.plain_commands.proofs.StormLemmas.{leaves_unknown, wire_stormed}
use Rattle.plain_commands.proofs.storms.tell_storm.Goals as goal

pub returns-in_ok-tell_vector-in-Undetermined : goal.returns-in_ok-tell_vector-in-Undetermined
returns-in_ok-tell_vector-in-Undetermined c =
    wire_stormed c.args.net.now (rounds_seen c.args.rounds) c.in-Undetermined.vector c.items.result.now c.in-Undetermined.wire c.args.refusal.now
    (outcome_of c.in_ok-tell_vector-in-Undetermined.field-0) c.in-Undetermined.is c.items.ensures c.in_ok-tell_vector-in-Undetermined.ensures

pub tell_vector-requires-clause-unknown : goal.tell_vector-requires-clause-unknown
tell_vector-requires-clause-unknown c =
    leaves_unknown c.args.net.now c.in-Undetermined.vector c.items.result.now c.in-Undetermined.wire c.args.refusal.now c.in-Undetermined.is c.items.ensures
    c.requires.fits c.requires.shown
