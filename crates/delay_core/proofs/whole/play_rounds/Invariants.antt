use Rattle.std.proofs.Common.{◌≡◌, ◌+◌, ◌<◌, drop, length}
use Rattle.delay_core.proofs.Common.{most_rounds, rounds_fault, after_plans}
use Rattle.delay_core.specs.Changes.{round_changes, logged}
use Rattle.delay_core.proofs.whole.play_rounds.Given as goal

abbrev pub invariant-loop-round : goal.invariant-loop-round
invariant-loop-round l =
    record {
      starts : length l.play.state.starts ≡ l.round-index + 1;
      few : length l.rounds < most_rounds;
      fault : rounds_fault l.fn.play.state l.rounds ≡ rounds_fault l.play.state (drop l.round-index l.rounds);
      after : after_plans l.fn.play.state l.rounds ≡ after_plans l.play.state (drop l.round-index l.rounds);
      changed : logged l.fn.log (round_changes l.fn.play.state l.rounds) ≡ logged l.log (round_changes l.play.state (drop l.round-index l.rounds));
    }
