use Rattle.std.proofs.Common.{◌≡◌, drop}
use Rattle.std.specs.List.{filter_map}
use Rattle.netlist.specs.Netlists.{signal}
use Rattle.delay_core.proofs.Common.{count, range_with_len}
use Rattle.delay_core.specs.Plays.{opening_change}
use Rattle.delay_core.specs.Changes.{openings, logged}
use Rattle.delay_core.proofs.whole.log_opening.Given as goal

abbrev pub invariant-loop-number : goal.invariant-loop-number
invariant-loop-number l =
    logged l.fn.log (openings l.play.state)
    ≡ logged l.log (filter_map (λ n. opening_change l.play.state (signal n)) (drop l.number (range_with_len 0 (count l.play.state.net))))
