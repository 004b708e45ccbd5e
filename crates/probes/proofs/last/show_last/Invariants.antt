use Rattle.std.proofs.Common.{◌≡◌}
use Rattle.std.specs.List.{flat_map, range_with_len}
use Rattle.probes.specs.Texts.{last_line, last_round}
use Rattle.probes.proofs.last.show_last.Given as goal

abbrev pub invariant-loop-i : goal.invariant-loop-i
invariant-loop-i l =
    l.text.items ≡ flat_map (λ tick. last_line tick (last_round l.net l.changes tick)) (range_with_len 1 l.i)
