use Rattle.std.proofs.Common.{◌≡◌, take}
use Rattle.std.specs.List.{flat_map}
use Rattle.probes.specs.Texts.{change_text}
use Rattle.probes.proofs.trace.show_trace.Given as goal

abbrev pub invariant-loop-change : goal.invariant-loop-change
invariant-loop-change l = l.text.items ≡ flat_map (change_text l.net) (take l.change-index l.changes)
