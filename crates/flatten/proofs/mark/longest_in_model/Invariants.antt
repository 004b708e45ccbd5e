use Rattle.std.proofs.Common.{◌≡◌, ◌++◌, take}
use Rattle.flatten.proofs.Common.{flat_map, longest_run_of, item_names}
use Rattle.flatten.proofs.mark.longest_in_model.Given as goal

abbrev pub invariant-loop-item : goal.invariant-loop-item
invariant-loop-item l =
    l.longest ≡ longest_run_of (l.model.inputs ++ (l.model.outputs ++ (l.model.clocks ++ flat_map item_names (take l.item-index l.item-items))))
