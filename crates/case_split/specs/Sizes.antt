-- How large a netlist can become that is split by cases.
use Rattle.std.specs.Prelude.{◌≡◌, ◌+◌, ◌*◌, ◌<◌, ◌≤◌, ℕ, Bool, List, length, filter}
use Rattle.std.specs.List.{range_with_len}
use Rattle.cyc_base.specs.declared.limits.TheConstants.{MAX_REWRITTEN_ITEMS}
use Rattle.netlist.specs.Netlists.{is_marked}
use Rattle.netlist.specs.declared.parts.Parts.{Parts}
use Rattle.case_split.specs.declared.fault.SplitFault.{SplitFault}
use Rattle.case_split.specs.declared.fault.SplitFault.TheVariants.{TooLarge, Memory}

-- the gates that are copied, by a mark for each gate
abbrev pub copied_gates : Parts → List Bool → List ℕ
copied_gates net marks = filter (is_marked marks) (range_with_len 0 (length net.gates))

-- gates and latches, and for each case two gates for each gate that is copied: its copy, and what selects among copies
abbrev pub most_items : Parts → List Bool → ℕ → ℕ
most_items net marks cases = length net.gates + length net.latches + 2 * (cases * length (copied_gates net marks))

-- there may be over 4,000,000, or there aren't and memory ran out
abbrev pub IsSplitFault : ℕ → SplitFault → Type 0
IsSplitFault size (TooLarge answered) = (MAX_REWRITTEN_ITEMS < size) × (answered ≡ size)
IsSplitFault size Memory = size ≤ MAX_REWRITTEN_ITEMS
