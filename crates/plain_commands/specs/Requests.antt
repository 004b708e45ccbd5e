-- What a call asks for: its words, and what the probes that are handed in make of changes. Here P is the type of a probe.
use Rattle.std.specs.Prelude.{ℕ, List}
use Rattle.netlist.specs.declared.parts.Parts.{Parts}
use Rattle.delay_core.specs.declared.change.Change.{Change}
use Rattle.commands.specs.declared.kind.Kind.{Kind}
use Rattle.probes.specs.Showing.{texts_of}

-- what the probes of a kind show of changes of a netlist
abbrev pub Shows : Type 0
Shows = Kind → Parts → List Change → List ℕ

-- what these probes show: the text of each one of that kind, in their order
abbrev pub shown_by : {P : Type 0} → (P → Kind) → (P → List Change → Parts → List ℕ) → List P → Shows
shown_by kind text probes = λ wanted net changes. texts_of kind text wanted net changes probes

pub record Request : Type 0 where
  pub words : List (List ℕ)
  pub shows : Shows

abbrev pub request : {P : Type 0} → (P → Kind) → (P → List Change → Parts → List ℕ) → List (List ℕ) → List P → Request
request kind text words probes = record { words = words; shows = shown_by kind text probes }
