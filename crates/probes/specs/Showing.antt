-- What the probes of a kind show. Here P is the type of a probe.
use Rattle.std.specs.Prelude.{ℕ, Bool, true, false, if◌then◌else◌, List, []}
use Rattle.std.specs.List.{flat_map}
use Rattle.netlist.specs.declared.parts.Parts.{Parts}
use Rattle.delay_core.specs.declared.change.Change.{Change}
use Rattle.commands.specs.declared.kind.Kind.{Kind}
use Rattle.commands.specs.declared.kind.Kind.TheVariants.{Trace, Glitches, Last, Vcd}

-- two kinds are one
abbrev pub same_kind : Kind → Kind → Bool
same_kind Trace Trace = true
same_kind Glitches Glitches = true
same_kind Last Last = true
same_kind Vcd Vcd = true
same_kind kind other = false

-- a probe's text of these changes, where it is of the wanted kind
abbrev pub text_of_kind : {P : Type 0} → (P → Kind) → (P → List Change → Parts → List ℕ) → Kind → Parts → List Change → P → List ℕ
text_of_kind kind text wanted net changes probe = if same_kind (kind probe) wanted then text probe changes net else []

-- what probes show of what each heard, one after another
abbrev pub shown_texts : {P : Type 0} → (P → Kind) → (P → List Change) → (P → List Change → Parts → List ℕ) → Kind → Parts → List P → List ℕ
shown_texts kind heard text wanted net = flat_map (λ probe. text_of_kind kind text wanted net (heard probe) probe)

-- the texts that they make of the same changes
abbrev pub texts_of : {P : Type 0} → (P → Kind) → (P → List Change → Parts → List ℕ) → Kind → Parts → List Change → List P → List ℕ
texts_of kind text wanted net changes = flat_map (text_of_kind kind text wanted net changes)
