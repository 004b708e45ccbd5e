-- The text of each kind of probe, and probes that show them all. Here P is the type of a probe.
use Rattle.std.specs.Prelude.{◌≡◌, ℕ, List, []}
use Rattle.netlist.specs.declared.parts.Parts.{Parts}
use Rattle.delay_core.specs.declared.change.Change.{Change}
use Rattle.probes.specs.Showing.{texts_of}
use Rattle.probes.specs.Texts.{trace_text, glitches_text, last_text}
use Rattle.commands.specs.declared.kind.Kind.{Kind}
use Rattle.commands.specs.declared.kind.Kind.TheVariants.{Trace, Glitches, Last, Vcd}
use Rattle.probes.specs.Dumps.{vcd_text}

-- what is shown of changes
abbrev pub kind_text : Kind → List Change → Parts → List ℕ
kind_text Trace = trace_text
kind_text Glitches = glitches_text
kind_text Last = last_text
kind_text Vcd = vcd_text

-- these are the kind, the changes heard and the text of a probe of the wanted kind that has heard nothing
pub record IsNewOfKind (kind : Kind) (heard : List Change) (text : List Change → Parts → List ℕ) (wanted : Kind) : Type 0 where
  pub is : kind ≡ wanted
  pub shows : text ≡ kind_text wanted
  pub silent : heard ≡ []

-- Whichever kind is wanted, these probes show its text.
abbrev pub ShowEachKind : {P : Type 0} → (P → Kind) → (P → List Change → Parts → List ℕ) → List P → Type 0
ShowEachKind kind text probes =
    (wanted : Kind) (net : Parts) (changes : List Change) → texts_of kind text wanted net changes probes ≡ kind_text wanted changes net
