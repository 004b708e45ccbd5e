-- What a line says, where it has no fault.
use Rattle.std.specs.Prelude.{ℕ, List, [], ◌∷◌, ◌==◌, nat_le, map, length, take, drop, codes, bytes_eq, if◌then◌else◌, Some, None}
use Rattle.std.specs.declared.option.Option.{Option}
use Rattle.cover_logic.specs.declared.row.Lit.{Lit}
use Rattle.cover_logic.specs.declared.row.Lit.TheVariants.{Zero, One, Any}
use Rattle.netlist.specs.declared.parts.Clock.{Clock as Control}
use Rattle.netlist.specs.declared.parts.Edge.{Edge}
use Rattle.netlist.specs.declared.parts.Edge.TheVariants.{Rise, Fall}
use Rattle.netlist.specs.declared.parts.Init.{Init}
use Rattle.netlist.specs.declared.parts.Init.TheVariants.{Zero as StartsAtZero, One as StartsAtOne, Either}
use Rattle.blif_text.specs.Texts.{Line}
use Rattle.blif_read.specs.declared.kind.LineKind as kinds
use Rattle.blif_read.specs.declared.kind.LineKind.TheVariants as of
use Rattle.blif_read.specs.declared.models.LatchLine.{LatchLine}
use Rattle.blif_read.specs.declared.models.PartLine.{PartLine}
use Rattle.blif_read.specs.declared.statement.Statement.{Statement}
use Rattle.blif_read.specs.declared.statement.Statement.TheVariants.{Model, Inputs, Outputs, Clocks, Names, Row, Latch, Part, End, Nothing}
use Rattle.blif_read.specs.Kinds.{kind, word_at, arguments, model_name, pin_count, is_on}
use Rattle.blif_read.specs.Faults.{formal_of, actual_of}

-- the names before the last, and the last
abbrev pub pins_of : List (List ℕ) → List (List ℕ)
pins_of names = take (pin_count names) names

abbrev pub output_of : List (List ℕ) → List ℕ
output_of names = word_at names (pin_count names)

abbrev pub lit_of : ℕ → Lit
lit_of b = if b == 48 then Zero else (if b == 49 then One else Any)

-- the literals of a row, which has them where it has two words
abbrev pub lits_of : List (List ℕ) → List Lit
lits_of (lits ∷ plane ∷ rest) = map lit_of lits
lits_of other = []

abbrev pub edge_of : List ℕ → Edge
edge_of word = if bytes_eq word (codes "re") then Rise else Fall

-- `NIL` means that there is none
abbrev pub control_of : Edge → List ℕ → Option Control
control_of edge name = if bytes_eq name (codes "NIL") then None else Some (record { edge = edge; name = name })

-- the init 2 means either value, as 3 does
abbrev pub init_of : List ℕ → Init
init_of word =
    if bytes_eq word (codes "0") then StartsAtZero
    else (if bytes_eq word (codes "1") then StartsAtOne
    else Either)

-- the type and the control are there with 4 and 5 words
abbrev pub latch_control : List (List ℕ) → Option Control
latch_control words = if nat_le 4 (length words) then control_of (edge_of (word_at words 2)) (word_at words 3) else None

-- the init is the third word of 3 and the fifth of 5; the default is 3
abbrev pub latch_init : List (List ℕ) → Init
latch_init words =
    if length words == 3 then init_of (word_at words 2)
    else (if length words == 5 then init_of (word_at words 4)
    else Either)

abbrev pub latch_of : List (List ℕ) → LatchLine
latch_of words = record {
  from = word_at words 0;
  output = word_at words 1;
  control = latch_control words;
  init = latch_init words;
}

abbrev pub pair_of : List ℕ → List ℕ × List ℕ
pair_of word = (formal_of word, actual_of word)

abbrev pub part_of : List (List ℕ) → PartLine
part_of words = record {
  model = word_at words 0;
  pairs = map pair_of (drop 1 words);
}

abbrev pub statement_of_kind : kinds.LineKind → Line → Statement
statement_of_kind of.Model line = Model (model_name line)
statement_of_kind of.Inputs line = Inputs (arguments line)
statement_of_kind of.Outputs line = Outputs (arguments line)
statement_of_kind of.Clock line = Clocks (arguments line)
statement_of_kind of.Names line = Names (pins_of (arguments line)) (output_of (arguments line))
statement_of_kind of.Row line = Row (record { lits = lits_of line.words }) (is_on line)
statement_of_kind of.Latch line = Latch (latch_of (arguments line))
statement_of_kind of.Subckt line = Part (part_of (arguments line))
statement_of_kind of.End line = End
statement_of_kind other line = Nothing

abbrev pub statement : Line → Statement
statement line = statement_of_kind (kind line) line
