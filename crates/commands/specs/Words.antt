-- What the words of a call ask for.
use Rattle.std.specs.Prelude.{ℕ, List, [], ◌∷◌, ◌&&◌, ◌==◌, not, length, map, Some, None, is_none, nat_eq, nat_le, codes, if◌then◌else◌, Bool, true, false, option_map}
use Rattle.std.specs.Char.{is_ascii_digit}
use Rattle.std.specs.List.{list_all, starts_with}
use Rattle.std.specs.Option.{option_and_then}
use Rattle.std.specs.Str.{bytes_eq}
use Rattle.std.specs.Str.Parse.{digits_value_after}
use Rattle.std.specs.declared.option.Option.{Option}
use Rattle.commands.specs.declared.cases.TheConstants.{MAX_CASES}
use Rattle.commands.specs.declared.command.TheConstants.{MAX_ROUNDS}
use Rattle.cyc_base.specs.declared.limits.TheConstants.{MIN_NODES, MAX_NODES, MIN_RING_CELLS, MAX_RING_CELLS}
use Rattle.refusals.specs.declared.observe.Observe.{Observe}
use Rattle.refusals.specs.declared.observe.Observe.TheVariants as observe
use Rattle.commands.specs.declared.kind.Kind.{Kind}
use Rattle.commands.specs.declared.kind.Kind.TheVariants as kind
use Rattle.commands.specs.declared.encoding.Encoding.{Encoding}
use Rattle.commands.specs.declared.encoding.Encoding.TheVariants as encoding
use Rattle.commands.specs.declared.form.Form.{Form}
use Rattle.commands.specs.declared.form.Form.TheVariants as form
use Rattle.commands.specs.declared.topic.Topic.{Topic}
use Rattle.commands.specs.declared.topic.Topic.TheVariants as topic

-- the options of a decision: a care file, the greatest number of nodes, and the wires that a user looks at
pub record Options : Type 0 where
  pub care : Option (List ℕ)
  pub nodes : Option ℕ
  pub observe : Option Observe

abbrev pub no_options : Options
no_options = record { care = None; nodes = None; observe = None }

-- what a netlist is decided for
pub data Purpose : Type 0 where
  -- to tell the verdict
  Judges : Purpose
  -- to write it without loops, split into so many cases, where these are more than one
  Rewrites : Option ℕ → Purpose
  -- to write the and-inverter graph of that
  WritesGraph : Encoding → Option ℕ → Purpose
  -- to show why a refused wire is undetermined, as lines or as a graph
  Explains : Form → Purpose
  -- to tell that the ring arbiter of so many cells is accepted
  Demonstrates : ℕ → Purpose
  -- to write a schedule of so many rounds on which a refused wire never rests
  Storms : ℕ → Purpose

-- a command with its words
pub data Command : Type 0 where
  -- decides the netlist of a file, for a purpose
  Decide : List ℕ → Options → Purpose → Command
  -- writes the weakest care models under which the netlist of a file is accepted
  Assume : List ℕ → Options → Command
  -- compares the netlist of a file with that of a second one
  Equal : List ℕ → List ℕ → Options → Command
  -- writes its flat netlist
  Flat : List ℕ → Command
  -- prints its loops and their cut wires
  Loops : List ℕ → Form → Command
  -- simulates it on the vectors of a file
  Sim : List ℕ → List ℕ → Command
  -- plays it on the vectors of a file by the schedule of another, and shows its changes as probes of this kind do
  Delays : List ℕ → List ℕ → List ℕ → Option Kind → Command
  -- decides the ring arbiter of so many cells
  Demo : ℕ → Command
  -- tells what each command does
  Help : Command
  -- tells what this one does
  HelpOn : Topic → Command
  -- tells which program this is, and what it is proved with
  Version : Command

-- a word that may name a file
abbrev pub is_file_word : List ℕ → Bool
is_file_word word = not (bytes_eq word []) && not (starts_with nat_eq word (codes "--"))

-- standard input, as a file
abbrev pub standard_input : List ℕ
standard_input = codes "/dev/stdin"

-- the file that a word names, where a dash is standard input
abbrev pub file_of : List ℕ → List ℕ
file_of word = if bytes_eq word (codes "-") then standard_input else word

-- the number whose digits are those of n and then these, where they are digits and it isn't over `most`
abbrev pub up_to : ℕ → ℕ → List ℕ → Option ℕ
up_to most n digits =
    if list_all is_ascii_digit digits && nat_le (digits_value_after 10 n digits) most then Some (digits_value_after 10 n digits) else None

-- a decimal number without leading zeros, from `least` to `most`
abbrev pub number_between : ℕ → ℕ → List ℕ → Option ℕ
number_between least most word =
    if starts_with nat_eq word (codes "0") then None else option_and_then (λ n. if nat_le least n then Some n else None) (up_to most 0 word)

abbrev pub observe_of : List ℕ → Option Observe
observe_of word =
    if bytes_eq word (codes "all") then Some observe.All
    else if bytes_eq word (codes "outputs") then Some observe.Outputs
    else None

-- each option comes once at most
abbrev pub with_care : List ℕ → Options → Option Options
with_care value known =
    if is_file_word value && is_none known.care
    then Some (record { care = Some value; nodes = known.nodes; observe = known.observe }) else None

abbrev pub with_nodes : List ℕ → Options → Option Options
with_nodes value known =
    if is_none known.nodes
    then option_map (λ n. record { care = known.care; nodes = Some n; observe = known.observe }) (number_between MIN_NODES MAX_NODES value)
    else None

abbrev pub with_observe : List ℕ → Options → Option Options
with_observe value known =
    if is_none known.observe
    then option_map (λ what. record { care = known.care; nodes = known.nodes; observe = Some what }) (observe_of value)
    else None

-- an option with its value, beside those that are known
abbrev pub with_option : List ℕ → List ℕ → Options → Option Options
with_option word value known =
    if bytes_eq word (codes "--care") then with_care value known
    else if bytes_eq word (codes "--nodes") then with_nodes value known
    else if bytes_eq word (codes "--observe") then with_observe value known
    else None

-- the options that these words give beside those that are known
abbrev pub options_of : Options → List (List ℕ) → Option Options
options_of known [] = Some known
options_of known (word ∷ []) = None
options_of known (word ∷ value ∷ rest) = option_and_then (λ more. options_of more rest) (with_option word value known)

-- a decision may have options
abbrev pub decide_on : Purpose → List ℕ → List (List ℕ) → Option Command
decide_on purpose file rest = option_map (λ options. Decide file options purpose) (options_of no_options rest)

-- what stands behind the file of a command that makes something: options of the decision, the command's own flag, which has
-- no value, and a number of cases
pub record Wishes : Type 0 where
  pub options : Options
  pub flag : Bool
  pub cases : Option ℕ

abbrev pub no_wishes : Wishes
no_wishes = record { options = no_options; flag = false; cases = None }

-- each comes once at most
abbrev pub with_flag : Wishes → Option Wishes
with_flag known = if known.flag then None else Some (record { options = known.options; flag = true; cases = known.cases })

abbrev pub with_cases : List ℕ → Wishes → Option Wishes
with_cases value known =
    if is_none known.cases
    then option_map (λ n. record { options = known.options; flag = known.flag; cases = Some n }) (number_between 1 MAX_CASES value)
    else None

-- a number of cases, or an option with its value
abbrev pub with_wish : List ℕ → List ℕ → Wishes → Option Wishes
with_wish word value known =
    if bytes_eq word (codes "--cases") then with_cases value known
    else option_map (λ options. record { options = options; flag = known.flag; cases = known.cases }) (with_option word value known.options)

-- what these words say beside what is known
abbrev pub wishes_of : List ℕ → Wishes → List (List ℕ) → Option Wishes
wishes_of flag known [] = Some known
wishes_of flag known (word ∷ []) = if bytes_eq word flag then with_flag known else None
wishes_of flag known (word ∷ value ∷ rest) =
    if bytes_eq word flag then option_and_then (λ more. wishes_of flag more (value ∷ rest)) (with_flag known)
    else option_and_then (λ more. wishes_of flag more rest) (with_wish word value known)

-- one case is the netlist as it is
abbrev pub split_of : Option ℕ → Option ℕ
split_of None = None
split_of (Some n) = if nat_le n 1 then None else Some n

-- a netlist is written in one form alone
abbrev pub rewrite_by : List ℕ → Wishes → Option Command
rewrite_by file wishes = if wishes.flag then None else Some (Decide file wishes.options (Rewrites (split_of wishes.cases)))

abbrev pub rewrite_on : List ℕ → List (List ℕ) → Option Command
rewrite_on file rest = option_and_then (rewrite_by file) (wishes_of (codes "--binary") no_wishes rest)

-- a graph is written in the ASCII form, or in the binary one where `--binary` stands among its options
abbrev pub encoding_of : Bool → Encoding
encoding_of true = encoding.Binary
encoding_of false = encoding.Ascii

abbrev pub aiger_on : List ℕ → List (List ℕ) → Option Command
aiger_on file rest =
    option_map (λ wishes. Decide file wishes.options (WritesGraph (encoding_of wishes.flag) (split_of wishes.cases))) (wishes_of (codes "--binary") no_wishes rest)

-- an explanation is told as lines, or as a graph where `--dot` stands among its options. It has no cases
abbrev pub form_of : Bool → Form
form_of true = form.Dot
form_of false = form.Lines

abbrev pub explain_by : List ℕ → Wishes → Option Command
explain_by file wishes = if is_none wishes.cases then Some (Decide file wishes.options (Explains (form_of wishes.flag))) else None

abbrev pub explain_on : List ℕ → List (List ℕ) → Option Command
explain_on file rest = option_and_then (explain_by file) (wishes_of (codes "--dot") no_wishes rest)

-- an assumption is looked for with the options of a decision
abbrev pub assume_on : List ℕ → List (List ℕ) → Option Command
assume_on file rest = option_map (Assume file) (options_of no_options rest)

-- loops are told as lines, or as a graph
abbrev pub loops_on : List ℕ → List (List ℕ) → Option Command
loops_on file [] = Some (Loops file form.Lines)
loops_on file (word ∷ []) = if bytes_eq word (codes "--dot") then Some (Loops file form.Dot) else None
loops_on file other = None

-- a comparison wants one more file, and may have options. It observes all wires
abbrev pub unobserved : Options → Option Options
unobserved options = if is_none options.observe then Some options else None

abbrev pub equal_with : List ℕ → List ℕ → List (List ℕ) → Option Command
equal_with file second rest = option_map (Equal file second) (option_and_then unobserved (options_of no_options rest))

abbrev pub equal_on : List ℕ → List (List ℕ) → Option Command
equal_on file [] = None
equal_on file (second ∷ rest) = if is_file_word second then equal_with file second rest else None

-- a simulation wants one more file
abbrev pub sim_on : List ℕ → List (List ℕ) → Option Command
sim_on file (vectors ∷ []) = if is_file_word vectors then Some (Sim file vectors) else None
sim_on file other = None

abbrev pub kind_of : List ℕ → Option Kind
kind_of word =
    if bytes_eq word (codes "trace") then Some kind.Trace
    else if bytes_eq word (codes "glitches") then Some kind.Glitches
    else if bytes_eq word (codes "last") then Some kind.Last
    else if bytes_eq word (codes "vcd") then Some kind.Vcd
    else None

-- the kind of the probe that these words ask for, if they ask for one
abbrev pub probe_of : List (List ℕ) → Option (Option Kind)
probe_of [] = Some None
probe_of (option ∷ word ∷ []) = if bytes_eq option (codes "--probe") then option_map Some (kind_of word) else None
probe_of other = None

-- a play wants two more, and may have a probe
abbrev pub delays_on : List ℕ → List (List ℕ) → Option Command
delays_on file (vectors ∷ schedule ∷ rest) =
    if is_file_word vectors && is_file_word schedule then option_map (Delays file vectors schedule) (probe_of rest) else None
delays_on file other = None

-- a demonstration wants a number of cells alone
abbrev pub cells : List ℕ → Option ℕ
cells word = number_between MIN_RING_CELLS MAX_RING_CELLS word

abbrev pub demo_on : List ℕ → List (List ℕ) → Option Command
demo_on word [] = option_map Demo (cells word)
demo_on word other = None

-- a storm wants a number of rounds, and may have options
abbrev pub rounds : List ℕ → Option ℕ
rounds word = number_between 1 MAX_ROUNDS word

abbrev pub storm_on : List ℕ → List (List ℕ) → Option Command
storm_on file [] = None
storm_on file (word ∷ rest) = option_and_then (λ number. decide_on (Storms number) file rest) (rounds word)

-- what each command's name tells of
abbrev pub topic_of : List ℕ → Option Topic
topic_of word =
    if bytes_eq word (codes "check") then Some topic.Check
    else if bytes_eq word (codes "rewrite") then Some topic.Rewrite
    else if bytes_eq word (codes "aiger") then Some topic.Aiger
    else if bytes_eq word (codes "explain") then Some topic.Explain
    else if bytes_eq word (codes "assume") then Some topic.Assume
    else if bytes_eq word (codes "equal") then Some topic.Equal
    else if bytes_eq word (codes "flat") then Some topic.Flat
    else if bytes_eq word (codes "loops") then Some topic.Loops
    else if bytes_eq word (codes "sim") then Some topic.Sim
    else if bytes_eq word (codes "delays") then Some topic.Delays
    else if bytes_eq word (codes "demo") then Some topic.Demo
    else if bytes_eq word (codes "storm") then Some topic.Storm
    else None

-- help wants the name of a command alone
abbrev pub help_on : List ℕ → List (List ℕ) → Option Command
help_on word [] = option_map HelpOn (topic_of word)
help_on word other = None

-- the command of this name on a word, with the words behind it
abbrev pub command_on : List ℕ → List ℕ → List (List ℕ) → Option Command
command_on command word rest =
    if bytes_eq command (codes "check") then decide_on Judges word rest
    else if bytes_eq command (codes "rewrite") then rewrite_on word rest
    else if bytes_eq command (codes "aiger") then aiger_on word rest
    else if bytes_eq command (codes "explain") then explain_on word rest
    else if bytes_eq command (codes "assume") then assume_on word rest
    else if bytes_eq command (codes "equal") then equal_on word rest
    else if bytes_eq command (codes "flat") && length rest == 0 then Some (Flat word)
    else if bytes_eq command (codes "loops") then loops_on word rest
    else if bytes_eq command (codes "sim") then sim_on word rest
    else if bytes_eq command (codes "delays") then delays_on word rest
    else if bytes_eq command (codes "demo") then demo_on word rest
    else if bytes_eq command (codes "storm") then storm_on word rest
    else if bytes_eq command (codes "help") then help_on word rest
    else None

-- a command without files
abbrev pub command_alone : List ℕ → Option Command
command_alone word =
    if bytes_eq word (codes "--help") then Some Help
    else if bytes_eq word (codes "--version") then Some Version
    else None

-- the command of words in which each file has its name, or nothing for words outside the grammar
abbrev pub command_in : List (List ℕ) → Option Command
command_in (word ∷ []) = command_alone word
command_in (command ∷ word ∷ rest) = if is_file_word word then command_on command word rest else None
command_in [] = None

-- and of the words of a call
abbrev pub command_of : List (List ℕ) → Option Command
command_of words = command_in (map file_of words)
