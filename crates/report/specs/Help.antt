-- What help and the version tell.
use Rattle.std.specs.Prelude.{ℕ, List, [], ◌∷◌, ◌++◌, codes}
use Rattle.std.specs.List.{flat_map}
use Rattle.commands.specs.declared.topic.Topic.{Topic}
use Rattle.commands.specs.declared.topic.Topic.TheVariants.{Check, Rewrite, Aiger, Explain, Assume, Equal, Flat, Loops, Sim, Delays, Demo, Storm}

-- the program's version, and the kit that it is proved with
abbrev pub version_text : List ℕ
version_text = codes "cyc 1.0.0\nproved with rattle-kit-13f logic dac8208d650f15bf\n"

-- the commands, in the order in which help tells of them
unfoldable pub topics : List Topic
topics = Check ∷ Rewrite ∷ Aiger ∷ Explain ∷ Assume ∷ Equal ∷ Flat ∷ Loops ∷ Sim ∷ Delays ∷ Demo ∷ Storm ∷ []

-- a command's name, its files and its options
abbrev pub words_of : Topic → List ℕ
words_of Check = codes "check FILE [--care CARE] [--nodes N] [--observe all|outputs]"
words_of Rewrite = codes "rewrite FILE [--care CARE] [--nodes N] [--observe all|outputs] [--cases N]"
words_of Aiger = codes "aiger FILE [--care CARE] [--nodes N] [--observe all|outputs] [--binary] [--cases N]"
words_of Explain = codes "explain FILE [--care CARE] [--nodes N] [--observe all|outputs] [--dot]"
words_of Assume = codes "assume FILE [--care CARE] [--nodes N] [--observe all|outputs]"
words_of Equal = codes "equal FILE FILE [--care CARE] [--nodes N]"
words_of Flat = codes "flat FILE"
words_of Loops = codes "loops FILE [--dot]"
words_of Sim = codes "sim FILE VECTORS"
words_of Delays = codes "delays FILE VECTORS SCHEDULE [--probe trace|glitches|last|vcd]"
words_of Demo = codes "demo CELLS"
words_of Storm = codes "storm FILE ROUNDS [--care CARE] [--nodes N] [--observe all|outputs]"

-- what it does
abbrev pub purpose_of : Topic → List ℕ
purpose_of Check = codes "says that each loop is harmless within care, or prints what shows why not"
purpose_of Rewrite = codes "writes an accepted netlist without loops, with the same outputs at every tick within care"
purpose_of Aiger = codes "writes an accepted netlist as an and-inverter graph without loops, in AIGER's ASCII or binary form"
purpose_of Explain = codes "does as check, and shows what leaves a refused wire unknown, or what each accepted loop needs"
purpose_of Assume = codes "writes the weakest care file, within CARE, under which the netlist is accepted"
purpose_of Equal = codes "says that two netlists have the same outputs and latches at every tick within care, or prints what differs"
purpose_of Flat = codes "writes the netlist without its hierarchy"
purpose_of Loops = codes "prints the loops and the wires that cut them open, with --dot as a graph for Graphviz"
purpose_of Sim = codes "simulates the netlist with 0, 1 and x, tick by tick"
purpose_of Delays = codes "plays a recorded schedule of gate updates, and says whether each tick settles"
purpose_of Demo = codes "makes the ring arbiter of 2 to 64 cells, decides it and counts its rewritten gates"
purpose_of Storm = codes "writes a schedule of 1 to 10000 rounds on which a refused wire never rests"

-- both on a line
abbrev pub topic_text : Topic → List ℕ
topic_text topic = codes "  cyc " ++ (words_of topic ++ (codes "\n      " ++ (purpose_of topic ++ codes "\n")))

-- these lines
abbrev pub lines : List (List ℕ) → List ℕ
lines texts = flat_map (λ text. text ++ codes "\n") texts

-- what stands in front of the commands
unfoldable pub help_head : List ℕ
help_head = lines (
    codes "usage: cyc COMMAND FILES OPTIONS"
    ∷ codes ""
    ∷ codes "Analyses logic netlists (BLIF) whose combinational part has loops, and rewrites them without."
    ∷ codes ""
    ∷ [])

-- what stands behind them
unfoldable pub help_tail : List ℕ
help_tail = lines (
    codes "  cyc help COMMAND"
    ∷ codes "      tells of one command"
    ∷ codes "  cyc --help"
    ∷ codes "      prints this text"
    ∷ codes "  cyc --version"
    ∷ codes "      prints the program's version and the kit that it is proved with"
    ∷ codes ""
    ∷ codes "A file that is - is standard input. Options stand behind the files, in any order:"
    ∷ codes "  --care CARE         a BLIF file with a model assume, a model invariant, or both: which vectors count"
    ∷ codes "  --nodes N           the most nodes of the decision diagrams, from 1 to 50000000; else 8000000"
    ∷ codes "  --observe outputs   that the outputs and what latches load are determined is enough"
    ∷ codes "  --cases N           the most cases, from 1 to 4096, into which loops are split; else 1"
    ∷ codes "  --probe KIND        what is shown of the changes of a run"
    ∷ codes ""
    ∷ codes "Statuses:"
    ∷ codes "  0  done, or accepted, or equal"
    ∷ codes "  1  refused, or not equal"
    ∷ codes "  2  the words aren't in the grammar"
    ∷ codes "  3  a file has a fault"
    ∷ codes "  4  a file wasn't read"
    ∷ codes "  5  a write failed"
    ∷ codes "  6  the limit of nodes was met"
    ∷ codes "  7  no memory was found"
    ∷ codes "  8  the result would be too large"
    ∷ codes ""
    ∷ codes "The manual is docs/cyc.1 of the sources, or where it is installed: man cyc"
    ∷ [])

-- what the program does, command by command
abbrev pub help_text : List ℕ
help_text = help_head ++ (flat_map topic_text topics ++ help_tail)
