-- The two forms of AIGER (version 1.9; Biere, Heljanko and Wieringa 2011) of a netlist's and-inverter graph.
use Rattle.std.specs.Prelude.{ℕ, zero, suc, ◌+◌, ◌-◌, ◌/◌, ◌%◌, nat_lt, if◌then◌else◌, List, [], ◌∷◌, ◌++◌, length, map, codes, decimal}
use Rattle.std.specs.List.{flat_map, enumerate_from, range_with_len}
use Rattle.netlist.specs.Netlists.{signal_name}
use Rattle.netlist.specs.declared.parts.Init.{Init}
use Rattle.netlist.specs.declared.parts.Init.TheVariants.{Zero, One, Either}
use Rattle.netlist.specs.declared.parts.Latch.{Latch}
use Rattle.netlist.specs.declared.parts.Parts.{Parts}
use Rattle.aig_core.specs.declared.edge.Edge.{Edge}
use Rattle.aig_core.specs.declared.edge.And.{And}
use Rattle.aig_core.specs.declared.building.Built.{Built}
use Rattle.aig_core.specs.Graphs.{Graph}
use Rattle.aig_core.specs.Circuits.{input_edge, latch_edge, and_edge, next_edge}

-- a line of numbers, with one blank between
abbrev pub numbers_line : List ℕ → List ℕ
numbers_line [] = codes "\n"
numbers_line (first ∷ others) = decimal first ++ (flat_map (λ number. codes " " ++ decimal number) others ++ codes "\n")

-- the word of the form, the greatest variable, and how many inputs, latches, outputs and ANDs there are
abbrev pub head_text : List ℕ → Built → List ℕ
head_text word built =
    word
    ++ numbers_line (
    (built.aig.inputs + built.aig.latches + length built.aig.ands)
    ∷ built.aig.inputs ∷ built.aig.latches ∷ length built.outputs ∷ length built.aig.ands ∷ [])

abbrev pub input_line : ℕ → List ℕ
input_line i = numbers_line ((input_edge i).0 ∷ [])

-- a latch of which nothing is said starts with 0, and one that may start with either value names itself
abbrev pub init_words : ℕ → Init → List ℕ
init_words own Zero = []
init_words own One = 1 ∷ []
init_words own Either = own ∷ []

-- the latch's edge, the edge that it loads, and what it starts with
abbrev pub latch_line : Built → ℕ → Latch → List ℕ
latch_line built j latch =
    numbers_line ((latch_edge built.aig j).0 ∷ (next_edge built j).0 ∷ init_words (latch_edge built.aig j).0 latch.init)

abbrev pub output_line : Edge → List ℕ
output_line e = numbers_line (e.0 ∷ [])

abbrev pub and_line : Graph → ℕ → And → List ℕ
and_line g i and = numbers_line ((and_edge g i).0 ∷ and.greater.0 ∷ and.smaller.0 ∷ [])

-- the name of an input, a latch or an output, by its place
abbrev pub symbol_line : List ℕ → ℕ → List ℕ → List ℕ
symbol_line kind place name = (kind ++ decimal place) ++ (codes " " ++ (name ++ codes "\n"))

-- the symbols of these names, by their places
abbrev pub symbols_text : List ℕ → List (List ℕ) → List ℕ
symbols_text kind names = flat_map (λ item. symbol_line kind item.0 item.1) (enumerate_from 0 names)

abbrev pub names_text : Parts → List ℕ
names_text net =
    symbols_text (codes "i") net.inputs
    ++ (symbols_text (codes "l") (map (λ latch. latch.name) net.latches)
    ++ symbols_text (codes "o") (map (signal_name net) net.outputs))

abbrev pub latches_text : Parts → Built → List ℕ
latches_text net built = flat_map (λ item. latch_line built item.0 item.1) (enumerate_from 0 net.latches)

abbrev pub ands_text : Graph → List ℕ
ands_text g = flat_map (λ item. and_line g item.0 item.1) (enumerate_from 0 g.ands)

-- The binary form: the order tells the edges of inputs, latches and ANDs.

-- the edge that a latch loads, and what the latch starts with
abbrev pub load_line : Built → ℕ → Latch → List ℕ
load_line built j latch = numbers_line ((next_edge built j).0 ∷ init_words (latch_edge built.aig j).0 latch.init)

-- a number in groups of seven bits, the least first, with 128 added to each but the last
abbrev pub groups_upto : ℕ → ℕ → List ℕ
groups_upto zero n = []
groups_upto (suc fuel) n = if nat_lt n 128 then n ∷ [] else (128 + n % 128) ∷ groups_upto fuel (n / 128)

abbrev pub groups : ℕ → List ℕ
groups n = groups_upto (suc n) n

-- by how much an AND's edge is over the greater one that it reads, and that one over the smaller
abbrev pub and_groups : Graph → ℕ → And → List ℕ
and_groups g i and = groups ((and_edge g i).0 - and.greater.0) ++ groups (and.greater.0 - and.smaller.0)

abbrev pub loads_text : Parts → Built → List ℕ
loads_text net built = flat_map (λ item. load_line built item.0 item.1) (enumerate_from 0 net.latches)

abbrev pub groups_text : Graph → List ℕ
groups_text g = flat_map (λ item. and_groups g item.0 item.1) (enumerate_from 0 g.ands)

-- The texts of a netlist's graph. The clock isn't written.

abbrev pub aiger_text : Parts → Built → List ℕ
aiger_text net built =
    head_text (codes "aag ") built
    ++ (flat_map input_line (range_with_len 0 built.aig.inputs)
    ++ (latches_text net built
    ++ (flat_map output_line built.outputs
    ++ (ands_text built.aig
    ++ names_text net))))

abbrev pub binary_text : Parts → Built → List ℕ
binary_text net built =
    head_text (codes "aig ") built
    ++ (loads_text net built
    ++ (flat_map output_line built.outputs
    ++ (groups_text built.aig
    ++ names_text net)))
