-- Lines by their first words: a directive begins with a dot, and any other line is a row of a cover.
use Rattle.std.specs.Prelude.{ℕ, Bool, false, List, [], ◌∷◌, ◌||◌, ◌==◌, codes, bytes_eq, drop, length, ◌-◌, slice_index_or, if◌then◌else◌}
use Rattle.blif_text.specs.Texts.{Line}
use Rattle.blif_read.specs.declared.kind.LineKind.{LineKind}
use Rattle.blif_read.specs.declared.kind.LineKind.TheVariants.{Row, Model, Inputs, Outputs, Clock, Names, Latch, Subckt, End, ReadOver, LeftOut, Unknown}

abbrev pub word_at : List (List ℕ) → ℕ → List ℕ
word_at words k = slice_index_or words k []

-- the words behind the first
abbrev pub arguments : Line → List (List ℕ)
arguments line = drop 1 line.words

abbrev pub begins_with_dot : List ℕ → Bool
begins_with_dot [] = false
begins_with_dot (b ∷ rest) = b == 46

-- the directives that the profile leaves out
abbrev pub is_left_out : List ℕ → Bool
is_left_out word =
    bytes_eq word (codes ".gate")
    || bytes_eq word (codes ".mlatch")
    || bytes_eq word (codes ".exdc")
    || bytes_eq word (codes ".search")
    || bytes_eq word (codes ".start_kiss")
    || bytes_eq word (codes ".end_kiss")
    || bytes_eq word (codes ".latch_order")
    || bytes_eq word (codes ".code")
    || bytes_eq word (codes ".cycle")
    || bytes_eq word (codes ".clock_event")
    || bytes_eq word (codes ".blackbox")
    || bytes_eq word (codes ".conn")
    || bytes_eq word (codes ".barbuf")

-- the directives that tell of arrivals, drives and loads at a port
abbrev pub is_port_timing : List ℕ → Bool
is_port_timing word =
    bytes_eq word (codes ".input_arrival")
    || bytes_eq word (codes ".output_required")
    || bytes_eq word (codes ".input_drive")
    || bytes_eq word (codes ".max_input_load")
    || bytes_eq word (codes ".output_load")

-- the same for all ports
abbrev pub is_default_timing : List ℕ → Bool
is_default_timing word =
    bytes_eq word (codes ".default_input_arrival")
    || bytes_eq word (codes ".default_output_required")
    || bytes_eq word (codes ".default_input_drive")
    || bytes_eq word (codes ".default_max_input_load")
    || bytes_eq word (codes ".default_output_load")

-- the directives that are read over with all their words
abbrev pub is_read_over : List ℕ → Bool
is_read_over word =
    is_port_timing word
    || is_default_timing word
    || bytes_eq word (codes ".area")
    || bytes_eq word (codes ".delay")
    || bytes_eq word (codes ".wire_load_slope")
    || bytes_eq word (codes ".wire")
    || bytes_eq word (codes ".attr")
    || bytes_eq word (codes ".param")
    || bytes_eq word (codes ".cname")

abbrev pub directive_of : List ℕ → LineKind
directive_of word =
    if bytes_eq word (codes ".names") then Names
    else (if bytes_eq word (codes ".latch") then Latch
    else (if bytes_eq word (codes ".subckt") then Subckt
    else (if bytes_eq word (codes ".inputs") then Inputs
    else (if bytes_eq word (codes ".outputs") then Outputs
    else (if bytes_eq word (codes ".clock") then Clock
    else (if bytes_eq word (codes ".model") then Model
    else (if bytes_eq word (codes ".end") then End
    else (if is_read_over word then ReadOver
    else (if is_left_out word then LeftOut
    else Unknown)))))))))

abbrev pub kind_of : List ℕ → LineKind
kind_of word = if begins_with_dot word then directive_of word else Row

abbrev pub kind : Line → LineKind
kind line = kind_of (word_at line.words 0)

-- the name of a `.model` line
abbrev pub model_name : Line → List ℕ
model_name line = word_at line.words 1

-- how many pins a `.names` line has: as many as the words behind its first, without the output
abbrev pub pin_count : List (List ℕ) → ℕ
pin_count names = length names - 1

-- whether a row is of the on-plane, by its last word
abbrev pub is_on : Line → Bool
is_on line = bytes_eq (word_at line.words (length line.words - 1)) (codes "1")
