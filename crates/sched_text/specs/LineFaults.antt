-- The first fault of the lines of a schedule, by looking back from each line to those before it, the nearest first.
use Rattle.std.specs.Prelude.{ℕ, ◌+◌, Bool, true, false, not, List, [], ◌∷◌, ◌&&◌, ◌||◌, ◌==◌, nat_lt, length, map, position, count_by, bytes_eq, if◌then◌else◌, Some, None, is_some, option_map}
use Rattle.std.specs.List.{list_all}
use Rattle.std.specs.Option.{option_or}
use Rattle.std.specs.declared.option.Option.{Option}
use Rattle.netlist.specs.declared.parts.Init.{Init}
use Rattle.netlist.specs.declared.parts.Init.TheVariants.{Zero, One, Either}
use Rattle.netlist.specs.declared.parts.Latch.{Latch}
use Rattle.netlist.specs.declared.parts.Parts.{Parts}
use Rattle.netlist.specs.Netlists.{count}
use Rattle.blif_text.specs.Texts.{Line}
use Rattle.sched_text.specs.declared.fault.SchedFault.{SchedFault}
use Rattle.sched_text.specs.declared.fault.SchedFault.TheVariants.{BadLine, WrongWidth, BadStart, UnknownGate, TickCount}
use Rattle.sched_text.specs.declared.kind.ScheduleKind.{ScheduleKind}
use Rattle.sched_text.specs.declared.kind.ScheduleKind.TheVariants.{FormatOne, FormatTwo, Window, Past, Latches, State, Gates, Tick, Round, Event, Unknown}
use Rattle.sched_text.specs.declared.place.SchedulePlace.{SchedulePlace}
use Rattle.sched_text.specs.Kinds.{kind, is_tick, may_follow, lacks_lines}
use Rattle.sched_text.specs.Numbers.{number}

-- the words behind the first
abbrev pub arguments : List (List ℕ) → List (List ℕ)
arguments [] = []
arguments (first ∷ rest) = rest

-- Bits: one word, or none for no bits.

abbrev pub is_bit : ℕ → Bool
is_bit b = (b == 48) || (b == 49)

abbrev pub are_bits : List (List ℕ) → Bool
are_bits [] = true
are_bits (word ∷ []) = list_all is_bit word
are_bits other = false

abbrev pub bit_of : ℕ → Bool
bit_of b = b == 49

abbrev pub bits_of : List (List ℕ) → List Bool
bits_of [] = []
bits_of (word ∷ rest) = map bit_of word

-- The words of a line.

abbrev pub is_age : List ℕ → Bool
is_age word = is_some (number word)

abbrev pub is_number : List (List ℕ) → Bool
is_number (word ∷ []) = is_some (number word)
is_number other = false

abbrev pub is_nothing : List (List ℕ) → Bool
is_nothing [] = true
is_nothing other = false

-- a name and ages
abbrev pub is_event : List (List ℕ) → Bool
is_event [] = false
is_event (name ∷ ages) = list_all is_age ages

-- the words behind the first are those of a line of this kind
abbrev pub has_words_of : ScheduleKind → List (List ℕ) → Bool
has_words_of FormatOne words = true
has_words_of FormatTwo words = true
has_words_of Window words = is_number words
has_words_of Past words = are_bits words
has_words_of Latches words = are_bits words
has_words_of State words = are_bits words
has_words_of Gates words = are_bits words
has_words_of Tick words = is_nothing words
has_words_of Round words = is_nothing words
has_words_of Event words = is_event words
has_words_of Unknown words = false

-- What a line of the right words may have wrong with it.

abbrev pub width_fault : ℕ → ℕ → List Bool → Option SchedFault
width_fault n width bits = if length bits == width then None else Some (WrongWidth n)

abbrev pub permits : Init → Bool → Bool
permits Zero b = not b
permits One b = b
permits Either b = true

-- the first latch whose init doesn't permit its value, where they are numbered from i
abbrev pub first_refused : ℕ → List Latch → List Bool → Option ℕ
first_refused i (latch ∷ latches) (b ∷ bits) = if permits latch.init b then first_refused (i + 1) latches bits else Some i
first_refused i latches bits = None

abbrev pub start_fault : ℕ → List Latch → List Bool → Option SchedFault
start_fault n latches bits = option_map (BadStart n) (first_refused 0 latches bits)

-- the gate of this name, by its place among the gates
abbrev pub gate_number : Parts → List ℕ → Option ℕ
gate_number net name = position (bytes_eq name) (map (λ gate. gate.name) net.gates)

abbrev pub gate_fault : Parts → ℕ → List (List ℕ) → Option SchedFault
gate_fault net n [] = None
gate_fault net n (name ∷ ages) = if is_some (gate_number net name) then None else Some (UnknownGate n name)

-- a tick over the number of ticks
abbrev pub tick_fault : ℕ → ℕ → ℕ → Option SchedFault
tick_fault n ticks begun = if nat_lt begun ticks then None else Some (TickCount n)

abbrev pub fault_of_kind : Parts → ℕ → ScheduleKind → ℕ → ℕ → List (List ℕ) → Option SchedFault
fault_of_kind net ticks Past n begun words = width_fault n (count net) (bits_of words)
fault_of_kind net ticks Latches n begun words =
    option_or (width_fault n (length net.latches) (bits_of words)) (start_fault n net.latches (bits_of words))
fault_of_kind net ticks State n begun words = width_fault n (length net.latches) (bits_of words)
fault_of_kind net ticks Gates n begun words = width_fault n (length net.gates) (bits_of words)
fault_of_kind net ticks Event n begun words = gate_fault net n words
fault_of_kind net ticks Tick n begun words = tick_fault n ticks begun
fault_of_kind net ticks other n begun words = None

-- the words behind the first, where these are behind a first word that makes the line one of this kind
abbrev pub fault_of_words : Parts → ℕ → ScheduleKind → ℕ → ℕ → List (List ℕ) → Option SchedFault
fault_of_words net ticks k n begun words =
    if has_words_of k words then fault_of_kind net ticks k n begun words else Some (BadLine n)

-- Where a line lies.

-- the kind of the line directly before
abbrev pub nearest : List Line → Option ScheduleKind
nearest [] = None
nearest (line ∷ earlier) = Some (kind line)

abbrev pub begins_tick : Line → Bool
begins_tick line = is_tick (kind line)

-- how many ticks began before
abbrev pub ticks_begun : List Line → ℕ
ticks_begun earlier = count_by begins_tick earlier

abbrev pub place_behind : List Line → SchedulePlace
place_behind earlier = record { before = nearest earlier; begun = ticks_begun earlier }

-- the text ends in the line, and a line is missing behind it
abbrev pub is_cut_off : ℕ → Line → List Line → Bool
is_cut_off end line [] = (line.number == end) && lacks_lines (Some (kind line))
is_cut_off end line (next ∷ rest) = false

-- The fault of a line of this kind behind a line of another, where so many ticks began before. The text may be cut off.
abbrev pub fault_at : Parts → ℕ → Option ScheduleKind → ℕ → Bool → Line → Option SchedFault
fault_at net ticks before begun cut_off line =
    if may_follow before (kind line) && not cut_off
    then fault_of_words net ticks (kind line) line.number begun (arguments line.words)
    else Some (BadLine line.number)

-- the fault of a line between others, for a text with this end line
abbrev pub line_fault : Parts → ℕ → ℕ → List Line → Line → List Line → Option SchedFault
line_fault net ticks end earlier line rest =
    fault_at net ticks (nearest earlier) (ticks_begun earlier) (is_cut_off end line rest) line

-- the fault of the end, behind a line of this kind: a line is missing, or there are fewer ticks
abbrev pub fault_at_end : ℕ → ℕ → Option ScheduleKind → ℕ → Option SchedFault
fault_at_end ticks end before begun =
    if lacks_lines before then Some (BadLine end)
    else (if nat_lt begun ticks then Some (TickCount end) else None)

-- the first fault of lines that follow earlier ones, and of the end behind them
abbrev pub first_fault : Parts → ℕ → ℕ → List Line → List Line → Option SchedFault
first_fault net ticks end earlier [] = fault_at_end ticks end (nearest earlier) (ticks_begun earlier)
first_fault net ticks end earlier (line ∷ rest) =
    option_or (line_fault net ticks end earlier line rest) (first_fault net ticks end (line ∷ earlier) rest)
