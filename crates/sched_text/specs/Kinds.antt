-- Lines by their first words, and which line may stand behind which.
use Rattle.std.specs.Prelude.{ℕ, Bool, true, false, List, [], ◌∷◌, codes, bytes_eq, if◌then◌else◌, Some, None}
use Rattle.std.specs.declared.option.Option.{Option}
use Rattle.blif_text.specs.Texts.{Line}
use Rattle.sched_text.specs.declared.kind.ScheduleKind.{ScheduleKind}
use Rattle.sched_text.specs.declared.kind.ScheduleKind.TheVariants.{FormatOne, FormatTwo, Window, Past, Latches, State, Gates, Tick, Round, Event, Unknown}

-- the line `schedule` has exactly one more word, the format
abbrev pub format_of : List (List ℕ) → ScheduleKind
format_of (first ∷ format ∷ []) =
    if bytes_eq format (codes "1") then FormatOne
    else (if bytes_eq format (codes "2") then FormatTwo
    else Unknown)
format_of other = Unknown

-- the lines before the gates' starting values
abbrev pub kind_of_head : List ℕ → ScheduleKind
kind_of_head word =
    if bytes_eq word (codes "latches") then Latches
    else (if bytes_eq word (codes "state") then State
    else (if bytes_eq word (codes "past") then Past
    else (if bytes_eq word (codes "window") then Window
    else Unknown)))

abbrev pub kind_of : List ℕ → ScheduleKind
kind_of word =
    if bytes_eq word (codes "e") then Event
    else (if bytes_eq word (codes "round") then Round
    else (if bytes_eq word (codes "tick") then Tick
    else (if bytes_eq word (codes "gates") then Gates
    else kind_of_head word)))

abbrev pub kind_of_words : List (List ℕ) → ScheduleKind
kind_of_words [] = Unknown
kind_of_words (first ∷ rest) = if bytes_eq first (codes "schedule") then format_of (first ∷ rest) else kind_of first

abbrev pub kind : Line → ScheduleKind
kind line = kind_of_words line.words

-- The order of lines.

-- `schedule 1`, or `schedule 2`, stands first
abbrev pub may_begin : ScheduleKind → Bool
may_begin FormatOne = true
may_begin FormatTwo = true
may_begin other = false

abbrev pub is_latches : ScheduleKind → Bool
is_latches Latches = true
is_latches other = false

abbrev pub is_window : ScheduleKind → Bool
is_window Window = true
is_window other = false

-- behind `window`: moments of the past, and then what the latches start with
abbrev pub is_past_or_start : ScheduleKind → Bool
is_past_or_start Past = true
is_past_or_start Latches = true
is_past_or_start State = true
is_past_or_start other = false

abbrev pub is_gates : ScheduleKind → Bool
is_gates Gates = true
is_gates other = false

abbrev pub is_tick : ScheduleKind → Bool
is_tick Tick = true
is_tick other = false

abbrev pub is_tick_or_round : ScheduleKind → Bool
is_tick_or_round Tick = true
is_tick_or_round Round = true
is_tick_or_round other = false

abbrev pub is_of_a_tick : ScheduleKind → Bool
is_of_a_tick Event = true
is_of_a_tick other = is_tick_or_round other

-- which line may stand behind a line of this kind, or first
abbrev pub may_follow : Option ScheduleKind → ScheduleKind → Bool
may_follow None k = may_begin k
may_follow (Some FormatOne) k = is_latches k
may_follow (Some FormatTwo) k = is_window k
may_follow (Some Window) k = is_past_or_start k
may_follow (Some Past) k = is_past_or_start k
may_follow (Some Latches) k = is_gates k
may_follow (Some State) k = is_gates k
may_follow (Some Gates) k = is_tick k
may_follow (Some Tick) k = is_tick_or_round k
may_follow (Some Round) k = is_of_a_tick k
may_follow (Some Event) k = is_of_a_tick k
may_follow (Some Unknown) k = false

-- a line is missing where the text ends behind a line of this kind: `gates` is the last of those that must be there
abbrev pub lacks_lines : Option ScheduleKind → Bool
lacks_lines (Some Gates) = false
lacks_lines (Some Tick) = false
lacks_lines (Some Round) = false
lacks_lines (Some Event) = false
lacks_lines other = true
