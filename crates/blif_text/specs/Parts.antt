-- A text that is read on from place to place, and whose lines are handed out in parts.
use Rattle.std.specs.Prelude.{ℕ, zero, suc, Bool, List, ◌++◌, ◌&&◌, ◌==◌, ◌+◌, drop, not, slice_index_or, if◌then◌else◌, option_and_then, Some}
use Rattle.std.specs.declared.option.Option.{Option}
use Rattle.blif_text.specs.Texts.{Line, begins_with, is_printed}
use Rattle.blif_text.specs.Reading.{State, step}

-- the state behind the byte at a place, or nothing where the byte isn't allowed; a CR directly before an LF is dropped
abbrev pub state_behind : Bool → List ℕ → ℕ → State → Option State
state_behind joins text i s =
    let b = slice_index_or text i 0 in
    if b == 13 && begins_with 10 (drop (i + 1) text) then Some s else step joins s b

-- the state behind so many bytes from a place on, or nothing where one of them isn't allowed
abbrev pub state_over : Bool → List ℕ → ℕ → ℕ → State → Option State
state_over joins text i zero s = Some s
state_over joins text i (suc n) s = option_and_then (state_over joins text (i + 1) n) (state_behind joins text i s)

-- a byte that only goes on with a word, outside a comment
abbrev pub is_word_byte : ℕ → Bool
is_word_byte b = is_printed b && not (b == 35)

-- the state before these lines were handed out
abbrev pub with_part : List Line → State → State
with_part part s = record s { done = part ++ s.done }
