-- The events of a round: the one at a place, and how they are packed: a head for each, and the ages of all in one list.
use Rattle.std.specs.Prelude.{◌≡◌, ◌-◌, ◌<◌, ◌≤◌, ◌==◌, ℕ, if◌then◌else◌, List, [], length, map, slice_index_or, slice_range}
use Rattle.std.specs.List.{range_with_len}
use Rattle.delay_core.specs.declared.events.Head.{Head}
use Rattle.delay_core.specs.declared.plan.PlannedEvent.{PlannedEvent}

abbrev pub planned_at : List PlannedEvent → ℕ → PlannedEvent
planned_at events i = slice_index_or events i (record { line = 0; event = record { gate = 0; ages = [] } })

abbrev pub head_at : List Head → ℕ → Head
head_at heads i = slice_index_or heads i (record { line = 0; gate = 0; end = 0 })

-- the ages of an event begin where those of the one before end
abbrev pub begin_of : List Head → ℕ → ℕ
begin_of heads i = if i == 0 then 0 else (head_at heads (i - 1)).end

abbrev pub packed_event : List Head → List ℕ → ℕ → PlannedEvent
packed_event heads ages i =
    let head = head_at heads i in
    record { line = head.line; event = record { gate = head.gate; ages = slice_range ages (begin_of heads i) head.end } }

abbrev pub packed_events : List Head → List ℕ → List PlannedEvent
packed_events heads ages = map (packed_event heads ages) (range_with_len 0 (length heads))

-- the ages are those of the events, one after another
pub record ArePacked (heads : List Head) (ages : List ℕ) : Type 0 where
  pub rises : (i : ℕ) → i < length heads → begin_of heads i ≤ (head_at heads i).end
  pub within : (i : ℕ) → i < length heads → (head_at heads i).end ≤ length ages
  pub whole : begin_of heads (length heads) ≡ length ages
