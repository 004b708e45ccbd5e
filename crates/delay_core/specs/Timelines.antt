-- What is seen of a timeline.
use Rattle.std.specs.Prelude.{◌≤◌, ℕ, List}
use Rattle.schedules.specs.Moments.{History}
use Rattle.delay_core.specs.declared.entry.TimelineEntry.{TimelineEntry}
use Rattle.delay_core.specs.Entries.{AreLinked, AreDated}

-- its moments, the newest first, and how many changes surely find memory
pub record Told : Type 0 where
  pub history : History
  pub spare : ℕ

-- entries of so many moments
pub record IsTimeline (entries : List TimelineEntry) (newest : List ℕ) (moments : ℕ) : Type 0 where
  pub some : 1 ≤ moments
  pub linked : AreLinked entries newest
  pub dated : AreDated entries moments
