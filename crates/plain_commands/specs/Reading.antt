-- What came of reading one file of a plan.
use Rattle.std.specs.Prelude.{◌≡◌, ◌⊎◌, ◌<◌, ◌≤◌, ℕ, List, length, Some, None}
use Rattle.std.specs.declared.option.Option.{Option}
use Rattle.std.specs.declared.result.Result.{Result}
use Rattle.cyc_base.specs.declared.limits.TheConstants.{MAX_FILE_BYTES}
use Rattle.cyc_io.specs.Faults.{Counts}
use Rattle.cyc_io.specs.Files.{Files, IsFile}
use Rattle.parsed_files.specs.Faults.{Fault, IsErrorOf, too_long}
use Rattle.plain_commands.specs.Plans.{Plan}
use Rattle.plain_commands.specs.Shelves.{ShelfCall, ChangesCountsOf, ReadFailed, AreGiven, rest_of, names_read, FollowsBy, NothingDecided}
use Rattle.plain_commands.specs.Texts.{Outcome, has_fault, read_failed, no_memory}

-- The shelf gave a text of this file that isn't too long.
pub record GaveText (shelf : ShelfCall) (name bytes : List ℕ) : Type 0 where
  pub is : IsFile shelf.files name bytes
  pub short : length bytes ≤ MAX_FILE_BYTES

-- It gave none: a read failed, or the file is too long, or memory ran out.
pub data GaveNone (shelf : ShelfCall) (name : List ℕ) (end : Outcome) : Type 0 where
  Unread : ReadFailed shelf name → end ≡ read_failed name → GaveNone shelf name end
  TooLong : (bytes : List ℕ) → IsFile shelf.files name bytes → MAX_FILE_BYTES < length bytes → end ≡ has_fault name too_long
      → GaveNone shelf name end
  Lacks : end ≡ no_memory → GaveNone shelf name end

-- Where a call ends at an error of this file: at its fault, unless it wants memory.
abbrev pub StopsAt : List ℕ → Option Fault → Outcome → Type 0
StopsAt name None end = end ≡ no_memory
StopsAt name (Some fault) end = (end ≡ has_fault name fault) ⊎ (end ≡ no_memory)

-- In this part of a call the shelf gave what leads from a plan to a rest of it.
pub record LeadsTo (plan rest : Plan) (shelf : ShelfCall) : Type 0 where
  pub given : List (List ℕ)
  pub gave : AreGiven shelf.files given plan
  pub counts : ChangesCountsOf (names_read given plan) shelf
  pub is : rest_of given plan ≡ rest

-- So it did with a file that a plan uses: this is what it means.
pub record GoesOn {T : Type 0} (plan : (T → Plan) → Plan) (value : T) (shelf : ShelfCall) : Type 0 where
  pub leads : (next : T → Plan) → LeadsTo (plan next) (next value) shelf

-- A call that decides nothing went along a plan to this outcome.
abbrev pub FollowsAlone : Plan → ShelfCall → Outcome → Type 0
FollowsAlone plan shelf end = FollowsBy NothingDecided plan shelf end

-- A file that a plan uses ends the call so.
pub record StopsIn {T : Type 0} (plan : (T → Plan) → Plan) (shelf : ShelfCall) (end : Outcome) : Type 0 where
  pub follows : (next : T → Plan) → FollowsAlone (plan next) shelf end

-- A call that reads nothing went along a plan to this outcome, whatever the shelf is, where this comes of a decision.
pub record FollowsStill (comes : Plan → Outcome → Type 0) (plan : Plan) (end : Outcome) : Type 0 where
  pub follows : (files : Option Files) (counts : Counts) → FollowsBy comes plan (record { files = files; before = counts; now = counts }) end

-- The same of one that decides nothing.
abbrev pub FollowsStillAlone : Plan → Outcome → Type 0
FollowsStillAlone plan end = FollowsStill NothingDecided plan end

-- A text that is taken for the file of this name ends the call at its fault, unless memory runs out.
pub record IsStoppedBy {T : Type 0} (name : List ℕ) (meaning : Result T (Option Fault)) (end : Outcome) : Type 0 where
  pub error : Option Fault
  pub is : IsErrorOf meaning error
  pub stops : StopsAt name error end
