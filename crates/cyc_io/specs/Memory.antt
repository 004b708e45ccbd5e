-- A shelf and a sink in memory, as clauses see them, and which of their calls are to fail.
use Rattle.std.specs.Prelude.{◌⊎◌, ◌≤◌, ◌-◌, ◌++◌, ℕ, List, [], Contains, length, min}
use Rattle.cyc_io.specs.Counts.{count_in}
use Rattle.cyc_io.specs.Faults.{Counts, next_count}
use Rattle.cyc_io.specs.Files.{Files}
use Rattle.cyc_io.specs.MemoryFiles.{Entry, file_of}

-- Files in memory, the numbers of the reads that are to fail, how many reads were made, and how many of each name failed.
pub record FilesInMemory : Type 0 where
  pub files : List Entry
  pub fail : List ℕ
  pub calls : ℕ
  pub faults : List (List ℕ × ℕ)

abbrev pub files_in : FilesInMemory → Files
files_in shelf = file_of shelf.files

abbrev pub faults_of : FilesInMemory → Counts
faults_of shelf = count_in shelf.faults

-- The next read is one of those that are to fail.
abbrev pub ReadIsToFail : FilesInMemory → Type 0
ReadIsToFail shelf = Contains shelf.fail shelf.calls

-- Bytes in memory, for how many there is room, how many one write takes at most, the numbers of the writes that are to
-- fail, how many writes were made, and how many failed.
pub record BytesInMemory : Type 0 where
  pub bytes : List ℕ
  pub room : ℕ
  pub most : ℕ
  pub fail : List ℕ
  pub calls : ℕ
  pub faults : ℕ

-- It took nothing yet, and no write was made.
abbrev pub empty_sink : ℕ → List ℕ → ℕ → BytesInMemory
empty_sink room fail most = record { bytes = []; room = room; most = most; fail = fail; calls = 0; faults = 0 }

-- The next write is one of those that are to fail, or there is no room left.
abbrev pub WriteIsToFail : BytesInMemory → Type 0
WriteIsToFail sink = Contains sink.fail sink.calls ⊎ sink.room ≤ length sink.bytes

-- how much of a piece the next write takes
abbrev pub count_to_take : BytesInMemory → ℕ → ℕ
count_to_take sink size = min (min size sink.most) (sink.room - length sink.bytes)

-- the sink behind a write that took these bytes
abbrev pub after_taking : BytesInMemory → List ℕ → BytesInMemory
after_taking sink piece = record sink { bytes = sink.bytes ++ piece; calls = next_count sink.calls }

-- the sink behind a write that failed
abbrev pub after_fault : BytesInMemory → BytesInMemory
after_fault sink = record sink { calls = next_count sink.calls; faults = next_count sink.faults }
