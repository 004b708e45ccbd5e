-- What a call did with its shelf: which texts it was given, and how it goes along a plan by them.
use Rattle.std.specs.Prelude.{◌≡◌, ◌≢◌, ◌≤◌, ◌⊎◌, ℕ, List, [], ◌∷◌, IfOk}
use Rattle.std.specs.declared.option.Option.{Option}
use Rattle.std.specs.List.{AllByRecursion}
use Rattle.cyc_io.specs.Faults.{Rose, Counts}
use Rattle.cyc_io.specs.Files.{Files, IsFile}
use Rattle.netlist.specs.Netlists.{IsNetlist}
use Rattle.parsed_files.specs.NetlistFiles.{netlist_of}
use Rattle.plain_commands.specs.Plans.{Role, Netlist, Care, Vectors, Recorded, Plan, Reads, Faulty, WantsMemory, Ends, Decides, Assumes, Compares}
use Rattle.plain_commands.specs.Texts.{Outcome, told, has_fault, read_failed, no_memory}

-- a shelf over a call: its files, where it tells them, and its counts of faults before and after
pub record ShelfCall : Type 0 where
  pub files : Option Files
  pub before : Counts
  pub now : Counts

abbrev pub shelf_call : {S : Type 0} → (S → Option Files) → (S → Counts) → S → S → ShelfCall
shelf_call files faults old new = record { files = files old; before = faults old; now = faults new }

-- the count of this name rose
abbrev pub ReadFailed : ShelfCall → List ℕ → Type 0
ReadFailed shelf name = Rose (shelf.before name) (shelf.now name)

-- no count fell, and none changed but those of these names
pub record ChangesCountsOf (names : List (List ℕ)) (shelf : ShelfCall) : Type 0 where
  pub later : (other : List ℕ) → shelf.before other ≤ shelf.now other
  pub others : (other : List ℕ) → AllByRecursion (λ name. other ≢ name) names → shelf.now other ≡ shelf.before other

-- A netlist that a file has meets all conditions of one.
abbrev pub IsSound : Role → List ℕ → Type 0
IsSound Netlist bytes = IfOk (netlist_of bytes) IsNetlist
IsSound Care bytes = Unit {0}
IsSound Vectors bytes = Unit {0}
IsSound Recorded bytes = Unit {0}

-- What is given for the files of a plan in order, each text once: a real file may change between two reads. These are
-- the bytes of the files that a shelf tells.
abbrev pub AreGiven : Option Files → List (List ℕ) → Plan → Type 0
AreGiven files [] plan = Unit {0}
AreGiven files (bytes ∷ given) (Reads role name next) = IsFile files name bytes × IsSound role bytes × AreGiven files given (next bytes)
AreGiven files (bytes ∷ given) (Faulty name fault) = ⊥
AreGiven files (bytes ∷ given) WantsMemory = ⊥
AreGiven files (bytes ∷ given) (Ends ending) = ⊥
AreGiven files (bytes ∷ given) (Decides decision purpose) = ⊥
AreGiven files (bytes ∷ given) (Assumes decision) = ⊥
AreGiven files (bytes ∷ given) (Compares c) = ⊥

-- what is left of a plan behind these texts
abbrev pub rest_of : List (List ℕ) → Plan → Plan
rest_of [] plan = plan
rest_of (bytes ∷ given) (Reads role name next) = rest_of given (next bytes)
rest_of (bytes ∷ given) plan = plan

-- the names of the files that gave these texts, and of the one that is next
abbrev pub names_read : List (List ℕ) → Plan → List (List ℕ)
names_read [] (Reads role name next) = name ∷ []
names_read (bytes ∷ given) (Reads role name next) = name ∷ names_read given (next bytes)
names_read given plan = []

-- What comes of a plan that decides, looks for an assumption or compares is a relation of it and an outcome. This is that of a
-- call which does none of these.
abbrev pub NothingDecided : Plan → Outcome → Type 0
NothingDecided plan end = ⊥

-- how a call ends at what is left of its plan, where this comes of a decision
abbrev pub EndsBy : (Plan → Outcome → Type 0) → ShelfCall → Outcome → Plan → Type 0
EndsBy comes shelf end (Reads role name next) = ReadFailed shelf name × (end ≡ read_failed name)
EndsBy comes shelf end (Faulty name fault) = end ≡ has_fault name fault
EndsBy comes shelf end WantsMemory = ⊥
EndsBy comes shelf end (Ends ending) = end ≡ told ending
EndsBy comes shelf end (Decides decision purpose) = comes (Decides decision purpose) end
EndsBy comes shelf end (Assumes decision) = comes (Assumes decision) end
EndsBy comes shelf end (Compares c) = comes (Compares c) end

-- A call went along a plan to this outcome, by what the shelf gave, or it wants memory. It read no file but those of the plan,
-- in its order.
pub record FollowsBy (comes : Plan → Outcome → Type 0) (plan : Plan) (shelf : ShelfCall) (end : Outcome) : Type 0 where
  pub given : List (List ℕ)
  pub gave : AreGiven shelf.files given plan
  pub counts : ChangesCountsOf (names_read given plan) shelf
  pub ends : EndsBy comes shelf end (rest_of given plan) ⊎ (end ≡ no_memory)
