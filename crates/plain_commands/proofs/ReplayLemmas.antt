-- Going along the plan of a recorded schedule, whatever the probes show.
use Rattle.std.proofs.Common.{◌≡◌, ℕ, Bool, false, List, length, Some, Ok, refl, subst, ap, ◌∙◌, inl}
use Rattle.plain_commands.proofs.Common.{Option, Trit, Counts, Files, Schedule, Parts, ShelfCall, told, Plan, Ends, with_netlist, with_vectors, known, played, delays_text, FollowsAlone, GoesOn, StopsIn, Shows, Outcome, no_memory}
use Rattle.delay_core.specs.declared.plan.TickEnd.{TickEnd}
use Rattle.delay_core.specs.Changes.{changes}
use Rattle.commands.specs.declared.kind.Kind.{Kind}
use Rattle.plain_commands.specs.Plans.{play_on, playing, probed_told, run_told, replaying, replaying_on, with_schedule}
use Rattle.plain_commands.specs.Reading.{FollowsStillAlone}
use Rattle.plain_commands.proofs.PlanLemmas.{goes_on_alone, goes_on_still, still_ends, still_lacks, still_used}

abbrev call : Option Files → Counts → Counts → ShelfCall
call files before now = record { files = files; before = before; now = now }

module _ (shows : Shows) (probe : Option Kind) (recorded : List ℕ) where
  -- a schedule, once it is read
  pub plays_file : (net : Parts) (vectors : List (List Bool)) (schedule : Schedule) (files later : Option Files) (a b : Counts) (end : Outcome)
      → later ≡ files → GoesOn (with_schedule recorded net (length vectors)) schedule (call files a b)
      → FollowsStillAlone (playing shows probe recorded net vectors schedule) end → FollowsAlone (play_on shows probe recorded net vectors) (call files a b) end
  plays_file net vectors schedule files later a b end same goes follows =
      goes_on_still (with_schedule recorded net (length vectors)) schedule (playing shows probe recorded net vectors) files later a b end same goes follows

  abbrev behind_vectors : Parts → List (List Trit) → Plan
  behind_vectors net found = play_on shows probe recorded net (known found)

  -- vectors without unknown values, and want of memory in their place
  plays_known : (net : Parts) (found : List (List Trit)) (inputs : List (List Bool)) (files : Option Files) (a b : Counts) (end : Outcome) → inputs ≡ known found
      → FollowsAlone (play_on shows probe recorded net inputs) (call files a b) end → FollowsAlone (play_on shows probe recorded net (known found)) (call files a b) end
  plays_known net found inputs files a b end is follows =
      let P : List (List Bool) → Type 0 = λ v. FollowsAlone (play_on shows probe recorded net v) (call files a b) end in subst P is follows

  pub found_lacks : (net : Parts) (inputs : List (List Bool)) (files : Option Files) (counts : Counts)
      → FollowsAlone (play_on shows probe recorded net inputs) (call files counts counts) no_memory
  found_lacks net inputs files counts = (still_lacks (play_on shows probe recorded net inputs) no_memory refl).follows files counts

  -- the vectors of a netlist, and what comes behind them
  replays : (vectors : List ℕ) (net : Parts) (found : List (List Trit)) (files later : Option Files) (a b c : Counts) (end : Outcome)
      → later ≡ files → GoesOn (with_vectors vectors net false) found (call files a b)
      → FollowsAlone (play_on shows probe recorded net (known found)) (call later b c) end
      → FollowsAlone (replaying_on shows probe recorded vectors net) (call files a c) end
  replays vectors net found files later a b c end same goes follows =
      goes_on_alone (with_vectors vectors net false) found (behind_vectors net) files later a b c end same goes follows

  -- vectors that end the call
  pub vectors_stop : (vectors : List ℕ) (net : Parts) (files : Option Files) (a b : Counts) (end : Outcome)
      → StopsIn (with_vectors vectors net false) (call files a b) end → FollowsAlone (replaying_on shows probe recorded vectors net) (call files a b) end
  vectors_stop vectors net files a b end stops = stops.follows (behind_vectors net)

  -- the netlist of a file, and what comes behind it
  pub netlist_replays : (file vectors : List ℕ) (net : Parts) (files later : Option Files) (a b c : Counts) (end : Outcome)
      → later ≡ files → GoesOn (with_netlist file) net (call files a b)
      → FollowsAlone (replaying_on shows probe recorded vectors net) (call later b c) end
      → FollowsAlone (replaying shows probe file vectors recorded) (call files a c) end
  netlist_replays file vectors net files later a b c end same goes follows =
      goes_on_alone (with_netlist file) net (replaying_on shows probe recorded vectors) files later a b c end same goes follows

  -- both files, and vectors without unknown values
  pub files_replay : (file vectors : List ℕ) (net : Parts) (found : List (List Trit)) (inputs : List (List Bool)) (files second third : Option Files) (a b c d : Counts)
      (end : Outcome) → second ≡ files → third ≡ second → GoesOn (with_netlist file) net (call files a b) → GoesOn (with_vectors vectors net false) found (call second b c)
      → inputs ≡ known found → FollowsAlone (play_on shows probe recorded net inputs) (call third c d) end
      → FollowsAlone (replaying shows probe file vectors recorded) (call files a d) end
  files_replay file vectors net found inputs files second third a b c d end same still netlist goes is follows =
      netlist_replays file vectors net files second a b d end same netlist
      (replays vectors net found second third b c d end still goes (plays_known net found inputs third c d end is follows))

-- what is told of a run and of what probes of a kind show
pub run_probed : (shows : Shows) (wanted : Kind) (recorded : List ℕ) (net : Parts) (vectors : List (List Bool)) (schedule : Schedule) (ends : List TickEnd) (shown : List ℕ) (end : Outcome)
    → played net vectors schedule ≡ Ok ends → shown ≡ shows wanted net (changes net schedule vectors) → end ≡ told (probed_told wanted (delays_text ends) shown)
    → FollowsStillAlone (playing shows (Some wanted) recorded net vectors schedule) end
run_probed shows wanted recorded net vectors schedule ends shown end is text same =
    still_used recorded (played net vectors schedule) ends (λ xs. Ends (run_told shows (Some wanted) net (changes net schedule vectors) (delays_text xs))) end is
    (still_ends (run_told shows (Some wanted) net (changes net schedule vectors) (delays_text ends)) end
    (inl (same ∙ ap (λ (t : List ℕ). told (probed_told wanted (delays_text ends) t)) text)))
