-- What probes hear of a call, whatever they show.
use Rattle.std.proofs.Common.{◌≡◌, ℕ, Bool, false, List, length, subst, inl, inr}
use Rattle.plain_commands.proofs.Common.{Option, Trit, Counts, Files, Parts, Schedule, ShelfCall, Plan, with_netlist, with_vectors, known, GoesOn, Shows}
use Rattle.delay_core.specs.declared.change.Change.{Change}
use Rattle.delay_core.specs.Changes.{changes}
use Rattle.commands.specs.declared.kind.Kind.{Kind}
use Rattle.plain_commands.specs.Hearing.{HearPlay, HearRun}
use Rattle.plain_commands.specs.Plans.{play_on, playing, replaying, replaying_on, with_schedule}
use Rattle.plain_commands.proofs.PlanLemmas.{leads_after}

abbrev call : Option Files → Counts → Counts → ShelfCall
call files before now = record { files = files; before = before; now = now }

module _ {P : Type 0} (kind : P → Kind) (heard : P → List Change) (text : P → List Change → Parts → List ℕ) (probe : Option Kind) (old new : List P) where
  -- a schedule, once it is read
  pub hears_file : (recorded : List ℕ) (net : Parts) (vectors : List (List Bool)) (schedule : Schedule) (files : Option Files) (a b : Counts)
      → GoesOn (with_schedule recorded net (length vectors)) schedule (call files a b)
      → HearRun kind heard text probe old new (changes net schedule vectors)
      → HearPlay kind heard text probe (λ shows. play_on shows probe recorded net vectors) (call files a b) old new
  hears_file recorded net vectors schedule files a b goes told = inr (record {
    recorded = recorded;
    net = net;
    vectors = vectors;
    schedule = schedule;
    leads = λ shows. goes.leads (λ s. playing shows probe recorded net vectors s);
    told = told;
  })

  hears_known : (recorded : List ℕ) (net : Parts) (found : List (List Trit)) (inputs : List (List Bool)) (shelf : ShelfCall) → inputs ≡ known found
      → HearPlay kind heard text probe (λ shows. play_on shows probe recorded net inputs) shelf old new
      → HearPlay kind heard text probe (λ shows. play_on shows probe recorded net (known found)) shelf old new
  hears_known recorded net found inputs shelf is hears =
      let Q : List (List Bool) → Type 0 = λ v. HearPlay kind heard text probe (λ shows. play_on shows probe recorded net v) shelf old new in subst Q is hears

  -- a file that is read before
  hears_on : {T : Type 0} (plan : (T → Plan) → Plan) (value : T) (next : Shows → T → Plan) (files later : Option Files) (a b c : Counts) → later ≡ files
      → GoesOn plan value (call files a b)
      → HearPlay kind heard text probe (λ shows. next shows value) (call later b c) old new
      → HearPlay kind heard text probe (λ shows. plan (next shows)) (call files a c) old new
  hears_on plan value next files later a b c same goes (inl silent) = inl silent
  hears_on plan value next files later a b c same goes (inr run) = inr (record {
    recorded = run.recorded;
    net = run.net;
    vectors = run.vectors;
    schedule = run.schedule;
    leads = λ shows.
        leads_after files later a b c (plan (next shows)) (next shows value) (playing shows probe run.recorded run.net run.vectors run.schedule) same
        (goes.leads (next shows)) (run.leads shows);
    told = run.told;
  })

  replay_hears : (recorded vectors : List ℕ) (net : Parts) (found : List (List Trit)) (files later : Option Files) (a b c : Counts) → later ≡ files
      → GoesOn (with_vectors vectors net false) found (call files a b)
      → HearPlay kind heard text probe (λ shows. play_on shows probe recorded net (known found)) (call later b c) old new
      → HearPlay kind heard text probe (λ shows. replaying_on shows probe recorded vectors net) (call files a c) old new
  replay_hears recorded vectors net found files later a b c same goes hears =
      hears_on (with_vectors vectors net false) found (λ shows xs. play_on shows probe recorded net (known xs)) files later a b c same goes hears

  netlist_hears : (recorded file vectors : List ℕ) (net : Parts) (files later : Option Files) (a b c : Counts) → later ≡ files
      → GoesOn (with_netlist file) net (call files a b)
      → HearPlay kind heard text probe (λ shows. replaying_on shows probe recorded vectors net) (call later b c) old new
      → HearPlay kind heard text probe (λ shows. replaying shows probe file vectors recorded) (call files a c) old new
  netlist_hears recorded file vectors net files later a b c same goes hears =
      hears_on (with_netlist file) net (λ shows n. replaying_on shows probe recorded vectors n) files later a b c same goes hears

  pub files_hear : (recorded file vectors : List ℕ) (net : Parts) (found : List (List Trit)) (inputs : List (List Bool)) (files second third : Option Files) (a b c d : Counts)
      → second ≡ files → third ≡ second → GoesOn (with_netlist file) net (call files a b) → GoesOn (with_vectors vectors net false) found (call second b c)
      → inputs ≡ known found → HearPlay kind heard text probe (λ shows. play_on shows probe recorded net inputs) (call third c d) old new
      → HearPlay kind heard text probe (λ shows. replaying shows probe file vectors recorded) (call files a d) old new
  files_hear recorded file vectors net found inputs files second third a b c d same still netlist goes is hears =
      netlist_hears recorded file vectors net files second a b d same netlist
      (replay_hears recorded vectors net found second third b c d still goes (hears_known recorded net found inputs (call third c d) is hears))
