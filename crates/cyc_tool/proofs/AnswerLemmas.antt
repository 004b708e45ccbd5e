-- Over files that are told, a run gives an answer.
use Rattle.std.proofs.Common.{arith, ◌≡◌, ◌⊎◌, ℕ, List, [], ◌∷◌, Some, None, refl, sym, ap, subst, inl, inr, ◌∙◌}
use Rattle.std.specs.Prelude.{IfSome, IsSomeAnd, MatchOption}
use Rattle.cyc_tool.proofs.Common.{Option, Arena, Files, ShelfCall, AreGiven, rest_of, EndsAt, ComesTo, IsDecided, IsSought, IsCompared, Limit, Sought, Undecided, Found, Unfinished, Runs, Plan, Reads, Faulty, WantsMemory, Ends, Decides, Assumes, Compares, plan_of, Outcome, no_memory, Command}
use Rattle.cyc_io.specs.Files.{IsFile}
use Rattle.cyc_tool.specs.Answer.{IsOutcomeAt, IsAnswer}
use Rattle.plain_commands.specs.Sinks.{SinkCall, IsTold, Tells}
use Rattle.plain_commands.specs.Shelves.{ReadFailed}
use Rattle.cyc_tool.specs.Calls.{Verdict}
use Rattle.cyc_tool.specs.Causes.{Leads, Reaches, MeetsLimit, IsToldAs, NoneFailed, IsWell, GivesAnswer, IsEnoughFor, HasEnoughNodes, IsComplete}
use Rattle.cyc_tool.proofs.CauseLemmas.{told_as}
use Rattle.plain_commands.specs.Requests.{Request}
use Rattle.plain_commands.specs.Texts.{usage, read_failed}
use Rattle.commands.specs.Words.{command_of}

-- a text that was given is that of the file that is told
told_file : (shelf : ShelfCall) (files : Files) (name bytes : List ℕ) → shelf.files ≡ Some files → IsFile shelf.files name bytes → files name ≡ Some bytes
told_file shelf files name bytes is gave = let P : Option Files → Type 0 = λ f. IsFile f name bytes in subst P is gave

-- behind the texts that were given, no read failed either
none_failed_later : (shelf : ShelfCall) (files : Files) (given : List (List ℕ)) (plan : Plan) → shelf.files ≡ Some files → AreGiven shelf.files given plan
    → NoneFailed shelf files plan → NoneFailed shelf files (rest_of given plan)
none_failed_later shelf files [] plan is gave well = well
none_failed_later shelf files (bytes ∷ given) (Reads role name next) is gave well =
    let P : Option (List ℕ) → Type 0 = λ file. IfSome file (λ text. (ReadFailed shelf name → ⊥) × NoneFailed shelf files (next text)) in
    let here : (ReadFailed shelf name → ⊥) × NoneFailed shelf files (next bytes) = subst P (told_file shelf files name bytes is gave.0) well in
    none_failed_later shelf files given (next bytes) is gave.2 here.1
none_failed_later shelf files (bytes ∷ given) (Faulty name fault) is gave well = absurd gave
none_failed_later shelf files (bytes ∷ given) WantsMemory is gave well = absurd gave
none_failed_later shelf files (bytes ∷ given) (Ends ending) is gave well = absurd gave
none_failed_later shelf files (bytes ∷ given) (Decides decision purpose) is gave well = absurd gave
none_failed_later shelf files (bytes ∷ given) (Assumes decision) is gave well = absurd gave
none_failed_later shelf files (bytes ∷ given) (Compares c) is gave well = absurd gave

-- an outcome of what is left of a plan behind these texts is one of the plan
same_outcome : (shelf : ShelfCall) (files : Files) (given : List (List ℕ)) (plan : Plan) (end : Outcome) → shelf.files ≡ Some files
    → AreGiven shelf.files given plan → IsOutcomeAt files (rest_of given plan) end → IsOutcomeAt files plan end
same_outcome shelf files [] plan end is gave ends = ends
same_outcome shelf files (bytes ∷ given) (Reads role name next) end is gave ends =
    let P : Option (List ℕ) → Type 0 = λ file. MatchOption file (end ≡ read_failed name) (λ text. IsOutcomeAt files (next text) end) in
    subst P (sym (told_file shelf files name bytes is gave.0)) (same_outcome shelf files given (next bytes) end is gave.2 ends)
same_outcome shelf files (bytes ∷ given) (Faulty name fault) end is gave ends = absurd gave
same_outcome shelf files (bytes ∷ given) WantsMemory end is gave ends = absurd gave
same_outcome shelf files (bytes ∷ given) (Ends ending) end is gave ends = absurd gave
same_outcome shelf files (bytes ∷ given) (Decides decision purpose) end is gave ends = absurd gave
same_outcome shelf files (bytes ∷ given) (Assumes decision) end is gave ends = absurd gave
same_outcome shelf files (bytes ∷ given) (Compares c) end is gave ends = absurd gave

-- what a call came to at what is left of its plan, where the files are told
data EndsTold (nodes : Arena) (files : Files) (end : Outcome) (rest : Plan) : Type 0 where
  IsOutcome : IsOutcomeAt files rest end → EndsTold nodes files end rest
  IsAtLimit : MeetsLimit nodes rest → end.status ≡ 6 → EndsTold nodes files end rest

ends_told : (shelf : ShelfCall) (files : Files) (nodes : Arena) (end : Outcome) (rest : Plan) → NoneFailed shelf files rest → EndsAt shelf nodes end rest
    → EndsTold nodes files end rest
ends_told shelf files nodes end (Reads role name next) well ends = by_file (files name) refl well
  where
    by_file : (file : Option (List ℕ)) → files name ≡ file → IfSome file (λ text. (ReadFailed shelf name → ⊥) × NoneFailed shelf files (next text))
        → EndsTold nodes files end (Reads role name next)
    by_file None is fails =
        let P : Option (List ℕ) → Type 0 = λ f. MatchOption f (end ≡ read_failed name) (λ text. IsOutcomeAt files (next text) end) in
        IsOutcome (subst P (sym is) ends.1)
    by_file (Some bytes) is fails = absurd (fails.0 ends.0)
ends_told shelf files nodes end (Faulty name fault) well ends = IsOutcome ends
ends_told shelf files nodes end WantsMemory well ends = absurd ends
ends_told shelf files nodes end (Ends ending) well ends = IsOutcome ends
ends_told shelf files nodes end (Decides decision purpose) well ends = by_decision ends.1
  where
    by_decision : IsDecided decision purpose nodes end → EndsTold nodes files end (Decides decision purpose)
    by_decision (Verdict is made) = IsOutcome is
    by_decision (Limit limited is) = IsAtLimit limited (ap (λ (o : Outcome). o.status) is)
ends_told shelf files nodes end (Assumes decision) well ends = by_assumption ends.1
  where
    by_assumption : IsSought decision nodes end → EndsTold nodes files end (Assumes decision)
    by_assumption (Sought is reads) = IsOutcome is
    by_assumption (Undecided limited is) = IsAtLimit limited (ap (λ (o : Outcome). o.status) is)
ends_told shelf files nodes end (Compares c) well ends = by_comparison ends
  where
    by_comparison : IsCompared c nodes end → EndsTold nodes files end (Compares c)
    by_comparison (Found is shown) = IsOutcome is
    by_comparison (Unfinished limited is) = IsAtLimit limited (ap (λ (o : Outcome). o.status) is)

-- what a call came to for its words
data ComesToTold (request : Request) (shelf : ShelfCall) (nodes : Arena) (files : Files) (end : Outcome) : Type 0 where
  GaveAnswer : IsAnswer request files end → ComesToTold request shelf nodes files end
  MetLimit : Reaches (MeetsLimit nodes) request shelf → end.status ≡ 6 → ComesToTold request shelf nodes files end
  LacksMemory : end ≡ no_memory → ComesToTold request shelf nodes files end

comes_told : (request : Request) (shelf : ShelfCall) (nodes : Arena) (files : Files) (end : Outcome) → shelf.files ≡ Some files
    → IfSome (command_of request.words) (λ command. NoneFailed shelf files (plan_of request.shows command)) → ComesTo request.shows (command_of request.words) shelf nodes end
    → ComesToTold request shelf nodes files end
comes_told request shelf nodes files end told = by_command (command_of request.words) refl
  where
    answers : (asked : Option Command) → command_of request.words ≡ asked
        → MatchOption asked (end ≡ usage) (λ command. IsOutcomeAt files (plan_of request.shows command) end) → ComesToTold request shelf nodes files end
    answers asked is ends =
        let P : Option Command → Type 0 = λ a. MatchOption a (end ≡ usage) (λ command. IsOutcomeAt files (plan_of request.shows command) end) in
        GaveAnswer (subst P (sym is) ends)

    by_command : (asked : Option Command) → command_of request.words ≡ asked → IfSome asked (λ command. NoneFailed shelf files (plan_of request.shows command))
        → ComesTo request.shows asked shelf nodes end → ComesToTold request shelf nodes files end
    by_command None is well comes = elim comes.ends [
      | inl same ↦ answers None is same
      | inr lacks ↦ LacksMemory lacks
    ]
    by_command (Some command) is well follows = by_end follows.ends
      where
        by_told : EndsTold nodes files end (rest_of follows.given (plan_of request.shows command)) → ComesToTold request shelf nodes files end
        by_told (IsOutcome ends) =
            answers (Some command) is (same_outcome shelf files follows.given (plan_of request.shows command) end told follows.gave ends)
        by_told (IsAtLimit limited six) =
            let P : Option Command → Type 0 = λ asked. IsSomeAnd asked (λ command. Leads (MeetsLimit nodes) shelf (plan_of request.shows command)) in
            MetLimit (subst P (sym is) (record { given = follows.given; gave = follows.gave; holds = limited })) six

        by_end : EndsAt shelf nodes end (rest_of follows.given (plan_of request.shows command)) ⊎ (end ≡ no_memory) → ComesToTold request shelf nodes files end
        by_end (inl ends) = by_told (ends_told shelf files nodes end (rest_of follows.given (plan_of request.shows command))
            (none_failed_later shelf files follows.given (plan_of request.shows command) told follows.gave well) ends)
        by_end (inr lacks) = LacksMemory lacks

-- what is said of the answer where the files are told
abbrev Answers : Request → ShelfCall → Arena → SinkCall → SinkCall → ℕ → Files → Type 0
Answers request shelf nodes out err status files =
    IsToldAs (IsAnswer request files) out err status ⊎ (Reaches (MeetsLimit nodes) request shelf × (status ≡ 6)) ⊎ IsTold no_memory out err status

pub gives_answer : (request : Request) (shelf : ShelfCall) (nodes : Arena) (out err : SinkCall) (status : ℕ) → Runs request shelf nodes out err status
    → GivesAnswer request shelf nodes out err status
gives_answer request shelf nodes out err status runs = at_files shelf.files refl
  where
    by_outcome : (files : Files) → IsTold runs.end out err status → ComesToTold request shelf nodes files runs.end
        → Answers request shelf nodes out err status files
    by_outcome files whole (GaveAnswer is) = inl (record { end = runs.end; is = is; told = whole })
    by_outcome files whole (MetLimit met six) = inr (inl (met, whole.is ∙ six))
    by_outcome files whole (LacksMemory same) = inr (inr (told_as runs.end no_memory out err status whole same))

    by_telling : (files : Files) → Tells runs.end out err status → ComesToTold request shelf nodes files runs.end → IsWell request shelf out err files
        → Answers request shelf nodes out err status files
    by_telling files (inl whole) comes well = by_outcome files whole comes
    by_telling files (inr cut) comes well = absurd (elim cut.cause [ inl rose ↦ well.writes_out rose | inr rose ↦ well.writes_err rose ])

    at_files : (told : Option Files) → shelf.files ≡ told → IfSome told (λ files. IsWell request shelf out err files
        → Answers request shelf nodes out err status files)
    at_files None is = tt
    at_files (Some files) is = λ well. by_telling files runs.tells (comes_told request shelf nodes files runs.end is well.reads runs.comes) well

-- a limit that is enough is not met
not_met : (nodes : Arena) (rest : Plan) → IsEnoughFor rest → MeetsLimit nodes rest → ⊥
not_met nodes (Reads role name next) is met = met
not_met nodes (Faulty name fault) is met = met
not_met nodes WantsMemory is met = met
not_met nodes (Ends ending) is met = met
not_met nodes (Decides decision purpose) is met =
    let below = met.below.below is.width is.wide in
    absurd (omega (arith, below, is.within))
not_met nodes (Assumes decision) is met =
    let enough = is met.rows met.stronger met.strengthened in
    let below = met.below.below enough.width enough.wide in
    absurd (omega (arith, below, enough.within))
not_met nodes (Compares c) is met =
    let enough = is met.matched in
    let below = met.below.below enough.first enough.second enough.both enough.first_wide enough.second_wide enough.both_wide in
    absurd (omega (arith, below, enough.within))

not_limited : (request : Request) (shelf : ShelfCall) (nodes : Arena) → HasEnoughNodes request shelf → Reaches (MeetsLimit nodes) request shelf → ⊥
not_limited request shelf nodes = by_command (command_of request.words)
  where
    by_command : (asked : Option Command) → IfSome asked (λ command.
        (given : List (List ℕ)) → AreGiven shelf.files given (plan_of request.shows command) → IsEnoughFor (rest_of given (plan_of request.shows command)))
        → IsSomeAnd asked (λ command. Leads (MeetsLimit nodes) shelf (plan_of request.shows command)) → ⊥
    by_command None has met = met
    by_command (Some command) has met = not_met nodes (rest_of met.given (plan_of request.shows command)) (has met.given met.gave) met.holds

pub is_complete : (request : Request) (shelf : ShelfCall) (nodes : Arena) (out err : SinkCall) (status : ℕ) → Runs request shelf nodes out err status
    → IsComplete request shelf out err status
is_complete request shelf nodes out err status runs = at_files shelf.files (gives_answer request shelf nodes out err status runs)
  where
    at_files : (told : Option Files)
        → IfSome told (λ files. IsWell request shelf out err files → Answers request shelf nodes out err status files)
        → IfSome told (λ files. IsWell request shelf out err files → HasEnoughNodes request shelf
        → IsToldAs (IsAnswer request files) out err status ⊎ IsTold no_memory out err status)
    at_files None gives = tt
    at_files (Some files) gives = λ well has. elim (gives well) [
      | inl told ↦ inl told
      | inr rest ↦ elim rest [
        | inl met ↦ absurd (not_limited request shelf nodes has met.0)
        | inr lacks ↦ inr lacks
      ]
    ]
