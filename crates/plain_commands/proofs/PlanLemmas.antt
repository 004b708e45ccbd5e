-- Going along a plan, from one part of a call to the next.
use Rattle.std.proofs.Common.{arith, ◌≡◌, ◌≢◌, ◌⊎◌, ℕ, ◌≤◌, List, [], ◌∷◌, ◌++◌, Some, None, Ok, Err, refl, sym, ap, subst, ◌∙◌, inl, inr}
use Rattle.plain_commands.proofs.Common.{IfOk, Option, Counts, Files, AreGiven, rest_of, EndsBy, FollowsBy, NothingDecided, FollowsAlone, ShelfCall, IsErrorOf, told, Ending, Plan, Reads, Faulty, WantsMemory, Ends, Decides, Assumes, Compares, GoesOn, StopsIn, outcome_of, Outcome, no_memory}
use Rattle.std.specs.declared.alloc.AllocError.{AllocError}
use Rattle.std.specs.declared.result.Result.{Result}
use Rattle.std.specs.List.{AllByRecursion}
use Rattle.cyc_io.proofs.FaultLemmas.{Rose_later}
use Rattle.plain_commands.specs.Shelves.{names_read}
use Rattle.parsed_files.specs.Faults.{Fault}
use Rattle.plain_commands.specs.Plans.{using}
use Rattle.plain_commands.specs.Reading.{FollowsStillAlone, IsStoppedBy, LeadsTo, StopsAt}
use Rattle.plain_commands.specs.Seen.{EndsAs}
use Rattle.plain_commands.specs.declared.outcome.Outcome.{Outcome as Told}

-- texts that are given one after another
gave_more : (files : Option Files) (given more : List (List ℕ)) (plan : Plan) → AreGiven files given plan → AreGiven files more (rest_of given plan)
    → AreGiven files (given ++ more) plan
gave_more files [] more plan gave later = later
gave_more files (bytes ∷ given) more (Reads role name next) gave later = (gave.0, gave.1, gave_more files given more (next bytes) gave.2 later)
gave_more files (bytes ∷ given) more (Faulty name fault) gave later = absurd gave
gave_more files (bytes ∷ given) more WantsMemory gave later = absurd gave
gave_more files (bytes ∷ given) more (Ends ending) gave later = absurd gave
gave_more files (bytes ∷ given) more (Decides decision purpose) gave later = absurd gave
gave_more files (bytes ∷ given) more (Assumes decision) gave later = absurd gave
gave_more files (bytes ∷ given) more (Compares c) gave later = absurd gave

rest_more : (files : Option Files) (given more : List (List ℕ)) (plan : Plan) → AreGiven files given plan
    → rest_of (given ++ more) plan ≡ rest_of more (rest_of given plan)
rest_more files [] more plan gave = refl
rest_more files (bytes ∷ given) more (Reads role name next) gave = rest_more files given more (next bytes) gave.2
rest_more files (bytes ∷ given) more (Faulty name fault) gave = absurd gave
rest_more files (bytes ∷ given) more WantsMemory gave = absurd gave
rest_more files (bytes ∷ given) more (Ends ending) gave = absurd gave
rest_more files (bytes ∷ given) more (Decides decision purpose) gave = absurd gave
rest_more files (bytes ∷ given) more (Assumes decision) gave = absurd gave
rest_more files (bytes ∷ given) more (Compares c) gave = absurd gave

-- the names of their files
names_first : (Q : List ℕ → Type 0) (given more : List (List ℕ)) (plan : Plan) → AllByRecursion Q (names_read (given ++ more) plan)
    → AllByRecursion Q (names_read given plan)
names_first Q [] [] plan all = all
names_first Q [] (bytes ∷ more) (Reads role name next) all = (all.0, tt)
names_first Q [] (bytes ∷ more) (Faulty name fault) all = tt
names_first Q [] (bytes ∷ more) WantsMemory all = tt
names_first Q [] (bytes ∷ more) (Ends ending) all = tt
names_first Q [] (bytes ∷ more) (Decides decision purpose) all = tt
names_first Q [] (bytes ∷ more) (Assumes decision) all = tt
names_first Q [] (bytes ∷ more) (Compares c) all = tt
names_first Q (bytes ∷ given) more (Reads role name next) all = (all.0, names_first Q given more (next bytes) all.1)
names_first Q (bytes ∷ given) more (Faulty name fault) all = tt
names_first Q (bytes ∷ given) more WantsMemory all = tt
names_first Q (bytes ∷ given) more (Ends ending) all = tt
names_first Q (bytes ∷ given) more (Decides decision purpose) all = tt
names_first Q (bytes ∷ given) more (Assumes decision) all = tt
names_first Q (bytes ∷ given) more (Compares c) all = tt

names_later : (Q : List ℕ → Type 0) (files : Option Files) (given more : List (List ℕ)) (plan : Plan) → AreGiven files given plan
    → AllByRecursion Q (names_read (given ++ more) plan) → AllByRecursion Q (names_read more (rest_of given plan))
names_later Q files [] more plan gave all = all
names_later Q files (bytes ∷ given) more (Reads role name next) gave all = names_later Q files given more (next bytes) gave.2 all.1
names_later Q files (bytes ∷ given) more (Faulty name fault) gave all = absurd gave
names_later Q files (bytes ∷ given) more WantsMemory gave all = absurd gave
names_later Q files (bytes ∷ given) more (Ends ending) gave all = absurd gave
names_later Q files (bytes ∷ given) more (Decides decision purpose) gave all = absurd gave
names_later Q files (bytes ∷ given) more (Assumes decision) gave all = absurd gave
names_later Q files (bytes ∷ given) more (Compares c) gave all = absurd gave

-- a read that failed in the second part failed in both together
ends_before : (comes : Plan → Outcome → Type 0) (files : Option Files) (a b c : Counts) (end : Outcome) (rest : Plan) → ((name : List ℕ) → a name ≤ b name)
    → EndsBy comes (record { files = files; before = b; now = c }) end rest → EndsBy comes (record { files = files; before = a; now = c }) end rest
ends_before comes files a b c end (Reads role name next) later ends = (Rose_later (a name) (b name) (c name) (later name) ends.0, ends.1)
ends_before comes files a b c end (Faulty name fault) later ends = ends
ends_before comes files a b c end WantsMemory later ends = ends
ends_before comes files a b c end (Ends ending) later ends = ends
ends_before comes files a b c end (Decides decision purpose) later ends = ends
ends_before comes files a b c end (Assumes decision) later ends = ends
ends_before comes files a b c end (Compares comparison) later ends = ends

follows_more : (comes : Plan → Outcome → Type 0) (files : Option Files) (a b c : Counts) (end : Outcome) (plan rest : Plan)
    → (leads : LeadsTo plan rest (record { files = files; before = a; now = b }))
    → FollowsBy comes (rest_of leads.given plan) (record { files = files; before = b; now = c }) end
    → FollowsBy comes plan (record { files = files; before = a; now = c }) end
follows_more comes files a b c end plan rest leads follows = record {
  given = leads.given ++ follows.given;
  gave = gave_more files leads.given follows.given plan leads.gave follows.gave;
  counts = record {
    later = λ other. omega (arith, leads.counts.later other, follows.counts.later other);
    others = λ other differs.
        follows.counts.others other (names_later (λ name. other ≢ name) files leads.given follows.given plan leads.gave differs)
        ∙ leads.counts.others other (names_first (λ name. other ≢ name) leads.given follows.given plan differs);
  };
  ends = elim follows.ends [ inl at ↦ inl (ended at) | inr lacks ↦ inr lacks ];
}
  where
    ended : EndsBy comes (record { files = files; before = b; now = c }) end (rest_of follows.given (rest_of leads.given plan))
        → EndsBy comes (record { files = files; before = a; now = c }) end (rest_of (leads.given ++ follows.given) plan)
    ended at =
        let P : Plan → Type 0 = EndsBy comes (record { files = files; before = a; now = c }) end in
        subst P (sym (rest_more files leads.given follows.given plan leads.gave))
        (ends_before comes files a b c end (rest_of follows.given (rest_of leads.given plan)) leads.counts.later at)

-- What leads on in one part of a call is followed in the next.
follows_after : (comes : Plan → Outcome → Type 0) (files later : Option Files) (a b c : Counts) (end : Outcome) (plan rest : Plan) → later ≡ files
    → LeadsTo plan rest (record { files = files; before = a; now = b }) → FollowsBy comes rest (record { files = later; before = b; now = c }) end
    → FollowsBy comes plan (record { files = files; before = a; now = c }) end
follows_after comes files later a b c end plan rest same leads follows =
    let P : Option Files → Type 0 = λ f. FollowsBy comes rest (record { files = f; before = b; now = c }) end in
    let Q : Plan → Type 0 = λ p. FollowsBy comes p (record { files = files; before = b; now = c }) end in
    follows_more comes files a b c end plan rest leads (subst Q (sym leads.is) (subst P same follows))

-- nothing is read any more
pub follows_still : (comes : Plan → Outcome → Type 0) (files : Option Files) (counts : Counts) (end : Outcome) (rest : Plan)
    → EndsBy comes (record { files = files; before = counts; now = counts }) end rest ⊎ (end ≡ no_memory)
    → FollowsBy comes rest (record { files = files; before = counts; now = counts }) end
follows_still comes files counts end rest ends = record {
  given = [];
  gave = tt;
  counts = record { later = λ other. omega arith; others = λ other differs. refl };
  ends = ends;
}

-- A call that decides nothing goes along its plan whatever comes of decisions.
ends_whatever : (comes : Plan → Outcome → Type 0) (shelf : ShelfCall) (end : Outcome) (rest : Plan) → EndsBy NothingDecided shelf end rest
    → EndsBy comes shelf end rest
ends_whatever comes shelf end (Reads role name next) ends = ends
ends_whatever comes shelf end (Faulty name fault) ends = ends
ends_whatever comes shelf end WantsMemory ends = ends
ends_whatever comes shelf end (Ends ending) ends = ends
ends_whatever comes shelf end (Decides decision purpose) ends = absurd ends
ends_whatever comes shelf end (Assumes decision) ends = absurd ends
ends_whatever comes shelf end (Compares comparison) ends = absurd ends

pub follows_whatever : (comes : Plan → Outcome → Type 0) (plan : Plan) (shelf : ShelfCall) (end : Outcome) → FollowsAlone plan shelf end
    → FollowsBy comes plan shelf end
follows_whatever comes plan shelf end follows = record {
  given = follows.given;
  gave = follows.gave;
  counts = follows.counts;
  ends = elim follows.ends [ inl at ↦ inl (ends_whatever comes shelf end (rest_of follows.given plan) at) | inr lacks ↦ inr lacks ];
}

pub stops_whatever : {T : Type 0} (comes : Plan → Outcome → Type 0) (plan : (T → Plan) → Plan) (next : T → Plan) (shelf : ShelfCall) (end : Outcome)
    → StopsIn plan shelf end → FollowsBy comes (plan next) shelf end
stops_whatever comes plan next shelf end stops = follows_whatever comes (plan next) shelf end (stops.follows next)

-- What leads on in one part of a call leads on in the next.
leads_more : (files : Option Files) (a b c : Counts) (plan rest last : Plan) → (leads : LeadsTo plan rest (record { files = files; before = a; now = b }))
    → LeadsTo (rest_of leads.given plan) last (record { files = files; before = b; now = c })
    → LeadsTo plan last (record { files = files; before = a; now = c })
leads_more files a b c plan rest last leads more = record {
  given = leads.given ++ more.given;
  gave = gave_more files leads.given more.given plan leads.gave more.gave;
  counts = record {
    later = λ other. omega (arith, leads.counts.later other, more.counts.later other);
    others = λ other differs.
        more.counts.others other (names_later (λ name. other ≢ name) files leads.given more.given plan leads.gave differs)
        ∙ leads.counts.others other (names_first (λ name. other ≢ name) leads.given more.given plan differs);
  };
  is = rest_more files leads.given more.given plan leads.gave ∙ more.is;
}

pub leads_after : (files later : Option Files) (a b c : Counts) (plan rest last : Plan) → later ≡ files
    → LeadsTo plan rest (record { files = files; before = a; now = b }) → LeadsTo rest last (record { files = later; before = b; now = c })
    → LeadsTo plan last (record { files = files; before = a; now = c })
leads_after files later a b c plan rest last same leads more =
    let P : Option Files → Type 0 = λ f. LeadsTo rest last (record { files = f; before = b; now = c }) in
    let Q : Plan → Type 0 = λ p. LeadsTo p last (record { files = files; before = b; now = c }) in
    leads_more files a b c plan rest last leads (subst Q (sym leads.is) (subst P same more))

-- A command goes on with a file that it uses.
pub goes_on : {T : Type 0} (comes : Plan → Outcome → Type 0) (plan : (T → Plan) → Plan) (value : T) (next : T → Plan) (files later : Option Files) (a b c : Counts) (end : Outcome)
    → later ≡ files → GoesOn plan value (record { files = files; before = a; now = b })
    → FollowsBy comes (next value) (record { files = later; before = b; now = c }) end
    → FollowsBy comes (plan next) (record { files = files; before = a; now = c }) end
goes_on comes plan value next files later a b c end same goes follows =
    follows_after comes files later a b c end (plan next) (next value) same (goes.leads next) follows

-- A text means what is used of it.
pub used : {T : Type 0} (comes : Plan → Outcome → Type 0) (name : List ℕ) (meaning : Result T (Option Fault)) (value : T) (next : T → Plan) (files : Option Files) (a b : Counts) (end : Outcome)
    → meaning ≡ Ok value → FollowsBy comes (next value) (record { files = files; before = a; now = b }) end
    → FollowsBy comes (using name meaning next) (record { files = files; before = a; now = b }) end
used comes name meaning value next files a b end is follows =
    let P : Plan → Type 0 = λ p. FollowsBy comes p (record { files = files; before = a; now = b }) end in
    subst P (sym (ap (λ r. using name r next) is)) follows

-- Or its fault ends the call.
pub stopped : {T : Type 0} (comes : Plan → Outcome → Type 0) (name : List ℕ) (meaning : Result T (Option Fault)) (next : T → Plan) (files : Option Files) (counts : Counts) (end : Outcome)
    → IsStoppedBy name meaning end → FollowsBy comes (using name meaning next) (record { files = files; before = counts; now = counts }) end
stopped {T} comes name meaning next files counts end stop = by_error stop.error stop.is stop.stops
  where
    at : Plan → Type 0
    at p = FollowsBy comes p (record { files = files; before = counts; now = counts }) end

    by_error : (error : Option Fault) → IsErrorOf meaning error → StopsAt name error end → at (using name meaning next)
    by_error None is stops = follows_still comes files counts end (using name meaning next) (inr stops)
    by_error (Some fault) is stops =
        subst at (sym (ap (λ r. using name r next) is))
        (follows_still comes files counts end (Faulty name fault) (elim stops [ inl told ↦ inl told | inr lacks ↦ inr lacks ]))

-- The same, whatever the shelf is.
pub still_ends : (ending : Ending) (end : Outcome) → (end ≡ told ending) ⊎ (end ≡ no_memory) → FollowsStillAlone (Ends ending) end
still_ends ending end ends = record { follows = λ files counts. follows_still NothingDecided files counts end (Ends ending) ends }

pub still_used : {T : Type 0} (name : List ℕ) (meaning : Result T (Option Fault)) (value : T) (next : T → Plan) (end : Outcome)
    → meaning ≡ Ok value → FollowsStillAlone (next value) end → FollowsStillAlone (using name meaning next) end
still_used name meaning value next end is follows = record {
  follows = λ files counts. used NothingDecided name meaning value next files counts counts end is (follows.follows files counts);
}

pub still_stopped : {T : Type 0} (name : List ℕ) (meaning : Result T (Option Fault)) (next : T → Plan) (end : Outcome)
    → IsStoppedBy name meaning end → FollowsStillAlone (using name meaning next) end
still_stopped name meaning next end stop = record { follows = λ files counts. stopped NothingDecided name meaning next files counts end stop }

-- A call that reads a file goes on without reading.
pub goes_on_still : {T : Type 0} (plan : (T → Plan) → Plan) (value : T) (next : T → Plan) (files later : Option Files) (a b : Counts) (end : Outcome)
    → later ≡ files → GoesOn plan value (record { files = files; before = a; now = b }) → FollowsStillAlone (next value) end
    → FollowsAlone (plan next) (record { files = files; before = a; now = b }) end
goes_on_still plan value next files later a b end same goes follows =
    goes_on NothingDecided plan value next files later a b b end same goes (follows.follows later b)

-- And it goes on with further files.
pub goes_on_alone : {T : Type 0} (plan : (T → Plan) → Plan) (value : T) (next : T → Plan) (files later : Option Files) (a b c : Counts) (end : Outcome)
    → later ≡ files → GoesOn plan value (record { files = files; before = a; now = b })
    → FollowsAlone (next value) (record { files = later; before = b; now = c }) end
    → FollowsAlone (plan next) (record { files = files; before = a; now = c }) end
goes_on_alone plan value next files later a b c end same goes follows = goes_on NothingDecided plan value next files later a b c end same goes follows

-- want of memory
pub still_lacks : (plan : Plan) (end : Outcome) → end ≡ no_memory → FollowsStillAlone plan end
still_lacks plan end lacks = record { follows = λ files counts. follows_still NothingDecided files counts end plan (inr lacks) }

-- what is told, or want of memory
pub ends_or_lacks : (result : Result Told AllocError) (P : Outcome → Type 0) (end : Outcome) → EndsAs result end → IfOk result (λ outcome. P (outcome_of outcome))
    → P end ⊎ (end ≡ no_memory)
ends_or_lacks (Ok outcome) P end is holds = inl (subst P (sym is) holds)
ends_or_lacks (Err lacks) P end is holds = inr is
