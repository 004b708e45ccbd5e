-- The cause of each status of a run.
use Rattle.std.proofs.Common.{◌≡◌, ◌≢◌, ◌≤◌, ◌⊎◌, ℕ, Bool, true, false, List, [], ◌∷◌, Some, None, refl, sym, ap, subst, ◌∙◌, inl, inr, arith}
use Rattle.cyc_tool.proofs.Common.{nat_le, if◌then◌else◌, Option, Arena, Parts, IsNetlist, written, IsRefusalOf, Refusal, Undetermined, told, ShelfCall, AreGiven, EndsAt, rest_of, ComesTo, Follows, IsDecided, IsSought, IsCompared, Limit, Sought, Undecided, Found, Unfinished, Runs, Ending, Prints, Outgrows, Purpose, Judges, Rewrites, WritesGraph, Explains, Demonstrates, Storms, Plan, Reads, Faulty, WantsMemory, Ends, Decides, Assumes, Compares, plan_of, Outcome, no_memory, Form, Command}
use Rattle.commands.specs.declared.encoding.Encoding.{Encoding}
use Rattle.std.specs.Prelude.{◌+◌, IsSomeAnd, length}
use Rattle.std.proofs.lemmas.Option.{none-some}
use Rattle.assumptions.proofs.LawLemmas.{weakest_is_exact}
use Rattle.assumptions.specs.Assumptions.{IsAssumption}
use Rattle.assumptions.specs.declared.assumption.Assumption.{Assumption}
use Rattle.assumptions.specs.declared.assumption.Assumption.TheVariants.{Stands, Weakest, Refused, TooManyRows, TooLarge}
use Rattle.schedules.proofs.HarmlessLemmas.{accepted_is_harmless}
use Rattle.cyc_base.specs.declared.limits.TheConstants.{MAX_REWRITTEN_ITEMS}
use Rattle.aig_core.specs.Building.{built}
use Rattle.aig_core.specs.declared.building.Built.{Built}
use Rattle.rewriting.specs.Graphs.{graph_of, most_ands}
use Rattle.rewriting.specs.Rewriting.{rewritten, rewritten_size}
use Rattle.refusals.specs.Refusals.{Proves}
use Rattle.refusals.specs.declared.refusal.Refusal.TheVariants.{Initial, EmptyCare, Leaves as LeavesCare}
use Rattle.storm.specs.Storms.{most_events}
use Rattle.storm.specs.Laws.{StormsNeverRest}
use Rattle.refusals.proofs.LawLemmas.{accepted_without_refusal, refusal_is_shown}
use Rattle.miters.specs.declared.answer.Answer.{Answer}
use Rattle.miters.specs.declared.answer.Answer.TheVariants.{Equal as AreEqual, Unmatched, First, Second, Output, Latch}
use Rattle.miters.specs.Rebound.{found}
use Rattle.miters.specs.Texts.{answer_text}
use Rattle.miters.specs.Shown.{IsShown}
use Rattle.miters.specs.Told.{is_equal}
use Rattle.cyc_tool.specs.Answer.{verdict_of, IsAcceptedOutcome, IsGraphedByCases, IsRefusalOutcome, IsTooLarge, IsVerdictOutcome}
use Rattle.plain_commands.specs.Sinks.{SinkCall, WriteFailed, Takes, IsTold, Tells}
use Rattle.cyc_tool.specs.Calls.{IsMadeFor, IsWritten, Verdict}
use Rattle.cyc_tool.specs.Causes.{IsHelped, IsHelpedBy, IsWithoutCommand, Leads, Reaches, IsFaulty, IsUnread, MeetsLimit, IsVerdict, IsStormed, HasFormByCases, HasGraphByCases, HasMade, HasWeakest, IsRefusedStill, AreToldEqual, IsDoneWith}
use Rattle.cyc_tool.specs.Endings.{accepted_told, aiger_told, assumption_told, comparison_told, found_told, refused_told}
use Rattle.plain_commands.specs.Texts.{graph_text}
use Rattle.plain_commands.specs.Storms.{events_of, events_told, storm_text}
use Rattle.plain_commands.specs.Plans.{PrintsBeside, Refuses, Declines, WantsRows, Decision, Comparison}
use Rattle.plain_commands.specs.Requests.{Request}
use Rattle.report.specs.Help.{help_text, topic_text, version_text}
use Rattle.commands.specs.Words.{Decide, Assume, Equal, Flat, Loops, Sim, Delays, Demo, Help, HelpOn, Version, command_of}

abbrev status_of : Outcome → ℕ
status_of end = end.status

-- the status of an ending
pub data IsEndStatus (status : ℕ) : Type 0 where
  Zero : status ≡ 0 → IsEndStatus status
  One : status ≡ 1 → IsEndStatus status
  Eight : status ≡ 8 → IsEndStatus status

-- which is no other
no_other : (status other : ℕ) → IsEndStatus status → status ≡ other → 2 ≤ other → other ≤ 7 → ⊥
no_other status other (Zero is) at least most = omega (arith, is, at, least)
no_other status other (One is) at least most = omega (arith, is, at, least)
no_other status other (Eight is) at least most = omega (arith, is, at, most)

-- what a status shows at what is left of the plan
data Shown (shelf : ShelfCall) (nodes : Arena) (out err : SinkCall) (rest : Plan) (status : ℕ) : Type 0 where
  Unread : IsUnread shelf rest → status ≡ 4 → Shown shelf nodes out err rest status
  Fault : IsFaulty rest → status ≡ 3 → Shown shelf nodes out err rest status
  Done : IsDoneWith out err status rest → IsEndStatus status → Shown shelf nodes out err rest status
  Full : MeetsLimit nodes rest → status ≡ 6 → Shown shelf nodes out err rest status

ending_status : (ending : Ending) (status : ℕ) → status ≡ status_of (told ending) → IsEndStatus status
ending_status (Prints text) status is = Zero is
ending_status (PrintsBeside text lines) status is = Zero is
ending_status (Refuses text) status is = One is
ending_status (Declines text) status is = One is
ending_status (Outgrows size) status is = Eight is
ending_status (WantsRows most) status is = Eight is

explained_is_one : (form : Form) (net : Parts) (refused : Refusal) (end : Outcome) → IsRefusalOutcome net (Explains form) refused end → end.status ≡ 1
explained_is_one form net (Undetermined v wire) end ends = ap status_of ends.is
explained_is_one form net (Initial q) end ends = ap status_of ends
explained_is_one form net EmptyCare end ends = ap status_of ends
explained_is_one form net (LeavesCare v q) end ends = ap status_of ends

refusal_status : (net : Parts) (purpose : Purpose) (refused : Refusal) (end : Outcome) → IsRefusalOutcome net purpose refused end → IsEndStatus end.status
refusal_status net Judges refused end ends = ending_status (refused_told net Judges refused) end.status (ap status_of ends)
refusal_status net (Rewrites cases) refused end ends = ending_status (refused_told net (Rewrites cases) refused) end.status (ap status_of ends)
refusal_status net (WritesGraph encoding cases) refused end ends = ending_status (refused_told net (WritesGraph encoding cases) refused) end.status (ap status_of ends)
refusal_status net (Explains form) refused end ends = One (explained_is_one form net refused end ends)
refusal_status net (Demonstrates cells) refused end ends = ending_status (refused_told net (Demonstrates cells) refused) end.status (ap status_of ends)
refusal_status net (Storms rounds) refused end ends = ending_status (refused_told net (Storms rounds) refused) end.status (ap status_of ends)

told_le : (n m : ℕ) → nat_le n m ≡ true → n ≤ m
told_le n m told = grind (arith, told)

too_large_status : (decision : Decision) (end : Outcome) → IsTooLarge decision end → IsEndStatus end.status
too_large_status decision end ends = Eight (ap status_of ends.is)

accepted_status : (decision : Decision) (purpose : Purpose) (end : Outcome) → IsAcceptedOutcome decision purpose end → IsEndStatus end.status
accepted_status decision (Rewrites None) end ends = ending_status (accepted_told decision (Rewrites None)) end.status (ap status_of ends)
accepted_status decision (Rewrites (Some cases)) end ends = elim ends [
  | inl written_so ↦ Zero (ap status_of written_so.is)
  | inr outgrown ↦ too_large_status decision end outgrown
]
accepted_status decision (WritesGraph encoding None) end ends = ending_status (accepted_told decision (WritesGraph encoding None)) end.status (ap status_of ends)
accepted_status decision (WritesGraph encoding (Some cases)) end ends = elim ends [
  | inl graphed ↦ ending_status (aiger_told encoding graphed.other (built graphed.other)) end.status (ap status_of graphed.is)
  | inr outgrown ↦ too_large_status decision end outgrown
]
accepted_status decision Judges end ends = ending_status (accepted_told decision Judges) end.status (ap status_of ends)
accepted_status decision (Explains form) end ends = ending_status (accepted_told decision (Explains form)) end.status (ap status_of ends)
accepted_status decision (Demonstrates cells) end ends = ending_status (accepted_told decision (Demonstrates cells)) end.status (ap status_of ends)
accepted_status decision (Storms rounds) end ends = ending_status (accepted_told decision (Storms rounds)) end.status (ap status_of ends)

verdict_status : (decision : Decision) (purpose : Purpose) (verdict : Option Refusal) (end : Outcome) → IsVerdictOutcome decision purpose verdict end
    → IsEndStatus end.status
verdict_status decision purpose None end ends = accepted_status decision purpose end ends
verdict_status decision purpose (Some refused) end ends = refusal_status decision.net purpose refused end ends

-- the verdict of a decision, and what shows it
verdict_is : (decision : Decision) (verdict : Option Refusal) → IsNetlist decision.net → verdict_of decision ≡ verdict → IsVerdict decision verdict
verdict_is decision None valid is =
    accepted_is_harmless decision.net decision.care decision.observe valid ((accepted_without_refusal decision.net decision.care decision.observe valid).0 is)
verdict_is decision (Some refused) valid is =
    record { is = is; shown = (refusal_is_shown decision.net decision.care decision.observe refused valid is).1 }

-- ---- what is on out where the status is 0

module _ (out : SinkCall) (end : Outcome) (took : Takes out end.out) (done : end.status ≡ 0) where
  out_is : (same_end : Outcome) → end ≡ same_end → Takes out same_end.out
  out_is same_end same = subst (λ (o : Outcome). Takes out o.out) same took

  -- no other status
  not_one : {A : Type 0} → end.status ≡ 1 → A
  not_one one = absurd (omega (arith, done, one))

  not_eight : {A : Type 0} → end.status ≡ 8 → A
  not_eight eight = absurd (omega (arith, done, eight))

  has_rewritten : (decision : Decision) (verdict : Option Refusal) → IsVerdictOutcome decision (Rewrites None) verdict end → IsMadeFor decision (Rewrites None) verdict
      → HasMade decision (Rewrites None) out
  has_rewritten decision (Some refused) ends made = not_one (ap status_of ends)
  has_rewritten decision None ends made = by_size (nat_le size MAX_REWRITTEN_ITEMS) refl ends
    where
      size : ℕ
      size = rewritten_size decision.net decision.care

      other : Parts
      other = rewritten decision.net decision.care

      by_size : (fits : Bool) → nat_le size MAX_REWRITTEN_ITEMS ≡ fits → end ≡ told (if fits then Prints (written other) else Outgrows size)
          → HasMade decision (Rewrites None) out
      by_size true fits same = (made (let le : size ≤ MAX_REWRITTEN_ITEMS = grind (arith, fits) in le), out_is _ same)
      by_size false fits same = not_eight (ap status_of same)

  has_graph : (encoding : Encoding) (decision : Decision) (verdict : Option Refusal) → IsVerdictOutcome decision (WritesGraph encoding None) verdict end → IsMadeFor decision (WritesGraph encoding None) verdict
      → HasMade decision (WritesGraph encoding None) out
  has_graph encoding decision (Some refused) ends made = not_one (ap status_of ends)
  has_graph encoding decision None ends made = by_size (nat_le size MAX_REWRITTEN_ITEMS) refl ends
    where
      size : ℕ
      size = rewritten_size decision.net decision.care

      other : Parts
      other = rewritten decision.net decision.care

      graph : Built
      graph = graph_of decision.net decision.care

      ands : ℕ
      ands = length graph.aig.ands

      by_ands : size ≤ MAX_REWRITTEN_ITEMS → (fits : Bool) → nat_le ands most_ands ≡ fits
          → end ≡ told (if fits then Prints (graph_text encoding other graph) else Outgrows (most_ands + 1)) → HasMade decision (WritesGraph encoding None) out
      by_ands small true fits same = (made small (let le : ands ≤ most_ands = grind (arith, fits) in le), out_is _ same)
      by_ands small false fits same = not_eight (ap status_of same)

      by_size : (fits : Bool) → nat_le size MAX_REWRITTEN_ITEMS ≡ fits → end ≡ told (if fits then aiger_told encoding other graph else Outgrows size)
          → HasMade decision (WritesGraph encoding None) out
      by_size true fits same = by_ands (let le : size ≤ MAX_REWRITTEN_ITEMS = grind (arith, fits) in le) (nat_le ands most_ands) refl same
      by_size false fits same = not_eight (ap status_of same)

  -- by cases
  has_form_by_cases : (decision : Decision) (cases : ℕ) (verdict : Option Refusal) → IsVerdictOutcome decision (Rewrites (Some cases)) verdict end
      → HasFormByCases decision out
  has_form_by_cases decision cases (Some refused) ends = not_one (ap status_of ends)
  has_form_by_cases decision cases None ends = elim ends [
    | inl made ↦ record { other = made.other; form = made.form; text = out_is _ made.is }
    | inr outgrown ↦ not_eight (ap status_of outgrown.is)
  ]

  has_graph_by_cases : (encoding : Encoding) (decision : Decision) (cases : ℕ) (verdict : Option Refusal) → IsVerdictOutcome decision (WritesGraph encoding (Some cases)) verdict end
      → HasGraphByCases encoding decision out
  has_graph_by_cases encoding decision cases (Some refused) ends = not_one (ap status_of ends)
  has_graph_by_cases encoding decision cases None ends = elim ends [
    | inl made ↦ by_ands made (nat_le (length (built made.other).aig.ands) most_ands) refl made.is
    | inr outgrown ↦ not_eight (ap status_of outgrown.is)
  ]
    where
      by_ands : (made : IsGraphedByCases encoding decision end) (fits : Bool) → nat_le (length (built made.other).aig.ands) most_ands ≡ fits
          → end ≡ told (if fits then Prints (graph_text encoding made.other (built made.other)) else Outgrows (most_ands + 1)) → HasGraphByCases encoding decision out
      by_ands made true fits same = record {
        other = made.other;
        form = made.form;
        graph = made.graph (told_le (length (built made.other).aig.ands) most_ands fits);
        text = out_is _ same;
      }
      by_ands made false fits same = not_eight (ap status_of same)

  has_stormed : StormsNeverRest → (decision : Decision) (rounds : ℕ) (verdict : Option Refusal) → IsNetlist decision.net → verdict_of decision ≡ verdict
      → IsVerdictOutcome decision (Storms rounds) verdict end → IsStormed decision rounds out
  has_stormed law decision rounds None valid is ends = not_one (ap status_of ends)
  has_stormed law decision rounds (Some (Initial q)) valid is ends = not_one (ap status_of ends)
  has_stormed law decision rounds (Some EmptyCare) valid is ends = not_one (ap status_of ends)
  has_stormed law decision rounds (Some (LeavesCare v q)) valid is ends = not_one (ap status_of ends)
  has_stormed law decision rounds (Some (Undetermined v s)) valid is ends = by_events (nat_le (events_of decision.net v rounds) most_events) ends
    where
      known : IsRefusalOf decision.net (Undetermined v s) × (Undetermined v s ≢ EmptyCare → Proves decision.net decision.care (Undetermined v s))
      known = refusal_is_shown decision.net decision.care decision.observe (Undetermined v s) valid is

      by_events : (few : Bool)
          → end ≡ told (if few then Prints (storm_text decision.net v rounds) else Outgrows (events_told (events_of decision.net v rounds)))
          → IsStormed decision rounds out
      by_events true same = record {
        vector = v;
        wire = s;
        refused = is;
        shown = known.1 (λ e. cc);
        storm = law decision.net v rounds valid known.0.width;
        text = out_is _ same;
      }
      by_events false same = not_eight (ap status_of same)

  has_made : StormsNeverRest → (decision : Decision) (purpose : Purpose) (verdict : Option Refusal) → IsNetlist decision.net → verdict_of decision ≡ verdict
      → IsVerdictOutcome decision purpose verdict end → IsMadeFor decision purpose verdict → HasMade decision purpose out
  has_made law decision (Rewrites None) verdict valid is ends made = has_rewritten decision verdict ends made
  has_made law decision (Rewrites (Some cases)) verdict valid is ends made = has_form_by_cases decision cases verdict ends
  has_made law decision (WritesGraph encoding None) verdict valid is ends made = has_graph encoding decision verdict ends made
  has_made law decision (WritesGraph encoding (Some cases)) verdict valid is ends made = has_graph_by_cases encoding decision cases verdict ends
  has_made law decision (Storms rounds) verdict valid is ends made = has_stormed law decision rounds verdict valid is ends
  has_made law decision Judges None valid is ends made = out_is _ ends
  has_made law decision Judges (Some refused) valid is ends made = not_one (ap status_of ends)
  has_made law decision (Explains form) None valid is ends made = out_is _ ends
  has_made law decision (Explains form) (Some refused) valid is ends made = not_one (explained_is_one form decision.net refused end ends)
  has_made law decision (Demonstrates cells) None valid is ends made = out_is _ ends
  has_made law decision (Demonstrates cells) (Some refused) valid is ends made = not_one (ap status_of ends)

  has_weakest : (decision : Decision) (answer : Assumption) → IsNetlist decision.net
      → IsAssumption decision.net decision.care decision.observe answer → end ≡ told (assumption_told decision.net decision.care answer)
      → IsWritten decision.net decision.care answer → HasWeakest decision out
  has_weakest decision Stands valid found same reads = record {
    stronger = decision.care;
    exact = record {
      invariant = refl;
      lets = λ v width state.
          (λ allowed. (allowed, found.accepted.determined v (record { width = width; state = state; allowed = allowed })), λ both. both.0);
    };
    harmless = accepted_is_harmless decision.net decision.care decision.observe valid found.accepted;
    text = out_is _ same;
    reads_back = reads;
  }
  has_weakest decision (Weakest stronger) valid found same reads = record {
    stronger = stronger;
    exact = record {
      invariant = found.strengthened.invariant;
      lets = λ v. weakest_is_exact decision.net decision.care decision.observe stronger v found;
    };
    harmless = accepted_is_harmless decision.net stronger decision.observe valid found.accepted;
    text = out_is _ same;
    reads_back = reads;
  }
  has_weakest decision (Refused refused) valid found same reads = not_one (ap status_of same)
  has_weakest decision TooManyRows valid found same reads = not_eight (ap status_of same)
  has_weakest decision (TooLarge gates) valid found same reads = not_eight (ap status_of same)

  are_equal : (c : Comparison) (answer : Answer) → end ≡ told (found_told (is_equal answer) (answer_text c.first c.second answer))
      → IsShown c.first c.second c.care answer → AreToldEqual c out
  are_equal c AreEqual same shown = (shown, out_is _ same)
  are_equal c (Unmatched name) same shown = not_one (ap status_of same)
  are_equal c (First refused) same shown = not_one (ap status_of same)
  are_equal c (Second refused) same shown = not_one (ap status_of same)
  are_equal c (Output v at) same shown = not_one (ap status_of same)
  are_equal c (Latch v at) same shown = not_one (ap status_of same)

-- ---- and where it is 1 though an assumption was looked for

refused_still : (decision : Decision) (answer : Assumption) (end : Outcome) → IsNetlist decision.net → IsAssumption decision.net decision.care decision.observe answer
    → end ≡ told (assumption_told decision.net decision.care answer) → end.status ≡ 1 → IsRefusedStill decision
refused_still decision (Refused refused) end valid found same one = record {
  refused = refused;
  still = found;
  shown = (refusal_is_shown decision.net found.refused.stronger decision.observe refused valid found.refused.refused).1;
}
refused_still decision Stands end valid found same one = let status = ap status_of same in absurd (omega (arith, status, one))
refused_still decision (Weakest stronger) end valid found same one = let status = ap status_of same in absurd (omega (arith, status, one))
refused_still decision TooManyRows end valid found same one = let status = ap status_of same in absurd (omega (arith, status, one))
refused_still decision (TooLarge gates) end valid found same one = let status = ap status_of same in absurd (omega (arith, status, one))

-- ---- what a status shows at what is left of the plan

-- the other way to say what was told
pub told_as : (end same_end : Outcome) (out err : SinkCall) (status : ℕ) → IsTold end out err status → end ≡ same_end → IsTold same_end out err status
told_as end same_end out err status whole same = let P : Outcome → Type 0 = λ o. IsTold o out err status in subst P same whole

module _ (law : StormsNeverRest) (shelf : ShelfCall) (nodes : Arena) (out err : SinkCall) (end : Outcome) (status : ℕ) (whole : IsTold end out err status) where
  -- a status of this outcome
  status_is : IsEndStatus end.status → IsEndStatus status
  status_is = subst IsEndStatus (sym whole.is)

  decision_shown : (decision : Decision) (purpose : Purpose) → IsNetlist decision.net → IsDecided decision purpose nodes end
      → Shown shelf nodes out err (Decides decision purpose) status
  decision_shown decision purpose valid (Limit limited same) = Full limited (whole.is ∙ ap status_of same)
  decision_shown decision purpose valid (Verdict ends made) =
      Done (record {
        verdict = verdict_of decision;
        shown = verdict_is decision (verdict_of decision) valid refl;
        told = record { end = end; is = ends; told = whole };
        made = λ done. has_made out end whole.out_text (sym whole.is ∙ done) law decision purpose (verdict_of decision) valid refl ends made;
      }) (status_is (verdict_status decision purpose (verdict_of decision) end ends))

  assumption_shown : (decision : Decision) → IsNetlist decision.net → IsSought decision nodes end → Shown shelf nodes out err (Assumes decision) status
  assumption_shown decision valid (Undecided limited same) = Full limited (whole.is ∙ ap status_of same)
  assumption_shown decision valid (Sought sought reads) =
      Done (record {
        told = record { end = end; is = sought; told = whole };
        harmless = λ done. has_weakest out end whole.out_text (sym whole.is ∙ done) decision sought.answer valid sought.found sought.is reads;
        refused = λ one. refused_still decision sought.answer end valid sought.found sought.is (sym whole.is ∙ one);
      }) (status_is (ending_status (assumption_told decision.net decision.care sought.answer) end.status (ap status_of sought.is)))

  comparison_shown : (c : Comparison) → IsCompared c nodes end → Shown shelf nodes out err (Compares c) status
  comparison_shown c (Unfinished limited same) = Full limited (whole.is ∙ ap status_of same)
  comparison_shown c (Found same shown) =
      Done (record {
        shown = shown;
        told = told_as end _ out err status whole same;
        equal = λ done. are_equal out end whole.out_text (sym whole.is ∙ done) c (found c.first c.second c.care) same shown.shown;
      }) (status_is (ending_status (comparison_told c) end.status (ap status_of same)))

  shown_at : (rest : Plan) → EndsAt shelf nodes end rest → Shown shelf nodes out err rest status
  shown_at (Reads role name next) ends = Unread ends.0 (whole.is ∙ ap status_of ends.1)
  shown_at (Faulty name fault) ends = Fault tt (whole.is ∙ ap status_of ends)
  shown_at WantsMemory ends = absurd ends
  shown_at (Ends ending) ends = Done (told_as end _ out err status whole ends) (status_is (ending_status ending end.status (ap status_of ends)))
  shown_at (Decides decision purpose) ends = decision_shown decision purpose ends.0 ends.1
  shown_at (Assumes decision) ends = assumption_shown decision ends.0 ends.1
  shown_at (Compares c) ends = comparison_shown c ends

-- what a status shows of a run
data Cause (request : Request) (shelf : ShelfCall) (nodes : Arena) (out err : SinkCall) (status : ℕ) : Type 0 where
  OfWords : command_of request.words ≡ None → (status ≡ 2) ⊎ (status ≡ 7) → Cause request shelf nodes out err status
  OfPlan : (command : Command) → command_of request.words ≡ Some command → Leads (λ rest. Shown shelf nodes out err rest status) shelf (plan_of request.shows command)
      → Cause request shelf nodes out err status
  OfMemory : (command : Command) → command_of request.words ≡ Some command → status ≡ 7 → Cause request shelf nodes out err status
  OfWrite : WriteFailed out ⊎ WriteFailed err → status ≡ 5 → Cause request shelf nodes out err status

comes_by : StormsNeverRest → (request : Request) (shelf : ShelfCall) (nodes : Arena) (out err : SinkCall) (end : Outcome) (status : ℕ) → IsTold end out err status
    → ComesTo request.shows (command_of request.words) shelf nodes end → Cause request shelf nodes out err status
comes_by law request shelf nodes out err end status whole = by_command (command_of request.words) refl
  where
    by_command : (asked : Option Command) → command_of request.words ≡ asked → ComesTo request.shows asked shelf nodes end → Cause request shelf nodes out err status
    by_command None is comes =
        OfWords is (elim comes.ends [ inl same ↦ inl (whole.is ∙ ap status_of same) | inr same ↦ inr (whole.is ∙ ap status_of same) ])
    by_command (Some command) is follows = elim follows.ends [
      | inl ends ↦ OfPlan command is (record {
        given = follows.given;
        gave = follows.gave;
        holds = shown_at law shelf nodes out err end status whole (rest_of follows.given (plan_of request.shows command)) ends;
      })
      | inr same ↦ OfMemory command is (whole.is ∙ ap status_of same)
    ]

-- a status of a plan that went on
reached : (P : Plan → Type 0) (request : Request) (shelf : ShelfCall) (nodes : Arena) (out err : SinkCall) (status : ℕ)
    → ((rest : Plan) → Shown shelf nodes out err rest status → P rest) → status ≢ 2 → status ≢ 5 → status ≢ 7
    → Cause request shelf nodes out err status → Reaches P request shelf
reached P request shelf nodes out err status shows no_usage no_write no_lack (OfWords is (inl two)) = absurd (no_usage two)
reached P request shelf nodes out err status shows no_usage no_write no_lack (OfWords is (inr seven)) = absurd (no_lack seven)
reached P request shelf nodes out err status shows no_usage no_write no_lack (OfMemory command is seven) = absurd (no_lack seven)
reached P request shelf nodes out err status shows no_usage no_write no_lack (OfWrite failed five) = absurd (no_write five)
reached P request shelf nodes out err status shows no_usage no_write no_lack (OfPlan command is leads) =
    let Q : Option Command → Type 0 = λ asked. IsSomeAnd asked (λ c. Leads P shelf (plan_of request.shows c)) in
    subst Q (sym is) (record { given = leads.given; gave = leads.gave; holds = shows (rest_of leads.given (plan_of request.shows command)) leads.holds })

module _ (shelf : ShelfCall) (nodes : Arena) (out err : SinkCall) (rest : Plan) (status : ℕ) where
  shows_fault : status ≡ 3 → Shown shelf nodes out err rest status → IsFaulty rest
  shows_fault at (Unread cause is) = absurd (omega (arith, at, is))
  shows_fault at (Fault cause is) = cause
  shows_fault at (Done cause low) = absurd (no_other status _ low at (omega arith) (omega arith))
  shows_fault at (Full cause is) = absurd (omega (arith, at, is))

  shows_unread : status ≡ 4 → Shown shelf nodes out err rest status → IsUnread shelf rest
  shows_unread at (Unread cause is) = cause
  shows_unread at (Fault cause is) = absurd (omega (arith, at, is))
  shows_unread at (Done cause low) = absurd (no_other status _ low at (omega arith) (omega arith))
  shows_unread at (Full cause is) = absurd (omega (arith, at, is))

  shows_limit : status ≡ 6 → Shown shelf nodes out err rest status → MeetsLimit nodes rest
  shows_limit at (Unread cause is) = absurd (omega (arith, at, is))
  shows_limit at (Fault cause is) = absurd (omega (arith, at, is))
  shows_limit at (Done cause low) = absurd (no_other status _ low at (omega arith) (omega arith))
  shows_limit at (Full cause is) = cause

  shows_done : IsEndStatus status → Shown shelf nodes out err rest status → IsDoneWith out err status rest
  shows_done low (Unread cause is) = absurd (no_other status 4 low is (omega arith) (omega arith))
  shows_done low (Fault cause is) = absurd (no_other status 3 low is (omega arith) (omega arith))
  shows_done low (Done cause end) = cause
  shows_done low (Full cause is) = absurd (no_other status 6 low is (omega arith) (omega arith))

  -- words outside the grammar and failed writes have statuses of their own
  shows_no_usage : status ≡ 2 → Shown shelf nodes out err rest status → ⊥
  shows_no_usage at (Unread cause is) = omega (arith, at, is)
  shows_no_usage at (Fault cause is) = omega (arith, at, is)
  shows_no_usage at (Done cause low) = no_other status 2 low at (omega arith) (omega arith)
  shows_no_usage at (Full cause is) = omega (arith, at, is)

  shows_no_write : status ≡ 5 → Shown shelf nodes out err rest status → ⊥
  shows_no_write at (Unread cause is) = omega (arith, at, is)
  shows_no_write at (Fault cause is) = omega (arith, at, is)
  shows_no_write at (Done cause low) = no_other status 5 low at (omega arith) (omega arith)
  shows_no_write at (Full cause is) = omega (arith, at, is)

-- the cause of each status
module _ (law : StormsNeverRest) (request : Request) (shelf : ShelfCall) (nodes : Arena) (out err : SinkCall) (status : ℕ)
    (runs : Runs request shelf nodes out err status) where
  run_by : Cause request shelf nodes out err status
  run_by = by_telling runs.tells
    where
      by_telling : Tells runs.end out err status → Cause request shelf nodes out err status
      by_telling (inl whole) = comes_by law request shelf nodes out err runs.end status whole runs.comes
      by_telling (inr cut) = OfWrite cut.cause cut.is

  -- a status that words, want of memory and failed writes don't have
  by_plan : (P : Plan → Type 0) → ((rest : Plan) → Shown shelf nodes out err rest status → P rest) → status ≢ 2 → status ≢ 5 → status ≢ 7 → Reaches P request shelf
  by_plan P shows no_usage no_write no_lack = reached P request shelf nodes out err status shows no_usage no_write no_lack run_by

  pub fault_cause : status ≡ 3 → Reaches IsFaulty request shelf
  fault_cause at =
      by_plan IsFaulty (λ rest. shows_fault shelf nodes out err rest status at) (λ e. omega (arith, at, e)) (λ e. omega (arith, at, e)) (λ e. omega (arith, at, e))

  pub read_cause : status ≡ 4 → Reaches (IsUnread shelf) request shelf
  read_cause at =
      by_plan (IsUnread shelf) (λ rest. shows_unread shelf nodes out err rest status at) (λ e. omega (arith, at, e)) (λ e. omega (arith, at, e)) (λ e. omega (arith, at, e))

  pub limit_cause : status ≡ 6 → Reaches (MeetsLimit nodes) request shelf
  limit_cause at =
      by_plan (MeetsLimit nodes) (λ rest. shows_limit shelf nodes out err rest status at) (λ e. omega (arith, at, e)) (λ e. omega (arith, at, e)) (λ e. omega (arith, at, e))

  pub done_cause : (known : ℕ) → IsEndStatus known → status ≡ known → Reaches (IsDoneWith out err known) request shelf
  done_cause known low at =
      let P : ℕ → Type 0 = λ n. Reaches (IsDoneWith out err n) request shelf in
      let here : IsEndStatus status = subst IsEndStatus (sym at) low in
      subst P at (by_plan (IsDoneWith out err status) (λ rest. shows_done shelf nodes out err rest status here)
      (λ is. no_other status 2 here is (omega arith) (omega arith)) (λ is. no_other status 5 here is (omega arith) (omega arith))
      (λ is. no_other status 7 here is (omega arith) (omega arith)))

  pub write_cause : status ≡ 5 → WriteFailed out ⊎ WriteFailed err
  write_cause at = by_cause run_by
    where
      by_cause : Cause request shelf nodes out err status → WriteFailed out ⊎ WriteFailed err
      by_cause (OfWords is (inl two)) = absurd (omega (arith, two, at))
      by_cause (OfWords is (inr seven)) = absurd (omega (arith, seven, at))
      by_cause (OfMemory command is seven) = absurd (omega (arith, seven, at))
      by_cause (OfWrite failed five) = failed
      by_cause (OfPlan command is leads) = absurd (shows_no_write shelf nodes out err (rest_of leads.given (plan_of request.shows command)) status at leads.holds)

  -- words outside the grammar, and words in it
  pub usage_cause : status ≡ 2 → command_of request.words ≡ None
  usage_cause at = by_cause run_by
    where
      by_cause : Cause request shelf nodes out err status → command_of request.words ≡ None
      by_cause (OfWords is low) = is
      by_cause (OfPlan command is leads) = absurd (shows_no_usage shelf nodes out err (rest_of leads.given (plan_of request.shows command)) status at leads.holds)
      by_cause (OfMemory command is seven) = absurd (omega (arith, seven, at))
      by_cause (OfWrite failed five) = absurd (omega (arith, five, at))

  pub usage_told : IsWithoutCommand (command_of request.words) status
  usage_told = by_command (command_of request.words) refl
    where
      low : (asked : Option Command) → command_of request.words ≡ asked → asked ≡ None → Cause request shelf nodes out err status → status ≡ 2 ⊎ status ≡ 5 ⊎ status ≡ 7
      low asked here none (OfWords is (inl two)) = inl two
      low asked here none (OfWords is (inr seven)) = inr (inr seven)
      low asked here none (OfPlan command is leads) = absurd (none-some command (sym none ∙ sym here ∙ is))
      low asked here none (OfMemory command is seven) = inr (inr seven)
      low asked here none (OfWrite failed five) = inr (inl five)

      by_command : (asked : Option Command) → command_of request.words ≡ asked → IsWithoutCommand asked status
      by_command None is = low None is refl run_by
      by_command (Some command) is = λ two. none-some command (sym (usage_cause two) ∙ is)

-- help and the version are told
helped_at : (shelf : ShelfCall) (nodes : Arena) (end : Outcome) (text : List ℕ) → Follows (Ends (Prints text)) shelf nodes end
    → end.status ≡ 0 ⊎ end.status ≡ 7
helped_at shelf nodes end text follows = by_given follows.given follows.gave follows.ends
  where
    by_given : (given : List (List ℕ)) → AreGiven shelf.files given (Ends (Prints text))
        → EndsAt shelf nodes end (rest_of given (Ends (Prints text))) ⊎ (end ≡ no_memory) → end.status ≡ 0 ⊎ end.status ≡ 7
    by_given [] gave (inl at) = inl (ap status_of at)
    by_given [] gave (inr lacks) = inr (ap status_of lacks)
    by_given (bytes ∷ given) gave ends = absurd gave

helped_by : (out err : SinkCall) (status : ℕ) (end : Outcome) → Tells end out err status → end.status ≡ 0 ⊎ end.status ≡ 7 → IsHelped status
helped_by out err status end (inl whole) (inl zero) = inl (whole.is ∙ zero)
helped_by out err status end (inl whole) (inr seven) = inr (inr (whole.is ∙ seven))
helped_by out err status end (inr cut) low = inr (inl cut.is)

pub help_told : (request : Request) (shelf : ShelfCall) (nodes : Arena) (out err : SinkCall) (status : ℕ) → Runs request shelf nodes out err status
    → IsHelpedBy (command_of request.words) status
help_told request shelf nodes out err status runs = by_command (command_of request.words) runs.comes
  where
    told_by : (text : List ℕ) → Follows (Ends (Prints text)) shelf nodes runs.end → IsHelped status
    told_by text follows = helped_by out err status runs.end runs.tells (helped_at shelf nodes runs.end text follows)

    by_command : (asked : Option Command) → ComesTo request.shows asked shelf nodes runs.end → IsHelpedBy asked status
    by_command (Some Help) comes = told_by help_text comes
    by_command (Some (HelpOn topic)) comes = told_by (topic_text topic) comes
    by_command (Some Version) comes = told_by version_text comes
    by_command (Some (Decide file options purpose)) comes = tt
    by_command (Some (Assume file options)) comes = tt
    by_command (Some (Equal file second options)) comes = tt
    by_command (Some (Flat file)) comes = tt
    by_command (Some (Loops file form)) comes = tt
    by_command (Some (Sim file vectors)) comes = tt
    by_command (Some (Delays file vectors recorded probe)) comes = tt
    by_command (Some (Demo cells)) comes = tt
    by_command None comes = tt
