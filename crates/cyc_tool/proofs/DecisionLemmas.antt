-- What decisions come to.
use Rattle.std.proofs.Common.{◌≡◌, ◌⊎◌, ◌<◌, ◌≤◌, ℕ, Bool, true, false, length, Some, None, Ok, Err, refl, sym, ap, ap₂, subst, ◌∙◌, inl, inr, arith}
use Rattle.std.proofs.lemmas.List.{length-map}
use Rattle.netlist.specs.Netlists.{columns}
use Rattle.cyc_tool.proofs.Common.{nat_le, if◌then◌else◌, IfOk, Option, Arena, Parts, IsNetlist, written, IsRefusalOf, Refusal, Undetermined, Form, told, IsDecided, Limit, Prints, Outgrows, Purpose, Judges, Rewrites, WritesGraph, Explains, Demonstrates, Storms, outcome_of, Outcome}
use Rattle.std.specs.Prelude.{◌+◌, IfErr, OnOk}
use Rattle.std.specs.declared.result.Result.{Result}
use Rattle.cyc_base.specs.declared.limits.TheConstants.{MAX_REWRITTEN_ITEMS}
use Rattle.netlist.specs.declared.parts.Latch.{Latch}
use Rattle.aig_core.specs.declared.building.Built.{Built}
use Rattle.aig_core.specs.declared.fault.AigFault.{AigFault}
use Rattle.aig_core.specs.declared.fault.AigFault.TheVariants.{TooLarge as ManyAnds, Memory as NoRoom}
use Rattle.aig_core.specs.Building.{built}
use Rattle.commands.specs.declared.encoding.Encoding.{Encoding}
use Rattle.care_sets.specs.Care.{CareSet}
use Rattle.refusals.specs.Acceptance.{Accepts}
use Rattle.refusals.specs.Refusals.{refusal}
use Rattle.refusals.specs.declared.observe.Observe.{Observe}
use Rattle.refusals.specs.declared.refusal.Refusal.TheVariants.{Initial, EmptyCare, Leaves as LeavesCare}
use Rattle.refusals.proofs.LawLemmas.{accepted_without_refusal, refusal_is_shown}
use Rattle.report.specs.Verdicts.{accepted_text, ring_line}
use Rattle.rewriting.specs.Graphs.{graph_of, most_ands, most_columns, IsGraphIn, IsGraphing}
use Rattle.rewriting.specs.Rewriting.{rewritten, rewritten_size, IsCaseFault, IsLoopFreeForm, IsRewriting}
use Rattle.unroll.specs.Laws.{KeepsInterface}
use Rattle.unroll.specs.Unrolled.{IsUnrollFault}
use Rattle.unroll.specs.declared.fault.UnrollFault.{UnrollFault}
use Rattle.unroll.specs.declared.fault.UnrollFault.TheVariants.{TooLarge, Memory}
use Rattle.diagram_decision.specs.Judgements.{AreLoose}
use Rattle.diagram_decision.specs.Causes.{IsOutOfNodes}
use Rattle.diagram_decision.specs.Enough.{IsBelowEnough}
use Rattle.verdict.specs.declared.fault.DecideFault.{DecideFault}
use Rattle.verdict.specs.declared.fault.DecideFault.TheVariants.{NodeLimit, Memory as WantsMemory}
use Rattle.cyc_tool.specs.Answer.{IsRefusalOutcome, IsVerdictOutcome}
use Rattle.cyc_tool.specs.Calls.{IsAccepted, IsMadeFor, Verdict as ByVerdict}
use Rattle.cyc_tool.specs.Endings.{accepted_told, aiger_told, loops_explained, where_outputs}
use Rattle.plain_commands.specs.Texts.{count_of_loops, graph_text, limit_reached}
use Rattle.plain_commands.specs.Plans.{Decision, Declines}
use Rattle.cyc_tool.specs.Seen.{IsLimitOf, IsOutgrown, IsToldOf, IsToldOfGraph}
use Rattle.plain_commands.specs.Seen.{IsShown}
use Rattle.plain_commands.specs.declared.outcome.Outcome.{Outcome as Told}

abbrev pub decision_of : Parts → CareSet → ℕ → Observe → Decision
decision_of net care limit what = record { net = net; care = care; limit = limit; observe = what }

-- a verdict that was told, and of which so much was made
of_verdict : (net : Parts) (care : CareSet) (limit : ℕ) (what : Observe) (purpose : Purpose) (nodes : Arena) (end : Outcome) (verdict : Option Refusal)
    → refusal net care what ≡ verdict → IsVerdictOutcome (decision_of net care limit what) purpose verdict end
    → IsMadeFor (decision_of net care limit what) purpose verdict → IsDecided (decision_of net care limit what) purpose nodes end
of_verdict net care limit what purpose nodes end verdict is ends made =
    ByVerdict (subst (λ (v : Option Refusal). IsVerdictOutcome (decision_of net care limit what) purpose v end) (sym is) ends)
    (subst (IsMadeFor (decision_of net care limit what) purpose) (sym is) made)

-- a netlist that is accepted, and one that is refused
pub accepted_decides : (net : Parts) (care : CareSet) (limit : ℕ) (what : Observe) (purpose : Purpose) (nodes : Arena) (end : Outcome)
    → IsNetlist net → Accepts net care what → IsAccepted (decision_of net care limit what) purpose end
    → IsDecided (decision_of net care limit what) purpose nodes end
accepted_decides net care limit what purpose nodes end valid accepts is =
    of_verdict net care limit what purpose nodes end None ((accepted_without_refusal net care what valid).1 accepts) is.is is.made

pub refusal_decides : (net : Parts) (care : CareSet) (limit : ℕ) (what : Observe) (purpose : Purpose) (nodes : Arena) (end : Outcome) (refused : Refusal)
    → refusal net care what ≡ Some refused → IsRefusalOutcome net purpose refused end → IsDecided (decision_of net care limit what) purpose nodes end
refusal_decides net care limit what purpose nodes end refused is ends = of_verdict net care limit what purpose nodes end (Some refused) is ends tt

pub refusal_fits : (net : Parts) (care : CareSet) (what : Observe) (refused : Refusal) → IsNetlist net → refusal net care what ≡ Some refused
    → IsRefusalOf net refused
refusal_fits net care what refused valid is = (refusal_is_shown net care what refused valid is).0

pub refusal_shown : (net : Parts) (care : CareSet) (what : Observe) (refused : Refusal) → IsNetlist net → refusal net care what ≡ Some refused
    → IsShown net refused
refusal_shown net care what (Initial q) valid is = tt
refusal_shown net care what EmptyCare valid is = tt
refusal_shown net care what (LeavesCare v q) valid is = tt
refusal_shown net care what (Undetermined v wire) valid is =
    let known = (refusal_is_shown net care what (Undetermined v wire) valid is).1 (λ e. cc) in known.unknown

-- a decision that met its limit of nodes
pub at_limit : {T : Type 0} (result : Result T DecideFault) (nodes limit : ℕ) → result ≡ Err (NodeLimit nodes)
    → IfErr result (λ fault. (fault ≡ WantsMemory) ⊎ (fault ≡ NodeLimit limit)) → NodeLimit nodes ≡ NodeLimit limit
at_limit {T} result nodes limit is fault =
    let P : Result T DecideFault → Type 0 = λ r. IfErr r (λ fault. (fault ≡ WantsMemory) ⊎ (fault ≡ NodeLimit limit)) in
    let cases : (NodeLimit nodes ≡ WantsMemory) ⊎ (NodeLimit nodes ≡ NodeLimit limit) = subst P is fault in
    elim cases [ inl e ↦ cc | inr e ↦ e ]

pub nodes_are : (nodes limit : ℕ) → NodeLimit nodes ≡ NodeLimit limit → nodes ≡ limit
nodes_are nodes limit e = cc

pub limit_decides : {T : Type 0} (net : Parts) (care : CareSet) (limit : ℕ) (what : Observe) (purpose : Purpose) (arena : Arena) (end : Told)
    (result : Result T DecideFault) (fault : DecideFault) → result ≡ Err fault → IsLimitOf fault end
    → IfErr result (λ fault. (fault ≡ WantsMemory) ⊎ (fault ≡ NodeLimit limit))
    → (result ≡ Err (NodeLimit limit) → IsOutOfNodes arena net care limit) → (result ≡ Err (NodeLimit limit) → IsBelowEnough net care limit)
    → IsDecided (decision_of net care limit what) purpose arena (outcome_of end)
limit_decides net care limit what purpose arena end result (NodeLimit nodes) is same faults cause enough =
    let at = at_limit result nodes limit is faults in
    let met : result ≡ Err (NodeLimit limit) = is ∙ ap Err at in
    Limit (record { cause = cause met; below = enough met }) (same ∙ ap limit_reached (nodes_are nodes limit at))
limit_decides net care limit what purpose arena end result WantsMemory is same faults cause enough = absurd same

-- what is told of an accepted netlist for each purpose
pub judged : (net : Parts) (care : CareSet) (limit : ℕ) (what : Observe) (loose : ℕ) (given : Option ℕ) (end : Outcome)
    → end ≡ told (Prints (accepted_text net (count_of_loops net) given)) → given ≡ where_outputs what loose → AreLoose net care loose
    → IsAccepted (decision_of net care limit what) Judges end
judged net care limit what loose given end same is loose_is = record {
  is = same ∙ ap (λ number. told (Prints (accepted_text net (count_of_loops net) number))) (is ∙ ap (where_outputs what) loose_is);
  made = tt;
}

pub loops_told : (form : Form) (net : Parts) (care : CareSet) (limit : ℕ) (what : Observe) (loose : ℕ) (given : Option ℕ) (end : Outcome)
    → end ≡ told (Prints (loops_explained form net care given)) → given ≡ where_outputs what loose
    → AreLoose net care loose → IsAccepted (decision_of net care limit what) (Explains form) end
loops_told form net care limit what loose given end same is loose_is = record {
  is = same ∙ ap (λ number. told (Prints (loops_explained form net care number))) (is ∙ ap (where_outputs what) loose_is);
  made = tt;
}

pub without_storm : (net : Parts) (care : CareSet) (limit : ℕ) (what : Observe) (loose rounds : ℕ) (given : Option ℕ) (end : Outcome)
    → end ≡ told (Declines (accepted_text net (count_of_loops net) given)) → given ≡ where_outputs what loose → AreLoose net care loose
    → IsAccepted (decision_of net care limit what) (Storms rounds) end
without_storm net care limit what loose rounds given end same is loose_is = record {
  is = same ∙ ap (λ number. told (Declines (accepted_text net (count_of_loops net) number))) (is ∙ ap (where_outputs what) loose_is);
  made = tt;
}

pub demonstrated : (net : Parts) (care : CareSet) (limit : ℕ) (what : Observe) (cells gates : ℕ) (end : Outcome)
    → end ≡ told (Prints (ring_line cells net (count_of_loops net) gates)) → gates ≡ length (rewritten net care).gates
    → IsAccepted (decision_of net care limit what) (Demonstrates cells) end
demonstrated net care limit what cells gates end same is = record {
  is = same ∙ ap (λ number. told (Prints (ring_line cells net (count_of_loops net) number))) is;
  made = tt;
}

is_within : (size : ℕ) → size ≤ MAX_REWRITTEN_ITEMS → nat_le size MAX_REWRITTEN_ITEMS ≡ true
is_within size small = grind (arith, small)

is_over : (size : ℕ) → MAX_REWRITTEN_ITEMS < size → nat_le size MAX_REWRITTEN_ITEMS ≡ false
is_over size over = grind (arith, over)

pub was_rewritten : (net : Parts) (care : CareSet) (limit : ℕ) (what : Observe) (made : Result Parts UnrollFault) (end : Told) → IsToldOf made end
    → IfOk made (IsRewriting net care) → OnOk made (rewritten_size net care ≤ MAX_REWRITTEN_ITEMS) → IfErr made (IsUnrollFault (rewritten_size net care))
    → IsAccepted (decision_of net care limit what) (Rewrites None) (outcome_of end)
was_rewritten net care limit what (Ok other) end same is small fault = record {
  is = same ∙ ap (λ (n : Parts). told (Prints (written n))) is.is
      ∙ sym (ap (λ (t : Bool). told (if t then Prints (written (rewritten net care)) else Outgrows (rewritten_size net care)))
      (is_within (rewritten_size net care) small));
  made = λ within. subst (IsRewriting net care) is.is is;
}
was_rewritten net care limit what (Err (TooLarge size)) end same rewriting small is = record {
  is = same ∙ ap (λ (n : ℕ). told (Outgrows n)) is.1
      ∙ sym (ap (λ (t : Bool). told (if t then Prints (written (rewritten net care)) else Outgrows (rewritten_size net care)))
      (is_over (rewritten_size net care) is.0));
  made = λ within. absurd (let over = is.0 in omega (arith, over, within));
}
was_rewritten net care limit what (Err Memory) end same rewriting small fault = absurd same

-- how many columns a netlist has that keeps the interface
pub kept_columns : (net other : Parts) → KeepsInterface net other → columns net ≤ most_columns → columns other ≤ most_columns
kept_columns net other keeps few =
    let inputs = ap length keeps.inputs in
    let names = ap length keeps.latches in
    let own = length-map net.latches (λ (latch : Latch). latch.name) in
    let others = length-map other.latches (λ (latch : Latch). latch.name) in
    omega (arith, inputs, names, own, others, few)

-- a graph, or what is told in place of one
graph_fits : (encoding : Encoding) (net : Parts) (graph : Built) → length graph.aig.ands ≤ most_ands → told (aiger_told encoding net graph) ≡ told (Prints (graph_text encoding net graph))
graph_fits encoding net graph few =
    let within : nat_le (length graph.aig.ands) most_ands ≡ true = grind (arith, few) in
    ap (λ (t : Bool). told (if t then Prints (graph_text encoding net graph) else Outgrows (most_ands + 1))) within

graph_outgrows : (encoding : Encoding) (net : Parts) (graph : Built) → most_ands < length graph.aig.ands → told (aiger_told encoding net graph) ≡ told (Outgrows (most_ands + 1))
graph_outgrows encoding net graph many =
    let over : nat_le (length graph.aig.ands) most_ands ≡ false = grind (arith, many) in
    ap (λ (t : Bool). told (if t then Prints (graph_text encoding net graph) else Outgrows (most_ands + 1))) over

told_where : (encoding : Encoding) (net : Parts) (care : CareSet) (limit : ℕ) (what : Observe) (t : Bool) → nat_le (rewritten_size net care) MAX_REWRITTEN_ITEMS ≡ t
    → told (accepted_told (decision_of net care limit what) (WritesGraph encoding None))
    ≡ told (if t then aiger_told encoding (rewritten net care) (graph_of net care) else Outgrows (rewritten_size net care))
told_where encoding net care limit what t is =
    ap (λ (t : Bool). told (if t then aiger_told encoding (rewritten net care) (graph_of net care) else Outgrows (rewritten_size net care))) is

-- what is told of the graph of a netlist that was made by rewriting
pub was_graphed : (encoding : Encoding) (net : Parts) (care : CareSet) (limit : ℕ) (what : Observe) (other : Parts) (made : Result Built AigFault) (end : Told) → IsToldOfGraph encoding other made end
    → IsNetlist net → Accepts net care what → rewritten_size net care ≤ MAX_REWRITTEN_ITEMS → IsRewriting net care other
    → IfOk made (λ graph. graph ≡ built other) → IfOk made (λ graph. length graph.aig.ands ≤ most_ands)
    → IfOk made (λ graph. (net : Parts) (care : CareSet) (what : Observe) → IsNetlist net → Accepts net care what → IsLoopFreeForm net care other → IsGraphIn net care other graph)
    → IfErr made (λ fault. fault ≡ ManyAnds → most_ands < length (built other).aig.ands)
    → IsAccepted (decision_of net care limit what) (WritesGraph encoding None) (outcome_of end)
was_graphed encoding net care limit what other (Ok graph) end same valid accepts small rewriting is few graphing many =
    let own : graph ≡ graph_of net care = is ∙ ap built rewriting.is in
    record {
      is = same ∙ sym (graph_fits encoding other graph few) ∙ ap₂ (λ (n : Parts) (g : Built). told (aiger_told encoding n g)) rewriting.is own
          ∙ sym (told_where encoding net care limit what true (is_within (rewritten_size net care) small));
      made = λ within fits.
          subst (λ (g : Built). IsGraphing net care g) own
          (subst (λ (n : Parts). IsGraphIn net care n graph) rewriting.is (graphing net care what valid accepts rewriting.form));
    }
was_graphed encoding net care limit what other (Err ManyAnds) end same valid accepts small rewriting is few graphing many =
    let over : most_ands < length (graph_of net care).aig.ands = subst (λ (n : Parts). most_ands < length (built n).aig.ands) rewriting.is (many refl) in
    record {
      is = same ∙ sym (graph_outgrows encoding (rewritten net care) (graph_of net care) over)
          ∙ sym (told_where encoding net care limit what true (is_within (rewritten_size net care) small));
      made = λ within fits. absurd (omega (arith, over, fits));
    }
was_graphed encoding net care limit what other (Err NoRoom) end same valid accepts small rewriting is few graphing many = absurd same

-- and of a netlist that is too large itself
pub outgrown_graph : (encoding : Encoding) (net : Parts) (care : CareSet) (limit : ℕ) (what : Observe) (fault : UnrollFault) (end : Told) → IsOutgrown fault end
    → IsUnrollFault (rewritten_size net care) fault → IsAccepted (decision_of net care limit what) (WritesGraph encoding None) (outcome_of end)
outgrown_graph encoding net care limit what (TooLarge size) end same is = record {
  is = same ∙ ap (λ (n : ℕ). told (Outgrows n)) is.1 ∙ sym (told_where encoding net care limit what false (is_over (rewritten_size net care) is.0));
  made = λ within fits. absurd (let over = is.0 in omega (arith, over, within));
}
outgrown_graph encoding net care limit what Memory end same is = absurd same

-- ---- by cases

-- the text of a netlist that was made by cases, or its size without them
pub was_split : (net : Parts) (care : CareSet) (limit : ℕ) (what : Observe) (cases : ℕ) (made : Result Parts UnrollFault) (end : Told) → IsToldOf made end
    → IfOk made (λ other. IsLoopFreeForm net care other) → IfErr made (λ fault. IsCaseFault (rewritten_size net care) fault)
    → IsAccepted (decision_of net care limit what) (Rewrites (Some cases)) (outcome_of end)
was_split net care limit what cases (Ok other) end same form fault = record { is = inl (record { other = other; form = form; is = same }); made = tt }
was_split net care limit what cases (Err (TooLarge size)) end same form fault =
    record { is = inr (record { over = fault.0; is = same ∙ ap (λ (n : ℕ). told (Outgrows n)) fault.1 }); made = tt }
was_split net care limit what cases (Err Memory) end same form fault = absurd same

-- the same of its graph
pub split_was_graphed : (encoding : Encoding) (net : Parts) (care : CareSet) (limit : ℕ) (what : Observe) (cases : ℕ) (other : Parts) (made : Result Built AigFault) (end : Told) → IsToldOfGraph encoding other made end
    → IsNetlist net → Accepts net care what → IsLoopFreeForm net care other
    → IfOk made (λ graph. graph ≡ built other) → IfOk made (λ graph. length graph.aig.ands ≤ most_ands)
    → IfOk made (λ graph. (net : Parts) (care : CareSet) (what : Observe) → IsNetlist net → Accepts net care what → IsLoopFreeForm net care other → IsGraphIn net care other graph)
    → IfErr made (λ fault. fault ≡ ManyAnds → most_ands < length (built other).aig.ands)
    → IsAccepted (decision_of net care limit what) (WritesGraph encoding (Some cases)) (outcome_of end)
split_was_graphed encoding net care limit what cases other (Ok graph) end same valid accepts form is few graphing many =
    record {
      is = inl (record {
        other = other;
        form = form;
        graph = λ fits. subst (λ (g : Built). IsGraphIn net care other g) is (graphing net care what valid accepts form);
        is = same ∙ sym (graph_fits encoding other graph few) ∙ ap (λ (g : Built). told (aiger_told encoding other g)) is;
      });
      made = tt;
    }
split_was_graphed encoding net care limit what cases other (Err ManyAnds) end same valid accepts form is few graphing many =
    record {
      is = inl (record {
        other = other;
        form = form;
        graph = λ fits. absurd (let over = many refl in omega (arith, over, fits));
        is = same ∙ sym (graph_outgrows encoding other (built other) (many refl));
      });
      made = tt;
    }
split_was_graphed encoding net care limit what cases other (Err NoRoom) end same valid accepts form is few graphing many = absurd same

pub split_outgrown : (encoding : Encoding) (net : Parts) (care : CareSet) (limit : ℕ) (what : Observe) (cases : ℕ) (fault : UnrollFault) (end : Told) → IsOutgrown fault end
    → IsCaseFault (rewritten_size net care) fault → IsAccepted (decision_of net care limit what) (WritesGraph encoding (Some cases)) (outcome_of end)
split_outgrown encoding net care limit what cases (TooLarge size) end same fault =
    record { is = inr (record { over = fault.0; is = same ∙ ap (λ (n : ℕ). told (Outgrows n)) fault.1 }); made = tt }
split_outgrown encoding net care limit what cases Memory end same fault = absurd same
