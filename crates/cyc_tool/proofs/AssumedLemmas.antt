-- What looking for an assumption comes to.
use Rattle.std.proofs.Common.{◌≡◌, ◌≢◌, ◌⊎◌, [], ◌∷◌, Some, None, Ok, Err, sym, ap, ◌∙◌, arith}
use Rattle.std.specs.Prelude.{All, AllPairs, IfErr, codes}
use Rattle.std.proofs.lemmas.List.Elements.{All-cons, All-nil}
use Rattle.std.proofs.lemmas.List.Kept.{AllPairs-cons}
use Rattle.std.specs.declared.alloc.AllocError.{AllocError}
use Rattle.std.specs.declared.result.Result.{Result}
use Rattle.cyc_tool.proofs.Common.{IfOk, Option, Arena, Parts, IsNetlist, IsSought, Sought, Undecided, outcome_of}
use Rattle.assumptions.specs.Assumptions.{IsAssumption}
use Rattle.assumptions.specs.declared.assumption.Assumption.{Assumption}
use Rattle.assumptions.specs.declared.assumption.Assumption.TheVariants.{Stands, Weakest, Refused, TooManyRows, TooLarge}
use Rattle.blif_write.specs.Laws.{EachReadsBack, FitOneText, IsSmall}
use Rattle.care_sets.specs.Binding.{IsCare, IsCareOf}
use Rattle.care_sets.specs.Care.{CareSet}
use Rattle.care_sets.specs.declared.model.CareModel.{CareModel}
use Rattle.parsed_files.specs.CareTexts.{AreNamed, models_of}
use Rattle.parsed_files.proofs.CareTextLemmas.{care_texts_read_back}
use Rattle.refusals.specs.declared.observe.Observe.{Observe}
use Rattle.verdict.specs.declared.fault.DecideFault.{DecideFault}
use Rattle.verdict.specs.declared.fault.DecideFault.TheVariants.{NodeLimit, Memory}
use Rattle.plain_commands.specs.Texts.{told as done, limit_reached}
use Rattle.cyc_tool.specs.Calls.{IsCareFile, IsSearchLimited, IsWritten}
use Rattle.cyc_tool.specs.Endings.{assumption_told, care_text}
use Rattle.plain_commands.specs.Plans.{Decision}
use Rattle.cyc_tool.specs.Seen.{IsLimitOf, IsTellableAssumption}
use Rattle.plain_commands.specs.declared.outcome.Outcome.{Outcome as Told}
use Rattle.cyc_tool.proofs.DecisionLemmas.{at_limit, nodes_are, refusal_fits}

-- models of a care file go into one text: their names differ
names_differ : (a i : Parts) → a.name ≡ codes "assume" → i.name ≡ codes "invariant" → AllPairs (λ (m n : Parts). m.name ≢ n.name) (a ∷ i ∷ [])
names_differ a i assume invariant = AllPairs-cons (λ (m n : Parts). m.name ≢ n.name) a (i ∷ []) (All-cons (λ (n : Parts). a.name ≢ n.name) i [] differ (All-nil (λ (n : Parts). a.name ≢ n.name))) (λ m n d less within. absurd (omega arith))
  where
    differ : a.name ≢ i.name
    differ same = let e : codes "assume" ≡ codes "invariant" = sym assume ∙ same ∙ invariant in cc

fits_text : (a i : Option CareModel) → AreNamed (record { assume = a; invariant = i }) → All IsSmall (models_of (record { assume = a; invariant = i }))
    → FitOneText (models_of (record { assume = a; invariant = i }))
fits_text None None named small = let e = named.some in cc
fits_text (Some a) None named small = record { some = λ e. cc; names_differ = λ m n d less within. absurd (omega arith); small = small }
fits_text None (Some i) named small = record { some = λ e. cc; names_differ = λ m n d less within. absurd (omega arith); small = small }
fits_text (Some a) (Some i) named small = record { some = λ e. cc; names_differ = names_differ a.net i.net named.assume named.invariant; small = small }

-- so their text is a care file
pub is_care_file : (net : Parts) (care : CareSet) → (FitOneText (models_of care) → EachReadsBack (models_of care)) → IsCare care → IsCareOf net care → IsCareFile net care
is_care_file net care reads valid is named small short =
    let back = reads (fits_text care.assume care.invariant named small) in
    care_texts_read_back net care back.models (care_text care) is valid named back.named back.read back.flat short

-- a care set that is found is the netlist's, and what refuses it has its widths
pub assumption_fits : (net : Parts) (care : CareSet) (what : Observe) (answer : Assumption) → IsNetlist net → IsAssumption net care what answer
    → IsTellableAssumption net answer
assumption_fits net care what Stands valid found = tt
assumption_fits net care what (Weakest stronger) valid found = found.strengthened.bound
assumption_fits net care what (Refused refused) valid found = refusal_fits net found.refused.stronger what refused valid found.refused.refused
assumption_fits net care what TooManyRows valid found = tt
assumption_fits net care what (TooLarge gates) valid found = tt

-- what is found is told
pub found_seeks : (decision : Decision) (nodes : Arena) (answer : Assumption) (result : Result Told AllocError)
    → IsAssumption decision.net decision.care decision.observe answer
    → IfOk result (λ told. outcome_of told ≡ done (assumption_told decision.net decision.care answer))
    → IfOk result (λ told. IsWritten decision.net decision.care answer) → IfOk result (λ told. IsSought decision nodes (outcome_of told))
found_seeks decision nodes answer (Ok told) found same written = Sought (record { answer = answer; found = found; is = same }) written
found_seeks decision nodes answer (Err lacks) found same written = tt

-- a decision on a stronger care set that met its limit of nodes
pub limit_seeks : {T : Type 0} (decision : Decision) (nodes : Arena) (end : Told) (result : Result T DecideFault) (fault : DecideFault) → result ≡ Err fault
    → IsLimitOf fault end → IfErr result (λ fault. (fault ≡ Memory) ⊎ (fault ≡ NodeLimit decision.limit))
    → (result ≡ Err (NodeLimit decision.limit) → IsSearchLimited decision nodes) → IsSought decision nodes (outcome_of end)
limit_seeks decision nodes end result (NodeLimit n) is same faults limited =
    let at = at_limit result n decision.limit is faults in
    Undecided (limited (is ∙ ap Err at)) (same ∙ ap limit_reached (nodes_are n decision.limit at))
limit_seeks decision nodes end result Memory is same faults limited = absurd same
