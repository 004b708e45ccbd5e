-- What the parts of a comparison come to.
use Rattle.std.proofs.Common.{◌≡◌, ◌⊎◌, ℕ, ◌-◌, Bool, List, length, Option, Some, None, subst, arith}
use Rattle.equal.proofs.Common.{option_map, Result, IfOk, Err, Ok, Sig, Parts, IsNetlist, CareSet, columns, IsKnownEarly, IsFound, Answer, difference, AreAccepted, miter, find, vectors, Refusal, refusal, accepted_without_refusal, comparison, Undetermined, Early, Arena, IsBelowEnoughForBoth, IsOutOfNodesForBoth, Matched, Compares}
use Rattle.refusals.specs.declared.observe.Observe.TheVariants as observe
use Rattle.refusals.specs.Acceptance.{Accepts}
use Rattle.refusals.specs.Tests.{is_unknown_at}
use Rattle.diagram_decision.specs.declared.judgement.Judgement.{Judgement}
use Rattle.diagram_decision.specs.declared.judgement.Judgement.TheVariants.{Accepted, Refused}
use Rattle.diagram_decision.specs.Judgements.{IsJudgement}
use Rattle.equal.specs.declared.least.Early.TheVariants.{Found}
use Rattle.equal.specs.declared.fault.EqualFault.{EqualFault}
use Rattle.equal.specs.declared.fault.EqualFault.TheVariants.{Memory, NodeLimit}
use Rattle.miters.proofs.MatchLemmas.{Match}
use Rattle.miters.proofs.DifferenceLemmas.{found_unknown, refusal_is}

-- what is accepted, nothing refuses
pub accepted_none : (net : Parts) (care : CareSet) → IsNetlist net → Accepts net care observe.All → refusal net care observe.All ≡ None
accepted_none net care valid accepts = (accepted_without_refusal net care observe.All valid).1 accepts

pub given_up : (m told : Matched) (d : Arena) (fault : EqualFault) → m ≡ told → (fault ≡ Memory) ⊎ (fault ≡ NodeLimit m.limit) →
    (◌≡◌ {A = Result Answer EqualFault} (Err fault) (Err (NodeLimit m.limit)) → IsOutOfNodesForBoth d m.a m.care_a m.b m.limit) →
    (◌≡◌ {A = Result Answer EqualFault} (Err fault) (Err (NodeLimit m.limit)) → IsBelowEnoughForBoth m.a m.care_a m.b m.care_b m.limit) → Compares told d (Err fault)
given_up m told d fault same is cause below = subst (λ (m : Matched). Compares m d (Err fault)) same (record { answer = tt; fault = is; cause = cause; below = below })

-- a netlist that is accepted has no refusal's vector
pub accepted_judgement : (j : Judgement) (loose : ℕ) → j ≡ Accepted loose → (net : Parts) (care : CareSet) → IsNetlist net → IsJudgement net care observe.All j → IsKnownEarly net care (Found None)
accepted_judgement j loose is_accepted net care valid told = grind (arith, accepted_none)

-- and one that is refused has that of its refusal
pub refused_judgement : {E : Type 0} (result : Result Early E) (j : Judgement) (r : Refusal) → j ≡ Refused r →
    IfOk result (λ early. (s : Sig) (least : Option (List Bool)) → Some r ≡ option_map (λ v. Undetermined v s) least → IsFound least early) →
    IfOk result (λ early. (net : Parts) (care : CareSet) → IsNetlist net → IsJudgement net care observe.All j → IsKnownEarly net care early)
refused_judgement result j r is_refused known = grind arith

-- of the answer of a call
pub early_known : {E F : Type 0} (net : Parts) (care : CareSet) (result : Result Early E) (judged : Result Judgement F) (j : Judgement) → IsNetlist net → judged ≡ Ok j → IfOk judged (IsJudgement net care observe.All) →
    IfOk result (λ early. (net : Parts) (care : CareSet) → IsNetlist net → IsJudgement net care observe.All j → IsKnownEarly net care early) →
    IfOk result (IsKnownEarly net care)
early_known {F = F} net care (Ok early) judged j valid is_j told known = grind arith
early_known net care (Err x) judged j valid is_j told known = known

-- ---- what is found of the miter within a budget

module _ (a b : Parts) (care : CareSet) (valid_a : IsNetlist a) (valid_b : IsNetlist b) (match_ : Match a b) (accepted : AreAccepted a b care) where
  -- the least vector at which its last gate is unknown is where they differ
  pub unknown_last : {E : Type 0} (result : Result Early E) (gate : ℕ) → gate ≡ length (miter a b).gates - 1 →
      IfOk result (IsFound (find (is_unknown_at (miter a b) care gate) (vectors (columns (miter a b))))) → IfOk result (IsFound (difference a b care))
  unknown_last result gate is found =
      subst (λ (least : Option (List Bool)). IfOk result (IsFound least)) (found_unknown a b care valid_a valid_b match_ accepted gate is) found

  -- and so is what refuses it
  pub early_found : {E : Type 0} (result : Result Early E) → IfOk result (IsKnownEarly (miter a b) care) → IfOk result (IsFound (difference a b care))
  early_found (Ok early) known = known _ (difference a b care) (refusal_is a b care valid_a valid_b match_ accepted)
  early_found (Err e) known = known
