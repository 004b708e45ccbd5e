-- The core that a refutation leaves, and what a step shows of one that came before.
use Rattle.std.proofs.Common.{◌≡◌, ℕ, ◌<◌, ◌≤◌, ◌∙◌, List, length, get_or, map, Ok, Err, Some, Option, subst, arith}
use Rattle.std.specs.Prelude.{Result, IfOk, IfSome}
use Rattle.std.specs.List.{All, Contains}
use Rattle.std.proofs.Math.ListN.{get_or-map}
use Rattle.std.proofs.lemmas.List.{length-map, get_or_default}
use Rattle.std.proofs.lemmas.List.Elements.{All-map}
use Rattle.sat.specs.declared.lit.Lit.{Lit}
use Rattle.sat.specs.Cnf.{negated}
use Rattle.sat.specs.declared.engine.Engine.{Engine}
use Rattle.sat.specs.declared.steps.Verdict.{Verdict}
use Rattle.sat.specs.declared.steps.Verdict.TheVariants.{Refuted}
use Rattle.sat.specs.declared.steps.Step.{Step}
use Rattle.sat.specs.declared.steps.Step.TheVariants.{Decided, Conflict, Found}
use Rattle.sat.specs.Values.{open_count}
use Rattle.sat.specs.Answers.{IsCore, IsVerdict, Refutes, Shows}
use Rattle.sat.proofs.CnfLemmas.{refuted}

-- the complements of a clause's literals are in the core
complements : (clause : List Lit) → All (λ l. Contains (map negated clause) (negated l)) clause
complements clause k d within = grind (arith, length-map clause negated, get_or_default (map negated clause) k (negated (get_or clause k d)) (negated d), get_or-map negated clause k d)

pub core_of : (formula : List (List Lit)) (assumptions clause : List Lit) → Refutes formula assumptions clause → IsCore formula assumptions (map negated clause)
core_of formula assumptions clause refutes = record {
  assumed = All-map (Contains assumptions) negated clause refutes.assumed;
  refuted = refuted formula clause (map negated clause) refutes.entailed (complements clause);
}

-- what was found is that the assumptions are refuted
pub refutes_of : (formula : List (List Lit)) (assumptions : List Lit) (engine : Engine) (found : Option Verdict) (verdict : Verdict) →
    IfSome found (IsVerdict formula assumptions engine) → found ≡ Some verdict → verdict ≡ Refuted → Refutes formula assumptions engine.working.lits.items
refutes_of formula assumptions engine found verdict shown is refuted = grind arith

-- how many variables the search has open
abbrev pub open_in : Engine → ℕ
open_in engine = open_count engine.search.trail.values.items

module _ (formula : List (List Lit)) (assumptions : List Lit) (before mid after : Engine) (fewer : open_in mid ≤ open_in before) where
  shows_since : (step : Step) → Shows formula assumptions mid after step → Shows formula assumptions before after step
  shows_since step shown = grind arith

  pub shows_from : {E : Type 0} (result : Result Step E) → IfOk result (Shows formula assumptions mid after) → IfOk result (Shows formula assumptions before after)
  shows_from {E} h shown = grind arith
