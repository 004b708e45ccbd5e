-- What a comparison comes to.
use Rattle.std.proofs.Common.{◌≡◌, ◌⊎◌, inl, inr, ℕ, Bool, List, Err, ap, ap₂, subst, ◌∙◌}
use Rattle.std.specs.Prelude.{IfErr}
use Rattle.std.specs.declared.result.Result.{Result}
use Rattle.cyc_tool.proofs.Common.{Arena, IsCompared, Found, Unfinished, outcome_of, Outcome}
use Rattle.equal.specs.declared.fault.EqualFault.{EqualFault}
use Rattle.equal.specs.declared.fault.EqualFault.TheVariants.{NodeLimit, Memory}
use Rattle.miters.specs.Rebound.{found}
use Rattle.equal.specs.Bounds.{IsLimited}
use Rattle.miters.specs.Shown.{ShowsItself}
use Rattle.miters.specs.Told.{IsToldOf}
use Rattle.miters.specs.declared.telling.Told.{Told}
use Rattle.plain_commands.specs.Texts.{told as done, limit_reached}
use Rattle.cyc_tool.specs.Endings.{found_told}
use Rattle.plain_commands.specs.Plans.{Comparison}
use Rattle.cyc_tool.specs.Seen.{IsComparisonLimitOf}
use Rattle.plain_commands.specs.declared.outcome.Outcome.{Outcome as OutcomeTold}

pub found_compares : (c : Comparison) (nodes : Arena) (told : Told) (end : Outcome) → end ≡ done (found_told told.equal told.text.items)
    → IsToldOf c.first c.second (found c.first c.second c.care) told → ShowsItself c.first c.second c.care → IsCompared c nodes end
found_compares c nodes told end same is shown = Found (same ∙ ap₂ (λ (e : Bool) (text : List ℕ). done (found_told e text)) is.equal is.text) shown

limit_is : (nodes limit : ℕ) → (NodeLimit nodes ≡ Memory) ⊎ (NodeLimit nodes ≡ NodeLimit limit) → nodes ≡ limit
limit_is nodes limit (inl e) = cc
limit_is nodes limit (inr e) = cc

of_fault : (P : EqualFault → Type 0) (result : Result Told EqualFault) (fault : EqualFault) → result ≡ Err fault → IfErr result P → P fault
of_fault P result fault is holds = let Q : Result Told EqualFault → Type 0 = λ r. IfErr r P in subst Q is holds

pub limit_compares : (c : Comparison) (nodes : Arena) (end : OutcomeTold) (result : Result Told EqualFault) (fault : EqualFault) → result ≡ Err fault
    → IsComparisonLimitOf fault end → IfErr result (λ f. (f ≡ Memory) ⊎ (f ≡ NodeLimit c.limit))
    → (result ≡ Err (NodeLimit c.limit) → IsLimited nodes c.first c.second c.care c.limit) → IsCompared c nodes (outcome_of end)
limit_compares c nodes end result (NodeLimit n) is same faults limited =
    let at : n ≡ c.limit = limit_is n c.limit (of_fault (λ f. (f ≡ Memory) ⊎ (f ≡ NodeLimit c.limit)) result (NodeLimit n) is faults) in
    Unfinished (limited (is ∙ ap (λ (m : ℕ). Err (NodeLimit m)) at)) (same ∙ ap limit_reached at)
limit_compares c nodes end result Memory is same faults limited = absurd same
