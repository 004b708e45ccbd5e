-- A decision, a search for an assumption and a comparison by the options of a command, which end the call.
use Rattle.std.proofs.Common.{◌≡◌, ◌⊎◌, ℕ, inl, inr, subst}
use Rattle.cyc_tool.proofs.Common.{IfOk, Arena, ComesOf, Parts, IsNetlist, IsCompared, IsDecided, IsSought, Assumes, Compares, Decides, Purpose, outcome_of, Outcome, no_memory}
use Rattle.std.specs.Prelude.{unwrap_or}
use Rattle.std.specs.declared.alloc.AllocError.{AllocError}
use Rattle.std.specs.declared.result.Result.{Result}
use Rattle.care_sets.specs.Care.{CareSet}
use Rattle.commands.specs.Words.{Options}
use Rattle.cyc_base.specs.declared.limits.TheConstants.{DEFAULT_NODES}
use Rattle.refusals.specs.declared.observe.Observe.{Observe}
use Rattle.refusals.specs.declared.observe.Observe.TheVariants.{All}
use Rattle.plain_commands.specs.Plans.{comparison, decision}
use Rattle.plain_commands.specs.Reading.{FollowsStill}
use Rattle.plain_commands.specs.Seen.{EndsAs}
use Rattle.plain_commands.specs.declared.outcome.Outcome.{Outcome as Told}
use Rattle.plain_commands.proofs.PlanLemmas.{ends_or_lacks, follows_still}

pub decides_by_options : (net : Parts) (care : CareSet) (options : Options) (purpose : Purpose) (nodes : Arena) (limit : ℕ) (what : Observe)
    (result : Result Told AllocError) (end : Outcome) → limit ≡ unwrap_or options.nodes DEFAULT_NODES → what ≡ unwrap_or options.observe All → IsNetlist net
    → EndsAs result end → IfOk result (λ told. IsDecided (record { net = net; care = care; limit = limit; observe = what }) purpose nodes (outcome_of told))
    → FollowsStill (ComesOf nodes) (Decides (decision net care options) purpose) end
decides_by_options net care options purpose nodes limit what result end limited observed valid ends decided = record {
  follows = λ files counts.
      follows_still (ComesOf nodes) files counts end (Decides (decision net care options) purpose)
      (elim told [ inl is ↦ inl (valid, is) | inr lacks ↦ inr lacks ]);
}
  where
    of : ℕ → Observe → Outcome → Type 0
    of n o = IsDecided (record { net = net; care = care; limit = n; observe = o }) purpose nodes

    told : IsDecided (decision net care options) purpose nodes end ⊎ (end ≡ no_memory)
    told =
        ends_or_lacks result (IsDecided (decision net care options) purpose nodes) end ends
        (subst (λ (o : Observe). IfOk result (λ t. of (decision net care options).limit o (outcome_of t))) observed
        (subst (λ (n : ℕ). IfOk result (λ t. of n what (outcome_of t))) limited decided))

pub seeks_by_options : (net : Parts) (care : CareSet) (options : Options) (nodes : Arena) (limit : ℕ) (what : Observe) (result : Result Told AllocError) (end : Outcome)
    → limit ≡ unwrap_or options.nodes DEFAULT_NODES → what ≡ unwrap_or options.observe All → IsNetlist net → EndsAs result end
    → IfOk result (λ told. IsSought (record { net = net; care = care; limit = limit; observe = what }) nodes (outcome_of told))
    → FollowsStill (ComesOf nodes) (Assumes (decision net care options)) end
seeks_by_options net care options nodes limit what result end limited observed valid ends sought = record {
  follows = λ files counts.
      follows_still (ComesOf nodes) files counts end (Assumes (decision net care options))
      (elim told [ inl is ↦ inl (valid, is) | inr lacks ↦ inr lacks ]);
}
  where
    of : ℕ → Observe → Outcome → Type 0
    of n o = IsSought (record { net = net; care = care; limit = n; observe = o }) nodes

    told : IsSought (decision net care options) nodes end ⊎ (end ≡ no_memory)
    told =
        ends_or_lacks result (IsSought (decision net care options) nodes) end ends
        (subst (λ (o : Observe). IfOk result (λ t. of (decision net care options).limit o (outcome_of t))) observed
        (subst (λ (n : ℕ). IfOk result (λ t. of n what (outcome_of t))) limited sought))

pub compares_by_options : (first second : Parts) (care : CareSet) (options : Options) (nodes : Arena) (limit : ℕ) (result : Result Told AllocError) (end : Outcome)
    → limit ≡ unwrap_or options.nodes DEFAULT_NODES → EndsAs result end
    → IfOk result (λ told. IsCompared (record { first = first; second = second; care = care; limit = limit }) nodes (outcome_of told))
    → FollowsStill (ComesOf nodes) (Compares (comparison first second care options)) end
compares_by_options first second care options nodes limit result end limited ends compared = record {
  follows = λ files counts.
      follows_still (ComesOf nodes) files counts end (Compares (comparison first second care options))
      (ends_or_lacks result (IsCompared (comparison first second care options) nodes) end ends
      (subst (λ (n : ℕ). IfOk result (λ t. IsCompared (record { first = first; second = second; care = care; limit = n }) nodes (outcome_of t))) limited compared));
}
