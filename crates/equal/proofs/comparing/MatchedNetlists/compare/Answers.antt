use Rattle.std.proofs.Common.{◌≡◌, None, sym, subst, ◌∙◌, arith}
use Rattle.refusals.specs.declared.observe.Observe.TheVariants as observe
use Rattle.equal.proofs.Common.{refusal, Matched}
use Rattle.equal.proofs.BoundLemmas.{below_first, out_first, same_fault}
use Rattle.equal.proofs.CompareLemmas.{given_up}
use Rattle.equal.proofs.comparing.MatchedNetlists.compare.Goals as goal

pub compare_second-requires : goal.compare_second-requires
compare_second-requires c = subst (λ (m : Matched). None ≡ refusal m.a m.care_a observe.All) c.self.view_is (sym c.in-Ok-None.field-0-is ∙ c.in-Ok-None.ensures.refusal)

pub returns-in-Ok-Some : goal.returns-in-Ok-Some
returns-in-Ok-Some c = grind arith

pub returns-in-Err : goal.returns-in-Err
returns-in-Err c =
    let m = c.self.inside in
    given_up _ _ _ _ c.self.view_is c.in-Err.ensures.fault
    (λ e. out_first c.refusal_of.new.d m.a.now m.care_a.now m.b.now m.limit (c.refusal_of.ensures.cause (c.in-Err.is ∙ same_fault c.in-Err.fault _ e)))
    (λ e. below_first m.a.now m.care_a.now m.b.now m.care_b.now m.limit (c.refusal_of.ensures.below (c.in-Err.is ∙ same_fault c.in-Err.fault _ e)))
