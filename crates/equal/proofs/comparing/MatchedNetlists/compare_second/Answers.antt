use Rattle.std.proofs.Common.{◌≡◌, None, sym, subst, ◌∙◌, arith}
use Rattle.refusals.specs.declared.observe.Observe.TheVariants as observe
use Rattle.equal.proofs.Common.{refusal, IfOk, Answer, Matched, Compares}
use Rattle.equal.proofs.BoundLemmas.{below_second, below_both, out_second, out_both, same_fault}
use Rattle.miters.proofs.ComparisonLemmas.{both_accepted, told_last}
use Rattle.equal.proofs.CompareLemmas.{given_up}
use Rattle.equal.proofs.comparing.MatchedNetlists.compare_second.Goals as goal

pub compare_accepted-requires-clause-accepted : goal.compare_accepted-requires-clause-accepted
compare_accepted-requires-clause-accepted c =
    let m = c.self.inside in
    let is = c.self.invariant in
    grind (arith, both_accepted m.a.now m.b.now m.care_a.now m.care_b.now is.valid_b is.first is.second is.source)

pub returns-in-Ok-Some : goal.returns-in-Ok-Some
returns-in-Ok-Some c = grind arith

pub returns-in-Ok-None : goal.returns-in-Ok-None
returns-in-Ok-None c =
    let m = c.self.inside in
    let is = c.self.invariant in
    let first : None ≡ refusal m.a.now m.care_a.now observe.All = subst (λ (m : Matched). None ≡ refusal m.a m.care_a observe.All) (sym c.self.view_is) c.requires in
    subst (λ (m : Matched). Compares m c.compare_accepted.new.d c.compare_accepted.result) c.self.view_is (record {
      answer =
          subst (λ (told : Answer). IfOk c.compare_accepted.result (λ answer. answer ≡ told))
          (told_last m.a.now m.care_a.now m.b.now m.care_b.now is.names first (sym c.in-Ok-None.field-0-is ∙ c.in-Ok-None.ensures.refusal)) c.compare_accepted.ensures.answer;
      fault = c.compare_accepted.ensures.fault;
      cause = λ e. out_both c.compare_accepted.new.d m.a.now m.care_a.now m.b.now m.limit (c.compare_accepted.ensures.cause e);
      below = λ e. below_both m.a.now m.care_a.now m.b.now m.care_b.now m.limit is.valid_a is.valid_b is.names (c.compare_accepted.ensures.below e);
    })

pub returns-in-Err : goal.returns-in-Err
returns-in-Err c =
    let m = c.self.inside in
    given_up _ _ _ _ c.self.view_is c.in-Err.ensures.fault
    (λ e. out_second c.refusal_of.new.d m.a.now m.care_a.now m.b.now m.care_b.now m.limit c.self.invariant.source (c.refusal_of.ensures.cause (c.in-Err.is ∙ same_fault c.in-Err.fault _ e)))
    (λ e. below_second m.a.now m.care_a.now m.b.now m.care_b.now m.limit (c.refusal_of.ensures.below (c.in-Err.is ∙ same_fault c.in-Err.fault _ e)))
