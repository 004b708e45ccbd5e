use Rattle.std.proofs.Common.{Bool, List, Option, IfSome, sym, subst, arith}
use Rattle.inner_pairs.specs.Beginnings.{IsLeastBeginning, IsNextValue}
use Rattle.inner_pairs.proofs.cases.JoinedPairs.least_values.Goals as goal

pub loop-preserved : goal.loop-preserved
loop-preserved c =
    let net = c.args.self.now.looped.now.net in
    let care = c.args.self.now.care.now in
    let pairs = c.args.self.now.pairs.now in
    let next : IsNextValue net care pairs c.loop.values.items c.in-Some.value =
    subst (λ (values : List Bool). IsNextValue net care pairs values c.in-Some.value) c.deref.ensures.value
    (subst (λ (found : Option Bool). IfSome found (IsNextValue net care pairs c.deref.result.now)) c.in-Some.is c.in_ok-value.ensures) in
    let len = c.in_ok-push-in-Some.ensures.len in
    let width = c.loop.invariant.width in
    record {
      width = omega (arith, len, width);
      least = subst (IsLeastBeginning net care pairs) (sym c.in_ok-push-in-Some.ensures.items) (next c.loop.invariant.least);
    }
