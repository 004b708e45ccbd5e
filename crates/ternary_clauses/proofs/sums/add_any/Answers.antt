use Rattle.std.proofs.Common.{◌≡◌, ◌<◌, ◌+◌, List, ℕ, ◌∷◌, [], ◌++◌, length, take, get_or, sym, subst, arith}
use Rattle.ternary_clauses.proofs.Common.{SaysAny, take_more}
use Rattle.ternary_clauses.proofs.SumLemmas.{IsLast, any-none, any-step, last-none, last-step}
use Rattle.ternary_clauses.proofs.sums.add_any.Goals as goal

pub loop-literal-init : goal.loop-literal-init
loop-literal-init c =
    let f = c.args.formula.now in
    record { sums = rw c.new-sums.ensures.items (any-none f c.requires.formula); last = last-none f c.requires.formula; variables = omega arith }

pub loop-literal-preserved : goal.loop-literal-preserved
loop-literal-preserved c =
    let old = c.args.formula.now in
    let mid = c.loop-literal.formula in
    let new = c.add_or.new.formula in
    let i = c.loop-literal.literal-index in
    let l = get_or c.args.literals.now c.loop-literal.literal-index 0 in
    let inside : i < length c.args.literals.now = omega (arith, c.loop-literal-test.true) in
    let longer : take (i + 1) c.args.literals.now ≡ take i c.args.literals.now ++ l ∷ [] = take_more c.args.literals.now c.loop-literal.literal-index 0 inside in
    record {
      variables = omega (arith, c.loop-literal.invariant.variables, c.in_ok-last.ensures.variables);
      sums = subst (λ (xs : List ℕ). SaysAny old new (take (i + 1) c.args.literals.now) xs) (sym c.in_ok-push.ensures.items)
          (subst (λ (xs : List ℕ). SaysAny old new xs (c.loop-literal.sums.items ++ c.in_ok-last.last ∷ [])) (sym longer)
          (any-step old mid new (take i c.args.literals.now) c.loop-literal.sums.items c.loop-literal.last l c.in_ok-last.last c.loop-literal.invariant.sums c.loop-literal.invariant.last c.in_ok-last.ensures.says));
      last = subst (λ (xs : List ℕ). IsLast new xs c.in_ok-last.last) (sym longer)
          (last-step old mid new (take i c.args.literals.now) c.loop-literal.sums.items c.loop-literal.last l c.in_ok-last.last c.loop-literal.invariant.sums c.loop-literal.invariant.last c.in_ok-last.ensures.says);
    }
