use Rattle.std.proofs.Common.{◌≡◌, ◌≤◌, ◌∙◌, false, true, true≢false, refl, replicate, ap, sym, arith}
use Rattle.std.proofs.lemmas.Bool.{cases_lt}
use Rattle.bdd_store.specs.declared.node.Node.{Node}
use Rattle.bdd_store.specs.Arena.{constant, den}
use Rattle.bdd_ops.proofs.LeastLemmas.{IsOnWay-start, IsOnWay-next, IsLeast-end, out_apart, out_with_one, high_alive, is_no_constant, is_the_constant}
use Rattle.bdd_ops.proofs.least.least.Goals as goal

pub loop-no-init : goal.loop-no-init
loop-no-init c = record { way = IsOnWay-start c.args.store.now c.laws.ensures c.args.n c.clear.new.out c.requires.node (is_no_constant c.args.n c.of-no.result c.eq.result c.eq.ensures c.if-eq.false c.of-no.ensures.constant) (c.clear.ensures ∙ ap (λ k. replicate k false) c.requires.bits) }

-- the low branch is false, and the bit is set
pub loop-no-preserved-then-eq-2 : goal.loop-no-preserved-then-eq-2
loop-no-preserved-then-eq-2 c =
    let way = c.loop-no.invariant.way in
    let branching : 2 ≤ c.loop-no.at.number = c.loop-no-test.ensures.0 refl in
    let low_is : c.lo-low.result ≡ constant false = is_the_constant c.lo-low.result c.of-no.result c.eq-in-loop-no.result c.eq-in-loop-no.ensures c.if-eq-2.true c.of-no.ensures.constant in
    record {
      way = IsOnWay-next c.args.store.now c.laws.ensures c.args.n c.loop-no.at c.hi-at.result c.loop-no.out way true c.hi-at.ensures.node c.hi-at.ensures.lower
          (high_alive c.args.store.now c.laws.ensures c.loop-no.at c.lo-low.result c.hi-at.result way.node branching low_is c.lo-low.ensures.function c.hi-at.ensures.function)
          c.hi-at.ensures.function
          (λ h bits read. c.lo-low.ensures.function bits read ∙ ap (λ (n : Node). den c.args.store.now n bits) low_is ∙ c.laws.ensures.constants false bits)
          _ (out_with_one c.args.store.now c.args.n c.loop-no.at c.loop-no.out way c.hi-at.ensures.within c.top.result c.top.ensures.variable);
    }

pub loop-no-preserved : goal.loop-no-preserved
loop-no-preserved c =
    let way = c.loop-no.invariant.way in
    record {
      way = IsOnWay-next c.args.store.now c.laws.ensures c.args.n c.loop-no.at c.lo-low.result c.loop-no.out way false c.lo-low.ensures.node c.lo-low.ensures.lower
          (is_no_constant c.lo-low.result c.of-no.result c.eq-in-loop-no.result c.eq-in-loop-no.ensures c.if-eq-2.false c.of-no.ensures.constant)
          c.lo-low.ensures.function
          (λ h bits read. absurd (true≢false (sym h)))
          c.loop-no.out (out_apart c.args.store.now c.args.n c.loop-no.at c.loop-no.out way c.lo-low.ensures.within);
    }

pub returns-clause-least : goal.returns-clause-least
returns-clause-least c = grind (arith, cases_lt c.loop-no.at.number 2, true≢false, IsLeast-end c.args.store.now c.laws.ensures c.args.n c.loop-no.at c.loop-no.out c.loop-no.invariant.way)
