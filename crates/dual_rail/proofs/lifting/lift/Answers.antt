use Rattle.std.proofs.Common.{◌≡◌, ◌+◌, ◌*◌, ◌≤◌, [], ◌∷◌, ◌++◌, length, sym, ap, ap₂, subst, ◌∙◌, arith}
use Rattle.dual_rail.proofs.Common.{All, length_push, Node, den, KeepsNodes, BoundsEach, IsExtended, value, exact, Rails, values_of, AreRailsOf, function, IsLift, IsTable}
use Rattle.bdd_ops.proofs.ChainLemmas.{pushed}
use Rattle.bdd_store.specs.Growth.{GrowsWithin, NoOtherCause}
use Rattle.bdd_store.proofs.NodeLemmas.{plain}
use Rattle.bdd_store.proofs.GrowthLemmas.{nothing_grown, within_then, within_moved, within_more, within_refused, within_answered, within_memory}
use Rattle.dual_rail.specs.Local.{local_size}
use Rattle.dual_rail.proofs.SurelyLemmas.{All-rails-kept, IsLift-rails, IsLift-exact, values_of-kept, exact-alike, length-values}
use Rattle.dual_rail.proofs.WidthLemmas.{BoundsEach-kept}
use Rattle.dual_rail.proofs.TableLemmas.{base_rails, base-table, step-table, local-count}
use Rattle.dual_rail.proofs.lifting.lift.Goals as goal
use Rattle.dual_rail.proofs.lifting.lift.Goals.{After-lift_node, After-count-position-end}

step : (c : After-lift_node) → GrowsWithin c.lift_node.result c.args.d.now c.lift_node.new.d NoOtherCause (BoundsEach c.args.d.now.vars (IsExtended c.args.d.now c.args.pins.now (function c.args.local.now))) (2 * c.loop-position.position + 2)
step c = within_then c.loop-position.invariant.grows (within_moved (λ w bounds. BoundsEach-kept c.loop-position.invariant.grows.keeps c.requires.rails bounds) c.lift_node.ensures.grows)

pub loop-position-init : goal.loop-position-init
loop-position-init c =
    let items : c.in-Ok.table.items ≡ base_rails = c.in-Ok.ensures.items ∙ ap (λ (r : Rails). r ∷ []) (ap₂ (λ n m. record { one = n; zero = m }) c.rails_of.ensures.one c.rails_of.ensures.zero) in
    grind (arith, nothing_grown, base-table c.args.local.now c.args.d.now c.args.pins.now)

pub loop-position-preserved : goal.loop-position-preserved
loop-position-preserved c =
    let kept : KeepsNodes c.args.d.now c.loop-position.d = c.loop-position.invariant.grows.keeps in
    let all : All (AreRailsOf c.loop-position.d) c.args.pins.now = All-rails-kept kept c.args.pins.now c.requires.rails in
    let items : c.push.new.self.items ≡ c.loop-position.table.items ++ c.in_ok-rails.rails ∷ [] = pushed c.push.result c.push.new.self.items (c.loop-position.table.items ++ c.in_ok-rails.rails ∷ []) c.loop-position.table.items c.if-is_err.ensures.value c.push.ensures.items in
    record {
      grows = within_more (omega arith) (within_answered (step ((goal.at.loop-position-preserved c).After-lift_node)));
      long = ap length items ∙ omega (arith, length_push c.loop-position.table.items c.in_ok-rails.rails, c.loop-position.invariant.long);
      table = step-table c.push.new.self.items c.at.result c.in_ok-rails.rails c.loop-position.invariant.table c.lift_node.ensures.grows.keeps all (omega (arith, c.loop-position.invariant.long, c.at.ensures)) (plain c.at.result c.loop-position.position c.at.ensures).1 c.in_ok-rails.ensures.lift items;
      within = omega (arith, c.loop-position-test.true);
    }

top_lift : (c : goal.After-drop-table-2) → IsLift c.loop-position.d c.args.pins.now (function c.args.local.now) c.rails_at.result
top_lift c = subst (λ (n : Node). IsLift c.loop-position.d c.args.pins.now (den c.args.local.now.store n) c.rails_at.result) c.top-top.ensures.top (c.rails_at.ensures c.args.local.now c.loop-position.d c.args.pins.now (subst (IsTable c.args.local.now c.loop-position.d c.args.pins.now) (sym c.deref-2.ensures.value) c.loop-position.invariant.table))

pub returns-clause-rails : goal.returns-clause-rails
returns-clause-rails c = IsLift-rails (top_lift c)

pub returns-clause-value : goal.returns-clause-value
returns-clause-value c bits = IsLift-exact (top_lift c) bits ∙ ap (exact (function c.args.local.now)) (values_of-kept c.loop-position.invariant.grows.keeps c.args.pins.now c.requires.rails bits)

pub returns-clause-cover : goal.returns-clause-cover
returns-clause-cover c cover is bits =
    grind (arith, IsLift-exact (top_lift c) bits, top_lift c, values_of-kept c.loop-position.invariant.grows.keeps c.args.pins.now c.requires.rails bits, exact-alike (function c.args.local.now) (value cover) (values_of c.args.d.now c.args.pins.now bits), length-values c.args.d.now c.args.pins.now bits)

-- the cover's function has a node for each entry
sized : (c : After-count-position-end) → c.count-position-end.result ≤ local_size c.args.local.now
sized c = grind (arith, local-count c.args.local.now)

pub returns-clause-grows : goal.returns-clause-grows
returns-clause-grows c = within_more (omega (arith, sized ((goal.at.returns-clause-grows c).After-count-position-end), c.loop-position.invariant.within)) (within_answered c.loop-position.invariant.grows)

pub returns-in_err-rails-clause-grows : goal.returns-in_err-rails-clause-grows
returns-in_err-rails-clause-grows c =
    let at = goal.at.returns-in_err-rails-clause-grows c in
    within_more (omega (arith, sized (at.After-count-position-end), c.loop-position-test.true)) (within_refused c.in_err-rails.was c.from_residual.ensures.1 (step (at.After-lift_node)))

pub returns-then-is_err-clause-grows : goal.returns-then-is_err-clause-grows
returns-then-is_err-clause-grows c =
    let at = goal.at.returns-then-is_err-clause-grows c in
    within_more (omega (arith, sized (at.After-count-position-end), c.loop-position-test.true)) (within_memory (step (at.After-lift_node)))

pub lift_node-requires-clause-unmarked : goal.lift_node-requires-clause-unmarked
lift_node-requires-clause-unmarked c = (plain c.at.result c.loop-position.position c.at.ensures).1
