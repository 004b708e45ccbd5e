use Rattle.std.proofs.Common.{◌≡◌, [], ◌∷◌, ◌++◌, length, sym, ap, subst, ◌∙◌, arith}
use Rattle.ternary_clauses.proofs.Common.{length_push, IsTable}
use Rattle.bdd_store.proofs.NodeLemmas.{plain}
use Rattle.ternary_clauses.proofs.LiftLemmas.{base-table, step-table}
use Rattle.ternary_clauses.proofs.KeptLemmas.{Extends-refl, Extends-chain}
use Rattle.ternary_clauses.proofs.ReadingLemmas.{All-within-more}
use Rattle.ternary_clauses.proofs.lifting.lift_before.Goals as goal

pub loop-position-init : goal.loop-position-init
loop-position-init c = grind (arith, Extends-refl c.args.formula.now c.args.pins.now c.requires.formula, base-table c.args.local.now.store c.args.formula.now c.args.pins.now c.requires.formula)

pub loop-position-preserved : goal.loop-position-preserved
loop-position-preserved c =
    let items : c.push.new.self.items ≡ c.loop-position.table.items ++ c.in_ok-rails.rails ∷ [] = c.in_ok-push.ensures.items in
    record {
      grown = Extends-chain c.args.formula.now c.loop-position.formula c.lift_node.new.formula c.args.pins.now c.requires.rails c.loop-position.invariant.grown c.in_ok-rails.ensures.extends;
      long = ap length items ∙ omega (arith, length_push c.loop-position.table.items c.in_ok-rails.rails, c.loop-position.invariant.long);
      table = step-table c.push.new.self.items c.at.result c.in_ok-rails.rails c.loop-position.invariant.table c.in_ok-rails.ensures.extends.grows (omega (arith, c.loop-position.invariant.long, c.at.ensures)) (plain c.at.result c.loop-position.position c.at.ensures).1 c.in_ok-rails.ensures.lift items;
      within = omega (arith, c.loop-position-test.true);
    }

pub lift_node-requires-clause-table : goal.lift_node-requires-clause-table
lift_node-requires-clause-table c = subst (IsTable c.args.local.now.store c.loop-position.formula c.args.pins.now) (sym c.deref.ensures.value) c.loop-position.invariant.table

pub lift_node-requires-clause-rails : goal.lift_node-requires-clause-rails
lift_node-requires-clause-rails c = All-within-more c.args.formula.now.variables c.loop-position.formula.variables c.args.pins.now c.loop-position.invariant.grown.grows.more c.requires.rails
