use Rattle.std.proofs.Common.{◌≡◌, slice_get, Some, refl, sym, ap, arith, Err}
use Rattle.bdd_store.proofs.Common.{slice_get_within, Entry, KeepsNodes}
use Rattle.bdd_store.specs.contracts.store.Store.{the_view}
use Rattle.std.proofs.lemmas.Result.{err_from_is_err_and}
use Rattle.bdd_store.specs.Growth.{IsEntered}
use Rattle.bdd_store.proofs.MakeLemmas.{Asked, with_entries, normal, length-entered, make-new_function, make-sound, make-keeps, make-value, make-top, make-new_node, refused-from, absent-from}
use Rattle.bdd_store.proofs.store.Store.make.Goals as goal
use Rattle.bdd_store.proofs.store.Store.make.Goals.{After-enter, After-complement_if-3}

asked : (c : After-enter) → Asked (the_view c.self.inside) c.args.var c.args.lo c.args.hi
asked c = grind arith

-- the entry that is looked for
entry_is : (c : After-enter) → ◌≡◌ {A = Entry} (record { var = c.args.var; lo = c.complement_if.result; hi = c.complement_if-2.result }) (normal c.args.var c.args.lo c.args.hi)
entry_is c = rw (c.complement_if.ensures.complement, c.complement_if-2.ensures.complement, c.is_marked-mark.ensures) refl

pub node_at-requires : goal.node_at-requires
node_at-requires c = grind (arith, length-entered c.self.inside.entries.keys c.enter.new.entries.keys c.self.inside.limit _ c.self.invariant.1 c.in_ok-at.ensures.ok, slice_get_within c.enter.new.entries.keys c.in_ok-at.at _ c.in_ok-at.ensures.at)

module _ (c : After-complement_if-3) where
  abbrev before : After-enter
  before = (goal.at.invariant_of-self-2 c).After-enter

  entered : IsEntered c.self.inside.entries.keys c.enter.new.entries.keys c.self.inside.limit (normal c.args.var c.args.lo c.args.hi)
  entered = rw (entry_is before) at c.in_ok-at.ensures.ok

  found : slice_get c.enter.new.entries.keys c.in_ok-at.at ≡ Some (normal c.args.var c.args.lo c.args.hi)
  found = rw (entry_is before) at c.in_ok-at.ensures.at

  keeps : KeepsNodes (the_view c.self.inside) (with_entries (the_view c.self.inside) c.enter.new.entries.keys)
  keeps = make-keeps (the_view c.self.inside) c.args.var c.args.lo c.args.hi (asked before) c.self.inside.limit c.enter.new.entries.keys entered

pub invariant_of-self-2 : goal.invariant_of-self-2
invariant_of-self-2 c =
    grind (arith, length-entered c.self.inside.entries.keys c.enter.new.entries.keys c.self.inside.limit _ c.self.invariant.1 (entered c), entered c, make-sound (the_view c.self.inside) c.args.var c.args.lo c.args.hi (asked (before c)) c.self.inside.limit c.enter.new.entries.keys (entered c), asked (before c), keeps c)

pub returns-clause-node : goal.returns-clause-node
returns-clause-node c = grind (arith, slice_get_within, found)

pub returns-clause-function : goal.returns-clause-function
returns-clause-function c =
    grind (arith, make-value (the_view c.self.inside) c.args.var c.args.lo c.args.hi (asked (before c)) c.self.inside.limit c.enter.new.entries.keys (entered c) c.in_ok-at.at (found c) c.node_at.result c.node_at.ensures, asked (before c), entered c, found c)

pub returns-clause-top : goal.returns-clause-top
returns-clause-top c =
    grind (arith, make-top (the_view c.self.inside) c.args.var c.args.lo c.args.hi (asked (before c)) c.self.inside.limit c.enter.new.entries.keys (entered c) c.in_ok-at.at (found c) c.node_at.result c.node_at.ensures, asked (before c), entered c, found c)

pub returns-clause-keeps : goal.returns-clause-keeps
returns-clause-keeps c = rw (← c.self.view_is) (keeps c)

pub returns-clause-new_node : goal.returns-clause-new_node
returns-clause-new_node c n in_n =
    grind (arith, make-new_node (the_view c.self.inside) c.args.var c.args.lo c.args.hi (asked (before c)) c.self.inside.limit c.enter.new.entries.keys (entered c) c.in_ok-at.at (found c) c.node_at.result c.node_at.ensures n in_n, asked (before c), entered c, found c)

pub returns-in_err-at-clause-full : goal.returns-in_err-at-clause-full
returns-in_err-at-clause-full c =
    let before : After-enter = (goal.at.returns-in_err-at-clause-full c).After-enter in
    let full = rw (entry_is before) at c.in_err-at.ensures.full in (
      λ is_full.
          let refused = full.0 (ap Err (sym (rw is_full at c.from_residual.ensures.1))) in
          rw (← c.self.view_is) (refused-from (the_view c.self.inside) c.args.var c.args.lo c.args.hi (asked before) refused.0 refused.1),
      λ refused.
          let was = rw (← c.self.view_is) at refused in
          let gave = full.1 (was.1, absent-from (the_view c.self.inside) c.args.var c.args.lo c.args.hi (asked before) was) in
          let handed_on = err_from_is_err_and c.from_residual.result c.from_residual.ensures.1 in
          cc (handed_on.1, handed_on.2, gave),
    )

pub returns-in_err-at-clause-new_function : goal.returns-in_err-at-clause-new_function
returns-in_err-at-clause-new_function c is_full =
    let before : After-enter = (goal.at.returns-in_err-at-clause-new_function c).After-enter in
    let full = rw (entry_is before) at c.in_err-at.ensures.full in
    let refused = full.0 (ap Err (sym (rw is_full at c.from_residual.ensures.1))) in
    rw (← c.self.view_is) (make-new_function (the_view c.self.inside) c.args.var c.args.lo c.args.hi (asked before) refused.1)
