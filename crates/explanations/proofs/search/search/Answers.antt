use Rattle.std.proofs.Common.{◌≡◌, ◌+◌, List, length, take, ◌++◌, sym, subst, arith, Option}
use Rattle.std.proofs.lemmas.Bool.Decides.{nat_tests}
use Rattle.std.proofs.lemmas.List.{take_at}
use Rattle.explanations.specs.declared.search.SearchStep.{SearchStep}
use Rattle.explanations.specs.Search.{IsSearch, IsSearching, IsNextLevel}
use Rattle.explanations.proofs.SearchLemmas.{searching_first_at, searching_more, searched_all, level_within}
use Rattle.explanations.proofs.search.search.Goals as goal

pub loop-depth-init : goal.loop-depth-init
loop-depth-init c = grind (arith, searching_first_at c.args.graph.now c.args.root c.in_ok-steps.steps.items c.in_ok-level.level.items c.requires)

pub next_level-requires-clause-nodes : goal.next_level-requires-clause-nodes
next_level-requires-clause-nodes c = grind (arith, level_within c.args.graph.now c.args.root c.loop-depth.depth c.loop-depth.level.items c.loop-depth.steps.items c.loop-depth.invariant.0)

-- what the slice of the steps holds after a level is what the steps hold
kept : (n : _) (steps rest : List (Option SearchStep)) → length steps ≡ n → steps ≡ take n (steps ++ rest)
kept n steps rest e = sym (take_at steps rest n e)

pub returns-then-is_empty : goal.returns-then-is_empty
returns-then-is_empty c =
    let next : IsNextLevel c.args.graph.now c.loop-depth.level.items (length c.loop-depth.level.items) (c.loop-depth.depth + 1) c.loop-depth.steps.items c.next_level.new.steps c.in_ok-next.next.items =
    rw (c.deref.ensures.value, c.deref_mut.ensures.value) at c.in_ok-next.ensures in
    let size : length c.next_level.new.steps ≡ c.loop-depth.steps.len = (let s = next.grown.size in let own = c.loop-depth.steps.ok.0 in omega arith) in
    subst (λ (steps : List (Option SearchStep)). IsSearch c.args.graph.now c.args.root c.args.limit steps)
    (kept c.loop-depth.steps.len c.next_level.new.steps _ size)
    (searched_all c.args.graph.now c.args.root c.loop-depth.depth c.loop-depth.level.items c.loop-depth.steps.items c.next_level.new.steps c.in_ok-next.next.items
    c.loop-depth.invariant.0 next c.args.limit c.loop-depth-test.true (let is = c.if-is_empty.ensures in let own = c.in_ok-next.next.ok.0 in grind (arith, nat_tests)))

pub loop-depth-preserved : goal.loop-depth-preserved
loop-depth-preserved c =
    let next : IsNextLevel c.args.graph.now c.loop-depth.level.items (length c.loop-depth.level.items) (c.loop-depth.depth + 1) c.loop-depth.steps.items c.next_level.new.steps c.in_ok-next.next.items =
    rw (c.deref.ensures.value, c.deref_mut.ensures.value) at c.in_ok-next.ensures in
    let size : length c.next_level.new.steps ≡ c.loop-depth.steps.len = (let s = next.grown.size in let own = c.loop-depth.steps.ok.0 in omega arith) in (
      subst (λ (steps : List (Option SearchStep)). IsSearching c.args.graph.now c.args.root (c.loop-depth.depth + 1) c.in_ok-next.next.items steps)
          (kept c.loop-depth.steps.len c.next_level.new.steps _ size)
          (searching_more c.args.graph.now c.args.root c.loop-depth.depth c.loop-depth.level.items c.loop-depth.steps.items c.next_level.new.steps c.in_ok-next.next.items
          c.loop-depth.invariant.0 next (let is = c.if-is_empty.ensures in let own = c.in_ok-next.next.ok.0 in grind (arith, nat_tests))),
      omega arith,
    )

pub returns : goal.returns
returns c = grind arith

pub overflow_add-depth-in-loop-depth : goal.overflow_add-depth-in-loop-depth
overflow_add-depth-in-loop-depth c = grind arith
