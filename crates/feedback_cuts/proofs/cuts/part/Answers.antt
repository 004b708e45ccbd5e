-- What the search has found is raised over the levels of what the goal reads.
use Rattle.std.proofs.Common.{◌≡◌, ◌≤◌, refl, length, arith}
use Rattle.feedback_cuts.proofs.Common.{get_or_default, with_items_is, row_at}
use Rattle.feedback_cuts.proofs.KeptLemmas.{within_of}
use Rattle.feedback_cuts.proofs.SearchLemmas.{ended, found_from, meets_at, ready_next}
use Rattle.feedback_cuts.specs.Searching.{HasSearched}
use Rattle.feedback_cuts.proofs.cuts.part.Goals as goal
use Rattle.feedback_cuts.proofs.cuts.part.Goals.{In_ok-spread}

-- the row that the goal reads
behind_row : (c : In_ok-spread) → c.gates-behind.result.now ≡ row_at c.args.kept.now.sources.items c.args.goal
behind_row c = grind (arith, get_or_default)

-- the row of those that read it
ahead_row : (c : In_ok-spread) → c.gates-ahead.result.now ≡ row_at c.args.kept.now.readers.items c.args.goal
ahead_row c = grind (arith, get_or_default)

searched : (c : In_ok-spread) → HasSearched c.args.kept.now.readers.items c.args.kept.now.levels.items c.highest-high.result c.args.goal (row_at c.args.kept.now.readers.items c.args.goal) (row_at c.args.kept.now.sources.items c.args.goal) c.args.search.now c.spread.new.self c.in_ok-spread.field-0
searched c = rw (ahead_row c, behind_row c, c.links-links.ensures.readers, c.links-links.ensures.levels) at c.in_ok-spread.ensures

high_low : (c : In_ok-spread) → c.highest-high.result ≤ c.args.goal
high_low c = c.highest-high.ensures.least c.args.goal (λ n listed. rw c.links-links.ensures.levels (c.requires.low n))

pub returns-then-branch-clause-parted : goal.returns-then-branch-clause-parted
returns-then-branch-clause-parted c = (
  meets_at c.args.kept.now.readers.items c.args.kept.now.sources.items c.args.kept.now.levels.items c.highest-high.result c.args.goal c.args.search.now c.spread.new.self c.requires.ready
      (rw c.if-branch.true at (searched (goal.at.returns-then-branch-clause-parted c).In_ok-spread)),
  refl,
)

pub returns-then-branch-clause-ready : goal.returns-then-branch-clause-ready
returns-then-branch-clause-ready c =
    ready_next c.args.kept.now.readers.items c.args.kept.now.sources.items c.args.kept.now.levels.items c.highest-high.result c.args.goal c.args.search.now c.spread.new.self c.requires.ready
    _ (searched (goal.at.returns-then-branch-clause-ready c).In_ok-spread)

pub returns-then-branch-clause-found : goal.returns-then-branch-clause-found
returns-then-branch-clause-found c =
    found_from c.args.kept.now.readers.items c.args.kept.now.sources.items c.args.kept.now.levels.items c.highest-high.result c.args.goal c.args.search.now c.spread.new.self c.requires.ready
    _ (searched (goal.at.returns-then-branch-clause-found c).In_ok-spread)

pub overflow_add-high : goal.overflow_add-high
overflow_add-high c = (let most = high_low (goal.at.overflow_add-high c).In_ok-spread in omega (arith, c.requires.fits))

pub raise-requires : goal.raise-requires
raise-requires c =
    let h = searched (goal.at.raise-requires c).In_ok-spread in
    grind (arith, within_of c.spread.new.self.found.items (length c.args.kept.now.levels.items) (λ x listed. (let r = h.searching.reached x listed in r.within)))

pub returns-clause-parted : goal.returns-clause-parted
returns-clause-parted c =
    let p = (goal.at.returns-clause-parted c).In_ok-spread in
    let above = c.highest-high.ensures.above in
    grind (
      arith,
      with_items_is c.args.kept.now.levels c.raise.new.levels,
      high_low p,
      behind_row p,
      ended c.args.kept.now.readers.items c.args.kept.now.sources.items c.args.kept.now.levels.items c.highest-high.result c.args.goal c.args.search.now c.spread.new.self c.requires.ready (rw c.if-branch.false at (searched p)),
    )

pub returns-clause-ready : goal.returns-clause-ready
returns-clause-ready c =
    ready_next c.args.kept.now.readers.items c.args.kept.now.sources.items c.args.kept.now.levels.items c.highest-high.result c.args.goal c.args.search.now c.spread.new.self c.requires.ready
    _ (searched (goal.at.returns-clause-ready c).In_ok-spread)

pub returns-clause-found : goal.returns-clause-found
returns-clause-found c =
    found_from c.args.kept.now.readers.items c.args.kept.now.sources.items c.args.kept.now.levels.items c.highest-high.result c.args.goal c.args.search.now c.spread.new.self c.requires.ready
    _ (searched (goal.at.returns-clause-found c).In_ok-spread)
