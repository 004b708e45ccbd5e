use Rattle.std.proofs.Common.{◌≡◌, ◌<◌, ap, subst, ◌∙◌, arith}
use Rattle.dual_rail.proofs.Common.{slice_index_or, Arena, top_of}
use Rattle.dual_rail.proofs.SurelyLemmas.{no_rails, HasBranches, IsFork-at}
use Rattle.dual_rail.proofs.lifting.fork_at.Goals as goal

pub returns-clause-fork : goal.returns-clause-fork
returns-clause-fork c s table rails =
    let raw : HasBranches c.store-store.result.now c.args.node c.hi.result c.lo.result = record { lawful = c.laws.ensures; hi_node = c.hi.ensures.node; lo_node = c.lo.ensures.node; hi_lower = c.hi.ensures.lower; lo_lower = c.lo.ensures.lower; at_hi = c.hi.ensures.function; at_lo = c.lo.ensures.function } in
    let has : HasBranches c.args.local.now.store c.args.node c.hi.result c.lo.result = subst (λ (u : Arena). HasBranches u c.args.node c.hi.result c.lo.result) c.store-store.ensures.store raw in
    let within : top_of c.args.local.now.store c.args.node < c.args.local.now.store.vars = subst (λ (u : Arena). top_of u c.args.node < u.vars) c.store-store.ensures.store c.hi.ensures.within in
    let pins : c.args.local.now.pins ≡ c.args.local.now.store.vars = c.store-store.ensures.local.pins in
    IsFork-at no_rails (record { pin = slice_index_or c.args.pins.now c.top.result no_rails; hi = c.rails_at-hi.result; lo = c.rails_at-lo.result }) has (omega (arith, within, pins, c.requires.pins)) rails
    (ap (λ n. slice_index_or c.args.pins.now n no_rails) (c.top.ensures.variable ∙ ap (λ (u : Arena). top_of u c.args.node) c.store-store.ensures.store))
    (c.rails_at-hi.ensures c.args.local.now s c.args.pins.now table)
    (c.rails_at-lo.ensures c.args.local.now s c.args.pins.now table)
