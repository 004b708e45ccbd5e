use Rattle.std.proofs.Common.{◌≡◌, ◌<◌, length, get_or, ap, arith, rules}
use Rattle.delay_core.specs.EventLists.{begin_of}
use Rattle.delay_core.proofs.EventListLemmas.{length_packed, rises_here}
use Rattle.delay_core.proofs.events.Events.ages.Goals as goal

pub slice_bounds-result-count : goal.slice_bounds-result-count
slice_bounds-result-count c =
    let size = length_packed c.self.inside.heads.items c.self.inside.ages.items in
    let short : c.args.i < length c.self.inside.heads.items = omega (arith, c.requires, ap length c.self.view_is, size) in
    let is : c.index.result.now ≡ get_or c.self.inside.heads.items c.args.i c.index.result.now = search rules in
    let begins : c.begin_of-begin.result ≡ begin_of c.self.inside.heads.items c.args.i = search rules in
    rises_here c.self.inside.heads.items c.self.inside.ages.items c.args.i c.index.result.now short is c.begin_of-begin.result c.self.invariant begins
