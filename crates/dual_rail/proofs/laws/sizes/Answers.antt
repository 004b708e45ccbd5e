use Rattle.std.proofs.Common.{ap, ◌∙◌}
use Rattle.dual_rail.proofs.Common.{nodes, value, function}
use Rattle.bdd_store.proofs.SubfunctionLemmas.{nodes-alike}
use Rattle.dual_rail.proofs.laws.sizes.Goals as goal

pub returns : goal.returns
returns c l cover is = ap (λ n. nodes n (function l)) is.pins ∙ nodes-alike cover.pins (function l) (value cover) is.function
