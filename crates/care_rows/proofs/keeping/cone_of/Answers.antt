use Rattle.std.proofs.Common.{◌∙◌, ap}
use Rattle.care_rows.proofs.Common.{Parts, gates_of_rows}
use Rattle.care_rows.proofs.FitLemmas.{all_drivers_within}
use Rattle.care_rows.proofs.keeping.cone_of.Goals as goal

pub upstream_of-requires : goal.upstream_of-requires
upstream_of-requires c =
    all_drivers_within c.args.looped.now.net c.args.rows.now c.deref.result.now c.requires
    (c.deref.ensures.value ∙ c.in_ok-drivers.ensures ∙ ap (λ (net : Parts). gates_of_rows net c.args.rows.now) c.net.ensures.net)
