use Rattle.std.proofs.Common.{map, ap, ◌∙◌, refl}
use Rattle.components.specs.Search.{state_of, component_of}
use Rattle.components.proofs.ExploreLemmas.{found}
use Rattle.components.proofs.components.Components.of.Goals as goal

pub returns : goal.returns
returns c =
    found c.args.graph.now (state_of c.in_ok-search.search) c.in_ok-search.ensures (record { count = c.in_ok-search.search.count; home = c.of.result }) refl
    (c.of.ensures ∙ c.in_ok-home.ensures ∙ ap (λ marks. map component_of marks) c.deref.ensures.value)
