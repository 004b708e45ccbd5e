use Rattle.std.proofs.Common.{ap, ◌∙◌}
use Rattle.flatten.proofs.Common.{bytes_eq, find_model, position, NestedModels}
use Rattle.flatten.proofs.Libraries.{place_of}
use Rattle.flatten.proofs.hierarchy.Hierarchy.find.Goals as goal

pub returns-clause-found : goal.returns-clause-found
returns-clause-found c =
    c.get_index_of.ensures.index
    ∙ ap (λ ks. position (bytes_eq c.args.name.now) ks) c.self.invariant.library.places
    ∙ place_of _ c.args.name.now
    ∙ ap (λ (h : NestedModels). find_model h.models c.args.name.now) c.self.view_is
