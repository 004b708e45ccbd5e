use Rattle.flatten.proofs.Libraries.{names_apart}
use Rattle.flatten.proofs.hierarchy.Hierarchy.new.Goals as goal

pub library_of-requires : goal.library_of-requires
library_of-requires c = names_apart c.args.models.now c.requires.names_differ
