-- A netlist that is solved beside a set of vectors.
use Rattle.std.specs.Prelude.{◌≡◌, ℕ, zero, suc, Bool, false, List, [], ◌∷◌, length, map}
use Rattle.netlist.specs.Netlists.{columns}
use Rattle.bdd_store.specs.declared.node.Node.{Node}
use Rattle.bdd_store.specs.Arena.{Arena, den, IsNodeOf}
use Rattle.cyc_base.specs.Values.{bits}
use Rattle.dual_rail.specs.declared.rail.Rails.{Rails}
use Rattle.dual_rail.specs.Rails.{values_of}
use Rattle.netlist.specs.declared.parts.Parts.{Parts}
use Rattle.loops.specs.Looped.{Looped}
use Rattle.fixpoint.specs.Kept.{rails_under}
use Rattle.fixpoint.specs.Orders.{laid}
use Rattle.fixpoint.specs.Solved.{Vectors, IsSolution}
use Rattle.diagram_decision.specs.declared.solving.Fixpoint.{Fixpoint}

-- the netlist is solved at the vectors that the given rails stood for, and the set has the function that it had
pub record IsFixpointOn (l : Looped) (old new : Arena) (given : List Rails) (set : Node) (found : Fixpoint) : Type 0 where
  pub solution : IsSolution l.net l.blocks l.cut new (values_of old given) found.solved
  pub rails_are : found.rails ≡ map (rails_under new) found.solved.rails
  pub node : IsNodeOf new found.set
  pub function : (bits : List Bool) → den new found.set bits ≡ den old set bits

-- the first bits of a list, with 0 where it has none
unfoldable pub fit : ℕ → List Bool → List Bool
fit zero bs = []
fit (suc n) [] = false ∷ fit n []
fit (suc n) (b ∷ bs) = b ∷ fit n bs

-- vectors that are those of a netlist's columns, as laid on variables
pub record AreColumnVectors (net : Parts) (points : Vectors) : Type 0 where
  pub width : (bs : List Bool) → length (points bs) ≡ columns net
  pub laid_are : (w : List Bool) → length w ≡ columns net → points (laid net w) ≡ bits w
  pub fit_are : (bs : List Bool) → points (fit (columns net) bs) ≡ points bs
