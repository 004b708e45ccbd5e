-- What the solution of a small netlist on rails shows, and what it costs.
use Rattle.std.specs.Prelude.{◌≡◌, ◌≢◌, ◌<◌, ◌≤◌, ◌+◌, ◌*◌, ℕ, Bool, List, length, slice_index_or}
use Rattle.bdd_store.specs.Arena.{Arena}
use Rattle.bdd_store.specs.Subfunctions.{nodes}
use Rattle.bdd_ops.specs.Operations.{disjunction}
use Rattle.cyc_base.specs.declared.trit.Trit.TheVariants.{X}
use Rattle.cyc_base.specs.Values.{bits}
use Rattle.dual_rail.specs.declared.rail.Rails.{Rails}
use Rattle.dual_rail.specs.Rails.{value_of}
use Rattle.netlist.specs.declared.parts.Parts.{Parts}
use Rattle.netlist.specs.Netlists.{IsNetlist, count}
use Rattle.loops.specs.declared.structure.Blocks.{Blocks}
use Rattle.loops.specs.declared.structure.Cut.{Cut}
use Rattle.loops.specs.Blocks.{AreBlocksOf}
use Rattle.loops.specs.Cuts.{IsCutOf}
use Rattle.loops.specs.Sweeps.{first_gate}
use Rattle.fixpoint.specs.declared.solved.Solved.{Solved}
use Rattle.fixpoint.specs.Orders.{laid}
use Rattle.fixpoint.specs.Solved.{Vectors, IsSolution}
use Rattle.fixpoint.specs.Sweeping.{rails_at}
use Rattle.fixpoint.specs.Working.{effort}
use Rattle.isolation.specs.Settled.{IsDetermined, AreFixedAfter}

-- no rails are X at any vector
abbrev pub AreKnown : Arena → List Rails → Type 0
AreKnown a rails = (k : ℕ) (none : Rails) → k < length rails → (v : List Bool) → value_of a (slice_index_or rails k none) v ≢ X

-- the rails are X at a vector of the store's width
pub record HasUnknownVector (a : Arena) (r : Rails) : Type 0 where
  pub vector : List Bool
  pub width : length vector ≡ a.vars
  pub is : value_of a r vector ≡ X

-- one of the rails is X at a vector
pub record HasUnknownRails (a : Arena) (rails : List Rails) : Type 0 where
  pub place : ℕ
  pub within : place < length rails
  pub at : HasUnknownVector a (rails_at rails place)

-- w bounds each function that says where one of the rails is known
abbrev pub BoundsKnown : Arena → List Rails → ℕ → Type 0
BoundsKnown a rails w = (k : ℕ) → k < length rails → nodes a.vars (disjunction a (rails_at rails k).one (rails_at rails k).zero) ≤ w

-- no gate is X at any Boolean vector, and k sweeps are enough
pub record IsSettledIn (net : Parts) (k : ℕ) : Type 0 where
  pub determined : IsDetermined net
  pub sweeps : AreFixedAfter k net

-- vectors that are those of the columns, as laid on variables
abbrev pub AreColumnVectors : Parts → Vectors → Type 0
AreColumnVectors net points = (u : List Bool) → length u ≡ first_gate net → points (laid net u) ≡ bits u

-- a netlist with gates is solved at all vectors of its columns
pub record IsSolvedNetlist (a : Arena) (blocks : Blocks) (solved : Solved) : Type 0 where
  pub net : Parts
  pub cut : Cut
  pub points : Vectors
  pub valid : IsNetlist net
  pub some : 0 < length net.gates
  pub vars : a.vars ≡ first_gate net
  pub blocks_are : AreBlocksOf net blocks
  pub cut_is : IsCutOf net cut
  pub points_are : AreColumnVectors net points
  pub solution : IsSolution net blocks cut a points solved

-- where signals are known, and what sweeps are counted by
abbrev pub counting_cost : Parts → ℕ
counting_cost net = count net + 6 * length net.gates * (length net.gates + 2)

-- both rails of each column, whose nodes are fewer than two functions of w nodes have, the fixpoint, and these
abbrev pub settling_cost : Parts → ℕ
settling_cost net = 2 + (10 * (length net.gates + 2) * effort net + counting_cost net)
