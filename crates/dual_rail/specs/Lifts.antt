-- The rails of a function of ternary pins.
use Rattle.std.specs.Prelude.{◌≡◌, ◌<◌, Bool, false, not, List, length}
use Rattle.std.specs.List.{list_all, slice_index_or}
use Rattle.bdd_store.specs.declared.node.Node.{Node}
use Rattle.bdd_store.specs.Arena.{Arena, index, is_marked, den, IsNodeOf}
use Rattle.bdd_ops.specs.Operations.{selection}
use Rattle.cyc_base.specs.declared.trit.Trit.{Trit}
use Rattle.cover_logic.specs.Extensions.{completions}
use Rattle.dual_rail.specs.declared.rail.Rails.{Rails}
use Rattle.dual_rail.specs.declared.lifting.Fork.{Fork}
use Rattle.dual_rail.specs.Rails.{values_of, AreRailsOf}
use Rattle.dual_rail.specs.Local.{Local}

-- whether the function is 1 at each completion
abbrev pub surely : (List Bool → Bool) → List Trit → Bool
surely f trits = list_all f (completions trits)

-- the node says where f is surely 1
pub record IsSurely (a : Arena) (pins : List Rails) (f : List Bool → Bool) (n : Node) : Type 0 where
  pub node : IsNodeOf a n
  pub says : (bits : List Bool) → den a n bits ≡ surely f (values_of a pins bits)

-- the rails say where f is surely 1 and where it is surely 0
pub record IsLift (a : Arena) (pins : List Rails) (f : List Bool → Bool) (r : Rails) : Type 0 where
  pub one : IsSurely a pins f r.one
  pub zero : IsSurely a pins (λ bs. not (f bs)) r.zero

-- where neither of a pin's rails is true, a function of the pins is surely 1 where both its cofactors are; so the rails
-- of f are selected by those of a pin from those of its cofactors there
pub record IsFork (a : Arena) (pins : List Rails) (f : List Bool → Bool) (fork : Fork) : Type 0 where
  pub pin : AreRailsOf a fork.pin
  pub hi : AreRailsOf a fork.hi
  pub lo : AreRailsOf a fork.lo
  pub one : (bits : List Bool) → selection a fork.pin.one fork.pin.zero fork.hi.one fork.lo.one bits ≡ surely f (values_of a pins bits)
  pub zero : (bits : List Bool) → selection a fork.pin.one fork.pin.zero fork.hi.zero fork.lo.zero bits ≡ surely (λ bs. not (f bs)) (values_of a pins bits)

-- the table holds the rails of the diagram's first nodes without marks, by their indices
pub record IsTable (l : Local) (a : Arena) (pins : List Rails) (table : List Rails) : Type 0 where
  pub each : (n : Node) (none : Rails) → is_marked n ≡ false → index n < length table → IsLift a pins (den l.store n) (slice_index_or table (index n) none)
