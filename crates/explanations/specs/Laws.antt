-- The laws of the gates that some values hold open.
use Rattle.std.specs.Prelude.{◌≡◌, ◌+◌, ◌↔◌, ◌||◌, ℕ, Bool, List, [], ◌∷◌, length, slice_index_or, All}
use Rattle.cyc_base.specs.declared.trit.Trit.{Trit}
use Rattle.cyc_base.specs.declared.trit.Trit.TheVariants.{X}
use Rattle.cyc_base.specs.Values.{bits, EachBelow}
use Rattle.netlist.specs.declared.parts.Parts.{Parts}
use Rattle.netlist.specs.Fixpoint.{wire, fix}
use Rattle.netlist.specs.Netlists.{count, gate_sig, IsNetlist}
use Rattle.explanations.specs.Held.{IsHeldOpen, IsGreatest, AreMarked, HoldsOpen}
use Rattle.explanations.specs.Explained.{AreAllUnknown}
use Rattle.explanations.specs.Sides.{is_one_of, HoldsCycle}
use Rattle.explanations.specs.Pins.{MayBe}
use Rattle.explanations.specs.declared.pins.Pin.{Pin}
use Rattle.explanations.specs.declared.pins.Pin.TheVariants.{Free}

-- where as much is known of the columns, and more, the gates are unknown in the fixpoint
abbrev pub HeldStayUnknown : Type 0
HeldStayUnknown = (net : Parts) (given more : List Trit) (gates : List ℕ) → length more ≡ length net.inputs + length net.latches →
    EachBelow given more → HoldsOpen net given gates → All (λ g. wire (fix net more) (gate_sig net g) ≡ X) gates

-- and held open there too
abbrev pub MoreHoldsOpen : Type 0
MoreHoldsOpen = (net : Parts) (given more : List Trit) (gates : List ℕ) → length more ≡ length net.inputs + length net.latches →
    EachBelow given more → HoldsOpen net given gates → HoldsOpen net more gates

-- the signals of either set
abbrev pub union : List Bool → List Bool → List Bool
union [] others = others
union (mark ∷ marks) [] = mark ∷ marks
union (mark ∷ marks) (other ∷ others) = (mark || other) ∷ union marks others

abbrev pub UnionIsHeldOpen : Type 0
UnionIsHeldOpen = (net : Parts) (known : List Trit) (marks others : List Bool) →
    IsHeldOpen net known marks → IsHeldOpen net known others → IsHeldOpen net known (union marks others)

-- values hold gates open exactly where these are in the greatest set that they hold open
abbrev pub GreatestHoldsOpen : Type 0
GreatestHoldsOpen = (net : Parts) (given : List Trit) (marks : List Bool) (gates : List ℕ) →
    IsGreatest net (fix net given) marks → HoldsOpen net given gates ↔ AreMarked net marks gates

-- all values of a vector hold open each gate that is unknown at it
abbrev pub VectorHoldsUnknown : Type 0
VectorHoldsUnknown = (net : Parts) (v : List Bool) (marks : List Bool) → IsNetlist net → length v ≡ length net.inputs + length net.latches →
    AreAllUnknown net (fix net (bits v)) (count net) marks → IsGreatest net (fix net (bits v)) marks

-- each signal is as the sides of a cycle say: it has its value, or is unknown where the cycle needs that
abbrev pub AreAsSides : List Trit → List Pin → Type 0
AreAsSides known sides = (s : ℕ) → MayBe (slice_index_or sides s Free) (slice_index_or known s X)

-- where the signals are as the sides say, the gates of the cycle are unknown, whatever the sides leave free
abbrev pub SidesHoldCycle : Type 0
SidesHoldCycle = (net : Parts) (given : List Trit) (cycle : List ℕ) (sides : List Pin) → length given ≡ length net.inputs + length net.latches →
    HoldsCycle net (is_one_of net cycle) sides cycle → AreAsSides (fix net given) sides → All (λ g. wire (fix net given) (gate_sig net g) ≡ X) cycle
