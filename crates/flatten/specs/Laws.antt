-- Laws of names: tables give what climbing gives, and names print alike only where they mean one wire.
use Rattle.std.specs.Prelude.{◌≡◌, ◌<◌, ◌^◌, ℕ, List, [], ◌∷◌, ◌++◌, map, All, Contains, Some, None, Ok}
use Rattle.std.specs.Fmt.{decimal}
use Rattle.netlist.specs.Netlists.{signal_names}
use Rattle.netlist.specs.declared.parts.Parts.{Parts}
use Rattle.blif_read.specs.declared.models.BlifModel.{BlifModel}
use Rattle.blif_read.specs.declared.models.Item.TheVariants.{Gate, Latch}
use Rattle.flatten.specs.Wires.{Wire, mark, mark_of, printed, item_names, wire_names}
use Rattle.flatten.specs.Paths.{Instance, actual_of, climb, name_at}
use Rattle.flatten.specs.Walk.{FlatLines, flat_lines}
use Rattle.cyc_base.specs.declared.limits.TheConstants.{MAX_DEPTH, MAX_FLAT_ITEMS}
use Rattle.flatten.specs.Flat.{flat}

-- what the names of the wires of an instance begin with
abbrev pub prefix_of : List ℕ → List Instance → List ℕ
prefix_of m [] = []
prefix_of m (o ∷ up) = prefix_of m up ++ (decimal o.number ++ m)

-- a name by a table of formals and the printed names that they stand for
abbrev pub resolved : List ℕ → List (List ℕ × List ℕ) → List ℕ → List ℕ
resolved prefix table name = elim (actual_of table name) [ Some printed ↦ printed | None ↦ prefix ++ name ]

-- the table of an instance's formals, by the table of its parent
abbrev pub bound : List ℕ → List (List ℕ × List ℕ) → List (List ℕ × List ℕ) → List (List ℕ × List ℕ)
bound prefix table pairs = map (λ p. (p.0, resolved prefix table p.1)) pairs

abbrev pub table_of : List ℕ → List Instance → List (List ℕ × List ℕ)
table_of m [] = []
table_of m (o ∷ up) = bound (prefix_of m up) (table_of m up) o.part.pairs

-- resolving by tables on the way down gives what climbing gives from below
abbrev pub ResolvedIsClimbed : Type 0
ResolvedIsClimbed =
    (m : List ℕ) (path : List Instance) (name : List ℕ) → resolved (prefix_of m path) (table_of m path) name ≡ name_at m path name

-- a path whose instances bind names of these
abbrev pub BindsAmong : List (List ℕ) → List Instance → Type 0
BindsAmong names [] = Unit {0}
BindsAmong names (o ∷ up) = (o.number < 2 ^ 64) × All (λ p. Contains names p.1) o.part.pairs × BindsAmong names up

-- two names print alike only where they mean one wire
abbrev pub NamesTellWires : Type 0
NamesTellWires =
    (names : List (List ℕ)) (p q : List Instance) (v w : List ℕ) → BindsAmong names p → BindsAmong names q → Contains names v → Contains names w → name_at (mark names) p v ≡ name_at (mark names) q w → climb p v ≡ climb q w

-- this is the name of a wire: a name of the file means the wire on a path that binds names of the file, and prints so
pub record IsNameOf (models : List BlifModel) (text : List ℕ) (wire : Wire) : Type 0 where
  pub path : List Instance
  pub name : List ℕ
  pub binds : BindsAmong (wire_names models) path
  pub named : Contains (wire_names models) name
  pub means : climb path name ≡ wire
  pub prints : name_at (mark_of models) path name ≡ text

-- the name of one wire alone
pub record NamesOneWire (models : List BlifModel) (text : List ℕ) : Type 0 where
  pub wire : Wire
  pub is : IsNameOf models text wire
  pub only : (other : Wire) → IsNameOf models text other → other ≡ wire

-- all names of the lines of a walk without a fault
pub record LinesNameWires (models : List BlifModel) (lines : FlatLines) : Type 0 where
  pub latches : All (λ latch. All (NamesOneWire models) (item_names (Latch latch))) lines.latches
  pub gates : All (λ gate. All (NamesOneWire models) (item_names (Gate gate))) lines.gates

-- Each name of a flat netlist is that of one wire. So the names of two wires differ.
abbrev pub WalkNamesWires : Type 0
WalkNamesWires =
    (models : List BlifModel) (place : ℕ) (lines : FlatLines) → flat_lines MAX_DEPTH MAX_FLAT_ITEMS models place ≡ Ok lines → LinesNameWires models lines

abbrev pub SignalsNameWires : Type 0
SignalsNameWires =
    (models : List BlifModel) (top : List ℕ) (net : Parts) → flat models top ≡ Ok net → All (NamesOneWire models) (signal_names net)
