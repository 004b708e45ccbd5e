-- The wires beside a cycle whose values hold it open.
use Rattle.std.specs.Prelude.{◌≡◌, ◌≢◌, ◌<◌, ◌==◌, ◌⊎◌, ℕ, Bool, true, false, if◌then◌else◌, List, length, map, slice_index_or, slice_set, take, All}
use Rattle.std.specs.List.{list_any}
use Rattle.cyc_base.specs.declared.sig.Sig.{Sig}
use Rattle.cyc_base.specs.declared.trit.Trit.{Trit}
use Rattle.cyc_base.specs.declared.trit.Trit.TheVariants.{Zero, One, X}
use Rattle.netlist.specs.declared.parts.Parts.{Parts}
use Rattle.netlist.specs.Fixpoint.{wire, gate_value}
use Rattle.netlist.specs.Netlists.{count, gate_at, gate_sig, is_marked}
use Rattle.explanations.specs.declared.pins.Pin.{Pin}
use Rattle.explanations.specs.declared.pins.Pin.TheVariants.{Known, Open, Free}
use Rattle.explanations.specs.Pins.{trit_of, StaysOpen}

-- the signal is one of these gates
abbrev pub is_one_of : Parts → List ℕ → ℕ → Bool
is_one_of net gates s = list_any (λ g. (gate_sig net g).0 == s) gates

-- what a gate may see of a signal: that it stays unknown where it is on the cycle, and else what the sides say of it
abbrev pub beside : (ℕ → Bool) → List Pin → Sig → Pin
beside on sides s = if on s.0 then Open else slice_index_or sides s.0 Free

abbrev pub StaysBeside : Parts → (ℕ → Bool) → List Pin → ℕ → Type 0
StaysBeside net on sides g = StaysOpen (gate_at net g).cover (map (beside on sides) (gate_at net g).pins)

-- each gate of the cycle stays unknown, whatever the wires are that the sides leave free
abbrev pub HoldsCycle : Parts → (ℕ → Bool) → List Pin → List ℕ → Type 0
HoldsCycle net on sides cycle = All (StaysBeside net on sides) cycle

-- What the signals beside a cycle are, where it is needed: their values hold the cycle open, those that are unknown being
-- needed so, and none of them can be left out alone.
pub record AreSides (net : Parts) (known : List Trit) (cycle : List ℕ) (sides : List Pin) : Type 0 where
  pub size : length sides ≡ count net
  pub values : (s : ℕ) → slice_index_or sides s Free ≢ Free → trit_of (slice_index_or sides s Free) ≡ slice_index_or known s X
  pub enough : HoldsCycle net (is_one_of net cycle) sides cycle
  pub each : (s : ℕ) → slice_index_or sides s Free ≢ Free → ¬ HoldsCycle net (is_one_of net cycle) (slice_set sides s Free) cycle

-- ---- the code's own

-- the signals of the first n of these gates are marked
pub record AreMarksOf (net : Parts) (gates : List ℕ) (n : ℕ) (marks : List Bool) : Type 0 where
  pub size : length marks ≡ count net
  pub each : (s : ℕ) → is_marked marks s ≡ is_one_of net (take n gates) s

-- an unknown gate whose pins leave it so
pub record StandsOpen (net : Parts) (known : List Trit) (g : ℕ) : Type 0 where
  pub gate : g < length net.gates
  pub unknown : wire known (gate_sig net g) ≡ X
  pub value : gate_value known (gate_at net g) ≡ X

-- all that is known beside a cycle
abbrev pub side_of : Bool → Trit → Pin
side_of true value = Free
side_of false Zero = Known false
side_of false One = Known true
side_of false X = Open

pub record AreAllSides (known : List Trit) (marks : List Bool) (n : ℕ) (sides : List Pin) : Type 0 where
  pub size : length sides ≡ n
  pub each : (s : ℕ) → s < n → slice_index_or sides s Free ≡ side_of (is_marked marks s) (slice_index_or known s X)

-- a pin of the gate reads the signal
abbrev pub reads : Parts → ℕ → ℕ → Bool
reads net g s = list_any (λ pin. pin.0 == s) (gate_at net g).pins

abbrev pub ReaderStays : Parts → (ℕ → Bool) → List Pin → ℕ → ℕ → Type 0
ReaderStays net on sides s g = reads net g s ≡ true → StaysBeside net on sides g

-- the gates of the cycle that read a signal stay unknown
abbrev pub ReadersStay : Parts → (ℕ → Bool) → List Pin → List ℕ → ℕ → Type 0
ReadersStay net on sides cycle s = All (ReaderStays net on sides s) cycle

-- a side is left out, or else nothing changes and it can't be
abbrev pub HasLeftOut : Parts → (ℕ → Bool) → List ℕ → ℕ → List Pin → List Pin → Type 0
HasLeftOut net on cycle s old new =
    ((new ≡ slice_set old s Free) × HoldsCycle net on new cycle)
    ⊎ ((new ≡ old) × (slice_index_or old s Free ≢ Free → ¬ HoldsCycle net on (slice_set old s Free) cycle))

-- of the first n signals each was left out that can be
pub record IsLeavingOut (net : Parts) (on : ℕ → Bool) (cycle : List ℕ) (n : ℕ) (all now : List Pin) : Type 0 where
  pub size : length now ≡ length all
  pub fewer : (s : ℕ) → (slice_index_or now s Free ≡ Free) ⊎ (slice_index_or now s Free ≡ slice_index_or all s Free)
  pub holds : HoldsCycle net on now cycle
  pub each : (s : ℕ) → s < n → slice_index_or now s Free ≢ Free → ¬ HoldsCycle net on (slice_set now s Free) cycle
