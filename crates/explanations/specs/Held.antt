-- Sets of gates that some values hold open.
use Rattle.std.specs.Prelude.{◌≡◌, ◌≢◌, ◌⊎◌, ◌≤◌, ◌<◌, ◌+◌, ◌*◌, ◌++◌, ℕ, Bool, true, false, List, length, map, slice_index_or, slice_set, All, Contains, suc, [], ◌∷◌}
use Rattle.cyc_base.specs.declared.sig.Sig.{Sig}
use Rattle.cyc_base.specs.declared.trit.Trit.{Trit}
use Rattle.cyc_base.specs.declared.trit.Trit.TheVariants.{Zero, One, X}
use Rattle.netlist.specs.declared.parts.Parts.{Parts}
use Rattle.netlist.specs.Fixpoint.{wire, fix}
use Rattle.netlist.specs.Netlists.{count, gate_at, gate_sig, is_marked}
use Rattle.ternary_run.specs.declared.fanout.Read.{Read}
use Rattle.ternary_run.specs.Reading.{readers_of}
use Rattle.explanations.specs.declared.pins.Pin.{Pin}
use Rattle.explanations.specs.declared.pins.Pin.TheVariants.{Known, Open, Free}
use Rattle.explanations.specs.Pins.{StaysOpen}

-- all signals of one set are in the other
abbrev pub Within : List Bool → List Bool → Type 0
Within marks others = (n : ℕ) → is_marked marks n ≡ true → is_marked others n ≡ true

-- what a gate may see of a signal: that it stays open where it is in the set, its value where that is known, and else anything
abbrev pub seen : Bool → Trit → Pin
seen true value = Open
seen false Zero = Known false
seen false One = Known true
seen false X = Free

abbrev pub pin_at : List Trit → List Bool → Sig → Pin
pin_at known marks s = seen (is_marked marks s.0) (wire known s)

-- the gate stays unknown where those of the set do, whatever the signals are that are neither known nor in the set
abbrev pub IsHeld : Parts → List Trit → List Bool → ℕ → Type 0
IsHeld net known marks g = StaysOpen (gate_at net g).cover (map (pin_at known marks) (gate_at net g).pins)

-- a signal that is a gate
pub record IsGateSignal (net : Parts) (n : ℕ) : Type 0 where
  pub behind : length net.inputs + length net.latches ≤ n
  pub within : n < count net

abbrev pub AreUnknownGates : Parts → List Trit → List Bool → Type 0
AreUnknownGates net known marks = (n : ℕ) → is_marked marks n ≡ true → IsGateSignal net n × (slice_index_or known n X ≡ X)

-- what is known of the signals holds the gates of the set open: all of them are unknown, and stay so
pub record IsHeldOpen (net : Parts) (known : List Trit) (marks : List Bool) : Type 0 where
  pub unknown : AreUnknownGates net known marks
  pub held : (g : ℕ) → g < length net.gates → is_marked marks (gate_sig net g).0 ≡ true → IsHeld net known marks g

-- and each set that is held open is part of this one
pub record IsGreatest (net : Parts) (known : List Trit) (marks : List Bool) : Type 0 where
  pub held : IsHeldOpen net known marks
  pub greatest : (others : List Bool) → IsHeldOpen net known others → Within others marks

-- the greatest of those that are part of a set
pub record IsGreatestWithin (net : Parts) (known : List Trit) (all marks : List Bool) : Type 0 where
  pub size : length marks ≡ length all
  pub held : IsHeldOpen net known marks
  pub greatest : (others : List Bool) → IsHeldOpen net known others → Within others all → Within others marks

abbrev pub AreMarked : Parts → List Bool → List ℕ → Type 0
AreMarked net marks gates = All (λ g. is_marked marks (gate_sig net g).0 ≡ true) gates

-- these values of the columns alone, X where a column has none, hold the gates open
pub record HoldsOpen (net : Parts) (given : List Trit) (gates : List ℕ) : Type 0 where
  pub marks : List Bool
  pub held : IsHeldOpen net (fix net given) marks
  pub among : AreMarked net marks gates

-- ---- taking gates out

abbrev pub mark_count : List Bool → ℕ
mark_count [] = 0
mark_count (true ∷ marks) = suc (mark_count marks)
mark_count (false ∷ marks) = mark_count marks

-- a gate that is not held is taken out, and else nothing changes
abbrev pub HasTried : Parts → List Trit → ℕ → List Bool → List Bool → Bool → Type 0
HasTried net known g old new true =
    (new ≡ slice_set old (gate_sig net g).0 false) × (is_marked old (gate_sig net g).0 ≡ true) × (¬ IsHeld net known old g)
HasTried net known g old new false = (new ≡ old) × (is_marked old (gate_sig net g).0 ≡ true → IsHeld net known old g)

-- gates, among them all that read a signal below n whose value is another one now
pub record AreChangedReaders (net : Parts) (before known : List Trit) (n : ℕ) (listed : List ℕ) : Type 0 where
  pub gates : All (λ g. g < length net.gates) listed
  pub all : (g : ℕ) (s : Sig) → g < length net.gates → Contains (gate_at net g).pins s → s.0 < n → wire before s ≢ wire known s → Contains listed g

-- a gate that is not held is taken out, and those that read it are put behind the ones that wait
abbrev pub HasLookedAt : Parts → List Trit → List Read → ℕ → List Bool → List Bool → List ℕ → List ℕ → Type 0
HasLookedAt net known reads g old new waiting later =
    (HasTried net known g old new true × (later ≡ waiting ++ readers_of reads (gate_sig net g)))
    ⊎ (HasTried net known g old new false × (later ≡ waiting))

-- what is left of a set while gates wait: each other gate of it is held
pub record IsShrinking (net : Parts) (known : List Trit) (all marks : List Bool) (waiting : List ℕ) : Type 0 where
  pub size : length marks ≡ length all
  pub fewer : Within marks all
  pub kept : (others : List Bool) → IsHeldOpen net known others → Within others all → Within others marks
  pub gates : All (λ g. g < length net.gates) waiting
  pub rest : (g : ℕ) → g < length net.gates → is_marked marks (gate_sig net g).0 ≡ true → Contains waiting g ⊎ IsHeld net known marks g

-- the gates of the set and those that wait, so weighed that it falls with each look
abbrev pub looks_left : List Read → List Bool → List ℕ → ℕ
looks_left reads marks waiting = mark_count marks * suc (length reads) + length waiting
