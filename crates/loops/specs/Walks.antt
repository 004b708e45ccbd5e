-- Where walks along pins lead.
use Rattle.std.specs.Prelude.{◌≡◌, ◌⊎◌, ℕ, List}
use Rattle.std.specs.List.{AllByRecursion}
use Rattle.netlist.specs.declared.parts.Parts.{Parts}
use Rattle.netlist.specs.Walks.{Walk}

-- a walk leads from a to b through gates of this kind
pub record Leads (net : Parts) (P : ℕ → Type 0) (a b : ℕ) : Type 0 where
  pub via : List ℕ
  pub kind : AllByRecursion P via
  pub walk : Walk net a via b

abbrev pub AnyGate : ℕ → Type 0
AnyGate n = Unit {0}

-- the gate a is b, or a walk leads from it to b
abbrev pub IsUpstream : Parts → ℕ → ℕ → Type 0
IsUpstream net a b = (a ≡ b) ⊎ Leads net AnyGate a b

-- two gates, or one twice, are in one loop: each leads to the other
pub record SameLoop (net : Parts) (a b : ℕ) : Type 0 where
  pub there : Leads net AnyGate a b
  pub back : Leads net AnyGate b a

-- two gates are in one block
abbrev pub SameBlock : Parts → ℕ → ℕ → Type 0
SameBlock net a b = (a ≡ b) ⊎ SameLoop net a b
