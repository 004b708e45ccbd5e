-- What probes heard over a call. Here P is the type of a probe, and what it is to clauses is its kind, the changes that
-- it heard, and the text that it makes of changes of a netlist.
use Rattle.std.specs.Prelude.{◌≡◌, ◌≢◌, ℕ, List, ◌++◌, take}
use Rattle.std.specs.List.{AllZip}
use Rattle.netlist.specs.declared.parts.Parts.{Parts}
use Rattle.delay_core.specs.declared.change.Change.{Change}
use Rattle.commands.specs.declared.kind.Kind.{Kind}

-- It is of the same kind, and makes the same text of the same changes.
pub record IsSameProbe {P : Type 0} (kind : P → Kind) (text : P → List Change → Parts → List ℕ) (old new : P) : Type 0 where
  pub same_kind : kind new ≡ kind old
  pub same_text : (changes : List Change) (net : Parts) → text new changes net ≡ text old changes net

-- A probe of the wanted kind heard these changes, after what it had heard. One of another kind is as it was.
pub record Hears {P : Type 0} (kind : P → Kind) (heard : P → List Change) (text : P → List Change → Parts → List ℕ) (wanted : Kind) (changes : List Change) (old new : P) : Type 0 where
  pub hears : kind old ≡ wanted → heard new ≡ heard old ++ changes
  pub others : kind old ≢ wanted → new ≡ old
  pub same : IsSameProbe kind text old new

-- It heard some first ones of these changes.
pub record HearsPrefix {P : Type 0} (kind : P → Kind) (heard : P → List Change) (text : P → List Change → Parts → List ℕ) (wanted : Kind) (changes : List Change) (old new : P) : Type 0 where
  pub count : ℕ
  pub part : Hears kind heard text wanted (take count changes) old new

-- Each of the probes did so.
abbrev pub EachHears : {P : Type 0} → (P → Kind) → (P → List Change) → (P → List Change → Parts → List ℕ) → Kind → List Change → List P → List P → Type 0
EachHears kind heard text wanted changes = AllZip (Hears kind heard text wanted changes)

abbrev pub EachHearsPrefix : {P : Type 0} → (P → Kind) → (P → List Change) → (P → List Change → Parts → List ℕ) → Kind → List Change → List P → List P → Type 0
EachHearsPrefix kind heard text wanted changes = AllZip (HearsPrefix kind heard text wanted changes)
