-- Rails and a set that are kept while a netlist is solved.
use Rattle.std.proofs.Common.{◌≡◌, ℕ, List, Bool, true, length, map, sym, ap, ◌∙◌, arith, Option, Some, None, Result}
use Rattle.diagram_decision.proofs.Common.{length-map, StoreFault, Node, Arena, den, AddsWithin, Rails, AreRailsOf, values_of, Parts, rails_under, All}
use Rattle.bdd_store.specs.declared.node.Entry.{Entry}
use Rattle.bdd_store.specs.Arena.{root_at, constant, node_value}
use Rattle.loops.specs.Sweeps.{first_gate}
use Rattle.fixpoint.specs.declared.kept.KeptRails.{KeptRails}
use Rattle.fixpoint.specs.Kept.{values_under, AreKept, GainsRoots, RootsStay}
use Rattle.fixpoint.specs.Solved.{AreGiven}
use Rattle.fixpoint.proofs.KeptLemmas.{All-rails-gained}

-- ---- before a netlist is solved

module _ {s t : Arena} (gains : GainsRoots s t) (given : List Rails) (kept : List KeptRails) (is : map (rails_under t) kept ≡ given) where
  pub given-kept : (net : Parts) → length given ≡ first_gate net → All (AreRailsOf s) given → All (AreKept t) kept → AreGiven net t kept
  given-kept net width proper keys = grind (arith, length-map {B = Rails} kept (rails_under t), All-rails-gained gains given proper)

  -- they stand for the same vectors
  pub values-before : values_under t kept ≡ values_of s given
  values-before = grind arith

-- roots that came before a call count for nothing
pub adds_before : {T : Type 0} {r : Result T StoreFault} {s t u : Arena} {cause bounds : ℕ → Type 0} {count : ℕ} → GainsRoots s t → AddsWithin r t u cause bounds count → AddsWithin r s u cause bounds count
adds_before {cause = cause} gains a = grind arith

-- ---- after it

-- the node that is read under a key has the function of the one that was kept
pub root-function : {s t u : Arena} → GainsRoots s t → RootsStay t u → (key : ℕ) (n m : Node) → root_at t key ≡ Some n → root_at u key ≡ Some m → (bits : List Bool) → den u m bits ≡ den s n bits
root-function {s} {t} {u} gains stay key n m was is bits =
    let at = stay.each key n was in
    ap (λ (o : Option Node). den u (of o) bits) (sym is ∙ at.root)
    ∙ at.function bits
    ∙ ap (λ (es : List Entry). node_value es n bits) gains.entries
  where
    of : Option Node → Node
    of None = constant true
    of (Some x) = x
