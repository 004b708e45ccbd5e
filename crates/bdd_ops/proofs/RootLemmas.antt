-- Other roots change no answer, and a sweep leaves none.
use Rattle.std.proofs.Common.{◌≡◌, ℕ, List, [], Option, Some, Result, Ok, Err, IfOk, OnErr, length, subst, sym, arith, ap}
use Rattle.std.proofs.lemmas.List.Elements.{All-weaker}
use Rattle.bdd_store.specs.declared.node.Node.{Node}
use Rattle.bdd_store.specs.declared.root.Root.{Root}
use Rattle.bdd_store.specs.Arena.{Arena, HasRoot}
use Rattle.bdd_ops.specs.declared.computed.Computed.{Computed}
use Rattle.bdd_ops.specs.Apply.{IsComputed, AreComputed}
use Rattle.bdd_ops.specs.Choices.{AreRight}

-- what is known in a store: what the computed table has, and what is kept
abbrev pub AreKnown : Arena → List Computed → Type 0
AreKnown s table = AreComputed s table × AreRight s

abbrev with_roots : Arena → List (Option Node) → Arena
with_roots s roots = record { vars = s.vars; limit = s.limit; entries = s.entries; roots = roots; answers = s.answers }

module _ (s : Arena) (roots : List (Option Node)) where
  IsComputed-roots : (c : Computed) → IsComputed s c → IsComputed (with_roots s roots) c
  IsComputed-roots c is = grind arith

  AreKnown-roots : (table : List Computed) → AreKnown s table → AreKnown (with_roots s roots) table
  AreKnown-roots table are = (
    All-weaker (IsComputed s) (IsComputed (with_roots s roots)) (λ c is. IsComputed-roots c is) table are.0,
    record { each = λ q n has. let is = are.1.each q n has in record { a = is.a; b = is.b; c = is.c; node = is.node; function = is.function } },
  )

pub AreKnown-root : (s t : Arena) (table : List Computed) (key : ℕ) (root : Option Node) → HasRoot s t key root → AreKnown s table → AreKnown t table
AreKnown-root s t table key root has are = subst (λ (a : Arena). AreKnown a table) (sym has.rest) (AreKnown-roots s t.roots table are)

pub AreRight-none : (s : Arena) → s.answers ≡ [] → AreRight s
AreRight-none s none = record { each = λ q n has. absurd (omega (arith, ap length none, has.1)) }

-- after a node is kept, or isn't
pub AreKnown-kept : {E : Type 0} (s t : Arena) (table : List Computed) (n : Node) (result : Result Root E) → IfOk result (λ r. HasRoot s t r.key (Some n)) → OnErr result (t ≡ s) → AreKnown s table → AreKnown t table
AreKnown-kept s t table n (Ok r) kept same are = AreKnown-root s t table r.key (Some n) kept are
AreKnown-kept s t table n (Err e) kept same are = subst (λ (a : Arena). AreKnown a table) (sym same) are
