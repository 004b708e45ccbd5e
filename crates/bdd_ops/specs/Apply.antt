-- An operation on up to four nodes, their cofactors, and what answers them.
use Rattle.std.specs.Prelude.{◌≡◌, ℕ, ◌<◌, ◌≤◌, ◌⊎◌, Bool, true, false, List, if◌then◌else◌}
use Rattle.std.specs.List.{slice_index_or, All}
use Rattle.bdd_store.specs.declared.node.Node.{Node}
use Rattle.bdd_store.specs.Arena.{Arena, constant, den, choice, top_of, IsNodeOf, IsBranching}
use Rattle.bdd_ops.specs.declared.operands.Operation.{Operation}
use Rattle.bdd_ops.specs.declared.operands.Operation.TheVariants.{Ite, Select}
use Rattle.bdd_ops.specs.declared.operands.Operands.{Operands}
use Rattle.bdd_ops.specs.declared.operands.Branches.{Branches}
use Rattle.bdd_ops.specs.declared.apply.Answered.{Answered}
use Rattle.bdd_ops.specs.declared.computed.Chosen.{Chosen}
use Rattle.bdd_ops.specs.declared.computed.Computed.{Computed}
use Rattle.bdd_ops.specs.Operations.{select}

-- an operation's value at its operands' values, of which it may leave the last ones unread
abbrev pub combine : Operation → Bool → Bool → Bool → Bool → Bool
combine Ite a b c d = if a then b else c
combine Select a b c d = select a b c d

-- the operands' functions, combined
abbrev pub value : Operation → Arena → Operands → List Bool → Bool
value operation s q bits = combine operation (den s q.a bits) (den s q.b bits) (den s q.c bits) (den s q.d bits)

pub record AreNodesOf (s : Arena) (q : Operands) : Type 0 where
  pub a : IsNodeOf s q.a
  pub b : IsNodeOf s q.b
  pub c : IsNodeOf s q.c
  pub d : IsNodeOf s q.d

-- v is at most the variable of each operand
pub record IsBelow (s : Arena) (q : Operands) (v : ℕ) : Type 0 where
  pub a : v ≤ top_of s q.a
  pub b : v ≤ top_of s q.b
  pub c : v ≤ top_of s q.c
  pub d : v ≤ top_of s q.d

-- some operand is no constant
abbrev pub SomeBranching : Operands → Type 0
SomeBranching q = (IsBranching q.a ⊎ IsBranching q.b) ⊎ (IsBranching q.c ⊎ IsBranching q.d)

-- n is the node of the operands' function, and reads no bit that none of them reads
pub record IsAnswer (operation : Operation) (s : Arena) (q : Operands) (n : Node) : Type 0 where
  pub node : IsNodeOf s n
  pub function : (bits : List Bool) → den s n bits ≡ value operation s q bits
  pub top : (v : ℕ) → v ≤ s.vars → IsBelow s q v → v ≤ top_of s n

-- m is n's function where the bit at var is so, and reads later bits alone
pub record IsCofactor (s : Arena) (n : Node) (var : ℕ) (bit : Bool) (m : Node) : Type 0 where
  pub node : IsNodeOf s m
  pub lower : var < top_of s m
  pub function : (bits : List Bool) → slice_index_or bits var false ≡ bit → den s n bits ≡ den s m bits

-- they are n's: the variable that n reads first, or `vars` for a constant, and the cofactors there
pub record AreBranches (s : Arena) (n : Node) (b : Branches) : Type 0 where
  pub node : b.node ≡ n
  pub var : b.var ≡ top_of s n
  pub within : IsBranching n → b.var < s.vars
  pub low : b.var < s.vars → IsCofactor s n b.var false b.lo
  pub high : b.var < s.vars → IsCofactor s n b.var true b.hi

pub record AreCofactors (s : Arena) (q : Operands) (var : ℕ) (bit : Bool) (p : Operands) : Type 0 where
  pub a : IsCofactor s q.a var bit p.a
  pub b : IsCofactor s q.b var bit p.b
  pub c : IsCofactor s q.c var bit p.c
  pub d : IsCofactor s q.d var bit p.d

-- var is the first variable that an operand reads, and lo and hi are the cofactors there
pub record IsSplit (s : Arena) (q : Operands) (var : ℕ) (lo hi : Operands) : Type 0 where
  pub nodes : AreNodesOf s q
  pub within : var < s.vars
  pub most : (v : ℕ) → IsBelow s q v → v ≤ var
  pub low : AreCofactors s q var false lo
  pub high : AreCofactors s q var true hi

-- n is high's function where the bit at var is 1, and low's where it is 0, and reads no bit before
pub record HasBranches (s : Arena) (n : Node) (var : ℕ) (low high : Node) : Type 0 where
  pub node : IsNodeOf s n
  pub function : (bits : List Bool) → den s n bits ≡ choice s var low high bits
  pub top : var ≤ top_of s n

-- low and high answer the cofactors of the operands at var
abbrev pub AreAnswered : Operation → Arena → Answered → Type 0
AreAnswered operation s answered = (p : Operands) × (q : Operands) × IsSplit s answered.asked answered.var p q × IsAnswer operation s p answered.low × IsAnswer operation s q answered.high

-- what the computed table has in a slot is the operation's answer
pub record IsComputed (s : Arena) (c : Computed) : Type 0 where
  pub nodes : AreNodesOf s c.operands
  pub answer : IsAnswer c.operation s c.operands c.answer

-- a choice and its answer, written as those of any operation are
abbrev pub computed_of : Chosen → Computed
computed_of c = record { operation = Ite; operands = record { a = c.a; b = c.b; c = c.c; d = constant false }; answer = c.answer }

abbrev pub AreComputed : Arena → List Computed → Type 0
AreComputed s table = All (IsComputed s) table
