use Rattle.std.proofs.Common.{rules, inl, inr}
use Rattle.cyc_io.proofs.memory_shelf.MemoryShelfShelf.read.Goals as goal
use Rattle.cyc_io.proofs.memory_shelf.MemoryShelfShelf.read.Goals.{then-not-contains+in_default, else-not-contains}

pub returns-clause-fails : goal.returns-clause-fails
returns-clause-fails c = λ failed. rw (← c.self.view_is) (elim c.if-not-contains.branch [
  | then-not-contains+in_default w ↦ inr (search rules)
  | else-not-contains w ↦ inl (rw (← c.deref.ensures.value) (search rules))
])
