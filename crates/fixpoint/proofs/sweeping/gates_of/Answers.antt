use Rattle.std.proofs.Common.{◌≡◌, arith}
use Rattle.fixpoint.proofs.Common.{block_at}
use Rattle.fixpoint.proofs.BlockLemmas.{gates-some, gates-home}
use Rattle.fixpoint.proofs.CutLemmas.{block-gates}
use Rattle.fixpoint.proofs.sweeping.gates_of.Goals as goal
use Rattle.fixpoint.proofs.sweeping.gates_of.Goals.{After-items-2}

gates-are : (c : After-items-2) → c.items-2.result.now ≡ (block_at c.args.looped.now.blocks c.args.place).gates
gates-are c = grind (arith, block-gates c.args.looped.now.blocks.list c.items.result.now c.args.place c.index-items-place.result c.items-2.result.now)

pub returns-clause-gates : goal.returns-clause-gates
returns-clause-gates c = gates-are c

pub returns-clause-some : goal.returns-clause-some
returns-clause-some c = gates-some c.args.looped.now c.blocks-2.ensures.looped c.args.place c.requires c.items-2.result.now (gates-are c)

pub returns-clause-home : goal.returns-clause-home
returns-clause-home c = gates-home c.args.looped.now c.blocks-2.ensures.looped c.args.place c.requires c.items-2.result.now (gates-are c)
