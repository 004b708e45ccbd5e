use Rattle.std.proofs.Common.{is_ok}
use Rattle.std.proofs.lemmas.List.Elements.{All-contains_itself}
use Rattle.bdd_ops.proofs.SlotLemmas.{All-doubled}
use Rattle.bdd_ops.proofs.slots.Slots.grow.Goals as goal

pub returns-then-slots-lt-MOST_SLOTS : goal.returns-then-slots-lt-MOST_SLOTS
returns-then-slots-lt-MOST_SLOTS g c = rw (← c.self.view_is) (All-doubled c.self.inside.entries.items c.extend_from_within.new.self.items _ _ (is_ok c.extend_from_within.result) c.extend_from_within.ensures.items)

pub returns-else-self-slots : goal.returns-else-self-slots
returns-else-self-slots g c = All-contains_itself c.args.self.now
