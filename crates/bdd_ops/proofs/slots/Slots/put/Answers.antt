use Rattle.std.proofs.Common.{◌≡◌, ◌⊎◌, Contains, inl, inr, refl}
use Rattle.std.proofs.lemmas.List.Elements.{All-set, All-weaker}
use Rattle.bdd_ops.proofs.slots.Slots.put.Goals as goal

pub returns : goal.returns
returns g c = All-set (λ kept. Contains c.args.self.now kept ⊎ (kept ≡ c.args.entry)) c.self.inside.entries.items c.slot_of-slot.result c.args.entry (inr refl) (All-weaker (Contains c.args.self.now) (λ kept. Contains c.args.self.now kept ⊎ (kept ≡ c.args.entry)) (λ kept has. inl has) c.self.inside.entries.items (rw (← c.self.view_is) at c.grow.ensures))
