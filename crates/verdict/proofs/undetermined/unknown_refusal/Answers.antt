use Rattle.verdict.proofs.undetermined.unknown_refusal.Goals as goal

pub first_refusal-requires : goal.first_refusal-requires
first_refusal-requires c = rw (c.deref.ensures.value, ← c.net.ensures.net, ← c.observe.ensures) c.in_ok-observed.ensures.marks
