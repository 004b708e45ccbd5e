use Rattle.std.proofs.Common.{take}
use Rattle.probes.specs.Hearing.{Hears}
use Rattle.probes.proofs.tell.tell_all.Given as goal

abbrev pub invariant-loop-change : goal.invariant-loop-change
invariant-loop-change g l =
    Hears (λ b. (goal.Probe-dyn g (b.vtable, b.value)).kind b.value) (λ b. (goal.Probe-dyn g (b.vtable, b.value)).heard b.value) (λ b. (goal.Probe-dyn g (b.vtable, b.value)).text b.value) l.wanted (take l.change-index l.changes) l.fn.probe l.probe
