use Rattle.std.proofs.Common.{◌≡◌, take, drop}
use Rattle.probes.specs.Hearing.{EachHears}
use Rattle.probes.proofs.tell.tell.Given as goal

abbrev pub invariant-loop-i : goal.invariant-loop-i
invariant-loop-i g l =
    record {
      told : EachHears (λ b. (goal.Probe-dyn g (b.vtable, b.value)).kind b.value) (λ b. (goal.Probe-dyn g (b.vtable, b.value)).heard b.value) (λ b. (goal.Probe-dyn g (b.vtable, b.value)).text b.value) l.wanted l.changes (take l.i l.fn.probes) (take l.i l.probes);
      left : drop l.i l.probes ≡ drop l.i l.fn.probes;
    }
