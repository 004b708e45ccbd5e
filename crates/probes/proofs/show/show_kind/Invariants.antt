use Rattle.std.proofs.Common.{◌≡◌, take}
use Rattle.probes.specs.Showing.{shown_texts}
use Rattle.probes.proofs.show.show_kind.Given as goal

abbrev pub invariant-loop-probe : goal.invariant-loop-probe
invariant-loop-probe g l =
    l.shown.items ≡ shown_texts (λ b. (goal.Probe-dyn g (b.vtable, b.value)).kind b.value) (λ b. (goal.Probe-dyn g (b.vtable, b.value)).heard b.value) (λ b. (goal.Probe-dyn g (b.vtable, b.value)).text b.value) l.wanted l.net (take l.probe-index l.probes)
