use Rattle.std.proofs.Common.{◌≡◌, ℕ, List, length, replicate, ap, ◌∙◌}
use Rattle.std.proofs.lemmas.List.{take_all}
use Rattle.probes.proofs.TallyLemmas.{tally_none}
use Rattle.probes.proofs.glitches.tally_of.Goals as goal

pub loop-i-init : goal.loop-i-init
loop-i-init c =
    let zeros : ◌≡◌ {A = List ℕ} c.in_ok-counts.counts.items (replicate (length c.args.net.now.gates) 0) =
    c.in_ok-counts.ensures.items_if_clones_equal (λ y e. e) ∙ ap (λ (n : ℕ). replicate n 0) c.gates.ensures.gates in
    rw (zeros, c.new.ensures.empty) (tally_none c.args.net.now _)

pub returns : goal.returns
returns c = rw (take_all c.loop-i.i c.args.changes.now c.loop-i-test.false) at c.loop-i.invariant
