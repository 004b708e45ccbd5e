use Rattle.std.proofs.Common.{◌≡◌, ◌∷◌, ◌++◌, ◌+◌, suc, List, Bool, length, reverse, false, replicate, ap, ◌∙◌, arith}
use Rattle.std.proofs.lemmas.List.{length-append, length-reverse}
use Rattle.delay_core.proofs.Common.{count, wires, History, newest, no_events}
use Rattle.delay_core.proofs.PlayLemmas.{opens}
use Rattle.delay_core.proofs.ReadingLemmas.{starts-none}
use Rattle.delay_core.proofs.play.Play.start_at.Goals as goal

pub opening_timeline-requires : goal.opening_timeline-requires
opening_timeline-requires c = grind arith

pub invariant_of-result : goal.invariant_of-result
invariant_of-result c =
    let past : History = reverse c.args.past.now in
    let opening : List Bool = wires (c.args.inputs.now ++ c.args.latches.now) c.args.gates.now in
    let history : c.in_ok-timeline.timeline.history ≡ opening ∷ past = c.in_ok-timeline.ensures in
    let wide : length opening ≡ count c.args.net.now =
    omega (arith, length-append (c.args.inputs.now ++ c.args.latches.now) c.args.gates.now, length-append c.args.inputs.now c.args.latches.now, c.requires.inputs, c.requires.latches, c.requires.gates) in
    let long : length c.in_ok-timeline.timeline.history ≡ suc (length c.args.past.now) =
    ap (λ (h : History). length h) history ∙ ap suc (length-reverse c.args.past.now) in
    let done : c.in_ok-done.done.items ≡ no_events c.args.net.now =
    c.in_ok-done.ensures.items_if_clones_equal (λ y e. e) ∙ ap (λ n. replicate n false) c.gates.ensures.gates in
    let is = opens c.args.net.now c.in_ok-timeline.timeline.history (length c.args.past.now) 1 c.moments-opening.result
    (ap (λ (h : History). length (newest h)) history ∙ wide)
    (omega arith)
    (omega (arith, c.moments-opening.ensures, long))
    c.moments-opening.ensures in
    (rw (c.new.ensures.items, done) is, omega (arith, c.in_ok-bits.ensures.capacity), omega arith, omega (arith, c.new.ensures.len))

pub returns : goal.returns
returns c =
    let past : History = reverse c.args.past.now in
    grind (arith, starts-none (suc (length past)) 1, length-reverse c.args.past.now)
