use Rattle.std.proofs.Common.{◌≡◌, ◌∙◌, List, Bool, not, length, map, drop, sym, ap, arith}
use Rattle.std.proofs.lemmas.List.{take_at}
use Rattle.verdict.proofs.Common.{get_or-map, length-map, Blocks, is_marked}
use Rattle.verdict.proofs.fanout.candidate_gates.Goals as goal
use Rattle.verdict.proofs.fanout.candidate_gates.Goals.{After-deref_mut}

-- the marks before their fanout
open-marks : (c : After-deref_mut) → c.deref_mut.result.now ≡ map (λ home. not (is_marked c.args.settled.now home)) c.args.looped.now.blocks.home
open-marks c = c.deref_mut.ensures.value ∙ c.in_ok-marks.ensures ∙ ap (λ (b : Blocks). map (λ home. not (is_marked c.args.settled.now home)) b.home) c.blocks-2.ensures.blocks

wide : (c : After-deref_mut) → length c.deref_mut.result.now ≡ length c.args.looped.now.net.gates
wide c = ap length (open-marks c) ∙ length-map {B = Bool} c.args.looped.now.blocks.home (λ home. not (is_marked c.args.settled.now home)) ∙ c.blocks-2.ensures.looped.blocks.homes

pub mark_fanout-requires : goal.mark_fanout-requires
mark_fanout-requires c = wide c

pub returns : goal.returns
returns c =
    let at = (goal.at.returns c).After-deref_mut in
    let l = c.args.looped.now in
    let homes = c.blocks-2.ensures.looped.blocks.homes in
    rw (take_at c.mark_fanout.new.marks (drop (length c.mark_fanout.new.marks) c.in_ok-marks.marks.items) c.in_ok-marks.marks.len (c.mark_fanout.ensures.width ∙ sym (wide at) ∙ c.deref_mut.ensures.len)) (record {
      width = c.mark_fanout.ensures.width;
      each = λ n less fed. (c.mark_fanout.ensures.each n less).1 (record {
        gate = fed.gate;
        marked =
            ap (λ (marks : List Bool). is_marked marks fed.gate) (open-marks at)
            ∙ get_or-map (λ home. not (is_marked c.args.settled.now home)) l.blocks.home fed.gate 0 _ (let inside = fed.opened.within in omega (arith, inside, homes))
            ∙ ap not fed.opened.unsettled;
        upstream = fed.upstream;
      });
    })
