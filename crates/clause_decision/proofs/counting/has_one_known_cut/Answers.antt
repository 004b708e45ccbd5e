use Rattle.std.proofs.Common.{◌≡◌, ◌<◌, ℕ, true, length, get_or, subst, arith}
use Rattle.std.specs.List.{Contains}
use Rattle.std.proofs.lemmas.Bool.Decides.{nat_tests}
use Rattle.clause_decision.proofs.Common.{Contains-get_or, IsLeastCount, LoopAt, gates_in, is_marked, loops_in}
use Rattle.loop_simulation.specs.Known.{AreKnownSomewhere}
use Rattle.clause_decision.proofs.SweepingLemmas.{few-needed, known-needs-one}
use Rattle.clause_decision.proofs.counting.has_one_known_cut.Goals as goal

pub returns : goal.returns
returns c care known one gate inside =
    let l : LoopAt = c.in_ok-block.block in
    let is = c.cut_count.ensures.is in
    let one_cut : 1 ≡ length l.cuts = (let test = c.if-cut_count-ne1.false in let count = c.cut_count.ensures.count in grind (arith, nat_tests)) in
    let some : 0 < length l.cuts = omega (arith, one_cut) in
    let place : ℕ = get_or l.cuts 0 0 in
    let wire : ℕ = get_or (gates_in l) place 0 in
    let marked : is_marked c.args.known.now wire ≡ true = rw (c.gates.ensures.gates, c.cuts.ensures.cuts) at one in
    subst (λ (l : LoopAt). AreKnownSomewhere l.net care c.args.known.now → Contains (gates_in l) gate → IsLeastCount l.net (loops_in l) care gate 1) c.in_ok-block.ensures
    (λ known inside. few-needed l is care 1 one_cut
    (known-needs-one l is care wire (Contains-get_or (gates_in l) place 0 (is.cuts.within 0 0 some)) (is.cuts.are 0 0 some) (known.each wire marked)) gate inside)
    known inside
