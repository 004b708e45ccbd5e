use Rattle.std.proofs.Common.{rules, ◌≡◌, ◌∙◌, ◌≤◌, List, Bool, true, length, ap, subst, sym, arith}
use Rattle.refusals.proofs.ShowingLemmas.{care_vector_decides}
use Rattle.clause_decision.proofs.Common.{IfOk-weaker, Parts, CareSet, columns, is_care_vector, IsCareVector, IsCountAt, NeedAtLeast, first_number, LoopAt, gates_in, loops_in}
use Rattle.clause_decision.proofs.SweepingLemmas.{first-needed, vector-needed}
use Rattle.clause_decision.proofs.counting.first_needed.Goals as goal

pub returns-then-cut_count-first : goal.returns-then-cut_count-first
returns-then-cut_count-first c =
    let l : LoopAt = c.args.block.now in
    grind (arith, first-needed l c.cut_count.ensures.is c.args.care.now c.args.sign c.requires.serves)

pub returns-then-is_small_part : goal.returns-then-is_small_part
returns-then-is_small_part c =
    let l : LoopAt = c.args.block.now in
    grind (arith, first-needed l c.cut_count.ensures.is c.args.care.now c.args.sign c.requires.serves)

pub returns-then-not-branch : goal.returns-then-not-branch
returns-then-not-branch c =
    let l : LoopAt = c.args.block.now in
    grind (arith, first-needed l c.net-net.ensures.is c.args.care.now c.args.sign c.requires.serves)

pub returns : goal.returns
returns c =
    let l : LoopAt = c.args.block.now in
    let care : CareSet = c.args.care.now in
    let v : List Bool = c.deref.result.now in
    let wide : length c.deref.result.now ≡ columns l.net = search rules in
    let is : is_care_vector l.net c.args.care.now c.deref.result.now ≡ true =
    ap (λ (net : Parts). is_care_vector net care v) (sym c.net-net.ensures.net) ∙ sym c.in_ok-is_care_vector.ensures ∙ c.if-not-branch.false in
    let counts : IsCareVector l.net care v = care_vector_decides l.net care v wide is in
    let same : c.deref-2.result.now ≡ c.deref.result.now = c.deref-2.ensures.value ∙ sym c.deref.ensures.value in
    let first : (first_number c.args.sign ≤ c.in_ok-sweeps.sweeps) × NeedAtLeast l.net (loops_in l) care (gates_in l) c.in_ok-sweeps.sweeps =
    vector-needed l c.net-net.ensures.is care c.args.sign c.requires.serves v counts c.in_ok-sweeps.sweeps
    (subst (λ (w : List Bool). IsCountAt l.net (loops_in l) w (gates_in l) c.in_ok-sweeps.sweeps) same c.in_ok-sweeps.ensures) in
    let low = first.0 in
    IfOk-weaker c.climb.result _ _
    (λ number (more : (c.in_ok-sweeps.sweeps ≤ number) × NeedAtLeast l.net (loops_in l) care (gates_in l) number). (let high = more.0 in omega (arith, low, high), more.1)) (c.climb.ensures first.1)
