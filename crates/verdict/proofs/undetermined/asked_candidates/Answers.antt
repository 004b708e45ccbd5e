use Rattle.std.proofs.Common.{◌∙◌, inl, inr, List, Bool, false, length, drop, sym, ap, arith, true≢false}
use Rattle.std.proofs.lemmas.List.{take_at}
use Rattle.verdict.proofs.Common.{cases_lt, get_or_past, is_marked, AreCandidates}
use Rattle.verdict.proofs.undetermined.asked_candidates.Goals as goal
use Rattle.verdict.proofs.undetermined.asked_candidates.Goals.{After-deref_mut}

candidates : (c : After-deref_mut) → AreCandidates c.args.question.now.net c.args.question.now.blocks c.args.question.now.settled c.in_ok-marks.marks.items
candidates c = rw (c.looped.ensures.looped, c.settled.ensures.settled) at c.in_ok-marks.ensures

pub keep_asked-requires : goal.keep_asked-requires
keep_asked-requires c = c.requires ∙ sym (ap length c.deref_mut.ensures.value ∙ (candidates c).width)

pub returns : goal.returns
returns c =
    let q = c.args.question.now in
    let all = candidates (goal.at.returns c).After-deref_mut in
    let value = c.deref_mut.ensures.value in
    rw (take_at c.keep_asked.new.marks (drop (length c.keep_asked.new.marks) c.in_ok-marks.marks.items) c.in_ok-marks.marks.len (c.keep_asked.ensures.width ∙ c.deref_mut.ensures.len)) (record {
      width = c.keep_asked.ensures.width ∙ ap length value ∙ all.width;
      each = λ n asked fed. elim (cases_lt n (length q.net.gates)) [
        | inl less ↦ c.keep_asked.ensures.kept n asked ∙ ap (λ (marks : List Bool). is_marked marks n) value ∙ all.each n less fed
        | inr past ↦ absurd (true≢false (sym asked.seen ∙ get_or_past c.args.observed.now n false (omega (arith, past, c.requires))))
      ];
      only = c.keep_asked.ensures.only;
    })
