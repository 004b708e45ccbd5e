use Rattle.std.proofs.Common.{◌∙◌, Bool, List, map, not, ap₂}
use Rattle.verdict.proofs.Common.{IfOk-weaker, Blocks, is_marked}
use Rattle.verdict.proofs.CandidateLemmas.{open-gates}
use Rattle.verdict.proofs.determinacy.gates_open.Goals as goal

pub returns : goal.returns
returns c =
    let s = c.args.question.now in
    IfOk-weaker c.marked_places.result _ _
    (λ gates listed.
    open-gates s.net s.blocks s.settled c.deref.result.now gates.items c.blocks-2.ensures.is.blocks.homes
    (c.deref.ensures.value ∙ c.in_ok-marks.ensures ∙ ap₂ (λ (b : Blocks) (marks : List Bool). map (λ home. not (is_marked marks home)) b.home) c.blocks-2.ensures.blocks c.settled.ensures.settled) listed)
    c.marked_places.ensures
