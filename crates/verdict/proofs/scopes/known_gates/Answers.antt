use Rattle.std.proofs.Common.{◌∙◌, Bool, List, map, not, ap}
use Rattle.verdict.proofs.Common.{IfOk-weaker}
use Rattle.clause_decision.specs.Scopes.{AreNeverUnknown}
use Rattle.verdict.proofs.ScopeLemmas.{never-fed}
use Rattle.verdict.proofs.scopes.known_gates.Goals as goal

pub returns-clause-known : goal.returns-clause-known
returns-clause-known c =
    let l = c.args.looped.now in
    IfOk-weaker c.others.result _ (λ known. AreNeverUnknown l.net known.items)
    (λ known is.
    never-fed l.net (rw c.net.ensures.net at c.laws.ensures.valid) l.blocks c.net.ensures.looped.blocks c.args.settled.now c.in_ok-candidates.candidates.items known.items c.requires.settled c.in_ok-candidates.ensures
    (is ∙ ap (λ (xs : List Bool). map not xs) c.deref.ensures.value))
    c.others.ensures
