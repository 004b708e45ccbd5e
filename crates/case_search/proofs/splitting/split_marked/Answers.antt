use Rattle.std.proofs.Common.{◌<◌, ℕ, length, ◌∙◌, sym, subst}
use Rattle.std.specs.List.{All}
use Rattle.netlist.specs.declared.parts.Parts.{Parts}
use Rattle.case_split.proofs.CaseLemmas.{copied_within}
use Rattle.case_search.proofs.splitting.split_marked.Goals as goal

pub picked_cases-requires-clause-gates : goal.picked_cases-requires-clause-gates
picked_cases-requires-clause-gates c =
    let net : Parts = c.args.net.now in
    subst (All (λ (n : ℕ). n < length net.gates)) (sym (c.deref.ensures.value ∙ c.in_ok-gates.ensures)) (copied_within net c.args.copied.now)
