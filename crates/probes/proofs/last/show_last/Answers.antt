use Rattle.std.proofs.Common.{◌≡◌, ◌<◌, ◌+◌, ◌++◌, ℕ, List, length, ap, sym, ◌∙◌, arith}
use Rattle.std.proofs.lemmas.List.{get_or_read}
use Rattle.probes.specs.Texts.{last_line, last_round}
use Rattle.probes.proofs.TextLemmas.{lines_more}
use Rattle.probes.proofs.last.show_last.Goals as goal

pub loop-i-preserved : goal.loop-i-preserved
loop-i-preserved c =
    let i : ℕ = c.loop-i.i in
    let round : ℕ → ℕ = last_round c.args.net.now c.args.changes.now in
    let short : i < length c.in_ok-rounds.rounds.items = omega (arith, c.loop-i-test.true, c.len-i-end.ensures) in
    let entry : c.index.result.now ≡ round (i + 1) =
    get_or_read c.in_ok-rounds.rounds.items i c.index.result.now short c.index.ensures 0
    ∙ c.in_ok-rounds.ensures.each i (omega (arith, short, c.in_ok-rounds.ensures.size)) in
    c.in_ok-put_last_line.ensures
    ∙ ap (λ (r : ℕ). c.loop-i.text.items ++ last_line (i + 1) r) entry
    ∙ ap (λ (xs : List ℕ). xs ++ last_line (i + 1) (round (i + 1))) c.loop-i.invariant
    ∙ sym (lines_more (λ tick. last_line tick (round tick)) 1 i (i + 1) (omega arith))
