-- The pins of this gate come after those of the gates before it.
use Rattle.std.proofs.Common.{◌≡◌, ◌++◌, ◌+◌, drop, append_assoc, append-nil, sym, ◌∙◌, ap, List, [], arith}
use Rattle.std.proofs.lemmas.List.{at_drop_all}
use Rattle.ternary_run.specs.declared.fanout.Read.{Read}
use Rattle.ternary_run.specs.Reading.{reads_from, reads}
use Rattle.ternary_run.proofs.ReadingLemmas.{reads_from-drop}
use Rattle.ternary_run.proofs.fanout.all_reads.Goals as goal

pub loop-number-preserved : goal.loop-number-preserved
loop-number-preserved c = grind (arith, reads_from-drop, append_assoc)

pub loop-number-init : goal.loop-number-init
loop-number-init c = ap (λ (l : List Read). l ++ reads c.args.net.now) c.new-reads.ensures.items

pub returns : goal.returns
returns c =
    let n = c.loop-number.number in
    let rest : reads_from n (drop n c.args.net.now.gates) ≡ [] = at_drop_all (reads_from n) c.args.net.now.gates n (omega (arith, c.gates-number-end.ensures.gates)) in
    sym (ap (λ (l : List Read). c.loop-number.reads.items ++ l) rest ∙ append-nil c.loop-number.reads.items) ∙ c.loop-number.invariant
