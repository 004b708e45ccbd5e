use Rattle.std.proofs.Common.{◌∙◌, ◌++◌, ◌<◌, ℕ, List, length, take, get_or, sym, ap, ap₂, arith}
use Rattle.clause_decision.proofs.Common.{get_or_default, Latch, Rails, asked_starts}
use Rattle.std.proofs.lemmas.List.{append_assoc}
use Rattle.std.proofs.lemmas.Option.{get_or_from_slice_get, slice_get_within}
use Rattle.clause_decision.specs.Starts.{asked_of}
use Rattle.clause_decision.proofs.StartLemmas.{asked-more}
use Rattle.clause_decision.proofs.initial.ask_starts.Goals as goal

pub loop-latch-preserved : goal.loop-latch-preserved
loop-latch-preserved c =
    let k : ℕ = c.loop-latch.latch in
    let latches : List Latch = c.args.net.now.latches in
    let none : Latch = c.latch.result.now in
    let there = c.latch.ensures.latch in
    let low : k < length latches = slice_get_within latches k none there in
    let wide = c.requires in
    let none_r : Rails = record { one = 0; zero = 0; known = 0 } in
    c.in_ok-ask_start.ensures
    ∙ ap₂ (λ (xs ys : List ℕ). xs ++ ys) c.loop-latch.invariant
    (ap₂ (λ (l : Latch) (r : Rails). asked_of l.init r) (sym (get_or_from_slice_get latches k none none there)) (get_or_default c.args.latches.now k _ none_r (omega (arith, low, wide))))
    ∙ append_assoc c.args.assumed.now.items (asked_starts (take k latches) (take k c.args.latches.now)) (asked_of (get_or latches k none).init (get_or c.args.latches.now k none_r))
    ∙ ap (λ (xs : List ℕ). c.args.assumed.now.items ++ xs) (sym (asked-more k latches c.args.latches.now none none_r low (omega (arith, low, wide))))
