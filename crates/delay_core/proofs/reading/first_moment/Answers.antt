use Rattle.std.proofs.Common.{◌≡◌, ◌+◌, ◌-◌, ℕ, sym, ap, ◌∙◌, arith, ltb, ltb-true, ltb-false, rules}
use Rattle.std.proofs.lemmas.List.Sorted.{IsPartitionPoint-from_clause, IsPartitionedBy-ltb}
use Rattle.delay_core.specs.Plays.{events_before}
use Rattle.delay_core.proofs.ReadingLemmas.{start-none, start-back, events_before-split}
use Rattle.delay_core.proofs.reading.first_moment.Goals as goal

pub returns-then-round-window-clause-first : goal.returns-then-round-window-clause-first
returns-then-round-window-clause-first c = grind (arith, start-none c.args.opening c.args.marks.now c.args.round c.args.window c.if-round-window.true)

pub returns-clause-first : goal.returns-clause-first
returns-clause-first c =
    let since : ℕ = c.args.round - c.args.window in
    let parted = IsPartitionedBy-ltb (λ (m : ℕ). m) c.args.marks.now since c.requires.rising in
    let point = IsPartitionPoint-from_clause (λ (m : ℕ). ltb m since) _ _ c.partition_point.ensures.partitioned parted (λ a r q k. search rules) in
    let count : events_before since c.args.marks.now ≡ c.partition_point.result =
    events_before-split since c.args.marks.now c.partition_point.result c.partition_point.ensures.bound
    (λ k d l. ltb-true _ _ (point.0 k d (omega arith) l))
    (λ k d l m. ltb-false _ _ (point.1 k d l m)) in
    ap (λ n. c.args.opening + n) (sym count)
    ∙ sym (start-back c.args.opening c.args.marks.now c.args.round c.args.window (omega arith))
