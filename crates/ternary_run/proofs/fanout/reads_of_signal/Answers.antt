-- The pins that read lower signals come first, and those that read higher ones last.
use Rattle.std.proofs.Common.{rules, ◌≡◌, ℕ, ◌-◌, nat_lt, nat_le, List, length, take, drop, arith, length-drop}
use Rattle.std.proofs.lemmas.List.{take_all}
use Rattle.std.proofs.lemmas.List.Sorted.{IsPartitionPoint-from_clause, IsPartitionedBy-ltb, IsPartitionedBy-leb, IsNonDecreasingBy-take, IsNonDecreasingBy-drop}
use Rattle.ternary_run.specs.declared.fanout.Read.{Read}
use Rattle.ternary_run.proofs.ReadingLemmas.{reads_between_rest}
use Rattle.ternary_run.proofs.fanout.reads_of_signal.Goals as goal

pub returns : goal.returns
returns c =
    let signal : Read → ℕ = λ read. read.signal.0 in
    let reads = c.args.reads.now in
    let s = c.args.signal.0 in
    let start = c.partition_point-start.result in
    let rest : List Read = take (length reads - start) (drop start reads) in
    let is_rest : rest ≡ drop start reads = take_all (length reads - start) (drop start reads) (omega (arith, length-drop start reads)) in
    reads_between_rest c.args.signal reads start c.partition_point-count.result rest is_rest
    c.partition_point-count.ensures.bound
    (IsPartitionPoint-from_clause (λ read. nat_lt (signal read) s) reads start c.partition_point-start.ensures.partitioned (IsPartitionedBy-ltb signal reads s c.requires) (λ a r q k. search rules))
    (IsPartitionPoint-from_clause (λ read. nat_le (signal read) s) rest _ c.partition_point-count.ensures.partitioned
    (IsPartitionedBy-leb signal rest s (IsNonDecreasingBy-take signal (length reads - start) (drop start reads) (IsNonDecreasingBy-drop signal start reads c.requires))) (λ a r q k. search rules))
