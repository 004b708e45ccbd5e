use Rattle.std.proofs.Common.{◌≡◌, ◌+◌, ◌≤◌, max, drop}
use Rattle.cyc_base.specs.Tildes.{leading_run, longest_run}
use Rattle.cyc_base.proofs.tildes.longest_run.Given as goal

abbrev pub invariant-loop-byte : goal.invariant-loop-byte
invariant-loop-byte l = record {
  within : l.run ≤ l.byte-index;
  longer : l.run ≤ l.longest;
  rest : max l.longest (max (l.run + leading_run (drop l.byte-index l.byte-items)) (longest_run (drop l.byte-index l.byte-items))) ≡ longest_run l.name;
}
