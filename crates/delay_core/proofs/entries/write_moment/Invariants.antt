use Rattle.std.proofs.Common.{◌≡◌, ◌≤◌, ◌+◌}
use Rattle.delay_core.proofs.Common.{vec_len, vec_capacity}
use Rattle.delay_core.proofs.EntryLemmas.{WritesFront}
use Rattle.delay_core.proofs.entries.write_moment.Given as goal

abbrev pub invariant-loop-s : goal.invariant-loop-s
invariant-loop-s l =
    record {
      front : WritesFront l.moment l.s l.values l.fn.entries.items l.entries.items l.fn.newest.items l.newest.items;
      len : vec_len l.entries ≤ vec_len l.fn.entries + l.s;
      capacity : vec_capacity l.entries ≡ vec_capacity l.fn.entries;
    }
