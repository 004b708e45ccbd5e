use Rattle.std.proofs.Common.{◌≡◌, ◌≤◌, true, length, map, take}
use Rattle.sched_text.proofs.Common.{list_all, vec_len, vec_capacity, bit_of}
use Rattle.sched_text.specs.LineFaults.{is_bit}
use Rattle.sched_text.proofs.bits.read_word.Given as goal

abbrev pub invariant-loop-character : goal.invariant-loop-character
invariant-loop-character l =
    record {
      good : list_all is_bit (take l.character-index l.word) ≡ true;
      are : l.bits.items ≡ map bit_of (take l.character-index l.word);
      len : vec_len l.bits ≡ l.character-index;
      room : length l.word ≤ vec_capacity l.bits;
    }
