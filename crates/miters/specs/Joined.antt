-- The joined netlist of two whose names match: the columns and gates of the first, then the gates of the second, which
-- read the first one's columns by name. The gates that are added have names of their own.
use Rattle.std.specs.Prelude.{◌+◌, ◌-◌, ◌++◌, ℕ, suc, nat_lt, true, if◌then◌else◌, List, [], ◌∷◌, length, map, slice_index_or}
use Rattle.std.specs.List.{range_with_len}
use Rattle.cyc_base.specs.declared.sig.Sig.{Sig}
use Rattle.cover_logic.specs.Covers.{Cover}
use Rattle.cover_logic.specs.declared.row.Lit.{Lit}
use Rattle.cover_logic.specs.declared.row.Lit.TheVariants.{Zero, One, Any}
use Rattle.cover_logic.specs.declared.row.Row.{Row}
use Rattle.netlist.specs.declared.parts.Gate.{Gate}
use Rattle.netlist.specs.declared.parts.Parts.{Parts}
use Rattle.netlist.specs.Netlists.{signal, count, gate_at, with_gates}
use Rattle.unroll.specs.Marks.{mark, copy_name}
use Rattle.netlist.specs.declared.pair.Pair.{Pair}
use Rattle.miters.specs.Differences.{columns_by_name, pair_of, output_pairs, latch_pairs}

-- A signal of the second netlist as one of the joined netlist, by the first one's columns of the second one's names, and
-- the number of the signal of the second one's first gate.
abbrev pub moved_by : List ℕ → ℕ → Sig → Sig
moved_by table first s = if nat_lt s.0 (length table) then signal (slice_index_or table s.0 0) else signal (first + (s.0 - length table))

abbrev pub moved : Parts → Parts → Sig → Sig
moved a b = moved_by (columns_by_name a b) (count a)

-- a gate of the second netlist
abbrev pub moved_gate_by : List ℕ → ℕ → List ℕ → Parts → ℕ → Gate
moved_gate_by table first mark b n = record {
  name = copy_name mark n (gate_at b n).name;
  pins = map (moved_by table first) (gate_at b n).pins;
  cover = (gate_at b n).cover;
}

abbrev pub moved_gates : Parts → Parts → List Gate
moved_gates a b = map (moved_gate_by (columns_by_name a b) (count a) (mark a) b) (range_with_len 0 (length b.gates))

-- the joined netlist, with further gates behind its own
abbrev pub joined : Parts → Parts → List Gate → Parts
joined a b more = with_gates a (a.gates ++ (moved_gates a b ++ more)) []

-- pairs of a signal of each netlist, as pairs of the joined netlist
abbrev pub moved_pair_by : List ℕ → ℕ → Pair → Pair
moved_pair_by table first pair = pair_of pair.here (moved_by table first pair.there)

abbrev pub joined_pairs : Parts → Parts → List Pair
joined_pairs a b = map (moved_pair_by (columns_by_name a b) (count a)) (output_pairs a b ++ latch_pairs a b)

-- Gates that tell whether some pair differs. The first is 0. Each next one is 1 where the one before it is, or the wires
-- of its pair differ. The last reads itself too: it is 0 where the one before it is 0, and unknown where that is 1.
abbrev pub row : List Lit → Row
row lits = record { lits = lits }

abbrev pub never_cover : Cover
never_cover = record { pins = 0; plane = true; rows = [] }

abbrev pub link_cover : Cover
link_cover = record {
  pins = 3;
  plane = true;
  rows = row (One ∷ Any ∷ Any ∷ []) ∷ row (Any ∷ One ∷ Zero ∷ []) ∷ row (Any ∷ Zero ∷ One ∷ []) ∷ [];
}

abbrev pub both_cover : Cover
both_cover = record { pins = 2; plane = true; rows = row (One ∷ One ∷ []) ∷ [] }

-- the name of a further gate, which has this number among those that are added
abbrev pub more_name : Parts → ℕ → List ℕ
more_name a k = copy_name (mark a) k a.name

abbrev pub no_pair : Pair
no_pair = pair_of (signal 0) (signal 0)

abbrev pub never_gate : Parts → ℕ → Gate
never_gate a k = record { name = more_name a k; pins = []; cover = never_cover }

-- the gate of the pair at this place, where the first of these gates has the number k among those that are added
abbrev pub link_gate : Parts → ℕ → List Pair → ℕ → Gate
link_gate a k pairs i = record {
  name = more_name a (suc (k + i));
  pins = signal (count a + (k + i)) ∷ (slice_index_or pairs i no_pair).here ∷ (slice_index_or pairs i no_pair).there ∷ [];
  cover = link_cover;
}

-- the last gate, behind this many links
abbrev pub last_gate : Parts → ℕ → ℕ → Gate
last_gate a k links = record {
  name = more_name a (suc (k + links));
  pins = signal (count a + (k + links)) ∷ signal (count a + suc (k + links)) ∷ [];
  cover = both_cover;
}

abbrev pub miter_gates : Parts → ℕ → List Pair → List Gate
miter_gates a k pairs = never_gate a k ∷ (map (link_gate a k pairs) (range_with_len 0 (length pairs)) ++ last_gate a k (length pairs) ∷ [])

-- the miter: the netlist that tells of a vector whether the two netlists differ
abbrev pub miter : Parts → Parts → Parts
miter a b = joined a b (miter_gates a (length b.gates) (joined_pairs a b))
