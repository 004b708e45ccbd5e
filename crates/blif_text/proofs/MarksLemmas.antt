-- Marks in two lists, one behind the other.
use Rattle.std.proofs.Common.{◌≡◌, ℕ, ◌-◌, ◌<◌, ◌≤◌, List, [], ◌∷◌, ◌++◌, map, length, get_or, sym, arith}
use Rattle.std.proofs.lemmas.List.{get_or_append_left, get_or-append_right, get_or-map, map-append, length-map}
use Rattle.blif_text.specs.declared.marks.Mark.{Mark}
use Rattle.blif_text.specs.declared.marks.ShortMark.{ShortMark}
use Rattle.blif_text.specs.Marks.{mark_of}
use Rattle.blif_text.proofs.EndsLemmas.{push_short as ends_short}

pub push_short : (short : List ShortMark) (long : List Mark) (x : ShortMark) (m : Mark) → mark_of x ≡ m → length long ≡ 0
    → map mark_of (short ++ x ∷ []) ++ long ≡ (map mark_of short ++ long) ++ m ∷ []
push_short short long x m is none = grind (arith, map-append, ends_short)

pub at_short : (short : List ShortMark) (long : List Mark) (i : ℕ) (x : ShortMark) (d : Mark) → i < length short → x ≡ get_or short i x
    → mark_of x ≡ get_or (map mark_of short ++ long) i d
at_short short long i x d here is = grind (arith, get_or-map, get_or_append_left, length-map)

pub at_long : (short : List ShortMark) (long : List Mark) (i : ℕ) (d : Mark) → length short ≤ i
    → get_or long (i - length short) d ≡ get_or (map mark_of short ++ long) i d
at_long short long i d there = sym (get_or-append_right (map mark_of short) long (length short) i d (length-map short mark_of) there)
