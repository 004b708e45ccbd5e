-- Texts that are made line by line.
use Rattle.std.proofs.Common.{◌≡◌, ◌<◌, ◌+◌, ℕ, suc, zero, List, [], ◌∷◌, ◌++◌, length, take, get_or, ap, sym, arith}
use Rattle.std.proofs.Math.Numerals.{add-one}
use Rattle.std.specs.List.{flat_map, range_with_len}
use Rattle.std.proofs.lemmas.List.{append-nil, take_more}
use Rattle.std.proofs.lemmas.Grind.{flat_map-append}
use Rattle.cyc_base.proofs.ListLemmas.{range-suc}

pub range_more : (a n j : ℕ) → a + n ≡ j → range_with_len a (n + 1) ≡ range_with_len a n ++ j ∷ []
range_more a n j e = rw (add-one n, sym e) (range-suc a n)

-- the lines of numbers from a on, and that of the next one
pub lines_more : (line : ℕ → List ℕ) (a n j : ℕ) → a + n ≡ j → flat_map line (range_with_len a (n + 1)) ≡ flat_map line (range_with_len a n) ++ line j
lines_more line a n j e = grind (arith, range_more a n j e, flat_map-append line (range_with_len a n) (j ∷ []), append-nil (line j))

-- the texts of the items so far, and that of the next one
pub texts_more : {X : Type 0} (text : X → List ℕ) (items : List X) (i : ℕ) (d : X) (before after : List ℕ) → i < length items → before ≡ flat_map text (take i items) → after ≡ before ++ text (get_or items i d) → after ≡ flat_map text (take (i + 1) items)
texts_more text items i d before after short was now = grind (arith, take_more items i d short, flat_map-append text (take i items) (get_or items i d ∷ []), append-nil (text (get_or items i d)))
