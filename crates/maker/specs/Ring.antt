-- The ring arbiter of n cells and its care set: the lines of two texts in the Berkeley Logic Interchange Format.
-- A cell that holds the token, or to which the token is passed on, grants its own request or passes the token on.
use Rattle.std.specs.Prelude.{ℕ, ◌-◌, ◌==◌, List, [], ◌∷◌, ◌++◌, map, codes, decimal, if◌then◌else◌}
use Rattle.std.specs.List.{flat_map, range_with_len}

-- Lines of words.

abbrev pub behind : List ℕ → List ℕ
behind word = 32 ∷ word

-- the first word, each further one behind a blank, and LF
abbrev pub line : List (List ℕ) → List ℕ
line [] = codes "\n"
line (word ∷ words) = word ++ (flat_map behind words ++ codes "\n")

abbrev pub text_of : List (List (List ℕ)) → List ℕ
text_of lines = flat_map line lines

-- Cells, and the wires of a cell.

abbrev pub cells : ℕ → List ℕ
cells n = range_with_len 0 n

-- the cell before a cell of a ring of n
abbrev pub before : ℕ → ℕ → ℕ
before n i = if i == 0 then n - 1 else i - 1

abbrev pub request : ℕ → List ℕ
request i = codes "r" ++ decimal i

abbrev pub grant : ℕ → List ℕ
grant i = codes "g" ++ decimal i

abbrev pub token : ℕ → List ℕ
token i = codes "t" ++ decimal i

-- the cell may grant its request
abbrev pub enable : ℕ → List ℕ
enable i = codes "e" ++ decimal i

-- the token is passed on to the next cell
abbrev pub pass : ℕ → List ℕ
pass i = codes "p" ++ decimal i

-- The netlist.

-- the token of a cell comes from the cell before, and starts in cell 0
abbrev pub latch_line : ℕ → ℕ → List (List ℕ)
latch_line n i = codes ".latch" ∷ token (before n i) ∷ token i ∷ (if i == 0 then codes "1" else codes "0") ∷ []

-- e = t or p of the cell before
abbrev pub enable_lines : ℕ → ℕ → List (List (List ℕ))
enable_lines n i =
    (codes ".names" ∷ token i ∷ pass (before n i) ∷ enable i ∷ [])
    ∷ (codes "1-" ∷ codes "1" ∷ [])
    ∷ (codes "-1" ∷ codes "1" ∷ [])
    ∷ []

-- p = e and not r
abbrev pub pass_lines : ℕ → List (List (List ℕ))
pass_lines i = (codes ".names" ∷ enable i ∷ request i ∷ pass i ∷ []) ∷ (codes "10" ∷ codes "1" ∷ []) ∷ []

-- g = e and r
abbrev pub grant_lines : ℕ → List (List (List ℕ))
grant_lines i = (codes ".names" ∷ enable i ∷ request i ∷ grant i ∷ []) ∷ (codes "11" ∷ codes "1" ∷ []) ∷ []

-- the gates of a cell
abbrev pub gate_lines : ℕ → ℕ → List (List (List ℕ))
gate_lines n i = enable_lines n i ++ (pass_lines i ++ grant_lines i)

abbrev pub end_lines : List (List (List ℕ))
end_lines = (codes ".end" ∷ []) ∷ []

abbrev pub ring_lines : ℕ → List (List (List ℕ))
ring_lines n =
    (codes ".model" ∷ codes "ring" ∷ [])
    ∷ (codes ".inputs" ∷ map request (cells n))
    ∷ (codes ".outputs" ∷ map grant (cells n))
    ∷ (map (latch_line n) (cells n) ++ (flat_map (gate_lines n) (cells n) ++ end_lines))

-- The care set: just one cell holds the token.

-- 1 at the place of the cell, and 0 at each other
abbrev pub only : ℕ → ℕ → List ℕ
only n i = map (λ j. if j == i then 49 else 48) (cells n)

abbrev pub row_line : ℕ → ℕ → List (List ℕ)
row_line n i = only n i ∷ codes "1" ∷ []

abbrev pub care_lines : ℕ → List (List (List ℕ))
care_lines n =
    (codes ".model" ∷ codes "invariant" ∷ [])
    ∷ (codes ".inputs" ∷ map token (cells n))
    ∷ (codes ".outputs" ∷ codes "ok" ∷ [])
    ∷ (codes ".names" ∷ (map token (cells n) ++ codes "ok" ∷ []))
    ∷ (map (row_line n) (cells n) ++ end_lines)

abbrev pub ring_text : ℕ → List ℕ
ring_text n = text_of (ring_lines n)

abbrev pub care_text : ℕ → List ℕ
care_text n = text_of (care_lines n)
