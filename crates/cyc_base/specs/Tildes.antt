-- Runs of `~`.
use Rattle.std.specs.Prelude.{◌==◌, ℕ, zero, suc, max, List, [], ◌∷◌, if◌then◌else◌}

-- how many `~` a text begins with
abbrev pub leading_run : List ℕ → ℕ
leading_run [] = 0
leading_run (b ∷ rest) = if b == 126 then suc (leading_run rest) else 0

-- the longest run of `~` in a text, and in any of these texts
abbrev pub longest_run : List ℕ → ℕ
longest_run [] = 0
longest_run (b ∷ rest) = max (leading_run (b ∷ rest)) (longest_run rest)

abbrev pub longest_run_of : List (List ℕ) → ℕ
longest_run_of [] = 0
longest_run_of (text ∷ texts) = max (longest_run text) (longest_run_of texts)

-- a run of so many
abbrev pub tildes : ℕ → List ℕ
tildes zero = []
tildes (suc n) = 126 ∷ tildes n
