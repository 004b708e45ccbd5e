-- What a shelf holds, and what its reads give.
use Rattle.std.specs.Prelude.{◌≡◌, ℕ, ◌<◌, ◌≤◌, List, [], length, take, drop, Some, IfSome, MatchOption}
use Rattle.std.specs.declared.option.Option.{Option}

-- the bytes of each file that is there, by its name
abbrev pub Files : Type 0
Files = List ℕ → Option (List ℕ)

-- These are the bytes of the file of this name, where the files are told.
abbrev pub IsFile : Option Files → List ℕ → List ℕ → Type 0
IsFile files name bytes = IfSome files (λ told. told name ≡ Some bytes)

-- A read gave n of a file's bytes, from the place `at` on, and put them at the front of the buffer, whose rest is as it was.
-- It gives none only at the end of the file or for an empty buffer.
pub record IsPart (bytes : List ℕ) (at n : ℕ) (old new : List ℕ) : Type 0 where
  pub inside : n ≤ length (drop at bytes)
  pub front : take n new ≡ take n (drop at bytes)
  pub rest : drop n new ≡ drop n old
  pub ended : n ≡ 0 → 0 < length old → length bytes ≤ at

-- A read gave a part of the file, where the files are told: so the file is there.
abbrev pub GivesPart : Option Files → List ℕ → ℕ → ℕ → List ℕ → List ℕ → Type 0
GivesPart files name at n old new = IfSome files (λ told. (bytes : List ℕ) × (told name ≡ Some bytes) × IsPart bytes at n old new)

-- The file begins with these bytes, where the files are told. Where it isn't there, there are none.
abbrev pub IsFront : Option Files → List ℕ → List ℕ → Type 0
IsFront files name bytes = IfSome files (λ told. MatchOption (told name) (bytes ≡ []) (λ whole. take (length bytes) whole ≡ bytes))
