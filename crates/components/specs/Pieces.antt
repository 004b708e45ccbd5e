-- Lists that lie one after another in one list.
use Rattle.std.specs.Prelude.{◌≡◌, ◌≤◌, ℕ, List, [], ◌∷◌, slice_range}

-- the pieces of a list from a start on, each up to its end
abbrev pub pieces : ℕ → List ℕ → List ℕ → List (List ℕ)
pieces start [] items = []
pieces start (end ∷ ends) items = slice_range items start end ∷ pieces end ends items

-- the ends don't fall, and the last is the length; without ends the start is
abbrev pub EndAt : ℕ → List ℕ → ℕ → Type 0
EndAt start [] len = start ≡ len
EndAt start (end ∷ ends) len = (start ≤ end) × EndAt end ends len
