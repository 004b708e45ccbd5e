-- What is told of two netlists: whether they are equal, and a line.
use Rattle.std.specs.Prelude.{◌≡◌, ℕ, Bool, true, false, List}
use Rattle.netlist.specs.declared.parts.Parts.{Parts}
use Rattle.care_sets.specs.Care.{CareSet}
use Rattle.miters.specs.declared.answer.Answer.{Answer}
use Rattle.miters.specs.declared.answer.Answer.TheVariants.{Equal, Unmatched, First, Second, Output, Latch}
use Rattle.miters.specs.Rebound.{found}
use Rattle.miters.specs.Texts.{answer_text}
use Rattle.miters.specs.declared.telling.Told.{Told}

abbrev pub is_equal : Answer → Bool
is_equal Equal = true
is_equal (Unmatched name) = false
is_equal (First r) = false
is_equal (Second r) = false
is_equal (Output v at) = false
is_equal (Latch v at) = false

abbrev pub are_equal : Parts → Parts → CareSet → Bool
are_equal a b care = is_equal (found a b care)

abbrev pub found_text : Parts → Parts → CareSet → List ℕ
found_text a b care = answer_text a b (found a b care)

-- this is told of an answer
pub record IsToldOf (a b : Parts) (answer : Answer) (told : Told) : Type 0 where
  pub equal : told.equal ≡ is_equal answer
  pub text : told.text.items ≡ answer_text a b answer
