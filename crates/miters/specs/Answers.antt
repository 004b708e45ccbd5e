-- What an answer about two netlists speaks of.
use Rattle.std.specs.Prelude.{◌≡◌, ◌<◌, ℕ, Bool, List, length}
use Rattle.netlist.specs.Netlists.{columns}
use Rattle.netlist.specs.declared.parts.Parts.{Parts}
use Rattle.refusals.specs.Refusals.{IsRefusalOf}
use Rattle.miters.specs.declared.answer.Answer.{Answer}
use Rattle.miters.specs.declared.answer.Answer.TheVariants.{Equal, Unmatched, First, Second, Output, Latch}

-- a vector of the netlist, and a place among so many
pub record IsPlaceAt (net : Parts) (v : List Bool) (at most : ℕ) : Type 0 where
  pub width : length v ≡ columns net
  pub within : at < most

-- a refusal of one of them, or an output or a latch of the first with a vector of it
abbrev pub IsAnswerOf : Parts → Parts → Answer → Type 0
IsAnswerOf a b Equal = Unit {0}
IsAnswerOf a b (Unmatched name) = Unit {0}
IsAnswerOf a b (First r) = IsRefusalOf a r
IsAnswerOf a b (Second r) = IsRefusalOf b r
IsAnswerOf a b (Output v at) = IsPlaceAt a v at (length a.outputs)
IsAnswerOf a b (Latch v at) = IsPlaceAt a v at (length a.latches)
