-- Landmarks: gates of which it is kept what they lead to, and what leads to them.
use Rattle.std.specs.Prelude.{◌≡◌, ◌<◌, ◌+◌, ◌^◌, ℕ, List, length, All, Contains}
use Rattle.feedback_cuts.specs.declared.landmarks.Landmark.{Landmark}
use Rattle.loops.specs.Rows.{InRow}
use Rattle.feedback_cuts.specs.Searching.{Connects, IsMarked, Reaches}
use Rattle.loops.specs.Walks.{AnyGate}

-- what is marked ahead of a landmark is reached from it along readers, and from what is marked behind it it is reached
pub record IsLandmark (readers : List (List ℕ)) (gates : ℕ) (landmark : Landmark) : Type 0 where
  pub fits : landmark.gate + 1 < 2 ^ 32
  pub ahead_size : length landmark.ahead.marks.items ≡ gates
  pub behind_size : length landmark.behind.marks.items ≡ gates
  pub ahead : (x : ℕ) → IsMarked landmark.gate landmark.ahead.marks.items x → Reaches readers landmark.gate x
  pub behind : (x : ℕ) → IsMarked landmark.gate landmark.behind.marks.items x → Reaches readers x landmark.gate

abbrev pub AreLandmarks : List (List ℕ) → ℕ → List Landmark → Type 0
AreLandmarks readers gates landmarks = All (IsLandmark readers gates) landmarks

-- walks back from a gate along sources are walks to it along readers
abbrev pub ReadsBack : List (List ℕ) → List (List ℕ) → ℕ → Type 0
ReadsBack readers sources gate =
    (x : ℕ) → Connects (InRow sources) AnyGate gate x → Connects (InRow readers) AnyGate x gate

-- a way from a gate of one row, past a landmark, to a gate of the other
pub record Passes (readers : List (List ℕ)) (ahead behind : List ℕ) : Type 0 where
  pub first : ℕ
  pub last : ℕ
  pub landmark : ℕ
  pub begins : Contains ahead first
  pub ends : Contains behind last
  pub before : Reaches readers first landmark
  pub after : Reaches readers landmark last
