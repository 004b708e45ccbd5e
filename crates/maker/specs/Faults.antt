-- What the call answers.
use Rattle.std.specs.Prelude.{◌≡◌, ℕ, List, ◌<◌, ◌≤◌}
use Rattle.maker.specs.Ring.{ring_text, care_text}
use Rattle.maker.specs.declared.fault.RingFault.{RingFault}
use Rattle.maker.specs.declared.fault.RingFault.TheVariants.{TooSmall, TooLarge, Memory}

-- the texts of the netlist and of the care set, where there are from 2 to 64 cells
pub record AreTexts (n : ℕ) (netlist invariant : List ℕ) : Type 0 where
  pub enough : 2 ≤ n
  pub few : n ≤ 64
  pub ring : netlist ≡ ring_text n
  pub care : invariant ≡ care_text n

-- fewer than 2 cells, over 64; of memory nothing is said
abbrev pub Refuses : RingFault → ℕ → Type 0
Refuses TooSmall n = n < 2
Refuses TooLarge n = 64 < n
Refuses Memory n = Unit {0}
