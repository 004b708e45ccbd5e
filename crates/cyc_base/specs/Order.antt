-- The laws of the order of values.
use Rattle.std.specs.Prelude.{◌≡◌, Bool, List, length, replicate}
use Rattle.cyc_base.specs.declared.trit.Trit.{Trit}
use Rattle.cyc_base.specs.declared.trit.Trit.TheVariants.{X}
use Rattle.cyc_base.specs.Values.{bit, bits, Below, EachBelow}

pub record IsPartialOrder : Type 0 where
  pub reflexive : (a : Trit) → Below a a
  pub transitive : (a b c : Trit) → Below a b → Below b c → Below a c
  pub antisymmetric : (a b : Trit) → Below a b → Below b a → a ≡ b

-- X is below each value
abbrev pub HasUnknownAtBottom : Type 0
HasUnknownAtBottom = (a : Trit) → Below X a

-- the same of lists, whose order is that of lists of one length
pub record OrderOfLists : Type 0 where
  pub reflexive : (s : List Trit) → EachBelow s s
  pub transitive : (s t u : List Trit) → EachBelow s t → EachBelow t u → EachBelow s u
  pub antisymmetric : (s t : List Trit) → EachBelow s t → EachBelow t s → s ≡ t
  pub same_length : (s t : List Trit) → EachBelow s t → length s ≡ length t
  pub bottom : (s : List Trit) → EachBelow (replicate (length s) X) s

-- what is above Boolean values is equal to them
pub record BitsAreTop : Type 0 where
  pub value : (b : Bool) (a : Trit) → Below (bit b) a → a ≡ bit b
  pub list : (bs : List Bool) (s : List Trit) → EachBelow (bits bs) s → s ≡ bits bs
