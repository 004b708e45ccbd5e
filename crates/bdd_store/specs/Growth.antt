-- How a store grows: earlier nodes keep their functions, and new ones are parts of the function that is made.
use Rattle.std.specs.Prelude.{◌≡◌, ◌≢◌, ℕ, ◌+◌, ◌*◌, ◌<◌, ◌≤◌, Bool, List, [], ◌∷◌, ◌++◌, ◌⊎◌, Result, Err, length, Contains}
use Rattle.bdd_store.specs.declared.fault.StoreFault.{StoreFault}
use Rattle.bdd_store.specs.declared.fault.StoreFault.TheVariants.{Full}
use Rattle.bdd_store.specs.declared.node.Node.{Node}
use Rattle.bdd_store.specs.declared.node.Entry.{Entry}
use Rattle.bdd_store.specs.Arena.{Arena, complemented, den, top_of, IsNodeOf}
use Rattle.bdd_store.specs.Subfunctions.{IsPart, Alike}

-- each node of the old store is one of the new, with its function and its variable, and the roots stay
pub record KeepsNodes (old new : Arena) : Type 0 where
  pub vars : new.vars ≡ old.vars
  pub limit : new.limit ≡ old.limit
  pub more : length old.entries ≤ length new.entries
  pub function : (n : Node) (bits : List Bool) → IsNodeOf old n → den new n bits ≡ den old n bits
  pub variable : (n : Node) → IsNodeOf old n → top_of new n ≡ top_of old n
  pub roots : new.roots ≡ old.roots

-- the entry is there, and was there or went last where there was room
abbrev pub IsEntered : List Entry → List Entry → ℕ → Entry → Type 0
IsEntered old new limit e = (new ≡ old) ⊎ ((new ≡ old ++ e ∷ []) × (¬ Contains old e) × (length old < limit))

-- the triple is not there, nor is the one with both branches complemented, and there is no room for it
abbrev pub IsRefused : Arena → ℕ → Node → Node → Type 0
IsRefused a var lo hi = (lo ≢ hi) × (length a.entries ≡ a.limit)
    × (¬ Contains a.entries (record { var = var; lo = lo; hi = hi }))
    × (¬ Contains a.entries (record { var = var; lo = complemented lo; hi = complemented hi }))

-- no node has this function
abbrev pub IsNewFunction : Arena → (List Bool → Bool) → Type 0
IsNewFunction a f = (n : Node) → IsNodeOf a n → ¬ Alike a.vars (den a n) f

-- there are at most so many more nodes
abbrev pub AddsAtMost : Arena → Arena → ℕ → Type 0
AddsAtMost old new n = length new.entries ≤ length old.entries + n

-- a refusal: all room is taken, and so many more nodes would have been too many
pub record IsFullOnlyPast (old new : Arena) (n : ℕ) : Type 0 where
  pub full : length new.entries ≡ new.limit
  pub past : new.limit < length old.entries + n

-- What a call does that may make so many nodes: each earlier node keeps its function, there are at most so many more,
-- and `Full` comes only where so many more would be too many.
pub record Grows {T : Type 0} (result : Result T StoreFault) (old new : Arena) (n : ℕ) : Type 0 where
  pub keeps : KeepsNodes old new
  pub added : AddsAtMost old new n
  pub full : result ≡ Err Full → IsFullOnlyPast old new n

-- How many nodes a call adds that may make nodes of so many functions: where w bounds the nodes of each of these
-- functions, there are at most w more for each. `Full` comes only for another cause, at this limit, or where so many
-- more would be too many.
pub record AddsWithin {T : Type 0} (result : Result T StoreFault) (old new : Arena) (other_cause bounds : ℕ → Type 0) (count : ℕ) : Type 0 where
  pub added : (w : ℕ) → bounds w → AddsAtMost old new (w * count)
  pub full : (w : ℕ) → bounds w → result ≡ Err Full → other_cause old.limit ⊎ IsFullOnlyPast old new (w * count)

-- and each earlier node keeps its function
pub record GrowsWithin {T : Type 0} (result : Result T StoreFault) (old new : Arena) (other_cause bounds : ℕ → Type 0) (count : ℕ) : Type 0 where
  pub keeps : KeepsNodes old new
  pub adds : AddsWithin result old new other_cause bounds count

-- no other cause, at any limit
abbrev pub NoOtherCause : ℕ → Type 0
NoOtherCause limit = ⊥

-- the node or its complement stands for f with some first bits fixed
abbrev pub IsPartAt : ℕ → (List Bool → Bool) → Arena → Node → Type 0
IsPartAt vars f a n = IsPart vars f (den a n) ⊎ IsPart vars f (den a (complemented n))

-- each node that was not there stands for f with some first bits fixed, or its complement does
pub record NewAreParts (old new : Arena) (f : List Bool → Bool) : Type 0 where
  pub each : (n : Node) → IsNodeOf new n → IsNodeOf old n ⊎ IsPartAt old.vars f new n

-- the arena is full, and lacks a node for f with some first bits fixed
pub record IsRefusedPart (a : Arena) (f : List Bool → Bool) : Type 0 where
  pub full : length a.entries ≡ a.limit
  pub part : List Bool → Bool
  pub is_part : IsPart a.vars f part
  pub absent : IsNewFunction a part
