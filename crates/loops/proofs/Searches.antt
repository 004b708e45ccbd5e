-- What searches, numbers of blocks and orders show of walks.
use Rattle.std.proofs.Common.{◌≡◌, ◌⊎◌, inr, ℕ, ◌<◌, ◌≤◌, Bool, true, List, [], ◌∷◌, arith}
use Rattle.loops.proofs.Common.{cases_eq, AllByRecursion, Parts, Feeds, Walk}
use Rattle.loops.specs.Laws.{SearchIsComplete, BlocksByNumbers, LoopFreeByNumbers}

module _ (net : Parts) (kind seen : ℕ → Bool) (start goal : ℕ) (closes : (x y : ℕ) → (x ≡ start) ⊎ (seen x ≡ true) → Feeds net x y → kind y ≡ true → seen y ≡ true) (none : (x : ℕ) → (x ≡ start) ⊎ (seen x ≡ true) → Feeds net x goal → ⊥) where
  never : (x : ℕ) (via : List ℕ) → (x ≡ start) ⊎ (seen x ≡ true) → AllByRecursion (λ g. kind g ≡ true) via → Walk net x via goal → ⊥
  never x [] here all walk = none x here walk
  never x (y ∷ via) here all walk = never y via (inr (closes x y here walk.0 all.0)) all.1 walk.1

pub search_is_complete : SearchIsComplete
search_is_complete net kind seen start goal closes none leads = grind (arith, never net kind seen start goal closes none start leads.via)

rises : (net : Parts) (number : ℕ → ℕ) → ((a b : ℕ) → Feeds net a b → number a ≤ number b) → (a b : ℕ) (via : List ℕ) → Walk net a via b → number a ≤ number b
rises net number h a b [] walk = h a b walk
rises net number h a b (x ∷ via) walk = grind (arith, rises net number h x b via walk.1)

strictly : (net : Parts) (number : ℕ → ℕ) → ((a b : ℕ) → Feeds net a b → number a < number b) → (a b : ℕ) (via : List ℕ) → Walk net a via b → number a < number b
strictly net number h a b [] walk = h a b walk
strictly net number h a b (x ∷ via) walk = grind (arith, strictly net number h x b via walk.1)

pub loop_free_by_numbers : LoopFreeByNumbers
loop_free_by_numbers net number h a via walk = let l = strictly net number h a a via walk in omega arith

pub blocks_by_numbers : BlocksByNumbers
blocks_by_numbers net number h joined a b al bl = grind (arith, rises net number h a b, rises net number h b a, cases_eq a b)
