-- Each loop has a cut wire.
use Rattle.std.proofs.Common.{◌≡◌, inl, inr, ◌⊎◌, ℕ, true, false, List, [], ◌∷◌, arith}
use Rattle.loops.proofs.Common.{all_weaker, cases_Bool, AllByRecursion, Parts, Loops, AreLoopsOf, AnyGate, Leads, SameLoop}
use Rattle.loops.proofs.Walks.{cuts_leave_no_loop, on_closed_walk}

-- a cut wire of the gate's loop
pub record HasCut (loops : Loops) (a : ℕ) : Type 0 where
  pub wire : ℕ
  pub same : loops.same a wire ≡ true
  pub cut : loops.cut wire ≡ true

-- one of these gates is a cut wire, or none is
find-cut : (loops : Loops) (a : ℕ) (xs : List ℕ) → AllByRecursion (λ n. loops.same a n ≡ true) xs → HasCut loops a ⊎ AllByRecursion (λ n. loops.cut n ≡ false) xs
find-cut loops a [] h = inr tt
find-cut loops a (x ∷ xs) h = grind (arith, cases_Bool (loops.cut x), find-cut loops a xs h.1)

pub has-cut : (net : Parts) (loops : Loops) → AreLoopsOf net loops → (a : ℕ) → Leads net AnyGate a a → HasCut loops a
has-cut net loops are a leads = elim (cases_Bool (loops.cut a)) [
  | inl is ↦ record { wire = a; same = (are.same a a).1 (record { there = leads; back = leads }); cut = is }
  | inr isnt ↦ elim (find-cut loops a leads.via (all_weaker (SameLoop net a) (λ n. loops.same a n ≡ true) leads.via (λ n. (are.same a n).1) (on_closed_walk net a leads.via leads.walk))) [
    | inl found ↦ found
    | inr none ↦ absurd (cuts_leave_no_loop net loops are a leads.via leads.walk isnt none)
  ]
]
