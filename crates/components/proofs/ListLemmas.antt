-- Lists of groups and of marks: their fronts and ends, and the cost of the nodes that are new.
use Rattle.std.proofs.Common.{◌≡◌, ◌≢◌, ℕ, zero, suc, ◌+◌, ◌-◌, ◌<◌, ◌≤◌, List, [], ◌∷◌, ◌++◌, length, get_or, set, take, replicate, refl, ap, sym, ◌∙◌, subst, arith, Some, None}
use Rattle.std.specs.List.{All, AllPairs}
use Rattle.std.specs.Prelude.{slice_get}
use Rattle.std.proofs.lemmas.Bool.{cases_lt}
use Rattle.std.proofs.lemmas.List.{get_or-set_same, get_or-set_other, get_or_append_left, get_or_past, get_or_push, length-append, length_push, take_more, take_all}
use Rattle.components.specs.declared.search.Mark.{Mark}
use Rattle.components.specs.declared.search.Mark.TheVariants.{New, Open, Closed}
use Rattle.components.specs.Search.{mark_of, new_cost}

module _ {X : Type 0} (P : X → Type 0) (xs ys : List X) where
  pub All-left : All P (xs ++ ys) → All P xs
  All-left all k d l =
      let len = length-append xs ys in
      subst P (get_or_append_left xs ys d k l) (all k d (omega arith))

pub All-last : {X : Type 0} (P : X → Type 0) (xs : List X) (y : X) → All P (xs ++ y ∷ []) → P y
All-last {X} P xs y all = grind (arith, length_push, get_or_push)

-- the relation of a list's last element to the others
pub AllPairs-last : {X : Type 0} (R : X → X → Type 0) (xs : List X) (y : X) → AllPairs R (xs ++ y ∷ []) → All (λ x. R x y) xs
AllPairs-last {X} R xs y pairs k d l = grind (arith, length_push, get_or_push, get_or_append_left)

pub AllPairs-left : {X : Type 0} (R : X → X → Type 0) (xs ys : List X) → AllPairs R (xs ++ ys) → AllPairs R xs
AllPairs-left {X} R xs ys pairs i j d l within =
    let len = length-append xs ys in
    let before : i < length xs = omega arith in
    grind (arith, get_or_append_left xs ys d i before, get_or_append_left xs ys d j within)

slice_get-get_or : {X : Type 0} (xs : List X) (i : ℕ) (x d : X) → slice_get xs i ≡ Some x → (i < length xs) × (get_or xs i d ≡ x)
slice_get-get_or {X} [] i x d e = cc
slice_get-get_or {X} (y ∷ ys) zero x d e = (omega arith, cc)
slice_get-get_or {X} (y ∷ ys) (suc i) x d e = grind (arith, slice_get-get_or ys i x d e)

slice_get-none : {X : Type 0} (xs : List X) (i : ℕ) → slice_get xs i ≡ None → length xs ≤ i
slice_get-none {X} [] i e = omega arith
slice_get-none {X} (x ∷ xs) zero e = cc
slice_get-none {X} (x ∷ xs) (suc i) e = (let rest = slice_get-none xs i e in omega arith)

-- a list without a last element is empty
pub no_last : {X : Type 0} (xs : List X) → slice_get xs (length xs - 1) ≡ None → length xs ≡ 0
no_last {X} xs e = (let past = slice_get-none xs (length xs - 1) e in omega arith)

-- a list is what is before its last element, and that element
pub split_last : {X : Type 0} (xs : List X) (x : X) → slice_get xs (length xs - 1) ≡ Some x → xs ≡ take (length xs - 1) xs ++ x ∷ []
split_last {X} xs x e =
    let at = slice_get-get_or xs (length xs - 1) x x e in
    let within = at.0 in
    let n : length xs - 1 + 1 ≡ length xs = omega arith in
    let whole : take (length xs - 1 + 1) xs ≡ xs = take_all (length xs - 1 + 1) xs (omega arith) in
    let more = take_more xs (length xs - 1) x within in
    sym whole ∙ more ∙ ap (λ (y : X). take (length xs - 1) xs ++ y ∷ []) at.1

-- a mark after one is set
pub mark-set_same : (marks : List Mark) (v : ℕ) (mark : Mark) → v < length marks → mark_of (set marks v mark) v ≡ mark
mark-set_same marks v mark l = get_or-set_same marks v mark New l

pub mark-set_other : (marks : List Mark) (v a : ℕ) (mark : Mark) → a ≢ v → mark_of (set marks v mark) a ≡ mark_of marks a
mark-set_other marks v a mark ne = get_or-set_other marks v a mark New ne

-- a node that isn't new is among those that have marks
pub marked_within : (marks : List Mark) (a : ℕ) (mark : Mark) → mark_of marks a ≡ mark → (mark ≡ New → ⊥) → a < length marks
marked_within marks a mark h old = grind (arith, cases_lt, get_or_past)

module _ (cost : List ℕ → ℕ) where
  -- a new node that is opened no longer counts
  pub new_cost-set : (graph : List (List ℕ)) (marks : List Mark) (v place : ℕ) → v < length graph → v < length marks → mark_of marks v ≡ New →
      new_cost cost graph (set marks v (Open place)) + cost (get_or graph v []) ≡ new_cost cost graph marks
  new_cost-set [] marks v place g m e = absurd (omega arith)
  new_cost-set (edges ∷ graph) [] v place g m e = absurd (omega arith)
  new_cost-set (edges ∷ graph) (New ∷ marks) zero place g m e = omega arith
  new_cost-set (edges ∷ graph) (Open p ∷ marks) zero place g m e = cc
  new_cost-set (edges ∷ graph) (Closed c ∷ marks) zero place g m e = cc
  new_cost-set (edges ∷ graph) (New ∷ marks) (suc v) place g m e = grind (arith, new_cost-set graph marks v place)
  new_cost-set (edges ∷ graph) (Open p ∷ marks) (suc v) place g m e = new_cost-set graph marks v place (omega arith) (omega arith) e
  new_cost-set (edges ∷ graph) (Closed c ∷ marks) (suc v) place g m e = new_cost-set graph marks v place (omega arith) (omega arith) e

  -- where no node becomes new, the cost doesn't rise
  pub new_cost-le : (graph : List (List ℕ)) (old new : List Mark) → length new ≡ length old →
      ((a : ℕ) → mark_of new a ≡ New → mark_of old a ≡ New) → new_cost cost graph new ≤ new_cost cost graph old
  new_cost-le [] old new len seen = omega arith
  new_cost-le (edges ∷ graph) [] [] len seen = omega arith
  new_cost-le (edges ∷ graph) [] (m ∷ new) len seen = absurd (omega arith)
  new_cost-le (edges ∷ graph) (m ∷ old) [] len seen = omega arith
  new_cost-le (edges ∷ graph) (m ∷ old) (n ∷ new) len seen =
      let rest = new_cost-le graph old new (omega arith) (λ a. seen (suc a)) in
      by_heads m n (seen 0) rest
    where
      by_heads : (m n : Mark) → (n ≡ New → m ≡ New) → new_cost cost graph new ≤ new_cost cost graph old →
          new_cost cost (edges ∷ graph) (n ∷ new) ≤ new_cost cost (edges ∷ graph) (m ∷ old)
      by_heads m n h rest = grind arith

-- each node is new at first
pub new_cost-start : (graph : List (List ℕ)) → new_cost (λ _. 1) graph (replicate (length graph) New) ≡ length graph
new_cost-start [] = refl
new_cost-start (edges ∷ graph) = let rest = new_cost-start graph in omega arith
