-- The loops of a netlist, one after another.
use Rattle.std.proofs.Common.{◌≡◌, ℕ, zero, suc, ◌+◌, ◌-◌, ◌<◌, ◌≤◌, Bool, true, false, cond, List, [], ◌∷◌, ◌++◌, length, get_or, map, Some, refl, sym, ap, ◌∙◌, subst, arith}
use Rattle.loops.proofs.Common.{length-map, AllByRecursion, range_with_len, Parts, begins_with, loop_of}
use Rattle.std.proofs.lemmas.List.{length-append}
use Rattle.std.proofs.Math.Seq.{get_or-append_seam}
use Rattle.std.specs.Iterator.{Yields, YieldsFirstBy}
use Rattle.cyc_base.proofs.ListLemmas.{all_filter}
use Rattle.loops.specs.Listed.{first_gates}
use Rattle.loops.specs.Left.{loop_seen, loops_left}
use Rattle.loops.specs.Numbered.{Listed, IsLoopOf, IsNextLoop, first_gates_from, listed_loops, numbered}
use Rattle.loops.specs.declared.loop_list.ListedLoop.{ListedLoop}
use Rattle.loops.specs.declared.loop_list.LoopList.{LoopList}
use Rattle.loops.proofs.ListedLemmas.{range_inside}

-- ---- the gates at which loops begin

-- one gate of those that are left
gates_more : (net : Parts) (n : ℕ) → n < length net.gates
    → first_gates_from net n ≡ cond (begins_with (loop_of net n) n) (n ∷ first_gates_from net (n + 1)) (first_gates_from net (n + 1))
gates_more net n inside = grind arith

pub gate_begins : (net : Parts) (n : ℕ) → n < length net.gates → begins_with (loop_of net n) n ≡ true → first_gates_from net n ≡ n ∷ first_gates_from net (n + 1)
gate_begins net n inside begun = gates_more net n inside ∙ ap (λ (t : Bool). cond t (n ∷ first_gates_from net (n + 1)) (first_gates_from net (n + 1))) begun

pub gate_passes : (net : Parts) (n : ℕ) → n < length net.gates → begins_with (loop_of net n) n ≡ false → first_gates_from net n ≡ first_gates_from net (n + 1)
gate_passes net n inside none = gates_more net n inside ∙ ap (λ (t : Bool). cond t (n ∷ first_gates_from net (n + 1)) (first_gates_from net (n + 1))) none

-- none is left, or the next and those behind it
pub none_left : (net : Parts) (k n : ℕ) → first_gates_from net n ≡ [] → numbered net k (first_gates_from net n) ≡ []
none_left net k n none = ap (numbered net k) none

pub next_left : (net : Parts) (k n first : ℕ) (gates : List ℕ) → IsNextLoop net n first gates
    → numbered net k (first_gates_from net n) ≡ record { number = k; first = first; gates = gates } ∷ numbered net (k + 1) (first_gates_from net (first + 1))
next_left net k n first gates is = grind arith

-- ---- what a list yields

-- what came and what is left are all
pub came_and_left : (s : LoopList) (came : List ListedLoop) (t : LoopList) → Yields (YieldsFirstBy loop_seen loops_left) s came t
    → loops_left s ≡ map loop_seen came ++ loops_left t
came_and_left s [] t y = ap loops_left y
came_and_left s (x ∷ came) t y = y.1 ∙ ap (λ ls. loop_seen x ∷ ls) (came_and_left y.0 came t y.2)

-- the loop at place i
pub record IsAt (net : Parts) (i : ℕ) (l : Listed) : Type 0 where
  pub inside : i < length (listed_loops net)
  pub is : l ≡ get_or (listed_loops net) i l
  pub loop : IsLoopOf net l

abbrev AreFirst : Parts → List ℕ → Type 0
AreFirst net gates = AllByRecursion (λ g. g < length net.gates) gates

listed_at : (net : Parts) (k i : ℕ) (d : Listed) (gates : List ℕ) → AreFirst net gates → i < length (numbered net k gates) → IsLoopOf net (get_or (numbered net k gates) i d)
listed_at net k i d [] are inside = absurd (omega (arith, inside))
listed_at net k zero d (g ∷ gates) are inside = record { first = are.0; gates = refl }
listed_at net k (suc i) d (g ∷ gates) are inside = listed_at net (k + 1) i d gates are.1 (omega (arith, inside))

are_first : (net : Parts) → AreFirst net (first_gates net)
are_first net = all_filter (λ g. g < length net.gates) (λ n. begins_with (loop_of net n) n) (range_with_len 0 (length net.gates)) (range_inside 0 (length net.gates) (length net.gates) (omega arith))

-- a loop that comes behind some
pub comes_at : (net : Parts) (s t u : LoopList) (came : List ListedLoop) (x : ListedLoop) → loops_left s ≡ listed_loops net
    → Yields (YieldsFirstBy loop_seen loops_left) s came t → YieldsFirstBy loop_seen loops_left t (Some x) u → IsAt net (length came) (loop_seen x)
comes_at net s t u came x all yielded next = record { inside = inside; is = sym is; loop = subst (IsLoopOf net) is (listed_at net 1 (length came) (loop_seen x) (first_gates net) (are_first net) inside) }
  where
    whole : listed_loops net ≡ map loop_seen came ++ loop_seen x ∷ loops_left u
    whole = sym all ∙ came_and_left s came t yielded ∙ ap (λ ls. map loop_seen came ++ ls) next

    width : length (map loop_seen came) ≡ length came
    width = length-map came loop_seen

    inside : length came < length (listed_loops net)
    inside = let l = ap length whole in let a = length-append (map loop_seen came) (loop_seen x ∷ loops_left u) in omega (arith, width, l, a)

    is : get_or (listed_loops net) (length came) (loop_seen x) ≡ loop_seen x
    is =
        ap (λ ls. get_or ls (length came) (loop_seen x)) whole
        ∙ ap (λ k. get_or (map loop_seen came ++ loop_seen x ∷ loops_left u) k (loop_seen x)) (sym width)
        ∙ get_or-append_seam (map loop_seen came) (loop_seen x) (loops_left u) (loop_seen x)

-- where none is left all came
pub all_came : (net : Parts) (s t : LoopList) (came : List ListedLoop) → loops_left s ≡ listed_loops net → Yields (YieldsFirstBy loop_seen loops_left) s came t
    → loops_left t ≡ [] → length (listed_loops net) ≤ length came
all_came net s t came all yielded none =
    let whole : listed_loops net ≡ map loop_seen came ++ loops_left t = sym all ∙ came_and_left s came t yielded in
    let l = ap length whole in
    let a = length-append (map loop_seen came) (loops_left t) in
    let width = length-map came loop_seen in
    let e = ap length none in
    omega (arith, width, l, a, e)
