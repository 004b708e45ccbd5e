-- In a graph without a loop a depth-first search needs no bound on its depth, and tasks lead to the same list.
use Rattle.std.proofs.Common.{◌≡◌, ◌≢◌, ℕ, zero, suc, ◌+◌, ◌<◌, ◌≤◌, ◌||◌, Bool, true, false, List, [], ◌∷◌, ◌++◌, length, get_or, set, take, map, reverse, fold, All, refl, sym, ap, ap₂, ◌∙◌, arith}
use Rattle.aig_core.proofs.Common.{nat_eq, list_any, eq-eqb, append_assoc, fold-append, list_any-append, All-head, All-tail, successors, NodeTask, HasRanks, visit, node_of, AreWithin, finished, HasMarks}
use Rattle.std.specs.List.{sum_by}
use Rattle.std.proofs.lemmas.Bool.{cases_eq, ne_eqb, or_right}
use Rattle.std.proofs.lemmas.List.{reverse-append, reverse-reverse, map-append, get_or-set_same, get_or-set_other, length-set, map_more}
use Rattle.std.proofs.lemmas.List.Sums.{sum_by-cons, sum_by-append, sum_by_push}
use Rattle.std.proofs.lemmas.List.Folds.{fold-map}
use Rattle.std.proofs.lemmas.List.Elements.{All-append, All-push, All-map, Contains-get_or}
use Rattle.cyc_base.proofs.TruthLemmas.{or-false}
use Rattle.aig_core.specs.declared.depth.NodeTask.TheVariants.{Visit, Place}
use Rattle.aig_core.specs.Depth.{placed}
use Rattle.aig_core.specs.Tasks.{done, weight, task_weight, tasks_left, Advances}

-- ---- folds and sums with equal steps

pub fold_same : {A : Type 0} (f h : List ℕ → A → List ℕ) (xs : List A) (a : List ℕ) → All (λ x. (b : List ℕ) → f b x ≡ h b x) xs → fold f a xs ≡ fold h a xs
fold_same {A} f h [] a same = refl
fold_same {A} f h (x ∷ xs) a same =
    ap (λ b. fold f b xs) (All-head (λ (y : A). (b : List ℕ) → f b y ≡ h b y) x xs same a)
    ∙ fold_same f h xs (h a x) (All-tail (λ (y : A). (b : List ℕ) → f b y ≡ h b y) x xs same)

pub sum_same : (f h : ℕ → ℕ) (xs : List ℕ) → All (λ x. f x ≡ h x) xs → sum_by f xs ≡ sum_by h xs
sum_same f h [] same = refl
sum_same f h (x ∷ xs) same =
    sum_by-cons f x xs ∙ ap₂ (λ a b. a + b) (All-head (λ y. f y ≡ h y) x xs same) (sum_same f h xs (All-tail (λ y. f y ≡ h y) x xs same)) ∙ sym (sum_by-cons h x xs)

pub map-reverse : {A B : Type 0} (f : A → B) (xs : List A) → map f (reverse xs) ≡ reverse (map f xs)
map-reverse {A} {B} f [] = refl
map-reverse {A} {B} f (x ∷ xs) = grind (arith, reverse-append (x ∷ []) xs, map-append f (reverse xs) (x ∷ []), map-reverse f xs, reverse-append (f x ∷ []) (map f xs))

pub sum_by-reverse : {A : Type 0} (f : A → ℕ) (xs : List A) → sum_by f (reverse xs) ≡ sum_by f xs
sum_by-reverse {A} f [] = refl
sum_by-reverse {A} f (x ∷ xs) = grind (arith, reverse-append (x ∷ []) xs, sum_by-append f (reverse xs) (x ∷ []), sum_by-cons f x xs, sum_by-cons f x [], sum_by-reverse f xs)

-- ---- the bound on the depth

abbrev pub Lower : (graph : List (List ℕ)) → HasRanks graph → ℕ → ℕ → Type 0
Lower graph ranks d n = (n < length graph) × (ranks.rank n < d)

pub successors_lower : (graph : List (List ℕ)) (ranks : HasRanks graph) (d n : ℕ) → n < length graph → ranks.rank n ≤ d → All (Lower graph ranks d) (successors graph n)
successors_lower graph ranks d n l low k x m = grind (arith, Contains-get_or (successors graph n) k x m)

module _ (graph : List (List ℕ)) (ranks : HasRanks graph) where
  pub placed-depth : (d e n : ℕ) (before : List ℕ) → Lower graph ranks d n → Lower graph ranks e n → placed graph d before n ≡ placed graph e before n
  unfolding placed
  placed-depth zero e n before low lower = absurd (omega (arith, low.1))
  placed-depth (suc d) zero n before low lower = absurd (omega (arith, lower.1))
  placed-depth (suc d) (suc e) n before low lower = grind (arith, fold_same (placed graph d) (placed graph e) (successors graph n) before, placed-depth d e, successors_lower graph ranks d n low.0, successors_lower graph ranks e n low.0)

  pub weight-depth : (d e n : ℕ) → Lower graph ranks d n → Lower graph ranks e n → weight graph d n ≡ weight graph e n
  unfolding weight
  weight-depth zero e n low lower = absurd (omega (arith, low.1))
  weight-depth (suc d) zero n low lower = absurd (omega (arith, lower.1))
  weight-depth (suc d) (suc e) n low lower = grind (arith, sum_same (weight graph d) (weight graph e) (successors graph n), weight-depth d e, successors_lower graph ranks d n low.0, successors_lower graph ranks e n low.0)

  -- ---- one visit

  placed-opened : (g : ℕ) (before : List ℕ) (n : ℕ) → Lower graph ranks g n → list_any (nat_eq n) before ≡ false → placed graph g before n ≡ fold (placed graph g) before (successors graph n) ++ n ∷ []
  unfolding placed
  placed-opened g before n low new = grind (arith, placed-depth g (suc g) n before low)

  weight-opened : (g n : ℕ) → Lower graph ranks g n → weight graph g n ≡ 2 + sum_by (weight graph g) (successors graph n)
  unfolding weight
  weight-opened g n low = weight-depth g (suc g) n low (low.0, omega (arith, low.1))

  pub placed-new : (before : List ℕ) (n : ℕ) → n < length graph → list_any (nat_eq n) before ≡ false → placed graph (length graph) before n ≡ fold (placed graph (length graph)) before (successors graph n) ++ n ∷ []
  placed-new before n l new = placed-opened (length graph) before n (l, ranks.within n l) new

  weight-new : (n : ℕ) → n < length graph → weight graph (length graph) n ≡ 2 + sum_by (weight graph (length graph)) (successors graph n)
  weight-new n l = weight-opened (length graph) n (l, ranks.within n l)

pub placed-there : (graph : List (List ℕ)) (g : ℕ) (before : List ℕ) (n : ℕ) → list_any (nat_eq n) before ≡ true → placed graph g before n ≡ before
unfolding placed
placed-there graph g before n there = grind arith

weight-positive : (graph : List (List ℕ)) (g n : ℕ) → 0 < weight graph g n
unfolding weight
weight-positive graph g n = grind arith

-- ---- tasks

pub finished_push : (graph : List (List ℕ)) (before : List ℕ) (tasks : List NodeTask) (task : NodeTask) → finished graph before (tasks ++ task ∷ []) ≡ finished graph (done graph before task) tasks
finished_push graph before tasks task = ap (fold (done graph) before) (reverse-append tasks (task ∷ []))

pub tasks_push : (graph : List (List ℕ)) (tasks : List NodeTask) (task : NodeTask) → tasks_left graph (tasks ++ task ∷ []) ≡ tasks_left graph tasks + task_weight graph task
tasks_push graph tasks task = sum_by_push (task_weight graph) tasks task

visits : (graph : List (List ℕ)) (before nodes : List ℕ) → fold (done graph) before (map visit nodes) ≡ fold (placed graph (length graph)) before nodes
visits graph before nodes = fold-map (done graph) visit before nodes

pub finished_visits : (graph : List (List ℕ)) (before : List ℕ) (tasks : List NodeTask) (nodes : List ℕ) → finished graph before (tasks ++ map visit (reverse nodes)) ≡ finished graph (fold (placed graph (length graph)) before nodes) tasks
finished_visits graph before tasks nodes =
    grind (arith, reverse-append tasks (map visit (reverse nodes)), map-reverse visit (reverse nodes), reverse-reverse nodes, fold-append (done graph) before (map visit nodes) (reverse tasks), visits graph before nodes)

visits_left : (graph : List (List ℕ)) (tasks : List NodeTask) (nodes : List ℕ) → tasks_left graph (tasks ++ map visit (reverse nodes)) ≡ tasks_left graph tasks + sum_by (weight graph (length graph)) nodes
visits_left graph tasks nodes = grind (arith, fold-map, sum_by-reverse (weight graph (length graph)) nodes, sum_by-append (task_weight graph) tasks (map visit (reverse nodes)))

-- one more visit, as a loop adds it
pub visits_more : (old tasks : List NodeTask) (nodes : List ℕ) (k n : ℕ) → k < length nodes → n ≡ get_or nodes k n → tasks ≡ old ++ map visit (take k nodes) → tasks ++ Visit n ∷ [] ≡ old ++ map visit (take (k + 1) nodes)
visits_more old tasks nodes k n l is e = grind (arith, append_assoc old (map visit (take k nodes)) (visit (get_or nodes k n) ∷ []), map_more visit nodes k n l)

reversed_within : (count : ℕ) (nodes : List ℕ) → All (λ n. n < count) nodes → All (λ n. n < count) (reverse nodes)
reversed_within count [] h = h
reversed_within count (x ∷ xs) h =
    rw (reverse-append (x ∷ []) xs)
    (All-push (λ n. n < count) (reverse xs) x (reversed_within count xs (All-tail (λ n. n < count) x xs h)) (All-head (λ n. n < count) x xs h))

pub visits_within : (count : ℕ) (tasks : List NodeTask) (nodes : List ℕ) → AreWithin count tasks → All (λ n. n < count) nodes → AreWithin count (tasks ++ map visit (reverse nodes))
visits_within count tasks nodes h k =
    All-append (λ (t : NodeTask). node_of t < count) tasks (map visit (reverse nodes)) h
    (All-map (λ (t : NodeTask). node_of t < count) visit (reverse nodes) (reversed_within count nodes k))

-- a node that is visited again
pub pass_advances : (graph : List (List ℕ)) (before : List ℕ) (tasks : List NodeTask) (n : ℕ) → AreWithin (length graph) tasks → list_any (nat_eq n) before ≡ true → Advances graph before before (tasks ++ Visit n ∷ []) tasks
pass_advances graph before tasks n within there = grind (arith, finished_push graph before tasks (Visit n), placed-there graph (length graph) before n there, tasks_push graph tasks (Visit n), weight-positive graph (length graph) n)

-- a node that is visited first
pub open_advances : (graph : List (List ℕ)) → HasRanks graph → (before : List ℕ) (tasks : List NodeTask) (n : ℕ) → AreWithin (length graph) tasks → n < length graph → list_any (nat_eq n) before ≡ false → Advances graph before before (tasks ++ Visit n ∷ []) ((tasks ++ Place n ∷ []) ++ map visit (reverse (successors graph n)))
open_advances graph ranks before tasks n within l new = record {
  end =
      finished_visits graph before (tasks ++ Place n ∷ []) (successors graph n)
      ∙ finished_push graph (fold (placed graph (length graph)) before (successors graph n)) tasks (Place n)
      ∙ sym (finished_push graph before tasks (Visit n) ∙ ap (λ b. finished graph b tasks) (placed-new graph ranks before n l new));
  less =
      let visited = visits_left graph (tasks ++ Place n ∷ []) (successors graph n) in
      omega (arith, visited, tasks_push graph tasks (Place n), tasks_push graph tasks (Visit n), weight-new graph ranks n l);
  within = visits_within (length graph) (tasks ++ Place n ∷ []) (successors graph n) (All-push (λ (t : NodeTask). node_of t < length graph) tasks (Place n) within l) (ranks.nodes n l);
}

-- ---- marks

-- a node is among these once it stands last, and each other one as before
pub among_last : (nodes : List ℕ) (n : ℕ) → list_any (nat_eq n) (nodes ++ n ∷ []) ≡ true
among_last nodes n =
    list_any-append (nat_eq n) nodes (n ∷ [])
    ∙ or_right (list_any (nat_eq n) nodes) (list_any (nat_eq n) (n ∷ [])) (ap (λ t. t || false) (eq-eqb n n refl))

pub among_others : (nodes : List ℕ) (k n : ℕ) → k ≢ n → list_any (nat_eq k) (nodes ++ n ∷ []) ≡ list_any (nat_eq k) nodes
among_others nodes k n apart =
    list_any-append (nat_eq k) nodes (n ∷ []) ∙ ap (λ t. list_any (nat_eq k) nodes || (t || false)) (ne_eqb k n apart) ∙ or-false (list_any (nat_eq k) nodes)

pub marked_more : (nodes : List ℕ) (marks : List Bool) (n : ℕ) → n < length marks → HasMarks nodes marks → HasMarks (nodes ++ n ∷ []) (set marks n true)
marked_more nodes marks n l has k m = grind (arith, cases_eq k n, get_or-set_same marks n true false l, among_last nodes n, get_or-set_other marks n k true false, length-set marks n true, among_others nodes k n)
