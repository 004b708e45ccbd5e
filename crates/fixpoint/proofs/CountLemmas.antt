-- Comparing steps at the vectors of a care set.
use Rattle.std.proofs.Common.{◌≡◌, ◌==◌, inl, inr, ◌⊎◌, ℕ, ◌+◌, ◌-◌, ◌<◌, ◌≤◌, Bool, true, false, ◌&&◌, List, [], length, map, set, get_or, refl, sym, ap, ap₂, ◌∙◌, subst, arith, true≢false}
use Rattle.fixpoint.proofs.Common.{eqb-true, eq-eqb, cases_lt, length-map, All-map, All, Node, Arena, den, IsNodeOf, IsLawful, KeepsNodes, Rails, Blocks, block_at, LoopSteps, IsLoopAt, HasEachLoopOnce, step_at, last_step, steps_under, KeptRails, rails_under, AreKept, AreNodes, SameRailsOn, AgreeOn, IsLeastStep, AreCountable}
use Rattle.std.proofs.lemmas.List.{get_or_read, get_or-set_same, get_or-set_other, length-set}
use Rattle.std.specs.List.{slice_index_or}
use Rattle.bdd_store.specs.Arena.{constant}
use Rattle.bdd_ops.specs.Operations.{xor, conjunction, exclusive_or}
use Rattle.loops.specs.declared.structure.SweepCounts.{SweepCounts}
use Rattle.fixpoint.specs.Counts.{SameOn, AreCountsOf}
use Rattle.fixpoint.proofs.KeptLemmas.{under-node, AreKept-same, rails_under-same}

-- where c holds x and y are one
seen_false : (c x y : Bool) → (c && xor x y) ≡ false → c ≡ true → x ≡ y
seen_false c x y h e = grind arith

unseen : (c x y : Bool) → (c ≡ true → x ≡ y) → (c && xor x y) ≡ false
unseen c x y h = grind arith

-- the difference of two nodes on care is the constant false exactly where they have one value there
module _ (a b e : Arena) (care m n differ seen : Node) (care_is : IsNodeOf a care) (m_is : IsNodeOf a m) (n_is : IsNodeOf a n)
    (first : KeepsNodes a b) (second : KeepsNodes b e) (lawful : IsLawful e) (seen_is : IsNodeOf e seen)
    (differs : (bits : List Bool) → den b differ bits ≡ exclusive_or a m n bits)
    (sees : (bits : List Bool) → den e seen bits ≡ conjunction b care differ bits) where
  seen_den : (bits : List Bool) → den e seen bits ≡ (den a care bits && xor (den a m bits) (den a n bits))
  seen_den bits = sees bits ∙ ap₂ (λ x y. x && y) (first.function care bits care_is) (differs bits)

  pub same_from : seen ≡ constant false → SameOn a care m n
  same_from is bits cared = seen_false (den a care bits) (den a m bits) (den a n bits)
      (sym (seen_den bits) ∙ ap (λ (x : Node). den e x bits) is ∙ lawful.constants false bits) cared

  pub same_to : SameOn a care m n → seen ≡ constant false
  same_to same = lawful.canonical seen (constant false) seen_is (omega arith)
      (λ bits len. seen_den bits ∙ unseen (den a care bits) (den a m bits) (den a n bits) (same bits) ∙ sym (lawful.constants false bits))

pub node_from : (x y : Node) (b : Bool) → b ≡ (x.number == y.number) → b ≡ true → x ≡ y
node_from x y b is e = ap (λ (n : ℕ). let m : Node = record { number = n } in m) (eqb-true x.number y.number (sym is ∙ e))

pub node_to : (x y : Node) (b : Bool) → b ≡ (x.number == y.number) → x ≡ y → b ≡ true
node_to x y b is e = is ∙ eq-eqb x.number y.number (ap (λ (n : Node). n.number) e)

-- diagrams in which the nodes of u have the same functions agree on the same
module _ (s t u : Arena) (care : Node) (same : (n : Node) (bits : List Bool) → IsNodeOf u n → den s n bits ≡ den t n bits) (cared : IsNodeOf u care) where
  SameOn-moved : (m n : Node) → IsNodeOf u m → IsNodeOf u n → SameOn s care m n → SameOn t care m n
  SameOn-moved m n m_is n_is are bits at = sym (same m bits m_is) ∙ are bits (same care bits cared ∙ at) ∙ same n bits n_is

  pub SameRailsOn-moved : (r q : Rails) → AreNodes u r → AreNodes u q → SameRailsOn s care r q → SameRailsOn t care r q
  SameRailsOn-moved r q r_are q_are are = record { one = SameOn-moved r.one q.one r_are.one q_are.one are.one; zero = SameOn-moved r.zero q.zero r_are.zero q_are.zero are.zero }

pub AgreeOn-itself : (a : Arena) (care : Node) (xs : List Rails) → AgreeOn a care xs xs
AgreeOn-itself a care xs place none less = record { one = λ bits cared. refl; zero = λ bits cared. refl }

-- one place more agrees
pub more_agree : (a : Arena) (care : Node) (xs ys : List Rails) (i : ℕ) → ((place : ℕ) (none : Rails) → place < i → SameRailsOn a care (slice_index_or xs place none) (slice_index_or ys place none))
    → ((none : Rails) → SameRailsOn a care (slice_index_or xs i none) (slice_index_or ys i none))
    → (place : ℕ) (none : Rails) → place < i + 1 → SameRailsOn a care (slice_index_or xs place none) (slice_index_or ys place none)
more_agree a care xs ys i before here place none less = elim (cases_lt place i) [
  | inl low ↦ before place none low
  | inr high ↦ let e : i ≡ place = omega (arith, less, high) in subst (λ (p : ℕ). SameRailsOn a care (slice_index_or xs p none) (slice_index_or ys p none)) e (here none)
]

-- numbers for the first loops, and 0 for the others
pub record IsCounting (a : Arena) (blocks : Blocks) (care : Node) (found : List LoopSteps) (i : ℕ) (counts : List ℕ) : Type 0 where
  pub width : length counts ≡ length blocks.list
  pub done : (j : ℕ) (none : LoopSteps) → j < i → IsLeastStep a care (steps_under a (slice_index_or found j none)) (slice_index_or counts (slice_index_or found j none).block 0)
  pub others : (b : ℕ) → (block_at blocks b).looped ≡ false → slice_index_or counts b 0 ≡ 0

pub counting-step : (a : Arena) (blocks : Blocks) (care : Node) (found : List LoopSteps) (i : ℕ) (counts : List ℕ) (at : LoopSteps) (k : ℕ) → HasEachLoopOnce blocks found → i < length found
    → at ≡ slice_index_or found i at → IsLeastStep a care (steps_under a at) k → IsCounting a blocks care found i counts → IsCounting a blocks care found (i + 1) (set counts at.block k)
counting-step a blocks care found i counts at k has inside is least before =
    let loop : IsLoopAt blocks at.block = subst (λ (x : LoopSteps). IsLoopAt blocks x.block) (sym is) (has.only i at inside) in
    let room : at.block < length counts = omega (arith, loop.within, before.width) in
    record {
      width = length-set counts at.block k ∙ before.width;
      done = λ j none less. by j none less (cases_lt j i);
      others = λ b not_loop. get_or-set_other counts at.block b k 0 (λ e. true≢false (sym loop.looped ∙ ap (λ (p : ℕ). (block_at blocks p).looped) (sym e) ∙ not_loop)) ∙ before.others b not_loop;
    }
  where
    by : (j : ℕ) (none : LoopSteps) → j < i + 1 → (j < i) ⊎ (i ≤ j) → IsLeastStep a care (steps_under a (slice_index_or found j none)) (slice_index_or (set counts at.block k) (slice_index_or found j none).block 0)
    by j none less (inl low) =
        let other : slice_index_or (set counts at.block k) (slice_index_or found j none).block 0 ≡ slice_index_or counts (slice_index_or found j none).block 0
        = get_or-set_other counts at.block (slice_index_or found j none).block k 0
        (λ e. let same = has.once j i none (omega arith) inside (e ∙ ap (λ (x : LoopSteps). x.block) (get_or_read found i at inside is none)) in omega (arith, low, same)) in
        subst (IsLeastStep a care (steps_under a (slice_index_or found j none))) (sym other) (before.done j none low)
    by j none less (inr high) = grind (arith, get_or_read found i, get_or-set_same counts at.block k 0)

pub counting-end : (a : Arena) (blocks : Blocks) (care : Node) (found : List LoopSteps) (i : ℕ) (counts : SweepCounts) → length found ≤ i → IsCounting a blocks care found i counts.per_block → AreCountsOf a blocks care found counts
counting-end a blocks care found i counts all is = grind arith

least-if : (a : Arena) (care : Node) (steps : List (List Rails)) (k : ℕ) → k < length steps → ((j : ℕ) → j < k → ¬ AgreeOn a care (step_at steps j) (last_step steps)) → AgreeOn a care (step_at steps k) (last_step steps)
    → IsLeastStep a care steps k
least-if a care steps k less before agree = record { within = less; agrees = agree; least = λ j inside agrees. elim (cases_lt j k) [ inl low ↦ absurd (before j low agrees) | inr high ↦ high ] }

-- steps agree as they did while nodes are kept
module _ {s t : Arena} {care : Node} (steps : List (List Rails)) (width : ℕ) (keeps : KeepsNodes s t) (cared : IsNodeOf s care) (nodes : All (All (AreNodes s)) steps) (widths : All (λ step. length step ≡ width) steps) where
  agree-moved : (old new : Arena) → ((n : Node) (bits : List Bool) → IsNodeOf s n → den old n bits ≡ den new n bits) → (k : ℕ) → k < length steps → AgreeOn old care (step_at steps k) (last_step steps) → AgreeOn new care (step_at steps k) (last_step steps)
  agree-moved old new same k less agree place none within =
      let last : length steps - 1 < length steps = omega arith in
      let inside : place < length (step_at steps k) = omega (arith, within, widths k [] less, widths (length steps - 1) [] last) in
      SameRailsOn-moved old new s care same cared (get_or (step_at steps k) place none) (get_or (last_step steps) place none) (nodes k [] less place none inside) (nodes (length steps - 1) [] last place none within) (agree place none within)

  -- the first step that agrees with the last one is the least
  pub least_here : (k : ℕ) → k < length steps → ((j : ℕ) → j < k → ¬ AgreeOn s care (step_at steps j) (last_step steps)) → AgreeOn t care (step_at steps k) (last_step steps) → IsLeastStep s care steps k
  least_here k less before agree = least-if s care steps k less before (agree-moved t s keeps.function k less agree)

  pub none_more : (k : ℕ) → k < length steps → ((j : ℕ) → j < k → ¬ AgreeOn s care (step_at steps j) (last_step steps)) → ¬ AgreeOn t care (step_at steps k) (last_step steps)
      → (j : ℕ) → j < k + 1 → ¬ AgreeOn s care (step_at steps j) (last_step steps)
  none_more k less before differs j inside agrees = elim (cases_lt j k) [
    | inl low ↦ before j low agrees
    | inr high ↦
        let same : j ≡ k = omega (arith, inside, high) in
        differs (agree-moved s t (λ n bits is. sym (keeps.function n bits is)) k less (subst (λ (m : ℕ). AgreeOn s care (step_at steps m) (last_step steps)) same agrees))
  ]

  -- a least number is one at the nodes of before
  pub IsLeastStep-back : (k : ℕ) → IsLeastStep t care steps k → IsLeastStep s care steps k
  IsLeastStep-back k is = record {
    within = is.within;
    agrees = agree-moved t s keeps.function k is.within is.agrees;
    least = λ j less agrees. is.least j less (agree-moved s t (λ n bits is_node. sym (keeps.function n bits is_node)) j less agrees);
  }

-- where no earlier step agrees with the last one, the last one is the least
pub least_last : (s : Arena) (care : Node) (steps : List (List Rails)) (k : ℕ) → 0 < length steps → length steps ≡ k + 1 → ((j : ℕ) → j < k → ¬ AgreeOn s care (step_at steps j) (last_step steps)) → IsLeastStep s care steps k
least_last s care steps k some end before =
    let same : length steps - 1 ≡ k = omega arith in
    least-if s care steps k (omega arith) before (subst (λ (m : ℕ). AgreeOn s care (step_at steps m) (last_step steps)) same (AgreeOn-itself s care (last_step steps)))

-- ---- the steps of a loop under their roots

pub loop-nodes : (a : Arena) → IsLawful a → (loop : LoopSteps) → All (All (AreKept a)) loop.steps → All (All (AreNodes a)) (steps_under a loop)
loop-nodes a laws loop keys =
    All-map (All (AreNodes a)) (map (rails_under a)) loop.steps (λ k none less.
    All-map (AreNodes a) (rails_under a) (get_or loop.steps k none) (λ i none2 inside. let is = keys k none less i none2 inside in
    record { one = under-node a laws (get_or (get_or loop.steps k none) i none2).one is.one; zero = under-node a laws (get_or (get_or loop.steps k none) i none2).zero is.zero }))

pub loop-widths : (a : Arena) (loop : LoopSteps) → All (λ step. length step ≡ length loop.cuts) loop.steps → All (λ step. length step ≡ length loop.cuts) (steps_under a loop)
loop-widths a loop widths =
    All-map (λ step. length step ≡ length loop.cuts) (map (rails_under a)) loop.steps (λ k none less. length-map {B = Rails} (get_or loop.steps k none) (rails_under a) ∙ widths k none less)

module _ {s t : Arena} {care : Node} (laws : IsLawful s) (cared : IsNodeOf s care) (keeps : KeepsNodes s t) (loop : LoopSteps) (is : AreCountable s care loop) where
  pub same-steps : steps_under t loop ≡ steps_under s loop
  same-steps = ap (λ (under : KeptRails → Rails). map (map under) loop.steps) (rails_under-same keeps)

  -- a least number is one at the roots of before
  pub least-kept : (k : ℕ) → IsLeastStep t care (steps_under t loop) k → IsLeastStep s care (steps_under s loop) k
  least-kept k least =
      IsLeastStep-back (steps_under s loop) (length loop.cuts) keeps cared (loop-nodes s laws loop is.keys) (loop-widths s loop is.widths) k (subst (λ (steps : List (List Rails)). IsLeastStep t care steps k) same-steps least)

  pub countable-kept : AreCountable t care loop
  countable-kept = record {
    keys = λ k none less i none2 inside. AreKept-same keeps (get_or (get_or loop.steps k none) i none2) (is.keys k none less i none2 inside);
    widths = is.widths;
    some = is.some;
    few = is.few;
    fits = λ k least. is.fits k (least-kept k least);
  }
