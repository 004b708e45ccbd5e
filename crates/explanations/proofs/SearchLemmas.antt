-- A search in breadth comes to each node by the fewest edges.
use Rattle.std.proofs.Common.{◌≡◌, inl, inr, ℕ, zero, suc, ◌+◌, ◌<◌, ◌≤◌, List, [], ◌∷◌, ◌++◌, length, get_or, set, replicate, refl, ap, sym, ◌∙◌, subst, arith, Option, Some, None}
use Rattle.std.specs.List.{All, Contains}
use Rattle.std.proofs.lemmas.Bool.{cases_eq, cases_lt}
use Rattle.std.proofs.lemmas.List.{get_or_default, get_or-set_same, get_or-set_other, get_or-replicate, get_or_past, length-replicate, length-set, length-append}
use Rattle.std.proofs.lemmas.List.Elements.{Contains-append_left, Contains-push, Contains-push_cases}
use Rattle.components.specs.Graphs.{Edge, successors}
use Rattle.explanations.specs.declared.search.SearchStep.{SearchStep}
use Rattle.explanations.specs.Search.{step_at, IsPlaced, IsNew, IsWithin, unplaced, IsFresh, Grown, LeadsTo, LeadsFrom, LeadsFromLevel, HasVisited, IsNextLevel, CameBy, Came, IsSearch, IsSearching, IsRooted}

-- ---- one node

pub same_step : (a b : SearchStep) → Some a ≡ Some b → a ≡ b
same_step a b e = cc

pub not_both : (o : Option SearchStep) (step : SearchStep) → o ≡ None → o ≡ Some step → ⊥
not_both o step e h = cc

pub step_within : (steps : List (Option SearchStep)) (node : ℕ) (step : SearchStep) → step_at steps node ≡ Some step → node < length steps
step_within steps node step e = grind (arith, cases_lt, not_both, get_or_past)

unplaced-set : (steps : List (Option SearchStep)) (node : ℕ) (step : SearchStep) → node < length steps → step_at steps node ≡ None → unplaced steps ≡ suc (unplaced (set steps node (Some step)))
unplaced-set [] node step l e = absurd (omega arith)
unplaced-set (None ∷ steps) zero step l e = refl
unplaced-set (Some s ∷ steps) zero step l e = cc
unplaced-set (None ∷ steps) (suc node) step l e = ap suc (unplaced-set steps node step (omega arith) e)
unplaced-set (Some s ∷ steps) (suc node) step l e = unplaced-set steps node step (omega arith) e

pub unplaced-none : (n : ℕ) → unplaced (replicate n None) ≡ n
unplaced-none zero = refl
unplaced-none (suc n) = ap suc (unplaced-none n)

-- ---- growing

module _ (links : ℕ → ℕ → Type 0) (depth : ℕ) where
  pub Grown-one : (old : List (Option SearchStep)) (before : List ℕ) (node : ℕ) (step : SearchStep) → IsNew old node → step.depth ≡ depth → links step.from node →
      Grown links depth old (set old node (Some step)) before (before ++ node ∷ [])
  Grown-one old before node step new level link = record {
    size = length-set old node (Some step);
    keeps = λ n s e.
        elim (cases_eq n node) [
          | inl same ↦ absurd (not_both (step_at old node) s new.unplaced (ap (step_at old) (sym same) ∙ e))
          | inr other ↦ get_or-set_other old node n (Some step) None other ∙ e
        ];
    fresh = λ n s e.
        elim (cases_eq n node) [
          | inl same ↦
              let is : Some step ≡ Some s = sym (get_or-set_same old node (Some step) None new.within) ∙ ap (step_at (set old node (Some step))) (sym same) ∙ e in
              let step_is : step ≡ s = same_step step s is in
              inr (subst (λ (t : SearchStep). IsFresh links depth (before ++ node ∷ []) n t) step_is
              (subst (λ (m : ℕ). IsFresh links depth (before ++ node ∷ []) m step) (sym same)
              (record { level = level; link = link; found = Contains-push before node })))
          | inr other ↦ inl (sym (get_or-set_other old node n (Some step) None other) ∙ e)
        ];
    stays = λ n c. Contains-append_left before (node ∷ []) n c;
    origin = λ n c.
        elim (Contains-push_cases before node n c) [
          | inl b ↦ inl b
          | inr same ↦ inr (subst (λ (m : ℕ). IsNew old m × IsPlaced (set old node (Some step)) m) same
              (new, record { step = step; is = get_or-set_same old node (Some step) None new.within }))
        ];
    count = (
        let more = unplaced-set old node step new.within new.unplaced in
        let longer = length-append before (node ∷ []) in
        omega arith
        );
  }

  pub Grown-trans : (a b c : List (Option SearchStep)) (first second third : List ℕ) → Grown links depth a b first second → Grown links depth b c second third → Grown links depth a c first third
  Grown-trans a b c first second third h k = record {
    size = k.size ∙ h.size;
    keeps = λ n s e. k.keeps n s (h.keeps n s e);
    fresh = λ n s e.
        elim (k.fresh n s e) [
          | inl m ↦
              elim (h.fresh n s m) [
                | inl o ↦ inl o
                | inr f ↦ inr (record { level = f.level; link = f.link; found = k.stays n f.found })
              ]
          | inr f ↦ inr f
        ];
    stays = λ n e. k.stays n (h.stays n e);
    origin = λ n e.
        elim (k.origin n e) [
          | inl m ↦
              elim (h.origin n m) [
                | inl o ↦ inl o
                | inr p ↦ inr (p.0, record { step = p.1.step; is = k.keeps n p.1.step p.1.is })
              ]
          | inr p ↦ inr (was_new n p.0, p.1)
        ];
    count = (let one = h.count in let two = k.count in omega arith);
  }
    where
      was_new : (n : ℕ) → IsNew b n → IsNew a n
      was_new n new = grind arith

pub Grown-weaker : (links more : ℕ → ℕ → Type 0) (depth : ℕ) (old new : List (Option SearchStep)) (before after : List ℕ) → ((a b : ℕ) → links a b → more a b) →
    Grown links depth old new before after → Grown more depth old new before after
Grown-weaker links more depth old new before after weaker h = grind arith

-- ---- the successors of one node, and of a level

pub visited_more : (from : ℕ) (targets : List ℕ) (i depth target : ℕ) (old now new : List (Option SearchStep)) (before listed after : List ℕ) → i < length targets → target ≡ get_or targets i 0 →
    HasVisited from targets i depth old now before listed →
    Grown (LeadsTo from target) depth now new listed after → (target < length now → IsPlaced new target) → HasVisited from targets (i + 1) depth old new before after
visited_more from targets i depth target old now new before listed after l is so_far one placed =
    let here : Contains targets target = (i, l, get_or_default targets i target 0 l ∙ sym is) in
    let more : Grown (LeadsFrom from targets) depth now new listed after =
    Grown-weaker (LeadsTo from target) (LeadsFrom from targets) depth now new listed after
    (λ a b h. (h.0, subst (λ (m : ℕ). Contains targets m) (sym h.1) here)) one in
    record {
      grown = Grown-trans (LeadsFrom from targets) depth old now new before listed after so_far.grown more;
      all = λ k m inside.
          elim (cases_eq k i) [
            | inl same ↦
                let at : target ≡ get_or targets k 0 = is ∙ ap (λ n. get_or targets n 0) (sym same) in
                subst (λ (n : ℕ). IsPlaced new n) at (placed (let s = so_far.grown.size in omega arith))
            | inr other ↦
                let p = so_far.all k (omega arith) inside in
                record { step = p.step; is = one.keeps (get_or targets k 0) p.step p.is }
          ];
    }

pub level_more : (graph : List (List ℕ)) (level : List ℕ) (i depth node : ℕ) (targets : List ℕ) (old now new : List (Option SearchStep)) (listed after : List ℕ) → i < length level → node ≡ get_or level i 0 →
    targets ≡ successors graph node →
    IsNextLevel graph level i depth old now listed →
    HasVisited node targets (length targets) depth now new listed after → IsNextLevel graph level (i + 1) depth old new after
level_more graph level i depth node targets old now new listed after l is are so_far one =
    let here : Contains level node = (i, l, get_or_default level i node 0 l ∙ sym is) in
    let more : Grown (LeadsFromLevel graph level) depth now new listed after =
    Grown-weaker (LeadsFrom node targets) (LeadsFromLevel graph level) depth now new listed after
    (λ a b h. (
      subst (λ (m : ℕ). Contains level m) (sym h.0) here,
      subst (λ (m : ℕ). Contains (successors graph m) b) (sym h.0) (subst (λ (ts : List ℕ). Contains ts b) are h.1),
    )) one.grown in
    record {
      grown = Grown-trans (LeadsFromLevel graph level) depth old now new [] listed after so_far.grown more;
      all = λ k b m c inside.
          elim (cases_eq k i) [
            | inl same ↦
                let at : get_or level k 0 ≡ node = ap (λ n. get_or level n 0) same ∙ sym is in
                let among : Contains targets b = subst (λ (ts : List ℕ). Contains ts b) (sym are) (subst (λ (n : ℕ). Contains (successors graph n) b) at c) in
                let read : get_or targets among.0 0 ≡ b = get_or_default targets among.0 0 b among.1 ∙ among.2 in
                subst (λ (n : ℕ). IsPlaced new n) read
                (one.all among.0 among.1 (let s = so_far.grown.size in omega arith))
            | inr other ↦
                let p = so_far.all k b (omega arith) c inside in
                record { step = p.step; is = more.keeps b p.step p.is }
          ];
    }

-- ---- from level to level

abbrev pub root_step : ℕ → SearchStep
root_step root = record { from = root; depth = 0 }

abbrev pub only_root : List (List ℕ) → ℕ → List (Option SearchStep)
only_root graph root = set (replicate (length graph) None) root (Some (root_step root))

module _ (graph : List (List ℕ)) (root : ℕ) (inside : root < length graph) where
  root_within : root < length (replicate {A = Option SearchStep} (length graph) None)
  root_within = let l = length-replicate {A = Option SearchStep} (length graph) None in omega arith

  root_unplaced : step_at (replicate (length graph) None) root ≡ None
  root_unplaced = get_or-replicate (length graph) root None None inside

  at_root : step_at (only_root graph root) root ≡ Some (root_step root)
  at_root = get_or-set_same (replicate (length graph) None) root (Some (root_step root)) None root_within

  root_alone : (n : ℕ) (s : SearchStep) → step_at (only_root graph root) n ≡ Some s → (n ≡ root) × (s ≡ root_step root)
  root_alone n s h = grind (arith, cases_eq, same_step, at_root, get_or-set_other, step_within, length-replicate, not_both, get_or-replicate)

  in_single : (n : ℕ) → Contains (root ∷ []) n → root ≡ n
  in_single n h = grind arith

  pub searching_first : IsSearching graph root 0 (root ∷ []) (only_root graph root)
  searching_first = record {
    size = length-set (replicate (length graph) None) root (Some (root_step root)) ∙ length-replicate (length graph) None;
    rooted = record { step = root_step root; is = at_root; most = omega arith };
    came = λ n s h. let is = root_alone n s h in inl (ap (λ (t : SearchStep). t.depth) is.1, is.0);
    shallow = λ n s h. (let is = root_alone n s h in let deep = ap (λ (t : SearchStep). t.depth) is.1 in omega arith);
    closed = λ a b s h l. absurd (omega arith);
    frontier = λ n s h d. (0, omega arith, sym (root_alone n s h).0);
    at = λ n c. (root_step root, ap (step_at (only_root graph root)) (sym (in_single n c)) ∙ at_root, refl);
    count = (
        let more = unplaced-set (replicate (length graph) None) root (root_step root) root_within root_unplaced in
        let all = unplaced-none (length graph) in
        omega arith
        );
  }

pub searching_first_at : (graph : List (List ℕ)) (root : ℕ) (steps : List (Option SearchStep)) (level : List ℕ) → root < length graph → steps ≡ only_root graph root → level ≡ root ∷ [] → IsSearching graph root 0 level steps
searching_first_at graph root steps level inside e f = rw (e, f) (searching_first graph root inside)

module _ (graph : List (List ℕ)) (root depth : ℕ) (level : List ℕ) (steps new : List (Option SearchStep)) (next : List ℕ)
    (h : IsSearching graph root depth level steps) (n : IsNextLevel graph level (length level) (depth + 1) steps new next) where
  came_kept : (node : ℕ) (step : SearchStep) → Came graph root steps node step → Came graph root new node step
  came_kept node step c =
      elim c [
        | inl z ↦ inl z
        | inr b ↦ inr (record { before = b.before; is = n.grown.keeps step.from b.before b.is; deeper = b.deeper; edge = b.edge })
      ]

  came_new : (node : ℕ) (step : SearchStep) → step_at new node ≡ Some step → IsFresh (LeadsFromLevel graph level) (depth + 1) next node step → CameBy graph new node step
  came_new node step e f =
      let at = h.at step.from f.link.0 in
      let place : step_at steps step.from ≡ Some at.0 = at.1 in
      let from_within = step_within steps step.from at.0 place in
      let node_within = step_within new node step e in
      let size = h.size in
      let same_size = n.grown.size in
      let deep = at.2 in
      let new_deep = f.level in
      record {
        before = at.0;
        is = n.grown.keeps step.from at.0 place;
        deeper = omega arith;
        edge = record { source = omega arith; target = omega arith; listed = f.link.1 };
      }

  came_on : (node : ℕ) (step : SearchStep) → step_at new node ≡ Some step → Came graph root new node step
  came_on node step e =
      elim (n.grown.fresh node step e) [
        | inl o ↦ came_kept node step (h.came node step o)
        | inr f ↦ inr (came_new node step e f)
      ]

  shallow_on : (node : ℕ) (step : SearchStep) → step_at new node ≡ Some step → step.depth ≤ depth + 1
  shallow_on node step e = grind arith

  reached_next : (a b : ℕ) → Contains level a → Edge graph a b → IsPlaced new b
  reached_next a b c edge =
      let read : get_or level c.0 0 ≡ a = get_or_default level c.0 0 a c.1 ∙ c.2 in
      let target = edge.target in
      let size = h.size in
      n.all c.0 b c.1 (subst (λ (m : ℕ). Contains (successors graph m) b) (sym read) edge.listed) (omega arith)

  closed_on : (a b : ℕ) (step : SearchStep) → step_at new a ≡ Some step → step.depth < depth + 1 → Edge graph a b → IsWithin new b (step.depth + 1)
  closed_on a b step e l edge =
      elim (n.grown.fresh a step e) [
        | inl o ↦
            elim (cases_lt step.depth depth) [
              | inl lt ↦
                  let w = h.closed a b step o lt edge in
                  record { step = w.step; is = n.grown.keeps b w.step w.is; most = w.most }
              | inr ge ↦
                  let most = h.shallow a step o in
                  let p = reached_next a b (h.frontier a step o (omega arith)) edge in
                  let deep = shallow_on b p.step p.is in
                  record { step = p.step; is = p.is; most = omega arith }
            ]
        | inr f ↦ (let deep = f.level in absurd (omega arith))
      ]

  nothing_in : (node : ℕ) → Contains [] node → ⊥
  nothing_in node c = omega (arith, c.1)

  new_at : (node : ℕ) → Contains next node → (step : SearchStep) × (step_at new node ≡ Some step) × (step.depth ≡ depth + 1)
  new_at node c =
      elim (n.grown.origin node c) [
        | inl none ↦ absurd (nothing_in node none)
        | inr p ↦
            elim (n.grown.fresh node p.1.step p.1.is) [
              | inl o ↦ absurd (not_both (step_at steps node) p.1.step p.0.unplaced o)
              | inr f ↦ (p.1.step, p.1.is, f.level)
            ]
      ]

  pub searching_more : 0 < length next → IsSearching graph root (depth + 1) next new
  searching_more some = record {
    size = n.grown.size ∙ h.size;
    rooted = record { step = h.rooted.step; is = n.grown.keeps root h.rooted.step h.rooted.is; most = h.rooted.most };
    came = came_on;
    shallow = shallow_on;
    closed = closed_on;
    frontier = λ node step e d.
        elim (n.grown.fresh node step e) [
          | inl o ↦ (let l = h.shallow node step o in absurd (omega arith))
          | inr f ↦ f.found
        ];
    at = new_at;
    count = (let count = h.count in let more = n.grown.count in omega arith);
  }

  -- nothing is new, and all that was found is closed
  pub searched_all : (limit : ℕ) → depth < limit → length next ≡ 0 → IsSearch graph root limit new
  searched_all limit l empty = record {
    size = n.grown.size ∙ h.size;
    rooted = record { step = h.rooted.step; is = n.grown.keeps root h.rooted.step h.rooted.is; most = h.rooted.most };
    came = came_on;
    shallow = λ node step e. (let most = h.shallow node step (old node step e) in let count = h.count in omega arith);
    most = λ node step e. (let most = h.shallow node step (old node step e) in omega arith);
    closed = λ a b step e m edge. closed_on a b step e (let most = h.shallow a step (old a step e) in omega arith) edge;
  }
    where
      old : (node : ℕ) (step : SearchStep) → step_at new node ≡ Some step → step_at steps node ≡ Some step
      old node step e = grind arith

-- the nodes of a level are nodes of the graph
pub level_within : (graph : List (List ℕ)) (root depth : ℕ) (level : List ℕ) (steps : List (Option SearchStep)) → IsSearching graph root depth level steps → All (λ node. node < length graph) level
level_within graph root depth level steps h = λ k d l.
    let here : Contains level (get_or level k d) = (k, l, get_or_default level k (get_or level k d) d l) in
    let at = h.at (get_or level k d) here in
    let within = step_within steps (get_or level k d) at.0 at.1 in
    let size = h.size in
    omega arith

-- each step but a first one has one before it
pub search_is_rooted : (graph : List (List ℕ)) (root limit : ℕ) (steps : List (Option SearchStep)) → IsSearch graph root limit steps → IsRooted steps
search_is_rooted graph root limit steps h = λ node step e deep.
    elim (h.came node step e) [
      | inl z ↦ (let first = z.0 in absurd (omega arith))
      | inr c ↦ record { before = c.before; is = c.is; deeper = c.deeper }
    ]
