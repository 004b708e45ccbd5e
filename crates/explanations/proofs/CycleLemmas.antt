-- The way by which a search came to a node, and the cycles through its root.
use Rattle.std.proofs.Common.{◌≡◌, ◌⊎◌, inl, inr, ℕ, zero, suc, ◌+◌, ◌-◌, ◌<◌, ◌≤◌, List, [], ◌∷◌, length, get_or, drop, ap, sym, ◌∙◌, subst, arith, Option, Some, None}
use Rattle.std.specs.List.{All, Contains}
use Rattle.std.proofs.lemmas.Bool.{cases_eq, cases_lt}
use Rattle.std.proofs.lemmas.List.{get_or_default}
use Rattle.components.specs.Graphs.{Edge}
use Rattle.explanations.specs.declared.search.SearchStep.{SearchStep}
use Rattle.explanations.specs.Cycles.{IsTrail, last, IsCycle, IsWay, IsShortest, ReachesNone}
use Rattle.explanations.specs.Search.{step_at, depth_of, IsPlaced, IsWithin, IsSearch, IsWayBack, Closes, ClosesFirst, IsClosing, IsNearer, IsShortestThrough, IsTooLong, IsThrough, IsBestOf, IsBest, IsNearestOf}
use Rattle.explanations.proofs.SearchLemmas.{same_step, step_within}

-- ---- the node nearest to the root from which an edge leads back

-- the best so far is no deeper
abbrev pub IsNoDeeper : Option SearchStep → SearchStep → Type 0
IsNoDeeper None other = ⊥
IsNoDeeper (Some best) other = best.depth ≤ other.depth

pub closing_kept : (graph : List (List ℕ)) (root : ℕ) (steps : List (Option SearchStep)) (n : ℕ) (best : Option SearchStep) → IsClosing graph root steps n best →
    ((other : SearchStep) → Closes graph root steps n other → IsNoDeeper best other) → IsClosing graph root steps (n + 1) best
closing_kept graph root steps n None h k = λ node other l closes.
    elim (cases_eq node n) [
      | inl same ↦ k other (subst (λ (m : ℕ). Closes graph root steps m other) same closes)
      | inr apart ↦ h node other (omega arith) closes
    ]
closing_kept graph root steps n (Some best) h k = record {
  step = h.step;
  closes = h.closes;
  depth = h.depth;
  least = λ node other l closes.
      elim (cases_eq node n) [
        | inl same ↦ k other (subst (λ (m : ℕ). Closes graph root steps m other) same closes)
        | inr apart ↦ h.least node other (omega arith) closes
      ];
}

pub closing_found : (graph : List (List ℕ)) (root : ℕ) (steps : List (Option SearchStep)) (n : ℕ) (best : Option SearchStep) (step : SearchStep) → IsClosing graph root steps n best →
    Closes graph root steps n step → IsNearer best step.depth → IsClosing graph root steps (n + 1) (Some (record { from = n; depth = step.depth }))
closing_found graph root steps n best step h closes nearer = grind arith

pub not_nearer : (best : Option SearchStep) (step : SearchStep) → ¬ IsNearer best step.depth → IsNoDeeper best step
not_nearer best step n = grind arith

-- ---- the way back

module _ (graph : List (List ℕ)) (root limit : ℕ) (steps : List (Option SearchStep)) (h : IsSearch graph root limit steps)
    (node : ℕ) (step : SearchStep) (placed : step_at steps node ≡ Some step) (way : List ℕ) (w : IsWayBack steps node way) where
  -- the depth falls by one with each node
  pub depth_along : (k : ℕ) → k < length way → (s : SearchStep) × (step_at steps (get_or way k 0) ≡ Some s) × (s.depth + k ≡ step.depth)
  depth_along zero l = (step, ap (step_at steps) w.starts ∙ placed, omega arith)
  depth_along (suc k) l =
      let before = depth_along k (omega arith) in
      let is = before.1 in
      let deep = before.2 in
      let link = w.links k (omega arith) in
      let same : before.0 ≡ link.step = same_step before.0 link.step (sym is ∙ link.is) in
      let here : get_or way (suc k) 0 ≡ before.0.from = ap (λ n. get_or way n 0) (omega arith) ∙ sym link.source ∙ ap (λ (s : SearchStep). s.from) (sym same) in
      let deep_same = ap (λ (s : SearchStep). s.depth) same in
      let positive = link.deep in
      elim (h.came (get_or way k 0) before.0 is) [
        | inl z ↦ (let first = z.0 in absurd (omega arith))
        | inr c ↦ (let deeper = c.deeper in (c.before, ap (step_at steps) here ∙ c.is, omega arith))
      ]

  pub way_is_trail : IsTrail graph way
  way_is_trail k l =
      let at = depth_along k (omega arith) in
      let is = at.1 in
      let link = w.links k l in
      let same : at.0 ≡ link.step = same_step at.0 link.step (sym is ∙ link.is) in
      let from : at.0.from ≡ get_or way (k + 1) 0 = ap (λ (s : SearchStep). s.from) same ∙ link.source in
      let deep_same = ap (λ (s : SearchStep). s.depth) same in
      let positive = link.deep in
      elim (h.came (get_or way k 0) at.0 is) [
        | inl z ↦ (let first = z.0 in absurd (omega arith))
        | inr c ↦ subst (λ (n : ℕ). Edge graph n (get_or way k 0)) from c.edge
      ]

  last_along : (s : SearchStep) × (step_at steps (last way) ≡ Some s) × (s.depth + (length way - 1) ≡ step.depth)
  last_along = depth_along (length way - 1) (let some = w.some in omega arith)

  pub way_length : length way ≡ step.depth + 1
  way_length = grind (arith, last_along)

  pub way_ends : last way ≡ root
  way_ends =
      let end = last_along in
      let is = end.1 in
      let first = w.ends end.0 is in
      elim (h.came (last way) end.0 is) [
        | inl z ↦ z.1
        | inr c ↦ (let deeper = c.deeper in absurd (omega arith))
      ]

-- ---- cycles through the root

module _ (graph : List (List ℕ)) (root limit : ℕ) (steps : List (Option SearchStep)) (h : IsSearch graph root limit steps)
    (other : List ℕ) (cycle : IsCycle graph other) (through : last other ≡ root) where
  -- going along a cycle from the root, the search comes to each node in no more steps, or the cycle is too long for it
  along_cycle : (j : ℕ) → j < length other → IsWithin steps (get_or other (length other - 1 - j) 0) j ⊎ IsTooLong graph limit other
  along_cycle zero l = grind arith
  along_cycle (suc j) l =
      elim (along_cycle j (omega arith)) [
        | inr long ↦ inr long
        | inl w ↦
            let most = w.most in
            let shallow = h.shallow (get_or other (length other - 1 - j) 0) w.step w.is in
            elim (cases_lt w.step.depth limit) [
              | inr ge ↦ inr (record { longer = omega arith; limited = omega arith })
              | inl lt ↦
                  let place : length other - 1 - suc j + 1 ≡ length other - 1 - j = omega arith in
                  let edge = cycle.trail (length other - 1 - suc j) (omega arith) in
                  let from : Edge graph (get_or other (length other - 1 - j) 0) (get_or other (length other - 1 - suc j) 0) =
                  subst (λ (n : ℕ). Edge graph (get_or other n 0) (get_or other (length other - 1 - suc j) 0)) place edge in
                  let next = h.closed (get_or other (length other - 1 - j) 0) (get_or other (length other - 1 - suc j) 0) w.step w.is lt from in
                  let most_next = next.most in
                  inl (record { step = next.step; is = next.is; most = omega arith })
            ]
      ]

  pub closes_within : ((step : SearchStep) × Closes graph root steps (get_or other 0 0) step × (step.depth + 1 ≤ length other)) ⊎ IsTooLong graph limit other
  closes_within = grind (arith, along_cycle (length other - 1))

pub through_some : (graph : List (List ℕ)) (root limit : ℕ) (steps : List (Option SearchStep)) (best : SearchStep) (way : List ℕ) → root < length graph → IsSearch graph root limit steps →
    ClosesFirst graph root steps (length graph) best → IsWayBack steps best.from way → IsShortestThrough graph root limit way
through_some graph root limit steps best way inside h first w =
    let closes = first.closes in
    let deep = first.depth in
    let long = way_length graph root limit steps h best.from first.step closes.is way w in
    let ends = way_ends graph root limit steps h best.from first.step closes.is way w in
    let most = h.most best.from first.step closes.is in
    let within = step_within steps best.from first.step closes.is in
    let size = h.size in
    let edge : Edge graph best.from root = record { source = omega arith; target = inside; listed = closes.edge } in
    record {
      cycle = record {
        some = w.some;
        trail = way_is_trail graph root limit steps h best.from first.step closes.is way w;
        closes = subst (λ (n : ℕ). Edge graph (get_or way 0 0) n) (sym ends) (subst (λ (n : ℕ). Edge graph n root) (sym w.starts) edge);
      };
      ends = ends;
      most = omega arith;
      least = λ other cycle through.
          elim (closes_within graph root limit steps h other cycle through) [
            | inr too ↦ (let longer = too.longer in omega arith)
            | inl c ↦
                let least = first.least (get_or other 0 0) c.0 cycle.closes.source c.1 in
                let most_other = c.2 in
                omega arith
          ];
    }

pub through_none : (graph : List (List ℕ)) (root limit : ℕ) (steps : List (Option SearchStep)) → IsSearch graph root limit steps →
    IsClosing graph root steps (length graph) None → IsThrough graph root limit None
through_none graph root limit steps h none = λ other cycle through.
    elim (closes_within graph root limit steps h other cycle through) [
      | inr too ↦ too
      | inl c ↦ absurd (none (get_or other 0 0) c.0 cycle.closes.source c.1)
    ]

-- ---- the best of the cycles through all roots

-- ---- what the goal reaches

module _ (graph : List (List ℕ)) (goal : ℕ) (reached : List (Option SearchStep)) (h : IsSearch graph goal (length graph) reached) where
  placed_on : (a b : ℕ) → Edge graph a b → IsPlaced reached a → IsPlaced reached b
  placed_on a b edge p =
      let shallow = h.shallow a p.step p.is in
      let w = h.closed a b p.step p.is (omega arith) edge in
      record { step = w.step; is = w.is }

  -- all nodes of a trail before one that is reached
  placed_before : (nodes : List ℕ) → IsTrail graph nodes → (i : ℕ) → i < length nodes → IsPlaced reached (get_or nodes i 0) → (j : ℕ) → j ≤ i → IsPlaced reached (get_or nodes j 0)
  placed_before nodes trail zero l p j m = subst (λ (n : ℕ). IsPlaced reached (get_or nodes n 0)) (omega arith) p
  placed_before nodes trail (suc i) l p j m = grind (arith, cases_eq j (suc i), placed_before nodes trail i, placed_on (get_or nodes (suc i) 0) (get_or nodes i 0))

  pub cycle_is_placed : (nodes : List ℕ) → IsCycle graph nodes → IsPlaced reached (last nodes) → All (IsPlaced reached) nodes
  cycle_is_placed nodes cycle p = λ k d l.
      let some = cycle.some in
      subst (λ (n : ℕ). IsPlaced reached n) (get_or_default nodes k 0 d l)
      (placed_before nodes cycle.trail (length nodes - 1) (omega arith) p k (omega arith))

  goal_is_placed : IsPlaced reached goal
  goal_is_placed = record { step = h.rooted.step; is = h.rooted.is }

  -- the last node of a cycle that the goal reaches
  led_to : (cycle way : List ℕ) → IsCycle graph cycle → IsWay graph cycle way goal → IsPlaced reached (last cycle)
  led_to cycle way is leads =
      let end : IsPlaced reached (last (leads.start ∷ way)) = subst (λ (n : ℕ). IsPlaced reached n) (sym leads.ends) goal_is_placed in
      let start = placed_before (leads.start ∷ way) leads.trail (length (leads.start ∷ way) - 1) (omega arith) end 0 (omega arith) in
      let on = leads.on in
      let within = on.1 in
      let read : get_or cycle on.0 0 ≡ leads.start = get_or_default cycle on.0 0 leads.start within ∙ on.2 in
      let first = placed_before cycle is.trail on.0 within (subst (λ (n : ℕ). IsPlaced reached n) (sym read) start) 0 (omega arith) in
      placed_on (get_or cycle 0 0) (last cycle) is.closes first

  -- the nodes of a way are reached by no more edges than lead from it to the goal
  along_way : (nodes : List ℕ) → IsTrail graph nodes → last nodes ≡ goal → (j : ℕ) → j < length nodes → IsWithin reached (get_or nodes (length nodes - 1 - j) 0) j
  along_way nodes trail ends zero l = subst (λ (n : ℕ). IsWithin reached n 0) (sym ends ∙ ap (λ k. get_or nodes k 0) (omega arith)) h.rooted
  along_way nodes trail ends (suc j) l =
      let w = along_way nodes trail ends j (omega arith) in
      let most = w.most in
      let place : length nodes - 1 - suc j + 1 ≡ length nodes - 1 - j = omega arith in
      let edge : Edge graph (get_or nodes (length nodes - 1 - j) 0) (get_or nodes (length nodes - 1 - suc j) 0) =
      subst (λ (n : ℕ). Edge graph (get_or nodes n 0) (get_or nodes (length nodes - 1 - suc j) 0)) place (trail (length nodes - 1 - suc j) (omega arith)) in
      let shallow = h.shallow (get_or nodes (length nodes - 1 - j) 0) w.step w.is in
      let next = h.closed (get_or nodes (length nodes - 1 - j) 0) (get_or nodes (length nodes - 1 - suc j) 0) w.step w.is shallow edge in
      let most_next = next.most in
      record { step = next.step; is = next.is; most = omega arith }

  start_within : (cycle way : List ℕ) (leads : IsWay graph cycle way goal) → IsWithin reached leads.start (length way)
  start_within cycle way leads =
      let first = along_way (leads.start ∷ way) leads.trail leads.ends (length way) (omega arith) in
      let place : length (leads.start ∷ way) - 1 - length way ≡ 0 = omega arith in
      subst (λ (k : ℕ). IsWithin reached (get_or (leads.start ∷ way) k 0) (length way)) place first

  pub reaches_none : IsBest graph reached (length graph) None → ReachesNone graph goal
  reaches_none none = λ cycle way is leads. none cycle is is.closes.target (led_to cycle way is leads)

  pub is_shortest : (cycle whole way : List ℕ) (start : ℕ) → IsBestOf graph reached (length graph) cycle → IsNearestOf reached cycle (length cycle) start → IsWayBack reached start whole →
      whole ≡ start ∷ way → IsShortest graph goal (record { cycle = cycle; way = way })
  is_shortest cycle whole way start best nearest back split =
      let among = nearest.among in
      let at = All_at cycle start among (cycle_is_placed cycle best.cycle best.placed) in
      let trail = way_is_trail graph goal (length graph) reached h start at.step at.is whole back in
      let ends = way_ends graph goal (length graph) reached h start at.step at.is whole back in
      record {
        cycle = best.cycle;
        way = record {
          start = start;
          on = among;
          trail = subst (λ (nodes : List ℕ). IsTrail graph nodes) split trail;
          ends = subst (λ (nodes : List ℕ). last nodes ≡ goal) split ends;
        };
        off = λ k d l on.
            let size = ap length split in
            let along = depth_along graph goal (length graph) reached h start at.step at.is whole back (suc k) (omega arith) in
            let here : get_or whole (suc k) 0 ≡ get_or way k d = ap (λ (nodes : List ℕ). get_or nodes (suc k) 0) split ∙ get_or_default way k 0 d l in
            let same : get_or cycle on.0 0 ≡ get_or whole (suc k) 0 = get_or_default cycle on.0 0 (get_or way k d) on.1 ∙ on.2 ∙ sym here in
            let least = nearest.least on.0 along.0 on.1 (ap (step_at reached) same ∙ along.1) in
            let own : depth_of (step_at reached start) ≡ at.step.depth = ap depth_of at.is in
            let deep = along.2 in
            omega arith;
        once = λ i j l m e.
            let size = ap length split in
            let first = depth_along graph goal (length graph) reached h start at.step at.is whole back (suc i) (omega arith) in
            let second = depth_along graph goal (length graph) reached h start at.step at.is whole back (suc j) (omega arith) in
            let same : get_or whole (suc i) 0 ≡ get_or whole (suc j) 0 = in_whole split i ∙ e ∙ sym (in_whole split j) in
            let step : first.0 ≡ second.0 = same_step first.0 second.0 (sym first.1 ∙ ap (step_at reached) same ∙ second.1) in
            let level = ap (λ (s : SearchStep). s.depth) step in
            let deep = first.2 in
            let deeper = second.2 in
            omega arith;
        shortest = λ other leads.
            let size = ap length split in
            let long = way_length graph goal (length graph) reached h start at.step at.is whole back in
            let within = start_within cycle other leads in
            let on = leads.on in
            let most = within.most in
            let same : get_or cycle on.0 0 ≡ leads.start = get_or_default cycle on.0 0 leads.start on.1 ∙ on.2 in
            let least = nearest.least on.0 within.step on.1 (ap (step_at reached) same ∙ within.is) in
            let own : depth_of (step_at reached start) ≡ at.step.depth = ap depth_of at.is in
            omega arith;
        fewest = λ other also is leads. best.least other is is.closes.target (led_to other also is leads);
      }
    where
      in_whole : whole ≡ start ∷ way → (k : ℕ) → get_or whole (suc k) 0 ≡ get_or way k 0
      in_whole split k = ap (λ (nodes : List ℕ). get_or nodes (suc k) 0) split

      All_at : (nodes : List ℕ) (node : ℕ) → Contains nodes node → All (IsPlaced reached) nodes → IsPlaced reached node
      All_at nodes node c all = subst (λ (n : ℕ). IsPlaced reached n) c.2 (all c.0 node c.1)

pub split_first : (nodes : List ℕ) (first : ℕ) → 0 < length nodes → get_or nodes 0 0 ≡ first → nodes ≡ first ∷ drop 1 nodes
split_first [] first l e = absurd (omega arith)
split_first (node ∷ nodes) first l e = ap (λ n. n ∷ nodes) e
