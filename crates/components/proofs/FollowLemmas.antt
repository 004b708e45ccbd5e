-- An edge that is taken off the waiting ones, and an edge back to the path.
use Rattle.std.proofs.Common.{◌≡◌, ◌⊎◌, inl, inr, ℕ, ◌+◌, ◌-◌, ◌<◌, ◌≤◌, List, [], ◌∷◌, ◌++◌, length, get_or, refl, ap, sym, ◌∙◌, subst, arith}
use Rattle.std.specs.List.{All, AllPairs, Contains}
use Rattle.std.proofs.lemmas.Bool.{cases_eq, cases_lt}
use Rattle.std.proofs.lemmas.List.{length-append, length_push, get_or_append_left, get_or-append_right, get_or_push}
use Rattle.std.proofs.lemmas.List.Elements.{All-push, All-append, All-weaker}
use Rattle.components.specs.declared.search.Mark.TheVariants.{Open, Closed}
use Rattle.components.specs.declared.search.Group.{Group}
use Rattle.components.specs.Graphs.{successors}
use Rattle.components.specs.Search.{State, mark_of, IsNoEarlier, WaitsNoEarlier, StandsNoEarlier, Begins, Leads, IsFollowed, closed, on_path, waits, IsSound, Searching, LeavesTop, Following, IsMerged, steps_left}
use Rattle.components.proofs.ListLemmas.{marked_within, All-left, AllPairs-left, AllPairs-last}
use Rattle.components.proofs.WalkLemmas.{Leads-edge, Leads-trans}

module _ (graph : List (List ℕ)) (s : State) where
  path_within : IsSound graph s → (place : ℕ) → place < length s.path → get_or s.path place 0 < length graph
  path_within sound place l = grind (arith, marked_within)

  -- every node of the path leads to a node that an edge of the last group leads to
  pub path_leads : (target : ℕ) → IsSound graph s → LeavesTop graph s target → target < length graph → (p : ℕ) → p < length s.path → Leads graph (get_or s.path p 0) target
  path_leads target sound edge node p l = grind (arith, path_within sound edge.place, Leads-trans graph (get_or s.path p 0) (get_or s.path edge.place 0) target, cases_lt edge.place p, All-weaker, Leads-edge graph (get_or s.path edge.place 0) target)

  -- the last waiting edge leaves the last group, where that has its edges from before it on
  pub taken : (rest : List ℕ) (groups : List Group) (group : Group) (target : ℕ) → Searching graph s → s.waiting ≡ rest ++ target ∷ [] → s.groups ≡ groups ++ group ∷ [] → group.edges ≤ length rest →
      Following graph (record s { waiting = rest }) target
  taken rest groups group target searching waiting last from =
      let sound = searching.sound in
      let len : length s.waiting ≡ length rest + 1 = ap (λ (xs : List ℕ). length xs) waiting ∙ length_push rest target in
      let pairs : AllPairs Begins (groups ++ group ∷ []) = rw last at sound.rising in
      let edges : All (λ g. g.edges ≤ length rest) s.groups =
      rw last (All-push (λ g. g.edges ≤ length rest) groups group
      (All-weaker (λ g. Begins g group) (λ g. g.edges ≤ length rest) (λ g h. (let e = h.1 in omega arith)) groups (AllPairs-last Begins groups group pairs)) from) in
      let at : (i : ℕ) → i < length rest → get_or s.waiting i 0 ≡ get_or rest i 0 =
      λ i l. ap (λ (xs : List ℕ). get_or xs i 0) waiting ∙ get_or_append_left rest (target ∷ []) 0 i l in
      let at_last : get_or s.waiting (length rest) 0 ≡ target =
      ap (λ (xs : List ℕ). get_or xs (length rest) 0) waiting ∙ get_or_push rest target 0 (length rest) refl in
      let edge = sound.leaves (length rest) (omega arith) in
      record {
        sound = record {
          size = sound.size;
          room = sound.room;
          closed_below = sound.closed_below;
          closed_used = sound.closed_used;
          closed_edges = sound.closed_edges;
          closed_leads = sound.closed_leads;
          places = sound.places;
          open_within = sound.open_within;
          open_is = sound.open_is;
          forward = sound.forward;
          backward = sound.backward;
          group_nodes = sound.group_nodes;
          group_edges = edges;
          rising = sound.rising;
          bottom = sound.bottom;
          leaves = λ i l.
              let old = sound.leaves i (omega arith) in
              record {
                place = old.place;
                on_path = old.on_path;
                listed = subst (λ (x : ℕ). Contains (successors graph (get_or s.path old.place 0)) x) (at i l) old.listed;
                after = old.after;
                before = old.before;
              };
        };
        follows = λ place b l leaving. elim (searching.follows place b l leaving) [
          | closed component h ↦ inl (closed component h)
          | on_path later h all ↦ inl (on_path later h all)
          | waits i within is all ↦
              elim (cases_lt i (length rest)) [
                | inl before ↦ inl (waits i before (sym (at i before) ∙ is) all)
                | inr past ↦
                    let e : i ≡ length rest = omega arith in
                    inr (sym is ∙ ap (λ n. get_or s.waiting n 0) e ∙ at_last)
              ]
        ];
        edge = record {
          place = edge.place;
          on_path = edge.on_path;
          listed = subst (λ (x : ℕ). Contains (successors graph (get_or s.path edge.place 0)) x) at_last edge.listed;
          top = λ k d l. edge.after k d l (edges k d l);
        };
      }

  -- an edge to a closed node, or to a number that is no node's, is followed
  pub passed : (target : ℕ) → Following graph s target → ((component : ℕ) × (mark_of s.marks target ≡ Closed component)) ⊎ (length graph ≤ target) → Searching graph s
  passed target following done = record {
    sound = following.sound;
    follows = λ place b l edge.
        elim (following.follows place b l edge) [
          | inl is ↦ is
          | inr e ↦
              elim done [
                | inl c ↦ closed c.0 (rw e c.1)
                | inr past ↦ (let node = edge.target in absurd (omega arith))
              ]
        ];
  }

  module _ (target place : ℕ) (new : List Group) (following : Following graph s target) (is_open : mark_of s.marks target ≡ Open place) (merged : IsMerged s.groups new place) where
    kept : (P : Group → Type 0) → All P s.groups → All P new
    kept P all = All-left P new merged.cut.gone (rw merged.cut.is at all)

    joined : (P : Group → Type 0) → All P new → All P merged.cut.gone → All P s.groups
    joined P one two = rw merged.cut.is (All-append P new merged.cut.gone one two)

    pairs : AllPairs Begins new
    pairs = AllPairs-left Begins new merged.cut.gone (rw merged.cut.is at following.sound.rising)

    low : All (λ g. g.nodes ≤ place) new
    low k d l = grind (arith, cases_eq (k + 1) (length new), pairs k (length new - 1) d)

    backwards : (p r : ℕ) → p ≤ r → r < length s.path → All (IsNoEarlier r p) new → Leads graph (get_or s.path r 0) (get_or s.path p 0)
    backwards p r le l all =
        let sound = following.sound in
        let within = sound.open_within target place is_open in
        elim (cases_lt r place) [
          | inl before ↦
              sound.backward p r le l (joined (IsNoEarlier r p) all
              (All-weaker (λ g. place < g.nodes) (IsNoEarlier r p) (λ g past h. absurd (omega arith)) merged.cut.gone merged.cut.past))
          | inr after ↦
              let size = sound.size in
              let node = marked_within s.marks target (Open place) is_open (λ e. cc) in
              Leads-trans graph (get_or s.path r 0) target (get_or s.path p 0)
              (path_leads target sound following.edge (omega arith) r l)
              (subst (λ (x : ℕ). Leads graph x (get_or s.path p 0)) (sound.open_is target place is_open)
              (elim (cases_lt p place) [
                | inl before ↦
                    sound.backward p place (omega arith) within (joined (IsNoEarlier place p)
                    (λ k d kl begun. (let below = low k d kl in all k d kl (omega arith)))
                    (All-weaker (λ g. place < g.nodes) (IsNoEarlier place p) (λ g past h. absurd (omega arith)) merged.cut.gone merged.cut.past))
                | inr past ↦ sound.forward place p past (omega arith)
              ]))
        ]

    bottoms : (d : Group) → 0 < length s.path → (0 < length new) × ((get_or new 0 d).nodes ≡ 0)
    bottoms d l =
        let old = following.sound.bottom d l in
        let len : length s.groups ≡ length new + length merged.cut.gone = ap (λ (xs : List Group). length xs) merged.cut.is ∙ length-append new merged.cut.gone in
        let at : (get_or (new ++ merged.cut.gone) 0 d).nodes ≡ 0 = rw merged.cut.is at old.1 in
        grind (arith, cases_lt 0 (length new), get_or_append_left new merged.cut.gone d 0, get_or-append_right new merged.cut.gone 0 0 d)

    -- an edge to a node of the path is followed, once the groups from its own on are merged
    pub merged_searching : Searching graph (record s { groups = new })
    merged_searching =
        let sound = following.sound in
        record {
          sound = record {
            size = sound.size;
            room = sound.room;
            closed_below = sound.closed_below;
            closed_used = sound.closed_used;
            closed_edges = sound.closed_edges;
            closed_leads = sound.closed_leads;
            places = sound.places;
            open_within = sound.open_within;
            open_is = sound.open_is;
            forward = sound.forward;
            backward = backwards;
            group_nodes = kept (λ g. g.nodes < length s.path) sound.group_nodes;
            group_edges = kept (λ g. g.edges ≤ length s.waiting) sound.group_edges;
            rising = pairs;
            bottom = bottoms;
            leaves = λ i l.
                let old = sound.leaves i l in
                record {
                  place = old.place;
                  on_path = old.on_path;
                  listed = old.listed;
                  after = kept (StandsNoEarlier i old.place) old.after;
                  before = kept (WaitsNoEarlier old.place i) old.before;
                };
          };
          follows = λ p b l edge. elim (following.follows p b l edge) [
            | inl done ↦ still p b done
            | inr e ↦
                on_path place (rw e is_open)
                (All-weaker (λ g. g.nodes ≤ place) (IsNoEarlier p place) (λ g h k. h) new low)
          ];
        }
      where
        still : (p b : ℕ) → IsFollowed s p b → IsFollowed (record s { groups = new }) p b
        still p b (closed component h) = closed component h
        still p b (on_path later h all) = on_path later h (kept (IsNoEarlier p later) all)
        still p b (waits i within is all) = waits i within is (kept (WaitsNoEarlier p i) all)

    pub merged_left : steps_left graph (record s { groups = new }) ≤ steps_left graph s
    merged_left =
        let len : length s.groups ≡ length new + length merged.cut.gone = ap (λ (xs : List Group). length xs) merged.cut.is ∙ length-append new merged.cut.gone in
        omega arith
