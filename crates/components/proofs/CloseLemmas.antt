-- The last group, all of whose edges are followed, is closed as a component.
use Rattle.std.proofs.Common.{◌≡◌, ◌⊎◌, inl, inr, ℕ, ◌+◌, ◌-◌, ◌<◌, ◌≤◌, List, [], ◌∷◌, ◌++◌, length, get_or, take, drop, sym, ◌∙◌, subst, arith, Some}
use Rattle.std.specs.Prelude.{slice_get}
use Rattle.std.specs.List.{All, AllPairs, Contains}
use Rattle.std.proofs.lemmas.Bool.{cases_lt}
use Rattle.std.proofs.lemmas.List.{length_push, length-take-le, length-drop, get_or-take, get_or-drop, get_or_append_left, get_or_push, get_or_default}
use Rattle.std.proofs.lemmas.List.Elements.{All-push, All-weaker}
use Rattle.components.specs.declared.search.Mark.{Mark}
use Rattle.components.specs.declared.search.Mark.TheVariants.{Open, Closed}
use Rattle.components.specs.declared.search.Group.{Group}
use Rattle.components.specs.Graphs.{Edge}
use Rattle.components.specs.Search.{State, mark_of, IsNoEarlier, WaitsNoEarlier, StandsNoEarlier, Begins, Leads, IsClosedBy, Leaves, IsFollowed, closed, on_path, waits, Searching, IsMarked, StaysSeen, steps_left}
use Rattle.components.proofs.ListLemmas.{split_last, new_cost-le, All-left, All-last, AllPairs-left, AllPairs-last}

module _ (graph : List (List ℕ)) (s : State) (group : Group) (marks : List Mark) (searching : Searching graph s) (is_last : slice_get s.groups (length s.groups - 1) ≡ Some group) (done : length s.waiting ≤ group.edges) (marked : IsMarked s.marks marks (drop group.nodes s.path) s.count) where
  abbrev rest : List Group
  rest = take (length s.groups - 1) s.groups

  abbrev after : State
  after = record { marks = marks; path = take group.nodes s.path; waiting = s.waiting; groups = rest; count = s.count + 1 }

  last : s.groups ≡ rest ++ group ∷ []
  last = split_last s.groups group is_last

  begins : group.nodes < length s.path
  begins = All-last (λ g. g.nodes < length s.path) rest group (rw (← last) searching.sound.group_nodes)

  front : length (take group.nodes s.path) ≡ group.nodes
  front = (let within = begins in length-take-le group.nodes s.path (omega arith))

  pairs : AllPairs Begins (rest ++ group ∷ [])
  pairs = rw (← last) searching.sound.rising

  -- a fact of the groups before the last and of the last, and the other way round
  joined : (P : Group → Type 0) → All P rest → P group → All P s.groups
  joined P all one = subst (λ (gs : List Group). All P gs) (sym last) (All-push P rest group all one)

  kept : (P : Group → Type 0) → All P s.groups → All P rest
  kept P all = All-left P rest (group ∷ []) (subst (λ (gs : List Group). All P gs) last all)

  at_last : (P : Group → Type 0) → All P s.groups → P group
  at_last P all = All-last P rest group (subst (λ (gs : List Group). All P gs) last all)

  -- a node that is closed now: its place on the path
  record IsOfGroup (a : ℕ) : Type 0 where
    place : ℕ
    from : group.nodes ≤ place
    within : place < length s.path
    is : get_or s.path place 0 ≡ a

  of_group : (a : ℕ) → Contains (drop group.nodes s.path) a → IsOfGroup a
  of_group a c = grind (arith, length-drop, get_or-drop, get_or_default)

  open_of_group : (a : ℕ) (m : IsOfGroup a) → mark_of s.marks a ≡ Open m.place
  open_of_group a m = subst (λ (x : ℕ). mark_of s.marks x ≡ Open m.place) m.is (searching.sound.places m.place m.within)

  closed_now : (place : ℕ) → group.nodes ≤ place → place < length s.path → mark_of marks (get_or s.path place 0) ≡ Closed s.count
  closed_now place from within = grind (arith, length-drop group.nodes s.path, get_or-drop group.nodes s.path (place - group.nodes) 0)

  closed_still : (a component : ℕ) → mark_of s.marks a ≡ Closed component → mark_of marks a ≡ Closed component
  closed_still a component h = grind (arith, open_of_group a, of_group a)

  closed_before : (a component : ℕ) → mark_of marks a ≡ Closed component → (mark_of s.marks a ≡ Closed component) ⊎ (IsOfGroup a × (component ≡ s.count))
  closed_before a component h = grind (arith, of_group)

  open_before : (a place : ℕ) → mark_of marks a ≡ Open place → (mark_of s.marks a ≡ Open place) × (place < group.nodes)
  open_before a place h = grind (arith, cases_lt place group.nodes, closed_now place)

  open_still : (place : ℕ) → place < group.nodes → (a : ℕ) → mark_of s.marks a ≡ Open place → mark_of marks a ≡ Open place
  open_still place before a h = grind (arith, of_group a, open_of_group a)

  old_at : (place : ℕ) → place < group.nodes → get_or (take group.nodes s.path) place 0 ≡ get_or s.path place 0
  old_at place l = get_or-take group.nodes s.path place 0 l

  -- within the group each node leads to each
  around : (a b : ℕ) → IsOfGroup a → IsOfGroup b → Leads graph a b
  around a b one two =
      let p = one.place in
      let q = two.place in
      let begun = two.from in
      let nodes : All (λ g. g.nodes ≤ group.nodes) s.groups =
      joined (λ g. g.nodes ≤ group.nodes) (All-weaker (λ g. Begins g group) (λ g. g.nodes ≤ group.nodes) (λ g h. (let lt = h.0 in omega arith)) rest (AllPairs-last Begins rest group pairs)) (omega arith) in
      subst (λ (x : ℕ). Leads graph x b) one.is
      (subst (λ (y : ℕ). Leads graph (get_or s.path one.place 0) y) two.is
      (elim (cases_lt two.place one.place) [
        | inr le ↦ searching.sound.forward one.place two.place le two.within
        | inl lt ↦
            searching.sound.backward two.place one.place (omega arith) one.within
            (All-weaker (λ g. g.nodes ≤ group.nodes) (IsNoEarlier one.place two.place) (λ g h k. omega arith) s.groups nodes)
      ]))

  edges : (a b component : ℕ) → mark_of marks a ≡ Closed component → Edge graph a b → IsClosedBy marks b component
  edges a b component h edge =
      elim (closed_before a component h) [
        | inl old ↦
            let by = searching.sound.closed_edges a b component old edge in
            record { number = by.number; is = closed_still b by.number by.is; below = by.below }
        | inr new ↦ followed new.0.place new.0.from new.0.within new.1 (searching.follows new.0.place b new.0.within (rw new.0.is edge))
      ]
    where
      followed : (place : ℕ) → group.nodes ≤ place → place < length s.path → component ≡ s.count → IsFollowed s place b → IsClosedBy marks b component
      followed place from within e (closed number is) = grind arith
      followed place from within e (on_path later is all) =
          let at = searching.sound.open_is b later is in
          record {
            number = s.count;
            is = subst (λ (x : ℕ). mark_of marks x ≡ Closed s.count) at
                (closed_now later (at_last (IsNoEarlier place later) all from) (searching.sound.open_within b later is));
            below = omega arith;
          }
      followed place from within e (waits i inside is all) = grind (arith, at_last)

  leads : (a b component : ℕ) → mark_of marks a ≡ Closed component → mark_of marks b ≡ Closed component → Leads graph a b
  leads a b component h k = grind (arith, closed_before, around)

  leaving : (i : ℕ) → i < length s.waiting → Leaves graph after i
  leaving i l =
      let old = searching.sound.leaves i l in
      grind (arith, front, cases_lt old.place group.nodes, at_last (WaitsNoEarlier old.place i) old.before, old_at old.place, kept (StandsNoEarlier i old.place) old.after, kept (WaitsNoEarlier old.place i) old.before)

  still : (place b : ℕ) → place < group.nodes → IsFollowed s place b → IsFollowed after place b
  still place b l (closed component is) = closed component (closed_still b component is)
  still place b l (waits i within is all) = waits i within is (kept (WaitsNoEarlier place i) all)
  still place b l (on_path later is all) =
      elim (cases_lt later group.nodes) [
        | inl before ↦ on_path later (open_still later before b is) (kept (IsNoEarlier place later) all)
        | inr past ↦
            closed s.count
            (subst (λ (x : ℕ). mark_of marks x ≡ Closed s.count) (searching.sound.open_is b later is)
            (closed_now later past (searching.sound.open_within b later is)))
      ]

  bottoms : (d : Group) → 0 < length (take group.nodes s.path) → (0 < length rest) × ((get_or rest 0 d).nodes ≡ 0)
  bottoms d l = grind (arith, front, begins, last, cases_lt, get_or_append_left, get_or_push)

  pub closed_seen : StaysSeen s after
  closed_seen a h = elim (marked.others a) [ inl same ↦ sym same ∙ h | inr c ↦ (let is = c.1 in cc) ]

  pub closed_searching : Searching graph after
  closed_searching =
      let sound = searching.sound in
      let len = front in
      let within = begins in
      record {
        sound = record {
          size = marked.size ∙ sound.size;
          room = (let room = sound.room in let fewer = new_cost-le (λ _. 1) graph s.marks marks marked.size closed_seen in omega arith);
          closed_below = λ a component h. elim (closed_before a component h) [
            | inl old ↦ (let below = sound.closed_below a component old in omega arith)
            | inr new ↦ (let e = new.1 in omega arith)
          ];
          closed_used = λ component l. elim (cases_lt component s.count) [
            | inl before ↦ (let used = sound.closed_used component before in record { node = used.node; is = closed_still used.node component used.is })
            | inr past ↦
                let e : s.count ≡ component = omega arith in
                record { node = get_or s.path group.nodes 0; is = rw (← e) (closed_now group.nodes (omega arith) begins) }
          ];
          closed_edges = edges;
          closed_leads = leads;
          places = λ place l. (let before : place < group.nodes = omega arith in rw (old_at place before) (open_still place before (get_or s.path place 0) (sound.places place (omega arith))));
          open_within = λ a place h. (let before = (open_before a place h).1 in omega arith);
          open_is = λ a place h. (let old = open_before a place h in old_at place old.1 ∙ sound.open_is a place old.0);
          forward = λ p q le l. rw (old_at p (omega arith), old_at q (omega arith)) (sound.forward p q le (omega arith));
          backward = λ p q le l all.
              rw (old_at p (omega arith), old_at q (omega arith))
              (sound.backward p q le (omega arith) (joined (IsNoEarlier q p) all (λ h. absurd (omega arith))));
          group_nodes = All-weaker (λ g. Begins g group) (λ g. g.nodes < length (take group.nodes s.path)) (λ g h. (let lt = h.0 in omega arith)) rest (AllPairs-last Begins rest group pairs);
          group_edges = kept (λ g. g.edges ≤ length s.waiting) sound.group_edges;
          rising = AllPairs-left Begins rest (group ∷ []) pairs;
          bottom = bottoms;
          leaves = leaving;
        };
        follows = λ place b l edge. (let before : place < group.nodes = omega arith in still place b before (searching.follows place b (omega arith) (rw (old_at place before) at edge)));
      }

  pub closed_left : steps_left graph after + 1 ≤ steps_left graph s
  closed_left = grind (arith, last, length_push, new_cost-le, closed_seen)
