-- A new node that is opened at the end of the path keeps the search sound, and its edges wait.
use Rattle.std.proofs.Common.{◌≡◌, ◌⊎◌, inl, inr, ℕ, ◌+◌, ◌-◌, ◌<◌, ◌≤◌, List, [], ◌∷◌, ◌++◌, length, get_or, set, refl, ap, sym, ◌∙◌, arith}
use Rattle.std.specs.List.{All}
use Rattle.std.proofs.lemmas.Bool.{cases_eq, cases_lt}
use Rattle.std.proofs.lemmas.List.{length-set, length-append, length_push, get_or_append_left, get_or-append_right, get_or-append-add, get_or_push, get_or_default}
use Rattle.std.proofs.lemmas.List.Elements.{All-push, All-weaker, Contains-get_or}
use Rattle.std.proofs.lemmas.List.Quantifiers.{all_pairs_push}
use Rattle.components.specs.declared.search.Mark.{Mark}
use Rattle.components.specs.declared.search.Mark.TheVariants.{New, Open, Closed}
use Rattle.components.specs.declared.search.Group.{Group}
use Rattle.components.specs.Graphs.{successors, Edge}
use Rattle.components.specs.Search.{State, mark_of, IsNoEarlier, WaitsNoEarlier, StandsNoEarlier, Begins, Leads, Leaves, IsFollowed, closed, on_path, waits, IsSound, FollowsBut, Follows, opened, StaysSeen, steps_left}
use Rattle.components.proofs.ListLemmas.{All-left, All-last, mark-set_same, mark-set_other, new_cost-set}

module _ (graph : List (List ℕ)) (s : State) (v : ℕ) (sound : IsSound graph s) (node : v < length graph) (new : mark_of s.marks v ≡ New) where
  -- marks after the node's is set
  closed_before : (a component : ℕ) → mark_of (set s.marks v (Open (length s.path))) a ≡ Closed component → mark_of s.marks a ≡ Closed component
  closed_before a component h = grind (arith, cases_eq, mark-set_same, mark-set_other)

  kept : (a : ℕ) (mark : Mark) → mark_of s.marks a ≡ mark → (mark ≡ New → ⊥) → mark_of (set s.marks v (Open (length s.path))) a ≡ mark
  kept a mark h old = grind (arith, cases_eq, mark-set_other)

  open_before : (a place : ℕ) → mark_of (set s.marks v (Open (length s.path))) a ≡ Open place → ((a ≡ v) × (place ≡ length s.path)) ⊎ (mark_of s.marks a ≡ Open place)
  open_before a place h = grind (arith, cases_eq, mark-set_same, mark-set_other)

  old_at : (p : ℕ) → p < length s.path → get_or (s.path ++ v ∷ []) p 0 ≡ get_or s.path p 0
  old_at p l = get_or_append_left s.path (v ∷ []) 0 p l

  new_at : (p : ℕ) → p ≡ length s.path → get_or (s.path ++ v ∷ []) p 0 ≡ v
  new_at p e = get_or_push s.path v 0 p (sym e)

  abbrev group : Group
  group = record { nodes = length s.path; edges = length s.waiting }

  forwards : ((p : ℕ) → p < length s.path → Leads graph (get_or s.path p 0) v) → (p q : ℕ) → p ≤ q → q < length (s.path ++ v ∷ []) →
      Leads graph (get_or (s.path ++ v ∷ []) p 0) (get_or (s.path ++ v ∷ []) q 0)
  forwards led p q le l = grind (arith, length_push, cases_lt, old_at, new_at)

  backwards : (p q : ℕ) → p ≤ q → q < length (s.path ++ v ∷ []) → All (IsNoEarlier q p) (s.groups ++ group ∷ []) →
      Leads graph (get_or (s.path ++ v ∷ []) q 0) (get_or (s.path ++ v ∷ []) p 0)
  backwards p q le l all = grind (arith, length_push s.path v, cases_lt q (length s.path), old_at p, old_at q, All-left (IsNoEarlier q p) s.groups (group ∷ []) all, All-last (IsNoEarlier q p) s.groups group all)

  pub opened_sound : ((p : ℕ) → p < length s.path → Leads graph (get_or s.path p 0) v) → IsSound graph (opened graph v s)
  opened_sound led =
      let size = sound.size in
      let room = sound.room in
      let len = length_push s.path v in
      let more = length-append s.waiting (successors graph v) in
      record {
        size = length-set s.marks v (Open (length s.path)) ∙ size;
        room = (let cost = new_cost-set (λ _. 1) graph s.marks v (length s.path) node (omega arith) new in omega arith);
        closed_below = λ a component h. sound.closed_below a component (closed_before a component h);
        closed_used = λ component l.
            let used = sound.closed_used component l in
            record { node = used.node; is = kept used.node (Closed component) used.is (λ e. cc) };
        closed_edges = λ a b component h edge.
            let by = sound.closed_edges a b component (closed_before a component h) edge in
            record { number = by.number; is = kept b (Closed by.number) by.is (λ e. cc); below = by.below };
        closed_leads = λ a b component h k. sound.closed_leads a b component (closed_before a component h) (closed_before b component k);
        places = λ place l.
            elim (cases_lt place (length s.path)) [
              | inl before ↦ rw (old_at place before) (kept (get_or s.path place 0) (Open place) (sound.places place before) (λ e. cc))
              | inr past ↦
                  let last : place ≡ length s.path = omega arith in
                  rw (new_at place last) (mark-set_same s.marks v (Open (length s.path)) (omega arith) ∙ ap (λ n. Open n) (sym last))
            ];
        open_within = λ a place h.
            elim (open_before a place h) [
              | inl e ↦ (let at = e.1 in omega arith)
              | inr old ↦ (let within = sound.open_within a place old in omega arith)
            ];
        open_is = λ a place h.
            elim (open_before a place h) [
              | inl e ↦ new_at place e.1 ∙ sym e.0
              | inr old ↦ old_at place (sound.open_within a place old) ∙ sound.open_is a place old
            ];
        forward = forwards led;
        backward = backwards;
        group_nodes = All-push (λ g. g.nodes < length (s.path ++ v ∷ [])) s.groups group
            (All-weaker (λ g. g.nodes < length s.path) (λ g. g.nodes < length (s.path ++ v ∷ [])) (λ g h. omega arith) s.groups sound.group_nodes) (omega arith);
        group_edges = All-push (λ g. g.edges ≤ length (s.waiting ++ successors graph v)) s.groups group
            (All-weaker (λ g. g.edges ≤ length s.waiting) (λ g. g.edges ≤ length (s.waiting ++ successors graph v)) (λ g h. omega arith) s.groups sound.group_edges) (omega arith);
        rising = all_pairs_push Begins s.groups group sound.rising (λ k d l. (sound.group_nodes k d l, sound.group_edges k d l));
        bottom = λ d l. bottoms d;
        leaves = leaving;
      }
    where
      bottoms : (d : Group) → (0 < length (s.groups ++ group ∷ [])) × (get_or (s.groups ++ group ∷ []) 0 d).nodes ≡ 0
      bottoms d =
          let len = length_push s.groups group in
          elim (cases_lt 0 (length s.groups)) [
            | inl some ↦
                let begin = sound.group_nodes 0 d some in
                let old = sound.bottom d (omega arith) in
                (omega arith, ap (λ (g : Group). g.nodes) (get_or_append_left s.groups (group ∷ []) d 0 some) ∙ old.1)
            | inr none ↦
                let empty : length s.path ≡ 0 = elim (cases_lt 0 (length s.path)) [
                  | inl some ↦ (let old = sound.bottom d some in omega arith)
                  | inr l ↦ omega arith
                ] in
                (omega arith, ap (λ (g : Group). g.nodes) (get_or_push s.groups group d 0 (omega arith)) ∙ empty)
          ]

      leaving : (i : ℕ) → i < length (s.waiting ++ successors graph v) → Leaves graph (opened graph v s) i
      leaving i l =
          let len = length_push s.path v in
          let more = length-append s.waiting (successors graph v) in
          elim (cases_lt i (length s.waiting)) [
            | inl before ↦
                let old = sound.leaves i before in
                let at = old.on_path in
                record {
                  place = old.place;
                  on_path = omega arith;
                  listed = rw (old_at old.place at, get_or_append_left s.waiting (successors graph v) 0 i before) old.listed;
                  after = All-push (StandsNoEarlier i old.place) s.groups group old.after (λ h. absurd (omega arith));
                  before = All-push (WaitsNoEarlier old.place i) s.groups group old.before (λ h. absurd (omega arith));
                }
            | inr past ↦ record {
              place = length s.path;
              on_path = omega arith;
              listed = rw (new_at (length s.path) refl, get_or-append_right s.waiting (successors graph v) (length s.waiting) i 0 refl past)
                  (Contains-get_or (successors graph v) (i - length s.waiting) 0 (omega arith));
              after = All-push (StandsNoEarlier i (length s.path)) s.groups group
                  (All-weaker (λ g. g.nodes < length s.path) (StandsNoEarlier i (length s.path)) (λ g h e. omega arith) s.groups sound.group_nodes) (λ h. omega arith);
              before = All-push (WaitsNoEarlier (length s.path) i) s.groups group
                  (All-weaker (λ g. g.edges ≤ length s.waiting) (WaitsNoEarlier (length s.path) i) (λ g h e. omega arith) s.groups sound.group_edges) (λ h. past);
            }
          ]

  still : (place b : ℕ) → place < length s.path → IsFollowed s place b → IsFollowed (opened graph v s) place b
  still place b l (closed component h) = closed component (kept b (Closed component) h (λ e. cc))
  still place b l (on_path later h all) =
      on_path later (kept b (Open later) h (λ e. cc)) (All-push (IsNoEarlier place later) s.groups group all (λ h. absurd (omega arith)))
  still place b l (waits i within is all) =
      let more = length-append s.waiting (successors graph v) in
      waits i (omega arith) (get_or_append_left s.waiting (successors graph v) 0 i within ∙ is)
      (All-push (WaitsNoEarlier place i) s.groups group all (λ h. absurd (omega arith)))

  -- every edge to the node is followed now, and the node's own edges wait
  pub opened_follows : FollowsBut graph s (λ b. b ≡ v) → Follows graph (opened graph v s)
  opened_follows follows place b l edge =
      let len = length_push s.path v in
      let size = sound.size in
      elim (cases_lt place (length s.path)) [
        | inl before ↦
            elim (follows place b before (rw (old_at place before) at edge)) [
              | inl done ↦ still place b before done
              | inr e ↦
                  on_path (length s.path) (rw e (mark-set_same s.marks v (Open (length s.path)) (omega arith)))
                  (All-push (IsNoEarlier place (length s.path)) s.groups group
                  (All-weaker (λ g. g.nodes < length s.path) (IsNoEarlier place (length s.path)) (λ g h k. omega arith) s.groups sound.group_nodes) (λ h. omega arith))
            ]
        | inr past ↦
            let last : place ≡ length s.path = omega arith in
            let own : Edge graph v b = rw (new_at place last) at edge in
            let listed = own.listed in
            let more = length-append s.waiting (successors graph v) in
            let within : length s.waiting + listed.0 < length (s.waiting ++ successors graph v) = (let k = listed.1 in omega arith) in
            waits (length s.waiting + listed.0) within
            (get_or-append-add s.waiting (successors graph v) listed.0 0 ∙ get_or_default (successors graph v) listed.0 0 b listed.1 ∙ listed.2)
            (All-push (WaitsNoEarlier place (length s.waiting + listed.0)) s.groups group
            (All-weaker (λ g. g.edges ≤ length s.waiting) (WaitsNoEarlier place (length s.waiting + listed.0)) (λ g h k. omega arith) s.groups sound.group_edges) (λ h. omega arith))
      ]

  pub opened_left : steps_left graph (opened graph v s) + 1 ≡ steps_left graph s
  opened_left =
      let size = sound.size in
      let more = length-append s.waiting (successors graph v) in
      let groups = length_push s.groups group in
      let cost = new_cost-set (λ edges. length edges + 2) graph s.marks v (length s.path) node (omega arith) new in
      omega arith

  pub opened_seen : StaysSeen s (opened graph v s)
  opened_seen a h = grind (arith, cases_eq, mark-set_same, mark-set_other)
