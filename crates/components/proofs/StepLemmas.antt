-- One step of the loop that merges groups, and the steps of the search.
use Rattle.std.proofs.Common.{◌≡◌, ◌⊎◌, ℕ, ◌+◌, ◌-◌, ◌<◌, ◌≤◌, List, [], ◌∷◌, ◌++◌, length, get_or, take, sym, ◌∙◌, arith, Some}
use Rattle.std.specs.Prelude.{slice_get}
use Rattle.std.specs.List.{All}
use Rattle.std.proofs.lemmas.List.{append_assoc, get_or_default}
use Rattle.std.proofs.lemmas.List.Elements.{All-cons}
use Rattle.components.specs.declared.search.Mark.{Mark}
use Rattle.components.specs.declared.search.Mark.TheVariants.{New, Open, Closed}
use Rattle.components.specs.declared.search.Group.{Group}
use Rattle.components.specs.Search.{State, mark_of, IsSound, Searching, Following, opened, IsCut, IsMerged, IsClosedLast, Advances, steps_left}
use Rattle.components.proofs.ListLemmas.{marked_within, split_last, All-last}
use Rattle.components.proofs.FollowLemmas.{path_leads, passed, merged_searching, merged_left, taken}
use Rattle.components.proofs.OpenLemmas.{opened_sound, opened_follows, opened_left, opened_seen}
use Rattle.components.proofs.CloseLemmas.{closed_searching, closed_left, closed_seen}

pub cut_more : (old now shorter : List Group) (group : Group) (place : ℕ) → slice_get now (length now - 1) ≡ Some group → shorter ≡ take (length now - 1) now →
    place < group.nodes → IsCut old now place → IsCut old shorter place
cut_more old now shorter group place is_last popped past cut = grind (arith, split_last now group is_last, append_assoc shorter (group ∷ []) cut.gone, All-cons)

module _ (graph : List (List ℕ)) (s : State) where
  same_advances : Searching graph s → Advances graph s s
  same_advances searching = record { searching = searching; left = omega arith; seen = λ a h. h }

  pub passed_advances : (target : ℕ) → Following graph s target → ((component : ℕ) × (mark_of s.marks target ≡ Closed component)) ⊎ (length graph ≤ target) → Advances graph s s
  passed_advances target following done = same_advances (passed graph s target following done)

  pub opened_advances : (target : ℕ) → Following graph s target → target < length graph → mark_of s.marks target ≡ New → Advances graph s (opened graph target s)
  opened_advances target following node new = record {
    searching = record {
      sound = opened_sound graph s target following.sound node new (path_leads graph s target following.sound following.edge node);
      follows = opened_follows graph s target following.sound node new following.follows;
    };
    left = (let less = opened_left graph s target following.sound node new in omega arith);
    seen = opened_seen graph s target following.sound node new;
  }

  pub merged_advances : (target place : ℕ) (new : List Group) → Following graph s target → mark_of s.marks target ≡ Open place → IsMerged s.groups new place → Advances graph s (record s { groups = new })
  merged_advances target place new following is_open merged = grind (arith, merged_searching graph s target place new following is_open merged, merged_left graph s target place new following is_open merged)

  pub path_marked : IsSound graph s → All (λ node. node < length s.marks) s.path
  path_marked sound k d l = grind (arith, get_or_default s.path k 0 d l, marked_within s.marks (get_or s.path k 0) (Open k) (sound.places k l))

  pub last_begins : IsSound graph s → (group : Group) → slice_get s.groups (length s.groups - 1) ≡ Some group → group.nodes < length s.path
  last_begins sound group is_last = grind (arith, All-last, split_last s.groups group is_last)

  pub taken_following : (waiting : List ℕ) (group : Group) (target : ℕ) → Searching graph s → slice_get s.groups (length s.groups - 1) ≡ Some group →
      (s.waiting ≡ waiting ++ target ∷ []) × (group.edges ≤ length waiting) → Following graph (record s { waiting = waiting }) target
  taken_following waiting group target searching is_last edge = grind (arith, taken graph s waiting (take (length s.groups - 1) s.groups) group target searching edge.0 (split_last s.groups group is_last) edge.1, split_last s.groups group is_last)

  closed_is : (waiting : List ℕ) (group : Group) (t : State) → waiting ≡ s.waiting → IsClosedLast group (record s { waiting = waiting }) t →
      record { marks = t.marks; path = take group.nodes s.path; waiting = s.waiting; groups = take (length s.groups - 1) s.groups; count = s.count + 1 } ≡ t
  closed_is waiting group t same now = grind arith

  pub closed_advances : (waiting : List ℕ) (group : Group) (t : State) → Searching graph s → slice_get s.groups (length s.groups - 1) ≡ Some group →
      (length s.waiting ≤ group.edges) × (waiting ≡ s.waiting) → IsClosedLast group (record s { waiting = waiting }) t → Advances graph s t × (steps_left graph t < steps_left graph s)
  closed_advances waiting group t searching is_last none now =
      grind (arith, closed_left graph s group t.marks searching is_last none.0 now.marks, closed_is waiting group t none.1 now, closed_searching graph s group t.marks searching is_last none.0 now.marks, closed_seen graph s group t.marks searching is_last none.0 now.marks)

pub mark_read : (marks : List Mark) (a : ℕ) (read mark : Mark) → a < length marks → read ≡ get_or marks a read → read ≡ mark → mark_of marks a ≡ mark
mark_read marks a read mark l at is = get_or_default marks a New read l ∙ sym at ∙ is
