-- The search from its start to its end, and the components that it has found.
use Rattle.std.proofs.Common.{◌≡◌, ℕ, ◌<◌, ◌≤◌, List, [], ◌∷◌, length, map, get_or, replicate, refl, ap, sym, ◌∙◌, subst, arith}
use Rattle.std.proofs.lemmas.Bool.{cases_lt}
use Rattle.std.proofs.lemmas.List.{length-map, get_or-map, get_or-replicate, get_or_past, length-replicate}
use Rattle.components.specs.declared.components.Components.{Components}
use Rattle.components.specs.declared.search.Mark.TheVariants.{New, Open, Closed}
use Rattle.components.specs.Graphs.{Edge, Walk, AreStronglyConnected, AreComponentsOf}
use Rattle.components.specs.Search.{State, mark_of, IsSound, Searching, opened, Advances, started, Rests, Explores, HasExplored, component_of}
use Rattle.components.proofs.ListLemmas.{marked_within, mark-set_same, new_cost-start}
use Rattle.components.proofs.WalkLemmas.{connected}
use Rattle.components.proofs.OpenLemmas.{opened_sound, opened_follows, opened_seen}

mark-replicate : (n a : ℕ) → mark_of (replicate n New) a ≡ New
mark-replicate n a = grind (arith, length-replicate, cases_lt, get_or-replicate, get_or_past)

pub started_rests : (graph : List (List ℕ)) → Rests graph (started (length graph))
started_rests graph = grind (arith, length-replicate, new_cost-start, mark-replicate)

module _ (graph : List (List ℕ)) (s : State) (root : ℕ) (rests : Rests graph s) (node : root < length graph) (new : mark_of s.marks root ≡ New) where
  empty : length s.path ≡ 0
  empty = ap (λ (xs : List ℕ). length xs) rests.path

  pub opened_searching : Searching graph (opened graph root s)
  opened_searching =
      let none = empty in
      record {
        sound = opened_sound graph s root rests.searching.sound node new (λ p l. absurd (omega arith));
        follows = opened_follows graph s root rests.searching.sound node new (λ place b l edge. absurd (omega arith));
      }

  pub explored : (t : State) → Advances graph (opened graph root s) t → length t.groups ≡ 0 → Explores graph s t root
  explored t advances none = record {
    rests = record { searching = advances.searching; path = no_path t.path refl };
    seen = λ a h. opened_seen graph s root rests.searching.sound node new a (advances.seen a h);
    visited = λ h.
        let size = rests.searching.sound.size in
        let here = mark-set_same s.marks root (Open (length s.path)) (omega arith) in
        let still = advances.seen root h in
        cc;
  }
    where
      no_path : (path : List ℕ) → t.path ≡ path → path ≡ []
      no_path [] e = refl
      no_path (x ∷ xs) e =
          let len = ap (λ (ys : List ℕ). length ys) e in
          let bottom = advances.searching.sound.bottom (record { nodes = 0; edges = 0 }) (omega arith) in
          absurd (omega arith)

module _ (graph : List (List ℕ)) (s : State) (done : HasExplored graph s (length graph)) where
  abbrev home : List ℕ
  home = map component_of s.marks

  sound : IsSound graph s
  sound = done.rests.searching.sound

  is_closed : (a : ℕ) → a < length graph → mark_of s.marks a ≡ Closed (get_or home a 0)
  is_closed a l = grind (arith, get_or-map)

  home_of : (a component : ℕ) → mark_of s.marks a ≡ Closed component → (a < length graph) × (get_or home a 0 ≡ component)
  home_of a component h = grind (arith, marked_within, is_closed)

  order : (a b : ℕ) → Edge graph a b → get_or home b 0 ≤ get_or home a 0
  order a b edge =
      let by = sound.closed_edges a b (get_or home a 0) (is_closed a edge.source) edge in
      let is = (home_of b by.number by.is).1 in
      let below = by.below in
      omega arith

  falls : (a b : ℕ) (via : List ℕ) → Walk graph a via b → get_or home b 0 ≤ get_or home a 0
  falls a b [] walk = order a b walk
  falls a b (x ∷ via) walk = grind (arith, order, falls x b via walk.1)

  one_home : (a b : ℕ) → AreStronglyConnected graph a b → get_or home a 0 ≡ get_or home b 0
  one_home a b h = grind (arith, falls)

  pub found : (made : Components) → made.count ≡ s.count → made.home ≡ map component_of s.marks → AreComponentsOf graph made
  found made count homes =
      subst (λ (c : Components). AreComponentsOf graph c) parts found_home
    where
      parts : record { count = s.count; home = home } ≡ made
      parts = (let e : record { count = s.count; home = home } ≡ record { count = made.count; home = made.home } = cc in e)

      found_home : AreComponentsOf graph (record { count = s.count; home = home })
      found_home = record {
        nodes = length-map s.marks component_of ∙ sound.size;
        within = λ a l. sound.closed_below a (get_or home a 0) (is_closed a l);
        used = λ component l.
            let has = sound.closed_used component l in
            let at = home_of has.node component has.is in
            let len = length-map s.marks component_of in
            let size = sound.size in
            let l = at.0 in
            record { node = has.node; within = omega arith; is = at.1 };
        connected = λ a b al bl e.
            let other : mark_of s.marks b ≡ Closed (get_or home a 0) = is_closed b bl ∙ ap (λ n. Closed n) (sym e) in
            connected graph a b (sound.closed_leads a b (get_or home a 0) (is_closed a al) other) (sound.closed_leads b a (get_or home a 0) other (is_closed a al));
        same = one_home;
        order = order;
      }
