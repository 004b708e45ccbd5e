-- The levels that are open, and what the walk comes to at their next items.
use Rattle.std.proofs.Common.{◌≡◌, ℕ, suc, ◌-◌, ◌<◌, Bool, false, List, [], ◌∷◌, ◌++◌, length, map, drop, refl, ap, ◌∙◌, arith, append_assoc, Some, Ok, Err, add-one, All, option_map, ◌⊎◌}
use Rattle.flatten.proofs.Common.{or-false, append-nil, All-nil, All-cons, list_any, bytes_eq, Option, Clock, BlifModel, GateLine, LatchLine, PartLine, Item, Gate, Latch, Part, FlatFault, Level, Instance, name_at, gate_at, latch_at, clock_at, model_at, is_open, entry, entered, Event, gate, latch, opens, fails, events, resolved, gate_by, latch_by, passed_line, passed_part}
use Rattle.flatten.specs.Laws.{prefix_of, table_of}
use Rattle.flatten.specs.Levels.{clock_by, IsInner, IsAt, remaining, Waits}
use Rattle.flatten.proofs.Climbing.{resolved_is_climbed}

-- the tables give the names that climbing gives
names_same : (m : List ℕ) (path : List Instance) (names : List (List ℕ)) → map (resolved (prefix_of m path) (table_of m path)) names ≡ map (name_at m path) names
names_same m path [] = refl
names_same m path (n ∷ names) = rw (names_same m path names, resolved_is_climbed m path n) refl

gate_same : (m : List ℕ) (path : List Instance) (g : GateLine) → gate_by (prefix_of m path) (table_of m path) g ≡ gate_at m path g
gate_same m path g = grind (arith, names_same m path g.pins, resolved_is_climbed m path g.output)

control_same : (m : List ℕ) (path : List Instance) (c : Option Clock) → option_map (clock_by (prefix_of m path) (table_of m path)) c ≡ option_map (clock_at m path) c
control_same m path c = grind (arith, resolved_is_climbed)

latch_same : (m : List ℕ) (path : List Instance) (l : LatchLine) → latch_by (prefix_of m path) (table_of m path) l ≡ latch_at m path l
latch_same m path l = grind (arith, resolved_is_climbed m path l.from, resolved_is_climbed m path l.output, control_same m path l.control)

-- what a gate or a latch comes to, by tables and on a path
abbrev pub IsLine : Item → Type 0
IsLine item = ((g : GateLine) × (item ≡ Gate g)) ⊎ ((l : LatchLine) × (item ≡ Latch l))

abbrev pub line_by : List ℕ → List (List ℕ × List ℕ) → Item → Event
line_by prefix table (Gate g) = gate (gate_by prefix table g)
line_by prefix table (Latch l) = latch (latch_by prefix table l)
line_by prefix table (Part p) = opens

abbrev pub line_at : List ℕ → List Instance → Item → Event
line_at m path (Gate g) = gate (gate_at m path g)
line_at m path (Latch l) = latch (latch_at m path l)
line_at m path (Part p) = opens

line_is : (models : List BlifModel) (m : List ℕ) (level : Level) (path : List Instance) (x : Item) → IsAt models m level path → line_by level.scope.prefix level.scope.table.entries x ≡ line_at m path x
line_is models m level path x at = grind (arith, gate_same m path, latch_same m path)

-- a level stands before this item
abbrev pub StandsAt : List BlifModel → Level → Item → Type 0
StandsAt models level x = drop level.next (model_at models level.model).body ≡ x ∷ drop (suc level.next) (model_at models level.model).body

-- an instance is entered only where its model is found and that isn't too deep
pub entry_ok : (name : List ℕ) (a b : Bool) (f : ℕ → Option FlatFault) (x : Option ℕ) (i : ℕ) → entry name a b f x ≡ Ok i → (b ≡ false) × (x ≡ Some i)
entry_ok name a b f x i e = grind arith

-- what the walk comes to at its first item
module _ (depth : ℕ) (models : List BlifModel) (top m : List ℕ) where
  pub events_nil : (room : ℕ) (path : List Instance) (n : ℕ) → events room depth models top m path n [] ≡ []
  events_nil room path n = grind arith

  pub events_line : (room : ℕ) (path : List Instance) (n : ℕ) (x : Item) (items : List Item) → IsLine x → events room depth models top m path n (x ∷ items) ≡ line_at m path x ∷ events room depth models top m path n items
  events_line room path n x items h = grind arith

  pub events_fault : (room : ℕ) (path : List Instance) (n : ℕ) (p : PartLine) (items : List Item) (fault : FlatFault) → entered depth models top path p ≡ Err fault → events room depth models top m path n (Part p ∷ items) ≡ fails fault ∷ events room depth models top m path (suc n) items
  events_fault room path n p items fault e = grind arith

  -- behind the line of an instance that is entered
  abbrev pub inside : List Instance → ℕ → PartLine → ℕ → List Event
  inside path n p i = events (depth - suc (length path)) depth models top m (record { number = n; part = p } ∷ path) 1 (model_at models i).body

  pub events_open : (path : List Instance) (n : ℕ) (p : PartLine) (items : List Item) (i : ℕ) → entered depth models top path p ≡ Ok i → events (depth - length path) depth models top m path n (Part p ∷ items) ≡ opens ∷ (inside path n p i ++ events (depth - length path) depth models top m path (suc n) items)
  events_open path n p items i e = grind arith

-- the levels and their path
module _ (depth : ℕ) (models : List BlifModel) (top m : List ℕ) where
  pub waits_size : (level : Level) (below : List Level) (path : List Instance) (rest : List Event) → Waits depth models top m (level ∷ below) path rest → length below ≡ length path
  waits_size level [] [] rest w = refl
  waits_size level (x ∷ below) [] rest w = absurd (let e : x ∷ below ≡ [] = w.2 in cc)
  waits_size level [] (o ∷ up) rest w = absurd (w.2.2 refl)
  waits_size level (x ∷ below) (o ∷ up) rest w = ap suc (waits_size x below up w.2.0 w.2.1)

  pub waits_open : (level : Level) (below : List Level) (path : List Instance) (rest : List Event) (name : List ℕ) → Waits depth models top m (level ∷ below) path rest → list_any (λ l. bytes_eq (model_at models l.model).name name) (level ∷ below) ≡ is_open top path name
  waits_open level [] [] rest name w = rw w.1 (or-false (bytes_eq top name))
  waits_open level (x ∷ below) [] rest name w = absurd (let e : x ∷ below ≡ [] = w.2 in cc)
  waits_open level [] (o ∷ up) rest name w = absurd (w.2.2 refl)
  waits_open level (x ∷ below) (o ∷ up) rest name w = rw (w.1, waits_open x below up w.2.0 name w.2.1) refl

  pub waits_within : (levels : List Level) (path : List Instance) (rest : List Event) → Waits depth models top m levels path rest → All (λ l. l.model < length models) levels
  waits_within [] path rest w = All-nil (λ l. l.model < length models)
  waits_within (level ∷ below) [] rest w = All-cons (λ l. l.model < length models) level below w.0.within (rw w.2 (All-nil (λ l. l.model < length models)))
  waits_within (level ∷ below) (o ∷ up) rest w = All-cons (λ l. l.model < length models) level below w.0.within (waits_within below up w.2.0 w.2.1)

  -- what the innermost level's place amounts to
  pub record Top (level : Level) (below : List Level) (path : List Instance) (rest : List Event) : Type 0 where
    pub at : IsAt models m level path
    pub later : List Event
    pub rest_is : rest ≡ remaining depth models top m level path ++ later
    pub again : (other : Level) → IsAt models m other path → (model_at models other.model).name ≡ (model_at models level.model).name → Waits depth models top m (other ∷ below) path (remaining depth models top m other path ++ later)
    pub up : List Instance
    pub back : Waits depth models top m below up later

  pub top_of : (level : Level) (below : List Level) (path : List Instance) (rest : List Event) → Waits depth models top m (level ∷ below) path rest → Top level below path rest
  top_of level below [] rest w = grind (arith, append-nil (remaining depth models top m level []), append-nil)
  top_of level below (o ∷ up) rest w = grind arith

  pub after_line : (level : Level) (path : List Instance) → IsAt models m level path → IsAt models m (passed_line level) path
  after_line level path at = record { within = at.within; counted = omega (arith, at.counted); prefix = at.prefix; table = at.table }

  pub after_part : (level : Level) (path : List Instance) → IsAt models m level path → IsAt models m (passed_part level) path
  after_part level path at = record { within = at.within; counted = omega (arith, at.counted); prefix = at.prefix; table = at.table }

  -- the steps, on levels with the innermost first
  remaining_line : (level : Level) (path : List Instance) (x : Item) → IsLine x → IsAt models m level path → StandsAt models level x → remaining depth models top m level path ≡ line_by level.scope.prefix level.scope.table.entries x ∷ remaining depth models top m (passed_line level) path
  remaining_line level path x line at e = grind (arith, events_line, line_is models m level path x, add-one)

  pub line_step : (level : Level) (below : List Level) (path : List Instance) (rest : List Event) (x : Item) → IsLine x → Waits depth models top m (level ∷ below) path rest → StandsAt models level x → (next : List Event) × Waits depth models top m (passed_line level ∷ below) path next × (rest ≡ line_by level.scope.prefix level.scope.table.entries x ∷ next)
  line_step level below path rest x line w e = grind (arith, top_of level below path rest w, after_line level path, remaining_line level path x line)

  pub end_step : (level : Level) (below : List Level) (path : List Instance) (rest : List Event) → Waits depth models top m (level ∷ below) path rest → drop level.next (model_at models level.model).body ≡ [] → (up : List Instance) × Waits depth models top m below up rest
  end_step level below path rest w e = grind (arith, top_of level below path rest w, events_nil)

  pub fault_step : (level : Level) (below : List Level) (path : List Instance) (rest : List Event) (p : PartLine) (fault : FlatFault) → Waits depth models top m (level ∷ below) path rest → StandsAt models level (Part p) → entered depth models top path p ≡ Err fault → (next : List Event) × (rest ≡ fails fault ∷ next)
  fault_step level below path rest p fault w e h = grind (arith, top_of level below path rest w, events_fault)

  inner_at : (level : Level) (path : List Instance) (p : PartLine) (inner : Level) → IsAt models m level path → IsInner m level p inner → inner.model < length models → IsAt models m inner (record { number = suc level.parts; part = p } ∷ path)
  inner_at level path p inner at i l = grind arith

  -- what is to come where an instance is entered
  opened : (level : Level) (path : List Instance) (p : PartLine) (i : ℕ) → StandsAt models level (Part p) → entered depth models top path p ≡ Ok i → remaining depth models top m level path ≡ opens ∷ (inside depth models top m path (suc level.parts) p i ++ remaining depth models top m (passed_part level) path)
  opened level path p i e h = grind arith

  pub opens_step : (level : Level) (below : List Level) (path : List Instance) (rest : List Event) (p : PartLine) (i : ℕ) → Waits depth models top m (level ∷ below) path rest → StandsAt models level (Part p) → entered depth models top path p ≡ Ok i → (next : List Event) × (rest ≡ opens ∷ next)
  opens_step level below path rest p i w e h = grind (arith, top_of level below path rest w, opened level path p i e h)

  pub open_step : (level : Level) (below : List Level) (path : List Instance) (rest : List Event) (p : PartLine) (inner : Level) → Waits depth models top m (level ∷ below) path rest → StandsAt models level (Part p) → entered depth models top path p ≡ Ok inner.model → IsInner m level p inner → inner.model < length models → (model_at models inner.model).name ≡ p.model → (up : List Instance) × ((next : List Event) × Waits depth models top m (inner ∷ passed_part level ∷ below) up next × (rest ≡ opens ∷ next))
  open_step level below path rest p inner w e h i l n =
      let t = top_of level below path rest w in
      let o : Instance = record { number = suc level.parts; part = p } in
      let later = remaining depth models top m (passed_part level) path ++ t.later in
      let first : inside depth models top m path (suc level.parts) p inner.model ≡ remaining depth models top m inner (o ∷ path) = rw (i.parts, i.next) refl in (
        o ∷ path,
        (
          remaining depth models top m inner (o ∷ path) ++ later,
          (inner_at level path p inner t.at i l, n, (later, t.again (passed_part level) (after_part level path t.at) refl, (λ q. cc), refl)),
          t.rest_is ∙ ap (λ es. es ++ t.later) (opened level path p inner.model e h) ∙ ap (λ es. opens ∷ ((es ++ remaining depth models top m (passed_part level) path) ++ t.later)) first
              ∙ ap (λ es. opens ∷ es) (append_assoc (remaining depth models top m inner (o ∷ path)) (remaining depth models top m (passed_part level) path) t.later),
        ),
      )
