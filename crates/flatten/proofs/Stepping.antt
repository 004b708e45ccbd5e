-- The walk on a list comes to what the walk by recursion comes to.
use Rattle.std.proofs.Common.{length-append, ◌*◌, ◌≡◌, ℕ, zero, suc, ◌+◌, ◌-◌, ◌<◌, ◌≤◌, Bool, List, [], ◌∷◌, ◌++◌, length, drop, reverse, refl, ap, sym, ◌∙◌, subst, arith, append_assoc, Some, None, Ok, Err, All, map}
use Rattle.flatten.proofs.Common.{list_any-append, list_any, Option, Result, BlifModel, GateLine, LatchLine, PartLine, Part, FlatFault, TooLarge, Level, mark_of, Instance, no_model, model_at, entered, entry, pairs_fault, find_model, Event, FlatLines, gate, latch, opens, fails, events, decided, then_gate, then_latch, flat_lines, gate_by, latch_by, passed_line, passed_part, PassesPart, append-nil, Item, bytes_eq-true, NestedModels, own_gates, own_latches}
use Rattle.std.proofs.lemmas.Grind.{reverse_onto}
use Rattle.std.proofs.lemmas.List.{reverse-append, length-reverse, reverse-reverse}
use Rattle.blif_read.specs.Find.{has_name}
use Rattle.flatten.specs.declared.walk.Walk.{Walk}
use Rattle.flatten.specs.Levels.{entered_on, Waits, remaining, then_lines, FitsSome, CanEnter, PutsBack, WalkingAt, WalkingWith, Goes, IsBegun, AddsLine, PassesLine}
use Rattle.flatten.proofs.Waiting.{waits_size, waits_open, waits_within, top_of, end_step, fault_step, opens_step, open_step, IsLine, line_by, StandsAt, entry_ok, line_step}
use Rattle.flatten.proofs.Names.{or_open}
use Rattle.std.proofs.lemmas.List.Quantifiers.{position-Some}
use Rattle.std.proofs.lemmas.List.Sorted.{All-permutation, IsPermutation-reverse}

-- what an event adds to the lines behind it
abbrev then_event : Event → Result FlatLines FlatFault → Result FlatLines FlatFault
then_event (gate g) r = then_gate g r
then_event (latch l) r = then_latch l r
then_event opens r = r
then_event (fails fault) r = Err fault

first_event : (room : ℕ) (e : Event) (rest : List Event) → decided (suc room) (e ∷ rest) ≡ then_event e (decided room rest)
first_event room e rest = grind arith

fails_at : (room : ℕ) (fault : FlatFault) (rest : List Event) (latches : List LatchLine) (gates : List GateLine) → then_lines latches gates (decided room (fails fault ∷ rest)) ≡ Err fault
fails_at room fault rest latches gates = grind arith

then_none : (r : Result FlatLines FlatFault) → r ≡ then_lines [] [] r
then_none r = grind arith

-- a gate or a latch
no_room : (prefix : List ℕ) (table : List (List ℕ × List ℕ)) (x : Item) (rest : List Event) → decided 0 (line_by prefix table x ∷ rest) ≡ Err TooLarge
no_room prefix table x rest = grind arith

module _ (prefix : List ℕ) (table : List (List ℕ × List ℕ)) (latches : List LatchLine) (gates : List GateLine) where
  more_lines : (x : Item) (r : Result FlatLines FlatFault) → then_lines latches gates (then_event (line_by prefix table x) r)
      ≡ then_lines (latches ++ map (latch_by prefix table) (own_latches (x ∷ []))) (gates ++ map (gate_by prefix table) (own_gates (x ∷ []))) r
  more_lines x r = grind (arith, append_assoc, append-nil)

rev_push : (s : List Level) (l : Level) → reverse (s ++ (l ∷ [])) ≡ l ∷ reverse s
rev_push s l = reverse-append s (l ∷ [])

any_reverse : (p : Level → Bool) (xs : List Level) → list_any p (reverse xs) ≡ list_any p xs
any_reverse p [] = refl
any_reverse p (x ∷ xs) = rw (reverse_onto xs x [], list_any-append p (reverse xs) (x ∷ []), any_reverse p xs) (or_open (list_any p xs) (p x))

-- a model that is found has the name
pub find_name : (models : List BlifModel) (name : List ℕ) (i : ℕ) → find_model models name ≡ Some i → (i < length models) × ((model_at models i).name ≡ name)
find_name models name i e = grind (arith, position-Some (has_name name) models i no_model e, bytes_eq-true (model_at models i).name name)

all_reverse : (P : Level → Type 0) (s : List Level) → All P (reverse s) → All P s
all_reverse P s h = rw reverse-reverse at (All-permutation P (reverse s) (reverse (reverse s)) (IsPermutation-reverse (reverse s)) h)

-- a step from a level, whatever the walk comes to
module _ (h : NestedModels) (walk : Walk) (l : Level) (top : List ℕ) (answer : Result FlatLines FlatFault) (w : WalkingWith h.depth h.models top (mark_of h.models) answer walk l) where
  waits_at : Waits h.depth h.models top (mark_of h.models) (l ∷ reverse walk.levels.items) w.path w.rest
  waits_at = rw rev_push at w.waits

  pub walking_at : (l.model < length h.models) × (l.parts ≤ l.next) × All (λ x. x.model < length h.models) walk.levels.items
  walking_at =
      let t = top_of h.depth h.models top (mark_of h.models) l (reverse walk.levels.items) w.path w.rest waits_at in
      (t.at.within, t.at.counted, all_reverse (λ x. x.model < length h.models) walk.levels.items (waits_within h.depth h.models top (mark_of h.models) (reverse walk.levels.items) t.up t.later t.back))

  entered_same : (p : PartLine) → entered_on h.depth h.models walk.levels.items l p ≡ entered h.depth h.models top w.path p
  entered_same p =
      grind (arith, any_reverse, waits_open h.depth h.models top (mark_of h.models) l (reverse walk.levels.items) w.path w.rest p.model waits_at, waits_at, length-reverse walk.levels.items, waits_size h.depth h.models top (mark_of h.models) l (reverse walk.levels.items) w.path w.rest waits_at)

  -- it goes on, and less is left to do
  abbrev GoesOn : Walk → Type 0
  GoesOn new = WalkingAt h.depth h.models top (mark_of h.models) answer new × (new.room * 2 + length new.levels.items < walk.room * 2 + (length walk.levels.items + 1))

  pub walks_out : drop l.next (model_at h.models l.model).body ≡ [] → GoesOn walk
  walks_out e =
      let n = end_step h.depth h.models top (mark_of h.models) l (reverse walk.levels.items) w.path w.rest waits_at e in
      (record { path = n.0; rest = w.rest; waits = n.1; answers = w.answers }, omega arith)

  goes_on : (new : Walk) (path : List Instance) (e : Event) (next : List Event) → w.rest ≡ e ∷ next → Waits h.depth h.models top (mark_of h.models) (reverse new.levels.items) path next
      → 0 < walk.room → new.room ≡ walk.room - 1 → length new.levels.items ≤ length walk.levels.items + 2
      → ((r : Result FlatLines FlatFault) → then_lines walk.latches.items walk.gates.items (then_event e r) ≡ then_lines new.latches.items new.gates.items r) → GoesOn new
  goes_on new path e next is waits some left few lines = grind arith

  pub walks_line : (new : Walk) (x : Item) → IsLine x → StandsAt h.models l x → PassesLine walk l x new → GoesOn new
  walks_line new x line e p =
      let n = line_step h.depth h.models top (mark_of h.models) l (reverse walk.levels.items) w.path w.rest x line waits_at e in
      let few = ap length p.levels ∙ length-append walk.levels.items (passed_line l ∷ []) in
      let lines = more_lines l.scope.prefix l.scope.table.entries walk.latches.items walk.gates.items x in
      goes_on new w.path _ n.0 n.2 (rw (p.levels, rev_push) n.1) p.some p.left (omega (arith, few)) (λ r. rw (p.latches, p.gates) (lines r))

  pub walks_part : (new : Walk) (p : PartLine) → StandsAt h.models l (Part p) → PassesPart h.depth h.models (mark_of h.models) walk l p new → GoesOn new
  walks_part new p e s =
      let found = (entry_ok p.model _ _ (λ i. pairs_fault (model_at h.models i) p.pairs) (find_model h.models p.model) s.inner.model s.enters.model).1 in
      let named = find_name h.models p.model s.inner.model found in
      let t = open_step h.depth h.models top (mark_of h.models) l (reverse walk.levels.items) w.path w.rest p s.inner waits_at e (sym (entered_same p) ∙ s.enters.model) s.enters.inside named.0 named.1 in
      let few = ap length s.enters.levels ∙ length-append (walk.levels.items ++ (passed_part l ∷ [])) (s.inner ∷ []) in
      let fewer = length-append walk.levels.items (passed_part l ∷ []) in
      let levels : reverse new.levels.items ≡ s.inner ∷ passed_part l ∷ reverse walk.levels.items = rw (s.enters.levels, rev_push, rev_push) refl in
      goes_on new t.0 opens t.1.0 t.1.2 (rw levels t.1.1) s.some s.left (omega (arith, few, fewer)) (λ r. rw (s.latches, s.gates) refl)

  -- or it comes to the fault
  pub full_at_line : (x : Item) → IsLine x → StandsAt h.models l x → (fault : FlatFault) → (walk.room ≡ 0) × (fault ≡ TooLarge) → answer ≡ Err fault
  full_at_line x line e fault full =
      let n = line_step h.depth h.models top (mark_of h.models) l (reverse walk.levels.items) w.path w.rest x line waits_at e in
      w.answers
      ∙ ap (λ es. then_lines walk.latches.items walk.gates.items (decided walk.room es)) n.2
      ∙ ap (λ k. then_lines walk.latches.items walk.gates.items (decided k (line_by l.scope.prefix l.scope.table.entries x ∷ n.0))) full.0
      ∙ ap (then_lines walk.latches.items walk.gates.items) (no_room l.scope.prefix l.scope.table.entries x n.0)
      ∙ ap (λ f. Err f) (sym full.1)

  refused_at_part : (p : PartLine) → StandsAt h.models l (Part p) → (fault : FlatFault) → entered_on h.depth h.models walk.levels.items l p ≡ Err fault → answer ≡ Err fault
  refused_at_part p e fault f =
      let n = fault_step h.depth h.models top (mark_of h.models) l (reverse walk.levels.items) w.path w.rest p fault waits_at e (sym (entered_same p) ∙ f) in
      w.answers ∙ ap (λ es. then_lines walk.latches.items walk.gates.items (decided walk.room es)) n.1 ∙ fails_at walk.room fault n.0 walk.latches.items walk.gates.items

  full_at_part : (p : PartLine) → StandsAt h.models l (Part p) → (i : ℕ) → entered_on h.depth h.models walk.levels.items l p ≡ Ok i → walk.room ≡ 0 → answer ≡ Err TooLarge
  full_at_part p e i k none = grind (arith, opens_step h.depth h.models top (mark_of h.models) l (reverse walk.levels.items) w.path w.rest p i waits_at, waits_at, entered_same p)

  -- where the walk has lines, there is room for each line, and each instance can be entered
  module _ (lines : FlatLines) (is : answer ≡ Ok lines) where
    some_room : (room : ℕ) → (room ≡ 0 → answer ≡ Err TooLarge) → 0 < room
    some_room zero full = let e = full refl in absurd (cc)
    some_room (suc room) full = omega arith

    room_at_line : (x : Item) → IsLine x → StandsAt h.models l x → 0 < walk.room
    room_at_line x line e = some_room walk.room (λ none. full_at_line x line e TooLarge (none, refl))

    enters_by : (p : PartLine) → StandsAt h.models l (Part p) → (r : Result ℕ FlatFault) → entered_on h.depth h.models walk.levels.items l p ≡ r → (0 < walk.room) × CanEnter h.depth h.models walk.levels.items l p
    enters_by p e (Err fault) k = let refused = refused_at_part p e fault k in absurd (cc)
    enters_by p e (Ok i) k = (some_room walk.room (full_at_part p e i k), (i, k))

pub goes_at : (h : NestedModels) (walk : Walk) (l : Level) → Goes h walk l → (l.model < length h.models) × (l.parts ≤ l.next)
goes_at h walk l goes = let at = walking_at h walk l goes.0 (Ok goes.1.0) goes.1.1 in (at.0, at.1)

pub room_for_line : (h : NestedModels) (walk : Walk) (l : Level) → Goes h walk l → (x : Item) → IsLine x → StandsAt h.models l x → 0 < walk.room
room_for_line h walk l goes x = room_at_line h walk l goes.0 (Ok goes.1.0) goes.1.1 goes.1.0 refl x

pub enters_at : (h : NestedModels) (walk : Walk) (l : Level) → Goes h walk l → (p : PartLine) → StandsAt h.models l (Part p) → (0 < walk.room) × CanEnter h.depth h.models walk.levels.items l p
enters_at h walk l goes p e = enters_by h walk l goes.0 (Ok goes.1.0) goes.1.1 goes.1.0 refl p e (entered_on h.depth h.models walk.levels.items l p) refl

-- an instance that can be entered has a model, and its pairs fit
entry_fits : (name : List ℕ) (a b : Bool) (f : ℕ → Option FlatFault) (x : Option ℕ) (i : ℕ) → entry name a b f x ≡ Ok i → (x ≡ Some i) × (f i ≡ None)
entry_fits name a b f x i e = grind arith

module _ (depth : ℕ) (models : List BlifModel) (below : List Level) (level : Level) (p : PartLine) (can : CanEnter depth models below level p) where
  found : (find_model models p.model ≡ Some can.0) × (pairs_fault (model_at models can.0) p.pairs ≡ None)
  found = entry_fits p.model _ _ (λ i. pairs_fault (model_at models i) p.pairs) (find_model models p.model) can.0 can.1

  pub fits_some : FitsSome models p
  fits_some = (can.0, found.0, found.1)

  pub entered_at : (i : ℕ) → find_model models p.model ≡ Some i → entered_on depth models below level p ≡ Ok i
  entered_at i e = let same : can.0 ≡ i = (let both = found.0 in cc) in subst (λ (j : ℕ). entered_on depth models below level p ≡ Ok j) same can.1

-- a line that was added, and its level put back
pub line_passed : (old mid new : Walk) (level : Level) (x : Item) → AddsLine old level.scope x mid → PutsBack mid level new → PassesLine old level x new
line_passed old mid new level x a p = grind arith

-- a walk that stands before its first item
pub walking_start : (depth : ℕ) (models : List BlifModel) (i limit : ℕ) (walk : Walk) → i < length models → IsBegun i limit walk → WalkingAt depth models (model_at models i).name (mark_of models) (flat_lines depth limit models i) walk
walking_start depth models i limit walk within b =
    let top = (model_at models i).name in
    let m = mark_of models in
    let l = b.level in
    let rest = events depth depth models top m [] 1 (model_at models i).body in
    let none : depth - 0 ≡ depth = omega arith in
    let same : rest ≡ remaining depth models top m l [] = rw (b.parts, b.next, b.place, none) refl in
    let there : Waits depth models top m (l ∷ []) [] rest =
    (record { within = omega (arith, b.place, within); counted = omega (arith, b.next, b.parts); prefix = b.prefix; table = b.table }, ap (λ j. (model_at models j).name) b.place, refl, same) in
    record {
      path = [];
      rest = rest;
      waits = subst (λ (ls : List Level). Waits depth models top m (reverse ls) [] rest) (sym b.levels) there;
      answers =
          then_none (decided limit rest)
          ∙ ap (λ ls. then_lines ls [] (decided limit rest)) (sym b.latches)
          ∙ ap (λ gs. then_lines walk.latches.items gs (decided limit rest)) (sym b.gates)
          ∙ ap (λ k. then_lines walk.latches.items walk.gates.items (decided k rest)) (sym b.room_is);
    }

-- the lines of events, whatever room there is
abbrev pub with_event : Event → FlatLines → FlatLines
with_event (gate g) lines = record { latches = lines.latches; gates = g ∷ lines.gates }
with_event (latch l) lines = record { latches = l ∷ lines.latches; gates = lines.gates }
with_event opens lines = lines
with_event (fails fault) lines = lines

abbrev pub lines_in : List Event → FlatLines
lines_in [] = record { latches = []; gates = [] }
lines_in (e ∷ es) = with_event e (lines_in es)

then_event_is : (e : Event) (r : Result FlatLines FlatFault) (lines : FlatLines) → then_event e r ≡ Ok lines → (found : FlatLines) × (r ≡ Ok found) × (with_event e found ≡ lines)
then_event_is e r lines is = grind arith

-- a walk without a fault comes to the lines of its events, and there is room for them
pub decided_lines : (room : ℕ) (es : List Event) (lines : FlatLines) → decided room es ≡ Ok lines → (lines_in es ≡ lines) × (length es ≤ room)
decided_lines zero [] lines is = (cc, omega arith)
decided_lines (suc room) [] lines is = (cc, omega arith)
decided_lines zero (fails fault ∷ es) lines is = cc
decided_lines zero (e ∷ es) lines is = cc
decided_lines (suc room) (e ∷ es) lines is = grind (arith, then_event_is e (decided room es) lines, first_event room e es, decided_lines room es)

few_in : (es : List Event) → length (lines_in es).latches + length (lines_in es).gates ≤ length es
few_in [] = omega arith
few_in (gate g ∷ es) = omega (arith, few_in es)
few_in (e ∷ es) = omega (arith, few_in es)

pub few_lines : (room : ℕ) (es : List Event) (lines : FlatLines) → decided room es ≡ Ok lines → length lines.latches + length lines.gates ≤ room
few_lines room es lines is = grind (arith, decided_lines room es lines is, few_in es)
