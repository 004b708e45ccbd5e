-- The walk that only counts comes to the first fault of the walk.
use Rattle.std.proofs.Common.{◌≡◌, ◌⊎◌, ℕ, zero, suc, ◌+◌, ◌-◌, ◌<◌, ◌≤◌, ◌||◌, List, [], ◌∷◌, ◌++◌, length, length-append, drop, get_or, refl, ap, sym, subst, ◌∙◌, arith, Ok, Err, IfOk, IfErr, OnOk}
use Rattle.flatten.proofs.Common.{list_any-append, list_any, bytes_eq, Result, BlifModel, PartLine, Item, Part, FlatFault, TooLarge, mark_of, Instance, model_at, entered, pairs_fault, find_model, Event, FlatLines, gate, latch, opens, fails, events, decided, then_gate, then_latch, flat_lines, drop-item, Memory, or-false}
use Rattle.std.proofs.lemmas.List.{drop_all}
use Rattle.flatten.specs.Counting.{left_by, AreOpen, entered_below, Leave, LeavesTo, FailsBy, HasLines}
use Rattle.flatten.proofs.Stepping.{find_name}
use Rattle.flatten.proofs.Waiting.{events_fault, inside, IsLine, line_at, events_line, events_open, entry_ok}
use Rattle.flatten.proofs.Names.{or_open}

-- events behind others
abbrev left_behind : Result ℕ FlatFault → List Event → Result ℕ FlatFault
left_behind (Ok left) es = left_by left es
left_behind (Err fault) es = Err fault

left-append : (room : ℕ) (xs ys : List Event) → left_by room (xs ++ ys) ≡ left_behind (left_by room xs) ys
left-append zero [] ys = refl
left-append (suc room) [] ys = refl
left-append zero (fails fault ∷ xs) ys = refl
left-append zero (event ∷ xs) ys = refl
left-append (suc room) (fails fault ∷ xs) ys = refl
left-append (suc room) (event ∷ xs) ys = left-append room xs ys

fault_same : (a b : FlatFault) → ◌≡◌ {A = Result ℕ FlatFault} (Err a) (Err b) → ◌≡◌ {A = Result FlatLines FlatFault} (Err a) (Err b)
fault_same a b e = let same : a ≡ b = cc in ap (λ f. Err f) same

-- a fault that is found without the lines is that of the walk with them
decided_fault : (room : ℕ) (es : List Event) (fault : FlatFault) → left_by room es ≡ Err fault → decided room es ≡ Err fault
decided_fault zero [] fault e = absurd (cc)
decided_fault (suc room) [] fault e = absurd (cc)
decided_fault zero (fails other ∷ es) fault e = fault_same other fault e
decided_fault (suc room) (fails other ∷ es) fault e = fault_same other fault e
decided_fault (suc room) (gate g ∷ es) fault e = ap (then_gate g) (decided_fault room es fault e)
decided_fault (suc room) (latch l ∷ es) fault e = ap (then_latch l) (decided_fault room es fault e)
decided_fault zero (event ∷ es) fault e = fault_same TooLarge fault e
decided_fault (suc room) (opens ∷ es) fault e = decided_fault room es fault e

-- and a walk without a fault has lines
decided_left : (room : ℕ) (es : List Event) (left : ℕ) → left_by room es ≡ Ok left → (lines : FlatLines) × (decided room es ≡ Ok lines)
decided_left zero [] left e = (record { latches = []; gates = [] }, refl)
decided_left (suc room) [] left e = (record { latches = []; gates = [] }, refl)
decided_left zero (fails fault ∷ es) left e = absurd (cc)
decided_left (suc room) (fails fault ∷ es) left e = absurd (cc)
decided_left (suc room) (gate g ∷ es) left e = let behind = decided_left room es left e in (record { latches = behind.0.latches; gates = g ∷ behind.0.gates }, ap (then_gate g) behind.1)
decided_left (suc room) (latch l ∷ es) left e = let behind = decided_left room es left e in (record { latches = l ∷ behind.0.latches; gates = behind.0.gates }, ap (then_latch l) behind.1)
decided_left zero (event ∷ es) left e = absurd (cc)
decided_left (suc room) (opens ∷ es) left e = decided_left room es left e

-- one event
left_open : (room : ℕ) (es : List Event) → 0 < room → left_by room (opens ∷ es) ≡ left_by (room - 1) es
left_open room es h = grind arith

left_line : (m : List ℕ) (path : List Instance) (x : Item) (room : ℕ) (es : List Event) → 0 < room → left_by room (line_at m path x ∷ es) ≡ left_by (room - 1) es
left_line m path x room es h = grind arith

left_fault : (room : ℕ) (fault : FlatFault) (es : List Event) → left_by room (fails fault ∷ es) ≡ Err fault
left_fault room fault es = grind arith

module _ (depth : ℕ) (models : List BlifModel) (trail : List ℕ) where
  entered_same : (top : List ℕ) (path : List Instance) (p : PartLine) → AreOpen models top trail path → entered depth models top path p ≡ entered_below depth models trail p
  entered_same top path p are = grind arith

  -- one model more
  are_open : (top : List ℕ) (path : List Instance) (n : ℕ) (p : PartLine) (i : ℕ) → AreOpen models top trail path → (model_at models i).name ≡ p.model → AreOpen models top (trail ++ (i ∷ [])) (record { number = n; part = p } ∷ path)
  are_open top path n p i are named = record {
    many = length-append trail (i ∷ []) ∙ ap (λ k. k + 1) are.many ∙ (let e : suc (length path) + 1 ≡ suc (suc (length path)) = omega arith in e);
    names = λ name.
        list_any-append (λ j. bytes_eq (model_at models j).name name) trail (i ∷ [])
        ∙ or_open (list_any (λ j. bytes_eq (model_at models j).name name) trail) (bytes_eq (model_at models i).name name)
        ∙ ap (λ x. bytes_eq x name || list_any (λ j. bytes_eq (model_at models j).name name) trail) named
        ∙ ap (λ b. bytes_eq p.model name || b) (are.names name);
  }

  nothing_behind : (room : ℕ) → Leave depth models trail [] room (Ok room)
  nothing_behind room top m path n are = grind arith

  -- a gate or a latch
  line_leaves : (room : ℕ) (x : Item) → IsLine x → 0 < room → LeavesTo depth models trail x room (room - 1)
  line_leaves room x line some rest answer h top m path n are = grind (arith, events_line, left_line m path x room (events (depth - length path) depth models top m path n rest) some)

  no_line : (room : ℕ) (x : Item) → IsLine x → room ≡ 0 → FailsBy depth models trail x room TooLarge
  no_line room x line none rest top m path n are = grind arith

  pub line_passed : (room : ℕ) (item : Item) (r : Result ℕ FlatFault) → IsLine item → OnOk r (0 < room) → IfOk r (λ left. left ≡ room - 1) → IfOk r (λ left. LeavesTo depth models trail item room left)
  line_passed room item (Ok left) line some less = subst (λ (k : ℕ). LeavesTo depth models trail item room k) (sym less) (line_leaves room item line some)
  line_passed room item (Err fault) line some less = tt

  pub line_fault : (room : ℕ) (item : Item) (r : Result ℕ FlatFault) → IsLine item → IfErr r (λ fault. (room ≡ 0) × (fault ≡ TooLarge)) → IfErr r (λ fault. (fault ≡ Memory) ⊎ FailsBy depth models trail item room fault)
  line_fault room item r line h = grind (arith, no_line)

  -- an instance that can't be entered
  pub part_refused : (room : ℕ) (p : PartLine) (fault : FlatFault) → entered_below depth models trail p ≡ Err fault → FailsBy depth models trail (Part p) room fault
  part_refused room p fault e rest top m path n are = grind (arith, events_fault, entered_same top path p are, left_fault room fault (events (depth - length path) depth models top m path (suc n) rest))

  pub no_part : (room : ℕ) (p : PartLine) (i : ℕ) → entered_below depth models trail p ≡ Ok i → room ≡ 0 → FailsBy depth models trail (Part p) room TooLarge
  no_part room p i e none rest top m path n are = grind arith

  -- one that is entered, where this is the answer of what comes inside
  part_entered : (room : ℕ) (p : PartLine) (i : ℕ) (answer : Result ℕ FlatFault) → entered_below depth models trail p ≡ Ok i → 0 < room → Leave depth models (trail ++ (i ∷ [])) (model_at models i).body (room - 1) answer
      → (rest : List Item) (top m : List ℕ) (path : List Instance) (n : ℕ) → AreOpen models top trail path
      → left_by room (events (depth - length path) depth models top m path n (Part p ∷ rest)) ≡ left_behind answer (events (depth - length path) depth models top m path (suc n) rest)
  part_entered room p i answer e some below rest top m path n are =
      let found = (entry_ok p.model _ _ (λ j. pairs_fault (model_at models j) p.pairs) (find_model models p.model) i e).1 in
      let named = (find_name models p.model i found).1 in
      ap (left_by room) (events_open depth models top m path n p rest i (entered_same top path p are ∙ e))
      ∙ left_open room _ some
      ∙ left-append (room - 1) (inside depth models top m path n p i) (events (depth - length path) depth models top m path (suc n) rest)
      ∙ ap (λ r. left_behind r (events (depth - length path) depth models top m path (suc n) rest)) (below top m (record { number = n; part = p } ∷ path) 1 (are_open top path n p i are named))

  pub part_leaves : (room left : ℕ) (p : PartLine) (i : ℕ) → entered_below depth models trail p ≡ Ok i → 0 < room → Leave depth models (trail ++ (i ∷ [])) (model_at models i).body (room - 1) (Ok left) → LeavesTo depth models trail (Part p) room left
  part_leaves room left p i e some below rest answer h top m path n are = grind (arith, part_entered room p i (Ok left) e some below rest top m path n are)

  pub part_fails : (room : ℕ) (p : PartLine) (i : ℕ) (fault : FlatFault) → entered_below depth models trail p ≡ Ok i → 0 < room → Leave depth models (trail ++ (i ∷ [])) (model_at models i).body (room - 1) (Err fault) → FailsBy depth models trail (Part p) room fault
  part_fails room p i fault e some below = part_entered room p i (Err fault) e some below

  -- the levels and the body of the model that is entered, as the code has them
  pub inside_is : (room less : ℕ) (i : ℕ) (trail_inside : List ℕ) (body : List Item) (answer : Result ℕ FlatFault) → trail_inside ≡ trail ++ (i ∷ []) → body ≡ (model_at models i).body → less ≡ room - 1 → Leave depth models trail_inside body less answer → Leave depth models (trail ++ (i ∷ [])) (model_at models i).body (room - 1) answer
  inside_is room less i trail_inside body answer e f g h = grind arith

  -- the next item of a body
  pub next_leaves : (room left : ℕ) (body : List Item) (i : ℕ) (item : Item) (same : List ℕ) (answer : Result ℕ FlatFault) → i < length body → item ≡ get_or body i item → same ≡ trail → LeavesTo depth models same item room left → Leave depth models trail (drop (i + 1) body) left answer → Leave depth models trail (drop i body) room answer
  next_leaves room left body i item same answer l at e h later =
      rw (drop-item body i item l at) ((rw e at h) (drop (i + 1) body) answer later)

  pub next_fails : (room : ℕ) (body : List Item) (i : ℕ) (item : Item) (same : List ℕ) (fault : FlatFault) → i < length body → item ≡ get_or body i item → same ≡ trail → FailsBy depth models same item room fault → Leave depth models trail (drop i body) room (Err fault)
  next_fails room body i item same fault l at e h = grind (arith, drop-item body i item l)

  pub none_left : (room : ℕ) (body : List Item) (i : ℕ) → length body ≤ i → Leave depth models trail (drop i body) room (Ok room)
  none_left room body i l = grind (arith, drop_all i body l, nothing_behind room)

-- the top alone is open
top_alone : (models : List BlifModel) (i : ℕ) → AreOpen models (model_at models i).name (i ∷ []) []
top_alone models i = record { many = refl; names = λ name. or-false (bytes_eq (model_at models i).name name) }

pub fault_of_walk : (depth limit : ℕ) (models : List BlifModel) (i : ℕ) (trail : List ℕ) (body : List Item) (fault : FlatFault) → trail ≡ i ∷ [] → body ≡ (model_at models i).body → Leave depth models trail body limit (Err fault) → flat_lines depth limit models i ≡ Err fault
fault_of_walk depth limit models i trail body fault e f h =
    let top = (model_at models i).name in
    let m = mark_of models in
    let none : depth - 0 ≡ depth = omega arith in
    let are = subst (λ (ts : List ℕ). AreOpen models top ts []) (sym e) (top_alone models i) in
    grind (arith, decided_fault limit (events depth depth models top m [] 1 (model_at models i).body) fault)

pub lines_of_walk : (depth limit : ℕ) (models : List BlifModel) (i : ℕ) (trail : List ℕ) (body : List Item) (left : ℕ) → trail ≡ i ∷ [] → body ≡ (model_at models i).body → Leave depth models trail body limit (Ok left) → HasLines depth limit models i
lines_of_walk depth limit models i trail body left e f h =
    let top = (model_at models i).name in
    let m = mark_of models in
    let none : depth - 0 ≡ depth = omega arith in
    let are = subst (λ (ts : List ℕ). AreOpen models top ts []) (sym e) (top_alone models i) in
    let whole : left_by limit (events depth depth models top m [] 1 (model_at models i).body) ≡ Ok left = rw (f, none) at (h top m [] 1 are) in
    decided_left limit (events depth depth models top m [] 1 (model_at models i).body) left whole
