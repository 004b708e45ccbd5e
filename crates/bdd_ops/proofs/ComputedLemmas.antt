-- The computed table: what it holds stays right as the table grows, and as the store does.
use Rattle.std.proofs.Common.{◌≡◌, ◌⊎◌, Bool, false, List, ◌++◌, map, All, Contains, sym, subst, arith}
use Rattle.std.proofs.lemmas.List.Elements.{All-append, All-map, All-weaker, All-contains, All-contains_itself, Contains-append_left, Contains-append_right}
use Rattle.cyc_base.proofs.ListLemmas.{Contains-map}
use Rattle.bdd_store.specs.Arena.{Arena, constant}
use Rattle.bdd_store.specs.Growth.{KeepsNodes}
use Rattle.bdd_ops.specs.declared.operands.Operation.{Operation}
use Rattle.bdd_ops.specs.declared.operands.Operation.TheVariants.{Ite}
use Rattle.bdd_ops.specs.declared.computed.Chosen.{Chosen}
use Rattle.bdd_ops.specs.declared.computed.Computed.{Computed}
use Rattle.bdd_ops.specs.Apply.{IsComputed, AreComputed, computed_of}
use Rattle.bdd_ops.proofs.ApplyLemmas.{AreNodesOf-kept, IsAnswer-kept}

IsComputed-kept : {s t : Arena} (c : Computed) → KeepsNodes s t → IsComputed s c → IsComputed t c
IsComputed-kept c k h = record { nodes = AreNodesOf-kept k h.nodes; answer = IsAnswer-kept k h.nodes h.answer }

pub AreComputed-kept : (s t : Arena) (table : List Computed) → KeepsNodes s t → AreComputed s table → AreComputed t table
AreComputed-kept s t table k h = All-weaker (IsComputed s) (IsComputed t) (λ c is. IsComputed-kept c k is) table h

-- an operation that three operands say all of
abbrev pub chosen_of : Computed → Chosen
chosen_of c = record { a = c.operands.a; b = c.operands.b; c = c.operands.c; answer = c.answer }

IsComputed-chosen : (s : Arena) (c : Computed) → c.operation ≡ Ite → c.operands.d ≡ constant false → IsComputed s c → IsComputed s (computed_of (chosen_of c))
IsComputed-chosen s c operation last is = grind arith

pub Contains-choice : (choices : List Chosen) (others : List Computed) (chosen : Chosen) → Contains choices chosen → Contains (map computed_of choices ++ others) (computed_of chosen)
Contains-choice choices others chosen has = Contains-append_left (map computed_of choices) others (computed_of chosen) (Contains-map computed_of choices chosen has)

pub Contains-other : (choices : List Chosen) (others : List Computed) (c : Computed) → Contains others c → Contains (map computed_of choices ++ others) c
Contains-other choices others c has = Contains-append_right (map computed_of choices) others c has

AreComputed-parts : (s : Arena) (choices : List Chosen) (others : List Computed) → All (λ chosen. IsComputed s (computed_of chosen)) choices → AreComputed s others → AreComputed s (map computed_of choices ++ others)
AreComputed-parts s choices others are_choices are_others = All-append (IsComputed s) (map computed_of choices) others (All-map (IsComputed s) computed_of choices are_choices) are_others

AreComputed-choices : (s : Arena) (choices : List Chosen) (others : List Computed) → AreComputed s (map computed_of choices ++ others) → All (λ chosen. IsComputed s (computed_of chosen)) choices
AreComputed-choices s choices others are = All-weaker (Contains choices) (λ chosen. IsComputed s (computed_of chosen)) (λ chosen has. All-contains (IsComputed s) (map computed_of choices ++ others) (computed_of chosen) are (Contains-choice choices others chosen has)) choices (All-contains_itself choices)

AreComputed-others : (s : Arena) (choices : List Chosen) (others : List Computed) → AreComputed s (map computed_of choices ++ others) → AreComputed s others
AreComputed-others s choices others are = All-weaker (Contains others) (IsComputed s) (λ c has. All-contains (IsComputed s) (map computed_of choices ++ others) c are (Contains-other choices others c has)) others (All-contains_itself others)

-- the same in each slot
All-one : {X : Type 0} (P : X → Type 0) (xs : List X) (x : X) → All (λ y. y ≡ x) xs → P x → All P xs
All-one P xs x are is = All-weaker (λ y. y ≡ x) P (λ y e. subst P (sym e) is) xs are

pub AreComputed-idle : (s : Arena) (choices : List Chosen) (others : List Computed) (chosen : Chosen) (c : Computed) → All (λ x. x ≡ chosen) choices → All (λ x. x ≡ c) others → IsComputed s (computed_of chosen) → IsComputed s c → AreComputed s (map computed_of choices ++ others)
AreComputed-idle s choices others chosen c choices_are others_are is_choice is = AreComputed-parts s choices others (All-one (λ x. IsComputed s (computed_of x)) choices chosen choices_are is_choice) (All-one (IsComputed s) others c others_are is)

-- in each slot what was in one before, or the new entry
All-put : {X : Type 0} (P : X → Type 0) (old new : List X) (x : X) → All (λ kept. Contains old kept ⊎ (kept ≡ x)) new → P x → All P old → All P new
All-put P old new x kept is are = grind arith

pub AreComputed-choice_put : (s : Arena) (old new : List Chosen) (others : List Computed) (c : Computed) → All (λ kept. Contains old kept ⊎ (kept ≡ chosen_of c)) new → c.operation ≡ Ite → c.operands.d ≡ constant false → IsComputed s c → AreComputed s (map computed_of old ++ others) → AreComputed s (map computed_of new ++ others)
AreComputed-choice_put s old new others c kept operation last is are = AreComputed-parts s new others (All-put (λ x. IsComputed s (computed_of x)) old new (chosen_of c) kept (IsComputed-chosen s c operation last is) (AreComputed-choices s old others are)) (AreComputed-others s old others are)

pub AreComputed-other_put : (s : Arena) (choices : List Chosen) (old new : List Computed) (c : Computed) → All (λ kept. Contains old kept ⊎ (kept ≡ c)) new → IsComputed s c → AreComputed s (map computed_of choices ++ old) → AreComputed s (map computed_of choices ++ new)
AreComputed-other_put s choices old new c kept is are = AreComputed-parts s choices new (AreComputed-choices s choices old are) (All-put (IsComputed s) old new c kept is (AreComputed-others s choices old are))
