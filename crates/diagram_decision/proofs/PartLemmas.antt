-- What the least vectors of sets say of the parts of acceptance.
use Rattle.std.proofs.Common.{◌≡◌, ◌≢◌, ℕ, zero, suc, ◌+◌, ◌<◌, ◌≤◌, Bool, true, false, not, ◌&&◌, cond, List, [], ◌∷◌, length, take, drop, get_or, Option, Some, None, refl, sym, ap, ◌∙◌, subst, arith, Result, replicate, IfOk, add-one}
use Rattle.diagram_decision.proofs.Common.{find, is_none, option_map, take_all, Node, Arena, den, IsNodeOf, KeepsNodes, nodes, nodes-alike, Sig, X, bits, Rails, trit_of, value_of, Parts, gate_sig, next, fix_gates, IsLayout, by_variable, laid, order, order-is, CareModel, IsCareOf, CareSet, columns, is_in_invariant, is_care_vector, IsCareVector, Initial, Undetermined, Leaves, Observe, gate_sigs, observed, is_x, is_undetermined, care_vectors, next_state, leaves, initial_refusal, undetermined_refusal, leaves_refusal, vectors, care_vector_decides, gate_wire, Tells, AreFixed, starts, has_state_inside, difference, ReadsWithin, AreLoose, is_unknown_at, value_in, IfSome, length-replicate, is_leaving, HasValues, IsFirstToRefuse}
use Rattle.std.specs.Prelude.{filter}
use Rattle.std.proofs.lemmas.List.Filters.{length-filter_more}
use Rattle.std.proofs.lemmas.List.Folds.{find-append}
use Rattle.cyc_base.proofs.VectorLemmas.{find-alike, find-none}
use Rattle.cyc_base.proofs.ListLemmas.{find-map}
use Rattle.dual_rail.proofs.SurelyLemmas.{values_of-kept, All-rails-kept}
use Rattle.care_sets.specs.Binding.{IsBoundTo}
use Rattle.care_sets.proofs.CareLemmas.{vectors_serve_assume, states_serve_invariant}
use Rattle.refusals.specs.Refusals.{is_among, observed_gates}
use Rattle.refusals.proofs.FirstLemmas.{find-filter, any-find}
use Rattle.refusals.proofs.RefusalLemmas.{length-gate_sigs, gate_sig_at, known-is_x, fails_after, find_none-all, no_first, next_state_is}
use Rattle.refusals.proofs.LawLemmas.{care_test, observed_test, is_loose}
use Rattle.refusals.specs.Tests.{LoadsAreKnown}

-- ---- sets

pub Tells-kept : {net : Parts} {s t : Arena} {n : Node} {test : List Bool → Bool} → KeepsNodes s t → Tells net s n test → Tells net t n test
Tells-kept {net} {n = n} k is = grind arith

-- the vectors of the first set that aren't in the second
pub Tells-minus : {net : Parts} {s t : Arena} {m n r : Node} {f g : List Bool → Bool} → t.vars ≡ s.vars → IsNodeOf t r → ((v : List Bool) → den t r v ≡ difference s m n v) → Tells net s m f → Tells net s n g → Tells net t r (λ v. f v && not (g v))
Tells-minus {net} vars node same first second = grind arith

-- the netlist's order is a layout
pub order-layout : (net : Parts) (n : ℕ) (columns_by : List ℕ) → n ≡ columns net → columns_by ≡ order net → IsLayout n columns_by
order-layout net n columns_by vars is = subst (λ m. IsLayout m columns_by) (sym vars) (subst (IsLayout (columns net)) (sym is) (order-is net))

-- the least vector of a set is the first that passes its test
pub least-told : {net : Parts} {a : Arena} {n : Node} {test : List Bool → Bool} {columns_by : List ℕ} → a.vars ≡ columns net → columns_by ≡ order net → Tells net a n test →
    find (λ v. den a n (by_variable columns_by v)) (vectors a.vars) ≡ find test (vectors (columns net))
least-told {net} {a} {n} {test} vars is told = grind (arith, find-alike (columns net))

-- what two clauses say together of an answer
pub IfOk-both : {T E : Type 0} (r : Result T E) {P Q R : T → Type 0} → ((x : T) → P x → Q x → R x) → IfOk r P → IfOk r Q → IfOk r R
IfOk-both r both p q = grind arith

-- ---- permitted states

mapped-twice : {A B C : Type 0} (f : B → C) (g : A → B) (o : Option A) → option_map (λ x. f (g x)) o ≡ option_map f (option_map g o)
mapped-twice f g o = grind arith

-- a test of the columns after the first ones finds their part of the least vector
pub find-after : (first rest n : ℕ) → n ≡ first + rest → (p : List Bool → Bool) →
    find p (vectors rest) ≡ option_map (drop first) (find (λ v. p (drop first v)) (vectors n))
find-after zero rest n is p = grind arith
find-after (suc first) rest zero is p = absurd (omega (arith, is))
find-after (suc first) rest (suc n) is p = grind (arith, find-after first rest n, find-append, find-map)

-- the least vector of permitted states outside the invariant
pub initial-is : (net : Parts) (care : CareSet) (found : Option (List Bool)) → found ≡ find (λ v. starts net v && not (has_state_inside net care v)) (vectors (columns net)) →
    option_map (λ v. Initial (drop (length net.inputs) v)) found ≡ initial_refusal net care
initial-is net care found is = grind (arith, mapped-twice Initial (drop (length net.inputs)), find-after (length net.inputs) (length net.latches) (columns net), find-filter)

-- ---- unknown gates

pub unknown-values : (c one zero_ : Bool) → ((c && not one) && not zero_) ≡ (c && is_x (trit_of one zero_))
unknown-values c o z = grind arith

-- what the second difference costs
pub unknown-nodes : (s t : Arena) (set first : Node) (rails : Rails) (w : ℕ) → KeepsNodes s t → IsNodeOf s rails.zero → ((v : List Bool) → den t first v ≡ difference s set rails.one v) →
    nodes s.vars (λ v. den s set v && is_x (value_of s rails v)) ≤ w → nodes t.vars (difference t first rails.zero) ≤ w
unknown-nodes s t set first rails w keeps zero_in open_is fits = grind (arith, nodes-alike s.vars (difference t first rails.zero), unknown-values)

-- the first place that passes
first-place : {A : Type 0} (p : A → Bool) (xs : List A) (k : ℕ) (d : A) → k < length xs → p (get_or xs k d) ≡ true → ((j : ℕ) → j < k → p (get_or xs j d) ≡ false) → find p xs ≡ Some (get_or xs k d)
first-place p [] k d inside here before = absurd (omega (arith, inside))
first-place p (x ∷ xs) zero d inside here before = ap (λ t. cond t (Some x) (find p xs)) here
first-place p (x ∷ xs) (suc k) d inside here before =
    ap (λ t. cond t (Some x) (find p xs)) (before 0 (omega arith)) ∙ first-place p xs k d (omega (arith, inside)) here (λ j less. before (suc j) (omega (arith, less)))

-- whether a gate is unknown at some vector of care
some-unknown : (net : Parts) (care : CareSet) (s : Sig) →
    is_loose net care s ≡ not (is_none (find (λ v. is_care_vector net care v && is_undetermined net s v) (vectors (columns net))))
some-unknown net care s = any-find (is_undetermined net s) (care_vectors net care) ∙ ap (λ o. not (is_none o)) (care_test net care (is_undetermined net s))

-- ---- observed gates

-- the gate is known on care
abbrev pub IsKnownOnCare : Parts → CareSet → ℕ → Type 0
IsKnownOnCare net care k = find (is_unknown_at net care k) (vectors (columns net)) ≡ None

-- where it is X at no care vector
pub known-here : (net : Parts) (care : CareSet) (n : ℕ) → n < length net.gates → ((v : List Bool) → IsCareVector net care v → value_in (fix_gates net (bits v)) n ≢ X) → IsKnownOnCare net care n
known-here net care n inside known =
    find-none (columns net) (is_unknown_at net care n)
    (λ w wide. fails_after (is_care_vector net care w) (is_undetermined net (gate_sig net n) w)
    (λ counts. ap is_x (gate_wire net w n wide) ∙ known-is_x (get_or (fix_gates net (bits w)) n X) (known w (care_vector_decides net care w wide counts))))

-- a gate that isn't loose is known on care
pub loose-known : (net : Parts) (care : CareSet) (k : ℕ) → is_loose net care (gate_sig net k) ≡ false → IsKnownOnCare net care k
loose-known net care k isnt = grind (arith, some-unknown net care (gate_sig net k))

known-loose : (net : Parts) (care : CareSet) (k : ℕ) → IsKnownOnCare net care k → is_loose net care (gate_sig net k) ≡ false
known-loose net care k known = some-unknown net care (gate_sig net k) ∙ ap (λ o. not (is_none o)) known

-- those of the first gates that are marked are known
abbrev pub AreKnownBelow : Parts → CareSet → List Bool → ℕ → Type 0
AreKnownBelow net care marks n = (k : ℕ) → k < n → get_or marks k false ≡ true → IsKnownOnCare net care k

module _ (net : Parts) (care : CareSet) (what : Observe) where
  abbrev seen_loose : Sig → Bool
  seen_loose s = is_among (observed net what) s && is_loose net care s

  -- a gate that is known where it is observed
  passes-not : (k : ℕ) (d : Sig) → k < length net.gates → (is_among (observed net what) (gate_sig net k) ≡ true → IsKnownOnCare net care k) → seen_loose (get_or (gate_sigs net) k d) ≡ false
  passes-not k d inside known = grind (arith, gate_sig_at net k d inside, fails_after (is_among (observed net what) (gate_sig net k)) (is_loose net care (gate_sig net k)), known-loose net care k)

  -- the first gate that is unknown and observed
  pub undetermined-found : (k : ℕ) (v : List Bool) → k < length net.gates → IsFirstToRefuse net care what k → find (is_unknown_at net care k) (vectors (columns net)) ≡ Some v →
      undetermined_refusal net care what ≡ Some (Undetermined v (gate_sig net k))
  undetermined-found k v inside is found =
      let none : Sig = gate_sig net k in
      grind (arith, gate_sig_at net k none inside, some-unknown net care (gate_sig net k), observed_test net what (is_loose net care), first-place seen_loose (gate_sigs net) k none, length-gate_sigs net, passes-not, care_test net care (is_undetermined net (gate_sig net k)))

  -- or none is
  pub undetermined-none : ((k : ℕ) → k < length net.gates → is_among (observed net what) (gate_sig net k) ≡ true → IsKnownOnCare net care k) → undetermined_refusal net care what ≡ None
  undetermined-none known =
      ap (option_map (λ (u : Sig × List Bool). Undetermined u.1 u.0)) (no_first (is_undetermined net) (observed_gates net what) (care_vectors net care)
      (observed_test net what (is_loose net care)
      ∙ find_none-all seen_loose (gate_sigs net) (λ k d inside.
      let gate : k < length net.gates = omega (arith, inside, length-gate_sigs net) in
      passes-not k d gate (known k gate))))

-- one gate more, which is known or not marked
pub known-more : (net : Parts) (care : CareSet) (marks : List Bool) (n : ℕ) → AreKnownBelow net care marks n → (get_or marks n false ≡ true → IsKnownOnCare net care n) →
    AreKnownBelow net care marks (n + 1)
known-more net care marks n before here k less = grind arith

-- ---- loose gates

-- how many of the first gates are unknown at some vector of care
abbrev pub loose_below : Parts → CareSet → ℕ → ℕ
loose_below net care n = length (filter (is_loose net care) (take n (gate_sigs net)))

loose-step : (net : Parts) (care : CareSet) (n : ℕ) → n < length net.gates → loose_below net care (n + 1) ≡ loose_below net care n + cond (is_loose net care (gate_sig net n)) 1 0
loose-step net care n inside = grind (arith, length-filter_more (is_loose net care) (gate_sigs net) n (gate_sig net n), length-gate_sigs net, gate_sig_at net n (gate_sig net n) inside)

-- one more that is
pub loose-more : (net : Parts) (care : CareSet) (n loose : ℕ) → n < length net.gates → loose ≡ loose_below net care n →
    is_none (find (is_unknown_at net care n) (vectors (columns net))) ≡ false → loose + 1 ≡ loose_below net care (n + 1)
loose-more net care n loose inside before found = grind (arith, some-unknown net care (gate_sig net n), loose-step net care n inside)

-- what isn't found
pub none_found : (o : Option (List Bool)) → is_none o ≡ true → o ≡ None
none_found o is = grind arith

-- or isn't
pub loose-same : (net : Parts) (care : CareSet) (n loose : ℕ) → n < length net.gates → loose ≡ loose_below net care n → IsKnownOnCare net care n → loose ≡ loose_below net care (n + 1)
loose-same net care n loose inside before known = grind (arith, loose-step net care n inside, known-loose net care n known)

-- all of them
pub loose-all : (net : Parts) (care : CareSet) (n loose : ℕ) → length net.gates ≤ n → loose ≡ loose_below net care n → AreLoose net care loose
loose-all net care n loose all is = is ∙ ap (λ (xs : List Sig). length (filter (is_loose net care) xs)) (take_all n (gate_sigs net) (omega (arith, length-gate_sigs net, all)))

-- where none is unknown on care
pub loose-none : (net : Parts) (care : CareSet) → ((n : ℕ) → n < length net.gates → IsKnownOnCare net care n) → AreLoose net care 0
loose-none net care known = loose-all net care (length net.gates) 0 (omega arith) (below (length net.gates) (omega arith))
  where
    below : (n : ℕ) → n ≤ length net.gates → 0 ≡ loose_below net care n
    below zero all = refl
    below (suc n) all = rw add-one at (loose-same net care n 0 (omega (arith, all)) (below n (omega (arith, all))) (known n (omega (arith, all))))

-- ---- next states

-- what a care model reads
reads-within : (net : Parts) (first width : ℕ) (o : Option CareModel) → IfSome o (IsBoundTo net first) → IfSome o (HasValues (replicate width false)) → IfSome o (ReadsWithin first width)
reads-within net first width o bound has = grind (arith, length-replicate)

-- the invariant reads latches alone
pub invariant-reads : (net : Parts) (care : CareSet) (width : ℕ) → IsCareOf net care → width ≡ length net.latches → IfSome care.invariant (ReadsWithin (length net.inputs) width)
invariant-reads net care width bound is = grind (arith, reads-within net (length net.inputs) width care.invariant bound.invariant, states_serve_invariant net care (replicate width false) bound, length-replicate width false)

-- the assumption reads columns
pub assume-reads : (net : Parts) (care : CareSet) (width : ℕ) → IsCareOf net care → width ≡ columns net → IfSome care.assume (ReadsWithin 0 width)
assume-reads net care width bound is = grind (arith, reads-within net 0 width care.assume bound.assume, vectors_serve_assume net care (replicate width false) bound, length-replicate width false)

-- where the invariant is asked of the next state at vectors of care, what is left are those that leave it
pub leaving-value : {net : Parts} {care : CareSet} {a : Arena} {set : Node} (inside : Node) → a.vars ≡ columns net → Tells net a set (is_care_vector net care) → LoadsAreKnown net care →
    ((q v : List Bool) → length v ≡ a.vars → den a set (laid net v) ≡ true → next net (bits v) ≡ bits q → den a inside (laid net v) ≡ is_in_invariant care q) →
    (v : List Bool) → length v ≡ a.vars → difference a set inside (laid net v) ≡ is_leaving net care v
leaving-value {net} {care} {a} {set} inside vars told loads inside_is v wide = by (den a set (laid net v)) refl ∙ ap (λ t. t && leaves net care v) (told.value v wide)
  where
    by : (b : Bool) → den a set (laid net v) ≡ b → (b && not (den a inside (laid net v))) ≡ (b && leaves net care v)
    by false is = refl
    by true is = grind (arith, care_vector_decides net care v, next_state_is net v)

-- the refusal is that of the first vector that leaves
pub leaves-is : (net : Parts) (care : CareSet) {found : Option (List Bool)} → find (is_leaving net care) (vectors (columns net)) ≡ found → leaves_refusal net care ≡ option_map (λ v. Leaves v (next_state net v)) found
leaves-is net care is = ap (option_map (λ v. Leaves v (next_state net v))) (care_test net care (leaves net care) ∙ is)

-- the rails of signals stay so where nodes are kept
pub AreFixed-kept : {net : Parts} {s t : Arena} {rails : List Rails} → KeepsNodes s t → AreFixed net s rails → AreFixed net t rails
AreFixed-kept {net} {s} {t} {rails} k is = grind (arith, All-rails-kept k rails is.proper, values_of-kept k rails is.proper)
