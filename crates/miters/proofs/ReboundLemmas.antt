-- Care models that are bound to one netlist have no fault for another whose names match, and are bound to it by name.
use Rattle.std.proofs.Common.{◌≡◌, ◌⊎◌, inl, inr, ℕ, zero, suc, ◌<◌, ◌≤◌, true, false, List, [], ◌∷◌, length, map, get_or, Option, Some, None, IfSome, refl, sym, ap, ◌∙◌, arith, true≢false}
use Rattle.miters.proofs.Common.{find, option_map, bytes_eq, cases_lt, get_or_append_left, get_or_default, position-Some, Latch, Parts, IsBoundTo, IsCareOf, column_of, CareSet, column_names, CareModel, has_latch, is_input, is_latch, unmatched, latch_name, column_named, model_of, HaveOneSource, column_within, rebound, list_any_none}
use Rattle.std.specs.Prelude.{◌||◌, is_some, nat_lt}
use Rattle.care_sets.specs.Binding.{is_unknown_name, is_before, BindsAny, BindsBoth, Binds, HasNoFault, IsCare, IsCareModel, IsFirstFault}
use Rattle.care_sets.proofs.FaultLemmas as faults
use Rattle.care_sets.specs.declared.fault.CareFault.{CareFault}
use Rattle.care_sets.specs.declared.fault.CareFault.TheVariants.{Memory}
use Rattle.miters.specs.Rebound.{bound_to, BindsEach}
use Rattle.miters.proofs.MatchLemmas.{Match, matched, HasColumn, column_among, column_is}

-- a latch that has a latch's name and init has its name
has_is : (net : Parts) (latch : Latch) → has_latch net latch ≡ true → is_latch net latch.name ≡ true
has_is net latch e = grind arith

module _ (a b : Parts) (match_ : Match a b) where
  -- the column of a name that is one of a
  again : (name : List ℕ) (c : ℕ) → column_of a name ≡ Some c → HasColumn b name
  again name c is = grind (arith, column_is a name c is, column_among b a match_.inputs_ab, has_is b, column_within a name c is)

  -- that of a latch is one of a latch
  latch_again : (name : List ℕ) (c e : ℕ) → column_of a name ≡ Some c → length a.inputs ≤ c → column_of b name ≡ Some e → length b.inputs ≤ e
  latch_again name c e in_a late in_b = elim (cases_lt e (length b.inputs)) [
    | inl early ↦ absurd (true≢false (sym (input early) ∙ no_input))
    | inr behind ↦ behind
  ]
    where
      input : e < length b.inputs → is_input a name ≡ true
      input early = grind (arith, get_or_append_left b.inputs (map latch_name b.latches) [] e early, column_is b name e in_b)

      no_input : is_input a name ≡ false
      no_input =
          let at = position-Some (bytes_eq name) (column_names a) c [] in_a in
          list_any_none (bytes_eq name) a.inputs (λ k d l.
          ap (bytes_eq name) (get_or_default a.inputs k d [] l ∙ sym (get_or_append_left a.inputs (map latch_name a.latches) [] k l))
          ∙ at.2 k (omega arith))

-- columns of a from a first one on are columns of b from a first one on
abbrev Keeps : Parts → Parts → ℕ → ℕ → Type 0
Keeps a b first_a first_b = (name : List ℕ) (c e : ℕ) → column_of a name ≡ Some c → first_a ≤ c → column_of b name ≡ Some e → first_b ≤ e

-- the names of a model's inputs
record Names (b : Parts) (first : ℕ) (names : List (List ℕ)) : Type 0 where
  known : find (is_unknown_name b) names ≡ None
  late : find (is_before b first) names ≡ None
  named : map Some (map (column_named b) names) ≡ map (column_of b) names
  behind : (k d : ℕ) → k < length (map (column_named b) names) → first ≤ get_or (map (column_named b) names) k d

names_again : (a b : Parts) → Match a b → (first_a first_b : ℕ) → Keeps a b first_a first_b → (names : List (List ℕ)) (xs : List ℕ) →
    map Some xs ≡ map (column_of a) names → ((k d : ℕ) → k < length xs → first_a ≤ get_or xs k d) → Names b first_b names
names_again a b match_ first_a first_b keeps [] xs e late = record { known = refl; late = refl; named = refl; behind = λ k d l. absurd (omega arith) }
names_again a b match_ first_a first_b keeps (name ∷ names) [] e late = cc
names_again a b match_ first_a first_b keeps (name ∷ names) (x ∷ xs) e late =
    let here : column_of a name ≡ Some x = cc in
    let there : map Some xs ≡ map (column_of a) names = cc in
    let rest = names_again a b match_ first_a first_b keeps names xs there (λ k d l. late (suc k) d (omega arith)) in
    let column = again a b match_ name x here in
    let behind : first_b ≤ column.column = keeps name x column.column here (late zero x (omega arith)) column.is in
    let not_before : nat_lt column.column first_b ≡ false = grind (arith, behind) in
    grind arith

-- a model that is bound to a is bound to b so
binds_again : (a b : Parts) → Match a b → (first_a first_b : ℕ) → Keeps a b first_a first_b → (model : CareModel) → IsBoundTo a first_a model → IsCareModel model
    → Binds b first_b model.net (bound_to b first_b model)
binds_again a b match_ first_a first_b keeps model bound valid =
    let names = names_again a b match_ first_a first_b keeps model.net.inputs model.columns bound.names.named bound.late in
    faults.bound_model b first_b model.net (map (column_named b) model.net.inputs)
    (faults.no_fault b first_b model.net valid.latches valid.outputs names.known names.late)
    valid.loop_free (record { named = names.named }) names.behind

any_again : (a b : Parts) → Match a b → (first_a first_b : ℕ) → Keeps a b first_a first_b → (model : Option CareModel) → IfSome model (IsBoundTo a first_a) → IfSome model IsCareModel
    → IfSome (model_of model) (HasNoFault b first_b) × IfSome (option_map (bound_to b first_b) model) (IsBoundTo b first_b)
any_again a b match_ first_a first_b keeps None bound valid = (tt, tt)
any_again a b match_ first_a first_b keeps (Some model) bound valid = grind (arith, binds_again a b match_ first_a first_b keeps model bound valid)

all_kept : (a b : Parts) → Keeps a b 0 0
all_kept a b name c e in_a late in_b = omega arith

pub assume_again : (a b : Parts) (care : CareSet) (model : Option Parts) → unmatched a b ≡ None → IsCareOf a care → IsCare care → model ≡ model_of care.assume
    → IfSome model (HasNoFault b 0)
assume_again a b care model none is valid same = grind (arith, any_again a b (matched a b none) 0 0 (all_kept a b) care.assume is.assume valid.assume, matched a b none, all_kept a b)

pub invariant_again : (a b : Parts) (care : CareSet) (model : Option Parts) → unmatched a b ≡ None → IsCareOf a care → IsCare care → model ≡ model_of care.invariant
    → IfSome model (HasNoFault b (length b.inputs))
invariant_again a b care model none is valid same =
    grind (arith, any_again a b (matched a b none) (length a.inputs) (length b.inputs) (latch_again a b (matched a b none)) care.invariant is.invariant valid.invariant, matched a b none, latch_again a b (matched a b none))

-- so it is the care set of b
pub rebound_is_care : (a b : Parts) (care : CareSet) → unmatched a b ≡ None → IsCareOf a care → IsCare care → IsCareOf b (rebound b care)
rebound_is_care a b care none is valid =
    grind (arith, any_again a b (matched a b none) 0 0 (all_kept a b) care.assume is.assume valid.assume, matched a b none, all_kept a b, any_again a b (matched a b none) (length a.inputs) (length b.inputs) (latch_again a b (matched a b none)) care.invariant is.invariant valid.invariant, latch_again a b (matched a b none))

-- ---- models without a fault have no first fault

pub without_fault : (net : Parts) (a i : Option Parts) (fault : CareFault) → IfSome a (HasNoFault net 0) → IfSome i (HasNoFault net (length net.inputs))
    → (is_some a || is_some i) ≡ true → (fault ≡ Memory) ⊎ IsFirstFault net a i fault → fault ≡ Memory
without_fault net a i fault sound_a sound_i some h = grind arith

-- ---- what binding makes

pub binds_none : (net : Parts) (a i : Option Parts) (care : CareSet) → a ≡ None → i ≡ None → care.assume ≡ None → care.invariant ≡ None → BindsEach net a i care
binds_none net a i care no_a no_i no_assume no_invariant = grind arith

pub binds_both : (net : Parts) (a i : Option Parts) (care : CareSet) → BindsBoth net a i care → BindsEach net a i care
binds_both net a i care both = record { assume = both.assume; invariant = both.invariant }

columns_told : (net : Parts) (names : List (List ℕ)) (xs : List ℕ) → map Some xs ≡ map (column_of net) names → xs ≡ map (column_named net) names
columns_told net [] [] is = refl
columns_told net [] (x ∷ xs) is = cc
columns_told net (name ∷ names) [] is = cc
columns_told net (name ∷ names) (x ∷ xs) is = grind (arith, columns_told net names xs)

one_told : (net : Parts) (first : ℕ) (model : CareModel) (bound : CareModel) → Binds net first model.net bound → bound ≡ bound_to net first model
one_told net first model bound binds = grind (arith, columns_told)

any_told : (net : Parts) (first : ℕ) (model bound : Option CareModel) → BindsAny net first (model_of model) bound → bound ≡ option_map (bound_to net first) model
any_told net first model bound binds = grind (arith, one_told)

pub rebound_told : (net : Parts) (care other : CareSet) (a i : Option Parts) → a ≡ model_of care.assume → i ≡ model_of care.invariant
    → BindsEach net a i other → other ≡ rebound net care
rebound_told net care other a i is_a is_i binds = grind (arith, any_told net 0 care.assume other.assume, any_told net (length net.inputs) care.invariant other.invariant)

pub rebound_source : (net : Parts) (care other : CareSet) → other ≡ rebound net care → HaveOneSource care other
rebound_source net care other is = grind arith
