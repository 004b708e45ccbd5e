-- What it means that all names match, and vectors by name.
use Rattle.std.proofs.Common.{◌≡◌, inl, inr, ℕ, zero, suc, ◌+◌, ◌-◌, ◌<◌, ◌≤◌, Bool, true, false, not, List, [], ◌∷◌, ◌++◌, length, map, take, drop, get_or, slice_get, Option, Some, None, IfSome, refl, sym, ap, ap₂, subst, ◌∙◌, arith, true≢false}
use Rattle.miters.proofs.Common.{find, is_none, list_any, option_map_or, bytes_eq, cases_lt, append_assoc, map-append, length-map, get_or-map, get_or_append_left, get_or-append-add, list_any-append, list_any_none, position-Some, get_or_from_slice_get, same_Some, Sig, X, bits, Latch, Parts, signal, signal_names, IsBoundTo, IsCareOf, column_of, CareSet, columns, column_names, is_care_vector, is_one, CareModel, signal_name, is_input, is_latch, has_latch, is_output, output_names, unmatched, latch_name, column_named, columns_by_name, by_name, model_of, HaveOneSource, list_any-map, option_or-neither, option_map-nothing, any-find, column_within, length-column_names}
use Rattle.std.proofs.lemmas.Bool.{not-false, or_left, or_right}
use Rattle.std.proofs.lemmas.List.{get_or-drop}
use Rattle.care_sets.specs.Care.{inputs_at, holds_at}
use Rattle.cyc_base.proofs.NameLemmas.{bytes_eq-true}
use Rattle.netlist.specs.declared.parts.Init.TheVariants.{Either}
use Rattle.netlist.specs.Fixpoint.{outs}
use Rattle.netlist.proofs.Decisions.{none_found}
use Rattle.netlist.proofs.CopyLemmas.{taken_first}
use Rattle.miters.proofs.NameLemmas.{nowhere_find}

-- ---- all names match

passes : {A : Type 0} (p : A → Bool) (xs : List A) → find (λ x. not (p x)) xs ≡ None → (k : ℕ) (d : A) → k < length xs → p (get_or xs k d) ≡ true
passes p xs none k d l = not-false (p (get_or xs k d)) (nowhere_find (λ x. not (p x)) xs none k d l)

-- the names of both netlists match
pub record Match (a b : Parts) : Type 0 where
  pub inputs_ab : (k : ℕ) (d : List ℕ) → k < length a.inputs → is_input b (get_or a.inputs k d) ≡ true
  pub inputs_ba : (k : ℕ) (d : List ℕ) → k < length b.inputs → is_input a (get_or b.inputs k d) ≡ true
  pub latches_ab : (k : ℕ) (d : Latch) → k < length a.latches → has_latch b (get_or a.latches k d) ≡ true
  pub latches_ba : (k : ℕ) (d : Latch) → k < length b.latches → is_latch a (get_or b.latches k d).name ≡ true
  pub outputs_ab : (k : ℕ) (d : List ℕ) → k < length (output_names a) → is_output b (get_or (output_names a) k d) ≡ true
  pub outputs_ba : (k : ℕ) (d : List ℕ) → k < length (output_names b) → is_output a (get_or (output_names b) k d) ≡ true

pub matched : (a b : Parts) → unmatched a b ≡ None → Match a b
matched a b none =
    let one = option_or-neither _ _ none in
    let two = option_or-neither _ _ one.1 in
    let three = option_or-neither _ _ two.1 in
    let four = option_or-neither _ _ three.1 in
    let five = option_or-neither _ _ four.1 in
    let six = option_or-neither _ _ five.1 in
    record {
      inputs_ab = passes (is_input b) a.inputs one.0;
      inputs_ba = passes (is_input a) b.inputs two.0;
      latches_ab = passes (has_latch b) a.latches (option_map-nothing latch_name _ three.0);
      latches_ba = passes (λ latch. is_latch a latch.name) b.latches (option_map-nothing latch_name _ four.0);
      outputs_ab = passes (is_output b) (output_names a) five.0;
      outputs_ba = passes (is_output a) (output_names b) six.0;
    }

-- ---- columns by name

-- a column that is there
pub record HasColumn (net : Parts) (name : List ℕ) : Type 0 where
  pub column : ℕ
  pub is : column_of net name ≡ Some column
  pub inside : column < columns net
  pub named : get_or (column_names net) column [] ≡ name

pub column_is : (net : Parts) (name : List ℕ) (c : ℕ) → column_of net name ≡ Some c → get_or (column_names net) c [] ≡ name
column_is net name c is = let p = position-Some (bytes_eq name) (column_names net) c [] is in sym (bytes_eq-true name (get_or (column_names net) c []) p.1)

pub has_column : (net : Parts) (name : List ℕ) (c : ℕ) → column_of net name ≡ Some c → HasColumn net name
has_column net name c is = grind (arith, column_within net name c is, column_is net name c is)

pub column_there : (net : Parts) (name : List ℕ) → list_any (bytes_eq name) (column_names net) ≡ true → HasColumn net name
column_there net name any = by (column_of net name) refl
  where
    by : (o : Option ℕ) → column_of net name ≡ o → HasColumn net name
    by o e = grind (arith, has_column, true≢false, list_any_none, none_found)

-- a latch that is there has a column
is_there : (o : Option Latch) → option_map_or (λ (latch : Latch). true) o false ≡ true → not (is_none o) ≡ true
is_there o e = grind arith

pub latch_any : (name : List ℕ) (latches : List Latch) → option_map_or (λ (latch : Latch). true) (find (λ latch. bytes_eq name latch.name) latches) false ≡ true → list_any (bytes_eq name) (map latch_name latches) ≡ true
latch_any name latches e = grind (arith, list_any-map (bytes_eq name) latch_name latches, any-find, is_there)

input_column : (net : Parts) (name : List ℕ) → is_input net name ≡ true → HasColumn net name
input_column net name e =
    column_there net name (list_any-append (bytes_eq name) net.inputs (map latch_name net.latches) ∙ or_left (is_input net name) (list_any (bytes_eq name) (map latch_name net.latches)) e)

latch_column : (net : Parts) (name : List ℕ) → is_latch net name ≡ true → HasColumn net name
latch_column net name e =
    column_there net name (list_any-append (bytes_eq name) net.inputs (map latch_name net.latches) ∙ or_right (is_input net name) (list_any (bytes_eq name) (map latch_name net.latches)) (latch_any name net.latches e))

abbrev no_latch : Latch
no_latch = record { name = []; from = signal 0; init = Either; clocked = false }

-- each column of a netlist is one of another that has its inputs and latches
pub column_among : (net other : Parts) → ((k : ℕ) (d : List ℕ) → k < length other.inputs → is_input net (get_or other.inputs k d) ≡ true) → ((k : ℕ) (d : Latch) → k < length other.latches → is_latch net (get_or other.latches k d).name ≡ true) → (c : ℕ) → c < columns other → HasColumn net (get_or (column_names other) c [])
column_among net other inputs latches c l = elim (cases_lt c (length other.inputs)) [
  | inl low ↦
      subst (HasColumn net) (sym (get_or_append_left other.inputs (map latch_name other.latches) [] c low))
      (input_column net (get_or other.inputs c []) (inputs c [] low))
  | inr high ↦
      let i : ℕ = c - length other.inputs in
      let less : i < length other.latches = omega arith in
      subst (HasColumn net)
      (sym (get_or-map latch_name other.latches i no_latch [] less)
      ∙ sym (get_or-append-add other.inputs (map latch_name other.latches) i [])
      ∙ ap (λ k. get_or (column_names other) k []) (let e : length other.inputs + i ≡ c = omega arith in e))
      (latch_column net (get_or other.latches i no_latch).name (latches i no_latch less))
]

module _ (a b : Parts) (match_ : Match a b) where
  -- each column of b is one of a
  pub column_in_a : (c : ℕ) → c < columns b → HasColumn a (get_or (column_names b) c [])
  column_in_a = column_among a b match_.inputs_ba match_.latches_ba

  -- so the table of columns has a column for each
  pub table_at : (c : ℕ) → c < columns b → get_or (columns_by_name a b) c 0 ≡ column_named a (get_or (column_names b) c [])
  table_at c l = get_or-map (column_named a) (column_names b) c [] 0 (subst (λ n. c < n) (sym (length-column_names b)) l)

  pub table_within : (c : ℕ) → c < columns b → get_or (columns_by_name a b) c 0 < columns a
  table_within c l = grind (arith, column_in_a c l, table_at c l)

pub length-table : (a b : Parts) → length (columns_by_name a b) ≡ columns b
length-table a b = length-map (column_names b) (column_named a) ∙ length-column_names b

pub length-by_name : (a b : Parts) (v : List Bool) → length (by_name a b v) ≡ columns b
length-by_name a b v = length-map (columns_by_name a b) (λ column. get_or v column false) ∙ length-table a b

-- the value of a column by name
pub by_name_at : (a b : Parts) (v : List Bool) (c : ℕ) → c < columns b → get_or (by_name a b v) c false ≡ get_or v (get_or (columns_by_name a b) c 0) false
by_name_at a b v c l = get_or-map (λ column. get_or v column false) (columns_by_name a b) c 0 false (subst (λ n. c < n) (sym (length-table a b)) l)

-- ---- care sets of one source

-- a column that a model reads, in both netlists
value_named : (a b : Parts) (v : List Bool) (name : List ℕ) (c e : ℕ) → column_of a name ≡ Some c → column_of b name ≡ Some e → get_or (by_name a b v) e false ≡ get_or v c false
value_named a b v name c e in_a in_b = grind (arith, column_within b name e in_b, column_is b name e in_b, by_name_at a b v e, get_or-map (column_named a) (column_names b) e [] 0, length-column_names b)

-- a column of a state, counted from the first latch
state_at : (v : List Bool) (first c : ℕ) → first ≤ c → get_or (drop first v) (c - first) false ≡ get_or v c false
state_at v first c l = get_or-drop first v (c - first) false ∙ ap (λ k. get_or v k false) (let e : first + (c - first) ≡ c = omega arith in e)

-- values of models' inputs, where each model reads the columns from a first one on
inputs_same : (a b : Parts) (v : List Bool) (first_a first_b : ℕ) (names : List (List ℕ)) (xs ys : List ℕ) →
    map (λ c. Some c) xs ≡ map (column_of a) names → map (λ c. Some c) ys ≡ map (column_of b) names →
    ((k d : ℕ) → k < length xs → first_a ≤ get_or xs k d) → ((k d : ℕ) → k < length ys → first_b ≤ get_or ys k d) →
    map (λ c. get_or (drop first_a v) (c - first_a) false) xs ≡ map (λ c. get_or (drop first_b (by_name a b v)) (c - first_b) false) ys
inputs_same a b v first_a first_b [] [] [] e f late_a late_b = refl
inputs_same a b v first_a first_b [] [] (y ∷ ys) e f late_a late_b = cc
inputs_same a b v first_a first_b [] (x ∷ xs) ys e f late_a late_b = cc
inputs_same a b v first_a first_b (n ∷ names) [] ys e f late_a late_b = cc
inputs_same a b v first_a first_b (n ∷ names) (x ∷ xs) [] e f late_a late_b = cc
inputs_same a b v first_a first_b (n ∷ names) (x ∷ xs) (y ∷ ys) e f late_a late_b =
    let here_a : column_of a n ≡ Some x = cc in
    let here_b : column_of b n ≡ Some y = cc in
    let rest_a : map (λ c. Some c) xs ≡ map (column_of a) names = cc in
    let rest_b : map (λ c. Some c) ys ≡ map (column_of b) names = cc in
    ap₂ (λ z zs. z ∷ zs)
    (state_at v first_a x (late_a zero x (omega arith)) ∙ sym (value_named a b v n x y here_a here_b) ∙ sym (state_at (by_name a b v) first_b y (late_b zero y (omega arith))))
    (inputs_same a b v first_a first_b names xs ys rest_a rest_b (λ k d l. late_a (suc k) d (omega arith)) (λ k d l. late_b (suc k) d (omega arith)))

-- what a model says of a vector, it says of the vector by name
holds_same : (a b : Parts) (v : List Bool) (first_a first_b : ℕ) (m n : CareModel) → IsBoundTo a first_a m → IsBoundTo b first_b n → m.net ≡ n.net → holds_at m (drop first_a v) ≡ holds_at n (drop first_b (by_name a b v))
holds_same a b v first_a first_b m n bound_m bound_n same =
    let names_m : map (λ c. Some c) m.columns ≡ map (column_of a) m.net.inputs = bound_m.names.named in
    let names_n : map (λ c. Some c) n.columns ≡ map (column_of b) m.net.inputs = bound_n.names.named ∙ ap (λ (net : Parts). map (column_of b) net.inputs) (sym same) in
    let inputs : inputs_at m (drop first_a v) ≡ inputs_at n (drop first_b (by_name a b v)) =
    ap (λ f. map (λ c. get_or (drop first_a v) (c - f) false) m.columns) bound_m.start
    ∙ inputs_same a b v first_a first_b m.net.inputs m.columns n.columns names_m names_n bound_m.late bound_n.late
    ∙ ap (λ f. map (λ c. get_or (drop first_b (by_name a b v)) (c - f) false) n.columns) (sym bound_n.start) in
    ap₂ (λ (net : Parts) (values : List Bool). is_one (get_or (outs net (bits values)) 0 X)) same inputs

part_same : (a b : Parts) (v : List Bool) (first_a first_b : ℕ) (m n : Option CareModel) → IfSome m (IsBoundTo a first_a) → IfSome n (IsBoundTo b first_b) → model_of m ≡ model_of n →
    option_map_or (λ model. holds_at model (drop first_a v)) m true ≡ option_map_or (λ model. holds_at model (drop first_b (by_name a b v))) n true
part_same a b v first_a first_b None None bound_m bound_n e = refl
part_same a b v first_a first_b None (Some n) bound_m bound_n e = cc
part_same a b v first_a first_b (Some m) None bound_m bound_n e = cc
part_same a b v first_a first_b (Some m) (Some n) bound_m bound_n e = holds_same a b v first_a first_b m n bound_m bound_n (same_Some m.net n.net e)

pub care_by_name : (a b : Parts) (care_a care_b : CareSet) (v : List Bool) → IsCareOf a care_a → IsCareOf b care_b → HaveOneSource care_a care_b → is_care_vector b care_b (by_name a b v) ≡ is_care_vector a care_a v
care_by_name a b care_a care_b v is_a is_b one =
    grind (arith, part_same a b v (length a.inputs) (length b.inputs) care_a.invariant care_b.invariant is_a.invariant is_b.invariant one.invariant, part_same a b v 0 0 care_a.assume care_b.assume is_a.assume is_b.assume one.assume)

pub length_by_name_is : (a b : Parts) (v named : List Bool) → named ≡ by_name a b v → length named ≡ columns b
length_by_name_is a b v named is = ap length is ∙ length-by_name a b v

-- the name of a column, by its number
pub column_taken : {T : Type 0} (net : Parts) (f : List ℕ → T) (i : ℕ) (name : List ℕ) → i < columns net → slice_get (signal_names net) i ≡ Some name → map f (take (i + 1) (column_names net)) ≡ map f (take i (column_names net)) ++ f name ∷ []
column_taken net f i name l is = grind (arith, length-column_names net, append_assoc net.inputs (map latch_name net.latches), taken_first (column_names net), map-append f (take i (column_names net)) (name ∷ []))

-- the name of a signal, and that of an input
pub named : (net : Parts) (s : Sig) (name : List ℕ) → slice_get (signal_names net) s.0 ≡ Some name → signal_name net s ≡ name
named net s name is = get_or_from_slice_get (signal_names net) s.0 name [] is
