-- Steps of loops over outputs.
use Rattle.std.proofs.Common.{◌≡◌, ◌≢◌, ℕ, ◌+◌, ◌<◌, true, false, not, if◌then◌else◌, List, [], ◌∷◌, ◌++◌, length, take, get_or, slice_get, Some, None, sym, ap, ap₂, ◌∙◌, arith}
use Rattle.miters.proofs.Common.{find, list_any, IsDistinct, get_or_default, get_or-map, length-map, take_more, length-take-le, get_or-take, get_or_from_slice_get, Sig, Parts, signal, sig_eq, signal_names, signal_name, is_output, output_names, eq-eqb, false_from_ne_true, list_any_none}
use Rattle.std.specs.List.{AllPairs}
use Rattle.std.proofs.lemmas.Option.{slice_get-get_or}
use Rattle.std.specs.Bool.{Decides}
use Rattle.std.proofs.lemmas.Bool.{eqb-true}
use Rattle.std.proofs.lemmas.Map.Made.{AllPairs-from_IsDistinct}
use Rattle.miters.proofs.NameLemmas.{find_next, find_here}

sig_decides : (a b : Sig) → Decides (sig_eq a b) (a ≡ b)
sig_decides a b = (λ e. ap signal (eqb-true a.0 b.0 e), λ e. eq-eqb a.0 b.0 (ap (λ (s : Sig). s.0) e))

not_same : (a b : Sig) → a ≢ b → sig_eq a b ≡ false
not_same a b other = false_from_ne_true (sig_eq a b) (λ e. other ((sig_decides a b).0 e))

-- one more output in the set of outputs
pub outputs_more : (own : List Sig) (i : ℕ) (s d : Sig) (old new : List Sig) → IsDistinct sig_eq own → i < length own → s ≡ get_or own i d → old ≡ take i own →
    new ≡ (if list_any (λ x. sig_eq s x) old then old else old ++ s ∷ []) → new ≡ take (i + 1) own
outputs_more own i s d old new distinct inside is before after =
    let apart : AllPairs (λ x y. x ≢ y) own = AllPairs-from_IsDistinct sig_decides own distinct in
    let none : list_any (λ x. sig_eq s x) old ≡ false =
    ap (list_any (λ x. sig_eq s x)) before
    ∙ list_any_none (λ x. sig_eq s x) (take i own) (λ k e l.
    let len = length-take-le i own (omega arith) in
    let less : k < i = omega arith in
    ap (λ x. sig_eq s x) (get_or-take i own k e less)
    ∙ not_same s (get_or own k e) (λ same. apart k i e less inside (sym same ∙ is ∙ get_or_default own i d e inside))) in
    after
    ∙ ap (λ b. if b then old else old ++ s ∷ []) none
    ∙ ap₂ (λ (xs : List Sig) (x : Sig). xs ++ x ∷ []) before is
    ∙ sym (take_more own i d inside)

-- the name of an output, by its place
named_output : (net : Parts) (i : ℕ) (d : Sig) (name : List ℕ) → i < length net.outputs → slice_get (signal_names net) (get_or net.outputs i d).0 ≡ Some name → slice_get (output_names net) i ≡ Some name
named_output net i d name inside is =
    grind (arith, length-map net.outputs (signal_name net), slice_get-get_or (output_names net) i [], get_or-map (signal_name net) net.outputs i d [] inside, get_or_from_slice_get (signal_names net) (get_or net.outputs i d).0 name [] is)

module _ (net other : Parts) (own : List Sig) (is_own : own ≡ net.outputs) (i : ℕ) (s d : Sig) (name : List ℕ) (inside : i < length own) (is : s ≡ get_or own i d)
    (named : slice_get (signal_names net) s.0 ≡ Some name) (before : find (λ n. not (is_output other n)) (take i (output_names net)) ≡ None) where
  at : slice_get (output_names net) i ≡ Some name
  at = grind (arith, named_output net i d name)

  pub output_next : is_output other name ≡ true → find (λ n. not (is_output other n)) (take (i + 1) (output_names net)) ≡ None
  output_next there = find_next (λ n. not (is_output other n)) (output_names net) i name before at (ap not there)

  pub output_here : is_output other name ≡ false → Some name ≡ find (λ n. not (is_output other n)) (output_names net)
  output_here missing = sym (find_here (λ n. not (is_output other n)) (output_names net) i name before at (ap not missing))
