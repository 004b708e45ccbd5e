-- The rails of columns, one variable after another.
use Rattle.std.proofs.Common.{◌≡◌, ◌≢◌, inl, inr, ℕ, ◌+◌, ◌<◌, ◌≤◌, Bool, false, List, get_or, set, sym, ap, ◌∙◌, arith, length-set, get_or-set_same, get_or-set_other}
use Rattle.fixpoint.proofs.Common.{All-rails-kept, All-set, cases_lt, ext_get_or, get_or-map, length-map, Arena, IsLayout, KeepsNodes, X, Rails, AreRailsOf, value_of, value_of-kept, values_of, rails_at, unknown}
use Rattle.bdd_ops.specs.Least.{by_variable}
use Rattle.bdd_ops.specs.Operations.{bit_at}
use Rattle.bdd_ops.proofs.PossibleLemmas.{by_variable-read}
use Rattle.cyc_base.specs.Values.{bit, bits}
use Rattle.dual_rail.proofs.SurelyLemmas.{values_of-kept}
use Rattle.fixpoint.proofs.LayoutLemmas.{variable_of}
use Rattle.fixpoint.proofs.WireLemmas.{rails_at-proper}
use Rattle.fixpoint.specs.Columns.{AreFirstColumns, AreColumns}

-- one variable more
pub columns-more : {s t : Arena} {columns : List ℕ} {first : ℕ} {rails : List Rails} → KeepsNodes s t → IsLayout s.vars columns → first < s.vars → AreFirstColumns s columns first rails →
    (r : Rails) → AreRailsOf t r → ((w : List Bool) → value_of t r w ≡ bit (bit_at first w)) → AreFirstColumns t columns (first + 1) (set rails (get_or columns first 0) r)
columns-more {s} {t} {columns} {first} {rails} keeps are inside before r proper value = record {
  width = length-set rails (get_or columns first 0) r ∙ before.width ∙ sym keeps.vars;
  proper = All-set (AreRailsOf t) rails (get_or columns first 0) r proper (All-rails-kept keeps rails before.proper);
  values = λ k less w. elim (cases_lt k first) [
    | inl low ↦
        let other : get_or columns k 0 ≢ get_or columns first 0 = λ same. let e = are.once k first (omega (arith, low, inside)) inside same in omega (arith, e, low) in
        ap (λ (q : Rails). value_of t q w) (get_or-set_other rails (get_or columns first 0) (get_or columns k 0) r unknown other)
        ∙ value_of-kept keeps (rails_at rails (get_or columns k 0)) (rails_at-proper s rails before.proper (get_or columns k 0)) w
        ∙ before.values k low w
    | inr high ↦
        let same : first ≡ k = omega (arith, less, high) in
        ap (λ i. value_of t (rails_at (set rails (get_or columns first 0) r) (get_or columns i 0)) w) (sym same)
        ∙ ap (λ (q : Rails). value_of t q w) (get_or-set_same rails (get_or columns first 0) r unknown (omega (arith, are.within first inside, before.width)))
        ∙ value w
        ∙ ap (λ i. bit (bit_at i w)) same
  ];
}

-- all of them
pub columns-end : {a : Arena} {columns : List ℕ} {first : ℕ} {rails : List Rails} → IsLayout a.vars columns → a.vars ≤ first → AreFirstColumns a columns first rails → AreColumns a columns rails
columns-end {a} {columns} {first} {rails} are all is = record {
  width = is.width;
  proper = is.proper;
  values = λ v wide.
      let l = length-map rails (λ (r : Rails). value_of a r (by_variable columns v)) in
      ext_get_or X (values_of a rails (by_variable columns v)) (bits v) (omega (arith, l, length-map v bit, is.width)) (λ c less.
      let x = variable_of a.vars columns are c (omega (arith, l, is.width)) in
      get_or-map (λ (r : Rails). value_of a r (by_variable columns v)) rails c unknown X (omega (arith, less, l))
      ∙ ap (λ i. value_of a (rails_at rails i) (by_variable columns v)) (sym x.is)
      ∙ is.values x.number (omega (arith, x.within)) (by_variable columns v)
      ∙ ap bit (by_variable-read columns v x.number (omega (arith, x.within, are.long)) ∙ ap (λ i. get_or v i false) x.is)
      ∙ sym (get_or-map bit v c false X (omega (arith, l, is.width))));
}

pub AreColumns-kept : {s t : Arena} {columns : List ℕ} {rails : List Rails} → KeepsNodes s t → AreColumns s columns rails → AreColumns t columns rails
AreColumns-kept {s} {t} {columns} {rails} keeps is = grind (arith, All-rails-kept keeps rails is.proper, values_of-kept keeps rails is.proper)
