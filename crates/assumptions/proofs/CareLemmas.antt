-- Care sets whose assumption is another model, beside the same invariant.
use Rattle.std.proofs.Common.{◌≡◌, ◌⊎◌, ℕ, zero, suc, ◌≤◌, Bool, false, List, [], ◌∷◌, length, map, Option, Some, None, IfSome, refl, ap, sym, ◌∙◌, subst, arith}
use Rattle.std.specs.Prelude.{find, nat_lt, option_map}
use Rattle.std.specs.List.{All}
use Rattle.cyc_base.specs.declared.limits.TheConstants.{MAX_FLAT_ITEMS}
use Rattle.netlist.specs.declared.parts.Parts.{Parts}
use Rattle.care_sets.specs.Binding.{column_of, is_before, HasNoFault, IsBoundTo, IsCare, IsCareOf, IsCareModel, IsFirstFault, BindsAny, BindsBoth}
use Rattle.care_sets.specs.Care.{CareSet, holds_at, is_allowed}
use Rattle.care_sets.specs.declared.fault.CareFault.{CareFault}
use Rattle.care_sets.specs.declared.fault.CareFault.TheVariants.{Memory}
use Rattle.care_sets.specs.declared.model.CareModel.{CareModel}
use Rattle.care_sets.proofs.BindingLemmas.{no_unknown_name}
use Rattle.care_sets.proofs.FaultLemmas.{no_fault}
use Rattle.care_rows.specs.Restricted.{IsRestricted}
use Rattle.care_rows.specs.declared.rows.Row.{Row}
use Rattle.assumptions.specs.Making.{IsBeside, Excludes}

-- ---- a bound model has no fault, and is bound again as it was

late_names : (net : Parts) (first : ℕ) (names : List (List ℕ)) (xs : List ℕ) → map Some xs ≡ map (column_of net) names → All (λ x. first ≤ x) xs → find (is_before net first) names ≡ None
late_names net first [] xs e late = refl
late_names net first (name ∷ names) [] e late = cc
late_names net first (name ∷ names) (x ∷ xs) e late =
    let here : column_of net name ≡ Some x = cc in
    let there : map Some xs ≡ map (column_of net) names = cc in
    let behind : first ≤ x = late zero x (omega arith) in
    let not_before : nat_lt x first ≡ false = grind (arith, behind) in
    let rest = late_names net first names xs there (λ k d l. late (suc k) d (omega arith)) in
    grind arith

model_passes : (net : Parts) (first : ℕ) (model : CareModel) → IsBoundTo net first model → IsCareModel model → HasNoFault net first model.net
model_passes net first model bound valid = record {
  others =
      no_fault net first model.net valid.latches valid.outputs (no_unknown_name net model.net.inputs model.columns bound.names)
      (late_names net first model.net.inputs model.columns bound.names.named bound.late);
  loop_free = valid.loop_free;
}

pub invariant_passes : (net : Parts) (care : CareSet) (model : Option Parts) → IsCareOf net care → IsCare care → model ≡ option_map (λ m. m.net) care.invariant → IfSome model (HasNoFault net (length net.inputs))
invariant_passes net care model is valid same = grind (arith, passes care.invariant is.invariant valid.invariant)
  where
    passes : (i : Option CareModel) → IfSome i (IsBoundTo net (length net.inputs)) → IfSome i IsCareModel → IfSome (option_map (λ m. m.net) i) (HasNoFault net (length net.inputs))
    passes None b v = tt
    passes (Some m) b v = model_passes net (length net.inputs) m b v

same_columns : (xs ys : List ℕ) → map Some xs ≡ map Some ys → xs ≡ ys
same_columns [] [] e = refl
same_columns [] (y ∷ ys) e = cc
same_columns (x ∷ xs) [] e = cc
same_columns (x ∷ xs) (y ∷ ys) e =
    let here : x ≡ y = cc in
    let there : map Some xs ≡ map Some ys = cc in
    let rest = same_columns xs ys there in
    cc

same_model : (net : Parts) (first : ℕ) (a b : CareModel) → a.net ≡ b.net → IsBoundTo net first a → IsBoundTo net first b → a ≡ b
same_model net first a b same bound_a bound_b =
    let names : map Some a.columns ≡ map Some b.columns = bound_a.names.named ∙ ap (λ (n : Parts). map (column_of net) n.inputs) same ∙ sym bound_b.names.named in
    let columns = same_columns a.columns b.columns names in
    let start = bound_a.start ∙ sym bound_b.start in
    grind arith

same_invariant : (net : Parts) (first : ℕ) (old new : Option CareModel) → IfSome old (IsBoundTo net first) → BindsAny net first (option_map (λ m. m.net) old) new → new ≡ old
same_invariant net first None None bound binds = refl
same_invariant net first None (Some b) bound binds = absurd binds
same_invariant net first (Some a) None bound binds = absurd binds
same_invariant net first (Some a) (Some b) bound binds = ap Some (same_model net first b a binds.kept binds.to bound)

-- ---- the care set of a model beside the invariant

pub without_fault : (net : Parts) (model : Parts) (i : Option Parts) (fault : CareFault) → HasNoFault net 0 model → IfSome i (HasNoFault net (length net.inputs))
    → (fault ≡ Memory) ⊎ IsFirstFault net (Some model) i fault → fault ≡ Memory
without_fault net model i fault sound_a sound_i h = grind arith

pub is_beside : (net : Parts) (care : CareSet) (model : Parts) (i : Option Parts) (stronger : CareSet) → IsCareOf net care → i ≡ option_map (λ m. m.net) care.invariant →
    BindsBoth net (Some model) i stronger → IsCareOf net stronger → IsBeside net care model stronger
is_beside net care model i stronger old same binds bound = made stronger.assume refl binds.assume
  where
    invariant : stronger.invariant ≡ care.invariant
    invariant = same_invariant net (length net.inputs) care.invariant stronger.invariant old.invariant (subst (λ (m : Option Parts). BindsAny net (length net.inputs) m stronger.invariant) same binds.invariant)

    made : (a : Option CareModel) → stronger.assume ≡ a → BindsAny net 0 (Some model) a → IsBeside net care model stronger
    made None e b = absurd b
    made (Some assume) e b = record { assume = assume; is = e; binds = b; invariant = invariant; bound = bound }

allowed_by : (care : CareSet) (model : CareModel) (v : List Bool) → care.assume ≡ Some model → is_allowed care v ≡ holds_at model v
allowed_by care model v e = grind (arith, e)

pub excludes : (net : Parts) (care : CareSet) (rows : List Row) (model : Parts) (stronger : CareSet) → IsRestricted net care rows model → length model.gates ≤ MAX_FLAT_ITEMS → IsBeside net care model stronger →
    Excludes net care rows stronger
excludes net care rows model stronger restricted small beside = record {
  bound = beside.bound;
  invariant = beside.invariant;
  lets = λ v width.
      let lets = restricted.lets beside.assume beside.binds v width in
      let is = allowed_by stronger beside.assume v beside.is in
      (λ allowed. lets.0 (sym is ∙ allowed), λ both. is ∙ lets.1 both);
  assume = beside.assume;
  is = beside.is;
  small = record {
    named = ap (λ (n : Parts). n.name) beside.binds.kept ∙ restricted.named;
    small = (let size = ap (λ (n : Parts). length n.gates) beside.binds.kept in omega arith);
  };
}
