-- The models of a care set, read again as those of a care file.
use Rattle.std.proofs.Common.{◌≡◌, ℕ, zero, suc, ◌<◌, ◌≤◌, List, [], ◌∷◌, ◌++◌, length, map, get_or, Option, Some, None, IfSome, Ok, refl, sym, ap, ap₂, subst, ◌∙◌, arith, false}
use Rattle.std.specs.Prelude.{All, codes, find, if◌then◌else◌, is_none, is_some, nat_lt, option_map, position, true, ◌||◌}
use Rattle.std.specs.Str.{bytes_eq}
use Rattle.cyc_base.specs.declared.limits.TheConstants.{MAX_FILE_BYTES}
use Rattle.netlist.specs.declared.parts.Parts.{Parts}
use Rattle.care_sets.specs.Care.{CareSet}
use Rattle.care_sets.specs.Binding.{Binds, BindsAny, BindsBoth, IsBoundTo, IsCare, IsCareModel, IsCareOf, column_of, is_before, is_unknown_name}
use Rattle.care_sets.specs.declared.model.CareModel.{CareModel}
use Rattle.care_sets.proofs.FaultLemmas as faults
use Rattle.blif_read.specs.Find.{has_name}
use Rattle.blif_read.specs.Reads.{reads}
use Rattle.blif_read.specs.declared.models.BlifModel.{BlifModel}
use Rattle.flatten.specs.Flat.{flat}
use Rattle.parsed_files.specs.CareFiles.{care_models, care_of, part_of, some_part}
use Rattle.parsed_files.specs.CareTexts.{AreNamed, CareTextsReadBack, listed, models_of}
use Rattle.parsed_files.specs.NetlistFiles.{flat_result}
use Rattle.parsed_files.proofs.CareLemmas.{bound_models, care_of_short}

-- ---- a model that is bound has no fault

record AreColumns (net : Parts) (first : ℕ) (names : List (List ℕ)) : Type 0 where
  known : find (is_unknown_name net) names ≡ None
  late : find (is_before net first) names ≡ None

columns_named : (net : Parts) (first : ℕ) (names : List (List ℕ)) (xs : List ℕ) → map Some xs ≡ map (column_of net) names
    → ((k d : ℕ) → k < length xs → first ≤ get_or xs k d) → AreColumns net first names
columns_named net first [] xs e late = record { known = refl; late = refl }
columns_named net first (name ∷ names) [] e late = cc
columns_named net first (name ∷ names) (x ∷ xs) e late =
    let here : column_of net name ≡ Some x = cc in
    let there : map Some xs ≡ map (column_of net) names = cc in
    let rest = columns_named net first names xs there (λ k d l. late (suc k) d (omega arith)) in
    let behind : first ≤ x = late zero x (omega arith) in
    let not_before : nat_lt x first ≡ false = grind (arith, behind) in
    record { known = grind (arith, rest.known); late = grind (arith, rest.late) }

binds : (net : Parts) (first : ℕ) (model : CareModel) → IsBoundTo net first model → IsCareModel model → Binds net first model.net model
binds net first model bound valid =
    let names = columns_named net first model.net.inputs model.columns bound.names.named bound.late in
    let is = faults.bound_model net first model.net model.columns (faults.no_fault net first model.net valid.latches valid.outputs names.known names.late) valid.loop_free bound.names bound.late in
    record { kept = refl; to = bound; valid = valid; passes = is.passes }

binds_any : (net : Parts) (first : ℕ) (model : Option CareModel) → IfSome model (IsBoundTo net first) → IfSome model IsCareModel
    → BindsAny net first (option_map (λ m. m.net) model) model
binds_any net first None bound valid = tt
binds_any net first (Some model) bound valid = binds net first model bound valid

-- ---- its model in a text

-- names of models
named_at : (name : List ℕ) (models : List BlifModel) → position (has_name name) models ≡ position (λ own. bytes_eq own name) (map (λ model. model.name) models)
named_at name [] = refl
named_at name (model ∷ models) = grind (arith, named_at name models)

part_there : (models : List BlifModel) (part : List ℕ) (names : List (List ℕ)) (net : Parts) → map (λ model. model.name) models ≡ names
    → is_none (position (λ own. bytes_eq own part) names) ≡ false → flat models part ≡ Ok net → part_of models part ≡ Ok (Some net)
part_there models part names net named there is = grind (arith, named_at part models)

part_absent : (models : List BlifModel) (part : List ℕ) (names : List (List ℕ)) → map (λ model. model.name) models ≡ names
    → is_none (position (λ own. bytes_eq own part) names) ≡ true → part_of models part ≡ Ok None
part_absent models part names named absent = grind (arith, named_at part models)

-- ---- and the care set of the text

abbrev of_models : Option CareModel → Option CareModel → CareSet
of_models a i = record { assume = a; invariant = i }

module _ (net : Parts) (models : List BlifModel) where
  means : (a i : Option CareModel) → AreNamed (of_models a i) → map (λ model. model.name) models ≡ map (λ model. model.name) (models_of (of_models a i))
      → All (λ model. flat models model.name ≡ Ok model) (models_of (of_models a i))
      → (part_of models (codes "assume") ≡ Ok (option_map (λ m. m.net) a)) × (part_of models (codes "invariant") ≡ Ok (option_map (λ m. m.net) i))
  means None None named names flats = cc
  means (Some a) None named names flats =
      let is : map (λ model. model.name) models ≡ codes "assume" ∷ [] = names ∙ ap (λ n. n ∷ []) named.assume in (
        part_there models (codes "assume") (codes "assume" ∷ []) a.net is refl (subst (λ (n : List ℕ). flat models n ≡ Ok a.net) named.assume (flats zero a.net (omega arith))),
        part_absent models (codes "invariant") (codes "assume" ∷ []) is refl,
      )
  means None (Some i) named names flats =
      let is : map (λ model. model.name) models ≡ codes "invariant" ∷ [] = names ∙ ap (λ n. n ∷ []) named.invariant in (
        part_absent models (codes "assume") (codes "invariant" ∷ []) is refl,
        part_there models (codes "invariant") (codes "invariant" ∷ []) i.net is refl (subst (λ (n : List ℕ). flat models n ≡ Ok i.net) named.invariant (flats zero i.net (omega arith))),
      )
  means (Some a) (Some i) named names flats =
      let is : map (λ model. model.name) models ≡ codes "assume" ∷ codes "invariant" ∷ [] = names ∙ ap₂ (λ m n. m ∷ n ∷ []) named.assume named.invariant in (
        part_there models (codes "assume") (codes "assume" ∷ codes "invariant" ∷ []) a.net is refl (subst (λ (n : List ℕ). flat models n ≡ Ok a.net) named.assume (flats zero a.net (omega arith))),
        part_there models (codes "invariant") (codes "assume" ∷ codes "invariant" ∷ []) i.net is refl (subst (λ (n : List ℕ). flat models n ≡ Ok i.net) named.invariant (flats 1 i.net (omega arith))),
      )

pub care_texts_read_back : CareTextsReadBack
care_texts_read_back net care models bytes is valid named names read flats short =
    let parts = means net models care.assume care.invariant named names flats in
    care_of_short net bytes short ∙ ap (care_models net) read
    ∙ bound_models net models (option_map (λ m. m.net) care.assume) (option_map (λ m. m.net) care.invariant) care parts.0 parts.1
    (record {
      some = some care.assume care.invariant named.some;
      assume = binds_any net 0 care.assume is.assume valid.assume;
      invariant = binds_any net (length net.inputs) care.invariant is.invariant valid.invariant;
    })
  where
    some : (a i : Option CareModel) → (is_some a || is_some i) ≡ true → (is_some (option_map (λ m. m.net) a) || is_some (option_map (λ m. m.net) i)) ≡ true
    some None None e = e
    some None (Some i) e = refl
    some (Some a) None e = refl
    some (Some a) (Some i) e = refl
