-- What is made is the model.
use Rattle.std.proofs.Common.{◌≡◌, ◌+◌, ◌≤◌, ℕ, List, Option, length, sym, ap, subst, arith}
use Rattle.std.specs.Prelude.{IfSome, option_map}
use Rattle.cyc_base.specs.declared.limits.TheConstants.{MAX_FLAT_ITEMS}
use Rattle.care_rows.proofs.Common.{AreSteadyRows, CareModel, CareSet, IsCare, IsCareOf, IsKept, IsModelSize, IsNetlist, IsRestricted, Kept, Parts, Plan, Row, all_marked, assumed_columns, assumed_size, base_of, model_of, option_map_or, plan_of, size_of, telling_gates, telling_of_rows, total_of}
use Rattle.unroll.specs.Marks.{mark}
use Rattle.care_rows.proofs.LayoutLemmas.{length-model}
use Rattle.care_rows.proofs.RestrictLemmas.{model_size, restricted_is, restricted_valid}

pub record IsMade (net : Parts) (care : CareSet) (rows : List Row) (parts : Parts) : Type 0 where
  pub valid : IsNetlist parts
  pub restricted : IsRestricted net care rows parts
  pub size : IsModelSize net care rows (length parts.gates)
  pub small : length parts.gates ≤ MAX_FLAT_ITEMS

module _ (net : Parts) (care : CareSet) (rows : List Row) (kept : Kept) (old : Option Parts) (is_old : old ≡ option_map (λ (m : CareModel). m.net) care.assume) (is : IsKept net (assumed_columns care) rows kept) where
  abbrev plan : Plan
  plan = plan_of net care rows kept

  abbrev total : ℕ
  total = telling_of_rows rows + telling_gates (option_map_or (λ (n : Parts). 1) old 0 + length rows)

  pub total_is : total ≡ total_of plan
  total_is = ap (λ (o : Option Parts). telling_of_rows rows + telling_gates (option_map_or (λ (n : Parts). 1) o 0 + length rows)) is_old

  abbrev size : ℕ
  size = length (all_marked kept.gates.items) + assumed_size old + total

  pub size_plan : size ≡ size_of plan
  size_plan = let a = ap assumed_size is_old in let b = total_is in omega (arith, a, b)

  pub made_is : IsNetlist net → IsCareOf net care → IsCare care → IfSome old IsNetlist → AreSteadyRows net rows → (n : ℕ) → n ≡ total → kept.signals + assumed_size old + n ≤ 4294967295 →
      length (all_marked kept.gates.items) + assumed_size old + n ≤ MAX_FLAT_ITEMS → (parts : Parts) → parts ≡ model_of plan (mark net) → IsMade net care rows parts
  made_is valid bound models old_valid steady n n_is fits small parts parts_are =
      let a = ap assumed_size is_old in
      let b = total_is in
      let s = is.signals_are in
      let few : base_of plan + total_of plan ≤ 4294967295 = omega (arith, a, b, s, n_is, fits) in
      let old_net : IfSome (option_map (λ (m : CareModel). m.net) care.assume) IsNetlist = subst (λ (o : Option Parts). IfSome o IsNetlist) is_old old_valid in
      subst (IsMade net care rows) (sym parts_are) (record {
        valid = restricted_valid net care rows kept.columns.items kept.gates.items valid bound models old_net steady is.cone_is is.used_are few;
        restricted = restricted_is net care rows kept.columns.items kept.gates.items valid bound models old_net steady is.cone_is is.used_are few;
        size = model_size net care rows kept.columns.items kept.gates.items is.cone_is (mark net);
        small = let l = length-model plan (mark net) in let s = size_plan in omega (arith, l, s, n_is, small);
      })
