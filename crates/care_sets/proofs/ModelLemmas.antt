-- The output of a care model, among the values of its signals.
use Rattle.std.proofs.Common.{◌≡◌, ℕ, ◌-◌, ◌<◌, Bool, false, List, [], ◌∷◌, length, map, get_or, refl, ap, ◌∙◌, arith}
use Rattle.std.proofs.lemmas.List.{get_or-map, length-map}
use Rattle.cyc_base.specs.declared.sig.Sig.{Sig}
use Rattle.cyc_base.specs.declared.trit.Trit.{Trit}
use Rattle.cyc_base.specs.declared.trit.Trit.TheVariants.{X}
use Rattle.cyc_base.specs.Values.{bit, bits}
use Rattle.netlist.specs.Netlists.{IsNetlist}
use Rattle.netlist.specs.Fixpoint.{wire, fix}
use Rattle.netlist.proofs.FixpointLemmas.{length-fix}
use Rattle.care_sets.specs.declared.model.CareModel.{CareModel}
use Rattle.care_sets.specs.Care.{inputs_at, holds_at, is_one}

-- the given values of the model's inputs
abbrev pub given_at : CareModel → List Bool → List Trit
given_at model values = map (λ column. bit (get_or values (column - model.first) false)) model.columns

pub output_within_at : (model : CareModel) (values : List Bool) (v wires : List Trit) (outputs : List Sig) (d : Sig) → IsNetlist model.net →
    length model.net.outputs ≡ 1 → length model.net.latches ≡ 0 → length model.columns ≡ length model.net.inputs →
    v ≡ given_at model values → wires ≡ fix model.net v → outputs ≡ model.net.outputs → (get_or outputs 0 d).0 < length wires
output_within_at model values v wires outputs d h one none width e f g = grind (arith, length-map, length-fix)

bits_of_map : (f : ℕ → Bool) (xs : List ℕ) → map (λ x. bit (f x)) xs ≡ bits (map f xs)
bits_of_map f [] = refl
bits_of_map f (x ∷ xs) = ap (λ l. bit (f x) ∷ l) (bits_of_map f xs)

-- what is read there is the model's value
pub model_value_at : (model : CareModel) (values : List Bool) (v wires : List Trit) (outputs : List Sig) (d : Sig) → length model.net.outputs ≡ 1 →
    v ≡ given_at model values → wires ≡ fix model.net v → outputs ≡ model.net.outputs → is_one (wire wires (get_or outputs 0 d)) ≡ holds_at model values
model_value_at model values v wires outputs d one e f g =
    let given : v ≡ bits (inputs_at model values) = e ∙ bits_of_map (λ column. get_or values (column - model.first) false) model.columns in
    grind (arith, get_or-map (wire (fix model.net (bits (inputs_at model values)))) model.net.outputs 0 d X)
