-- Care models on rails.
use Rattle.std.proofs.Common.{◌≡◌, ℕ, ◌-◌, ◌*◌, ◌<◌, Result, Bool, true, false, List, [], length, map, get_or, Option, Some, sym, ap, ◌∙◌, subst, arith}
use Rattle.diagram_decision.proofs.Common.{IsSomeAnd, option_map, option_map_or, get_or-map, length-map, Node, StoreFault, GrowsWithin, Arena, den, Sig, Trit, X, bit, bits, Rails, AreRailsOf, value_of, values_of, BoundsEach, Parts, wire, fix, IsNetlist, count, map_agree, HasLargeCover, effort, HasModelOver, CareModel, CareSet, is_one, holds_at, rails_at, rails_at-proper, read_by, IsOfModel, BoundsModel, model_of, ReadsWithin, IfSome, All, HasValues}
use Rattle.std.proofs.Math.Path.{fun_ext}
use Rattle.std.proofs.lemmas.List.Elements.{All-map}
use Rattle.cyc_base.proofs.ListLemmas.{map-map}
use Rattle.cyc_base.proofs.OrderLemmas.{bits-at}
use Rattle.care_sets.specs.Care.{inputs_at}
use Rattle.fixpoint.specs.Sweeping.{unknown}
use Rattle.fixpoint.specs.Working.{no_loops, IsGatePart}

-- the first rail says where a value is 1
pub one_rail : (a : Arena) (r : Rails) (v : List Bool) → den a r.one v ≡ is_one (value_of a r v)
one_rail a r v = grind arith

-- the value of the rails at a place
pub value_at-place : (a : Arena) (rails : List Rails) (k : ℕ) (v : List Bool) → k < length rails → value_of a (rails_at rails k) v ≡ get_or (values_of a rails v) k X
value_at-place a rails k v less = sym (get_or-map (λ (r : Rails). value_of a r v) rails k unknown X less)

-- what a model reads of bits
pub read-bits : (model : CareModel) (values : List Bool) → HasValues values model → read_by model (bits values) ≡ bits (inputs_at model values)
read-bits model values has =
    map_agree (λ column. get_or (bits values) (column - model.first) X) (λ column. bit (get_or values (column - model.first) false)) model.columns
    (λ k d less. bits-at values (get_or model.columns k d - model.first) (has.each k d less))
    ∙ sym (map-map {C = Trit} bit (λ column. get_or values (column - model.first) false) model.columns)

-- the rails of some columns stand for what the model reads of all
inputs-read : (a : Arena) (net : Parts) (columns : List ℕ) (first : ℕ) (rails list : List Rails) → All (λ column. column - first < length rails) columns → list ≡ map (λ column. rails_at rails (column - first)) columns →
    (v : List Bool) → values_of a list v ≡ read_by (model_of net first columns) (values_of a rails v)
inputs-read a net columns first rails list within is v =
    ap (λ (l : List Rails). values_of a l v) is
    ∙ map-map {C = Trit} (λ r. value_of a r v) (λ column. rails_at rails (column - first)) columns
    ∙ map_agree (λ column. value_of a (rails_at rails (column - first)) v) (λ column. get_or (values_of a rails v) (column - first) X) columns
    (λ k d less. value_at-place a rails (get_or columns k d - first) v (within k d less))

-- where the rails stand for bits, so do those
pub inputs-values : (a : Arena) (net : Parts) (columns : List ℕ) (first : ℕ) (rails list : List Rails) (values v : List Bool) →
    All (λ column. column - first < length rails) columns → list ≡ map (λ column. rails_at rails (column - first)) columns →
    values_of a rails v ≡ bits values → values_of a list v ≡ bits (inputs_at (model_of net first columns) values)
inputs-values a net columns first rails list values v within is are =
    let long : length rails ≡ length values = sym (length-map rails (λ (r : Rails). value_of a r v)) ∙ ap length are ∙ length-map values bit in
    grind (arith, inputs-read a net columns first rails list within is v, read-bits (model_of net first columns) values)

pub inputs-proper : (a : Arena) (columns : List ℕ) (first : ℕ) (rails list : List Rails) → All (AreRailsOf a) rails →
    list ≡ map (λ column. rails_at rails (column - first)) columns → All (AreRailsOf a) list
inputs-proper a columns first rails list proper is = grind (arith, All-map (AreRailsOf a), rails_at-proper a rails proper)

-- so they cost what the model works with
pub inputs-bounded : (a : Arena) (net : Parts) (columns : List ℕ) (first : ℕ) (rails list : List Rails) →
    All (λ column. column - first < length rails) columns → list ≡ map (λ column. rails_at rails (column - first)) columns → {w : ℕ} →
    BoundsEach a.vars (IsOfModel (model_of net first columns) (values_of a rails)) w → BoundsEach a.vars (IsGatePart net no_loops (values_of a list)) w
inputs-bounded a net columns first rails list within is {w} bounds =
    subst (λ v. BoundsEach a.vars (IsGatePart net no_loops v) w) (sym (fun_ext (inputs-read a net columns first rails list within is))) bounds

-- so the output's first rail tells whether the model holds
pub output-holds : (a : Arena) (net : Parts) (columns : List ℕ) (first : ℕ) (wires : List Rails) (none : Sig) (values v : List Bool) →
    length wires ≡ count net → IsNetlist net → 0 < length net.outputs →
    values_of a wires v ≡ fix net (bits (inputs_at (model_of net first columns) values)) →
    den a (rails_at wires (get_or net.outputs 0 none).0).one v ≡ holds_at (model_of net first columns) values
output-holds a net columns first wires none values v wide valid some are =
    let output : Sig = get_or net.outputs 0 none in
    grind (arith, one_rail a (rails_at wires output.0) v, value_at-place a wires output.0 v, get_or-map (wire (fix net (bits (inputs_at (model_of net first columns) values)))) net.outputs 0 none X some)

-- a model that is there, of its parts
pub model_there : (o : Option CareModel) (net : Parts) (columns : List ℕ) (first width : ℕ) → Some net ≡ option_map (λ model. model.net) o →
    columns ≡ option_map_or (λ model. model.columns) o [] → IfSome o (ReadsWithin first width) → o ≡ Some (model_of net first columns)
model_there o net columns first width there are reads = grind arith

pub model_is : (o : Option CareModel) (model : CareModel) (P : CareModel → Type 0) → o ≡ Some model → IfSome o P → P model
model_is o model P is holds = subst (λ (p : Option CareModel). IfSome p P) is holds

-- ---- the model of a care set that is there

-- what it says of values
pub model_holds : (o : Option CareModel) (model : CareModel) (values : List Bool) → o ≡ Some model → holds_at model values ≡ option_map_or (λ m. holds_at m values) o true
model_holds o model values there = sym (ap (λ p. option_map_or (λ m. holds_at m values) p true) there)

-- what it costs
pub model_grows : {r : Result Node StoreFault} {s t : Arena} (care : CareSet) (o : Option CareModel) (model : CareModel) (values : List Bool → List Trit) → o ≡ Some model →
    (IsSomeAnd o (λ m. HasLargeCover m.net s.limit) → HasModelOver care s.limit) →
    GrowsWithin r s t (HasLargeCover model.net) (BoundsEach s.vars (IsOfModel model values)) (2 * effort model.net) →
    GrowsWithin r s t (HasModelOver care) (BoundsModel o s.vars values) (2 * option_map_or (λ m. effort m.net) o 0)
model_grows {s = s} care o model values there over grows = grind arith
