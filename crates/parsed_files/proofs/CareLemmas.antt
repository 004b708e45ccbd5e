-- The care set of a file: what binding says of its models.
use Rattle.std.proofs.Common.{◌≡◌, ◌⊎◌, inl, inr, ℕ, ◌<◌, ◌≤◌, List, [], ◌∷◌, length, map, Some, None, Ok, Err, Bool, true, false, refl, sym, ap, ap₂, ◌∙◌, arith}
use Rattle.std.specs.Prelude.{nat_le, if◌then◌else◌, option_map, unwrap_or, is_some, position, codes}
use Rattle.std.specs.declared.option.Option.{Option}
use Rattle.std.specs.Option.{option_and_then}
use Rattle.std.proofs.lemmas.List.Elements.{All-from_recursion}
use Rattle.std.proofs.lemmas.List.Folds.{list_any_at, list_any_none}
use Rattle.std.proofs.lemmas.List.FromFn.{get_or-range_with_len, length-range_with_len}
use Rattle.cyc_base.specs.declared.limits.TheConstants.{MAX_FILE_BYTES}
use Rattle.netlist.specs.declared.parts.Parts.{Parts}
use Rattle.netlist.specs.Orders.{HasLoop}
use Rattle.netlist.specs.Walks.{IsLoopFree}
use Rattle.blif_read.specs.Reads.{reads}
use Rattle.loops.proofs.Walks.{begins_at, leads-any}
use Rattle.loops.proofs.Existence.{loops_exist}
use Rattle.care_sets.specs.Care.{CareSet}
use Rattle.care_sets.specs.Binding.{Binds, BindsAny, BindsBoth, HasNoFault, IsFaultOf, IsFirstFault, column_of}
use Rattle.care_sets.specs.declared.fault.CareFault.{CareFault}
use Rattle.care_sets.specs.declared.model.CareModel.{CareModel}
use Rattle.blif_read.specs.Find.{has_name}
use Rattle.blif_read.specs.declared.models.BlifModel.{BlifModel}
use Rattle.flatten.specs.Flat.{flat}
use Rattle.flatten.specs.declared.fault.FlatFault.{FlatFault}
use Rattle.parsed_files.specs.CareFiles.{part_of, with_assume, with_invariant, has_loop, model_fault, models_fault, bound_model, unless_fault, bound, care_of, care_models}
use Rattle.parsed_files.specs.Faults.{care_fault, flat_fault, too_long}

-- a file that isn't too long has the care set of its text
pub care_of_short : (net : Parts) (bytes : List ℕ) → length bytes ≤ MAX_FILE_BYTES → care_of net bytes ≡ care_models net (reads bytes)
care_of_short net bytes short = ap (λ (t : Bool). if t then care_models net (reads bytes) else Err (Some too_long)) (let e : nat_le (length bytes) MAX_FILE_BYTES ≡ true = grind (arith, short) in e)

pub care_of_long : (net : Parts) (bytes : List ℕ) → MAX_FILE_BYTES < length bytes → care_of net bytes ≡ Err (Some too_long)
care_of_long net bytes long = ap (λ (t : Bool). if t then care_models net (reads bytes) else Err (Some too_long)) (let e : nat_le (length bytes) MAX_FILE_BYTES ≡ false = grind (arith, long) in e)

-- the test for loops tells of a walk that leads back
loop_told : (net : Parts) → HasLoop net → has_loop net ≡ true
loop_told net loop =
    grind (arith, list_any_at, length-range_with_len 0 (length net.gates), get_or-range_with_len 0 (length net.gates) loop.gate 0, loops_exist net, leads-any net loop.gate loop.gate loop.via loop.walk, begins_at net loop.gate loop.gate loop.via loop.walk)

no_loop_told : (net : Parts) → IsLoopFree net → has_loop net ≡ false
no_loop_told net free = grind (arith, list_any_none, All-from_recursion, loops_exist net)

-- one model
columns_told : (net : Parts) (names : List (List ℕ)) (columns : List ℕ) → map Some columns ≡ map (column_of net) names
    → columns ≡ map (λ name. unwrap_or (column_of net name) 0) names
columns_told net names columns is = sym (undone columns) ∙ ap (map (λ (o : Option ℕ). unwrap_or o 0)) is ∙ done names
  where
    undone : (cs : List ℕ) → map (λ (o : Option ℕ). unwrap_or o 0) (map Some cs) ≡ cs
    undone [] = refl
    undone (c ∷ cs) = ap (λ rest. c ∷ rest) (undone cs)

    done : (ns : List (List ℕ)) → map (λ (o : Option ℕ). unwrap_or o 0) (map (column_of net) ns) ≡ map (λ name. unwrap_or (column_of net name) 0) ns
    done [] = refl
    done (n ∷ ns) = ap (λ rest. unwrap_or (column_of net n) 0 ∷ rest) (done ns)

bound_told : (net : Parts) (first : ℕ) (model : Parts) (b : CareModel) → Binds net first model b → b ≡ bound_model net first model
bound_told net first model b binds = grind (arith, columns_told)

no_fault_told : (net : Parts) (first : ℕ) (model : Parts) → HasNoFault net first model → model_fault net first model ≡ None
no_fault_told net first model sound = grind (arith, no_loop_told model sound.loop_free)

fault_told : (net : Parts) (first : ℕ) (fault : CareFault) (model : Parts) → IsFaultOf net first fault model → model_fault net first model ≡ Some fault
fault_told net first fault model h = grind (arith, loop_told)

-- a model that may be absent
record AnyTold (net : Parts) (first : ℕ) (model : Option Parts) (b : Option CareModel) : Type 0 where
  sound : option_and_then (model_fault net first) model ≡ None
  is : b ≡ option_map (bound_model net first) model

any_told : (net : Parts) (first : ℕ) (model : Option Parts) (b : Option CareModel) → BindsAny net first model b → AnyTold net first model b
any_told net first model b binds = grind (arith, no_fault_told, bound_told)

-- both models
pub bound_good : (net : Parts) (a i : Option Parts) (care : CareSet) → BindsBoth net a i care → bound net a i ≡ Ok care
bound_good net a i care both = grind (arith, any_told net 0, any_told net (length net.inputs))

bound_bad : (net : Parts) (a i : Option Parts) (fault : CareFault) → models_fault net a i ≡ Some fault → bound net a i ≡ Err (care_fault fault)
bound_bad net a i fault is = ap (λ (o : Option CareFault). unless_fault o (record { assume = option_map (bound_model net 0) a; invariant = option_map (bound_model net (length net.inputs)) i })) is

fault_there : (net : Parts) (a i : Option Parts) (fault : CareFault) → IsFirstFault net a i fault → models_fault net a i ≡ Some fault
fault_there net a i fault (inl lacks) = ap₂ (models_fault net) lacks.no_assume lacks.no_invariant ∙ ap Some (sym lacks.is)
fault_there net (Some a) i fault (inr (inl is)) = grind (arith, fault_told net 0 fault a is)
fault_there net None i fault (inr (inl is)) = absurd is
fault_there net None (Some i) fault (inr (inr fails)) = grind (arith, fault_told net (length net.inputs) fault i fails.invariant_fails)
fault_there net (Some a) (Some i) fault (inr (inr fails)) = grind (arith, no_fault_told net 0 a fails.assume_passes, fault_told net (length net.inputs) fault i fails.invariant_fails)
fault_there net a None fault (inr (inr fails)) = absurd fails.invariant_fails

-- a fault of binding is one of the models, unless it is want of memory
bind_fault : (net : Parts) (a i : Option Parts) (found lack : CareFault) → (found ≡ lack) ⊎ IsFirstFault net a i found
    → (found ≡ lack) ⊎ (bound net a i ≡ Err (care_fault found))
bind_fault net a i found lack (inl same) = inl same
bind_fault net a i found lack (inr is) = inr (bound_bad net a i found (fault_there net a i found is))

pub part_bad : (models : List BlifModel) (part name : List ℕ) (at : Option ℕ) (fault : FlatFault)
    → name ≡ part → at ≡ position (has_name name) models → is_some at ≡ true → flat models name ≡ Err fault
    → part_of models part ≡ Err (flat_fault fault)
part_bad models part name at fault named is some there = grind arith

both_parts : (net : Parts) (models : List BlifModel) (a i : Option Parts) → part_of models (codes "assume") ≡ Ok a → part_of models (codes "invariant") ≡ Ok i
    → care_models net (Ok models) ≡ bound net a i
both_parts net models a i is_a is_i = ap (with_assume net models) is_a ∙ ap (with_invariant net a) is_i

pub bound_models : (net : Parts) (models : List BlifModel) (a i : Option Parts) (care : CareSet) → part_of models (codes "assume") ≡ Ok a
    → part_of models (codes "invariant") ≡ Ok i → BindsBoth net a i care → care_models net (Ok models) ≡ Ok care
bound_models net models a i care is_a is_i both = both_parts net models a i is_a is_i ∙ bound_good net a i care both

pub bind_error : (net : Parts) (models : List BlifModel) (a i : Option Parts) (found lack : CareFault) → part_of models (codes "assume") ≡ Ok a
    → part_of models (codes "invariant") ≡ Ok i → (found ≡ lack) ⊎ IsFirstFault net a i found
    → (found ≡ lack) ⊎ (care_models net (Ok models) ≡ Err (care_fault found))
bind_error net models a i found lack is_a is_i fault = grind (arith, bind_fault net a i found lack fault, both_parts net models a i is_a is_i)
