-- The first fault of a care model, as the checks find it.
use Rattle.std.proofs.Common.{◌≡◌, ◌⊎◌, inl, inr, ℕ, Bool, true, false, ◌==◌, ◌≤◌, List, length, Option, Some, None, refl, ◌∙◌, eqb-true, arith}
use Rattle.std.proofs.lemmas.Bool.Decides.{nat_tests}
use Rattle.std.specs.Prelude.{All, IfSome, IsSomeAnd, find, option_map}
use Rattle.std.specs.Option.{option_or}
use Rattle.netlist.specs.Walks.{IsLoopFree}
use Rattle.netlist.specs.declared.parts.Parts.{Parts}
use Rattle.care_sets.proofs.BindingLemmas.{same_length}
use Rattle.care_sets.specs.declared.fault.CareFault.{CareFault}
use Rattle.care_sets.specs.declared.fault.CareFault.TheVariants.{HasLatch, NotOneOutput, UnknownName, NotLatch, Memory}
use Rattle.care_sets.specs.declared.model.CareModel.{CareModel}
use Rattle.care_sets.specs.Binding.{fault_but_loops, is_unknown_name, is_before, unless, IsShapeFault, AreColumnsOf, HasNoFault, LoopsIn, IsFaultOf, IsFirstFault, Binds, BindsAny}
use Rattle.care_sets.specs.Laws.{BoundModelsHaveNoFault, FirstFaultIsOne}

module _ (net : Parts) (first : ℕ) (model : Parts) (none : length model.latches ≡ 0) (one : length model.outputs ≡ 1) where
  -- where there is no latch and one output, names alone may be wrong
  names_alone : fault_but_loops net first model
      ≡ option_or (option_map UnknownName (find (is_unknown_name net) model.inputs)) (option_or (option_map NotLatch (find (is_before net first) model.inputs)) None)
  names_alone = rw (none, one) refl

  pub not_latch : (name : List ℕ) → find (is_unknown_name net) model.inputs ≡ None → find (is_before net first) model.inputs ≡ Some name →
      fault_but_loops net first model ≡ Some (NotLatch name)
  not_latch name known is = names_alone ∙ rw (known, is) refl

  pub no_fault : find (is_unknown_name net) model.inputs ≡ None → find (is_before net first) model.inputs ≡ None → fault_but_loops net first model ≡ None
  no_fault known late = names_alone ∙ rw (known, late) refl

-- a failing check's answer, before what is wrong with the inputs
unequal : (n k : ℕ) → ¬ (n ≡ k) → (n == k) ≡ false
unequal n k differ = grind (arith, nat_tests)

pub latch_fails : (model : Parts) → ¬ (length model.latches ≡ 0) → IsShapeFault model (HasLatch model.name)
latch_fails model some = record { first = λ net first. rw (unequal (length model.latches) 0 some) refl }

pub outputs_fail : (model : Parts) → length model.latches ≡ 0 → ¬ (length model.outputs ≡ 1) → IsShapeFault model (NotOneOutput model.name)
outputs_fail model none differ = record { first = λ net first. rw (none, unequal (length model.outputs) 1 differ) refl }

pub shape_fails : (net : Parts) (first : ℕ) (model : Parts) (fault : CareFault) → (fault ≡ Memory) ⊎ IsShapeFault model fault →
    (fault ≡ Memory) ⊎ (fault_but_loops net first model ≡ Some fault)
shape_fails net first model fault h = grind arith

-- Models without a fault, and with a loop.

not_failing : (b : Bool) (fault : CareFault) (rest : Option CareFault) → option_or (unless b fault) rest ≡ None → (b ≡ true) × (rest ≡ None)
not_failing b fault rest e = grind arith

pub bound_model : (net : Parts) (first : ℕ) (model : Parts) (columns : List ℕ) → fault_but_loops net first model ≡ None → IsLoopFree model →
    AreColumnsOf net model.inputs columns → All (λ column. first ≤ column) columns → Binds net first model (record { net = model; first = first; columns = columns })
bound_model net first model columns none free names late = grind (arith, not_failing, eqb-true, same_length)

pub loop_alone : (net : Parts) (first : ℕ) (model : Parts) (fault : CareFault) → fault_but_loops net first model ≡ None →
    (fault ≡ Memory) ⊎ LoopsIn model fault → (fault ≡ Memory) ⊎ IsFaultOf net first fault model
loop_alone net first model fault none h = grind arith

bound_passes : (net : Parts) (first : ℕ) (model : Option Parts) (bound : Option CareModel) → BindsAny net first model bound → IfSome model (HasNoFault net first)
bound_passes net first model bound h = grind arith

-- where the assumption is bound, the invariant's fault is the first
pub invariant_fails : (net : Parts) (a i : Option Parts) (bound : Option CareModel) (fault : CareFault) → BindsAny net 0 a bound →
    (fault ≡ Memory) ⊎ IsSomeAnd i (IsFaultOf net (length net.inputs) fault) → (fault ≡ Memory) ⊎ IsFirstFault net a i fault
invariant_fails net a i bound fault h (inl memory) = inl memory
invariant_fails net a i bound fault h (inr fails) = inr (inr (inr (record { assume_passes = bound_passes net 0 a bound h; invariant_fails = fails })))

-- The first fault is one.

one_fault : (net : Parts) (first : ℕ) (model : Parts) (f g : CareFault) → IsFaultOf net first f model → IsFaultOf net first g model → f ≡ g
one_fault net first model f g h e = grind arith

pub passing : (net : Parts) (first : ℕ) (model : Option Parts) (fault : CareFault) → IfSome model (HasNoFault net first) → IsSomeAnd model (IsFaultOf net first fault) → ⊥
passing net first model fault passes fails = grind arith

one_of : (net : Parts) (first : ℕ) (model : Option Parts) (f g : CareFault) → IsSomeAnd model (IsFaultOf net first f) → IsSomeAnd model (IsFaultOf net first g) → f ≡ g
one_of net first None f g h k = absurd h
one_of net first (Some m) f g h k = one_fault net first m f g h k

absent : (net : Parts) (first : ℕ) (model : Option Parts) (fault : CareFault) → model ≡ None → IsSomeAnd model (IsFaultOf net first fault) → ⊥
absent net first model fault e fails = grind arith

pub first_fault_is_one : FirstFaultIsOne
first_fault_is_one net a i f g h e = grind (arith, absent, one_of, passing)

pub bound_models_have_no_fault : BoundModelsHaveNoFault
bound_models_have_no_fault net a i care fault bound h = grind arith
