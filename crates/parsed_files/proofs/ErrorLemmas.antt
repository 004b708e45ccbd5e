-- What the errors of the crates below say of a file's meaning.
use Rattle.std.proofs.Common.{◌≡◌, ◌≢◌, ◌⊎◌, inl, inr, Err, sym, subst, arith}
use Rattle.std.specs.declared.option.Option.{Option}
use Rattle.std.specs.declared.result.Result.{Result}
use Rattle.blif_read.specs.declared.fault.BlifFault.{BlifFault}
use Rattle.blif_read.specs.declared.fault.BlifFault.TheVariants as blif
use Rattle.flatten.specs.declared.fault.FlatFault.{FlatFault}
use Rattle.flatten.specs.declared.fault.FlatFault.TheVariants as walk
use Rattle.care_sets.specs.declared.fault.CareFault.{CareFault}
use Rattle.care_sets.specs.declared.fault.CareFault.TheVariants as care
use Rattle.parsed_files.specs.Faults.{Fault, IsErrorOf, blif_fault, flat_fault, care_fault}

-- an error of the text, unless it is want of memory
pub text_says : {T : Type 0} (meaning : Result T (Option Fault)) (fault : BlifFault) (error : Option Fault) → error ≡ blif_fault fault
    → (fault ≢ blif.Memory → meaning ≡ Err (blif_fault fault)) → IsErrorOf meaning error
text_says {T} meaning fault error is there = grind arith

-- one of flattening
pub walk_says : {T : Type 0} (meaning : Result T (Option Fault)) (fault : FlatFault) (error : Option Fault) → error ≡ flat_fault fault
    → (fault ≡ walk.Memory) ⊎ (meaning ≡ Err (flat_fault fault)) → IsErrorOf meaning error
walk_says {T} meaning fault error is there = grind arith

-- one of binding
pub care_says : {T : Type 0} (meaning : Result T (Option Fault)) (fault : CareFault) (error : Option Fault) → error ≡ care_fault fault
    → (fault ≡ care.Memory) ⊎ (meaning ≡ Err (care_fault fault)) → IsErrorOf meaning error
care_says {T} meaning fault error is there = grind arith

-- the second of two cases says more
pub or_more : {A B C : Type 0} → (B → C) → A ⊎ B → A ⊎ C
or_more more h = grind arith
