-- The faults of files: a code, a line, and what stands behind the words.
use Rattle.std.specs.Prelude.{◌≡◌, ℕ, List, Some, None, Err, IfSome}
use Rattle.std.specs.declared.option.Option.{Option}
use Rattle.std.specs.declared.result.Result.{Result}
use Rattle.blif_read.specs.declared.fault.BlifFault.{BlifFault}
use Rattle.blif_read.specs.declared.fault.BlifFault.TheVariants as blif
use Rattle.flatten.specs.declared.fault.FlatFault.{FlatFault}
use Rattle.flatten.specs.declared.fault.FlatFault.TheVariants as walk
use Rattle.care_sets.specs.declared.fault.CareFault.{CareFault}
use Rattle.care_sets.specs.declared.fault.CareFault.TheVariants as care
use Rattle.report.specs.declared.fault_code.FaultCode.{FaultCode}
use Rattle.report.specs.declared.fault_code.FaultCode.TheVariants as code
use Rattle.report.specs.Texts.{no_tail, name_tail, number_tail}

-- a fault: its code, its line where it has one, and what stands behind its words
pub record Fault : Type 0 where
  pub code : FaultCode
  pub line : Option ℕ
  pub tail : List ℕ

abbrev pub of_file : FaultCode → Fault
of_file kind = record { code = kind; line = None; tail = no_tail }

abbrev pub at_line : FaultCode → ℕ → Fault
at_line kind n = record { code = kind; line = Some n; tail = no_tail }

abbrev pub of_name : FaultCode → List ℕ → Fault
of_name kind name = record { code = kind; line = None; tail = name_tail name }

abbrev pub of_name_at : FaultCode → ℕ → List ℕ → Fault
of_name_at kind n name = record { code = kind; line = Some n; tail = name_tail name }

abbrev pub of_number_at : FaultCode → ℕ → ℕ → Fault
of_number_at kind n number = record { code = kind; line = Some n; tail = number_tail number }

abbrev pub too_long : Fault
too_long = of_file code.FileTooLong

-- the faults of the text; want of memory is none
abbrev pub blif_fault : BlifFault → Option Fault
blif_fault (blif.BadByte n) = Some (at_line code.BadByte n)
blif_fault (blif.OutsideModel n) = Some (at_line code.LineOutsideModel n)
blif_fault (blif.BadModel n) = Some (at_line code.BadModelLine n)
blif_fault (blif.ModelTwice n) = Some (at_line code.ModelTwice n)
blif_fault (blif.LeftOut n) = Some (at_line code.DirectiveLeftOut n)
blif_fault (blif.UnknownDirective n) = Some (at_line code.UnknownDirective n)
blif_fault (blif.StrayRow n) = Some (at_line code.StrayRow n)
blif_fault (blif.BadRow n) = Some (at_line code.BadRow n)
blif_fault (blif.MixedRows n) = Some (at_line code.MixedRows n)
blif_fault (blif.NoOutputName n) = Some (at_line code.NoOutputName n)
blif_fault (blif.TooManyPins n) = Some (at_line code.TooManyPins n)
blif_fault (blif.BadLatch n) = Some (at_line code.BadLatchLine n)
blif_fault (blif.LevelLatch n) = Some (at_line code.LevelLatch n)
blif_fault (blif.BadSubckt n) = Some (at_line code.BadSubcircuitLine n)
blif_fault blif.NoModel = Some (of_file code.NoModel)
blif_fault blif.Memory = None

-- the faults of flattening; want of memory is none
abbrev pub flat_fault : FlatFault → Option Fault
flat_fault (walk.UnknownModel name) = Some (of_name code.UnknownModel name)
flat_fault (walk.Recursive name) = Some (of_name code.RecursiveModel name)
flat_fault (walk.UnknownFormal name) = Some (of_name code.UnknownFormal name)
flat_fault (walk.FormalTwice name) = Some (of_name code.FormalTwice name)
flat_fault (walk.OpenInput name) = Some (of_name code.OpenInput name)
flat_fault walk.TooLarge = Some (of_file code.NetlistTooLarge)
flat_fault (walk.TooDeep name) = Some (of_name code.TooDeep name)
flat_fault (walk.DeclaredTwice name) = Some (of_name code.DeclaredTwice name)
flat_fault (walk.DrivenTwice name) = Some (of_name code.DrivenTwice name)
flat_fault (walk.Undriven name) = Some (of_name code.NotDriven name)
flat_fault (walk.BadClock name) = Some (of_name code.BadClock name)
flat_fault (walk.ClockRead name) = Some (of_name code.ClockRead name)
flat_fault walk.Memory = None

-- the faults of binding care models; want of memory is none
abbrev pub care_fault : CareFault → Option Fault
care_fault care.NoModels = Some (of_file code.NoCareModel)
care_fault (care.HasLatch model) = Some (of_name code.CareModelHasLatch model)
care_fault (care.NotOneOutput model) = Some (of_name code.CareModelNeedsOneOutput model)
care_fault (care.UnknownName name) = Some (of_name code.UnknownCareName name)
care_fault (care.NotLatch name) = Some (of_name code.NotALatch name)
care_fault (care.Loop model) = Some (of_name code.CareModelHasLoop model)
care_fault care.Memory = None

-- What an error says of a meaning: the fault that it has. Want of memory says nothing.
abbrev pub IsErrorOf : {T : Type 0} → Result T (Option Fault) → Option Fault → Type 0
IsErrorOf meaning error = IfSome error (λ fault. meaning ≡ Err (Some fault))
