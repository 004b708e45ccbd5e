-- The text of a fault of a file: `FILE:LINE: Ecc WORDS TAIL`, where LINE and TAIL are there only where the fault has them.
use Rattle.std.specs.Prelude.{◌≢◌, ℕ, ◌+◌, ◌/◌, ◌%◌, List, [], ◌∷◌, ◌++◌, nat_eq, codes, decimal, Some, None}
use Rattle.std.specs.declared.option.Option.{Option}
use Rattle.std.specs.List.{find}
use Rattle.report.specs.declared.fault_code.FaultCode.{FaultCode}
use Rattle.report.specs.declared.fault_code.FaultCode.TheVariants.{
  FileTooLong,
  BadByte,
  LineOutsideModel,
  BadModelLine,
  ModelTwice,
  DirectiveLeftOut,
  UnknownDirective,
  StrayRow,
  BadRow,
  MixedRows,
  NoOutputName,
  TooManyPins,
  BadLatchLine,
  LevelLatch,
  BadSubcircuitLine,
  NoModel,
  UnknownModel,
  RecursiveModel,
  UnknownFormal,
  FormalTwice,
  OpenInput,
  NetlistTooLarge,
  TooDeep,
  DeclaredTwice,
  DrivenTwice,
  NotDriven,
  BadClock,
  ClockRead,
  NoCareModel,
  CareModelHasLatch,
  CareModelNeedsOneOutput,
  UnknownCareName,
  NotALatch,
  CareModelHasLoop,
  BadLine,
  WrongWidth,
  UnknownGate,
  StartValueNotPermitted,
  WrongNumberOfTicks,
  WrongNumberOfAges,
  AgeTooOld,
  GateWithoutEvent,
}
use Rattle.report.specs.declared.fault.Tail.{Tail}
use Rattle.report.specs.declared.fault.Tail.TheVariants.{Nothing, Name, Number}

-- the number of each fault, in the order of numbers
abbrev pub number_of : FaultCode → ℕ
number_of FileTooLong = 1
number_of BadByte = 2
number_of LineOutsideModel = 3
number_of BadModelLine = 4
number_of ModelTwice = 5
number_of DirectiveLeftOut = 6
number_of UnknownDirective = 7
number_of StrayRow = 8
number_of BadRow = 9
number_of MixedRows = 10
number_of NoOutputName = 11
number_of TooManyPins = 12
number_of BadLatchLine = 13
number_of LevelLatch = 14
number_of BadSubcircuitLine = 15
number_of NoModel = 16
number_of UnknownModel = 21
number_of RecursiveModel = 22
number_of UnknownFormal = 23
number_of FormalTwice = 24
number_of OpenInput = 25
number_of NetlistTooLarge = 26
number_of TooDeep = 27
number_of DeclaredTwice = 28
number_of DrivenTwice = 29
number_of NotDriven = 30
number_of BadClock = 31
number_of ClockRead = 32
number_of NoCareModel = 41
number_of CareModelHasLatch = 42
number_of CareModelNeedsOneOutput = 43
number_of UnknownCareName = 44
number_of NotALatch = 45
number_of CareModelHasLoop = 46
number_of BadLine = 51
number_of WrongWidth = 52
number_of UnknownGate = 53
number_of StartValueNotPermitted = 54
number_of WrongNumberOfTicks = 55
number_of WrongNumberOfAges = 56
number_of AgeTooOld = 57
number_of GateWithoutEvent = 58

-- its words
abbrev pub words_of : FaultCode → List ℕ
words_of FileTooLong = codes "file too long"
words_of BadByte = codes "bad byte"
words_of LineOutsideModel = codes "line outside a model"
words_of BadModelLine = codes "bad model line"
words_of ModelTwice = codes "model twice"
words_of DirectiveLeftOut = codes "directive left out"
words_of UnknownDirective = codes "unknown directive"
words_of StrayRow = codes "stray row"
words_of BadRow = codes "bad row"
words_of MixedRows = codes "mixed rows"
words_of NoOutputName = codes "no output name"
words_of TooManyPins = codes "too many pins"
words_of BadLatchLine = codes "bad latch line"
words_of LevelLatch = codes "level latch"
words_of BadSubcircuitLine = codes "bad subcircuit line"
words_of NoModel = codes "no model"
words_of UnknownModel = codes "unknown model"
words_of RecursiveModel = codes "recursive model"
words_of UnknownFormal = codes "unknown formal"
words_of FormalTwice = codes "formal twice"
words_of OpenInput = codes "open input"
words_of NetlistTooLarge = codes "netlist too large"
words_of TooDeep = codes "too deep"
words_of DeclaredTwice = codes "declared twice"
words_of DrivenTwice = codes "driven twice"
words_of NotDriven = codes "not driven"
words_of BadClock = codes "bad clock"
words_of ClockRead = codes "clock read"
words_of NoCareModel = codes "no care model"
words_of CareModelHasLatch = codes "care model has a latch"
words_of CareModelNeedsOneOutput = codes "care model needs one output"
words_of UnknownCareName = codes "unknown care name"
words_of NotALatch = codes "not a latch"
words_of CareModelHasLoop = codes "care model has a loop"
words_of BadLine = codes "bad line"
words_of WrongWidth = codes "wrong width"
words_of UnknownGate = codes "unknown gate"
words_of StartValueNotPermitted = codes "start value not permitted"
words_of WrongNumberOfTicks = codes "wrong number of ticks"
words_of WrongNumberOfAges = codes "wrong number of ages"
words_of AgeTooOld = codes "age too old at pin"
words_of GateWithoutEvent = codes "gate without event"

-- all of them
abbrev pub all_faults : List FaultCode
all_faults =
    FileTooLong ∷ BadByte ∷ LineOutsideModel ∷ BadModelLine ∷ ModelTwice ∷ DirectiveLeftOut ∷ UnknownDirective ∷ StrayRow ∷ BadRow ∷
    MixedRows ∷ NoOutputName ∷ TooManyPins ∷ BadLatchLine ∷ LevelLatch ∷ BadSubcircuitLine ∷ NoModel ∷ UnknownModel ∷ RecursiveModel ∷
    UnknownFormal ∷ FormalTwice ∷ OpenInput ∷ NetlistTooLarge ∷ TooDeep ∷ DeclaredTwice ∷ DrivenTwice ∷ NotDriven ∷ BadClock ∷ ClockRead ∷
    NoCareModel ∷ CareModelHasLatch ∷ CareModelNeedsOneOutput ∷ UnknownCareName ∷ NotALatch ∷ CareModelHasLoop ∷ BadLine ∷ WrongWidth ∷
    UnknownGate ∷ StartValueNotPermitted ∷ WrongNumberOfTicks ∷ WrongNumberOfAges ∷ AgeTooOld ∷ GateWithoutEvent ∷ []

-- the fault that has this number
abbrev pub fault_of : ℕ → Option FaultCode
fault_of number = find (λ fault. nat_eq (number_of fault) number) all_faults

-- one of the numbers
abbrev pub IsCode : ℕ → Type 0
IsCode number = fault_of number ≢ None

-- a number has two digits
abbrev pub number_text : ℕ → List ℕ
number_text number = 58 ∷ 32 ∷ 69 ∷ (48 + number / 10) ∷ (48 + number % 10) ∷ 32 ∷ []

-- the line, where there is one
abbrev pub line_text : Option ℕ → List ℕ
line_text None = []
line_text (Some line) = codes ":" ++ decimal line

-- what stands behind the words, with the end of the line
abbrev pub no_tail : List ℕ
no_tail = codes "\n"

abbrev pub name_tail : List ℕ → List ℕ
name_tail name = codes " " ++ (name ++ codes "\n")

abbrev pub number_tail : ℕ → List ℕ
number_tail n = codes " " ++ (decimal n ++ codes "\n")

abbrev pub tail_text : Tail → List ℕ
tail_text Nothing = no_tail
tail_text (Name name) = name_tail name.now
tail_text (Number n) = number_tail n

abbrev pub fault_text : List ℕ → FaultCode → Option ℕ → List ℕ → List ℕ
fault_text file fault line tail = file ++ (line_text line ++ (number_text (number_of fault) ++ words_of fault ++ tail))
