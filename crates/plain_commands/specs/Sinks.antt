-- What a call did with its sinks, and how its outcome is told.
use Rattle.std.specs.Prelude.{◌≡◌, ◌⊎◌, ℕ, List, []}
use Rattle.std.specs.Io.KnownBytes.{Appends}
use Rattle.cyc_io.specs.Faults.{Rose}
pub use Rattle.cyc_io.specs.Taken.{SinkCall, sink_call}
use Rattle.cyc_io.specs.Taken.{AppendsPrefix}
use Rattle.plain_commands.specs.Texts.{Outcome}

abbrev pub WriteFailed : SinkCall → Type 0
WriteFailed sink = Rose sink.before sink.now

abbrev pub Takes : SinkCall → List ℕ → Type 0
Takes sink text = Appends sink.old sink.new text

abbrev pub TakesPrefix : SinkCall → List ℕ → Type 0
TakesPrefix sink text = AppendsPrefix sink.old sink.new text

-- This was told whole.
pub record IsTold (end : Outcome) (out err : SinkCall) (status : ℕ) : Type 0 where
  pub is : status ≡ end.status
  pub out_text : Takes out end.out
  pub err_text : Takes err end.err

-- A write failed: the status is 5, and each sink took a prefix of its text. Out is written first, so err took nothing
-- where out isn't whole.
pub record IsCutOff (end : Outcome) (out err : SinkCall) (status : ℕ) : Type 0 where
  pub is : status ≡ 5
  pub cause : WriteFailed out ⊎ WriteFailed err
  pub out_text : TakesPrefix out end.out
  pub err_text : TakesPrefix err end.err
  pub in_order : Takes out end.out ⊎ Takes err []

-- Status 5 takes the place of any other.
abbrev pub Tells : Outcome → SinkCall → SinkCall → ℕ → Type 0
Tells end out err status = IsTold end out err status ⊎ IsCutOff end out err status
