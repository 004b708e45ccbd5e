-- A text that was taken whole is a prefix of itself.
use Rattle.std.proofs.Common.{List, ℕ, length, sym, subst}
use Rattle.plain_commands.proofs.Common.{Option}
use Rattle.std.specs.Io.KnownBytes.{Appends}
use Rattle.std.proofs.Math.Seq.{take-length}
use Rattle.cyc_io.specs.Taken.{AppendsPrefix}

pub whole_prefix : (old new : Option (List ℕ)) (text : List ℕ) → Appends old new text → AppendsPrefix old new text
whole_prefix old new text taken =
    let P : List ℕ → Type 0 = λ part. Appends old new part in
    record { count = length text; taken = subst P (sym (take-length text)) taken }
