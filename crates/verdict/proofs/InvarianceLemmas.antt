-- What the invariant reads.
use Rattle.std.proofs.Common.{◌≡◌, ℕ, ◌-◌, ◌<◌, List, [], length, arith}
use Rattle.verdict.proofs.Common.{option_map_or, Parts, IsCareOf, CareSet, All}
use Rattle.diagram_decision.proofs.PartLemmas.{invariant-reads}

-- the columns that the invariant reads are those of latches
pub read-columns : (net : Parts) (care : CareSet) (columns_read : List ℕ) → IsCareOf net care → columns_read ≡ option_map_or (λ model. model.columns) care.invariant [] →
    All (λ column. column - length net.inputs < length net.latches) columns_read
read-columns net care columns_read bound is = grind (arith, invariant-reads net care (length net.latches) bound)
