use Rattle.std.proofs.Common.{◌≡◌, ◌≤◌, length}
use Rattle.cyc_base.specs.declared.trit.Trit.TheVariants.{X}
use Rattle.netlist.specs.Netlists.{signal}
use Rattle.case_split.specs.declared.operands.Operand.TheVariants.{Wire}
use Rattle.case_split.specs.Tables.{plain_of}
use Rattle.case_split.proofs.ListLemmas.{AreMade}
use Rattle.case_split.proofs.tables.plain_table.Given as goal

abbrev pub invariant-loop-number : goal.invariant-loop-number
invariant-loop-number l = (length l.table.items ≡ l.number) × (l.number ≤ length l.values) × AreMade (λ i t. plain_of t (signal i)) (λ i. X) (λ i. Wire (signal i)) l.values l.number l.table.items
