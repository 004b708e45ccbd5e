use Rattle.std.proofs.Common.{ℕ, ◌<◌, List, Vec, Global, All, length, map, sym, subst}
use Rattle.std.specs.Vec.{vec_items}
use Rattle.netlist.specs.declared.parts.Parts.{Parts}
use Rattle.case_split.specs.declared.operands.Operand.{Operand}
use Rattle.case_split.specs.Heads.{AreStandingIn}
use Rattle.case_split.proofs.CaseLemmas.{copied_within, tables_stand}
use Rattle.case_split.proofs.splitting.split_heads.Goals as goal

pub roots_of-requires-clause-gates : goal.roots_of-requires-clause-gates
roots_of-requires-clause-gates c =
    let net : Parts = c.args.base.now.net.now in
    subst (All (λ (n : ℕ). n < length net.gates)) (sym c.requires.gates) (copied_within net c.args.base.now.copied.now)

pub roots_of-requires-clause-tables : goal.roots_of-requires-clause-tables
roots_of-requires-clause-tables c =
    let net : Parts = c.args.base.now.net.now in
    subst (λ (ts : List (Vec Operand Global)). AreStandingIn net c.args.cases.now (map vec_items ts)) (sym c.deref.ensures.value)
    (tables_stand net c.args.base.now.copied.now c.args.cases.now c.args.added.now.gates.items c.tables_of.new.added.gates.items (map vec_items c.in_ok-tables.tables.items) c.in_ok-tables.ensures)
