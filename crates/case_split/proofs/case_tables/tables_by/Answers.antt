use Rattle.std.proofs.Common.{◌≡◌, ℕ, ◌*◌, List, length, map, subst, sym, arith}
use Rattle.std.proofs.lemmas.List.{map-append}
use Rattle.std.specs.Vec.{vec_items}
use Rattle.netlist.specs.Netlists.{count}
use Rattle.case_split.specs.Added.{IsMore}
use Rattle.case_split.specs.CaseTables.{AreTables}
use Rattle.case_split.proofs.AddedLemmas.{room_left}
use Rattle.case_split.proofs.CaseLemmas.{tables_next, tables_none}
use Rattle.case_split.proofs.case_tables.tables_by.Goals as goal

pub loop-case-init : goal.loop-case-init
loop-case-init c = rw c.new-tables.ensures.items (tables_none c.args.base.now.net.now c.args.base.now.copied.now c.args.cases.now c.args.added.now.gates.items c.requires.new)

pub loop-case-preserved : goal.loop-case-preserved
loop-case-preserved c =
    grind (
      arith,
      c.in_ok-push.ensures.items,
      map-append,
      tables_next c.args.base.now.net.now c.args.base.now.copied.now c.args.cases.now c.loop-case.case-index c.case-item.result c.args.added.now.gates.items c.loop-case.added.gates.items c.table_of.new.added.gates.items (map vec_items c.loop-case.tables.items) c.in_ok-table_of.field-0.items c.loop-case.invariant c.loop-case-test.true c.case-item.is c.in_ok-table_of.ensures,
    )

pub table_of-requires-clause-room : goal.table_of-requires-clause-room
table_of-requires-clause-room c =
    let old = c.args.added.now.gates.items in
    let mid = c.loop-case.added.gates.items in
    room_left (count c.args.base.now.net.now) (length c.args.gates.now) c.loop-case.case-index (length c.args.cases.now) old mid
    (subst (λ (gates : List ℕ). IsMore old mid (c.loop-case.case-index * length gates)) (sym c.requires.gates) c.loop-case.invariant.more) c.loop-case-test.true c.requires.room

pub returns : goal.returns
returns c =
    let all : c.loop-case.case-index ≡ length c.args.cases.now = (let t = c.loop-case-test.false in let e = c.loop-case.auto.case-index-end in omega arith) in
    subst (λ (n : ℕ). AreTables c.args.base.now.net.now c.args.base.now.copied.now c.args.cases.now n c.args.added.now.gates.items c.loop-case.added.gates.items (map vec_items c.loop-case.tables.items)) all c.loop-case.invariant
