use Rattle.std.proofs.Common.{ℕ, ◌+◌, ◌*◌, List, get_or, length, map, refl, subst, take, arith}
use Rattle.std.proofs.lemmas.List.{length-take-le, take_all}
use Rattle.std.specs.Vec.{vec_items}
use Rattle.netlist.specs.Netlists.{count}
use Rattle.case_split.specs.Added.{IsMore}
use Rattle.case_split.specs.Heads.{AreRoots}
use Rattle.case_split.proofs.AddedLemmas.{all_within_more, more_length, room_left}
use Rattle.case_split.proofs.CaseLemmas.{roots_next}
use Rattle.case_split.proofs.heads.roots_of.Goals as goal

pub loop-gate-preserved : goal.loop-gate-preserved
loop-gate-preserved c =
    roots_next c.args.base.now.net.now c.args.cases.now (map vec_items c.args.tables.now) c.args.gates.now c.loop-gate.gate-index (get_or c.args.gates.now c.loop-gate.gate-index 0) c.args.added.now.gates.items c.loop-gate.added.gates.items c.root_of.new.added.gates.items c.loop-gate.roots.items c.in_ok-root.root
    c.loop-gate.invariant c.requires.gates c.loop-gate-test.true refl c.in_ok-root.ensures

pub root_of-requires-clause-room : goal.root_of-requires-clause-room
root_of-requires-clause-room c =
    let e = length-take-le c.loop-gate.gate-index c.args.gates.now (let t = c.loop-gate-test.true in omega arith) in
    room_left (count c.args.base.now.net.now) (length c.args.cases.now) c.loop-gate.gate-index (length c.args.gates.now) c.args.added.now.gates.items c.loop-gate.added.gates.items
    (subst (λ (n : ℕ). IsMore c.args.added.now.gates.items c.loop-gate.added.gates.items (n * length c.args.cases.now)) e c.loop-gate.invariant.more) c.loop-gate-test.true c.requires.room

pub root_of-requires-clause-within : goal.root_of-requires-clause-within
root_of-requires-clause-within c i d l =
    let net = c.args.base.now.net.now in
    let more = more_length c.args.added.now.gates.items c.loop-gate.added.gates.items (length (take c.loop-gate.gate-index c.args.gates.now) * length c.args.cases.now) c.loop-gate.invariant.more in
    all_within_more (count net + length c.args.added.now.gates.items) (count net + length c.loop-gate.added.gates.items) (get_or (map vec_items c.args.tables.now) i d) (let x = more.0 in omega arith) (c.requires.within i d l)

pub returns : goal.returns
returns c =
    subst (λ (gates : List ℕ). AreRoots c.args.base.now.net.now c.args.cases.now (map vec_items c.args.tables.now) gates c.args.added.now.gates.items c.loop-gate.added.gates.items c.loop-gate.roots.items)
    (take_all c.loop-gate.gate-index c.args.gates.now c.loop-gate-test.false) c.loop-gate.invariant

pub root_of-requires-clause-cases : goal.root_of-requires-clause-cases
root_of-requires-clause-cases c = c.requires.cases

pub root_of-requires-clause-gate : goal.root_of-requires-clause-gate
root_of-requires-clause-gate c = c.requires.gates c.loop-gate.gate-index 0 c.loop-gate-test.true
