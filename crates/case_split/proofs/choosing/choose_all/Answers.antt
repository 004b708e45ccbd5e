use Rattle.std.proofs.Common.{◌+◌, ◌-◌, length, drop, take, refl, arith}
use Rattle.std.proofs.lemmas.List.Elements.{All-drop, All-take}
use Rattle.netlist.specs.Netlists.{count}
use Rattle.case_split.specs.Cases.{IsUsable}
use Rattle.case_split.specs.Operands.{IsWithin}
use Rattle.case_split.proofs.AddedLemmas.{all_within_more, more_length, more_none}
use Rattle.case_split.proofs.ChoiceLemmas.{part_narrow, part_possible, part_next}
use Rattle.case_split.proofs.choosing.choose_all.Goals as goal

pub loop-first-preserved : goal.loop-first-preserved
loop-first-preserved c =
    part_next c.args.base.now.net.now c.args.cases.now c.args.leaves.now c.loop-first.first (c.loop-first.first + c.min.result) c.args.added.now.gates.items c.loop-first.added.gates.items c.choose_next.new.added.gates.items c.loop-first.chosen c.in_ok-chosen.chosen
    (let s = c.group_size-size.ensures.some in let t = c.loop-first-test.true in let m = c.min.ensures in omega arith) (let t = c.loop-first-test.true in let m = c.min.ensures in omega arith) c.loop-first.invariant c.in_ok-chosen.ensures

pub choose_next-requires-clause-narrow : goal.choose_next-requires-clause-narrow
choose_next-requires-clause-narrow c =
    part_narrow c.args.cases.now c.loop-first.first (c.loop-first.first + c.min.result) c.group_size-size.result c.group_size-size.ensures.fits (omega arith) (let t = c.loop-first-test.true in let m = c.min.ensures in omega arith) (let m = c.min.ensures in omega arith)

pub choose_next-requires-clause-possible : goal.choose_next-requires-clause-possible
choose_next-requires-clause-possible c =
    part_possible c.args.cases.now c.args.leaves.now c.loop-first.first (c.loop-first.first + c.min.result) c.requires.possible (omega arith) (let t = c.loop-first-test.true in let m = c.min.ensures in omega arith)

pub choose_next-requires-clause-columns : goal.choose_next-requires-clause-columns
choose_next-requires-clause-columns c =
    let bound = count c.args.base.now.net.now in
    All-take (IsUsable bound) (c.loop-first.first + c.min.result - c.loop-first.first) (drop c.loop-first.first c.args.cases.now) (All-drop (IsUsable bound) c.loop-first.first c.args.cases.now c.requires.columns)

pub choose_next-requires-clause-room : goal.choose_next-requires-clause-room
choose_next-requires-clause-room c =
    let more = (more_length c.args.added.now.gates.items c.loop-first.added.gates.items c.loop-first.first c.loop-first.invariant.more).1 in
    let t = c.loop-first-test.true in
    let r = c.requires.room in
    omega arith

pub choose_next-requires-clause-within : goal.choose_next-requires-clause-within
choose_next-requires-clause-within c =
    let low = count c.args.base.now.net.now + length c.args.added.now.gates.items in
    let more = (more_length c.args.added.now.gates.items c.loop-first.added.gates.items c.loop-first.first c.loop-first.invariant.more).0 in
    let size = c.loop-first.first + c.min.result - c.loop-first.first in
    let rest = drop c.loop-first.first c.args.leaves.now in
    all_within_more low (count c.args.base.now.net.now + length c.loop-first.added.gates.items) (take size rest) (omega arith)
    (All-take (IsWithin low) size rest (All-drop (IsWithin low) c.loop-first.first c.args.leaves.now c.requires.within))

pub loop-first-init : goal.loop-first-init
loop-first-init c = record {
  inside = omega arith;
  here = λ f agree i d l only. absurd (omega arith);
  later = λ f agree i l only. refl;
  more = more_none c.args.added.now.gates.items;
  are = c.requires.new;
  within = tt;
}

pub choose_next-requires-clause-name : goal.choose_next-requires-clause-name
choose_next-requires-clause-name c = c.requires.name
