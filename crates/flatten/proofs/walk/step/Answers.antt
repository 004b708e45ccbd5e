use Rattle.std.proofs.lemmas.Result.{on_ok_weaker}
use Rattle.flatten.proofs.Printable.{printed_line, printed_part}
use Rattle.flatten.proofs.Stepping.{goes_at, room_for_line, enters_at, walks_out, walks_line, walks_part}
use Rattle.flatten.proofs.walk.step.Goals as goal

pub pass_line-requires-clause-room : goal.pass_line-requires-clause-room
pass_line-requires-clause-room c = room_for_line c.args.hierarchy.now c.args.walk.now c.args.level c.requires.goes c.in-Some.item.now c.in-Gate.is c.in-Some.ensures.0

pub pass_part-requires-clause-counted : goal.pass_part-requires-clause-counted
pass_part-requires-clause-counted c = (goes_at c.args.hierarchy.now c.args.walk.now c.args.level c.requires.goes).1

pub pass_part-requires-clause-room : goal.pass_part-requires-clause-room
pass_part-requires-clause-room c =
    let e = rw c.in-Part.is at c.in-Some.ensures.0 in
    (enters_at c.args.hierarchy.now c.args.walk.now c.args.level c.requires.goes c.in-Part.part e).0

pub pass_part-requires-clause-enters : goal.pass_part-requires-clause-enters
pass_part-requires-clause-enters c =
    let e = rw c.in-Part.is at c.in-Some.ensures.0 in
    (enters_at c.args.hierarchy.now c.args.walk.now c.args.level c.requires.goes c.in-Part.part e).1

-- ---- where it leads

pub returns-in-None-clause-on : goal.returns-in-None-clause-on
returns-in-None-clause-on c = λ top answer w. walks_out c.args.hierarchy.now c.args.walk.now c.args.level top answer w c.in-None.ensures

pub returns-in-Gate-clause-on : goal.returns-in-Gate-clause-on
returns-in-Gate-clause-on c =
    on_ok_weaker c.pass_line.result
    (λ passed top answer w. walks_line c.args.hierarchy.now c.args.walk.now c.args.level top answer w c.pass_line.new.walk c.in-Some.item.now c.in-Gate.is c.in-Some.ensures.0 passed)
    c.pass_line.ensures.passed

pub returns-in-Part-clause-on : goal.returns-in-Part-clause-on
returns-in-Part-clause-on c =
    let e = rw c.in-Part.is at c.in-Some.ensures.0 in
    on_ok_weaker c.pass_part.result
    (λ passed top answer w. walks_part c.args.hierarchy.now c.args.walk.now c.args.level top answer w c.pass_part.new.walk c.in-Part.part e passed)
    c.pass_part.ensures.passed

-- ---- what is printed

pub returns-in-None-clause-prints : goal.returns-in-None-clause-prints
returns-in-None-clause-prints c = λ can here p. p

pub returns-in-Gate-clause-prints : goal.returns-in-Gate-clause-prints
returns-in-Gate-clause-prints c =
    let at = goes_at c.args.hierarchy.now c.args.walk.now c.args.level c.requires.goes in
    on_ok_weaker c.pass_line.result
    (λ passed can here p. printed_line c.args.hierarchy.now.models can c.args.walk.now c.pass_line.new.walk c.args.level at.0 here p c.in-Some.item.now c.in-Some.ensures.0 passed)
    c.pass_line.ensures.passed

pub returns-in-Part-clause-prints : goal.returns-in-Part-clause-prints
returns-in-Part-clause-prints c =
    let at = goes_at c.args.hierarchy.now c.args.walk.now c.args.level c.requires.goes in
    let e = rw c.in-Part.is at c.in-Some.ensures.0 in
    on_ok_weaker c.pass_part.result
    (λ passed can here p. printed_part c.args.hierarchy.now.models can c.args.walk.now c.pass_part.new.walk c.args.level at.0 here p c.args.hierarchy.now.depth c.in-Part.part e passed)
    c.pass_part.ensures.passed
