use Rattle.std.proofs.Common.{◌≡◌, length, get_or, ◌∙◌, arith}
use Rattle.delay_core.proofs.Common.{get_or_read}
use Rattle.delay_core.specs.Entries.{IsJump}
use Rattle.delay_core.proofs.EntryLemmas.{writes, writes_same}
use Rattle.delay_core.proofs.entries.write.Goals as goal

pub returns-then-value_at-value-clause-written : goal.returns-then-value_at-value-clause-written
returns-then-value_at-value-clause-written c =
    grind (arith, get_or_read c.args.newest.now.items c.args.s c.index-older.result.now c.requires.signal c.index-older.ensures 0, writes_same c.args.entries.now.items c.args.newest.now.items c.args.s c.args.moment c.args.value c.requires.linked c.requires.dated c.requires.moment c.requires.signal)

pub returns-clause-written : goal.returns-clause-written
returns-clause-written c =
    let len : c.len.result ≡ length c.args.entries.now.items = c.len.ensures ∙ c.args.entries.now.ok.0 in
    let older : c.index-older.result.now ≡ get_or c.args.newest.now.items c.args.s 0 =
    get_or_read c.args.newest.now.items c.args.s c.index-older.result.now c.requires.signal c.index-older.ensures 0 in
    let jumps : IsJump c.args.entries.now.items (get_or c.args.newest.now.items c.args.s 0) c.jump_after-jump.result =
    rw (c.deref-3.ensures.value, older) at c.jump_after-jump.ensures in
    rw (c.push_reserved.ensures.items, len, older)
    (writes c.args.entries.now.items c.args.newest.now.items c.args.s c.args.moment c.args.value c.requires.linked c.requires.dated c.requires.signal
    c.jump_after-jump.result _ jumps)
