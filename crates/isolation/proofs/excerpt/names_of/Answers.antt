use Rattle.std.proofs.Common.{◌∙◌, ap, map}
use Rattle.std.proofs.lemmas.List.{take_all}
use Rattle.isolation.proofs.Common.{name_at}
use Rattle.isolation.proofs.ValidLemmas.{names_more}
use Rattle.isolation.proofs.excerpt.names_of.Goals as goal

pub loop-signal-preserved : goal.loop-signal-preserved
loop-signal-preserved c =
    names_more c.args.net.now c.args.signals.now c.loop-signal.names.items c.push.new.self.items c.loop-signal.signal-index _ c.in_ok-name.name _ c.loop-signal-test.true c.loop-signal.invariant c.in_ok-push.ensures.items c.in_ok-name.ensures c.name_of.ensures.name

pub loop-signal-init : goal.loop-signal-init
loop-signal-init c = c.in_ok-names.ensures.items

pub name_of-requires : goal.name_of-requires
name_of-requires c = c.requires c.loop-signal.signal-index _ c.loop-signal-test.true

pub returns : goal.returns
returns c = c.loop-signal.invariant ∙ ap (map (name_at c.args.net.now)) (take_all c.loop-signal.signal-index c.args.signals.now c.loop-signal-test.false)
