use Rattle.std.proofs.Common.{◌+◌, List, ap, ap₂, ◌∙◌, subst}
use Rattle.cyc_base.specs.declared.sig.Sig.{Sig}
use Rattle.netlist.specs.Netlists.{signal}
use Rattle.case_split.specs.Added.{IsAt}
use Rattle.case_split.proofs.AddedLemmas.{shared_new, shared_there}
use Rattle.case_split.proofs.added.Added.share.Goals as goal

pub returns-in-Some : goal.returns-in-Some
returns-in-Some c =
    shared_there c.args.base.now.net.now c.args.cover c.args.pins.items c.args.self.now.gates.items c.in-Some.place _
    (subst (λ (pins : List Sig). IsAt c.args.self.now.gates.items c.args.cover pins c.in-Some.place) c.deref-2.ensures.value c.in-Some.ensures) (ap (λ n. signal (n + c.in-Some.place)) c.count.ensures.count) c.requires.new

pub returns : goal.returns
returns c =
    shared_new c.args.base.now.net.now c.args.cover c.args.pins.items c.args.self.now.gates.items c.args.name.now c.requires.name c.requires.pins c.requires.counted c.requires.new
    c.push.new.self.gates.items _ c.in_ok-push.ensures (ap₂ (λ a b. signal (a + b)) c.count-2.ensures.count (c.len-place.ensures ∙ c.args.self.now.gates.ok.0))
