use Rattle.std.proofs.Common.{List, sym, subst, arith}
use Rattle.ternary_clauses.proofs.Common.{All-get_or, on_ok_weaker, All, AllZip, Gate, gate_at, Rails, AreWithin, AreRailsOf, IsSeen, rails_at, CopiedLoop}
use Rattle.std.specs.List.{slice_index}
use Rattle.std.specs.Prelude.{OnOk}
use Rattle.ternary_clauses.specs.Lifts.{SaysGate}
use Rattle.ternary_clauses.specs.Sweeps.{BindsCopy}
use Rattle.std.proofs.lemmas.Slice.Zip.{AllZip-long}
use Rattle.ternary_clauses.proofs.sweeps.LoopCopy.bind.Goals as goal

pub bind_cover-requires-clause-pins : goal.bind_cover-requires-clause-pins
bind_cover-requires-clause-pins c = grind (arith, AllZip-long (IsSeen c.args.self.now) c.gate-read.result.now.pins c.in_ok-pins.pins.items c.in_ok-pins.ensures.seen, All-get_or)

pub bind_cover-requires-clause-rails : goal.bind_cover-requires-clause-rails
bind_cover-requires-clause-rails c =
    subst (All (AreWithin c.args.formula.now.variables)) (sym c.deref.ensures.value) (c.in_ok-pins.ensures.within c.args.formula.now.variables c.requires.copy.within)

pub bind_cover-requires-clause-out : goal.bind_cover-requires-clause-out
bind_cover-requires-clause-out c =
    subst (λ (l : CopiedLoop). AreRailsOf c.args.formula.now (rails_at l.after c.args.place)) (sym c.self.view_is) (c.requires.copy.own c.args.place c.requires.place)

pub returns-clause-copy : goal.returns-clause-copy
returns-clause-copy c =
    let seen : AllZip (IsSeen c.args.self.now) c.gate-read.result.now.pins c.deref.result.now =
    subst (λ (pins : List Rails). AllZip (IsSeen c.args.self.now) c.gate-read.result.now.pins pins) (sym c.deref.ensures.value) c.in_ok-pins.ensures.seen in
    let gate : Gate = gate_at c.self.inside.net.now (slice_index c.self.inside.gates.now c.args.place) in
    subst (λ (l : CopiedLoop). OnOk c.bind_cover.result (BindsCopy l c.args.place c.args.formula.now c.bind_cover.new.formula)) c.self.view_is
    (on_ok_weaker c.bind_cover.result
    (λ says. record {
      pins = c.deref.result.now;
      seen = subst (λ (l : CopiedLoop). AllZip (IsSeen l) gate.pins c.deref.result.now) (sym c.self.view_is)
          (subst (λ (g : Gate). AllZip (IsSeen c.args.self.now) g.pins c.deref.result.now) c.gate-read.ensures.at seen);
      says_gate = says;
    })
    (subst (λ (g : Gate). OnOk c.bind_cover.result (SaysGate c.args.formula.now c.bind_cover.new.formula c.deref.result.now (rails_at c.self.inside.after.now c.args.place) g.cover)) c.gate-read.ensures.at c.bind_cover.ensures.says))
