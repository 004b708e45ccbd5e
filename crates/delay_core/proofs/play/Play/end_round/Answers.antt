use Rattle.std.proofs.Common.{◌≡◌, ℕ, List, Bool, not, replicate, false, None, ap, sym, ◌∙◌, arith}
use Rattle.delay_core.proofs.Common.{position, no_events}
use Rattle.delay_core.specs.Plays.{IsPlay}
use Rattle.delay_core.proofs.PlayLemmas.{round_ends, none_had}
use Rattle.delay_core.proofs.ReadingLemmas.{length-starts, start-next}
use Rattle.delay_core.proofs.play.Play.end_round.Goals as goal

pub invariant_of-self : goal.invariant_of-self
invariant_of-self c =
    let is = c.self.invariant.0 in
    let fair : position (λ (had : Bool). not had) c.self.inside.done.items ≡ None =
    ap (λ (had : List Bool). position (λ (h : Bool). not h) had) (sym c.deref.ensures.value) ∙ sym c.first_without.ensures.first ∙ c.in_default.is in
    let done : c.fill.new.self.items ≡ no_events c.self.inside.net.now =
    c.fill.ensures.items (λ y e. e) ∙ ap (λ n. replicate n false) (c.self.inside.done.ok.0 ∙ is.done) in
    let next : IsPlay c.self.inside.net.now c.self.inside.timeline.history c.self.inside.past c.self.inside.tick c.self.inside.opening c.self.inside.marks.items c.saturating_add-self-inside.result (no_events c.self.inside.net.now) =
    round_ends c.self.inside.net.now c.self.inside.timeline.history c.self.inside.past c.self.inside.tick c.self.inside.opening c.self.inside.marks.items c.self.inside.round c.self.inside.done.items is fair
    c.saturating_add-self-inside.result
    (omega (arith, c.saturating_add-self-inside.ensures)) (omega (arith, c.saturating_add-self-inside.ensures)) in
    (rw done next, c.self.invariant.1, c.self.invariant.2, c.self.invariant.3)

pub returns-clause-ok : goal.returns-clause-ok
returns-clause-ok c less =
    let is = c.self.invariant.0 in
    let opening : ℕ = c.self.inside.opening in
    let marks : List ℕ = c.self.inside.marks.items in
    grind (arith, length-starts opening marks c.self.inside.round, start-next opening marks c.self.inside.round is.behind)

pub returns-clause-full : goal.returns-clause-full
returns-clause-full c most =
    let is = c.self.invariant.0 in
    let opening : ℕ = c.self.inside.opening in
    let marks : List ℕ = c.self.inside.marks.items in
    grind (arith, length-starts opening marks c.self.inside.round, none_had c.self.inside.net.now c.self.inside.timeline.history c.self.inside.past c.self.inside.tick opening marks c.self.inside.round c.self.inside.done.items is)
