use Rattle.std.proofs.Common.{◌≡◌, ◌∷◌, [], ◌++◌, ◌+◌, ◌≤◌, ℕ, suc, List, Bool, length, drop, refl, ap, ap₂, sym, ◌∙◌, arith}
use Rattle.delay_core.proofs.Common.{length-map, Parts, count, wires, History, newest, bit_at, loaded_at, gates_at, SeenPlay, starts_of, no_events, Told}
use Rattle.std.proofs.lemmas.List.{length-append, length-drop}
use Rattle.delay_core.proofs.PlayLemmas.{opens}
use Rattle.delay_core.proofs.ReadingLemmas.{starts-none}
use Rattle.delay_core.proofs.play.Play.end_tick.Goals as goal

pub overflow_add-self : goal.overflow_add-self
overflow_add-self c = grind arith

pub next_vector-requires : goal.next_vector-requires
next_vector-requires c = c.self.invariant.0.width

pub push-requires : goal.push-requires
push-requires c =
    let last : List Bool = newest c.self.inside.timeline.history in
    let net : Parts = c.self.inside.net.now in
    let is : c.deref.result.now ≡ c.args.inputs.now ++ loaded_at net last = c.deref.ensures.value ∙ c.in_ok-vector.ensures in
    let inputs : length c.args.inputs.now ≡ length net.inputs = c.requires.inputs ∙ sym (ap (λ (p : SeenPlay). length p.state.net.inputs) c.self.view_is) in
    let width = c.self.invariant.0.width in
    record { width = omega (arith, width, inputs, ap (λ (v : List Bool). length v) is, length-append c.args.inputs.now (loaded_at net last), length-map net.latches (λ latch. bit_at last latch.from)) }

pub invariant_of-self : goal.invariant_of-self
invariant_of-self c = rw c.in_err-push.ensures.err c.self.invariant

pub invariant_of-self-2 : goal.invariant_of-self-2
invariant_of-self-2 c =
    let is = c.self.invariant.0 in
    let h : History = c.self.inside.timeline.history in
    let last : List Bool = newest h in
    let net : Parts = c.self.inside.net.now in
    let v : List Bool = c.deref.result.now in
    let told : c.push.new.self ≡ record { history = (v ++ drop (length v) last) ∷ h; spare = c.self.inside.timeline.spare } =
    c.in_ok-push.ensures.ok in
    let is_v : v ≡ c.args.inputs.now ++ loaded_at net last = c.deref.ensures.value ∙ c.in_ok-vector.ensures in
    let inputs : length c.args.inputs.now ≡ length net.inputs = c.requires.inputs ∙ sym (ap (λ (p : SeenPlay). length p.state.net.inputs) c.self.view_is) in
    let wide : length v ≤ length last =
    omega (arith, is.width, inputs, ap (λ (v : List Bool). length v) is_v, length-append c.args.inputs.now (loaded_at net last), length-map net.latches (λ latch. bit_at last latch.from)) in
    let long : length c.push.new.self.history ≡ suc (length h) = ap (λ (t : Told). length t.history) told in
    let same : length (newest c.push.new.self.history) ≡ count net =
    ap (λ (t : Told). length (newest t.history)) told ∙ omega (arith, length-append v (drop (length v) last), length-drop (length v) last, wide, is.width) in
    let done : c.self.inside.done.items ≡ no_events net =
    ap (λ (p : SeenPlay). p.state.done) c.self.view_is ∙ c.requires.begun ∙ ap (λ (p : SeenPlay). no_events p.state.net) (sym c.self.view_is) in
    let next = opens net c.push.new.self.history c.self.inside.past (c.self.inside.tick + 1) c.moments-opening.result same
    (omega arith)
    (omega (arith, is.ticks, is.moments, long, c.moments-opening.ensures))
    c.moments-opening.ensures in
    let spare : c.push.new.self.spare ≡ c.self.inside.timeline.spare = ap (λ (t : Told). t.spare) told in (
      rw (c.clear.ensures.items, done) next,
      c.self.invariant.1,
      rw spare c.self.invariant.2,
      omega (arith, c.clear.ensures.len, c.clear.ensures.capacity, c.self.invariant.3),
    )

pub returns-clause-ok : goal.returns-clause-ok
returns-clause-ok c =
    let h : History = c.self.inside.timeline.history in
    let last : List Bool = newest h in
    let net : Parts = c.self.inside.net.now in
    let vector : List Bool = c.args.inputs.now ++ loaded_at net last in
    let is : c.deref.result.now ≡ vector = c.deref.ensures.value ∙ c.in_ok-vector.ensures in
    let inputs : length c.args.inputs.now ≡ length net.inputs = c.requires.inputs ∙ sym (ap (λ (p : SeenPlay). length p.state.net.inputs) c.self.view_is) in
    let wide : length vector ≡ length net.inputs + length net.latches =
    omega (arith, inputs, length-append c.args.inputs.now (loaded_at net last), length-map net.latches (λ latch. bit_at last latch.from)) in
    let history : c.push.new.self.history ≡ wires vector (gates_at net last) ∷ h =
    ap (λ (t : Told). t.history) c.in_ok-push.ensures.ok
    ∙ ap (λ (v : List Bool). (v ++ drop (length v) last) ∷ h) is
    ∙ ap (λ n. (vector ++ drop n last) ∷ h) wide in
    let opening : c.moments-opening.result ≡ suc (length h) = c.moments-opening.ensures ∙ ap (λ (t : History). length t) history in
    let starts : starts_of c.moments-opening.result c.clear.new.self.items 1 ≡ suc (length h) ∷ [] =
    ap₂ (λ n (ms : List ℕ). starts_of n ms 1) opening c.clear.ensures.items ∙ starts-none (suc (length h)) 1 in
    let tick : c.self.inside.tick + 1 ≡ suc c.self.inside.tick = omega arith in
    rw (← c.self.view_is, starts, opening, history, tick) refl
