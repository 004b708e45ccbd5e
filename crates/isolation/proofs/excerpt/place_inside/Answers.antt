use Rattle.std.proofs.Common.{◌≡◌, ◌-◌, ◌+◌, ℕ, ap, arith, rules, subst, Contains}
use Rattle.isolation.proofs.Common.{Sig, first_gate}
use Rattle.isolation.specs.Building.{IsPlaceOf}
use Rattle.isolation.proofs.BuildingLemmas.{place_gate, gate_there, search_none}
use Rattle.isolation.proofs.excerpt.place_inside.Goals as goal

pub returns-in_err-gate-clause-some : goal.returns-in_err-gate-clause-some
returns-in_err-gate-clause-some c rise has = grind (arith, gate_there c.args.net.now c.args.gates.now c.args.signal has)

pub returns-in-Err-clause-some : goal.returns-in-Err-clause-some
returns-in-Err-clause-some c rise has =
    let gate : c.args.signal.0 - first_gate c.args.net.now ≡ c.in_ok-gate.gate = omega (arith, ap (λ (s : Sig). s.0) c.in_ok-gate.ensures.driven.1) in
    let among = subst (Contains c.args.gates.now) gate (gate_there c.args.net.now c.args.gates.now c.args.signal has).1 in
    absurd (search_none c.args.gates.now c.in_ok-gate.gate c.in-Err.field-0 c.in-Err.ensures.position rise among)

pub returns-in-Ok-clause-place : goal.returns-in-Ok-clause-place
returns-in-Ok-clause-place c =
    let at : IsPlaceOf c.args.gates.now c.in_ok-gate.gate c.in-Ok.place = search rules in
    place_gate c.args.net.now c.args.outside.now.keys c.args.gates.now c.args.signal c.in_ok-gate.gate c.in-Ok.place _ c.in_ok-gate.ensures.driven.1 at (ap (λ (k : ℕ). c.in-Ok.place + k) c.len.ensures.len)
