use Rattle.std.proofs.Common.{◌≡◌, ◌<◌, ◌∙◌, ◌-◌, ◌++◌, ◌∷◌, [], ℕ, List, length, get_or, Contains, refl, subst, sym, ap, arith}
use Rattle.std.proofs.lemmas.List.Elements.{All-push, Contains-append_left, Contains-append_right}
use Rattle.verdict.proofs.Common.{get_or_from_slice_get, Sig, Latch, AreDriversBefore, slice_get_within}
use Rattle.verdict.proofs.ScopeLemmas.{drivers-more, drivers-all, same-gate}
use Rattle.verdict.proofs.InvarianceLemmas.{read-columns}
use Rattle.verdict.proofs.scopes.drivers_read.Goals as goal
use Rattle.verdict.proofs.scopes.drivers_read.Goals.{in-Some+in_ok-push, in_default}

pub latch-latch-requires : goal.latch-latch-requires
latch-latch-requires c = grind (arith, read-columns c.args.net.now c.args.care.now c.invariant_columns-column-items.result.now c.requires c.invariant_columns-column-items.ensures.columns c.loop-column.column-index 0 c.loop-column-test.true)

pub driver-requires : goal.driver-requires
driver-requires c =
    let none : Latch = c.latch-latch.result.now in
    let place : ℕ = get_or c.invariant_columns-column-items.result.now c.loop-column.column-index 0 - c.inputs.result in
    grind (arith, get_or_from_slice_get c.args.net.now.latches place none none c.latch-latch.ensures.latch, slice_get_within c.args.net.now.latches place none c.latch-latch.ensures.latch)

pub loop-column-preserved : goal.loop-column-preserved
loop-column-preserved c =
    let net = c.args.net.now in
    let columns : List ℕ = c.invariant_columns-column-items.result.now in
    let before : List ℕ = c.loop-column.gates.items in
    let latch = c.latch-latch.result.now in
    let at = rw c.inputs.ensures.inputs at c.latch-latch.ensures.latch in
    elim c.match-driver.branch [
      | in-Some+in_ok-push w ↦
          let some = rw w.in-Some.is at c.driver.ensures.driven in
          let new : List ℕ = before ++ w.in-Some.gate ∷ [] in
          rw (w.gates-is, w.in_ok-push.ensures.items)
          (drivers-more net columns c.loop-column.column-index before new latch at c.loop-column-test.true
          (All-push (λ n. n < length net.gates) before w.in-Some.gate c.loop-column.invariant.within some.0) (λ n. Contains-append_left before (w.in-Some.gate ∷ []) n)
          (λ n is. subst (Contains new) (same-gate net w.in-Some.gate n (sym some.1 ∙ is)) (Contains-append_right before (w.in-Some.gate ∷ []) w.in-Some.gate (0, omega arith, refl))) c.loop-column.invariant)
      | in_default w ↦
          let given = rw w.in_default.is at c.driver.ensures.given in
          rw w.gates-is
          (drivers-more net columns c.loop-column.column-index before before latch at c.loop-column-test.true c.loop-column.invariant.within (λ n here. here)
          (λ n is. absurd (let at = ap (λ (s : Sig). s.0) is in omega (arith, given, at))) c.loop-column.invariant)
    ]

pub returns-clause-drivers : goal.returns-clause-drivers
returns-clause-drivers c =
    drivers-all c.args.net.now c.args.care.now c.invariant_columns-column-items.result.now c.loop-column.gates.items c.invariant_columns-column-items.ensures.columns
    (let end : c.loop-column.column-index ≡ length c.invariant_columns-column-items.result.now = (let t = c.loop-column-test.false in let a = c.loop-column.auto.column-index-end in omega (arith, t, a)) in
    subst (λ (n : ℕ). AreDriversBefore c.args.net.now c.invariant_columns-column-items.result.now n c.loop-column.gates.items) end c.loop-column.invariant)
