use Rattle.std.proofs.Common.{◌≡◌, ◌+◌, ◌∷◌, [], None, length, ap, subst, sym, ◌∙◌, arith}
use Rattle.std.proofs.lemmas.List.{length-append}
use Rattle.case_split.specs.Cofactors.{left_at}
use Rattle.case_split.proofs.ListLemmas.{AreMade, made_next}
use Rattle.case_split.proofs.cofactors.left_pins.Goals as goal

pub loop-pin-preserved : goal.loop-pin-preserved
loop-pin-preserved c =
    let live = c.args.live.now in
    let os = c.args.operands.now in
    let pin = c.loop-pin.pin in (
      ap length c.in_ok-push.ensures.items ∙ length-append c.loop-pin.left.items (c.left_at.result ∷ []) ∙ ap (λ n. n + 1) c.loop-pin.invariant.0,
      (let l = c.loop-pin-test.true in omega arith),
      λ d.
          subst (AreMade (left_at live) (λ i. d) (λ i. None) os (pin + 1)) (sym c.in_ok-push.ensures.items)
          (made_next (left_at live) (λ i. d) (λ i. None) os c.loop-pin.left.items pin c.left_at.result _ c.loop-pin.invariant.0 c.loop-pin-test.true c.left_at.ensures (c.loop-pin.invariant.2 d)),
    )

pub returns : goal.returns
returns c =
    let same : c.loop-pin.pin ≡ length c.args.operands.now = (let i = c.loop-pin.invariant.1 in let t = c.loop-pin-test.false in omega arith) in
    record {
      width = c.loop-pin.invariant.0 ∙ same;
      each = λ i d l. c.loop-pin.invariant.2 d i (omega arith);
    }
