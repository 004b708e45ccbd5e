use Rattle.std.proofs.Common.{◌≡◌, ◌⊎◌, ◌∙◌, inl, inr, ℕ, true, get_or, sym, ap, subst, arith, true≢false}
use Rattle.verdict.proofs.Common.{cases_lt, get_or_default, is_marked}
use Rattle.verdict.specs.Fanout.{ReadsMark}
use Rattle.verdict.proofs.fanout.are_reached.Goals as goal

pub loop-gate-preserved : goal.loop-gate-preserved
loop-gate-preserved c k d less reached = elim (cases_lt k c.loop-gate.gate-index) [
  | inl low ↦ c.loop-gate.invariant k d low reached
  | inr high ↦
      let gates = c.args.gates.now in
      let i : ℕ = c.loop-gate.gate-index in
      let at : k ≡ i = omega (arith, less, high) in
      let same : get_or gates k d ≡ get_or gates i 0 = get_or_default gates k d 0 (omega (arith, at, c.loop-gate-test.true)) ∙ ap (λ (j : ℕ). get_or gates j 0) at in
      elim (subst (λ n. (is_marked c.args.marks.now n ≡ true) ⊎ ReadsMark c.args.net.now c.args.marks.now n) same reached) [
        | inl marked ↦ true≢false (sym marked ∙ c.if-marks-gate.false)
        | inr reads ↦ true≢false (sym (c.reads_mark.ensures.1 reads) ∙ c.if-reads_mark.false)
      ]
]

pub returns : goal.returns
returns c = (
  (λ is. absurd (true≢false (sym is))),
  (λ r.
      absurd (c.loop-gate.invariant r.among.0 r.gate (omega (arith, r.among.1, c.loop-gate-test.false))
      (subst (λ n. (is_marked c.args.marks.now n ≡ true) ⊎ ReadsMark c.args.net.now c.args.marks.now n) (sym r.among.2) r.mark))),
)
