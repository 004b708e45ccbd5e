use Rattle.std.proofs.Common.{◌≡◌, ◌+◌, ◌++◌, List, take, drop, true, ap, sym, ◌∙◌, subst, arith}
use Rattle.std.specs.Prelude.{All}
use Rattle.care_rows.specs.Rows.{IsSteadySignal}
use Rattle.care_rows.specs.declared.rows.WireValue.{WireValue}
use Rattle.assumptions.proofs.ImpliedLemmas.{left_out, others_steady}
use Rattle.assumptions.proofs.implied.leave_out.Goals as goal

pub is_implied-requires-clause-others : goal.is_implied-requires-clause-others
is_implied-requires-clause-others c =
    subst (λ (others : List WireValue). All (λ (e : WireValue). IsSteadySignal c.args.looped.now.net e.wire) others)
    (sym (c.deref-2.ensures.value ∙ c.in_ok-others.ensures ∙ ap (λ (vs : List WireValue). take c.args.place vs ++ drop (c.args.place + 1) vs) c.deref.ensures.value))
    (others_steady c.args.looped.now.net c.args.values.now.items c.args.place c.requires.steady)

pub returns : goal.returns
returns c =
    let yes : c.in_ok-is_implied.field-0 ≡ true = grind (arith, c.if-not-branch.false) in
    left_out c.args.looped.now.net c.args.values.now.items c.in_ok-others.others.items c.deref-2.result.now c.args.place c.index.result.now c.requires.place
    (c.in_ok-others.ensures ∙ ap (λ (vs : List WireValue). take c.args.place vs ++ drop (c.args.place + 1) vs) c.deref.ensures.value)
    c.deref-2.ensures.value c.index.ensures (c.in_ok-is_implied.ensures yes)
