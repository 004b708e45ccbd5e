use Rattle.std.proofs.Common.{◌≡◌, ◌≤◌, ◌-◌, ◌∙◌, ℕ, List, ap, sym, arith, get_or, true≢false}
use Rattle.isolation.proofs.Common.{eq-eqb, eqb-true, Sig, Blocks, home_of, first_gate}
use Rattle.isolation.proofs.BuildingLemmas.{inside_block, block_inside}
use Rattle.isolation.proofs.excerpt.is_inside.Goals as goal

pub returns-in-Some : goal.returns-in-Some
returns-in-Some c =
    let looped = c.args.looped.now in
    let are = c.net.ensures.looped.blocks in
    let own = ap first_gate c.net.ensures.net in
    let driven = ap (λ (s : Sig). s.0) c.in-Some.ensures.driven.1 in
    let gate : c.in-Some.gate ≡ c.args.signal.0 - first_gate looped.net = omega (arith, own, driven) in
    let above : first_gate looped.net ≤ c.args.signal.0 = omega (arith, own, driven) in
    let at : get_or c.items.result.now c.in-Some.gate 0 ≡ home_of looped.blocks (c.args.signal.0 - first_gate looped.net) =
    ap (λ (xs : List ℕ). get_or xs c.in-Some.gate 0) (c.items.ensures ∙ ap (λ (blocks : Blocks). blocks.home) c.blocks-in-Some.ensures.blocks) ∙ ap (home_of looped.blocks) gate in
    record {
      outside = λ e has. true≢false (sym (eq-eqb _ _ (at ∙ (inside_block looped.net looped.blocks are c.args.place c.args.signal c.requires.place has).1)) ∙ e);
      inside = λ e. block_inside looped.net looped.blocks are c.args.place c.args.signal c.requires.signal above (sym at ∙ eqb-true _ _ e);
    }

pub returns-in-None : goal.returns-in-None
returns-in-None c =
    let looped = c.args.looped.now in
    record {
      outside = λ e has.
          let above = (inside_block looped.net looped.blocks c.net.ensures.looped.blocks c.args.place c.args.signal c.requires.place has).0 in
          omega (arith, ap first_gate c.net.ensures.net, above, c.in-None.ensures.given);
      inside = λ e. absurd (true≢false (sym e));
    }
