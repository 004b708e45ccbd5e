use Rattle.std.proofs.Common.{◌≡◌, ◌∙◌, ◌<◌, ◌++◌, [], ℕ, List, length, get_or, ap, subst, arith}
use Rattle.loop_simulation.proofs.Common.{get_or_default, length-set, Trit, Zero, X, AreUnseen}
use Rattle.std.proofs.lemmas.List.{drop_all}
use Rattle.loop_simulation.proofs.EventLemmas.{shown-next}
use Rattle.loop_simulation.proofs.simulating.show.Goals as goal

pub loop-wire-preserved : goal.loop-wire-preserved
loop-wire-preserved c =
    let i : ℕ = c.loop-wire.wire-index in
    let next = c.loop-wire-test.true in
    let wire : ℕ = get_or c.args.changed.now i 0 in
    let before : List Trit = c.loop-wire.before in
    let after : List Trit = c.args.after.now in
    let value : Trit = get_or after wire Zero in
    let fits = c.requires.before i 0 next in
    let low : wire < length before = omega (arith, fits, c.loop-wire.invariant.size) in
    let value_is = get_or_default after wire Zero X (c.requires.after i 0 next) in
    let more : c.extend_from_slice.new.self.items ≡ c.loop-wire.waiting.items ++ get_or c.args.readers.now wire [] =
    c.in_ok-extend_from_slice.ensures.items ∙ ap (λ (ns : List ℕ). c.loop-wire.waiting.items ++ ns) (c.gates.ensures ∙ c.index-readers-wire.is ∙ get_or_default c.args.readers.now wire _ [] (c.requires.readers i 0 next)) in
    record {
      size = length-set before wire value ∙ c.loop-wire.invariant.size;
      sweeping = λ l outside are swept.
          (shown-next l outside before after c.loop-wire.waiting.items c.extend_from_slice.new.self.items c.args.changed.now i value c.args.readers.now are next low value_is more
          (c.loop-wire.invariant.sweeping l outside are swept) (c.loop-wire.invariant.unseen l outside are swept)).0;
      unseen = λ l outside are swept.
          (shown-next l outside before after c.loop-wire.waiting.items c.extend_from_slice.new.self.items c.args.changed.now i value c.args.readers.now are next low value_is more
          (c.loop-wire.invariant.sweeping l outside are swept) (c.loop-wire.invariant.unseen l outside are swept)).1;
    }

pub returns : goal.returns
returns c = λ l outside are swept. record {
  sweeping = c.loop-wire.invariant.sweeping l outside are swept;
  unseen = subst (λ (ns : List ℕ). AreUnseen l c.loop-wire.before c.args.after.now ns) (drop_all c.loop-wire.wire-index c.args.changed.now c.loop-wire-test.false) (c.loop-wire.invariant.unseen l outside are swept);
}
