use Rattle.std.proofs.Common.{◌≡◌, ◌∙◌, ◌<◌, inl, inr, ℕ, List, length, get_or, refl, sym, ap, subst, arith}
use Rattle.std.specs.List.{Contains}
use Rattle.loop_simulation.proofs.Common.{cases_lt, length-map, Contains-get_or, Trit, bit, bits, CutsAreFixed, value_in, IsReady, LoopAt, loops_in}
use Rattle.std.proofs.lemmas.Bool.Decides.{nat_tests}
use Rattle.std.proofs.lemmas.List.{with_items_is}
use Rattle.loop_simulation.specs.Events.{IsSwept}
use Rattle.loop_simulation.proofs.EventLemmas.{ready-first}
use Rattle.loop_simulation.proofs.LoopLemmas.{cuts-enough}
use Rattle.loop_simulation.proofs.SimulationLemmas.{changed-fits, changed-needs, still-fixed, swept-next, swept_at}
use Rattle.loop_simulation.proofs.simulating.count_in.Goals as goal

pub loop-sweeps-init : goal.loop-sweeps-init
loop-sweeps-init c =
    let l : LoopAt = c.args.simulation.now.block.now in
    grind (arith, ready-first l c.args.simulation.now.outside.now)

pub sweep-requires-clause-ready : goal.sweep-requires-clause-ready
sweep-requires-clause-ready c = grind arith

pub returns-then-is_empty : goal.returns-then-is_empty
returns-then-is_empty c v wide fixed =
    let l : LoopAt = c.args.simulation.now.block.now in
    let is = c.cut_count-most.ensures.is in
    let k : ℕ = c.loop-sweeps.sweeps in
    let outside : List Trit = c.args.simulation.now.outside.now in
    let before : List Trit = c.loop-sweeps.before.items in
    let after : List Trit = c.sweep.new.after in
    let changed : List ℕ = c.in_ok-changed.changed.items in
    let inv = c.loop-sweeps.invariant in
    let swept : IsSwept l outside before after changed =
    swept_at l _ outside _ before after changed refl c.deref.ensures.value c.in_ok-changed.ensures in
    let none : length changed ≡ 0 = (let empty = c.if-is_empty.ensures in let own = c.in_ok-changed.changed.ok.0 in grind (arith, nat_tests)) in
    let next = swept-next l is (bits v) outside before after k fixed swept.sweeping (inv.at v fixed) in
    record {
      enough = still-fixed l is v (length-map v bit ∙ wide) before after k (inv.at v fixed) next
          (λ n there cut. elim (swept.unseen.each n there cut) [ inl alike ↦ alike | inr listed ↦ absurd (omega (arith, listed.1, none)) ]);
      least = inv.more v wide fixed;
    }

pub show-requires-clause-readers : goal.show-requires-clause-readers
show-requires-clause-readers c k d low = grind (arith, changed-fits c.args.simulation.now.block.now c.cut_count-most.ensures.is _ _ _ _ c.deref-in-loop-sweeps.result.now c.deref-in-loop-sweeps.ensures.value c.in_ok-changed.ensures k d low)

pub show-requires-clause-before : goal.show-requires-clause-before
show-requires-clause-before c k d low = grind (arith, changed-fits c.args.simulation.now.block.now c.cut_count-most.ensures.is _ _ _ _ c.deref-in-loop-sweeps.result.now c.deref-in-loop-sweeps.ensures.value c.in_ok-changed.ensures k d low)

pub show-requires-clause-after : goal.show-requires-clause-after
show-requires-clause-after c k d low =
    grind (arith, changed-fits c.args.simulation.now.block.now c.cut_count-most.ensures.is _ _ _ _ c.deref-in-loop-sweeps.result.now c.deref-in-loop-sweeps.ensures.value c.in_ok-changed.ensures k d low, with_items_is c.loop-sweeps.after c.sweep.new.after)

pub loop-sweeps-preserved : goal.loop-sweeps-preserved
loop-sweeps-preserved c =
    let l : LoopAt = c.args.simulation.now.block.now in
    let is = c.cut_count-most.ensures.is in
    let k : ℕ = c.loop-sweeps.sweeps in
    let outside : List Trit = c.args.simulation.now.outside.now in
    let before : List Trit = c.loop-sweeps.before.items in
    let after : List Trit = c.sweep.new.after in
    let shown : List Trit = c.show.new.before in
    let changed : List ℕ = c.in_ok-changed.changed.items in
    let waiting : List ℕ = c.in_ok-waiting-2.waiting.items in
    let inv = c.loop-sweeps.invariant in
    let swept : IsSwept l outside before after changed =
    swept_at l _ outside _ before after changed refl c.deref.ensures.value c.in_ok-changed.ensures in
    let owned : length after ≡ c.loop-sweeps.after.len = omega (arith, swept.sweeping.width_after, inv.ready.sweeping.width_after, c.loop-sweeps.after.ok.0) in
    let after_is = with_items_is c.loop-sweeps.after after owned in
    let read : c.deref-in-loop-sweeps-2.result.now ≡ after = c.deref-in-loop-sweeps-2.ensures.value ∙ after_is in
    let given : IsSwept l outside c.deref_mut-in-loop-sweeps.result.now c.deref-in-loop-sweeps-2.result.now c.deref-in-loop-sweeps.result.now =
    rw (c.deref_mut-in-loop-sweeps.ensures.value, read, c.deref-in-loop-sweeps.ensures.value) swept in
    let ready : IsReady l outside shown after waiting = subst (λ (s : List Trit). IsReady l outside shown s waiting) read (c.in_ok-waiting-2.ensures l outside c.requires given) in
    let owned_before : length shown ≡ c.loop-sweeps.before.len = omega (arith, ready.sweeping.width_before, inv.ready.sweeping.width_before, c.loop-sweeps.before.ok.0) in
    let before_is = with_items_is c.loop-sweeps.before shown owned_before in
    let some : 0 < length changed = (let full = c.if-is_empty.ensures in let own = c.in_ok-changed.changed.ok.0 in grind (arith, nat_tests)) in
    let wire : ℕ = get_or changed 0 0 in
    let listed : Contains changed wire = Contains-get_or changed 0 0 some in
    record {
      ready = rw (before_is, after_is) ready;
      at = λ v fixed n there cut.
          ap (λ (s : List Trit). value_in s n) before_is
          ∙ elim (ready.unseen.each n there cut) [ inl alike ↦ alike | inr none ↦ absurd (omega (arith, none.1)) ]
          ∙ swept-next l is (bits v) outside before after k fixed swept.sweeping (inv.at v fixed) n there;
      more = λ v wide fixed a j inside low. elim (cases_lt j k) [
        | inl early ↦ inv.more v wide fixed a j inside early
        | inr high ↦
            (let here : k ≡ j = omega (arith, low, high) in
            subst (λ (i : ℕ). ¬ CutsAreFixed l.net (loops_in l) (bits v) a i) here
            (changed-needs l is v (length-map v bit ∙ wide) before after k (inv.at v fixed) (swept-next l is (bits v) outside before after k fixed swept.sweeping (inv.at v fixed)) wire (swept.unseen.inside wire listed) (swept.unseen.are wire listed) (swept.differs wire listed) a inside))
      ];
    }

pub returns : goal.returns
returns c v wide fixed =
    let l : LoopAt = c.args.simulation.now.block.now in
    let count = c.cut_count-most.ensures.count in
    let past = c.loop-sweeps-test.false in
    record {
      enough = λ a inside. subst (λ (n : ℕ). CutsAreFixed l.net (loops_in l) (bits v) a n) (sym count) (cuts-enough l c.cut_count-most.ensures.is v wide a inside);
      least = λ a j inside low. c.loop-sweeps.invariant.more v wide fixed a j inside (omega (arith, low, past));
    }
