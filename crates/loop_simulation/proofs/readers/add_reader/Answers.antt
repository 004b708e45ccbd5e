use Rattle.std.proofs.Common.{◌≡◌, ◌∙◌, ◌<◌, [], ◌∷◌, ◌++◌, ℕ, List, length, take, get_or, set, subst, ap, sym, arith}
use Rattle.loop_simulation.proofs.Common.{get_or_default, Sig, Parts, gate_at, LoopAt, HasGainedReader}
use Rattle.netlist.specs.declared.parts.Gate.{Gate}
use Rattle.loop_simulation.proofs.ReaderLemmas.{gained-nothing, gained-pin, taken-next}
use Rattle.loop_simulation.proofs.readers.add_reader.Goals as goal
use Rattle.loop_simulation.proofs.readers.add_reader.Goals.{in-Some+in_ok-push, in_default}

pub loop-pin-preserved : goal.loop-pin-preserved
loop-pin-preserved c =
    let l : LoopAt = c.args.block.now in
    let gate : ℕ = c.args.gate in
    let i : ℕ = c.loop-pin.pin-index in
    let pins : List Sig = (gate_at l.net gate).pins in
    let read : c.items-pin-items.result.now ≡ pins =
    c.items-pin-items.ensures ∙ ap (λ (g : Gate). g.pins) c.gate.ensures.at ∙ ap (λ (net : Parts). (gate_at net gate).pins) c.net.ensures.net in
    elim c.match-source.branch [
      | in-Some+in_ok-push w ↦
          let n : ℕ = w.in-Some.source in
          let fits = w.in-Some.ensures.fits in
          let low : n < length c.loop-pin.readers = omega (arith, fits, c.loop-pin.auto.readers, c.requires.size) in
          let row : List ℕ = get_or c.loop-pin.readers n w.index-readers-source.result in
          rw (w.readers-is, w.in_ok-push.ensures)
          (subst (λ (ps : List Sig). HasGainedReader l gate ps c.args.readers.now (set c.loop-pin.readers n (row ++ gate ∷ []))) (taken-next _ pins i _ read c.loop-pin-test.true)
          (gained-pin l c.net.ensures.is gate (take i pins) _ n c.args.readers.now c.loop-pin.readers row (sym c.source.ensures.source ∙ w.in-Some.is) low
          (get_or_default c.loop-pin.readers n w.index-readers-source.result [] low) c.loop-pin.invariant))
      | in_default w ↦
          rw w.readers-is
          (subst (λ (ps : List Sig). HasGainedReader l gate ps c.args.readers.now c.loop-pin.readers) (taken-next _ pins i _ read c.loop-pin-test.true)
          (gained-nothing l c.net.ensures.is gate (take i pins) _ c.args.readers.now c.loop-pin.readers (sym c.source.ensures.source ∙ w.in_default.is) c.loop-pin.invariant))
    ]
