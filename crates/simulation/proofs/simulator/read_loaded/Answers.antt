-- What this latch loads comes after what those before it load.
use Rattle.std.proofs.Common.{◌≡◌, ◌<◌, ◌++◌, ◌+◌, [], ◌∷◌, length, drop, map, append_assoc, add-one, sym, ◌∙◌, ap, subst, arith}
use Rattle.simulation.proofs.Common.{get_or_default, X, wire}
use Rattle.std.proofs.lemmas.Option.{get_or_from_slice_get}
use Rattle.cyc_base.proofs.ListLemmas.{drop-get}
use Rattle.netlist.specs.declared.parts.Latch.{Latch}
use Rattle.netlist.specs.Netlists.{IsSignal}
use Rattle.simulation.proofs.simulator.read_loaded.Goals as goal

pub loop-number-preserved : goal.loop-number-preserved
loop-number-preserved c =
    let net = c.args.net.now in
    let latches = net.latches in
    let values = c.args.values.now in
    let n = c.loop-number.number in
    let next = c.loop-number.next.items in
    let latch = c.latch.result.now in
    let load = λ (l : Latch). wire values l.from in
    let rest = map load (drop (n + 1) latches) in
    let inside : n < length latches = omega arith in
    let source : IsSignal net latch.from =
    subst (λ (l : Latch). IsSignal net l.from) (get_or_from_slice_get latches n latch latch c.latch.ensures.latch)
    (c.latch.ensures.valid.sources n latch inside) in
    let within : latch.from.0 < length values = omega arith in
    let pushed : c.push.new.self.items ≡ next ++ load latch ∷ [] =
    c.in_ok-push.ensures.items ∙ ap (λ x. next ++ x ∷ []) (get_or_default values latch.from.0 _ X within) in
    let cut : map load (drop n latches) ≡ load latch ∷ rest = rw add-one (ap (map load) (drop-get latches n latch c.latch.ensures.latch)) in
    ap (λ l. l ++ rest) pushed ∙ append_assoc next (load latch ∷ []) rest ∙ ap (λ l. next ++ l) (sym cut) ∙ c.loop-number.invariant
