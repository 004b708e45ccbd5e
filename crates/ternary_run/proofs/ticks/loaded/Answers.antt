-- What this latch loads comes after what those before it load.
use Rattle.std.proofs.Common.{◌≡◌, ◌++◌, ◌+◌, [], ◌∷◌, drop, map, append_assoc, add-one, sym, ◌∙◌, ap, ℕ, List, Some, append-nil, arith}
use Rattle.std.proofs.lemmas.List.{at_drop_all}
use Rattle.std.proofs.lemmas.Option.{get_or_from_slice_get, slice_get_within}
use Rattle.std.specs.List.{slice_get}
use Rattle.cyc_base.specs.declared.trit.Trit.{Trit}
use Rattle.cyc_base.proofs.ListLemmas.{drop-get}
use Rattle.netlist.specs.declared.parts.Latch.{Latch}
use Rattle.netlist.specs.declared.parts.Parts.{Parts}
use Rattle.netlist.specs.Netlists.{IsNetlist, IsSignal}
use Rattle.netlist.specs.Fixpoint.{wire}
use Rattle.ternary_run.proofs.ticks.loaded.Goals as goal

source_within : (net : Parts) (n : ℕ) (latch : Latch) → IsNetlist net → slice_get net.latches n ≡ Some latch → IsSignal net latch.from
source_within net n latch valid at = grind (arith, get_or_from_slice_get, slice_get_within)

pub loop-number-preserved : goal.loop-number-preserved
loop-number-preserved c =
    let latches = c.args.net.now.latches in
    let values = c.args.values.now in
    let n = c.loop-number.number in
    let next = c.loop-number.next.items in
    let latch = c.latch.result.now in
    let load = λ (l : Latch). wire values l.from in
    let rest = map load (drop (n + 1) latches) in
    let pushed : c.push.new.self.items ≡ next ++ load latch ∷ [] = c.in_ok-push.ensures.items ∙ ap (λ x. next ++ x ∷ []) c.value_of.ensures in
    let cut : map load (drop n latches) ≡ load latch ∷ rest = rw add-one (ap (map load) (drop-get latches n latch c.latch.ensures.latch)) in
    ap (λ l. l ++ rest) pushed ∙ append_assoc next (load latch ∷ []) rest ∙ ap (λ l. next ++ l) (sym cut) ∙ c.loop-number.invariant

pub loop-number-init : goal.loop-number-init
loop-number-init c = ap (λ (l : List Trit). l ++ map (λ (latch : Latch). wire c.args.values.now latch.from) c.args.net.now.latches) c.in_ok-next.ensures.items

pub value_of-requires : goal.value_of-requires
value_of-requires c = grind (arith, source_within)

pub returns : goal.returns
returns c =
    let load : Latch → Trit = λ latch. wire c.args.values.now latch.from in
    let rest : map load (drop c.loop-number.number c.args.net.now.latches) ≡ [] =
    at_drop_all (map load) c.args.net.now.latches c.loop-number.number (omega (arith, c.latches-number-end.ensures.latches)) in
    sym (ap (λ (l : List Trit). c.loop-number.next.items ++ l) rest ∙ append-nil c.loop-number.next.items) ∙ c.loop-number.invariant
