-- One value more is loaded.
use Rattle.std.proofs.Common.{◌+◌, ◌<◌, List, length, sym, subst, arith}
use Rattle.simulation.proofs.Common.{get_or_default, Trit, X}
use Rattle.simulation.proofs.LoadLemmas.{AreLoaded, loaded_more}
use Rattle.simulation.proofs.wires.Wires.load.Goals as goal

pub loop-number-preserved : goal.loop-number-preserved
loop-number-preserved c =
    let given = c.args.given.now in
    let k = c.loop-number.number in
    let old = c.args.self.now.values.items in
    let values = c.loop-number.self.values.items in
    let width = c.loop-number.invariant.kept.width in
    let within : c.args.first + k < length values = omega arith in
    record {
      kept = c.change.ensures.kept;
      loaded =
          subst (λ (new : List Trit). AreLoaded c.args.first given (k + 1) old new) (sym c.change.ensures.values)
          (loaded_more c.args.first given k old values _ within (get_or_default given k X _ c.loop-number-test.true) c.loop-number.invariant.loaded);
    }
