use Rattle.std.proofs.Common.{ℕ, ◌+◌, Some, None, get_or, refl, arith}
use Rattle.cyc_base.proofs.ListLemmas.{Contains-nothing}
use Rattle.fixpoint.proofs.Common.{HoldsRails, rails_at, take_all, unknown}
use Rattle.fixpoint.proofs.KeptLemmas.{AreRailsOf-gained, GainsRoots-refl, GainsRoots_chain}
use Rattle.fixpoint.proofs.KeepingLemmas.{holds-gained}
use Rattle.fixpoint.proofs.WireLemmas.{set-taken, set-others}
use Rattle.fixpoint.proofs.keeping.keep_gates.Goals as goal

pub loop-gate-preserved : goal.loop-gate-preserved
loop-gate-preserved c =
    let inv = c.loop-gate.invariant in
    record {
      gains = GainsRoots_chain inv.gains c.in_ok-kept.ensures.gains;
      kept = set-taken (λ n place. HoldsRails c.keep.new.d place (rails_at c.args.rails.now (c.args.first + n))) c.args.gates.now c.loop-gate.places c.loop-gate.gate-index (Some c.in_ok-kept.kept) None c.loop-gate-test.true
          (omega (arith, c.requires.gates c.loop-gate.gate-index 0 c.loop-gate-test.true, c.loop-gate.auto.places)) (λ n has. holds-gained c.in_ok-kept.ensures.gains (inv.kept n has))
          (record { kept = c.in_ok-kept.kept; is = refl; keys = c.in_ok-kept.ensures.kept; rails_are = c.in_ok-kept.ensures.rails });
      others = set-others c.args.gates.now c.args.places.now c.loop-gate.places c.loop-gate.gate-index (Some c.in_ok-kept.kept) None c.loop-gate-test.true inv.others;
    }

pub keep-requires : goal.keep-requires
keep-requires c =
    let i : ℕ = c.loop-gate.gate-index in
    let place : ℕ = c.args.first + get_or c.args.gates.now i 0 in
    AreRailsOf-gained c.loop-gate.invariant.gains (rails_at c.args.rails.now place) (c.requires.proper place unknown (omega (arith, c.requires.width, c.requires.gates i 0 c.loop-gate-test.true)))

pub loop-gate-init : goal.loop-gate-init
loop-gate-init c = record { gains = GainsRoots-refl c.args.d.now; kept = λ n has. absurd (Contains-nothing n has); others = λ n none. refl }

pub returns-in_err-kept-clause-gains : goal.returns-in_err-kept-clause-gains
returns-in_err-kept-clause-gains c = GainsRoots_chain c.loop-gate.invariant.gains c.keep.ensures.gains

pub returns-clause-kept : goal.returns-clause-kept
returns-clause-kept c = rw (take_all c.loop-gate.gate-index c.args.gates.now c.loop-gate-test.false) at c.loop-gate.invariant.kept

pub returns-clause-others : goal.returns-clause-others
returns-clause-others c = rw (take_all c.loop-gate.gate-index c.args.gates.now c.loop-gate-test.false) at c.loop-gate.invariant.others
