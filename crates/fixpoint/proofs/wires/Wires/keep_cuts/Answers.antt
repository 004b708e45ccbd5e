use Rattle.std.proofs.Common.{◌≡◌, ◌+◌, ◌∙◌, ℕ, List, ap, length, get_or, subst, sym, arith}
use Rattle.std.proofs.lemmas.List.{get_or_read, length-set}
use Rattle.fixpoint.proofs.Common.{All-set, AreRailsOf, Rails, rails_at, unknown}
use Rattle.fixpoint.proofs.WireLemmas.{rails_at-proper, set-taken, set-others}
use Rattle.fixpoint.proofs.wires.Wires.keep_cuts.Goals as goal

pub loop-gate-preserved : goal.loop-gate-preserved
loop-gate-preserved c =
    let inv = c.loop-gate.invariant in
    let cuts = c.args.cuts.now in
    let rails = c.args.self.now.rails.items in
    let before = c.loop-gate.self.before.items in
    let i = c.loop-gate.gate-index in
    let inside = c.loop-gate-test.true in
    let gate : ℕ = get_or c.args.cuts.now c.loop-gate.gate-index 0 in
    let room = c.requires.cuts c.loop-gate.gate-index 0 c.loop-gate-test.true in
    let read : c.index.result.now ≡ rails_at c.args.self.now.rails.items (c.args.first + get_or c.args.cuts.now c.loop-gate.gate-index 0) =
    get_or_read c.loop-gate.self.rails.items (c.args.first + get_or c.args.cuts.now c.loop-gate.gate-index 0) c.index.result.now (omega (arith, room, c.requires.width, ap length inv.rails)) c.index.ensures unknown
    ∙ ap (λ (rs : List Rails). rails_at rs (c.args.first + get_or c.args.cuts.now c.loop-gate.gate-index 0)) inv.rails in
    record {
      rails = inv.rails;
      width = length-set before gate c.index.result.now ∙ inv.width;
      kept = set-taken (λ n r. r ≡ rails_at rails (c.args.first + n)) cuts before i c.index.result.now unknown inside (omega (arith, room, inv.width)) inv.kept read;
      others = set-others cuts c.args.self.now.before.items before i c.index.result.now unknown inside inv.others;
      proper = λ a all old. All-set (AreRailsOf a) before gate c.index.result.now (subst (AreRailsOf a) (sym read) (rails_at-proper a rails all (c.args.first + gate))) (inv.proper a all old);
    }
