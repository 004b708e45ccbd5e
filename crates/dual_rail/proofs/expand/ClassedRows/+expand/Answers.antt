use Rattle.std.proofs.Common.{◌<◌, ◌+◌, ℕ, sym, subst, ◌∙◌, arith}
use Rattle.dual_rail.proofs.Common.{IsPart, remainder, narrowed}
use Rattle.bdd_store.proofs.GrowthLemmas.{KeepsNodes-chain, NewAreParts-chain, NewAreParts-part, IsRefusedPart-part}
use Rattle.dual_rail.specs.Expansion.{AreBranches}
use Rattle.dual_rail.proofs.ExpansionLemmas.{IsExpansion-kept}
use Rattle.dual_rail.proofs.LiveLemmas.{IsPart-next, IsExpansion-next}
use Rattle.dual_rail.proofs.MemoLemmas.{IsMemo-found}
use Rattle.dual_rail.proofs.expand.ClassedRows.+expand.Goals as goal

pub branch-returns-in-Ok-clause-parts : goal.branch-returns-in-Ok-clause-parts
branch-returns-in-Ok-clause-parts t c = NewAreParts-part (IsPart-next c.args.self.now.rows.now c.args.self.now.plane c.args.live.now.rows.items c.args.bit c.in-Ok.next.rows.items c.requires.at c.in-Ok.ensures.pin c.in-Ok.ensures.rows) c.expand.ensures.parts

pub branch-returns-in-Ok-clause-full : goal.branch-returns-in-Ok-clause-full
branch-returns-in-Ok-clause-full t c is_full =
    IsRefusedPart-part
    (subst (λ (v : ℕ). IsPart v (remainder c.args.self.now.rows.now c.args.self.now.plane c.args.live.now.pin c.args.live.now.rows.items) (remainder c.args.self.now.rows.now c.args.self.now.plane c.in-Ok.next.pin c.in-Ok.next.rows.items)) (sym c.expand.ensures.keeps.vars) (IsPart-next c.args.self.now.rows.now c.args.self.now.plane c.args.live.now.rows.items c.args.bit c.in-Ok.next.rows.items c.requires.at c.in-Ok.ensures.pin c.in-Ok.ensures.rows))
    (c.expand.ensures.full is_full)

pub expand-returns-in-Some-copied-clause-node : goal.expand-returns-in-Some-copied-clause-node
expand-returns-in-Some-copied-clause-node t c = IsMemo-found c.args.self.now.rows.now c.args.self.now.plane c.args.store.now c.args.memo.now c.args.live c.in-Some-copied.n c.copied.result c.requires.memo (c.copied.ensures ∙ c.get.ensures.value) c.in-Some-copied.is

pub expand-branch-self-requires : goal.expand-branch-self-requires
expand-branch-self-requires t c =
    let less : c.args.live.pin < c.args.store.now.vars = rw c.in_default.is at (c.decided.ensures.none c.args.self.now.rows.now c.args.store.now.vars c.requires.ends c.requires.width) in
    (omega (arith, c.decreases), (c.requires.width, (c.requires.pins, (c.requires.classes, (c.requires.ends, (less, c.requires.memo))))))

pub expand-branch-self-requires-2 : goal.expand-branch-self-requires-2
expand-branch-self-requires-2 t c =
    let less : c.args.live.pin < c.args.store.now.vars = rw c.in_default.is at (c.decided.ensures.none c.args.self.now.rows.now c.args.store.now.vars c.requires.ends c.requires.width) in
    let vars = c.branch-self.ensures.keeps.vars in
    (omega (arith, c.decreases, vars), ((λ k d at. c.requires.width k d at ∙ sym c.branch-self.ensures.keeps.vars), (omega (arith, vars, c.requires.pins), (c.requires.classes, (c.requires.ends, (omega (arith, vars), c.in_ok-low.ensures.memo))))))

pub expand-returns-in_err-high-clause-parts : goal.expand-returns-in_err-high-clause-parts
expand-returns-in_err-high-clause-parts t c = NewAreParts-chain c.branch-self.ensures.keeps c.branch-self-2.ensures.keeps c.branch-self.ensures.parts c.branch-self-2.ensures.parts

pub expand-join-requires-clause-pin : goal.expand-join-requires-clause-pin
expand-join-requires-clause-pin t c =
    let less : c.args.live.pin < c.args.store.now.vars = rw c.in_default.is at (c.decided.ensures.none c.args.self.now.rows.now c.args.store.now.vars c.requires.ends c.requires.width) in
    omega (arith, less, c.branch-self.ensures.keeps.vars, c.branch-self-2.ensures.keeps.vars)

pub expand-returns-clause-parts : goal.expand-returns-clause-parts
expand-returns-clause-parts t c =
    let are : AreBranches c.args.self.now.rows.now c.args.self.now.plane c.branch-self-2.new.store c.args.live.pin c.args.live.rows.items c.in_ok-low.low c.in_ok-high.high = record { at_zero = IsExpansion-kept c.branch-self-2.ensures.keeps c.in_ok-low.ensures.node; at_one = c.in_ok-high.ensures.node } in
    let kept = KeepsNodes-chain c.branch-self.ensures.keeps c.branch-self-2.ensures.keeps in
    NewAreParts-chain (KeepsNodes-chain c.branch-self.ensures.keeps c.branch-self-2.ensures.keeps) c.join.ensures.keeps
    (NewAreParts-chain c.branch-self.ensures.keeps c.branch-self-2.ensures.keeps c.branch-self.ensures.parts c.branch-self-2.ensures.parts)
    (c.join.ensures.parts c.args.self.now.rows.now c.args.self.now.plane are)

pub expand-returns-clause-full : goal.expand-returns-clause-full
expand-returns-clause-full t c is_full =
    let are : AreBranches c.args.self.now.rows.now c.args.self.now.plane c.branch-self-2.new.store c.args.live.pin c.args.live.rows.items c.in_ok-low.low c.in_ok-high.high = record { at_zero = IsExpansion-kept c.branch-self-2.ensures.keeps c.in_ok-low.ensures.node; at_one = c.in_ok-high.ensures.node } in
    c.join.ensures.full c.args.self.now.rows.now c.args.self.now.plane are is_full

pub expand-returns-in_err-high-clause-keeps : goal.expand-returns-in_err-high-clause-keeps
expand-returns-in_err-high-clause-keeps t c = KeepsNodes-chain c.branch-self.ensures.keeps c.branch-self-2.ensures.keeps

pub expand-returns-clause-keeps : goal.expand-returns-clause-keeps
expand-returns-clause-keeps t c = KeepsNodes-chain (KeepsNodes-chain c.branch-self.ensures.keeps c.branch-self-2.ensures.keeps) c.join.ensures.keeps

pub branch-returns-in-Ok-clause-node : goal.branch-returns-in-Ok-clause-node
branch-returns-in-Ok-clause-node t c = IsExpansion-next c.args.self.now.rows.now c.args.self.now.plane _ (c.args.live.now.pin + 1) c.in-Ok.next.pin c.in-Ok.next.rows.items (narrowed c.args.self.now.rows.now c.args.live.now.pin c.args.bit c.args.live.now.rows.items) c.expand.result c.expand.ensures.node c.in-Ok.ensures.pin c.in-Ok.ensures.rows
