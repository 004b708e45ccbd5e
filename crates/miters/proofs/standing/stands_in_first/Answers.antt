use Rattle.std.proofs.Common.{◌≡◌, ◌≤◌, ◌++◌, ℕ, List, All, length, sym, subst, ◌∙◌, arith}
use Rattle.miters.proofs.Common.{IfOk-weaker, Pair, columns_by_name, output_pairs, latch_pairs}
use Rattle.miters.specs.Placed.{placed_by, StandIn}
use Rattle.miters.proofs.MatchLemmas.{matched}
use Rattle.miters.proofs.PlacedLemmas.{never_differs}
use Rattle.miters.proofs.standing.stands_in_first.Goals as goal

pub returns : goal.returns
returns c =
    let a = c.args.a.now in
    let b = c.args.b.now in
    let table = c.args.columns.now in
    let few : length b.gates ≤ length a.gates = grind arith in
    let asked : All (λ pair. (placed_by table c.deref.result.now pair.there).0 ≡ pair.here.0) c.deref-2.result.now = grind arith in
    let stand : All (λ pair. (placed_by (columns_by_name a b) c.deref-3.result.now pair.there).0 ≡ pair.here.0) (output_pairs a b ++ latch_pairs a b) =
    subst (λ (pairs : List Pair). All (λ pair. (placed_by (columns_by_name a b) c.deref-3.result.now pair.there).0 ≡ pair.here.0) pairs) (c.deref-2.ensures.value ∙ c.in_ok-pairs.ensures)
    (subst (λ (places : List ℕ). All (λ pair. (placed_by (columns_by_name a b) places pair.there).0 ≡ pair.here.0) c.deref-2.result.now) (c.deref.ensures.value ∙ sym c.deref-3.ensures.value)
    (subst (λ (table : List ℕ). All (λ pair. (placed_by table c.deref.result.now pair.there).0 ≡ pair.here.0) c.deref-2.result.now) c.requires.columns asked)) in
    IfOk-weaker c.all_stand.result _ _
    (λ stands says told care.
    never_differs a b c.deref-3.result.now c.laws.ensures.valid c.laws-2.ensures.valid (matched a b c.requires.matched) few
    (subst (λ (table : List ℕ). StandIn a b table c.deref-3.result.now) c.requires.columns (says told))
    care stand)
    c.all_stand.ensures
