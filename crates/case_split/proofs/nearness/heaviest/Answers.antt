use Rattle.std.proofs.Common.{rules, ◌≡◌, ℕ, ◌<◌, All, subst, sym}
use Rattle.std.proofs.lemmas.List.Elements.{All-take}
use Rattle.std.proofs.lemmas.List.Sorted.{All-permutation}
use Rattle.case_split.proofs.nearness.heaviest.Goals as goal

pub returns : goal.returns
returns c bound below =
    let copied : c.in_ok-heavy.heavy.items ≡ c.args.columns.now = c.in_ok-heavy.ensures.items_if_clones_equal (search rules) in
    rw c.truncate.ensures.items
    (All-take (λ (column : ℕ). column < bound) 64 c.sort_by_key.new.self.items
    (All-permutation (λ (column : ℕ). column < bound) c.in_ok-heavy.heavy.items c.sort_by_key.new.self.items c.in_ok-sort_by_key.ensures.permutation
    (subst (All (λ (column : ℕ). column < bound)) (sym copied) below)))
