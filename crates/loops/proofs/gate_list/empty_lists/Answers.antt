use Rattle.std.proofs.Common.{◌≡◌, ◌∙◌, ◌++◌, ◌∷◌, [], ◌+◌, ap, replicate, ℕ, List, arith}
use Rattle.std.proofs.lemmas.List.{replicate_more}
use Rattle.loops.proofs.gate_list.empty_lists.Goals as goal

one_more : (n : ℕ) (lists more : List (List ℕ)) (added : List ℕ) → lists ≡ replicate n [] → added ≡ [] → more ≡ lists ++ added ∷ [] → more ≡ replicate (n + 1) []
one_more n lists more added are none is = is ∙ rw (are, none) (replicate_more n [])

pub loop-preserved : goal.loop-preserved
loop-preserved c = one_more c.loop.counter c.loop.lists.items _ c.new.result c.loop.invariant c.new.ensures c.in_ok-push.ensures.items

pub returns : goal.returns
returns c =
    let last : c.loop.counter ≡ c.args.count = omega arith in
    c.loop.invariant ∙ ap (λ (n : ℕ). replicate {A = List ℕ} n []) last
