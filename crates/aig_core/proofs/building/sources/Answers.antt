use Rattle.std.proofs.Common.{◌++◌, ◌∷◌, [], map, take, ap, sym, ◌∙◌}
use Rattle.std.proofs.lemmas.List.{map_more}
use Rattle.aig_core.proofs.Common.{slice_get_within, get_or_from_slice_get, Latch}
use Rattle.aig_core.proofs.building.sources.Goals as goal

pub loop-number-preserved : goal.loop-number-preserved
loop-number-preserved c =
    let latches = c.args.net.now.latches in
    let k = c.loop-number.number in
    let latch = c.latch.result.now in
    c.in_ok-push.ensures.items
    ∙ ap (λ xs. xs ++ latch.from ∷ []) c.loop-number.invariant
    ∙ sym (map_more (λ (l : Latch). l.from) latches k latch (slice_get_within latches k latch c.latch.ensures.latch)
    ∙ ap (λ (l : Latch). map (λ (x : Latch). x.from) (take k latches) ++ l.from ∷ []) (get_or_from_slice_get latches k latch latch c.latch.ensures.latch))
