use Rattle.std.proofs.Common.{◌≡◌, ◌*◌, Vec, Global, Bool, List, take}
use Rattle.equal.proofs.Common.{find, by_variable, vectors, some_differ, BoundsPairs}
use Rattle.std.specs.Option.{option_map}
use Rattle.bdd_store.proofs.GrowthLemmas.{HasGrown}
use Rattle.equal.proofs.parting.least_of_pairs.Given as goal

abbrev pub invariant-loop-pair : goal.invariant-loop-pair
invariant-loop-pair l = record {
  least : option_map (λ (v : Vec Bool Global). v.items) l.least ≡ find (λ (v : List Bool). some_differ l.fn.d l.set l.rails (take l.pair-index l.pairs) (by_variable l.order v)) (vectors l.fn.d.vars);
  grows : HasGrown l.fn.d l.d (BoundsPairs l.fn.d l.set l.rails l.pairs) (4 * l.pair-index);
}
