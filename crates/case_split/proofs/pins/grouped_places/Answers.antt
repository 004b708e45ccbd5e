-- A range that is collected is the list of its numbers, and sorting permutes it.
use Rattle.std.proofs.Common.{ℕ, List, refl, subst, arith}
use Rattle.std.proofs.lemmas.Iterator.{items_from_collect, YieldsList-from_range}
use Rattle.std.specs.List.Sorted.{IsPermutation}
use Rattle.std.specs.Prelude.{Ok}
use Rattle.std.specs.declared.alloc.AllocError.{AllocError}
use Rattle.case_split.proofs.PinLemmas.{places_within}
use Rattle.case_split.proofs.pins.grouped_places.Goals as goal

pub returns-clause-permuted : goal.returns-clause-permuted
returns-clause-permuted c =
    subst (λ (numbers : List ℕ). IsPermutation numbers c.sort_by_key.new.self.items)
    (items_from_collect {E = AllocError} (Ok c.in_ok-places.places) c.in_ok-places.ensures.ran (YieldsList-from_range 0 c.args.count c.args.count refl (omega arith)))
    c.sort_by_key.ensures.permutation

pub returns-clause-within : goal.returns-clause-within
returns-clause-within c =
    places_within c.args.count c.sort_by_key.new.self.items
    (subst (λ (numbers : List ℕ). IsPermutation numbers c.sort_by_key.new.self.items)
    (items_from_collect {E = AllocError} (Ok c.in_ok-places.places) c.in_ok-places.ensures.ran (YieldsList-from_range 0 c.args.count c.args.count refl (omega arith)))
    c.sort_by_key.ensures.permutation)
