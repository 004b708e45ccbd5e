use Rattle.std.proofs.Common.{◌≡◌, ◌≤◌, length, take, map}
use Rattle.std.specs.Prelude.{vec_capacity, vec_len}
use Rattle.flatten.proofs.Common.{formals, each_once}
use Rattle.flatten.proofs.library.formals_of_each.Given as goal

abbrev pub invariant-loop-model : goal.invariant-loop-model
invariant-loop-model l = record {
  formals : map (λ set. set.keys) l.each.items ≡ map (λ model. each_once (formals model)) (take l.model-index l.models);
  len : vec_len l.each ≡ l.model-index;
  room : length l.models ≤ vec_capacity l.each;
}
