use Rattle.std.proofs.Common.{◌≡◌, [], take, map, fold}
use Rattle.flatten.proofs.Common.{bytes_eq, insert_key}
use Rattle.flatten.proofs.library.add_model_names.Given as goal

abbrev pub invariant-loop-model : goal.invariant-loop-model
invariant-loop-model l = l.set.keys ≡ fold (insert_key bytes_eq) [] (map (λ model. model.name) (take l.model-index l.models))
