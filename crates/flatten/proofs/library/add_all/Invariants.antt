use Rattle.std.proofs.Common.{◌≡◌, take, fold}
use Rattle.flatten.proofs.Common.{bytes_eq, insert_key}
use Rattle.flatten.proofs.library.add_all.Given as goal

abbrev pub invariant-loop-name : goal.invariant-loop-name
invariant-loop-name l = l.set.keys ≡ fold (insert_key bytes_eq) l.initial.set.keys (take l.name-index l.names)
