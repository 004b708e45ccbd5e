use Rattle.std.proofs.Common.{◌≡◌, take, map}
use Rattle.commands.specs.Words.{file_of}
use Rattle.commands.proofs.standard_input.files_named.Given as goal

abbrev pub invariant-loop-word : goal.invariant-loop-word
invariant-loop-word l = l.named.items ≡ map file_of (take l.word-index l.words)
