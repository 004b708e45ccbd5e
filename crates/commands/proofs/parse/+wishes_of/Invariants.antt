use Rattle.std.proofs.Common.{length}
use Rattle.commands.proofs.parse.+wishes_of.Given as goal

abbrev pub decreases-wishes_of : goal.decreases-wishes_of
decreases-wishes_of l = length l.words.now
