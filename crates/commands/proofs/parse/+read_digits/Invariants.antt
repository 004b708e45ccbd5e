use Rattle.std.proofs.Common.{length}
use Rattle.commands.proofs.parse.+read_digits.Given as goal

abbrev pub decreases-read_digits : goal.decreases-read_digits
decreases-read_digits l = length l.digits.now
