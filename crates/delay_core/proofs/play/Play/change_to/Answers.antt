use Rattle.std.proofs.Common.{◌≡◌, ◌-◌, Bool, true, false, arith}
use Rattle.std.proofs.Math.Bool.{beq}
use Rattle.delay_core.specs.Plays.{differ}
use Rattle.delay_core.proofs.ReadingLemmas.{length-starts}
use Rattle.delay_core.proofs.play.Play.change_to.Goals as goal

differs : (a b : Bool) → beq a b ≡ false → differ a b ≡ true
differs a b e = grind arith

pub returns : goal.returns
returns c = grind (arith, differs c.value-before.result c.args.value c.if-before-value.false, length-starts c.self.inside.opening c.self.inside.marks.items c.self.inside.round)
