use Rattle.std.proofs.Common.{ap, sym, ◌∙◌, arith}
use Rattle.sched_text.proofs.Common.{number}
use Rattle.sched_text.proofs.AgeLemmas.{ages_next, ages_fault, ages_good, ages_end}
use Rattle.sched_text.proofs.events.read_ages.Goals as goal

pub loop-k-preserved : goal.loop-k-preserved
loop-k-preserved c =
    record {
      ages = ages_next c.args.line.now.words c.loop-k.ages.items c.push_reserved.new.self.items c.loop-k.k c.in-Some.age c.loop-k.invariant.ages
          (omega (arith, c.loop-k-test.true, c.words-words.ensures))
          (sym (ap number c.word.ensures) ∙ sym c.number.ensures ∙ c.in-Some.is)
          c.push_reserved.ensures.items;
      len = omega arith;
      room = omega arith;
    }

pub returns-in-None : goal.returns-in-None
returns-in-None c = grind (arith, ages_fault)

pub returns : goal.returns
returns c = grind (arith, ages_good, ages_end)
