-- The level of the gate is the highest of those that it reads.
use Rattle.std.proofs.Common.{◌≡◌, refl, arith}
use Rattle.std.proofs.lemmas.Result.{on_ok_weaker}
use Rattle.feedback_cuts.proofs.Common.{get_or_default, row_at}
use Rattle.feedback_cuts.proofs.kept_gates.KeptGates.insert.Goals as goal

pub returns-clause-placed : goal.returns-clause-placed
returns-clause-placed c =
    let behind : c.gates-behind.result.now ≡ row_at c.args.self.now.sources.items c.args.gate = grind (arith, get_or_default) in
    let above = rw (behind, c.deref.ensures.value) at c.highest.ensures.above in
    let least = rw (behind, c.deref.ensures.value) at c.highest.ensures.least in
    on_ok_weaker c.add_reader.result
    (λ told.
    record {
      level = c.highest.result;
      is = refl;
      above = above;
      below = λ s listed. least _ (λ p read. c.requires.apart p s read listed);
      low = λ n all. least n (λ p read. all p);
    })
    c.add_reader.ensures
