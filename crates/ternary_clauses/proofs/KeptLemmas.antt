-- What stays as a formula grows: rails that stand for values, and what they stand for.
use Rattle.std.proofs.Common.{Bool, List, ◌++◌}
use Rattle.clause_formulas.proofs.GrowthLemmas.{Grows-refl, Grows-chain, model-here, model-after}
use Rattle.ternary_clauses.proofs.Common.{All, Formula, Rails, IsFormula, HasModelFrom, Grows, AreWithin, AreRailsOf, IsLift, Extends}
use Rattle.ternary_clauses.proofs.ReadingLemmas.{within-more, ReadsAll-more}

pub rails-kept : {a b : Formula} {r : Rails} → Grows a b → AreRailsOf a r → AreRailsOf b r
rails-kept {a} {b} {r} e is = record { within = within-more a.variables b.variables r e.more is.within; reads = λ m h. is.reads m (e.sound m h) }

pub Extends-refl : (f : Formula) (pins : List Rails) → IsFormula f → Extends f f pins
Extends-refl f pins is = record { grows = Grows-refl f is; complete = λ m trits len h reads. model-here f m len h }

pub Extends-chain : (a b c : Formula) (pins : List Rails) → All (AreWithin a.variables) pins → Extends a b pins → Extends b c pins → Extends a c pins
Extends-chain a b c pins all first second = record {
  grows = Grows-chain first.grows second.grows;
  complete = λ m trits len h reads.
      let one : HasModelFrom b m = first.complete m trits len h reads in
      model-after c m one.more (second.complete (m ++ one.more) trits one.width one.model (ReadsAll-more m one.more pins trits (rw len all) reads));
}

pub IsLift-kept : {a b : Formula} {pins : List Rails} {g : List Bool → Bool} {r : Rails} → Grows a b → IsLift a pins g r → IsLift b pins g r
IsLift-kept {a} {b} {pins} {g} {r} e is = record { within = within-more a.variables b.variables r e.more is.within; reads = λ m trits h reads. is.reads m trits (e.sound m h) reads }
