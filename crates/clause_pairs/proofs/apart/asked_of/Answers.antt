use Rattle.std.proofs.Common.{List, get_or, sym, subst, arith}
use Rattle.std.specs.List.{All}
use Rattle.clause_pairs.proofs.Common.{Rails, SayPairs}
use Rattle.clause_pairs.specs.Pairs.{HasRails}
use Rattle.clause_pairs.proofs.ApartLemmas.{hints-have_rails, pairs-have_rails, pairs-told, rails-still}
use Rattle.clause_pairs.proofs.apart.asked_of.Goals as goal

pub add_hints-requires-clause-rails : goal.add_hints-requires-clause-rails
add_hints-requires-clause-rails c =
    let cone = c.in_ok-cone.cone in
    grind (arith, hints-have_rails c.args.net.now c.args.care.now c.args.scope.now cone.formula cone.rails.items cone.inside cone.allowed c.in_ok-cone.ensures c.args.search.now.hints.now c.requires.hints c.requires.hints_within)

pub add_pairs-requires-clause-rails : goal.add_pairs-requires-clause-rails
add_pairs-requires-clause-rails c =
    let cone = c.in_ok-cone.cone in
    let pairs = c.args.search.now.pairs.now in
    let grown = c.add_hints.new.formula in
    let grows = c.in_ok-hints.ensures.grows in
    subst (λ (rails : List Rails). All (HasRails grown rails) pairs) (sym c.deref-2.ensures.value)
    (λ k d less.
    rails-still cone.formula grown cone.rails.items grows (get_or pairs k d)
    (pairs-have_rails c.args.net.now c.args.care.now c.args.scope.now cone.formula cone.rails.items cone.inside cone.allowed c.in_ok-cone.ensures pairs c.requires.pairs c.requires.pairs_within k d less))

pub returns : goal.returns
returns c =
    let cone = c.in_ok-cone.cone in
    let mid = c.add_hints.new.formula in
    let new = c.add_pairs.new.formula in
    let pairs = c.in_ok-pairs.pairs in
    pairs-told c.args.net.now c.args.care.now c.args.scope.now.gates cone.formula mid c.args.cube.now c.args.search.now.pairs.now
    (record { cone = record { formula = c.add_pairs.new.formula; rails = c.in_ok-cone.cone.rails; inside = c.in_ok-cone.cone.inside; allowed = c.in_ok-cone.cone.allowed }; assumed = c.in_ok-assumed.assumed; hints = c.in_ok-hints.hints; pairs = c.in_ok-pairs.pairs })
    c.requires.cube
    c.in_ok-assumed.ensures
    c.in_ok-cone.ensures
    c.in_ok-hints.ensures
    (subst (λ (rails : List Rails). SayPairs mid new rails c.args.search.now.pairs.now pairs.items) c.deref-2.ensures.value c.in_ok-pairs.ensures)
