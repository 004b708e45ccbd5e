use Rattle.std.proofs.Common.{◌≡◌, ◌∙◌, length, ap, subst, arith}
use Rattle.std.specs.Prelude.{IfSome}
use Rattle.std.proofs.lemmas.List.{with_items_is}
use Rattle.clause_queries.specs.Each.{CannotBe, IsTold}
use Rattle.clause_queries.proofs.NeverLemmas.{never-more}
use Rattle.clause_queries.proofs.query.Query.never_each.Goals as goal
use Rattle.clause_queries.proofs.query.Query.never_each.Goals.{in-Some-true, in-Some-false, in-None+else-left-eq0}

pub loop-place-preserved : goal.loop-place-preserved
loop-place-preserved c =
    let p = c.args.self.now in
    let literals = c.args.literals.now in
    let assumptions = c.args.assumptions.now in
    let place = c.loop-place.place in
    let before = c.loop-place.found in
    let found = c.is_candidate_possible.new.found in
    let same = c.loop-place.invariant.0 in
    let kept : length found ≡ length before.items = c.in_ok-is_candidate_possible.ensures.width ∙ ap length c.deref_mut.ensures.value in
    let size : length found ≡ before.len = omega (arith, kept, before.ok.0) in (
      c.in_ok-is_candidate_possible.ensures.unchanged ∙ same,
      ap length (with_items_is before found size) ∙ kept ∙ c.loop-place.invariant.1,
      elim c.match-branch-4.branch [
        | in-Some-true w ↦ rw w.never-is c.loop-place.invariant.2
        | in-Some-false w ↦
            let told = subst (λ o. IfSome o (IsTold c.loop-place.self literals assumptions place c.deref_mut.result.now found)) w.in-Some-false.is c.in_ok-is_candidate_possible.ensures.told in
            let none : CannotBe p literals assumptions place = subst (λ q. CannotBe q literals assumptions place) same (told.impossible w.in-Some-false.field-0-test) in
            rw w.never-is (never-more p literals assumptions place c.loop-place.never.items c.loop-place.invariant.2 none)
        | in-None+else-left-eq0 w ↦ rw w.never-is c.loop-place.invariant.2
      ],
    )
