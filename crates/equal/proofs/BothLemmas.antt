-- What the comparison of two netlists works with is what their decisions work with.
use Rattle.std.proofs.Common.{◌≡◌, inl, inr, ℕ, ◌+◌, ◌-◌, ◌<◌, Bool, List, [], length, refl, ◌∙◌, arith}
use Rattle.equal.proofs.Common.{cases_lt, get_or_append_left, length-map, X, bit, bits, Parts, IsNetlist, fix_gates, loops_of, order, IsGatePart, CareSet, columns, by_name, moved, joined}
use Rattle.dual_rail.proofs.WidthLemmas.{IsWide-fewer}
use Rattle.diagram_decision.specs.Enough as decisions
use Rattle.equal.specs.Comparisons.{IsOfComparison, IsLaidBy, IsColumn, SaysCare, IsOfNetlist, IsOfAssumption, IsOfInvariant}
use Rattle.equal.specs.Both.{IsOfBoth, IsLaidForBoth, OfFirst, OfSecond, BothAreWide}
use Rattle.miters.proofs.JoinLemmas.{first_part, second_part, fix_second, length-joined}
use Rattle.miters.proofs.MatchLemmas.{Match, matched, length-by_name}
use Rattle.equal.proofs.PartFunctionLemmas.{WorksAlone, reads_alike, works_alone}

module _ (a b : Parts) (valid_a : IsNetlist a) (valid_b : IsNetlist b) (match_ : Match a b) where
  first_works : (g : List Bool → Bool) (part : IsGatePart (joined a b []) (loops_of (joined a b [])) bits g) → part.gate < length a.gates → WorksAlone (joined a b []) a (λ s. s) g
  first_works g part less =
      works_alone (joined a b []) a (λ s. s) (λ n. n) (first_part a b [])
      (reads_alike (joined a b []) a (λ s. s) (λ n. n) 0 (λ n. omega arith) (first_part a b []) valid_a) g part part.gate less refl

  second_works : (g : List Bool → Bool) (part : IsGatePart (joined a b []) (loops_of (joined a b [])) bits g) (j : ℕ) → j < length b.gates → part.gate ≡ length a.gates + j → WorksAlone (joined a b []) b (moved a b) g
  second_works =
      works_alone (joined a b []) b (moved a b) (λ n. length a.gates + n) (second_part a b [] match_)
      (reads_alike (joined a b []) b (moved a b) (λ n. length a.gates + n) (length a.gates) (λ n. refl) (second_part a b [] match_) valid_b)

  -- ---- all functions

  module _ (care_a care_b : CareSet) where
    record IsOne (g : List Bool → Bool) : Type 0 where
      of : List Bool → Bool
      is : IsOfBoth a care_a b care_b of
      same : (v : List Bool) → length v ≡ columns a → g v ≡ of v

    one-of : (g : List Bool → Bool) → decisions.IsOfDecision a care_a g → IsOne g
    one-of g is = record { of = g; is = OfFirst is; same = λ v long. refl }

    of-gate : (g : List Bool → Bool) → IsGatePart (joined a b []) (loops_of (joined a b [])) bits g → IsOne g
    of-gate g part =
        let many = length-joined a b [] in
        elim (cases_lt part.gate (length a.gates)) [
          | inl low ↦
              let works = first_works g part low in
              record {
                of = works.of;
                is = OfFirst (decisions.IsOfNetlist works.part);
                same = λ v long.
                    let wide = length-map v bit in
                    works.same v v long long (λ s l. get_or_append_left (bits v) (fix_gates (joined a b []) (bits v)) X s.0 (omega (arith, l, wide, long)));
              }
          | inr high ↦
              let inside = part.within in
              let works = second_works g part (part.gate - length a.gates) (omega (arith, high, inside, many)) (omega (arith, high)) in
              record {
                of = λ v. works.of (by_name a b v);
                is = OfSecond works.of (decisions.IsOfNetlist works.part) (λ v long. refl);
                same = λ v long.
                    let named = by_name a b v in
                    let wide = length-map named bit ∙ length-by_name a b v in
                    works.same v named long (length-by_name a b v)
                    (λ s l. fix_second a b [] valid_a valid_b match_ v long s (omega (arith, l)) ∙ get_or_append_left (bits named) (fix_gates b (bits named)) X s.0 (omega (arith, l, wide)));
              }
        ]

    of-both : (g : List Bool → Bool) → IsOfComparison (joined a b []) care_a g → IsOne g
    of-both g (IsColumn column less same) = one-of g (decisions.IsColumn column less same)
    of-both g (SaysCare same) = one-of g (decisions.SaysCare same)
    of-both g (IsOfNetlist part) = of-gate g part
    of-both g (IsOfAssumption is) = one-of g (decisions.IsOfAssumption is)
    of-both g (IsOfInvariant is) = one-of g (decisions.IsOfInvariant is)

    laid-both : (g : List Bool → Bool) → IsLaidBy (order a) (joined a b []) care_a g → IsLaidForBoth a care_a b care_b g
    laid-both g x = grind (arith, of-both x.of x.is)

pub both_are_wide : BothAreWide
both_are_wide a b care_a care_b valid_a valid_b none w wide =
    IsWide-fewer (IsLaidForBoth a care_a b care_b) (IsLaidBy (order a) (joined a b []) care_a) w (laid-both a b valid_a valid_b (matched a b none) care_a care_b) wide
