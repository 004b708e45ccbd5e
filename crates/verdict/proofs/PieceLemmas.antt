-- Many gates, piece by piece.
use Rattle.std.proofs.Common.{◌≡◌, inl, inr, ℕ, ◌<◌, ◌≤◌, ◌+◌, ◌-◌, Bool, true, false, List, length, get_or, sym, ap, subst, ◌∙◌, arith}
use Rattle.verdict.proofs.Common.{cases_lt, Parts, CareSet, is_unknown_at}
use Rattle.refusals.specs.Tests.{is_unknown}
use Rattle.clause_decision.specs.Tests.{IsFirstUnknown, TellsFirstUnknown}
use Rattle.clause_decision.specs.Witnesses.{IsWitness}
use Rattle.clause_queries.specs.declared.first.First.TheVariants as firsts
use Rattle.verdict.specs.Pieces.{IsPieceAt, AreKnownBefore}

module _ (net : Parts) (care : CareSet) (gates piece : List ℕ) (start : ℕ) (is : IsPieceAt gates start piece) (before : AreKnownBefore net care gates start) where
  -- where the gates before a piece are known, and those of it up to a place, all up to there are
  known-up-to : (many : ℕ) → many ≤ length piece → ((i : ℕ) → i < many → is_unknown net care (get_or piece i 0) ≡ false) →
      (j : ℕ) → j < start + many → is_unknown net care (get_or gates j 0) ≡ false
  known-up-to many most known j less = elim (cases_lt j start) [
    | inl early ↦ before.each j early
    | inr late ↦
        (let i : ℕ = j - start in
        let same : start + i ≡ j = omega (arith, late) in
        subst (λ k. is_unknown net care (get_or gates k 0) ≡ false) same
        (ap (is_unknown net care) (sym (is.each i (omega (arith, less, most, late)))) ∙ known i (omega (arith, less, late))))
  ]

  pub known-more : TellsFirstUnknown net care piece firsts.Nowhere → AreKnownBefore net care gates (start + length piece)
  known-more none = record { within = is.within; each = known-up-to (length piece) (omega arith) none }

  pub first-there : (place : ℕ) → IsFirstUnknown net care piece place → IsFirstUnknown net care gates (start + place)
  first-there place first = record {
    within = let a = is.within in let b = first.within in omega (arith, a, b);
    unknown = ap (is_unknown net care) (sym (is.each place first.within)) ∙ first.unknown;
    before = known-up-to place (let b = first.within in omega (arith, b)) first.before;
  }

  pub witness-there : (vector : List Bool) (place : ℕ) → IsWitness net care piece vector place → IsWitness net care gates vector (start + place)
  witness-there vector place witness = record {
    within = let a = is.within in let b = witness.within in omega (arith, a, b);
    width = witness.width;
    unknown = subst (λ n. is_unknown_at net care n vector ≡ true) (is.each place witness.within) witness.unknown;
  }
