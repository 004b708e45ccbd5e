-- New variables as rails.
use Rattle.std.proofs.Common.{◌≡◌, ℕ, ◌+◌, Bool, true, false, List, [], ◌∷◌, ◌++◌, get_or, refl, ap, subst, ◌∙◌, arith, length-append}
use Rattle.ternary_clauses.proofs.Common.{bit, Formula, says, holds, IsModel, IsFormula, Grows, is_one, Reads, AreWithin, column_rails, new_rails, wire_clauses, HasNewRails}
use Rattle.clause_formulas.proofs.ClauseLemmas.{get_or-after}
use Rattle.clause_formulas.proofs.GrowthLemmas.{variables-grow, added-both, added-model, added-grows, model-kept}
use Rattle.ternary_clauses.proofs.NodeCases.{new_values, test-more}
use Rattle.ternary_clauses.proofs.NodeLemmas.{wire-test, wire-read, wire-holds, Reads-own, known-is}
use Rattle.ternary_clauses.proofs.ReadingLemmas.{new-read}

-- ---- one variable

Reads-column : (m : List Bool) (w : ℕ) (b : Bool) → get_or m w false ≡ b → says m 0 ≡ true → Reads m (column_rails w) (bit b)
Reads-column m w b e truth = grind arith

module _ (old new : Formula) (formula : IsFormula old) where
  pub column-new : new.variables ≡ old.variables + 1 → new.literals.items ≡ old.literals.items → HasNewRails old new true (column_rails old.variables)
  column-new variables literals =
      let v = old.variables in
      let grown : Grows old new = variables-grow old new formula (omega arith) literals in
      record {
        grows = grown;
        own = record {
          within = record { one = omega (arith, variables); zero = omega (arith, variables); known = omega (arith, variables) };
          reads = λ m h. Reads-own m (column_rails v) (bit (get_or m v false)) (Reads-column m v (get_or m v false) refl (formula.truth m (grown.sound m h)));
        };
        known = λ e. refl;
        takes = λ m t sure len h.
            let b = is_one t in
            let kept : IsModel (m ++ is_one t ∷ []) old = model-kept {f = old} m (is_one t ∷ []) formula len h in
            record {
              more = b ∷ [];
              width = length-append m (b ∷ []) ∙ omega (arith, len, variables);
              model = ap (holds (m ++ b ∷ [])) literals ∙ kept;
              reads = subst (Reads (m ++ b ∷ []) (column_rails v)) (known-is t (sure refl)) (Reads-column (m ++ b ∷ []) v b (get_or-after m (b ∷ []) v 0 false (omega (arith, len))) (formula.truth (m ++ b ∷ []) kept));
            };
      }

  -- ---- three variables

  pub wire-new : new.variables ≡ old.variables + 3 → new.literals.items ≡ old.literals.items ++ wire_clauses (new_rails old.variables) → HasNewRails old new false (new_rails old.variables)
  wire-new variables literals =
      let r = new_rails old.variables in
      let within : AreWithin new.variables (new_rails old.variables) = record { one = omega (arith, variables); zero = omega (arith, variables); known = omega (arith, variables) } in
      record {
        grows = added-grows old new (wire_clauses r) formula literals (omega (arith, variables)) (wire-test.whole r r r r) (λ m more long. test-more wire-test m more new.variables r r r r long within within within within);
        own = record { within = within; reads = λ m h. wire-read m r (added-both old new (wire_clauses r) formula literals m h).1 };
        known = λ e. absurd (cc);
        takes = λ m t sure len h.
            let at : Reads (m ++ new_values t) (new_rails old.variables) t = new-read m old.variables t len in
            record {
              more = new_values t;
              width = length-append m (new_values t) ∙ omega (arith, len, variables);
              model = added-model old new (wire_clauses r) formula literals (m ++ new_values t) (model-kept {f = old} m (new_values t) formula len h) (wire-holds (m ++ new_values t) r t at);
              reads = at;
            };
      }
