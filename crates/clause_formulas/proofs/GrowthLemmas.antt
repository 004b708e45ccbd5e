-- Formulas that say more.
use Rattle.std.proofs.Common.{◌≡◌, ℕ, ◌≤◌, Bool, true, ◌&&◌, List, [], ◌++◌, length, refl, sym, ap, ap₂, ◌∙◌, arith, append_assoc}
use Rattle.std.proofs.lemmas.Bool.{and_from, and_parts}
use Rattle.std.proofs.lemmas.List.{append-nil}
use Rattle.clause_formulas.specs.declared.formula.Formula.{Formula}
use Rattle.clause_formulas.specs.Formulas.{holds, IsModel, IsWhole, IsFormula, HasModelFrom, Grows}
use Rattle.clause_formulas.proofs.ClauseLemmas.{whole-append, whole}

-- ---- clauses that are added, of old and new variables

module _ (old new : Formula) (clauses : List ℕ) (formula : IsFormula old) (literals : new.literals.items ≡ old.literals.items ++ clauses) where
  added-holds : (m : List Bool) → holds m new.literals.items ≡ (holds m old.literals.items && holds m clauses)
  added-holds m = ap (holds m) literals ∙ formula.whole m clauses

  pub added-both : (m : List Bool) → IsModel m new → (holds m old.literals.items ≡ true) × (holds m clauses ≡ true)
  added-both m h = and_parts (holds m old.literals.items) (holds m clauses) (sym (added-holds m) ∙ h)

  pub added-model : (m : List Bool) → IsModel m old → holds m clauses ≡ true → IsModel m new
  added-model m h k = added-holds m ∙ and_from _ _ h k

  pub added-grows : old.variables ≤ new.variables → IsWhole clauses → ((m more : List Bool) → new.variables ≤ length m → holds (m ++ more) clauses ≡ holds m clauses) → Grows old new
  added-grows more clauses_whole same = record {
    formula = record {
      whole = rw literals (whole-append old.literals.items clauses formula.whole clauses_whole);
      within = λ m rest long. added-holds (m ++ rest) ∙ ap₂ (λ x y. x && y) (formula.within m rest (omega (arith, long, more))) (same m rest long) ∙ sym (added-holds m);
      some = (let x = formula.some in omega (arith, x, more));
      truth = λ m h. formula.truth m (added-both m h).0;
    };
    more = more;
    sound = λ m h. (added-both m h).0;
  }

-- variables alone
pub variables-grow : (old new : Formula) → IsFormula old → old.variables ≤ new.variables → new.literals.items ≡ old.literals.items → Grows old new
variables-grow old new formula more literals = added-grows old new [] formula (literals ∙ sym (append-nil old.literals.items)) more (whole [] refl) (λ m rest long. refl)

-- ---- growth

pub Grows-refl : (f : Formula) → IsFormula f → Grows f f
Grows-refl f is = record { formula = is; more = omega arith; sound = λ m h. h }

pub Grows-chain : {a b c : Formula} → Grows a b → Grows b c → Grows a c
Grows-chain first second = grind arith

pub model-here : (f : Formula) (m : List Bool) → length m ≡ f.variables → IsModel m f → HasModelFrom f m
model-here f m len h = record { more = []; width = rw append-nil len; model = rw append-nil h }

pub model-after : (f : Formula) (m one : List Bool) → HasModelFrom f (m ++ one) → HasModelFrom f m
model-after f m one has = record { more = one ++ has.more; width = rw append_assoc at has.width; model = rw append_assoc at has.model }

-- a model of the old formula stays one of it with values for further variables
pub model-kept : {f : Formula} (m more : List Bool) → IsFormula f → length m ≡ f.variables → IsModel m f → IsModel (m ++ more) f
model-kept m more is len h = is.within m more (omega (arith, len)) ∙ h
