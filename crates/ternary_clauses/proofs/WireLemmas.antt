-- Rails for gate after gate.
use Rattle.std.proofs.Common.{◌≡◌, ◌≢◌, ℕ, ◌<◌, ◌+◌, Bool, true, false, List, [], ◌∷◌, ◌++◌, length, refl, sym, ◌∙◌, arith, append_assoc, true≢false}
use Rattle.ternary_clauses.proofs.Common.{length_push, get_or_append_left, All-push, All, Trit, X, Parts, first_gate, value_in, Formula, Rails, IsModel, IsFormula, HasModelFrom, Grows, is_known, Reads, AreWithin, AreRailsOf, no_rails, is_marked, IsWanted, AreWires, get_or_push, TakesValue, HasNewRails}
use Rattle.ternary_clauses.specs.Encoding.{gate_rails}
use Rattle.ternary_clauses.specs.Wires.{HasFirst}
use Rattle.ternary_clauses.proofs.ReadingLemmas.{Reads-more, All-within-more}
use Rattle.clause_formulas.proofs.GrowthLemmas.{Grows-refl, Grows-chain, model-here}
use Rattle.ternary_clauses.proofs.KeptLemmas.{rails-kept}

pub wires-none : (net : Parts) (wanted never : List Bool) (given : List Rails) (f : Formula) → IsFormula f → All (AreWithin f.variables) given → length given ≡ first_gate net → AreWires net wanted never given f f given 0
wires-none net wanted never given f formula within size = record {
  grows = Grows-refl f formula;
  within = within;
  size = omega (arith, size);
  columns = λ n less. refl;
  others = λ n less e. absurd (omega (arith, less));
  own = λ n is less. absurd (omega (arith, less));
  complete = λ m s len h fits.
      let has : HasModelFrom f m = model-here f m len h in
      record { more = has.more; width = has.width; model = has.model; reads = λ n is less. absurd (omega (arith, less)) };
}

-- a model, with values for these further variables, in which the rails stand for this value where they are asked for
record Takes (asked : Type 0) (f : Formula) (r : Rails) (m : List Bool) (t : Trit) : Type 0 where
  more : List Bool
  width : length (m ++ more) ≡ f.variables
  model : IsModel (m ++ more) f
  reads : asked → Reads (m ++ more) r t

module _ (net : Parts) (wanted never : List Bool) (given : List Rails) (start old new : Formula) (rails : List Rails) (k : ℕ) (r : Rails) (less : k < length net.gates)
    (was : AreWires net wanted never given start old rails k) where
  early : (n : ℕ) → n < k → gate_rails net (rails ++ r ∷ []) n ≡ gate_rails net rails n
  early n low = get_or_append_left rails (r ∷ []) no_rails (first_gate net + n) (let x = was.size in omega (arith, low, x))

  last : gate_rails net (rails ++ r ∷ []) k ≡ r
  last = get_or_push rails r no_rails (first_gate net + k) was.size

  -- what holds of the gates before and of this one holds of all of them
  each : (P : ℕ → Type 0) → ((n : ℕ) → n < k → P n) → P k → (n : ℕ) → n < k + 1 → P n
  each P before here n below = grind arith

  wires-step : Grows old new → AreWithin new.variables r → (is_marked wanted k ≡ false → r ≡ no_rails) → (is_marked wanted k ≡ true → AreRailsOf new r)
      → ((m : List Bool) (t : Trit) → length m ≡ old.variables → IsModel m old → (is_marked wanted k ≡ true → is_marked never k ≡ true → t ≢ X) → Takes (is_marked wanted k ≡ true) new r m t)
      → AreWires net wanted never given start new (rails ++ r ∷ []) (k + 1)
  wires-step grown within other own takes = record {
    grows = Grows-chain was.grows grown;
    within = All-push (AreWithin new.variables) rails r (All-within-more old.variables new.variables rails grown.more was.within) within;
    size = (let x = was.size in let y = length_push rails r in omega (arith, x, y));
    columns = λ n less. get_or_append_left rails (r ∷ []) no_rails n (let x = was.size in omega (arith, less, x)) ∙ was.columns n less;
    others = λ n below e. each (λ i. is_marked wanted i ≡ false → gate_rails net (rails ++ r ∷ []) i ≡ no_rails) (λ i low e. early i low ∙ was.others i low e) (λ e. last ∙ other e) n below e;
    own = λ n is below. each (λ i. IsWanted net wanted i → AreRailsOf new (gate_rails net (rails ++ r ∷ []) i)) (λ i low is. rw (early i low) (rails-kept grown (was.own i is low))) (λ is. rw last (own is.marked)) n below is;
    complete = λ m s len h fits.
        let had : HasFirst net wanted k old rails m s = was.complete m s len h fits in
        let long = m ++ had.more in
        let has : Takes (is_marked wanted k ≡ true) new r (m ++ had.more) (value_in s k) = takes long (value_in s k) had.width had.model (λ marked. fits k (record { within = less; marked = marked })) in
        let reads : (n : ℕ) → n < k + 1 → IsWanted net wanted n → Reads ((m ++ had.more) ++ has.more) (gate_rails net (rails ++ r ∷ []) n) (value_in s n) =
        each (λ i. IsWanted net wanted i → Reads (long ++ has.more) (gate_rails net (rails ++ r ∷ []) i) (value_in s i))
        (λ i low is. rw (early i low) (Reads-more long has.more (gate_rails net rails i) (value_in s i) (rw had.width (was.own i is low).within) (had.reads i is low)))
        (λ is. rw last (has.reads is.marked)) in
        record {
          more = had.more ++ has.more;
          width = rw (append_assoc m had.more has.more) at has.width;
          model = rw (append_assoc m had.more has.more) at has.model;
          reads = λ n is below. rw (append_assoc m had.more has.more) at (reads n below is);
        };
  }

  -- a gate that isn't wanted
  pub other-step : is_marked wanted k ≡ false → new ≡ old → r ≡ no_rails → AreWires net wanted never given start new (rails ++ r ∷ []) (k + 1)
  other-step unmarked same none =
      let grown : Grows old new = rw same (Grows-refl old was.grows.formula) in
      wires-step grown
      (rw none (let x = grown.formula.some in record { one = omega (arith, x); zero = omega (arith, x); known = omega (arith, x) }))
      (λ e. none) (λ e. absurd (true≢false (sym e ∙ unmarked)))
      (λ m t len h fit.
      let has : HasModelFrom new m = rw same (model-here old m len h) in
      record { more = has.more; width = has.width; model = has.model; reads = λ e. absurd (true≢false (sym e ∙ unmarked)) })

  known-not_unknown : (t : Trit) → t ≢ X → is_known t ≡ true
  known-not_unknown t e = grind arith

  -- one that is
  pub wanted-step : is_marked wanted k ≡ true → HasNewRails old new (is_marked never k) r → AreWires net wanted never given start new (rails ++ r ∷ []) (k + 1)
  wanted-step marked made =
      wires-step made.grows made.own.within (λ e. absurd (true≢false (sym marked ∙ e))) (λ e. made.own)
      (λ m t len h fit.
      let has : TakesValue new r m t = made.takes m t (λ never. known-not_unknown t (fit marked never)) len h in
      record { more = has.more; width = has.width; model = has.model; reads = λ e. has.reads })
