-- The gates of a scope on top of the clauses of a care set.
use Rattle.std.proofs.Common.{◌≡◌, ℕ, ◌<◌, ◌≤◌, ◌+◌, Bool, true, List, [], ◌∷◌, ◌++◌, length, map, take, get_or, sym, ap, subst, ◌∙◌, arith}
use Rattle.std.specs.List.{All}
use Rattle.clause_decision.proofs.Common.{length-map, length-take-le, get_or-take, All-get_or, All-take, Contains-get_or, Sig, bit, bits, Parts, fix_gates, gate_at, signal, IsNetlist, first_gate, gate_of, value_in, CareSet, columns, is_allowed, is_in_invariant, state_of, IsCareVector, Formula, Rails, IsClosed, SaysNetlist, gate_rails, says, IsModel, HasModelFrom, Grows, ReadsAll, AreWithin, no_rails, ReadsAll-more, All-within-more, problem, models-same, column_rails, vector_in, ReadsAbove, ReadsFix, IsCone, is_marked, AreClosed, IsModelUnder}
use Rattle.std.proofs.lemmas.List.{ext_get_or}
use Rattle.std.proofs.lemmas.Simd.{map-map}
use Rattle.std.proofs.lemmas.List.Elements.{All-from_get_or}
use Rattle.netlist.specs.Netlists.{IsSignal}
use Rattle.ternary_clauses.specs.Encoding.{ReadsStill, HasState}
use Rattle.ternary_clauses.proofs.LawLemmas.{still_is_above_fix}
use Rattle.ternary_clauses.proofs.ReadingLemmas.{Reads-more}
use Rattle.clause_decision.specs.Formulas.{HasVector, IsCareFormula}
use Rattle.clause_decision.proofs.FormulaLemmas.{ones-read}
use Rattle.clause_decision.proofs.SignalLemmas.{column_rails-length, three}

-- each pin of a marked gate is a column, or a gate that feeds it
pub closed-by_pins : (net : Parts) (marks : List Bool) → IsNetlist net → AreClosed net marks → IsClosed net marks
closed-by_pins net marks proper closed n is =
    All-from_get_or (λ (pin : Sig). first_gate net ≤ pin.0 → is_marked marks (gate_of net pin) ≡ true) (gate_at net n).pins (signal 0)
    (λ i inside high. fed i inside high)
  where
    fed : (i : ℕ) → i < length (gate_at net n).pins → first_gate net ≤ (get_or (gate_at net n).pins i (signal 0)).0 → is_marked marks (gate_of net (get_or (gate_at net n).pins i (signal 0))) ≡ true
    fed i inside high = grind (arith, All-get_or, All-get_or (IsSignal net) (gate_at net n).pins i (signal 0) inside, Contains-get_or (gate_at net n).pins i (signal 0) inside)

-- the columns' rails come first
pub column_rails-are : (net : Parts) (marks : List Bool) (given : List Rails) (old new : Formula) (rails : List Rails) → length given ≡ columns net → SaysNetlist net marks given old new rails → column_rails net rails ≡ given
column_rails-are net marks given old new rails wide says_it = grind (arith, length-take-le (columns net) rails, ext_get_or no_rails (take (columns net) rails) given, get_or-take (columns net) rails)

module _ (net : Parts) (care : CareSet) (marks : List Bool) (old new : Formula) (given rails : List Rails) (inside allowed : ℕ)
    (said : IsCareFormula net care old given inside allowed) (closed : IsClosed net marks) (gates : SaysNetlist net marks given old new rails) where
  first : column_rails net rails ≡ given
  first = column_rails-are net marks given old new rails said.over.size gates

  reads-vector : (m : List Bool) → IsModel m new → ReadsAll m given (bits (map (λ r. says m r.one) given))
  reads-vector m h = said.over.sound m (gates.grows.sound m h)

  same-vector : (m : List Bool) → map (λ r. says m r.one) given ≡ vector_in net rails m
  same-vector m = ap (map (λ r. says m r.one)) (sym first)

  above-fix : (m : List Bool) → IsModel m new → ReadsAbove net marks rails m (map (λ r. says m r.one) given)
  above-fix m h =
      let v = map (λ r. says m r.one) given in
      let still : ReadsStill net marks rails m (bits v) = gates.sound m (bits v) h (reads-vector m h) in
      record {
        state = still.state;
        reads = still.reads;
        above = λ n is. still_is_above_fix net marks (bits v) still.state closed (length-map v bit ∙ length-map given (λ r. says m r.one) ∙ said.over.size) still.still n is;
      }

  reads-fix : (v : List Bool) → length v ≡ columns net → ReadsFix net marks new rails v
  reads-fix v wide =
      let has : HasVector old given v = said.over.complete v wide in
      let more : HasState net marks new rails has.model (fix_gates net (bits v)) = gates.complete has.model v has.long has.holds has.reads in
      record {
        model = has.model ++ more.more;
        long = more.width;
        holds = more.model;
        columns = subst (λ rs. ReadsAll (has.model ++ more.more) rs (bits v)) (sym first)
            (ReadsAll-more has.model more.more given (bits v) (subst (λ k. All (AreWithin k) given) (sym has.long) said.over.within) has.reads);
        fixpoint = more.reads;
      }

  pub cone-of : IsCone net care marks new rails inside allowed
  cone-of = record {
    formula = gates.grows.formula;
    within = gates.within;
    size = gates.size;
    inside_within = (let x = gates.grows.more in let y = said.inside_within in omega (arith, x, y));
    allowed_within = (let x = gates.grows.more in let y = said.allowed_within in omega (arith, x, y));
    sound = λ m h. subst (λ rs. ReadsAll m rs (bits (map (λ r. says m r.one) rs))) (sym first) (reads-vector m h);
    inside_tells = λ m h. said.inside_tells m (map (λ r. says m r.one) given) (gates.grows.sound m h) (reads-vector m h) ∙ ap (λ v. is_in_invariant care (state_of net v)) (same-vector m);
    allowed_tells = λ m h. said.allowed_tells m (map (λ r. says m r.one) given) (gates.grows.sound m h) (reads-vector m h) ∙ ap (is_allowed care) (same-vector m);
    above = λ m h. subst (ReadsAbove net marks rails m) (same-vector m) (above-fix m h);
    complete = reads-fix;
  }

-- A cone stays one where more is said of further variables, and the models of fixpoints have values for these.
pub cone-grows : (net : Parts) (care : CareSet) (marks : List Bool) (f g : Formula) (rails : List Rails) (inside allowed : ℕ) → IsCone net care marks f rails inside allowed → Grows f g →
    ((v : List Bool) → length v ≡ columns net → (has : ReadsFix net marks f rails v) → HasModelFrom g has.model) → IsCone net care marks g rails inside allowed
cone-grows net care marks f g rails inside allowed cone grows extends = record {
  formula = grows.formula;
  within = All-within-more f.variables g.variables rails grows.more cone.within;
  size = cone.size;
  inside_within = (let x = grows.more in let y = cone.inside_within in omega (arith, x, y));
  allowed_within = (let x = grows.more in let y = cone.allowed_within in omega (arith, x, y));
  sound = λ m h. cone.sound m (grows.sound m h);
  inside_tells = λ m h. cone.inside_tells m (grows.sound m h);
  allowed_tells = λ m h. cone.allowed_tells m (grows.sound m h);
  above = λ m h. cone.above m (grows.sound m h);
  complete = λ v wide. kept v wide (cone.complete v wide);
}
  where
    kept : (v : List Bool) → length v ≡ columns net → ReadsFix net marks f rails v → ReadsFix net marks g rails v
    kept v wide has =
        let more : HasModelFrom g has.model = extends v wide has in
        let within : All (AreWithin (length has.model)) rails = subst (λ k. All (AreWithin k) rails) (sym has.long) cone.within in
        record {
          model = has.model ++ more.more;
          long = more.width;
          holds = more.model;
          columns = ReadsAll-more has.model more.more (column_rails net rails) (bits v) (All-take (AreWithin (length has.model)) (columns net) rails within) has.columns;
          fixpoint = λ n is.
              Reads-more has.model more.more (gate_rails net rails n) (value_in (fix_gates net (bits v)) n)
              (All-get_or (AreWithin (length has.model)) rails (first_gate net + n) no_rails (let x = is.within in let y = cone.size in omega (arith, x, y)) within)
              (has.fixpoint n is);
        }

-- and where each model has
pub cone-kept : (net : Parts) (care : CareSet) (marks : List Bool) (f g : Formula) (rails : List Rails) (inside allowed : ℕ) →
    IsCone net care marks f rails inside allowed → Grows f g → ((m : List Bool) → length m ≡ f.variables → IsModel m f → HasModelFrom g m) → IsCone net care marks g rails inside allowed
cone-kept net care marks f g rails inside allowed cone grows extends =
    cone-grows net care marks f g rails inside allowed cone grows (λ v wide has. extends has.model has.long has.holds)

-- ---- care vectors in a cone's models

module _ {net : Parts} {care : CareSet} {marks : List Bool} {f : Formula} {rails : List Rails} {inside allowed : ℕ} (cone : IsCone net care marks f rails inside allowed) where
  -- a model in which the care literals are true reads one
  pub care-read : (m : List Bool) → IsModel m f → says m inside ≡ true → says m allowed ≡ true → IsCareVector net care (vector_in net rails m)
  care-read m h in_care may = record {
    width = length-map (column_rails net rails) (λ (r : Rails). says m r.one) ∙ column_rails-length net rails cone.size;
    state = sym (cone.inside_tells m h) ∙ in_care;
    allowed = sym (cone.allowed_tells m h) ∙ may;
  }

  module _ (v : List Bool) (has : ReadsFix net marks f rails v) where
    -- the model of a vector's fixpoint reads it
    pub vector-read : vector_in net rails has.model ≡ v
    vector-read = sym (map-map (says has.model) (λ (r : Rails). r.one) (column_rails net rails)) ∙ ones-read has.model (column_rails net rails) v has.columns

    -- with a care vector's the care literals are true
    pub care-holds : IsCareVector net care v → (says has.model inside ≡ true) × (says has.model allowed ≡ true)
    care-holds counts = grind (arith, vector-read)

    -- so it is a model under them and each literal that is true in it
    pub care-under : IsCareVector net care v → (l : ℕ) → says has.model l ≡ true → IsModelUnder (problem f) (inside ∷ allowed ∷ l ∷ []) has.model
    care-under counts l holds = grind (arith, models-same f has.model, three, care-holds counts)
