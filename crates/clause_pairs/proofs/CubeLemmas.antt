-- Cubes in the models of a care set's clauses.
use Rattle.std.proofs.Common.{◌≡◌, ◌⊎◌, inl, inr, ℕ, suc, ◌<◌, ◌+◌, ◌*◌, ◌||◌, Bool, true, false, not, Option, Some, None, List, [], ◌∷◌, ◌++◌, length, map, get_or, refl, sym, ap, subst, ◌∙◌, arith, true≢false}
use Rattle.std.specs.Prelude.{replicate, Any, IfSome}
use Rattle.std.specs.List.{All}
use Rattle.std.proofs.lemmas.List.{get_or-replicate, get_or_append_left, get_or-append-add, length-append, length-replicate}
use Rattle.std.proofs.lemmas.List.Elements.{All-append}
use Rattle.clause_pairs.proofs.Common.{get_or-map, length-map, models-same, All-nil, All-cons, All-get_or, All-map, All-push, Trit, X, bit, bits, Parts, CareSet, IsCareVector, Formula, Rails, says, says-negation, no_rails, rails_at, Reads, AreWithin, ReadsAll-at, IsWithin, Problem, HasNoModelUnder}
use Rattle.clause_formulas.specs.Formulas.{holds, IsFormula}
use Rattle.clause_queries.specs.Each.{AreNever}
use Rattle.clause_queries.specs.Queries.{IsPossible}
use Rattle.clause_decision.specs.declared.care.CareFormula.{CareFormula}
use Rattle.clause_pairs.specs.declared.cubes.Cube.{Cube}
use Rattle.clause_pairs.specs.declared.pairs.Fixed.{Fixed}
use Rattle.clause_pairs.specs.Apart.{HasFixed, IsCubeOf, IsInCube}
use Rattle.clause_pairs.specs.Cubes.{asked_of, AreColumnsOf, AskedCare, AsksCare, CanAsk, IsRuledOut, IsSaying, RuleOutEach}
use Rattle.clause_decision.specs.Formulas.{HasVector, IsCareFormula}
use Rattle.clause_pairs.specs.Missing.{literals_within, misses, missing_literal, AsksMissing, SaysMissing}
use Rattle.clause_pairs.specs.Pairs.{fixed_literal}
use Rattle.clause_pairs.proofs.ApartLemmas.{literal-holds}
use Rattle.clause_decision.proofs.FormulaLemmas.{two-within}
use Rattle.clause_decision.proofs.SignalLemmas.{negation-within}

pub All-parts : {X : Type 0} (P : X → Type 0) (xs ys : List X) → All P (xs ++ ys) → All P xs × All P ys
All-parts P xs ys h =
    let long = length-append xs ys in (
      λ k d l. subst P (get_or_append_left xs ys d k l) (h k d (omega arith)),
      λ k d l. subst P (get_or-append-add xs ys k d) (h (length xs + k) d (omega arith)),
    )

-- ---- literals are of the variables

literal-within : (k : ℕ) (rails : List Rails) (fixed : Fixed) → fixed.column < length rails → All (AreWithin k) rails → fixed_literal rails fixed < 2 * k
literal-within k rails fixed low within = by fixed.value refl
  where
    at : AreWithin k (rails_at rails fixed.column)
    at = All-get_or (AreWithin k) rails fixed.column no_rails low within

    by : (b : Bool) → fixed.value ≡ b → fixed_literal rails fixed < 2 * k
    by true e = rw e at.one
    by false e = rw e at.zero

pub cube-within : (k : ℕ) (rails : List Rails) (cube : List Fixed) → All (λ fixed. fixed.column < length rails) cube → All (AreWithin k) rails → IsWithin k (map (fixed_literal rails) cube)
cube-within k rails cube low within = All-map (λ l. l < 2 * k) (fixed_literal rails) cube (λ i d less. literal-within k rails (get_or cube i d) (low i d less) within)

pub asked-within : (q : AskedCare) (cube : List Fixed) → CanAsk q → AreColumnsOf q cube → IsWithin q.problem.variables (literals_within q cube)
asked-within q cube can low =
    All-append (λ l. l < 2 * q.problem.variables) (map (fixed_literal q.rails) cube) (q.inside ∷ q.allowed ∷ [])
    (cube-within q.problem.variables q.rails cube low can.rails) can.care

pub missing-within : (k : ℕ) (rails : List Rails) (cube : List Fixed) → All (λ fixed. fixed.column < length rails) cube → All (AreWithin k) rails → IsWithin k (map (missing_literal rails) cube)
missing-within k rails cube low within =
    All-map (λ l. l < 2 * k) (missing_literal rails) cube (λ i d less. negation-within (fixed_literal rails (get_or cube i d)) k (literal-within k rails (get_or cube i d) (low i d less) within))

-- ---- what is asked

pub query-is : (o : Option Problem) (q p : Problem) → o ≡ Some q → IfSome o (λ query. query ≡ p) → q ≡ p
query-is o q p is all = subst (λ (o' : Option Problem). IfSome o' (λ query. query ≡ p)) is all

-- there is no model
pub not-possible : (p q : Problem) (literals : List ℕ) (o : Option Bool) (possible : Bool) → q ≡ p → o ≡ Some possible → IsPossible q literals o → not possible ≡ true → HasNoModelUnder p literals
not-possible p q literals o true same is told none = absurd (true≢false (sym none))
not-possible p q literals o false same is told none = subst (λ (r : Problem). HasNoModelUnder r literals) same (subst (IsPossible q literals) is told)

pub saying : (net : Parts) (care : CareSet) (said : CareFormula) → IsCareFormula net care said.formula said.columns.items said.inside said.allowed → IsSaying said.formula said.columns.items said.inside said.allowed
saying net care said is = record {
  rails_are = is.over.within;
  care_is = two-within (2 * said.formula.variables) said.inside said.allowed is.inside_within is.allowed_within;
}

pub some-asks : (net : Parts) (care : CareSet) (said : CareFormula) (found : Option AskedCare) → IsCareFormula net care said.formula said.columns.items said.inside said.allowed →
    IfSome found (λ q. q ≡ asked_of said.formula said.columns.items said.inside said.allowed) → IfSome found (AsksCare net care)
some-asks net care said None is made = tt
some-asks net care said (Some q) is made = subst (AsksCare net care) (sym made) (record { formula = said.formula; says_care = is; asks = refl })

-- ---- the model of a care vector

-- the literal of a column that has the other value is false
literal-fails : (m : List Bool) (rails : List Rails) (fixed : Fixed) (b : Bool) → Reads m (rails_at rails fixed.column) (bit b) → not b ≡ fixed.value → says m (fixed_literal rails fixed) ≡ false
literal-fails m rails fixed false reads is = rw (sym is) (reads.one)
literal-fails m rails fixed true reads is = rw (sym is) (reads.zero)

same-or-other : (a b : Bool) → (a ≡ b) ⊎ (not a ≡ b)
same-or-other true true = inl refl
same-or-other true false = inr refl
same-or-other false true = inr refl
same-or-other false false = inl refl

module _ (net : Parts) (care : CareSet) (f : Formula) (rails : List Rails) (inside allowed : ℕ) (is : IsCareFormula net care f rails inside allowed) (v : List Bool) (counts : IsCareVector net care v) where
  own : HasVector f rails v
  own = is.over.complete v counts.width

  care-true : All (λ l. says own.model l ≡ true) (inside ∷ allowed ∷ [])
  care-true =
      let holds_in = λ (l : ℕ). says own.model l ≡ true in
      All-cons holds_in inside (allowed ∷ []) (is.inside_tells own.model v own.holds own.reads ∙ counts.state)
      (All-cons holds_in allowed [] (is.allowed_tells own.model v own.holds own.reads ∙ counts.allowed) (All-nil holds_in))

  column-read : (column : ℕ) → column < length rails → Reads own.model (rails_at rails column) (bit (get_or v column false))
  column-read column low =
      subst (λ (t : Trit). Reads own.model (rails_at rails column) t) (get_or-map bit v column false X (let wide = counts.width in let size = is.over.size in omega (arith, low, wide, size)))
      (ReadsAll-at own.model rails (bits v) column no_rails X low own.reads)

  cube-true : (cube : List Fixed) → All (λ fixed. fixed.column < length rails) cube → IsInCube cube v → All (λ l. says own.model l ≡ true) (map (fixed_literal rails) cube)
  cube-true cube low in_cube =
      All-map (λ l. says own.model l ≡ true) (fixed_literal rails) cube
      (λ k d less. let fixed = get_or cube k d in literal-holds own.model rails fixed (get_or v fixed.column false) (column-read fixed.column (low k d less)) (in_cube k d less))

  -- a cube has the vector, or is missed by the model
  in-or-missed : (cube : List Fixed) → All (λ fixed. fixed.column < length rails) cube → IsInCube cube v ⊎ (misses rails own.model cube ≡ true)
  in-or-missed [] low = inl (All-nil (HasFixed v))
  in-or-missed (fixed ∷ cube) low =
      let reads = column-read fixed.column (low 0 fixed (omega arith)) in
      let first = says own.model (missing_literal rails fixed) in
      elim (same-or-other (get_or v fixed.column false) fixed.value) [
        | inl has ↦ elim (in-or-missed cube (λ k d less. low (suc k) d (omega (arith, less)))) [
          | inl inside ↦ inl (All-cons (HasFixed v) fixed cube has inside)
          | inr missed ↦ inr (ap (λ b. first || b) missed ∙ or-true first)
        ]
        | inr other ↦ inr (ap (λ b. b || misses rails own.model cube) (says-negation own.model (fixed_literal rails fixed) ∙ ap not (literal-fails own.model rails fixed (get_or v fixed.column false) reads other)))
      ]
    where
      or-true : (b : Bool) → (b || true) ≡ true
      or-true true = refl
      or-true false = refl

  some-or-missed : (cubes : List Cube) → All (λ cube. All (λ fixed. fixed.column < length rails) cube.fixed) cubes → Any (λ cube. IsInCube cube.fixed v) cubes ⊎ All (λ cube. misses rails own.model cube.fixed ≡ true) cubes
  some-or-missed [] low = inr (All-nil (λ cube. misses rails own.model cube.fixed ≡ true))
  some-or-missed (cube ∷ cubes) low =
      elim (in-or-missed cube.fixed (low 0 cube (omega arith))) [
        | inl inside ↦ inl (0, cube, omega arith, refl, inside)
        | inr missed ↦ elim (some-or-missed cubes (λ k d less. low (suc k) d (omega (arith, less)))) [
          | inl some ↦ inl (suc some.0, some.1, omega (arith, some.2), some.3, some.4)
          | inr all ↦ inr (All-cons (λ c. misses rails own.model c.fixed ≡ true) cube cubes missed all)
        ]
      ]

-- ---- cubes that are ruled out

module _ (net : Parts) (care : CareSet) (q : AskedCare) (asks : AsksCare net care q) where
  -- literals that are true in the model of a care vector have a model
  refuted : (v : List Bool) (counts : IsCareVector net care v) (literals : List ℕ) → All (λ l. says (own net care asks.formula q.rails q.inside q.allowed asks.says_care v counts).model l ≡ true) literals →
      ¬ HasNoModelUnder q.problem literals
  refuted v counts literals all none =
      let has = own net care asks.formula q.rails q.inside q.allowed asks.says_care v counts in
      subst (λ (p : Problem). HasNoModelUnder p literals) asks.asks none has.model (record { model = models-same asks.formula has.model ∙ has.holds; assumed = all })

  within-true : (v : List Bool) (counts : IsCareVector net care v) (cube : List Fixed) → AreColumnsOf q cube → IsInCube cube v →
      All (λ l. says (own net care asks.formula q.rails q.inside q.allowed asks.says_care v counts).model l ≡ true) (literals_within q cube)
  within-true v counts cube low in_cube =
      let has = own net care asks.formula q.rails q.inside q.allowed asks.says_care v counts in
      All-append (λ l. says has.model l ≡ true) (map (fixed_literal q.rails) cube) (q.inside ∷ q.allowed ∷ [])
      (cube-true net care asks.formula q.rails q.inside q.allowed asks.says_care v counts cube low in_cube)
      (care-true net care asks.formula q.rails q.inside q.allowed asks.says_care v counts)

  pub ruled-out : (cube : List Fixed) → AreColumnsOf q cube → HasNoModelUnder q.problem (literals_within q cube) → IsRuledOut net care cube
  ruled-out cube low none = λ v counts in_cube. refuted v counts (literals_within q cube) (within-true v counts cube low in_cube) none

  pub ruled-out-each : (cube values : List Fixed) (marks : List Bool) → AreColumnsOf q cube → AreColumnsOf q values → AreNever q.problem (map (fixed_literal q.rails) values) (literals_within q cube) marks → RuleOutEach net care cube values marks
  ruled-out-each cube values marks low values_low never = record {
    width = never.width ∙ length-map values (fixed_literal q.rails);
    out = λ i d less marked v counts in_both.
        let has = own net care asks.formula q.rails q.inside q.allowed asks.says_care v counts in
        let value = get_or values i d in
        let literals = map (fixed_literal q.rails) values in
        let parts = All-parts (HasFixed v) cube (value ∷ []) in_both in
        let value_true : says has.model (fixed_literal q.rails value) ≡ true =
        literal-holds has.model q.rails value (get_or v value.column false)
        (column-read net care asks.formula q.rails q.inside q.allowed asks.says_care v counts value.column (values_low i d less)) (parts.1 0 value (omega arith)) in
        refuted v counts (literals_within q cube ++ get_or literals i 0 ∷ [])
        (All-push (λ l. says has.model l ≡ true) (literals_within q cube) (get_or literals i 0) (within-true v counts cube low parts.0)
        (ap (says has.model) (get_or-map (fixed_literal q.rails) values i d 0 less) ∙ value_true))
        (never.impossible i (omega (arith, less, length-map values (fixed_literal q.rails))) marked);
  }

-- the same of the fields that questions have inside
module _ (q r : AskedCare) (same : r ≡ q) where
  pub asked-inside : (cube : List Fixed) (literals : List ℕ) → CanAsk r → AreColumnsOf q cube → literals ≡ literals_within q cube → IsWithin r.problem.variables literals
  asked-inside cube literals can low is =
      subst (IsWithin r.problem.variables) (sym is)
      (subst (λ (s : AskedCare). IsWithin r.problem.variables (literals_within s cube)) same (asked-within r cube can (subst (λ (s : AskedCare). AreColumnsOf s cube) (sym same) low)))

  pub values-inside : (values : List Fixed) (literals : List ℕ) → CanAsk r → AreColumnsOf q values → literals ≡ map (fixed_literal r.rails) values → IsWithin r.problem.variables literals
  values-inside values literals can low is =
      subst (IsWithin r.problem.variables) (sym is) (cube-within r.problem.variables r.rails values (subst (λ (s : AskedCare). AreColumnsOf s values) (sym same) low) can.rails)

  pub ruled-out-inside : (net : Parts) (care : CareSet) (cube : List Fixed) (literals : List ℕ) → AsksCare net care q → AreColumnsOf q cube → literals ≡ literals_within q cube → HasNoModelUnder r.problem literals → IsRuledOut net care cube
  ruled-out-inside net care cube literals asks low is none =
      ruled-out net care q asks cube low (subst (λ (s : AskedCare). HasNoModelUnder s.problem (literals_within q cube)) same (subst (HasNoModelUnder r.problem) is none))

  pub ruled-out-each-inside : (net : Parts) (care : CareSet) (cube values : List Fixed) (literals assumed : List ℕ) (marks : List Bool) → AsksCare net care q → AreColumnsOf q cube → AreColumnsOf q values →
      literals ≡ map (fixed_literal r.rails) values → assumed ≡ literals_within q cube → AreNever r.problem literals assumed marks → RuleOutEach net care cube values marks
  ruled-out-each-inside net care cube values literals assumed marks asks low values_low literals_are assumed_are never =
      ruled-out-each net care q asks cube values marks low values_low
      (subst (λ (s : AskedCare). AreNever s.problem (map (fixed_literal s.rails) values) (literals_within q cube) marks) same
      (subst (λ (ls : List ℕ). AreNever r.problem ls (literals_within q cube) marks) literals_are (subst (λ (ls : List ℕ). AreNever r.problem literals ls marks) assumed_are never)))

pub none-marked : (net : Parts) (care : CareSet) (cube values : List Fixed) (marks : List Bool) → marks ≡ replicate (length values) false → RuleOutEach net care cube values marks
none-marked net care cube values marks is = record {
  width = ap length is ∙ length-replicate (length values) false;
  out = λ i d less marked. absurd (true≢false (sym marked ∙ ap (λ (bs : List Bool). get_or bs i false) is ∙ get_or-replicate (length values) i false false less));
}

-- ---- cubes that leave no care vector out

pub missing-none : (f : Formula) (rails : List Rails) → IsFormula f → SaysMissing f f rails []
missing-none f rails is = record { formula = is; variables = refl; complete = λ m h all. h }

pub missing-step : (old mid new : Formula) (rails : List Rails) (cubes : List Cube) (cube : Cube) → SaysMissing old mid rails cubes → SaysMissing mid new rails (cube ∷ []) → SaysMissing old new rails (cubes ++ cube ∷ [])
missing-step old mid new rails cubes cube first last = record {
  formula = last.formula;
  variables = last.variables ∙ first.variables;
  complete = λ m h all. let parts = All-parts (λ c. misses rails m c.fixed ≡ true) cubes (cube ∷ []) all in last.complete m (first.complete m h parts.0) parts.1;
}

pub covered : (net : Parts) (care : CareSet) (old : Formula) (said : CareFormula) (cubes : List Cube) → IsCareFormula net care old said.columns.items said.inside said.allowed → SaysMissing old said.formula said.columns.items cubes →
    All (λ cube. IsCubeOf net cube.fixed) cubes → AsksMissing net care cubes said
covered net care old said cubes is missing low = record {
  within = subst (λ (k : ℕ). IsWithin k (said.inside ∷ said.allowed ∷ [])) (sym missing.variables) (two-within (2 * old.variables) said.inside said.allowed is.inside_within is.allowed_within);
  complete = λ none v counts.
      let has = own net care old said.columns.items said.inside said.allowed is v counts in
      elim (some-or-missed net care old said.columns.items said.inside said.allowed is v counts cubes (λ k d less j e below. let low_at = low k d less j e below in let size = is.over.size in omega (arith, low_at, size))) [
        | inl some ↦ some
        | inr all ↦ absurd (none has.model (record {
          model = models-same said.formula has.model ∙ missing.complete has.model has.holds all;
          assumed = care-true net care old said.columns.items said.inside said.allowed is v counts;
        }))
      ];
}
