-- Which gates the models of a cone leave unknown.
use Rattle.std.proofs.Common.{◌≡◌, inl, inr, ℕ, ◌<◌, ◌+◌, ◌*◌, Bool, true, false, not, List, [], ◌∷◌, length, map, take, get_or, Option, refl, sym, ap, subst, ◌∙◌, arith, true≢false}
use Rattle.std.specs.Prelude.{is_some}
use Rattle.std.specs.List.{All, list_any}
use Rattle.clause_decision.proofs.Common.{cases_lt, length-map, length-take-le, get_or-map, get_or-take, get_or_default, All-map, All-weaker, Trit, X, bits, Parts, wire, fix, fix_gates, count, gate_sig, value_in, CareSet, columns, is_allowed, is_in_invariant, is_care_vector, state_of, Formula, Rails, gate_rails, says, negation, IsModel, AreWithin, is_known, SaysAny, says-negation, IsWithin, problem, HasNoModelUnder, Asks, models-same, column_rails, vector_in, ReadsAbove, ReadsFix, IsCone, is_marked, unknown_literals, IsModelUnder, Question, IsQuestionOf}
use Rattle.std.proofs.lemmas.List.{length-take}
use Rattle.std.proofs.lemmas.List.Folds.{Any-from_list_any, list_any_at}
use Rattle.std.proofs.lemmas.Simd.{map-map}
use Rattle.std.proofs.lemmas.Bool.{and_parts}
use Rattle.cyc_base.proofs.OrderLemmas.{Below-unknown}
use Rattle.cyc_base.proofs.VectorLemmas.{find-none}
use Rattle.refusals.specs.Refusals.{is_undetermined}
use Rattle.refusals.proofs.FirstLemmas.{none_passes}
use Rattle.refusals.proofs.RefusalLemmas.{gate_wire}
use Rattle.refusals.proofs.ShowingLemmas.{is_x_decides}
use Rattle.clause_decision.proofs.SignalLemmas.{ones-within, three}
use Rattle.clause_queries.specs.Each.{CanBe, CannotBe, TellEach}
use Rattle.clause_queries.specs.Queries.{HasModelUnder, AreRising, IsFirst, IsFirstAt}
use Rattle.clause_queries.specs.declared.first.First.{First}
use Rattle.clause_queries.specs.declared.first.First.TheVariants as firsts
use Rattle.refusals.specs.Tests.{is_unknown_at, is_unknown}
use Rattle.clause_decision.specs.Tests.{IsFirstUnknown, TellsFirstUnknown, TellEachUnknown}
use Rattle.clause_decision.specs.Unknowns.{TellUnknowns}
use Rattle.clause_decision.specs.Witnesses.{IsWitness}
use Rattle.clause_decision.proofs.ConeLemmas.{care-under, cone-kept, vector-read}
use Rattle.clause_decision.proofs.FormulaLemmas.{question-of, two-within}

-- ---- the first so many of a list

-- one of the first so many passes a test
pub record Passes (p : ℕ → Bool) (xs : List ℕ) (many : ℕ) : Type 0 where
  pub place : ℕ
  pub early : place < many
  pub inside : place < length xs
  pub passes : p (get_or xs place 0) ≡ true

passes-of_any : (p : ℕ → Bool) (xs : List ℕ) (many : ℕ) → list_any p (take many xs) ≡ true → Passes p xs many
passes-of_any p xs many h = grind (arith, Any-from_list_any p (take many xs) h, length-take many xs, get_or-take many xs, get_or_default (take many xs))

any-of_passes : (p : ℕ → Bool) (xs : List ℕ) (many j : ℕ) → j < many → j < length xs → p (get_or xs j 0) ≡ true → list_any p (take many xs) ≡ true
any-of_passes p xs many j early inside h = grind (arith, list_any_at p (take many xs) j 0, length-take many xs, get_or-take many xs j 0 early)

-- ---- values

pub unknown-value : (t : Trit) → not (is_known t) ≡ true → t ≡ X
unknown-value t e = grind arith

-- ---- a gate that is unknown at some care vector

some-unknown : (net : Parts) (care : CareSet) (n : ℕ) (v : List Bool) → length v ≡ columns net → is_unknown_at net care n v ≡ true → is_unknown net care n ≡ true
some-unknown net care n v wide h = grind (arith, true≢false, none_passes (columns net) (is_unknown_at net care n) v)

never-unknown : (net : Parts) (care : CareSet) (n : ℕ) → ((v : List Bool) → length v ≡ columns net → ¬ (is_unknown_at net care n v ≡ true)) → is_unknown net care n ≡ false
never-unknown net care n never =
    ap (λ (o : Option (List Bool)). is_some o) (find-none (columns net) (is_unknown_at net care n) (λ w wide. fails (is_unknown_at net care n w) (never w wide)))
  where
    fails : (b : Bool) → ¬ (b ≡ true) → b ≡ false
    fails b h = grind arith

-- ---- the literals

-- a gate's rails are of the formula's variables
known-within : (net : Parts) (rails : List Rails) (variables n : ℕ) → length rails ≡ count net → All (AreWithin variables) rails → n < length net.gates → negation (gate_rails net rails n).known < 2 * variables
known-within net rails variables n wide all inside = grind arith

pub unknown_literals-within : (net : Parts) (rails : List Rails) (variables : ℕ) (gates : List ℕ) → length rails ≡ count net → All (AreWithin variables) rails → All (λ n. n < length net.gates) gates →
    All (λ l. l < 2 * variables) (unknown_literals net rails gates)
unknown_literals-within net rails variables gates wide all inside =
    All-map (λ l. l < 2 * variables) (λ n. negation (gate_rails net rails n).known) gates
    (All-weaker (λ n. n < length net.gates) (λ n. negation (gate_rails net rails n).known < 2 * variables) (λ n less. known-within net rails variables n wide all less) gates inside)

pub unknowns-told : (net : Parts) (care : CareSet) (marks : List Bool) (old new : Formula) (rails : List Rails) (inside allowed : ℕ) (gates sums : List ℕ) →
    IsCone net care marks old rails inside allowed → SaysAny old new (unknown_literals net rails gates) sums → TellUnknowns net care marks new rails inside allowed gates sums
unknowns-told net care marks old new rails inside allowed gates sums cone any =
    let size : length (unknown_literals net rails gates) ≡ length gates = length-map gates (λ n. negation (gate_rails net rails n).known) in
    grind (arith, cone-kept net care marks old new rails inside allowed cone any.grows any.complete)

-- ---- the gates that a cone's models leave unknown

-- a model in which the columns read the vector, and the care literals are true and one more
pub record HasUnknown (net : Parts) (f : Formula) (rails : List Rails) (inside allowed unknown : ℕ) (v : List Bool) : Type 0 where
  pub model : List Bool
  pub vector : vector_in net rails model ≡ v
  pub under : IsModelUnder (problem f) (inside ∷ allowed ∷ unknown ∷ []) model

module _ (net : Parts) (care : CareSet) (marks : List Bool) (f : Formula) (rails : List Rails) (inside allowed : ℕ) (cone : IsCone net care marks f rails inside allowed) where
  width : length (column_rails net rails) ≡ columns net
  width = length-take-le (columns net) rails (let x = cone.size in omega (arith, x))

  wide-vector : (m : List Bool) → length (vector_in net rails m) ≡ columns net
  wide-vector m = length-map (column_rails net rails) (λ r. says m r.one) ∙ width

  -- where a gate's literal is true in a model beside the care literals, its vector leaves the gate unknown
  unknown-there : (n : ℕ) → n < length net.gates → is_marked marks n ≡ true → (m : List Bool) → IsModel m f → says m inside ≡ true → says m allowed ≡ true →
      says m (negation (gate_rails net rails n).known) ≡ true → is_unknown_at net care n (vector_in net rails m) ≡ true
  unknown-there n within marked m h in_care may unknown =
      let v = vector_in net rails m in
      let there : ReadsAbove net marks rails m v = cone.above m h in
      grind (arith, says-negation m (gate_rails net rails n).known, Below-unknown (value_in (fix_gates net (bits v)) n) (value_in there.state n), unknown-value (value_in there.state n), gate_wire net v n (wide-vector m), wide-vector m)

  -- and each such vector has such a model
  unknown-read : (n : ℕ) → n < length net.gates → is_marked marks n ≡ true → (v : List Bool) → length v ≡ columns net → is_unknown_at net care n v ≡ true →
      HasUnknown net f rails inside allowed (negation (gate_rails net rails n).known) v
  unknown-read n within marked v wide h =
      let has : ReadsFix net marks f rails v = cone.complete v wide in
      let split = and_parts (is_care_vector net care v) (is_undetermined net (gate_sig net n) v) h in
      let both = and_parts (is_in_invariant care (state_of net v)) (is_allowed care v) split.0 in
      let at : value_in (fix_gates net (bits v)) n ≡ X = sym (gate_wire net v n wide) ∙ is_x_decides (wire (fix net (bits v)) (gate_sig net n)) split.1 in
      grind (arith, vector-read cone v has, care-under cone v has, width, says-negation has.model (gate_rails net rails n).known)

  -- ---- the question at which care vectors a gate is unknown

  module _ (n : ℕ) (within : n < length net.gates) (marked : is_marked marks n ≡ true) where
    asks-unknown : Asks (problem f) (map (λ r. r.one) (column_rails net rails)) (inside ∷ allowed ∷ negation (gate_rails net rails n).known ∷ []) (is_unknown_at net care n)
    asks-unknown = record {
      sound = λ m under.
          ap (is_unknown_at net care n) (map-map (says m) (λ (r : Rails). r.one) (column_rails net rails))
          ∙ unknown-there n within marked m (sym (models-same f m) ∙ under.model) (under.assumed 0 0 (omega arith)) (under.assumed 1 0 (omega arith)) (under.assumed 2 0 (omega arith));
      complete = λ v wide h.
          let has : HasUnknown net f rails inside allowed (negation (gate_rails net rails n).known) v = unknown-read n within marked v (wide ∙ length-map (column_rails net rails) (λ (r : Rails). r.one) ∙ width) h in
          record { model = has.model; under = has.under; reads = map-map (says has.model) (λ (r : Rails). r.one) (column_rails net rails) ∙ has.vector };
    }

    pub unknown-question : (q : Question) → q.formula ≡ f → q.columns.items ≡ map (λ r. r.one) (column_rails net rails) → q.assumed.items ≡ (inside ∷ allowed ∷ negation (gate_rails net rails n).known ∷ []) →
        IsQuestionOf (columns net) (is_unknown_at net care n) q
    unknown-question q formula_is columns_are assumed_are =
        question-of q formula_is columns_are assumed_are (ones-within net rails f.variables cone.within)
        (three (λ l. l < 2 * f.variables) inside allowed (negation (gate_rails net rails n).known) cone.inside_within cone.allowed_within (known-within net rails f.variables n cone.size cone.within within))
        (length-map (column_rails net rails) (λ (r : Rails). r.one) ∙ width) asks-unknown

-- ---- for each gate whether it is unknown

module _ (net : Parts) (care : CareSet) (marks : List Bool) (f : Formula) (rails : List Rails) (inside allowed : ℕ) (cone : IsCone net care marks f rails inside allowed)
    (gates literals : List ℕ) (within : All (λ n. n < length net.gates) gates) (marked : All (λ n. is_marked marks n ≡ true) gates) (are : literals ≡ unknown_literals net rails gates) where
  each-literal : (i : ℕ) → i < length gates → get_or literals i 0 ≡ negation (gate_rails net rails (get_or gates i 0)).known
  each-literal i less = ap (λ (ls : List ℕ). get_or ls i 0) are ∙ get_or-map (λ n. negation (gate_rails net rails n).known) gates i 0 0 less

  can-be : (i : ℕ) → i < length gates → CanBe (problem f) literals (inside ∷ allowed ∷ []) i → is_unknown net care (get_or gates i 0) ≡ true
  can-be i less has =
      let m = has.model in
      some-unknown net care (get_or gates i 0) (vector_in net rails m) (wide-vector net care marks f rails inside allowed cone m)
      (unknown-there net care marks f rails inside allowed cone (get_or gates i 0) (within i 0 less) (marked i 0 less) m (sym (models-same f m) ∙ has.is.model)
      (has.is.assumed 0 0 (omega arith)) (has.is.assumed 1 0 (omega arith)) (ap (says m) (sym (each-literal i less)) ∙ has.is.assumed 2 0 (omega arith)))

  cannot-be : (i : ℕ) → i < length gates → CannotBe (problem f) literals (inside ∷ allowed ∷ []) i → is_unknown net care (get_or gates i 0) ≡ false
  cannot-be i less none = never-unknown net care (get_or gates i 0) (λ v wide h.
      let has : HasUnknown net f rails inside allowed (negation (gate_rails net rails (get_or gates i 0)).known) v = unknown-read net care marks f rails inside allowed cone (get_or gates i 0) (within i 0 less) (marked i 0 less) v wide h in
      none has.model (subst (λ l. IsModelUnder (problem f) (inside ∷ allowed ∷ l ∷ []) has.model) (sym (each-literal i less)) has.under))

  pub each-told : (found : List Bool) → TellEach (problem f) literals (inside ∷ allowed ∷ []) found → TellEachUnknown net care gates found
  each-told found told = record {
    width = told.width ∙ ap length are ∙ length-map gates (λ n. negation (gate_rails net rails n).known);
    each = λ i less. by i less (get_or found i false) refl;
  }
    where
      size : length literals ≡ length gates
      size = ap length are ∙ length-map gates (λ n. negation (gate_rails net rails n).known)

      by : (i : ℕ) → i < length gates → (b : Bool) → get_or found i false ≡ b → is_unknown net care (get_or gates i 0) ≡ get_or found i false
      by i less true is = can-be i less (told.possible i (omega (arith, less, size)) is) ∙ sym is
      by i less false is = cannot-be i less (told.impossible i (omega (arith, less, size)) is) ∙ sym is

-- ---- the first gate that is unknown

module _ (net : Parts) (care : CareSet) (marks : List Bool) (f : Formula) (rails : List Rails) (inside allowed : ℕ) (gates sums : List ℕ)
    (told : TellUnknowns net care marks f rails inside allowed gates sums) where
  literals-size : length (unknown_literals net rails gates) ≡ length gates
  literals-size = length-map gates (λ n. negation (gate_rails net rails n).known)

  literal-at : (i : ℕ) → i < length gates → get_or (unknown_literals net rails gates) i 0 ≡ negation (gate_rails net rails (get_or gates i 0)).known
  literal-at i less = get_or-map (λ n. negation (gate_rails net rails n).known) gates i 0 0 less

  -- where one sum is true, the next one is
  pub sums-rise : AreRising (problem f) sums
  sums-rise m i h next is = grind (arith, models-same f m, passes-of_any (says m) (unknown_literals net rails gates) (i + 1), any-of_passes (says m) (unknown_literals net rails gates) (i + 1 + 1))

  pub care-within : IsWithin f.variables (inside ∷ allowed ∷ [])
  care-within = two-within (2 * f.variables) inside allowed told.cone.inside_within told.cone.allowed_within

  module _ (within : All (λ n. n < length net.gates) gates) (marked : All (λ n. is_marked marks n ≡ true) gates) where
    -- one of the first so many gates is unknown at a care vector
    pub record Unknown (many : ℕ) : Type 0 where
      pub place : ℕ
      pub early : place < many
      pub listed : place < length gates
      pub is : is_unknown net care (get_or gates place 0) ≡ true

    unknown-of_sum : (i : ℕ) → i < length gates → HasModelUnder (problem f) (inside ∷ allowed ∷ get_or sums i 0 ∷ []) → Unknown (i + 1)
    unknown-of_sum i less has =
        let m = has.model in
        let model : IsModel m f = sym (models-same f m) ∙ has.is.model in
        let some : Passes (says m) (unknown_literals net rails gates) (i + 1) = passes-of_any (says m) (unknown_literals net rails gates) (i + 1) (sym (told.says_each m model i less) ∙ has.is.assumed 2 0 (omega arith)) in
        let there : some.place < length gates = (let x = some.inside in omega (arith, x, literals-size)) in
        let n = get_or gates some.place 0 in
        record {
          place = some.place;
          early = some.early;
          listed = there;
          is = some-unknown net care n (vector_in net rails m) (wide-vector net care marks f rails inside allowed told.cone m)
              (unknown-there net care marks f rails inside allowed told.cone n (within some.place 0 there) (marked some.place 0 there) m model
              (has.is.assumed 0 0 (omega arith)) (has.is.assumed 1 0 (omega arith)) (ap (says m) (sym (literal-at some.place there)) ∙ some.passes));
        }

    known-of_sum : (j : ℕ) → j < length gates → HasNoModelUnder (problem f) (inside ∷ allowed ∷ get_or sums j 0 ∷ []) → is_unknown net care (get_or gates j 0) ≡ false
    known-of_sum j less none = never-unknown net care (get_or gates j 0) (λ v wide h.
        let has : HasUnknown net f rails inside allowed (negation (gate_rails net rails (get_or gates j 0)).known) v = unknown-read net care marks f rails inside allowed told.cone (get_or gates j 0) (within j 0 less) (marked j 0 less) v wide h in
        let m = has.model in
        let sum : says has.model (get_or sums j 0) ≡ true =
        told.says_each m (sym (models-same f m) ∙ has.under.model) j less
        ∙ any-of_passes (says m) (unknown_literals net rails gates) (j + 1) j (omega arith) (omega (arith, less, literals-size)) (ap (says m) (literal-at j less) ∙ has.under.assumed 2 0 (omega arith)) in
        none m (record { model = has.under.model; assumed = three (λ l. says m l ≡ true) inside allowed (get_or sums j 0) (has.under.assumed 0 0 (omega arith)) (has.under.assumed 1 0 (omega arith)) sum }))

    first-at : (place : ℕ) → IsFirstAt (problem f) sums (inside ∷ allowed ∷ []) place → IsFirstUnknown net care gates place
    first-at place is =
        let size : length sums ≡ length gates = told.size in
        let less : place < length gates = (let x = is.within in omega (arith, x, size)) in
        record {
          within = less;
          unknown = unknown_by (unknown-of_sum place less is.possible);
          before = λ j early. known-of_sum j (omega (arith, early, less)) (is.before j early);
        }
      where
        unknown_by : Unknown (place + 1) → is_unknown net care (get_or gates place 0) ≡ true
        unknown_by some = elim (cases_lt some.place place) [
          | inl early ↦ absurd (true≢false (sym some.is ∙ known-of_sum some.place some.listed (is.before some.place early)))
          | inr high ↦
              let early : some.place < place + 1 = some.early in
              let same : some.place ≡ place = omega (arith, early, high) in
              subst (λ k. is_unknown net care (get_or gates k 0) ≡ true) same some.is
        ]

    pub first-unknown : (first : First) → IsFirst (problem f) sums (inside ∷ allowed ∷ []) first → TellsFirstUnknown net care gates first
    first-unknown (firsts.At place) is = first-at place is
    first-unknown firsts.Nowhere is = λ j less. known-of_sum j less (is j (let size = told.size in omega (arith, less, size)))
    first-unknown firsts.Unknown is = tt

    -- ---- a vector of one model

    -- the gate of the first sum that is true in a model is unknown at its vector
    pub witness-read : (m vector : List Bool) (last place : ℕ) → IsModelUnder (problem f) (inside ∷ allowed ∷ get_or sums last 0 ∷ []) m → vector ≡ vector_in net rails m → place < length sums →
        says m (get_or sums place 0) ≡ true → ((k : ℕ) → k < place → says m (get_or sums k 0) ≡ false) → IsWitness net care gates vector place
    witness-read m vector last place under vector_is inside_sums here before = subst (λ v. IsWitness net care gates v place) (sym vector_is) (record {
      within = less;
      width = wide-vector net care marks f rails inside allowed told.cone m;
      unknown = unknown-there net care marks f rails inside allowed told.cone (get_or gates place 0) (within place 0 less) (marked place 0 less) m model
          (under.assumed 0 0 (omega arith)) (under.assumed 1 0 (omega arith)) (ap (says m) (sym (literal-at place less)) ∙ first-literal);
    })
      where
        less : place < length gates
        less = let size = told.size in omega (arith, inside_sums, size)

        model : IsModel m f
        model = sym (models-same f m) ∙ under.model

        some : Passes (says m) (unknown_literals net rails gates) (place + 1)
        some = passes-of_any (says m) (unknown_literals net rails gates) (place + 1) (sym (told.says_each m model place less) ∙ here)

        there : some.place < length gates
        there = let x = some.inside in omega (arith, x, literals-size)

        -- no earlier literal is true, since its sum would be
        first-literal : says m (get_or (unknown_literals net rails gates) place 0) ≡ true
        first-literal = elim (cases_lt some.place place) [
          | inl early ↦
              let sum : says m (get_or sums some.place 0) ≡ true =
              told.says_each m model some.place there ∙ any-of_passes (says m) (unknown_literals net rails gates) (some.place + 1) some.place (omega arith) some.inside some.passes in
              absurd (true≢false (sym sum ∙ before some.place early))
          | inr high ↦
              let early : some.place < place + 1 = some.early in
              subst (λ k. says m (get_or (unknown_literals net rails gates) k 0) ≡ true) (omega (arith, early, high)) some.passes
        ]

    -- where the last sum is true in no model on care, none of the gates is unknown there
    pub none-witnessed : (last : ℕ) → last + 1 ≡ length sums → HasNoModelUnder (problem f) (inside ∷ allowed ∷ get_or sums last 0 ∷ []) → (j : ℕ) → j < length gates → is_unknown net care (get_or gates j 0) ≡ false
    none-witnessed last whole none j less = never-unknown net care (get_or gates j 0) (λ v wide h.
        let has : HasUnknown net f rails inside allowed (negation (gate_rails net rails (get_or gates j 0)).known) v = unknown-read net care marks f rails inside allowed told.cone (get_or gates j 0) (within j 0 less) (marked j 0 less) v wide h in
        let m = has.model in
        let size : length sums ≡ length gates = told.size in
        let sum : says has.model (get_or sums last 0) ≡ true =
        told.says_each m (sym (models-same f m) ∙ has.under.model) last (omega (arith, whole, size))
        ∙ any-of_passes (says m) (unknown_literals net rails gates) (last + 1) j (omega (arith, whole, size, less)) (omega (arith, less, literals-size)) (ap (says m) (literal-at j less) ∙ has.under.assumed 2 0 (omega arith)) in
        none m (record { model = has.under.model; assumed = three (λ l. says m l ≡ true) inside allowed (get_or sums last 0) (has.under.assumed 0 0 (omega arith)) (has.under.assumed 1 0 (omega arith)) sum }))
