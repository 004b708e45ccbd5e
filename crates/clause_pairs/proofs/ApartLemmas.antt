-- Pairs of wires in a cone's models, and at care vectors.
use Rattle.std.proofs.Common.{◌≡◌, inl, inr, ℕ, suc, ◌<◌, ◌+◌, ◌*◌, Bool, true, false, not, List, [], ◌∷◌, ◌++◌, length, map, get_or, Some, refl, sym, subst, ◌∙◌, arith, true≢false}
use Rattle.std.specs.List.{All, AllZip}
use Rattle.std.proofs.lemmas.List.Elements.{All-append}
use Rattle.clause_pairs.proofs.Common.{cases_lt, get_or_default, get_or-map, get_or-take, models-same, All-nil, All-cons, All-get_or, All-map, All-push, All-weaker, Sig, Trit, X, bit, bits, Parts, wire, fix, count, first_gate, gate_of, value_in, CareSet, columns, IsCareVector, Formula, Rails, IsWanted, gate_rails, says, IsModel, HasModelFrom, Grows, is_known, no_rails, rails_at, Reads, AreWithin, ReadsAll-at, IsWithin, Problem, problem, HasNoModelUnder, column_rails, vector_in, ReadsAbove, ReadsFix, IsCone, AddLiterals, SayPairs}
use Rattle.std.proofs.lemmas.List.Folds.{list_any_none}
use Rattle.std.proofs.lemmas.Slice.Zip.{all_zipped_more}
use Rattle.ternary_clauses.specs.Apart.{SaysApart}
use Rattle.clause_formulas.specs.Formulas.{IsFormula}
use Rattle.ternary_clauses.specs.Nodes.{agreed}
use Rattle.ternary_clauses.specs.Rails.{exchanged, value_read, AreRailsOf}
use Rattle.clause_formulas.proofs.GrowthLemmas.{Grows-refl, Grows-chain, model-here, model-after}
use Rattle.ternary_clauses.proofs.NodeLemmas.{value-is}
use Rattle.ternary_clauses.proofs.PickLemmas.{opposite, Reads-opposite}
use Rattle.clause_queries.specs.Each.{AreNever, IsAnyPossible}
use Rattle.clause_pairs.specs.declared.apart.Asked.{Asked}
use Rattle.clause_decision.specs.declared.cones.Cone.{Cone}
use Rattle.clause_pairs.specs.declared.pairs.Fixed.{Fixed}
use Rattle.clause_pairs.specs.declared.pairs.Hint.{Hint}
use Rattle.netlist.specs.declared.pair.Pair.{Pair}
use Rattle.clause_decision.specs.declared.scope.Scope.{Scope}
use Rattle.netlist.specs.Pairs.{are_apart, is_apart_at, IsPairOf}
use Rattle.clause_pairs.specs.Apart.{AreNeverApart, AreNeverApartIn, HasFixed, IsCubeOf, IsInCube, IsWireIn, IsPairIn, ArePairsIn}
use Rattle.clause_pairs.specs.Pairs.{assumed_literals, fixed_literal, HoldIn, HasRails, SaysPair, AddsLiteral, TellPairs, AreRefuted}
use Rattle.clause_decision.proofs.ConeLemmas.{care-holds, cone-kept}
use Rattle.clause_decision.proofs.FormulaLemmas.{two-within}
use Rattle.clause_decision.proofs.SignalLemmas.{column_rails-length, signal-at}

-- what is read past the end of a list of hints
abbrev pub no_hint : Hint
no_hint = record { pair = record { here = record { 0 = 0 }; there = record { 0 = 0 } }; opposite = false }

-- what is read past the end of a list of pairs
abbrev pub no_pair : Pair
no_pair = record { here = record { 0 = 0 }; there = record { 0 = 0 } }

-- ---- the rails of wires

module _ (net : Parts) (care : CareSet) (scope : Scope) (f : Formula) (rails : List Rails) (inside allowed : ℕ) (cone : IsCone net care scope.gates f rails inside allowed) where
  -- where rails are read as some value, they are read as theirs
  read-own : (m : List Bool) (r : Rails) (t : Trit) → Reads m r t → Reads m r (value_read m r)
  read-own m r t reads = subst (Reads m r) (value-is m r t reads) reads

  wire-reads : (s : Sig) → s.0 < count net → IsWireIn net scope s → (m : List Bool) → IsModel m f → Reads m (rails_at rails s.0) (value_read m (rails_at rails s.0))
  wire-reads s listed marked m h = elim (cases_lt s.0 (first_gate net)) [
    | inl low ↦
        let v = vector_in net rails m in
        let at : Reads m (get_or (column_rails net rails) s.0 no_rails) (get_or (bits v) s.0 X) =
        ReadsAll-at m (column_rails net rails) (bits v) s.0 no_rails X (let l = column_rails-length net rails cone.size in omega (arith, low, l)) (cone.sound m h) in
        read-own m (rails_at rails s.0) (get_or (bits v) s.0 X)
        (subst (λ (r : Rails). Reads m r (get_or (bits v) s.0 X)) (get_or-take (columns net) rails s.0 no_rails low) at)
    | inr high ↦
        let there : ReadsAbove net scope.gates rails m (vector_in net rails m) = cone.above m h in
        let number : first_gate net + gate_of net s ≡ s.0 = omega (arith, high) in
        let wanted : IsWanted net scope.gates (gate_of net s) = record { within = omega (arith, listed, high); marked = marked high } in
        subst (λ (k : ℕ). Reads m (rails_at rails k) (value_read m (rails_at rails k))) number
        (read-own m (gate_rails net rails (gate_of net s)) (value_in there.state (gate_of net s)) (there.reads (gate_of net s) wanted))
  ]

  wire-rails : (s : Sig) → s.0 < count net → IsWireIn net scope s → AreRailsOf f (rails_at rails s.0)
  wire-rails s listed marked = grind (arith, All-get_or (AreWithin f.variables) rails s.0 no_rails, wire-reads s listed marked)

  pair-rails : (pair : Pair) → IsPairOf net pair → IsPairIn net scope pair → HasRails f rails pair
  pair-rails pair is within = grind (arith, wire-rails pair.here is.here within.here, wire-rails pair.there is.there within.there)

  pub hints-have_rails : (hints : List Hint) → All (λ hint. IsPairOf net hint.pair) hints → All (λ hint. IsPairIn net scope hint.pair) hints → All (λ hint. HasRails f rails hint.pair) hints
  hints-have_rails hints are within = λ k d less. pair-rails (get_or hints k d).pair (are k d less) (within k d less)

  pub pairs-have_rails : (pairs : List Pair) → All (IsPairOf net) pairs → ArePairsIn net scope pairs → All (HasRails f rails) pairs
  pairs-have_rails pairs are within = λ k d less. pair-rails (get_or pairs k d) (are k d less) (within k d less)

pub rails-still : (old new : Formula) (rails : List Rails) → Grows old new → (pair : Pair) → HasRails old rails pair → HasRails new rails pair
rails-still old new rails grows pair has = grind arith

-- ---- literals that are added one by one

pub apart_adds : (old new : Formula) (here there : Rails) (l : ℕ) → SaysApart old new here there l → AddsLiteral old new l
apart_adds old new here there l step = record { grows = step.grows; within = step.within; complete = step.complete }

pub literals-none : (f : Formula) → IsFormula f → AddLiterals f f []
literals-none f formula = grind (arith, Grows-refl f formula, All-nil, model-here f)

pub literals-step : (old mid new : Formula) (literals : List ℕ) (l : ℕ) → AddLiterals old mid literals → AddsLiteral mid new l → AddLiterals old new (literals ++ l ∷ [])
literals-step old mid new literals l was step = record {
  grows = Grows-chain was.grows step.grows;
  within = All-push (λ k. k < 2 * new.variables) literals l
      (All-weaker (λ k. k < 2 * mid.variables) (λ k. k < 2 * new.variables) (λ k less. let x = step.grows.more in omega (arith, less, x)) literals was.within) step.within;
  complete = λ m len h.
      let one : HasModelFrom mid m = was.complete m len h in
      model-after new m one.more (step.complete (m ++ one.more) one.width one.model);
}

pub pairs-none : (f : Formula) (rails : List Rails) → IsFormula f → SayPairs f f rails [] []
pairs-none f rails formula = record { adds = literals-none f formula; says_each = λ m h. tt }

pub pairs-step : (old mid new : Formula) (rails : List Rails) (pairs : List Pair) (literals : List ℕ) (pair : Pair) (l : ℕ) →
    SayPairs old mid rails pairs literals → SaysApart mid new (rails_at rails pair.here.0) (rails_at rails pair.there.0) l → SayPairs old new rails (pairs ++ pair ∷ []) (literals ++ l ∷ [])
pairs-step old mid new rails pairs literals pair l was step = record {
  adds = literals-step old mid new literals l was.adds (apart_adds mid new (rails_at rails pair.here.0) (rails_at rails pair.there.0) l step);
  says_each = λ m h. all_zipped_more (SaysPair m rails) pairs literals pair l (was.says_each m (step.grows.sound m h)) (λ s t here there. step.says_it m s t h here there);
}

pub exchanged_rails : (f : Formula) (r : Rails) → AreRailsOf f r → AreRailsOf f (exchanged r)
exchanged_rails f r are = record {
  within = record { one = are.within.zero; zero = are.within.one; known = are.within.known };
  reads = λ m h.
      let opposite_read = Reads-opposite m r (value_read m r) (are.reads m h) in
      subst (Reads m (exchanged r)) (value-is m (exchanged r) (opposite (value_read m r)) opposite_read) opposite_read;
}

-- ---- what is assumed

-- the literal of a column that a model reads is true where the column is as it is fixed
pub literal-holds : (m : List Bool) (rails : List Rails) (fixed : Fixed) (b : Bool) → Reads m (rails_at rails fixed.column) (bit b) → b ≡ fixed.value → says m (fixed_literal rails fixed) ≡ true
literal-holds m rails fixed false reads is = rw (sym is) (reads.zero)
literal-holds m rails fixed true reads is = rw (sym is) (reads.one)

module _ (net : Parts) (care : CareSet) (marks : List Bool) (cone : Cone) (is : IsCone net care marks cone.formula cone.rails.items cone.inside cone.allowed) (cube : List Fixed) (of_net : IsCubeOf net cube) where
  fixed-holds : (v : List Bool) → length v ≡ columns net → (has : ReadsFix net marks cone.formula cone.rails.items v) → (fixed : Fixed) → fixed.column < columns net → HasFixed v fixed →
      says has.model (fixed_literal cone.rails.items fixed) ≡ true
  fixed-holds v wide has fixed low holds =
      let at : Reads has.model (get_or (column_rails net cone.rails.items) fixed.column no_rails) (get_or (bits v) fixed.column X) =
      ReadsAll-at has.model (column_rails net cone.rails.items) (bits v) fixed.column no_rails X (let l = column_rails-length net cone.rails.items is.size in omega (arith, low, l)) has.columns in
      literal-holds has.model cone.rails.items fixed (get_or v fixed.column false)
      (subst (λ (t : Trit). Reads has.model (rails_at cone.rails.items fixed.column) t) (get_or-map bit v fixed.column false X (omega (arith, low, wide)))
      (subst (λ (r : Rails). Reads has.model r (get_or (bits v) fixed.column X)) (get_or-take (columns net) cone.rails.items fixed.column no_rails low) at))
      holds

  pub assumed-hold : HoldIn net care marks cone.formula cone.rails.items cube (assumed_literals cone cube)
  assumed-hold v counts inside has =
      let holds = λ (l : ℕ). says has.model l ≡ true in
      All-append holds (map (fixed_literal cone.rails.items) cube) (cone.inside ∷ cone.allowed ∷ [])
      (All-map holds (fixed_literal cone.rails.items) cube (λ k d less. fixed-holds v counts.width has (get_or cube k d) (of_net k d less) (inside k d less)))
      (All-cons holds cone.inside (cone.allowed ∷ []) (care-holds is v has counts).0 (All-cons holds cone.allowed [] (care-holds is v has counts).1 (All-nil holds)))

  fixed-within : (fixed : Fixed) → fixed.column < columns net → fixed_literal cone.rails.items fixed < 2 * cone.formula.variables
  fixed-within fixed low = by fixed.value refl
    where
      within : AreWithin cone.formula.variables (rails_at cone.rails.items fixed.column)
      within = All-get_or (AreWithin cone.formula.variables) cone.rails.items fixed.column no_rails (let size = is.size in omega (arith, low, size)) is.within

      by : (b : Bool) → fixed.value ≡ b → fixed_literal cone.rails.items fixed < 2 * cone.formula.variables
      by true e = rw e within.one
      by false e = rw e within.zero

  pub assumed-within : IsWithin cone.formula.variables (assumed_literals cone cube)
  assumed-within =
      let below = λ (l : ℕ). l < 2 * cone.formula.variables in
      All-append below (map (fixed_literal cone.rails.items) cube) (cone.inside ∷ cone.allowed ∷ [])
      (All-map below (fixed_literal cone.rails.items) cube (λ k d less. fixed-within (get_or cube k d) (of_net k d less)))
      (two-within (2 * cone.formula.variables) cone.inside cone.allowed is.inside_within is.allowed_within)

-- hints, and then pairs
pub pairs-told : (net : Parts) (care : CareSet) (marks : List Bool) (old mid : Formula) (cube : List Fixed) (pairs : List Pair) (asked : Asked) → IsCubeOf net cube → asked.assumed.items ≡ assumed_literals asked.cone cube →
    IsCone net care marks old asked.cone.rails.items asked.cone.inside asked.cone.allowed → AddLiterals old mid asked.hints.items → SayPairs mid asked.cone.formula asked.cone.rails.items pairs asked.pairs.items →
    TellPairs net care marks cube pairs asked
pairs-told net care marks old mid cube pairs asked of_net is_assumed cone first last =
    let f = asked.cone.formula in
    let kept : IsCone net care marks f asked.cone.rails.items asked.cone.inside asked.cone.allowed =
    cone-kept net care marks mid f asked.cone.rails.items asked.cone.inside asked.cone.allowed
    (cone-kept net care marks old mid asked.cone.rails.items asked.cone.inside asked.cone.allowed cone first.grows first.complete) last.adds.grows last.adds.complete in
    record {
      cone = kept;
      assumed = subst (HoldIn net care marks f asked.cone.rails.items cube) (sym is_assumed) (assumed-hold net care marks asked.cone kept cube of_net);
      askable = record {
        assumed = subst (IsWithin f.variables) (sym is_assumed) (assumed-within net care marks asked.cone kept cube of_net);
        hints = All-weaker (λ k. k < 2 * mid.variables) (λ k. k < 2 * f.variables) (λ k less. let x = last.adds.grows.more in omega (arith, less, x)) asked.hints.items first.within;
        pairs = last.adds.within;
      };
      says_each = last.says_each;
    }

-- ---- at care vectors

-- values that are known and equal aren't apart
equal-apart : (s t : Trit) → not (is_known (agreed s t)) ≡ false → are_apart s t ≡ false
equal-apart s t e = grind arith

module _ (net : Parts) (care : CareSet) (scope : Scope) (cube : List Fixed) (pairs : List Pair) (asked : Asked) (told : TellPairs net care scope.gates cube pairs asked) (none : AreRefuted asked) where
  -- a literal that is refuted is false in the model of a care vector's fixpoint
  refuted-at : (v : List Bool) → IsCareVector net care v → IsInCube cube v → (has : ReadsFix net scope.gates asked.cone.formula asked.cone.rails.items v) → (l : ℕ) →
      HasNoModelUnder (problem asked.cone.formula) (asked.assumed.items ++ l ∷ []) → says has.model l ≡ false
  refuted-at v counts inside has l refuted = by (says has.model l) refl
    where
      by : (b : Bool) → says has.model l ≡ b → says has.model l ≡ false
      by false e = e
      by true e =
          absurd (refuted has.model (record {
            model = models-same asked.cone.formula has.model ∙ has.holds;
            assumed = All-push (λ k. says has.model k ≡ true) asked.assumed.items l (told.assumed v counts inside has) e;
          }))

  -- a wire is read as its value
  wire-read : (v : List Bool) → IsCareVector net care v → (has : ReadsFix net scope.gates asked.cone.formula asked.cone.rails.items v) → (s : Sig) → s.0 < count net →
      IsWireIn net scope s → Reads has.model (rails_at asked.cone.rails.items s.0) (wire (fix net (bits v)) s)
  wire-read v counts has s inside marked =
      signal-at net asked.cone.rails.items has.model v told.cone.size counts.width has.columns s
      (λ high. has.fixpoint (gate_of net s) (record { within = omega (arith, inside, high); marked = marked high }))

  none-apart : (v : List Bool) → IsCareVector net care v → IsInCube cube v → (has : ReadsFix net scope.gates asked.cone.formula asked.cone.rails.items v) → (some : List Pair) (literals : List ℕ) →
      All (IsPairOf net) some → ArePairsIn net scope some → AllZip (SaysPair has.model asked.cone.rails.items) some literals →
      All (λ l. HasNoModelUnder (problem asked.cone.formula) (asked.assumed.items ++ l ∷ [])) literals → All (λ pair. is_apart_at net v pair ≡ false) some
  none-apart v counts in_cube has [] [] are within each refuted = All-nil (λ pair. is_apart_at net v pair ≡ false)
  none-apart v counts in_cube has [] (l ∷ literals) are within each refuted = absurd each
  none-apart v counts in_cube has (pair ∷ some) [] are within each refuted = absurd each
  none-apart v counts in_cube has (pair ∷ some) (l ∷ literals) are within each refuted =
      let is : IsPairOf net pair = are 0 pair (omega arith) in
      let inside : IsPairIn net scope pair = within 0 pair (omega arith) in
      let here = wire-read v counts has pair.here is.here inside.here in
      let there = wire-read v counts has pair.there is.there inside.there in
      All-cons (λ p. is_apart_at net v p ≡ false) pair some
      (equal-apart (wire (fix net (bits v)) pair.here) (wire (fix net (bits v)) pair.there)
      (sym (each.0 (wire (fix net (bits v)) pair.here) (wire (fix net (bits v)) pair.there) here there) ∙ refuted-at v counts in_cube has l (refuted 0 l (omega arith))))
      (none-apart v counts in_cube has some literals (λ k d less. are (suc k) d (omega (arith, less))) (λ k d less. within (suc k) d (omega (arith, less))) each.1 (λ k d less. refuted (suc k) d (omega (arith, less))))

  pub never-apart : All (IsPairOf net) pairs → ArePairsIn net scope pairs → AreNeverApartIn net care cube pairs
  never-apart are within = λ v counts in_cube.
      let has : ReadsFix net scope.gates asked.cone.formula asked.cone.rails.items v = told.cone.complete v counts.width in
      list_any_none (is_apart_at net v) pairs (none-apart v counts in_cube has pairs asked.pairs.items are within (told.says_each has.model has.holds) none)

-- where nothing is fixed these are all care vectors
pub nothing_fixed : (net : Parts) (care : CareSet) (pairs : List Pair) → AreNeverApartIn net care [] pairs → AreNeverApart net care pairs
nothing_fixed net care pairs never = λ v counts. never v counts (All-nil (HasFixed v))

-- ---- what is asked

-- none of these is possible
pub any-refuted : (p : Problem) (last care : List ℕ) (possible : Bool) → IsAnyPossible p last care (Some possible) → not possible ≡ true → All (λ l. HasNoModelUnder p (care ++ l ∷ [])) last
any-refuted p last care false is h = is
any-refuted p last care true is h = absurd (true≢false (sym h))

-- each has a mark
pub all-refuted : (p : Problem) (last care : List ℕ) (never : List Bool) → AreNever p last care never → All (λ mark. mark ≡ true) never → All (λ l. HasNoModelUnder p (care ++ l ∷ [])) last
all-refuted p last care never told marked = λ k d less.
    subst (λ l. HasNoModelUnder p (care ++ l ∷ [])) (get_or_default last k 0 d less) (told.impossible k less (marked k false (let width = told.width in omega (arith, less, width))))
