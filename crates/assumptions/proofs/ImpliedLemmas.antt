-- Values of a row that the others imply.
use Rattle.std.proofs.Common.{◌≡◌, ◌≢◌, ◌⊎◌, inl, inr, ℕ, zero, suc, ◌+◌, ◌<◌, ◌≤◌, Bool, true, false, not, List, [], ◌∷◌, ◌++◌, length, map, get_or, take, drop, Option, Some, None, refl, sym, ◌∙◌, subst, arith, true≢false}
use Rattle.std.specs.Prelude.{find, is_some}
use Rattle.std.specs.List.{All}
use Rattle.std.proofs.lemmas.List.{get_or_append_left, get_or-append-add, length-append, length-take-le, length-drop, set-get_or, set_split, take_all}
use Rattle.std.proofs.lemmas.List.Elements.{All-append, All-cons, All-drop, All-map, All-push, All-take, All-weaker}
use Rattle.cyc_base.specs.declared.trit.Trit.{Trit}
use Rattle.cyc_base.specs.declared.trit.Trit.TheVariants.{Zero, One, X}
use Rattle.cyc_base.specs.Values.{bit, bits}
use Rattle.cyc_base.specs.Vectors.{vectors}
use Rattle.netlist.specs.Netlists.{columns}
use Rattle.netlist.specs.declared.parts.Parts.{Parts}
use Rattle.netlist.specs.Fixpoint.{fix, wire}
use Rattle.care_sets.specs.Care.{CareSet, is_allowed, is_care_vector}
use Rattle.clause_queries.specs.Vectors.{TellsWhetherAny}
use Rattle.refusals.proofs.FirstLemmas.{none_passes}
use Rattle.refusals.specs.declared.observe.Observe.{Observe}
use Rattle.care_rows.specs.Rows.{IsIn, IsInNone, IsSteadySignal, AreSteadyRows}
use Rattle.care_rows.specs.declared.rows.Row.{Row}
use Rattle.care_rows.specs.declared.rows.WireValue.{WireValue}
use Rattle.assumptions.specs.Making.{Excludes, IsNextRow}
use Rattle.assumptions.specs.Implied.{HasTriedWithout, HaveValues, Implies, IsThinned, excluded_row, other_value, refuted_rows}

-- ---- one value is left out

pub thinned_none : (net : Parts) (values : List WireValue) → IsThinned net values values
thinned_none net values = record { steady = λ s. s; fewer = λ v h. h; same = λ v width h. h }

pub thinned_then : (net : Parts) (a b c : List WireValue) → IsThinned net a b → IsThinned net b c → IsThinned net a c
thinned_then net a b c first then' = record {
  steady = λ s. then'.steady (first.steady s);
  fewer = λ v h. then'.fewer v (first.fewer v h);
  same = λ v width h. first.same v width (then'.same v width h);
}

abbrev others_of : List WireValue → ℕ → List WireValue
others_of values place = take place values ++ drop (place + 1) values

part : (P : WireValue → Type 0) (xs ys : List WireValue) → All P (xs ++ ys) → All P xs × All P ys
part P xs ys h =
    let long = length-append xs ys in (
      λ k d l. subst P (get_or_append_left xs ys d k l) (h k d (omega arith)),
      λ k d l. subst P (get_or-append-add xs ys k d) (h (length xs + k) d (omega arith)),
    )

joined : (P : WireValue → Type 0) (values : List WireValue) (place : ℕ) (d : WireValue) → place < length values → All P (others_of values place) → P (get_or values place d) → All P values
joined P values place d inside others this =
    let parts = part P (take place values) (drop (place + 1) values) others in
    let next : suc place ≡ place + 1 = omega arith in
    let split : values ≡ take place values ++ get_or values place d ∷ drop (suc place) values = sym (set-get_or values place d) ∙ set_split values place (get_or values place d) inside in
    subst (All P) (sym split)
    (All-append P (take place values) (get_or values place d ∷ drop (suc place) values) parts.0
    (All-cons P (get_or values place d) (drop (suc place) values) this (subst (λ (n : ℕ). All P (drop n values)) (sym next) parts.1)))

kept : (P : WireValue → Type 0) (values : List WireValue) (place : ℕ) → All P values → All P (others_of values place)
kept P values place h = All-append P (take place values) (drop (place + 1) values) (All-take P place values h) (All-drop P (place + 1) values h)

pub thinned_without : (net : Parts) (values : List WireValue) (place : ℕ) (d : WireValue) → place < length values → Implies net (others_of values place) (get_or values place d) →
    IsThinned net values (others_of values place)
thinned_without net values place d inside implied = record {
  steady = λ s. kept (λ (e : WireValue). IsSteadySignal net e.wire) values place s;
  fewer = λ v h. kept (λ (e : WireValue). wire (fix net (bits v)) e.wire ≡ bit e.value) values place h;
  same = λ v width h. joined (λ (e : WireValue). wire (fix net (bits v)) e.wire ≡ bit e.value) values place d inside h (implied v width h);
}

pub length-others : (values : List WireValue) (place : ℕ) → place < length values → length (others_of values place) + 1 ≡ length values
length-others values place inside =
    let long = length-append (take place values) (drop (place + 1) values) in
    let first = length-take-le place values (omega arith) in
    let rest = length-drop (place + 1) values in
    omega arith

pub others_steady : (net : Parts) (values : List WireValue) (place : ℕ) → All (λ e. IsSteadySignal net e.wire) values → All (λ e. IsSteadySignal net e.wire) (others_of values place)
others_steady net values place s = kept (λ (e : WireValue). IsSteadySignal net e.wire) values place s

-- by what is told of the call that asks
pub left_out : (net : Parts) (values others seen : List WireValue) (place : ℕ) (value : WireValue) → place < length values → others ≡ others_of values place → seen ≡ others → value ≡ get_or values place value →
    Implies net seen value → IsThinned net values others × (length others + 1 ≡ length values)
left_out net values others seen place value inside made same is implied =
    subst (λ (os : List WireValue). IsThinned net values os × (length os + 1 ≡ length values)) (sym made) (
      thinned_without net values place value inside (subst (Implies net (others_of values place)) is (subst (λ (os : List WireValue). Implies net os value) (same ∙ made) implied)),
      length-others values place inside,
    )

pub each_next : (net : Parts) (old now new : List WireValue) (out : Bool) → IsThinned net old now × All (λ e. IsSteadySignal net e.wire) now → HasTriedWithout net now new out →
    IsThinned net old new × All (λ e. IsSteadySignal net e.wire) new
each_next net old now new true h tried = (thinned_then net old now new h.0 tried.0, tried.0.steady h.1)
each_next net old now new false h tried = subst (λ (vs : List WireValue). IsThinned net old vs × All (λ (e : WireValue). IsSteadySignal net e.wire) vs) (sym tried) h

-- ---- how it is found that they imply it

pub refuted_steady : (net : Parts) (others : List WireValue) (e : WireValue) → All (λ o. IsSteadySignal net o.wire) others → IsSteadySignal net e.wire → AreSteadyRows net (refuted_rows others e)
refuted_steady net others e s t =
    All-push (λ (row : Row). All (λ (o : WireValue). IsSteadySignal net o.wire) row.values) (map (λ other. excluded_row (other_value other)) others) (excluded_row e)
    (All-map (λ (row : Row). All (λ (o : WireValue). IsSteadySignal net o.wire) row.values) (λ other. excluded_row (other_value other)) others
    (All-weaker (λ (o : WireValue). IsSteadySignal net o.wire) (λ (o : WireValue). All (λ (u : WireValue). IsSteadySignal net u.wire) (other_value o ∷ [])) (λ o p. one (other_value o) p) others s))
    (one e t)
  where
    one : (o : WireValue) → IsSteadySignal net o.wire → All (λ (u : WireValue). IsSteadySignal net u.wire) (o ∷ [])
    one o p zero d l = p
    one o p (suc k) d l = absurd (omega arith)

is_or_isnt : (t : Trit) (b : Bool) → (t ≡ bit b) ⊎ (t ≢ bit b)
is_or_isnt Zero true = inr (λ e. cc)
is_or_isnt Zero false = inl refl
is_or_isnt One true = inl refl
is_or_isnt One false = inr (λ e. cc)
is_or_isnt X true = inr (λ e. cc)
is_or_isnt X false = inr (λ e. cc)

bits_differ : (b : Bool) → bit b ≢ bit (not b)
bits_differ true e = cc
bits_differ false e = cc

none_by : {T : Type 0} (o : Option T) → is_some o ≡ false → o ≡ None
none_by None e = refl
none_by (Some x) e = absurd (true≢false e)

module _ (net : Parts) (old care : CareSet) (others : List WireValue) (e : WireValue) (no_assume : old.assume ≡ None) (no_invariant : old.invariant ≡ None) (h : Excludes net old (refuted_rows others e) care)
    (v : List Bool) (width : length v ≡ columns net) (have : HaveValues net v others) (differs : wire (fix net (bits v)) e.wire ≢ bit e.value) where
  in_no_row : IsInNone net v (refuted_rows others e)
  in_no_row =
      All-push (λ (row : Row). ¬ IsIn net v row) (map (λ other. excluded_row (other_value other)) others) (excluded_row e)
      (All-map (λ (row : Row). ¬ IsIn net v row) (λ other. excluded_row (other_value other)) others
      (All-weaker (λ (o : WireValue). wire (fix net (bits v)) o.wire ≡ bit o.value) (λ (o : WireValue). ¬ IsIn net v (excluded_row (other_value o)))
      (λ o is inside. bits_differ o.value (sym is ∙ inside 0 o (omega arith))) others have))
      (λ inside. differs (inside 0 e (omega arith)))

  all_allowed : is_allowed old v ≡ true
  all_allowed = grind (arith, no_assume)

  counts : is_care_vector net care v ≡ true
  counts =
      let allowed = (h.lets v width).1 (all_allowed, in_no_row) in
      let nothing = h.invariant ∙ no_invariant in
      grind (arith, allowed, nothing)

pub implied_by : (net : Parts) (old care : CareSet) (others : List WireValue) (e : WireValue) → old.assume ≡ None → old.invariant ≡ None → Excludes net old (refuted_rows others e) care →
    TellsWhetherAny (is_care_vector net care) (columns net) (Some false) → Implies net others e
implied_by net old care others e no_assume no_invariant h told = λ v width have.
    elim (is_or_isnt (wire (fix net (bits v)) e.wire) e.value) [
      | inl is ↦ is
      | inr differs ↦
          absurd (true≢false
          (sym (counts net old care others e no_assume no_invariant h v width have differs)
          ∙ none_passes (columns net) (is_care_vector net care) v (none_by (find (is_care_vector net care) (vectors (columns net))) told) width))
    ]

-- ---- the row that is found is short

pub short_next : (net : Parts) (care : CareSet) (what : Observe) (rows : List Row) (row short : Row) → IsNextRow net care what rows row → IsThinned net row.values short.values → IsNextRow net care what rows short
short_next net care what rows row short next thinned = record {
  opens = record {
    steady = thinned.steady next.opens.steady;
    opens = λ v width inside. next.opens.opens v width (thinned.same v width inside);
  };
  new = record { vector = next.new.vector; counts = next.new.counts; inside = thinned.fewer next.new.vector next.new.inside; beyond = next.new.beyond };
}

-- what the loop over the others has made, and one row more, are all of them
pub all_refuted : (others : List WireValue) (e : WireValue) (n : ℕ) (rows made : List Row) (last : Row) → length others ≤ n → rows ≡ map (λ other. excluded_row (other_value other)) (take n others) → last ≡ excluded_row e →
    made ≡ rows ++ last ∷ [] → made ≡ refuted_rows others e
all_refuted others e n rows made last over is row pushed = grind (arith, take_all n others over)

-- by what is told of the calls that ask
pub found_implied : (net m : Parts) (old care : CareSet) (rows : List Row) (others : List WireValue) (e : WireValue) → old.assume ≡ None → old.invariant ≡ None → rows ≡ refuted_rows others e → m ≡ net →
    Excludes net old rows care → TellsWhetherAny (is_care_vector m care) (columns m) (Some false) → Implies net others e
found_implied net m old care rows others e no_assume no_invariant made same h told =
    implied_by net old care others e no_assume no_invariant (subst (λ (rs : List Row). Excludes net old rs care) made h)
    (subst (λ (n : Parts). TellsWhetherAny (is_care_vector n care) (columns n) (Some false)) same told)
