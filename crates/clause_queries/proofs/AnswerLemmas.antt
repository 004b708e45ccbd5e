-- What the solver's answers say of a formula's models.
use Rattle.std.proofs.Common.{◌≡◌, ℕ, ◌*◌, ◌/◌, ◌%◌, ◌<◌, ◌+◌, suc, ◌==◌, Bool, true, false, not, ◌&&◌, ◌||◌, List, [], ◌∷◌, length, map, get_or, if◌then◌else◌, refl, sym, ap, ap₂, subst, ◌∙◌, arith}
use Rattle.std.specs.List.{list_all, list_any, All, range_with_len}
use Rattle.std.proofs.lemmas.Bool.{eqb-true}
use Rattle.std.proofs.lemmas.List.{get_or-map, length-map}
use Rattle.std.proofs.lemmas.List.Folds.{list_any-from_Any, Any-from_list_any}
use Rattle.std.proofs.lemmas.List.Sums.{AllPass-from_list_all}
use Rattle.std.proofs.lemmas.List.FromFn.{get_or-map-range_with_len, length-map-range_with_len}
use Rattle.std.proofs.lemmas.List.Elements.{All-map, All-contains}
use Rattle.clause_formulas.specs.Formulas.{says}
use Rattle.sat.specs.declared.lit.Lit.{Lit}
use Rattle.sat.specs.Cnf.{holds, literal, assignment, IsSatisfied, Meets, Models}
use Rattle.clause_queries.specs.Clauses.{IsWithin}
use Rattle.clause_queries.specs.declared.names.Names.{Names}
use Rattle.clause_queries.specs.Loaded.{loaded, AreOf, IsLoaded}
use Rattle.clause_queries.specs.Names.{has, name_of, number_of, own, named, value_by, AreNames, AreMoreNames, AreNumbered, HasNumber}
use Rattle.clause_queries.proofs.NameLemmas.{has-name, have-numbers}
use Rattle.clause_queries.specs.Queries.{Problem, is_model, IsModelUnder, HasNoModelUnder}

-- the values of the formula's variables in a model of the solver's
abbrev pub values : Names → List Bool → ℕ → List Bool
values n model variables = map (value_by n model) (range_with_len 0 variables)

-- a literal has its value under any assignment to the variables that the solver's are named after
abbrev renamed : Names → List Bool → ℕ → Bool
renamed n m number = get_or m (name_of n number) false

says-named : (n : Names) (m : List Bool) (l : Lit) → says m (named n l) ≡ holds (renamed n m) l
says-named n m l = says-code m (name_of n (l.code / 2)) l.code
  where
    says-code : (m : List Bool) (v c : ℕ) → says m (2 * v + c % 2) ≡ (if (c % 2) == 0 then get_or m v false else not (get_or m v false))
    says-code m v c = grind arith

holds-own : (a : ℕ → Bool) (number l : ℕ) → holds a (literal number ((l % 2) == 1)) ≡ (if (l % 2) == 0 then a number else not (a number))
holds-own a number l = grind arith

says-own : (n : Names) (m : List Bool) (l : ℕ) → has n (l / 2) ≡ true → holds (renamed n m) (own n l) ≡ says m l
says-own n m l is =
    let name : name_of n (number_of n (l / 2)) ≡ l / 2 = eqb-true (name_of n (number_of n (l / 2))) (l / 2) is in
    holds-own (renamed n m) (number_of n (l / 2)) l ∙ ap (λ v. if (l % 2) == 0 then get_or m v false else not (get_or m v false)) name

module _ (n : Names) (are : AreNames n) (variables : ℕ) (width : length n.numbers.items ≡ variables) (model : List Bool) where
  -- the value of a variable that has a number
  value-there : (v : ℕ) → v < variables → has n v ≡ true → get_or (values n model variables) v false ≡ assignment model (number_of n v)
  value-there v less is =
      get_or-map-range_with_len (value_by n model) 0 variables v v false less (omega arith)
      ∙ ap (λ b. if b then assignment model (number_of n v) else false) is

  -- so the solver's literals have their values
  named-value : (l : Lit) → l.code < 2 * length n.names.items → says (values n model variables) (named n l) ≡ holds (assignment model) l
  named-value l less =
      let low : l.code / 2 < length n.names.items = omega (arith, less) in
      let fits = are.within (l.code / 2) low in
      let value : renamed n (values n model variables) (l.code / 2) ≡ assignment model (l.code / 2) =
      value-there (name_of n (l.code / 2)) (omega (arith, fits, width)) (has-name n are (l.code / 2) low) ∙ ap (assignment model) (are.numbered (l.code / 2) low) in
      says-named n (values n model variables) l ∙ ap (λ b. if (l.code % 2) == 0 then b else not b) value

  own-value : (l : ℕ) → HasNumber n l → says (values n model variables) l ≡ holds (assignment model) (own n l)
  own-value l is =
      let low = is.within in
      ap (λ b. if (l % 2) == 0 then b else not b) (value-there (l / 2) (omega (arith, low, width)) is.has_it) ∙ sym (holds-own (assignment model) (number_of n (l / 2)) l)

  -- a clause that is satisfied
  any-satisfied : (clause : List Lit) → All (λ l. l.code < 2 * length n.names.items) clause → IsSatisfied (assignment model) clause →
      list_any (says (values n model variables)) (map (named n) clause) ≡ true
  any-satisfied clause within is =
      grind (arith, list_any-from_Any (λ l. says (values n model variables) (named n l)) clause, list_any-named clause, named-value is.lit, All-contains)
    where
      list_any-named : (clause : List Lit) → list_any (says (values n model variables)) (map (named n) clause) ≡ list_any (λ l. says (values n model variables) (named n l)) clause
      list_any-named [] = refl
      list_any-named (l ∷ clause) = ap (λ b. says (values n model variables) (named n l) || b) (list_any-named clause)

  models-loaded : (formula : List (List Lit)) → AreOf (length n.names.items) formula → Models (assignment model) formula → is_model (loaded variables n formula) (values n model variables) ≡ true
  models-loaded [] within models = refl
  models-loaded (clause ∷ formula) within models =
      and-both (any-satisfied clause (within 0 clause (omega arith)) (models 0 clause (omega arith)))
      (models-loaded formula (λ k d less. within (suc k) d (omega (arith, less))) (λ k d less. models (suc k) d (omega (arith, less))))
    where
      and-both : {a b : Bool} → a ≡ true → b ≡ true → (a && b) ≡ true
      and-both first second = ap₂ (λ x y. x && y) first second

  -- a model of the solver's gives the formula one
  pub model-answer : (formula : List (List Lit)) (assumptions : List ℕ) →
      AreOf (length n.names.items) formula → All (HasNumber n) assumptions → Meets (assignment model) formula (map (own n) assumptions) →
      IsModelUnder (loaded variables n formula) assumptions (values n model variables)
  model-answer formula assumptions within assumed meets = record {
    model = models-loaded formula within meets.models;
    assumed = λ k d less. own-value (get_or assumptions k d) (assumed k d less) ∙ assumed_true k d less;
  }
    where
      assumed_true : (k : ℕ) (d : ℕ) → k < length assumptions → holds (assignment model) (own n (get_or assumptions k d)) ≡ true
      assumed_true k d less =
          ap (holds (assignment model)) (sym (get_or-map (own n) assumptions k d (own n d) less))
          ∙ meets.assumed k (own n d) (let wide = length-map assumptions (own n) in omega (arith, less, wide))

-- ---- where the solver has no model, the formula has none

satisfied-any : (a : ℕ → Bool) (clause : List Lit) → list_any (holds a) clause ≡ true → IsSatisfied a clause
satisfied-any a clause is = grind (arith, Any-from_list_any (holds a) clause is)

any-named : (n : Names) (m : List Bool) (clause : List Lit) → list_any (says m) (map (named n) clause) ≡ list_any (holds (renamed n m)) clause
any-named n m [] = refl
any-named n m (l ∷ clause) = ap₂ (λ a b. a || b) (says-named n m l) (any-named n m clause)

loaded-models : (variables : ℕ) (n : Names) (m : List Bool) (formula : List (List Lit)) → is_model (loaded variables n formula) m ≡ list_all (list_any (holds (renamed n m))) formula
loaded-models variables n m [] = refl
loaded-models variables n m (clause ∷ formula) = ap₂ (λ a b. a && b) (any-named n m clause) (loaded-models variables n m formula)

pub no_model-answer : (variables : ℕ) (n : Names) (formula : List (List Lit)) (assumptions : List ℕ) → All (HasNumber n) assumptions →
    ((a : ℕ → Bool) → ¬ Meets a formula (map (own n) assumptions)) → HasNoModelUnder (loaded variables n formula) assumptions
no_model-answer variables n formula assumptions numbered none m under =
    none (renamed n m) (record {
      models = λ k d less.
          satisfied-any (renamed n m) (get_or formula k d)
          (AllPass-from_list_all (list_any (holds (renamed n m))) formula (sym (loaded-models variables n m formula) ∙ under.model) k d less);
      assumed = All-map (λ l. holds (renamed n m) l ≡ true) (own n) assumptions
          (λ k d less. says-own n m (get_or assumptions k d) (numbered k d less).has_it ∙ under.assumed k d less);
    })

-- ---- with more names the solver's clauses stand for the same

named-more : (old new : Names) → AreMoreNames old new → (l : Lit) → l.code < 2 * length old.names.items → named new l ≡ named old l
named-more old new more l less = ap (λ v. 2 * v + l.code % 2) (more.same (l.code / 2) (omega (arith, less)))

map-same : {A B : Type 0} (f g : A → B) (xs : List A) → All (λ x. f x ≡ g x) xs → map f xs ≡ map g xs
map-same f g [] same = refl
map-same f g (x ∷ xs) same = ap₂ (λ y ys. y ∷ ys) (same 0 x (omega arith)) (map-same f g xs (λ k d less. same (suc k) d (omega (arith, less))))

pub loaded-more : (variables : ℕ) (old new : Names) (formula : List (List Lit)) → AreMoreNames old new → AreOf (length old.names.items) formula →
    loaded variables new formula ≡ loaded variables old formula
loaded-more variables old new formula more within =
    ap (λ cs. record { variables = variables; clauses = cs })
    (map-same (map (named new)) (map (named old)) formula
    (λ k d less. map-same (named new) (named old) (get_or formula k d) (λ j e low. named-more old new more (get_or (get_or formula k d) j e) (within k d less j e low))))

pub is-loaded-more : (variables : ℕ) (old new : Names) (formula : List (List Lit)) → AreMoreNames old new → IsLoaded variables old formula → IsLoaded variables new formula
is-loaded-more variables old new formula more is = record {
  names_are = more.are;
  width = more.width ∙ is.width;
  within = λ k d less j e low. let code = is.within k d less j e low in let wide = more.more in omega (arith, code, wide);
}

-- ---- what is asked of the solver is what is asked of the query

pub model-reply : (p : Problem) (variables : ℕ) (old new : Names) (formula held : List (List Lit)) (model m : List Bool) (assumptions : List ℕ) (lits : List Lit) →
    loaded variables old formula ≡ p → IsLoaded variables old formula → AreMoreNames old new → AreNumbered new assumptions → IsWithin p.variables assumptions → held ≡ formula → lits ≡ map (own new) assumptions →
    m ≡ values new model variables → Meets (assignment model) held lits → IsModelUnder p assumptions m × (length m ≡ p.variables)
model-reply p variables old new formula held model m assumptions lits p_is is more numbered assumed held_is lits_is m_is meets =
    let now : IsLoaded variables new formula = is-loaded-more variables old new formula more is in
    let new_is : loaded variables new formula ≡ p = loaded-more variables old new formula more is.within ∙ p_is in
    let wide : variables ≡ p.variables = ap (λ q. q.variables) p_is in
    let have : All (HasNumber new) assumptions = have-numbers new p.variables assumptions (now.width ∙ wide) numbered assumed in
    let under : IsModelUnder (loaded variables new formula) assumptions (values new model variables) =
    model-answer new now.names_are variables now.width model formula assumptions now.within have
    (subst (λ ls. Meets (assignment model) formula ls) lits_is (subst (λ f. Meets (assignment model) f lits) held_is meets)) in (
      subst (λ q. IsModelUnder q assumptions m) new_is (subst (IsModelUnder (loaded variables new formula) assumptions) (sym m_is) under),
      ap length m_is ∙ length-map-range_with_len (value_by new model) 0 variables ∙ wide,
    )

pub none-reply : (p : Problem) (variables : ℕ) (old new : Names) (formula held : List (List Lit)) (assumptions : List ℕ) (lits : List Lit) →
    loaded variables old formula ≡ p → IsLoaded variables old formula → AreMoreNames old new → AreNumbered new assumptions → IsWithin p.variables assumptions → held ≡ formula → lits ≡ map (own new) assumptions →
    ((a : ℕ → Bool) → ¬ Meets a held lits) → HasNoModelUnder p assumptions
none-reply p variables old new formula held assumptions lits p_is is more numbered assumed held_is lits_is none =
    let now : IsLoaded variables new formula = is-loaded-more variables old new formula more is in
    let new_is : loaded variables new formula ≡ p = loaded-more variables old new formula more is.within ∙ p_is in
    let wide : variables ≡ p.variables = ap (λ q. q.variables) p_is in
    let have : All (HasNumber new) assumptions = have-numbers new p.variables assumptions (now.width ∙ wide) numbered assumed in
    subst (λ q. HasNoModelUnder q assumptions) new_is
    (no_model-answer variables new formula assumptions have (λ a meets. none a (subst (λ ls. Meets a held ls) (sym lits_is) (subst (λ f. Meets a f (map (own new) assumptions)) (sym held_is) meets))))
