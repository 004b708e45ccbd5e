-- Formulas over columns, and literals that tell tests of their vectors.
use Rattle.std.proofs.Common.{◌≡◌, ℕ, zero, suc, ◌*◌, ◌<◌, Bool, true, List, [], ◌∷◌, ◌++◌, length, map, drop, refl, sym, ap, ap₂, ◌∙◌, subst, arith}
use Rattle.clause_decision.proofs.Common.{list_all, length-map, All-cons, All-nil, All-map, Trit, bits, Parts, CareSet, columns, state_of, is_allowed, is_in_invariant, is_care_vector, Formula, Rails, SaysColumns, says, IsModel, HasModelFrom, Grows, Reads, ReadsAll, AreWithin, All-within-more, ReadsAll-more, IsWithin, problem, Asks, models-same, SaysTest, IsOver, bit, is_one, Question, IsQuestionOf}
use Rattle.std.proofs.lemmas.List.{drop-map}
use Rattle.std.proofs.lemmas.List.Sums.{AllPass-from_list_all, list_all-from_AllPass}
use Rattle.std.specs.List.{All}
use Rattle.std.specs.Prelude.{Contains}
use Rattle.cyc_base.proofs.ListLemmas.{Contains-here, Contains-there}
use Rattle.cyc_base.proofs.TruthLemmas.{and_with_true}
use Rattle.refusals.proofs.RefusalLemmas.{one_of_bit}
use Rattle.clause_formulas.specs.Formulas.{holds}
use Rattle.clause_decision.specs.Formulas.{IsCareFormula}

-- ---- readings of lists

ReadsAll-drop : (m : List Bool) (n : ℕ) (rs : List Rails) (ts : List Trit) → ReadsAll m rs ts → ReadsAll m (drop n rs) (drop n ts)
ReadsAll-drop m zero rs ts h = h
ReadsAll-drop m (suc n) [] [] h = tt
ReadsAll-drop m (suc n) [] (t ∷ ts) h = absurd h
ReadsAll-drop m (suc n) (r ∷ rs) [] h = absurd h
ReadsAll-drop m (suc n) (r ∷ rs) (t ∷ ts) h = ReadsAll-drop m n rs ts h.1

pub state-read : (m : List Bool) (n : ℕ) (rs : List Rails) (v : List Bool) → ReadsAll m rs (bits v) → ReadsAll m (drop n rs) (bits (drop n v))
state-read m n rs v h = subst (ReadsAll m (drop n rs)) (drop-map bit n v) (ReadsAll-drop m n rs (bits v) h)

-- rails that are read one by one
pub reads-map : {A : Type 0} (m : List Bool) (f : A → Rails) (g : A → Bool) (xs : List A) → ((x : A) → Contains xs x → Reads m (f x) (bit (g x))) → ReadsAll m (map f xs) (bits (map g xs))
reads-map m f g [] h = tt
reads-map m f g (x ∷ xs) h = (h x (Contains-here x xs), reads-map m f g xs (λ y there. h y (Contains-there x xs y there)))

-- the literals of the columns read the vector
pub ones-read : (m : List Bool) (rs : List Rails) (v : List Bool) → ReadsAll m rs (bits v) → map (says m) (map (λ r. r.one) rs) ≡ v
ones-read m [] [] h = refl
ones-read m [] (b ∷ v) h = absurd h
ones-read m (r ∷ rs) [] h = absurd h
ones-read m (r ∷ rs) (b ∷ v) h = ap₂ (λ (x : Bool) (xs : List Bool). x ∷ xs) (h.0.one ∙ one_of_bit b) (ones-read m rs v h.1)

-- ---- formulas over columns

-- the first formula has a model
first-model : (f : Formula) → f.literals.items ≡ 1 ∷ 0 ∷ [] → IsModel (true ∷ []) f
first-model f is = ap (holds (true ∷ [])) is

pub over-columns : (old new : Formula) (rails : List Rails) (width : ℕ) → old.variables ≡ 1 → old.literals.items ≡ 1 ∷ 0 ∷ [] → SaysColumns old new rails width → IsOver new rails width
over-columns old new rails width one is says_it = record {
  formula = says_it.grows.formula;
  within = says_it.within;
  size = says_it.size;
  sound = says_it.sound;
  complete = λ v wide.
      let has = says_it.complete (true ∷ []) v (sym one) (first-model old is) wide in
      record { model = (true ∷ []) ++ has.more; long = has.width; holds = has.model; reads = has.reads };
}

-- what says nothing new of the columns keeps them
pub over-grows : (old new : Formula) (rails : List Rails) (width : ℕ) → IsOver old rails width → Grows old new →
    ((m v : List Bool) → length m ≡ old.variables → IsModel m old → ReadsAll m rails (bits v) → HasModelFrom new m) → IsOver new rails width
over-grows old new rails width over grows complete = record {
  formula = grows.formula;
  within = All-within-more old.variables new.variables rails grows.more over.within;
  size = over.size;
  sound = λ m is. over.sound m (grows.sound m is);
  complete = λ v wide.
      let has = over.complete v wide in
      let more = complete has.model v has.long has.holds has.reads in
      record {
        model = has.model ++ more.more;
        long = more.width;
        holds = more.model;
        reads = ReadsAll-more has.model more.more rails (bits v) (subst (λ (n : ℕ). All (AreWithin n) rails) (sym has.long) over.within) has.reads;
      };
}

-- ---- literals of tests

-- the care set's literals
pub care-formula : (net : Parts) (care : CareSet) (old mid new : Formula) (rails : List Rails) (inside allowed : ℕ) → IsOver old rails (columns net) →
    SaysTest old mid (drop (length net.inputs) rails) (is_in_invariant care) inside → SaysTest mid new rails (is_allowed care) allowed → IsCareFormula net care new rails inside allowed
care-formula net care old mid new rails inside allowed over first second = record {
  over = over-grows mid new rails (columns net) middle second.grows (λ m v long is reads. second.complete m v long is reads);
  inside_within = let w = first.within in let g = second.grows.more in omega (arith, w, g);
  inside_tells = λ m v is reads. first.says_it m (state_of net v) (second.grows.sound m is) (state-read m (length net.inputs) rails v reads);
  allowed_within = second.within;
  allowed_tells = λ m v is reads. second.says_it m v is reads;
}
  where
    middle : IsOver mid rails (columns net)
    middle = over-grows old mid rails (columns net) over first.grows (λ m v long is reads. first.complete m (state_of net v) long is (state-read m (length net.inputs) rails v reads))

-- ---- what is asked for

-- where the literals of a test are all true just at the vectors that pass it, they ask for them
pub asks-over : (f : Formula) (rails : List Rails) (width : ℕ) (assumed : List ℕ) (test : List Bool → Bool) → IsOver f rails width → ((m v : List Bool) → IsModel m f → ReadsAll m rails (bits v) → list_all (says m) assumed ≡ test v) →
    Asks (problem f) (map (λ r. r.one) rails) assumed test
asks-over f rails width assumed test over tells = record {
  sound = λ m under.
      let model : IsModel m f = sym (models-same f m) ∙ under.model in
      let reads = over.sound m model in
      let v : List Bool = map (λ r. says m r.one) rails in
      ap test (ones-read m rails v reads) ∙ sym (tells m v model reads) ∙ list_all-from_AllPass (says m) assumed under.assumed;
  complete = λ v wide passes.
      let has = over.complete v (wide ∙ length-map rails (λ (r : Rails). r.one) ∙ over.size) in
      record {
        model = has.model;
        under = record { model = models-same f has.model ∙ has.holds; assumed = AllPass-from_list_all (says has.model) assumed (tells has.model v has.holds has.reads ∙ passes) };
        reads = ones-read has.model rails v has.reads;
      };
}

-- the care set's
pub care-asks : (net : Parts) (care : CareSet) (f : Formula) (rails : List Rails) (inside allowed : ℕ) → IsCareFormula net care f rails inside allowed → Asks (problem f) (map (λ r. r.one) rails) (inside ∷ allowed ∷ []) (is_care_vector net care)
care-asks net care f rails inside allowed is = grind (arith, asks-over f rails (columns net) (inside ∷ allowed ∷ []) (is_care_vector net care) is.over, and_with_true)

-- the literals are of the formula
pub ones-within : (f : Formula) (rails : List Rails) → All (AreWithin f.variables) rails → All (λ l. l < 2 * f.variables) (map (λ r. r.one) rails)
ones-within f rails all = All-map (λ l. l < 2 * f.variables) (λ (r : Rails). r.one) rails (λ k d less. (all k d less).one)

pub two-within : (n a b : ℕ) → a < n → b < n → All (λ l. l < n) (a ∷ b ∷ [])
two-within n a b first second = All-cons (λ l. l < n) a (b ∷ []) first (All-cons (λ l. l < n) b [] second (All-nil (λ l. l < n)))

-- ---- questions

-- a question of these literals asks for what they ask for
pub question-of : {width : ℕ} {test : List Bool → Bool} {f : Formula} {columns_read assumed : List ℕ} (q : Question) → q.formula ≡ f → q.columns.items ≡ columns_read → q.assumed.items ≡ assumed →
    IsWithin f.variables columns_read → IsWithin f.variables assumed → length columns_read ≡ width → Asks (problem f) columns_read assumed test → IsQuestionOf width test q
question-of {test = test} {f = f} {columns_read = columns_read} q formula_is columns_is assumed_is columns_in assumed_in wide asks = grind arith
