-- Names that are gathered once each, and the tables of models and formals.
use Rattle.std.proofs.Common.{◌≡◌, ℕ, zero, suc, ◌+◌, ◌<◌, ◌≢◌, nat_lt, Bool, true, false, ◌||◌, List, [], ◌∷◌, ◌++◌, length, get_or, take, map, fold, refl, sym, ap, ◌∙◌, arith, if◌then◌else◌, append_assoc, Some, None}
use Rattle.flatten.proofs.Common.{list_any-append, append-nil, length-map, IsDistinct, position, position_or_len, AllByRecursion, bytes_eq, insert_key, BlifModel, is_among, formals, find_model, no_model, model_at, each_once, twice_after, bytes_eq-true, or-false, cases_Bool}
use Rattle.std.proofs.lemmas.List.Sums.{fold-append}
use Rattle.std.proofs.lemmas.List.{map-append, get_or-map}
use Rattle.std.proofs.lemmas.Map.Keys.{IsDistinct-head, IsDistinct-tail}
use Rattle.std.proofs.lemmas.Map.Made.{IsDistinct-from_AllPairs}
use Rattle.std.proofs.lemmas.Slice.Eq.{bytes_eq-Decides}
use Rattle.std.specs.List.{AllPairs}
use Rattle.cyc_base.proofs.TruthLemmas.{or_assoc}
use Rattle.blif_read.specs.Find.{has_name}
use Rattle.flatten.proofs.Names.{bytes_sym, taken}

pub fold_taken : (old names : List (List ℕ)) (i : ℕ) (name : List ℕ) → i < length names → name ≡ get_or names i name → fold (insert_key bytes_eq) old (take (i + 1) names) ≡ insert_key bytes_eq (fold (insert_key bytes_eq) old (take i names)) name
fold_taken old names i name l e = grind (arith, taken names i name l e, fold-append (insert_key bytes_eq) old (take i names) (name ∷ []))

pub among_push : (names : List (List ℕ)) (x n : List ℕ) → is_among (names ++ x ∷ []) n ≡ (is_among names n || bytes_eq n x)
among_push names x n = list_any-append (bytes_eq n) names (x ∷ []) ∙ ap (λ b. is_among names n || b) (or-false (bytes_eq n x))

or_there : (b a : Bool) → (b ≡ true → a ≡ true) → a ≡ (a || b)
or_there b a h = grind arith

pub among_inserted : (names : List (List ℕ)) (x n : List ℕ) → is_among (insert_key bytes_eq names x) n ≡ (is_among names n || bytes_eq n x)
among_inserted names x n = grind (arith, cases_Bool (is_among names x), or_there (bytes_eq n x) (is_among names n), bytes_eq-true n x, among_push names x n)

-- what is gathered is what there was and what came
pub among_gathered : (old names : List (List ℕ)) (n : List ℕ) → is_among (fold (insert_key bytes_eq) old names) n ≡ (is_among old n || is_among names n)
among_gathered old [] n = sym (or-false (is_among old n))
among_gathered old (x ∷ names) n = grind (arith, among_gathered (insert_key bytes_eq old x) names n, among_inserted old x n, or_assoc (is_among old n) (bytes_eq n x) (is_among names n))

pub among_once : (names : List (List ℕ)) (n : List ℕ) → is_among (each_once names) n ≡ is_among names n
among_once names n = among_gathered [] names n

-- names that are new and differ are all gathered
pub fresh_gathered : (old names : List (List ℕ)) → twice_after old names ≡ None → fold (insert_key bytes_eq) old names ≡ old ++ names
fresh_gathered old [] h = sym (append-nil old)
fresh_gathered old (x ∷ names) h = grind (arith, cases_Bool (is_among old x), fresh_gathered (old ++ x ∷ []) names, append_assoc old (x ∷ []) names)

pub distinct_fresh : (old names : List (List ℕ)) → AllByRecursion (λ y. is_among old y ≡ false) names → IsDistinct bytes_eq names → twice_after old names ≡ None
distinct_fresh old [] new apart = refl
distinct_fresh old (x ∷ names) new apart =
    ap (λ b. if b then Some x else twice_after (old ++ x ∷ []) names) new.0
    ∙ distinct_fresh (old ++ x ∷ []) names (still names new.1 (IsDistinct-head bytes_eq x names apart)) (IsDistinct-tail bytes_eq x names apart)
  where
    still : (ys : List (List ℕ)) → AllByRecursion (λ y. is_among old y ≡ false) ys → AllByRecursion (λ y. bytes_eq x y ≡ false) ys → AllByRecursion (λ y. is_among (old ++ x ∷ []) y ≡ false) ys
    still [] a b = tt
    still (y ∷ ys) a b = (among_push old x y ∙ ap (λ c. c || bytes_eq y x) a.0 ∙ bytes_sym y x ∙ b.0, still ys a.1 b.1)

pub none_old : (names : List (List ℕ)) → AllByRecursion (λ y. is_among [] y ≡ false) names
none_old [] = tt
none_old (x ∷ names) = (refl, none_old names)

pub distinct_once : (names : List (List ℕ)) → IsDistinct bytes_eq names → each_once names ≡ names
distinct_once names apart = fresh_gathered [] names (distinct_fresh [] names (none_old names) apart)

-- a model is found by the table of names
pub place_of : (models : List BlifModel) (name : List ℕ) → position (bytes_eq name) (map (λ model. model.name) models) ≡ find_model models name
place_of models name =
    ap (λ n. if nat_lt n (length (map (λ (m : BlifModel). m.name) models)) then Some n else None) (same_place models)
    ∙ ap (λ n. if nat_lt (position_or_len (has_name name) models) n then Some (position_or_len (has_name name) models) else None) (length-map models (λ (m : BlifModel). m.name))
  where
    same_place : (ms : List BlifModel) → position_or_len (bytes_eq name) (map (λ m. m.name) ms) ≡ position_or_len (has_name name) ms
    same_place [] = refl
    same_place (m ∷ ms) = rw (bytes_sym name m.name, same_place ms) refl

-- the item of a table that is in step with the models
pub formals_at : {S : Type 0} (keys : S → List (List ℕ)) (sets : List S) (models : List BlifModel) (i : ℕ) (set : S) → map keys sets ≡ map (λ model. each_once (formals model)) models → i < length models → set ≡ get_or sets i set → keys set ≡ each_once (formals (model_at models i))
formals_at keys sets [] i set e l h = absurd (omega arith)
formals_at keys [] (m ∷ models) i set e l h = absurd (cc)
formals_at keys (s ∷ sets) (m ∷ models) zero set e l h = ap keys h ∙ (let k : keys s ≡ each_once (formals m) = cc in k)
formals_at keys (s ∷ sets) (m ∷ models) (suc i) set e l h = grind (arith, formals_at keys sets models i set)

-- one more model
pub names_taken : (models : List BlifModel) (i : ℕ) (x : BlifModel) → i < length models → x ≡ get_or models i x → fold (insert_key bytes_eq) [] (map (λ model. model.name) (take (i + 1) models)) ≡ insert_key bytes_eq (fold (insert_key bytes_eq) [] (map (λ model. model.name) (take i models))) x.name
names_taken models i x l e = grind (arith, taken models i x l e, map-append, fold-append (insert_key bytes_eq) [])

-- models whose names differ
pub names_apart : (models : List BlifModel) → AllPairs (λ (a b : BlifModel). a.name ≢ b.name) models → IsDistinct bytes_eq (map (λ model. model.name) models)
names_apart models h =
    IsDistinct-from_AllPairs bytes_eq-Decides (map (λ model. model.name) models) (λ i j d lt l e.
    let n = length-map models (λ (m : BlifModel). m.name) in
    let li : i < length models = omega arith in
    let lj : j < length models = omega arith in
    h i j no_model lt lj (sym (get_or-map (λ (m : BlifModel). m.name) models i no_model d li) ∙ e ∙ get_or-map (λ (m : BlifModel). m.name) models j no_model d lj))
