-- The longest run of `~` in the names of a file is found piece by piece.
use Rattle.std.proofs.Common.{◌≡◌, ℕ, ◌+◌, ◌<◌, max, List, [], ◌∷◌, ◌++◌, length, get_or, take, ap, ◌∙◌, arith}
use Rattle.std.proofs.lemmas.Grind.{flat_map-append}
use Rattle.flatten.proofs.Common.{append-nil, flat_map, BlifModel, Item, longest_run_of, item_names, pair_names}
use Rattle.cyc_base.specs.Tildes.{longest_run}
use Rattle.cyc_base.proofs.TildeLemmas.{longest-append}
use Rattle.flatten.specs.Wires.{model_names}
use Rattle.flatten.proofs.Names.{taken}

more : {A : Type 0} (f : A → List (List ℕ)) (xs : List A) (x : A) → longest_run_of (flat_map f (xs ++ x ∷ [])) ≡ max (longest_run_of (flat_map f xs)) (longest_run_of (f x))
more f xs x = grind (arith, flat_map-append f xs (x ∷ []), longest-append (flat_map f xs) (f x ++ []), append-nil (f x))

-- with one more pair, item or model
pub longest_pairs : (pairs : List (List ℕ × List ℕ)) (i : ℕ) (p : List ℕ × List ℕ) → i < length pairs → p ≡ get_or pairs i p → longest_run_of (pair_names (take (i + 1) pairs)) ≡ max (longest_run_of (pair_names (take i pairs))) (max (longest_run p.0) (longest_run p.1))
longest_pairs pairs i p l e = grind (arith, taken pairs i p l e, more)

pub longest_items : (body : List Item) (i : ℕ) (x : Item) → i < length body → x ≡ get_or body i x → longest_run_of (flat_map item_names (take (i + 1) body)) ≡ max (longest_run_of (flat_map item_names (take i body))) (longest_run_of (item_names x))
longest_items body i x l e = ap (λ xs. longest_run_of (flat_map item_names xs)) (taken body i x l e) ∙ more item_names (take i body) x

pub longest_models : (models : List BlifModel) (i : ℕ) (x : BlifModel) → i < length models → x ≡ get_or models i x → longest_run_of (flat_map model_names (take (i + 1) models)) ≡ max (longest_run_of (flat_map model_names (take i models))) (longest_run_of (model_names x))
longest_models models i x l e = ap (λ xs. longest_run_of (flat_map model_names xs)) (taken models i x l e) ∙ more model_names (take i models) x

pub longest_model : (a b c d : List (List ℕ)) → longest_run_of (a ++ (b ++ (c ++ d))) ≡ max (max (max (longest_run_of a) (longest_run_of b)) (longest_run_of c)) (longest_run_of d)
longest_model a b c d = grind (arith, longest-append a (b ++ (c ++ d)), longest-append b (c ++ d), longest-append c d)
