-- The texts of the items of a list, appended one after another.
use Rattle.std.proofs.Common.{◌≡◌, ℕ, ◌+◌, ◌<◌, ◌≤◌, List, [], ◌∷◌, ◌++◌, length, take, drop, get_or, append-nil, arith}
use Rattle.std.specs.Prelude.{Ok, Err, IsErr}
use Rattle.std.specs.List.{flat_map}
use Rattle.std.specs.declared.option.Option.{Option}
use Rattle.std.specs.declared.result.Result.{Result}
use Rattle.std.proofs.lemmas.List.{take_more, take-append-drop, drop_more, get_or_default, take_all}
use Rattle.std.proofs.lemmas.List.Concat.{flat_map-append}
use Rattle.cyc_io.specs.Taken.{SinkCall, IsAppended}
use Rattle.cyc_io.proofs.TakenLemmas.{over, appended_as, appended_then, appended_cut}

item_more : {X : Type 0} (f : X → List ℕ) (xs : List X) (i : ℕ) (x : X) → i < length xs → x ≡ get_or xs i x
    → flat_map f (take (i + 1) xs) ≡ flat_map f (take i xs) ++ f x
item_more f xs i x l is = grind (arith, take_more xs i x l, flat_map-append f (take i xs) (get_or xs i x ∷ []), append-nil (f x))

item_within : {X : Type 0} (f : X → List ℕ) (xs : List X) (i : ℕ) (x : X) → i < length xs → x ≡ get_or xs i x
    → flat_map f (take i xs) ++ (f x ++ flat_map f (drop (i + 1) xs)) ≡ flat_map f xs
item_within f xs i x l is = grind (arith, flat_map-append f (take i xs) (get_or xs i x ∷ drop (i + 1) xs), drop_more xs i x l, take-append-drop i xs)

-- all items
pub appended_items : {T E X : Type 0} (f : X → List ℕ) (xs : List X) (i : ℕ) (sink : SinkCall) (t : T) → length xs ≤ i
    → IsAppended {T = T} {E = E} (flat_map f (take i xs)) sink (Ok t) → IsAppended {T = T} {E = E} (flat_map f xs) sink (Ok t)
appended_items {T = T} {E = E} {X = X} f xs i sink t all upto = grind (arith, take_all i xs all)

module _ {T U E X : Type 0} (f : X → List ℕ) (xs : List X) (i : ℕ) where
  -- one more item
  pub appended_item : (x : X) (a b c : Option (List ℕ)) (m n o : ℕ) (t : T) (u : U) → i < length xs → x ≡ get_or xs i x
      → IsAppended {T = T} {E = E} (flat_map f (take i xs)) (over a b m n) (Ok t) → IsAppended {T = U} {E = E} (f x) (over b c n o) (Ok u)
      → IsAppended {T = T} {E = E} (flat_map f (take (i + 1) xs)) (over a c m o) (Ok t)
  appended_item x a b c m n o t u l is first second = grind (arith, over a c m o, item_more f xs i x l is, appended_as (over a c m o) u t (appended_then a b c m n o _ _ t (Ok u) first second), appended_then a b c m n o _ _ t (Ok u) first second)

  -- an item that is cut off
  pub appended_in_item : (x : X) (a b c : Option (List ℕ)) (m n o : ℕ) (t : T) (e : E) (r : Result T E) → i < length xs → x ≡ get_or xs i x
      → IsAppended {T = T} {E = E} (flat_map f (take i xs)) (over a b m n) (Ok t) → IsAppended {T = U} {E = E} (f x) (over b c n o) (Err e)
      → IsErr r → IsAppended (flat_map f xs) (over a c m o) r
  appended_in_item x a b c m n o t e r l is first second err =
      grind (arith, over a c m o, item_within f xs i x l is, appended_then a b c m n o _ _ t r first (appended_cut (over b c n o) (f x) (flat_map f (drop (i + 1) xs)) e r second err), appended_cut (over b c n o) (f x) (flat_map f (drop (i + 1) xs)) e r second err, over b c n o)

  -- The same of an item that was copied out.

  pub appended_copied : (d : X) (a b c : Option (List ℕ)) (m n o : ℕ) (t : T) (u : U) → i < length xs
      → IsAppended {T = T} {E = E} (flat_map f (take i xs)) (over a b m n) (Ok t) → IsAppended {T = U} {E = E} (f (get_or xs i d)) (over b c n o) (Ok u)
      → IsAppended {T = T} {E = E} (flat_map f (take (i + 1) xs)) (over a c m o) (Ok t)
  appended_copied d a b c m n o t u l = appended_item (get_or xs i d) a b c m n o t u l (get_or_default xs i d (get_or xs i d) l)

  pub appended_in_copied : (d : X) (a b c : Option (List ℕ)) (m n o : ℕ) (t : T) (e : E) (r : Result T E) → i < length xs
      → IsAppended {T = T} {E = E} (flat_map f (take i xs)) (over a b m n) (Ok t) → IsAppended {T = U} {E = E} (f (get_or xs i d)) (over b c n o) (Err e)
      → IsErr r → IsAppended (flat_map f xs) (over a c m o) r
  appended_in_copied d a b c m n o t e r l = appended_in_item (get_or xs i d) a b c m n o t e r l (get_or_default xs i d (get_or xs i d) l)
