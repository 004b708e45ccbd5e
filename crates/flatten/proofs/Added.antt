-- A name that is added, and is new.
use Rattle.std.proofs.Common.{◌≡◌, ℕ, ◌+◌, ◌<◌, Bool, true, false, not, List, [], ◌∷◌, ◌++◌, length, get_or, take, drop, map, if◌then◌else◌, ap, ◌∙◌, arith}
use Rattle.flatten.proofs.Common.{bytes_eq, insert_key, is_among, twice_after}
use Rattle.flatten.proofs.Names.{taken}
use Rattle.flatten.proofs.Gathering.{twice_later, twice_later_by, names_so_far}

not_among : (b a : Bool) → b ≡ not a → b ≡ true → a ≡ false
not_among b a e h = grind arith

stands_last : (keys new : List (List ℕ)) (x : List ℕ) → new ≡ insert_key bytes_eq keys x → is_among keys x ≡ false → new ≡ keys ++ x ∷ []
stands_last keys new x e fresh = e ∙ ap (λ a. if a then keys else keys ++ x ∷ []) fresh

pub added : (keys new names : List (List ℕ)) (i : ℕ) (x : List ℕ) (b : Bool) → i < length names → x ≡ get_or names i x → keys ≡ take i names → new ≡ insert_key bytes_eq keys x → b ≡ not (is_among keys x) → b ≡ true → (new ≡ take (i + 1) names) × (twice_after new (drop (i + 1) names) ≡ twice_after keys (drop i names))
added keys new names i x b l is before e n t = grind (arith, not_among b (is_among keys x) n t, stands_last keys new x e, taken names i x l is, twice_later keys names i x l is)

pub added_by : {T : Type 0} (name : T → List ℕ) (old keys new : List (List ℕ)) (items : List T) (i : ℕ) (x : T) (b : Bool) → i < length items → x ≡ get_or items i x → keys ≡ old ++ map name (take i items) → new ≡ insert_key bytes_eq keys (name x) → b ≡ not (is_among keys (name x)) → b ≡ true → (new ≡ old ++ map name (take (i + 1) items)) × (twice_after new (map name (drop (i + 1) items)) ≡ twice_after keys (map name (drop i items)))
added_by name old keys new items i x b l is before e n t = grind (arith, not_among b (is_among keys (name x)) n t, stands_last keys new (name x) e, names_so_far name old keys new items i x l is before, twice_later_by name keys items i x l is)
