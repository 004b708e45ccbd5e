-- The first repeat of a list, part by part.
use Rattle.std.proofs.Common.{◌≡◌, ◌++◌, ◌+◌, ◌<◌, inl, inr, ℕ, Bool, List, [], ◌∷◌, length, map, take, drop, get_or, position, slice_get, refl, sym, ap, ◌∙◌, Some, arith}
use Rattle.std.specs.Option.{option_or}
use Rattle.std.specs.Str.{bytes_eq}
use Rattle.std.proofs.lemmas.List.{append-nil, append_assoc, take_more, map-append, take-append-drop}
use Rattle.std.proofs.lemmas.List.Quantifiers.{position-Some}
use Rattle.std.proofs.lemmas.Option.{slice_get-get_or}
use Rattle.std.proofs.lemmas.Slice.Eq.{bytes_eq-Decides}
use Rattle.netlist.specs.declared.parts.PartsFault.{PartsFault}
use Rattle.netlist.specs.Faults.{repeat_after}
use Rattle.netlist.specs.Naming.{AddsAll, RepeatsIn, StopsAt}

pub repeat_after-append : {T : Type 0} (eq : T → T → Bool) (old xs ys : List T) →
    repeat_after eq old (xs ++ ys) ≡ option_or (repeat_after eq old xs) (repeat_after eq (old ++ xs) ys)
repeat_after-append eq old [] ys = ap (λ l. repeat_after eq l ys) (sym (append-nil old))
repeat_after-append eq old (x ∷ xs) ys = grind (arith, repeat_after-append eq (old ++ x ∷ []) xs ys, append_assoc old (x ∷ []) xs)

pub AddsAll-append : (old xs mid ys new : List (List ℕ)) → AddsAll old xs mid → AddsAll mid ys new → AddsAll old (xs ++ ys) new
AddsAll-append old xs mid ys new h k = grind (arith, append_assoc old xs ys, repeat_after-append bytes_eq old xs ys)

-- names that are added before don't hide a repeat
pub RepeatsIn-later : (old xs mid ys : List (List ℕ)) (fault : PartsFault) → AddsAll old xs mid → RepeatsIn mid ys fault → RepeatsIn old (xs ++ ys) fault
RepeatsIn-later old xs mid ys fault h k = grind (arith, repeat_after-append bytes_eq old xs ys)

-- nor do names that would follow
pub RepeatsIn-earlier : (old xs ys : List (List ℕ)) (fault : PartsFault) → RepeatsIn old xs fault → RepeatsIn old (xs ++ ys) fault
RepeatsIn-earlier old xs ys fault k = grind (arith, repeat_after-append bytes_eq old xs ys)

-- one more of a list's items is given its name
pub AddsAll-more : {T : Type 0} (name : T → List ℕ) (items : List T) (i : ℕ) (d : T) (old mid new : List (List ℕ)) → i < length items →
    AddsAll old (map name (take i items)) mid → AddsAll mid (name (get_or items i d) ∷ []) new → AddsAll old (map name (take (i + 1) items)) new
AddsAll-more name items i d old mid new l h k = grind (arith, take_more items i d l, map-append name (take i items) (get_or items i d ∷ []), AddsAll-append old (map name (take i items)) mid (name (get_or items i d) ∷ []) new h k)

-- or has a name that is there already
pub RepeatsIn-more : {T : Type 0} (name : T → List ℕ) (items : List T) (i : ℕ) (d : T) (old mid : List (List ℕ)) (fault : PartsFault) → i < length items →
    AddsAll old (map name (take i items)) mid → RepeatsIn mid (name (get_or items i d) ∷ []) fault → RepeatsIn old (map name items) fault
RepeatsIn-more name items i d old mid fault l h k =
    let here : RepeatsIn old (map name (take (i + 1) items)) fault =
    rw (take_more items i d l, map-append name (take i items) (get_or items i d ∷ []))
    (RepeatsIn-later old (map name (take i items)) mid (name (get_or items i d) ∷ []) fault h k) in
    let whole : map name items ≡ map name (take (i + 1) items) ++ map name (drop (i + 1) items) =
    ap (map name) (sym (take-append-drop (i + 1) items)) ∙ map-append name (take (i + 1) items) (drop (i + 1) items) in
    rw whole (RepeatsIn-earlier old (map name (take (i + 1) items)) (map name (drop (i + 1) items)) fault here)

pub map-itself : {T : Type 0} (xs : List T) → map (λ x. x) xs ≡ xs
map-itself [] = refl
map-itself (x ∷ xs) = ap (λ l. x ∷ l) (map-itself xs)

pub StopsAt-more : {T : Type 0} (name : T → List ℕ) (items : List T) (i : ℕ) (d : T) (old mid : List (List ℕ)) (fault : PartsFault) → i < length items →
    AddsAll old (map name (take i items)) mid → StopsAt mid (name (get_or items i d) ∷ []) fault → StopsAt old (map name items) fault
StopsAt-more name items i d old mid fault l h k = grind (arith, RepeatsIn-more name items i d old mid fault l h)

pub StopsAt-earlier : (old xs ys : List (List ℕ)) (fault : PartsFault) → StopsAt old xs fault → StopsAt old (xs ++ ys) fault
StopsAt-earlier old xs ys fault k = elim k [ inl e ↦ inl e | inr r ↦ inr (RepeatsIn-earlier old xs ys fault r) ]

pub StopsAt-later : (old xs mid ys : List (List ℕ)) (fault : PartsFault) → AddsAll old xs mid → StopsAt mid ys fault → StopsAt old (xs ++ ys) fault
StopsAt-later old xs mid ys fault h k = elim k [ inl e ↦ inl e | inr r ↦ inr (RepeatsIn-later old xs mid ys fault h r) ]

-- the place of a name has that name
pub place_of_name : (name : List ℕ) (names : List (List ℕ)) (i : ℕ) → position (bytes_eq name) names ≡ Some i → slice_get names i ≡ Some name
place_of_name name names i e = grind (arith, position-Some (bytes_eq name) names i [] e, slice_get-get_or names i [], bytes_eq-Decides name (get_or names i []))
