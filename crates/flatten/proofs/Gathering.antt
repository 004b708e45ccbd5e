-- Drivers are gathered in their order, and the first that comes twice is found.
use Rattle.std.proofs.Common.{◌≡◌, ℕ, ◌+◌, ◌<◌, Bool, true, false, not, List, [], ◌∷◌, ◌++◌, length, get_or, take, drop, map, filter, fold, refl, sym, ap, ◌∙◌, if◌then◌else◌, append_assoc, Some, None, option_map, inl, inr, arith}
use Rattle.flatten.proofs.Common.{append-nil, list_any-append, IsDistinct, AllByRecursion, find, option_or, bytes_eq, Option, insert_key, is_among, Clock, BlifModel, LatchLine, FlatFault, FlatLines, own_clocks, twice_after, first_twice, latch_outputs, gate_outputs, driven_twice, has_bad_control, bytes_eq-true, drop-item, cases_Bool}
use Rattle.std.proofs.lemmas.List.{map-append}
use Rattle.std.proofs.lemmas.Map.Keys.{IsDistinct-cons, IsDistinct-push}
use Rattle.std.specs.Cmp.Lexicographic.{nat_list_eq_equiv}
use Rattle.std.specs.Option.{option_map_or}
use Rattle.std.proofs.lemmas.Bool.{or_parts}
use Rattle.flatten.specs.declared.fault.FlatFault.TheVariants.{DrivenTwice}
use Rattle.flatten.specs.Linking.{is_clock_of, is_fitting, is_other_control, has_other_control}
use Rattle.flatten.proofs.Names.{bytes_sym, taken}
use Rattle.flatten.proofs.Libraries.{among_push, distinct_fresh, none_old}

IsDistinct-nil : IsDistinct bytes_eq []
unfolding IsDistinct
IsDistinct-nil = tt

pub twice_later : (old names : List (List ℕ)) (i : ℕ) (x : List ℕ) → i < length names → x ≡ get_or names i x → is_among old x ≡ false → twice_after old (drop i names) ≡ twice_after (old ++ x ∷ []) (drop (i + 1) names)
twice_later old names i x l e h = rw (drop-item names i x l e, h) refl

cond_or : (b : Bool) (x : List ℕ) (o p q : Option (List ℕ)) → p ≡ option_or o q → (if b then Some x else p) ≡ option_or (if b then Some x else o) q
cond_or b x o p q e = grind arith

-- over a list in two parts
pub twice-append : (old xs ys : List (List ℕ)) → twice_after old (xs ++ ys) ≡ option_or (twice_after old xs) (twice_after (old ++ xs) ys)
twice-append old [] ys = ap (λ o. twice_after o ys) (sym (append-nil old))
twice-append old (x ∷ xs) ys = grind (arith, cond_or (is_among old x) x (twice_after (old ++ x ∷ []) xs) (twice_after (old ++ x ∷ []) (xs ++ ys)) (twice_after (old ++ (x ∷ xs)) ys), twice-append (old ++ x ∷ []) xs ys, append_assoc old (x ∷ []) xs)

pub twice_later_by : {T : Type 0} (name : T → List ℕ) (old : List (List ℕ)) (items : List T) (i : ℕ) (x : T) → i < length items → x ≡ get_or items i x → is_among old (name x) ≡ false → twice_after old (map name (drop i items)) ≡ twice_after (old ++ name x ∷ []) (map name (drop (i + 1) items))
twice_later_by name old items i x l e h = rw (drop-item items i x l e, h) refl

-- the list so far, and the one more that is new
pub names_so_far : {T : Type 0} (name : T → List ℕ) (old keys new : List (List ℕ)) (items : List T) (i : ℕ) (x : T) → i < length items → x ≡ get_or items i x → keys ≡ old ++ map name (take i items) → new ≡ keys ++ name x ∷ [] → new ≡ old ++ map name (take (i + 1) items)
names_so_far name old keys new items i x l e k n = grind (arith, append_assoc old (map name (take i items)) (name x ∷ []), map-append name (take i items) (x ∷ []), taken items i x l e)

-- clocks that are gathered behind the inputs are those that aren't inputs, each once
pub clocks_gathered : (inputs done clocks : List (List ℕ)) → fold (insert_key bytes_eq) (inputs ++ done) clocks ≡ inputs ++ fold (insert_key bytes_eq) done (filter (λ n. not (is_among inputs n)) clocks)
clocks_gathered inputs done [] = refl
clocks_gathered inputs done (x ∷ clocks) =
    let there = list_any-append (bytes_eq x) inputs done in
    elim (cases_Bool (is_among inputs x)) [
      | inl e ↦ rw (there, e) (clocks_gathered inputs done clocks)
      | inr e ↦ elim (cases_Bool (is_among done x)) [
        | inl f ↦ rw (there, e, f) (clocks_gathered inputs done clocks)
        | inr f ↦ rw (there, e, f, append_assoc) (clocks_gathered inputs (done ++ x ∷ []) clocks)
      ]
    ]

pub own_clocks_gathered : (top : BlifModel) → fold (insert_key bytes_eq) top.inputs top.clocks ≡ top.inputs ++ own_clocks top
own_clocks_gathered top = ap (λ ks. fold (insert_key bytes_eq) ks top.clocks) (sym (append-nil top.inputs)) ∙ clocks_gathered top.inputs [] top.clocks

-- names of which none comes twice differ
pub fresh_apart : (old names : List (List ℕ)) → twice_after old names ≡ None → AllByRecursion (λ y. is_among old y ≡ false) names × IsDistinct bytes_eq names
fresh_apart old [] h = (tt, IsDistinct-nil)
fresh_apart old (x ∷ names) h =
    elim (cases_Bool (is_among old x)) [
      | inl e ↦ absurd (let k : Some x ≡ None = rw e at h in cc)
      | inr e ↦
          let r = fresh_apart (old ++ x ∷ []) names (rw e at h) in
          let a = apart names r.0 in
          ((e, a.0), IsDistinct-cons bytes_eq x names a.1 r.1)
    ]
  where
    apart : (ys : List (List ℕ)) → AllByRecursion (λ y. is_among (old ++ x ∷ []) y ≡ false) ys → AllByRecursion (λ y. is_among old y ≡ false) ys × AllByRecursion (λ y. bytes_eq x y ≡ false) ys
    apart [] a = (tt, tt)
    apart (y ∷ ys) a = grind (arith, or_parts (is_among old y) (bytes_eq y x), among_push old x y, apart ys a.1, bytes_sym x y)

distinct_inserted : (names : List (List ℕ)) (x : List ℕ) → IsDistinct bytes_eq names → IsDistinct bytes_eq (insert_key bytes_eq names x)
distinct_inserted names x d = grind (arith, cases_Bool (is_among names x), IsDistinct-push nat_list_eq_equiv names x d)

distinct_gathered : (old names : List (List ℕ)) → IsDistinct bytes_eq old → IsDistinct bytes_eq (fold (insert_key bytes_eq) old names)
distinct_gathered old [] d = d
distinct_gathered old (x ∷ names) d = distinct_gathered (insert_key bytes_eq old x) names (distinct_inserted old x d)

-- the inputs and the own clocks differ where the inputs do
clocks_once : (top : BlifModel) → first_twice top.inputs ≡ None → first_twice (top.inputs ++ own_clocks top) ≡ None
clocks_once top h =
    grind (arith, distinct_gathered top.inputs top.clocks (fresh_apart [] top.inputs h).1, fresh_apart [] top.inputs h, own_clocks_gathered top, distinct_fresh [] (top.inputs ++ own_clocks top) (none_old (top.inputs ++ own_clocks top)), none_old (top.inputs ++ own_clocks top))

pub some_first : {X Y : Type 0} (f : X → Y) (o p : Option X) (y : Y) → option_map f o ≡ Some y → option_map f (option_or o p) ≡ Some y
some_first f o p y e = grind arith

-- the first driver that drives a wire again, once no input is declared twice
module _ (top : BlifModel) (lines : FlatLines) (inputs_once : first_twice top.inputs ≡ None) where
  twice_of_drivers : driven_twice top lines ≡ option_map DrivenTwice (option_or (twice_after (top.inputs ++ own_clocks top) (latch_outputs lines)) (twice_after ((top.inputs ++ own_clocks top) ++ latch_outputs lines) (gate_outputs lines)))
  twice_of_drivers =
      grind (arith, append_assoc top.inputs (own_clocks top) (latch_outputs lines ++ gate_outputs lines), twice-append [] (top.inputs ++ own_clocks top) (latch_outputs lines ++ gate_outputs lines), clocks_once top inputs_once, twice-append (top.inputs ++ own_clocks top) (latch_outputs lines) (gate_outputs lines))

  pub latch_twice : (fault : FlatFault) → option_map DrivenTwice (twice_after (top.inputs ++ own_clocks top) (latch_outputs lines)) ≡ Some fault → driven_twice top lines ≡ Some fault
  latch_twice fault e = twice_of_drivers ∙ some_first DrivenTwice _ _ fault e

  pub gate_twice : (fault : FlatFault) → twice_after (top.inputs ++ own_clocks top) (latch_outputs lines) ≡ None → option_map DrivenTwice (twice_after ((top.inputs ++ own_clocks top) ++ latch_outputs lines) (gate_outputs lines)) ≡ Some fault → driven_twice top lines ≡ Some fault
  gate_twice fault n e = grind (arith, twice_of_drivers)

  pub none_twice : twice_after (top.inputs ++ own_clocks top) (latch_outputs lines) ≡ None → twice_after ((top.inputs ++ own_clocks top) ++ latch_outputs lines) (gate_outputs lines) ≡ None → driven_twice top lines ≡ None
  none_twice n e = grind (arith, twice_of_drivers)

-- the first of several findings
pub some_or : {X : Type 0} (o p : Option X) (x : X) → o ≡ Some x → option_or o p ≡ Some x
some_or o p x e = ap (λ t. option_or t p) e

pub none_or_is : {X : Type 0} (o p : Option X) → o ≡ None → option_or o p ≡ p
none_or_is o p e = ap (λ t. option_or t p) e

-- controls by the first one
other_is : (top : BlifModel) (f c : Clock) → is_other_control (is_clock_of top f.name) f c ≡ not (is_fitting top f c)
other_is top f c = by (bytes_eq c.name f.name) refl
  where
    by : (b : Bool) → bytes_eq c.name f.name ≡ b → is_other_control (is_clock_of top f.name) f c ≡ not (is_fitting top f c)
    by true e = grind (arith, bytes_eq-true c.name f.name e)
    by false e = grind arith

other_at : (top : BlifModel) (f : Clock) (o : Option Clock) → option_map_or (is_other_control (is_clock_of top f.name) f) o false ≡ option_map_or (λ control. option_map_or (λ y. not (is_fitting top y control)) (Some f) false) o false
other_at top f None = refl
other_at top f (Some c) = other_is top f c

pub find_other : (top : BlifModel) (f : Clock) (latches : List LatchLine) → find (has_other_control (is_clock_of top f.name) f) latches ≡ find (has_bad_control top (Some f)) latches
find_other top f [] = refl
find_other top f (l ∷ latches) = grind (arith, other_at top f l.control, find_other top f latches)

pub find_none : (top : BlifModel) (latches : List LatchLine) → find (has_bad_control top None) latches ≡ None
find_none top [] = refl
find_none top (l ∷ latches) = grind (arith, find_none top latches)
