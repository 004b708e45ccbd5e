-- Where a function is surely 1, split at one pin.
use Rattle.std.proofs.Common.{◌≡◌, ℕ, zero, suc, ◌<◌, Bool, true, false, not, ◌&&◌, List, [], ◌∷◌, length, map, get_or, set, refl, sym, ap, ap₂, subst, ◌∙◌, arith, true≢false}
use Rattle.dual_rail.proofs.Common.{and_parts, and_from, length-map, All-get_or, not-not, All, Node, Arena, den, top_of, IsNodeOf, IsLawful, KeepsNodes, selection, exact, Rails, values_of, AreRailsOf, IsLift, IsFork}
use Rattle.std.proofs.lemmas.List.{get_or-set_same, drop-set-lt}
use Rattle.std.proofs.lemmas.List.Elements.{All-from_get_or}
use Rattle.bdd_ops.specs.Operations.{select}
use Rattle.cyc_base.proofs.OrderLemmas.{Below-at, same_bit, Completes-at, Completes-length, Completes-set}
use Rattle.cyc_base.specs.declared.trit.Trit.{Trit}
use Rattle.cyc_base.specs.declared.trit.Trit.TheVariants.{Zero, One, X}
use Rattle.cyc_base.specs.Values.{bit, Completes}
use Rattle.cyc_base.proofs.TruthLemmas.{same_truth}
use Rattle.cover_logic.proofs.ExtensionLemmas.{passes_above, passes_listed, some_completion}
use Rattle.dual_rail.specs.declared.lifting.Fork.{Fork}
use Rattle.dual_rail.specs.Rails.{trit_of, value_of}
use Rattle.dual_rail.specs.Lifts.{surely, IsSurely}

-- what an index out of range gives
abbrev pub no_rails : Rails
no_rails = record { one = record { number = 0 }; zero = record { number = 0 } }

completes-bit : (trits : List Trit) (bs : List Bool) (v : ℕ) (b : Bool) → Completes trits bs → get_or trits v X ≡ bit b → get_or bs v false ≡ b
completes-bit trits bs v b c e = same_bit (get_or bs v false) b (Below-at (get_or trits v X) (bit (get_or bs v false)) b (Completes-at trits bs v c) e)

completes-set : (trits : List Trit) (bs : List Bool) (v : ℕ) (b : Bool) → Completes trits bs → get_or trits v X ≡ X → Completes trits (set bs v b)
completes-set trits bs v b c e = Completes-set trits bs v b c (rw e tt)

pub surely-alike : (f g : List Bool → Bool) (trits : List Trit) → ((bs : List Bool) → length bs ≡ length trits → f bs ≡ g bs) → surely f trits ≡ surely g trits
surely-alike f g trits same = same_truth _ _
    (λ h. passes_listed g trits (λ bs c. sym (same bs (sym (Completes-length trits bs c))) ∙ passes_above f trits h bs c))
    (λ h. passes_listed f trits (λ bs c. same bs (sym (Completes-length trits bs c)) ∙ passes_above g trits h bs c))

pub exact-alike : (f g : List Bool → Bool) (trits : List Trit) → ((bs : List Bool) → length bs ≡ length trits → f bs ≡ g bs) → exact f trits ≡ exact g trits
exact-alike f g trits same = ap₂ trit_of (surely-alike f g trits same) (surely-alike (λ bs. not (f bs)) (λ bs. not (g bs)) trits (λ bs len. ap not (same bs len)))

high_alone : (h l : Bool) → h ≡ select true false h l
high_alone h l = grind arith

low_alone : (h l : Bool) → l ≡ select false true h l
low_alone h l = grind arith

both_alone : (h l : Bool) → (h && l) ≡ select false false h l
both_alone h l = grind arith

module _ (f hi lo : List Bool → Bool) (v : ℕ)
    (at_hi : (bs : List Bool) → get_or bs v false ≡ true → f bs ≡ hi bs)
    (at_lo : (bs : List Bool) → get_or bs v false ≡ false → f bs ≡ lo bs)
    (hi_free : (bs : List Bool) (b : Bool) → hi (set bs v b) ≡ hi bs)
    (lo_free : (bs : List Bool) (b : Bool) → lo (set bs v b) ≡ lo bs)
    (trits : List Trit) (inside : v < length trits) where
  split-one : get_or trits v X ≡ One → surely f trits ≡ surely hi trits
  split-one e = same_truth _ _
      (λ h. passes_listed hi trits (λ bs c. sym (at_hi bs (completes-bit trits bs v true c e)) ∙ passes_above f trits h bs c))
      (λ h. passes_listed f trits (λ bs c. at_hi bs (completes-bit trits bs v true c e) ∙ passes_above hi trits h bs c))

  split-zero : get_or trits v X ≡ Zero → surely f trits ≡ surely lo trits
  split-zero e = same_truth _ _
      (λ h. passes_listed lo trits (λ bs c. sym (at_lo bs (completes-bit trits bs v false c e)) ∙ passes_above f trits h bs c))
      (λ h. passes_listed f trits (λ bs c. at_lo bs (completes-bit trits bs v false c e) ∙ passes_above lo trits h bs c))

  at_set : (bs : List Bool) (b : Bool) → Completes trits bs → get_or (set bs v b) v false ≡ b
  at_set bs b c = get_or-set_same bs v b false (subst (λ n. v < n) (Completes-length trits bs c) inside)

  either_way : (bs : List Bool) → hi bs ≡ true → lo bs ≡ true → (b : Bool) → get_or bs v false ≡ b → f bs ≡ true
  either_way bs h l e i = grind arith

  split-x : get_or trits v X ≡ X → surely f trits ≡ (surely hi trits && surely lo trits)
  split-x e = same_truth _ _
      (λ h. and_from _ _
      (passes_listed hi trits (λ bs c. sym (hi_free bs true) ∙ sym (at_hi (set bs v true) (at_set bs true c)) ∙ passes_above f trits h (set bs v true) (completes-set trits bs v true c e)))
      (passes_listed lo trits (λ bs c. sym (lo_free bs false) ∙ sym (at_lo (set bs v false) (at_set bs false c)) ∙ passes_above f trits h (set bs v false) (completes-set trits bs v false c e))))
      (λ h. passes_listed f trits (λ bs c. either_way bs (passes_above hi trits (and_parts _ _ h).0 bs c) (passes_above lo trits (and_parts _ _ h).1 bs c) (get_or bs v false) refl))

  pub split : (one zero : Bool) → (one && zero) ≡ false → get_or trits v X ≡ trit_of one zero → surely f trits ≡ select one zero (surely hi trits) (surely lo trits)
  split true true p e = absurd (true≢false p)
  split true false p e = split-one e ∙ high_alone (surely hi trits) (surely lo trits)
  split false true p e = split-zero e ∙ low_alone (surely hi trits) (surely lo trits)
  split false false p e = split-x e ∙ both_alone (surely hi trits) (surely lo trits)

-- ---- exactness

not_true_and : (a b : Bool) → (a ≡ true → b ≡ true → ⊥) → (a && b) ≡ false
not_true_and a b h = grind arith

not_both_values : (x : Bool) → x ≡ true → not x ≡ true → ⊥
not_both_values x e g = grind arith

-- no function is surely 1 and surely 0
pub surely-apart : (f : List Bool → Bool) (trits : List Trit) → (surely f trits && surely (λ bs. not (f bs)) trits) ≡ false
surely-apart f trits =
    let some = some_completion trits in
    not_true_and _ _ (λ h g. not_both_values (f some.0) (passes_above f trits h some.0 some.1) (passes_above (λ bs. not (f bs)) trits g some.0 some.1))

-- ---- rails

map_alike : {A B : Type 0} (P : A → Type 0) (f g : A → B) (xs : List A) → ((x : A) → P x → f x ≡ g x) → ((i : ℕ) (d : A) → i < length xs → P (get_or xs i d)) → map f xs ≡ map g xs
map_alike P f g [] same all = refl
map_alike P f g (x ∷ xs) same all = ap₂ (λ y ys. y ∷ ys) (same x (all zero x (omega arith))) (map_alike P f g xs same (λ i d less. all (suc i) d (omega arith)))

pub value_of-kept : {s t : Arena} → KeepsNodes s t → (r : Rails) → AreRailsOf s r → (bs : List Bool) → value_of t r bs ≡ value_of s r bs
value_of-kept k r is bs = ap₂ trit_of (k.function r.one bs is.one) (k.function r.zero bs is.zero)

pub values_of-kept : {s t : Arena} → KeepsNodes s t → (pins : List Rails) → All (AreRailsOf s) pins → (bs : List Bool) → values_of t pins bs ≡ values_of s pins bs
values_of-kept {s} {t} k pins all bs = map_alike (AreRailsOf s) (λ r. value_of t r bs) (λ r. value_of s r bs) pins (λ r is. value_of-kept k r is bs) (λ i d less. All-get_or (AreRailsOf s) pins i d less all)

pub AreRailsOf-kept : {s t : Arena} → KeepsNodes s t → (r : Rails) → AreRailsOf s r → AreRailsOf t r
AreRailsOf-kept k r is = grind arith

pub IsSurely-kept : {s t : Arena} {pins : List Rails} {f : List Bool → Bool} {n : Node} → KeepsNodes s t → All (AreRailsOf s) pins → IsSurely s pins f n → IsSurely t pins f n
IsSurely-kept {pins = pins} {f = f} {n = n} k all is = grind (arith, values_of-kept k pins all)

-- the rails of a lift are proper, and their value is the exact extension
pub IsLift-rails : {a : Arena} {pins : List Rails} {f : List Bool → Bool} {r : Rails} → IsLift a pins f r → AreRailsOf a r
IsLift-rails {a} {pins} {f} {r} is = grind (arith, surely-apart f)

pub IsLift-exact : {a : Arena} {pins : List Rails} {f : List Bool → Bool} {r : Rails} → IsLift a pins f r → (bs : List Bool) → value_of a r bs ≡ exact f (values_of a pins bs)
IsLift-exact {a} {pins} {f} {r} is bs = ap₂ trit_of (is.one.says bs) (is.zero.says bs)

pub length-values : (a : Arena) (pins : List Rails) (bs : List Bool) → length (values_of a pins bs) ≡ length pins
length-values a pins bs = length-map {B = Trit} pins (λ r. value_of a r bs)

value_of-at : (a : Arena) (pins : List Rails) (v : ℕ) (d : Rails) (bs : List Bool) → v < length pins → get_or (values_of a pins bs) v X ≡ value_of a (get_or pins v d) bs
value_of-at a [] v d bs less = absurd (omega arith)
value_of-at a (p ∷ pins) zero d bs less = refl
value_of-at a (p ∷ pins) (suc v) d bs less = value_of-at a pins v d bs (omega arith)

-- what is select from a node's pin and branches is where the node's function is surely 1
pub selection-is : {s : Arena} {pins : List Rails} (f hi lo : List Bool → Bool) (v : ℕ) (none : Rails) (hi_node lo_node : Node)
    → ((bs : List Bool) → get_or bs v false ≡ true → f bs ≡ hi bs)
    → ((bs : List Bool) → get_or bs v false ≡ false → f bs ≡ lo bs)
    → ((bs : List Bool) (b : Bool) → hi (set bs v b) ≡ hi bs)
    → ((bs : List Bool) (b : Bool) → lo (set bs v b) ≡ lo bs)
    → v < length pins → All (AreRailsOf s) pins
    → IsSurely s pins hi hi_node → IsSurely s pins lo lo_node
    → (bs : List Bool) → select (den s (get_or pins v none).one bs) (den s (get_or pins v none).zero bs) (den s hi_node bs) (den s lo_node bs) ≡ surely f (values_of s pins bs)
selection-is {s} {pins} f hi lo v none hi_node lo_node at_hi at_lo hi_free lo_free inside all is_hi is_lo bs =
    grind (arith, All-get_or (AreRailsOf s) pins v none inside all, split f hi lo v at_hi at_lo hi_free lo_free (values_of s pins bs), length-map {B = Trit} pins, value_of-at s pins v none bs inside)

-- and so a node of that function says so
pub IsSurely-made : {s t : Arena} {pins : List Rails} {f k : List Bool → Bool} {n : Node} → All (AreRailsOf s) pins → KeepsNodes s t → IsNodeOf t n → ((bs : List Bool) → den t n bs ≡ k bs) → ((bs : List Bool) → k bs ≡ surely f (values_of s pins bs)) → IsSurely t pins f n
IsSurely-made {pins = pins} {f = f} all k node func is = record { node = node; says = λ bs. func bs ∙ is bs ∙ ap (surely f) (sym (values_of-kept k pins all bs)) }

pub All-rails-kept : {s t : Arena} → KeepsNodes s t → (pins : List Rails) → All (AreRailsOf s) pins → All (AreRailsOf t) pins
All-rails-kept {s} {t} k pins all = All-from_get_or (AreRailsOf t) pins no_rails (λ i less. AreRailsOf-kept k (get_or pins i no_rails) (All-get_or (AreRailsOf s) pins i no_rails less all))

-- a node reads no bit before its variable
pub free-of : (a : Arena) → IsLawful a → (n : Node) (v : ℕ) → IsNodeOf a n → v < top_of a n → (bs : List Bool) (b : Bool) → den a n (set bs v b) ≡ den a n bs
free-of a lawful n v node lower bs b = lawful.support n (suc v) (set bs v b) bs node (omega arith) (drop-set-lt (suc v) bs v b (omega arith))

-- what is known of a node of a diagram and of its branches
pub record HasBranches (a : Arena) (n hi lo : Node) : Type 0 where
  pub lawful : IsLawful a
  pub hi_node : IsNodeOf a hi
  pub lo_node : IsNodeOf a lo
  pub hi_lower : top_of a n < top_of a hi
  pub lo_lower : top_of a n < top_of a lo
  pub at_hi : (bs : List Bool) → get_or bs (top_of a n) false ≡ true → den a n bs ≡ den a hi bs
  pub at_lo : (bs : List Bool) → get_or bs (top_of a n) false ≡ false → den a n bs ≡ den a lo bs

-- the rails of its pin and of its branches are a fork
pub IsFork-at : {a s : Arena} {pins : List Rails} {n hi lo : Node} (none : Rails) (fork : Fork) → HasBranches a n hi lo → top_of a n < length pins → All (AreRailsOf s) pins
    → fork.pin ≡ get_or pins (top_of a n) none → IsLift s pins (den a hi) fork.hi → IsLift s pins (den a lo) fork.lo → IsFork s pins (den a n) fork
IsFork-at {a} {s} {pins} {n} {hi} {lo} none fork has inside all pin_is is_hi is_lo = record {
  pin = subst (AreRailsOf s) (sym pin_is) (All-get_or (AreRailsOf s) pins (top_of a n) none inside all);
  hi = IsLift-rails is_hi;
  lo = IsLift-rails is_lo;
  one = λ bits. ap (λ (p : Rails). selection s p.one p.zero fork.hi.one fork.lo.one bits) pin_is
      ∙ selection-is (den a n) (den a hi) (den a lo) (top_of a n) none fork.hi.one fork.lo.one has.at_hi has.at_lo
      (free-of a has.lawful hi (top_of a n) has.hi_node has.hi_lower) (free-of a has.lawful lo (top_of a n) has.lo_node has.lo_lower) inside all is_hi.one is_lo.one bits;
  zero = λ bits. ap (λ (p : Rails). selection s p.one p.zero fork.hi.zero fork.lo.zero bits) pin_is
      ∙ selection-is (λ bs. not (den a n bs)) (λ bs. not (den a hi bs)) (λ bs. not (den a lo bs)) (top_of a n) none fork.hi.zero fork.lo.zero (λ bs e. ap not (has.at_hi bs e)) (λ bs e. ap not (has.at_lo bs e))
      (λ bs b. ap not (free-of a has.lawful hi (top_of a n) has.hi_node has.hi_lower bs b)) (λ bs b. ap not (free-of a has.lawful lo (top_of a n) has.lo_node has.lo_lower bs b)) inside all is_hi.zero is_lo.zero bits;
}

pub IsLift-kept : {s t : Arena} {pins : List Rails} {f : List Bool → Bool} {r : Rails} → KeepsNodes s t → All (AreRailsOf s) pins → IsLift s pins f r → IsLift t pins f r
IsLift-kept k all is = record { one = IsSurely-kept k all is.one; zero = IsSurely-kept k all is.zero }

-- ---- constants

pub surely-constant : (g : List Bool → Bool) (b : Bool) (trits : List Trit) → ((bs : List Bool) → g bs ≡ b) → surely g trits ≡ b
surely-constant g true trits h = passes_listed g trits (λ bs c. h bs)
surely-constant g false trits h =
    let some = some_completion trits in
    same_truth _ _ (λ all. sym (h some.0) ∙ passes_above g trits all some.0 some.1) (λ e. absurd (true≢false (sym e)))

-- the rails of the complement are exchanged
pub IsLift-complement : {a : Arena} {pins : List Rails} {f g : List Bool → Bool} {r : Rails} → ((bs : List Bool) → g bs ≡ not (f bs)) → IsLift a pins f r → IsLift a pins g (record { one = r.zero; zero = r.one })
IsLift-complement {a} {pins} {f} {g} {r} opposite is = grind (arith, surely-alike, surely-alike f, not-not)
