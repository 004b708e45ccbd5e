-- Counting the nodes of a lift.
use Rattle.std.proofs.Common.{inl, inr, ◌≡◌, ℕ, zero, suc, ◌+◌, ◌≤◌, Bool, true, false, not, ◌&&◌, List, [], ◌∷◌, ◌++◌, length, map, drop, refl, sym, ap, subst, ◌∙◌, arith}
use Rattle.std.proofs.Common.{cond, filter}
use Rattle.dual_rail.proofs.Common.{All, length-map, Node, Arena, complemented, den, not-not, KeepsNodes, nodes, IsPart, exact, Rails, values_of, AreRailsOf, selection, function, IsFork, BoundsEach, IsExtended}
use Rattle.std.specs.Bool.{beq}
use Rattle.std.specs.Cmp.Lexicographic.{pointwise}
use Rattle.std.proofs.lemmas.List.Filters.{length-filter_both}
use Rattle.std.proofs.lemmas.List.Folds.{list_all-append, list_all-map}
use Rattle.std.proofs.lemmas.Map.Made.{distinct_count-le}
use Rattle.bdd_store.proofs.ValueLemmas.{node_value-complemented}
use Rattle.bdd_store.specs.Growth.{IsPartAt}
use Rattle.bdd_store.specs.Subfunctions.{fixed, table, prefixes, is_constant}
use Rattle.cyc_base.specs.declared.trit.Trit.{Trit}
use Rattle.cyc_base.specs.declared.trit.Trit.TheVariants.{Zero, One, X}
use Rattle.cover_logic.specs.Extensions.{completions}
use Rattle.dual_rail.specs.Rails.{value_of}
use Rattle.dual_rail.specs.declared.lifting.Fork.{Fork}
use Rattle.dual_rail.specs.Local.{Local}
use Rattle.dual_rail.specs.Lifts.{surely}
use Rattle.dual_rail.specs.WorkingLists.{IsWide, is_bit}
use Rattle.dual_rail.proofs.SurelyLemmas.{surely-alike, surely-apart, values_of-kept}

-- fewer functions have no more nodes
pub IsWide-fewer : {vars : ℕ} (P Q : (List Bool → Bool) → Type 0) (w : ℕ) → ((g : List Bool → Bool) → Q g → P g) → IsWide vars P w → IsWide vars Q w
IsWide-fewer P Q w into wide = record { variables = wide.variables; combinations = λ c f g h qf qg qh. wide.combinations c f g h (into f qf) (into g qg) (into h qh) }

-- ---- the functions of the list

and_same : (a : Bool) → (a && a) ≡ a
and_same a = grind arith

-- a function that reads no first pins
surely-drop : (g : List Bool → Bool) (k : ℕ) (trits : List Trit) → surely (λ bs. g (drop k bs)) trits ≡ surely g (drop k trits)
surely-drop g zero trits = refl
surely-drop g (suc k) [] = refl
surely-drop g (suc k) (Zero ∷ trits) = list_all-map (λ bs. g (drop (suc k) bs)) (λ bs. false ∷ bs) (completions trits) ∙ surely-drop g k trits
surely-drop g (suc k) (One ∷ trits) = list_all-map (λ bs. g (drop (suc k) bs)) (λ bs. true ∷ bs) (completions trits) ∙ surely-drop g k trits
surely-drop g (suc k) (X ∷ trits) = grind (arith, list_all-append, list_all-map, surely-drop g k trits, and_same (surely g (drop k trits)))

is_one : (a b : Bool) → a ≡ is_bit true (cond a One (cond b Zero X))
is_one a b = grind arith

is_zero : (a b : Bool) → (a && b) ≡ false → b ≡ is_bit false (cond a One (cond b Zero X))
is_zero a b e = grind arith

module _ (s : Arena) (pins : List Rails) (vars : ℕ) (len : length pins ≡ vars) (F g : List Bool → Bool) (part : IsPart vars F g) where
  long : (bits : List Bool) → length (values_of s pins bits) ≡ vars
  long bits = length-map {B = Trit} pins (λ r. value_of s r bits) ∙ len

  pub extended-one : (k : List Bool → Bool) → ((bits : List Bool) → k bits ≡ surely g (values_of s pins bits)) → IsExtended s pins F k
  extended-one k is = record {
    first = part.first;
    short = subst (λ n. length part.first ≤ n) (sym len) part.short;
    bit = true;
    same = λ bits.
        let rest : List Trit = drop (length part.first) (values_of s pins bits) in
        is bits
        ∙ surely-alike g (fixed F part.first) (values_of s pins bits) (λ bs l. part.same bs (l ∙ long bits))
        ∙ surely-drop (λ r. F (part.first ++ r)) (length part.first) (values_of s pins bits)
        ∙ is_one (surely (λ r. F (part.first ++ r)) rest) (surely (λ r. not (F (part.first ++ r))) rest);
  }

  pub extended-zero : (k : List Bool → Bool) → ((bits : List Bool) → k bits ≡ surely (λ bs. not (g bs)) (values_of s pins bits)) → IsExtended s pins F k
  extended-zero k is = record {
    first = part.first;
    short = subst (λ n. length part.first ≤ n) (sym len) part.short;
    bit = false;
    same = λ bits.
        let rest : List Trit = drop (length part.first) (values_of s pins bits) in
        is bits
        ∙ surely-alike (λ bs. not (g bs)) (λ bs. not (fixed F part.first bs)) (values_of s pins bits) (λ bs l. ap not (part.same bs (l ∙ long bits)))
        ∙ surely-drop (λ r. not (F (part.first ++ r))) (length part.first) (values_of s pins bits)
        ∙ is_zero (surely (λ r. F (part.first ++ r)) rest) (surely (λ r. not (F (part.first ++ r))) rest) (surely-apart (λ r. F (part.first ++ r)) rest);
  }

-- the list stays as it was while nodes are kept
pub IsExtended-back : {s t : Arena} {pins : List Rails} {F : List Bool → Bool} → KeepsNodes s t → All (AreRailsOf s) pins → (g : List Bool → Bool) → IsExtended t pins F g → IsExtended s pins F g
IsExtended-back {s} {t} {pins} {F} k all g e = record { first = e.first; short = e.short; bit = e.bit; same = λ bits. e.same bits ∙ ap (λ trits. is_bit e.bit (exact (λ rest. F (e.first ++ rest)) (drop (length e.first) trits))) (values_of-kept k pins all bits) }

pub BoundsEach-kept : {s t : Arena} {pins : List Rails} {F : List Bool → Bool} {w : ℕ} → KeepsNodes s t → All (AreRailsOf s) pins → BoundsEach s.vars (IsExtended s pins F) w → BoundsEach t.vars (IsExtended t pins F) w
BoundsEach-kept {s} {t} {pins} {F} {w} k all bounds g is = subst (λ v. nodes v g ≤ w) (sym k.vars) (bounds g (IsExtended-back k all g is))

-- one function of a list has at most w nodes
pub wide-one : {vars : ℕ} {P : (List Bool → Bool) → Type 0} {w : ℕ} → IsWide vars P w → (f : List Bool → Bool) → P f → nodes vars f ≤ w
wide-one wide f is = wide.combinations (λ x y z. x) f f f is is is

-- ---- the two operations of a node

module _ (l : Local) (node : Node) {s : Arena} {pins : List Rails} {fork : Fork} (len : length pins ≡ l.pins) (part : IsPartAt l.pins (function l) l.store node) (is : IsFork s pins (den l.store node) fork) {w : ℕ} (bounds : BoundsEach s.vars (IsExtended s pins (function l)) w) where
  opposite : (bs : List Bool) → den l.store node bs ≡ not (den l.store (complemented node) bs)
  opposite bs = sym (not-not (den l.store node bs)) ∙ ap not (sym (node_value-complemented l.store.entries node bs))

  -- where the complement is the part, surely 1 of the node is surely 0 of the part
  pub one-nodes : nodes s.vars (selection s fork.pin.one fork.pin.zero fork.hi.one fork.lo.one) ≤ w
  one-nodes = elim part [
    | inl p ↦ bounds f (extended-one s pins l.pins len (function l) (den l.store node) p f is.one)
    | inr p ↦ bounds f (extended-zero s pins l.pins len (function l) (den l.store (complemented node)) p f (λ bits. is.one bits ∙ surely-alike (den l.store node) (λ bs. not (den l.store (complemented node) bs)) (values_of s pins bits) (λ bs wide. opposite bs)))
  ]
    where
      f : List Bool → Bool
      f = selection s fork.pin.one fork.pin.zero fork.hi.one fork.lo.one

  pub zero-nodes : nodes s.vars (selection s fork.pin.one fork.pin.zero fork.hi.zero fork.lo.zero) ≤ w
  zero-nodes = grind (arith, extended-zero s pins l.pins len (function l) (den l.store node), extended-one s pins l.pins len (function l) (den l.store (complemented node)), surely-alike, node_value-complemented l.store.entries node)

-- ---- a bound of every function

pub nodes-bounded : (vars : ℕ) (f : List Bool → Bool) → nodes vars f ≤ length (prefixes vars)
unfolding nodes
nodes-bounded vars f =
    let tables : List (List Bool) = map (λ p. table vars (fixed f p)) (prefixes vars) in
    let counted : List (List Bool) = filter (λ t. not (is_constant t)) tables in
    let one = distinct_count-le (pointwise beq) counted in
    let two = length-filter_both (λ (t : List Bool). not (is_constant t)) (λ t. not (not (is_constant t))) (λ t. refl) tables in
    let three = length-map {B = List Bool} (prefixes vars) (λ p. table vars (fixed f p)) in
    omega (arith, one, two, three)

-- each list has one
pub IsWide-some : (vars : ℕ) (P : (List Bool → Bool) → Type 0) → IsWide vars P (vars + 1 + length (prefixes vars))
IsWide-some vars P = grind (arith, nodes-bounded vars)
