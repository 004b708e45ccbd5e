-- The rails of what the latches load, one after another.
use Rattle.std.proofs.Common.{◌≡◌, ℕ, ◌+◌, ◌<◌, ◌≤◌, Bool, true, false, if◌then◌else◌, List, [], ◌∷◌, ◌++◌, length, take, replicate, slice_get, Some, sym, ap, ap₂, ◌∙◌, arith}
use Rattle.diagram_decision.proofs.Common.{length_push, take_all, get_or-map, length-map, get_or-replicate, get_or_from_slice_get, Node, Arena, den, IsNodeOf, KeepsNodes, nodes, conjunction, Trit, X, bits, Rails, AreRailsOf, value_of, values_of, Latch, Parts, wire, fix, next, IsNetlist, count, laid, rails_at, rails_at-proper, next_within, AreFixed, length-replicate, slice_get_within, All}
use Rattle.std.proofs.lemmas.List.{map-append, take_more}
use Rattle.std.proofs.lemmas.List.Elements.{All-append}
use Rattle.dual_rail.proofs.SurelyLemmas.{All-rails-kept, value_of-kept, values_of-kept}
use Rattle.diagram_decision.proofs.CareLemmas.{value_at-place}

-- ---- rails on a set

-- a conjunction has as many nodes after more operations
pub conjunction-kept : (s t : Arena) (m n : Node) → KeepsNodes s t → IsNodeOf s m → IsNodeOf s n → nodes t.vars (conjunction t m n) ≡ nodes s.vars (conjunction s m n)
conjunction-kept s t m n keeps in_m in_n = grind arith

-- ---- latch by latch

-- the rails of what the first n latches load at the vectors of the set: elsewhere they are X
pub record AreFirstNext (net : Parts) (s : Arena) (set : Node) (a : Arena) (n : ℕ) (list : List Rails) : Type 0 where
  pub width : length list ≡ n
  pub proper : All (AreRailsOf a) list
  pub values : (v : List Bool) → length v ≡ s.vars → values_of a list (laid net v) ≡ take n (next_within net s set v)

one_proper : (a : Arena) (r : Rails) → AreRailsOf a r → All (AreRailsOf a) (r ∷ [])
one_proper a r is h d less = grind arith

-- what one latch loads
next-more-list : (net : Parts) (v : List Trit) (n : ℕ) (latch : Latch) → slice_get net.latches n ≡ Some latch → take (n + 1) (next net v) ≡ take n (next net v) ++ wire (fix net v) latch.from ∷ []
next-more-list net v n latch found =
    let inside : n < length net.latches = slice_get_within net.latches n latch found in
    let long = length-map net.latches (λ (l : Latch). wire (fix net v) l.from) in
    grind (arith, take_more (next net v) n X, get_or-map, get_or_from_slice_get net.latches n latch latch found)

-- and within the set
within-more : (net : Parts) (s : Arena) (set : Node) (v : List Bool) (n : ℕ) (latch : Latch) → slice_get net.latches n ≡ Some latch →
    take (n + 1) (next_within net s set v) ≡ take n (next_within net s set v) ++ (if den s set (laid net v) then wire (fix net (bits v)) latch.from else X) ∷ []
within-more net s set v n latch found = by (den s set (laid net v))
  where
    by : (c : Bool) → take (n + 1) (if c then next net (bits v) else replicate (length net.latches) X) ≡ take n (if c then next net (bits v) else replicate (length net.latches) X) ++ (if c then wire (fix net (bits v)) latch.from else X) ∷ []
    by true = next-more-list net (bits v) n latch found
    by false = grind (arith, slice_get_within net.latches n latch found, take_more (replicate (length net.latches) X) n X, length-replicate (length net.latches) X, get_or-replicate (length net.latches) n X X)

-- the source
pub source-within : (net : Parts) (n : ℕ) (latch : Latch) → IsNetlist net → slice_get net.latches n ≡ Some latch → latch.from.0 < count net
source-within net n latch valid found = grind (arith, get_or_from_slice_get net.latches n latch latch found, slice_get_within net.latches n latch found)

pub source-value : (net : Parts) (a : Arena) (rails : List Rails) (n : ℕ) (latch : Latch) (v : List Bool) → IsNetlist net → AreFixed net a rails → slice_get net.latches n ≡ Some latch → length v ≡ a.vars →
    value_of a (rails_at rails latch.from.0) (laid net v) ≡ wire (fix net (bits v)) latch.from
source-value net a rails n latch v valid fixed found wide = grind (arith, value_at-place a rails latch.from.0 (laid net v), source-within net n latch valid found)

-- what all of them load
pub next-all : (net : Parts) (s a : Arena) (set : Node) (n : ℕ) (list : List Rails) → length net.latches ≤ n → AreFirstNext net s set a n list →
    (v : List Bool) → length v ≡ s.vars → values_of a list (laid net v) ≡ next_within net s set v
next-all net s a set n list all first v wide = first.values v wide ∙ by (den s set (laid net v))
  where
    by : (c : Bool) → take n (if c then next net (bits v) else replicate (length net.latches) X) ≡ (if c then next net (bits v) else replicate (length net.latches) X)
    by c = grind (arith, take_all, length-map, length-replicate)

module _ (net : Parts) (s d : Arena) (set : Node) (rails : List Rails) (n : ℕ) (latch : Latch) (valid : IsNetlist net) (in_set : IsNodeOf s set) (first : KeepsNodes s d)
    (fixed : AreFixed net s rails) (found : slice_get net.latches n ≡ Some latch) where
  source-kept : (v : List Bool) → length v ≡ s.vars → value_of d (rails_at rails latch.from.0) (laid net v) ≡ wire (fix net (bits v)) latch.from
  source-kept v wide =
      grind (arith, value_of-kept first (rails_at rails latch.from.0) (rails_at-proper s rails fixed.proper latch.from.0) (laid net v), rails_at-proper s rails fixed.proper latch.from.0, source-value net s rails n latch v valid fixed found wide)

  pub next-more : (e : Arena) (list : List Rails) (made : Rails) → KeepsNodes d e → AreFirstNext net s set d n list → AreRailsOf e made →
      ((v : List Bool) → value_of e made v ≡ (if den d set v then value_of d (rails_at rails latch.from.0) v else X)) →
      AreFirstNext net s set e (n + 1) (list ++ made ∷ [])
  next-more e list made second before proper value = record {
    width = length_push list made ∙ ap (λ k. k + 1) before.width;
    proper = All-append (AreRailsOf e) list (made ∷ []) (All-rails-kept second list before.proper) (one_proper e made proper);
    values = λ v wide.
        map-append (λ (q : Rails). value_of e q (laid net v)) list (made ∷ [])
        ∙ ap₂ (λ (xs : List Trit) (x : Trit). xs ++ x ∷ [])
        (values_of-kept second list before.proper (laid net v) ∙ before.values v wide)
        (value (laid net v) ∙ ap₂ (λ (c : Bool) (x : Trit). if c then x else X) (first.function set (laid net v) in_set) (source-kept v wide))
        ∙ sym (within-more net s set v n latch found);
  }
