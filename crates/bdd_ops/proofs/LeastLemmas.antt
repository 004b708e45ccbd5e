-- The way to the least vector: the bits up to the node that is reached are at most those of each vector at which
-- the function is true.
use Rattle.std.proofs.Common.{◌≡◌, ◌≢◌, ℕ, zero, suc, ◌+◌, ◌-◌, ◌<◌, ◌≤◌, Bool, true, false, List, [], ◌∷◌, ◌++◌, length, drop, get_or, set, replicate, refl, sym, ap, subst, ◌∙◌, arith, append_assoc, length-append, nat_eq, eq-eqb, true≢false}
use Rattle.std.proofs.lemmas.Bool.{eqb-true}
use Rattle.std.proofs.lemmas.List.{append-nil, length-replicate, get_or_at, drop_all, replicate-append-replicate}
use Rattle.std.proofs.Math.Seq.{drop-cons, set-append_seam}
use Rattle.bdd_store.specs.declared.node.Node.{Node}
use Rattle.bdd_store.specs.Arena.{Arena, constant, den, top_of, IsNodeOf}
use Rattle.bdd_store.specs.Soundness.{IsLawful}
use Rattle.cyc_base.specs.Vectors.{AtMost}
use Rattle.bdd_ops.specs.Least.{IsLeast}

-- one more bit of a list is cleared
pub cleared-more : (n : ℕ) (d : List Bool) → n < length d → set (replicate n false ++ drop n d) n false ≡ replicate (n + 1) false ++ drop (n + 1) d
cleared-more n d h =
    let rest = drop (suc n) d in
    grind (arith, drop-cons d n false h, length-replicate n false, set-append_seam (replicate n false) (get_or d n false) rest false, append_assoc (replicate n false) (false ∷ []) rest, replicate-append-replicate n 1 false)

pub cleared-all : (n : ℕ) (d out : List Bool) → n ≡ length d → out ≡ replicate n false ++ drop n d → out ≡ replicate (length d) false
cleared-all n d out e h = h ∙ ap (λ k. replicate k false ++ drop k d) e ∙ ap (λ l. replicate (length d) false ++ l) (drop_all (length d) d (omega arith)) ∙ append-nil (replicate (length d) false)

AtMost-zeros : (m : ℕ) (w : List Bool) → m ≤ length w → AtMost (replicate m false) w
AtMost-zeros zero w h = tt
AtMost-zeros (suc m) [] h = absurd (omega arith)
AtMost-zeros (suc m) (false ∷ w) h = AtMost-zeros m w (omega arith)
AtMost-zeros (suc m) (true ∷ w) h = tt

-- one more bit, which is 1 only where w has 1 there too if it agrees so far
pub AtMost-extend : (p : List Bool) (c : Bool) (m : ℕ) (w : List Bool) → AtMost p w → length p + (1 + m) ≤ length w → ((rest : List Bool) → w ≡ p ++ false ∷ rest → c ≡ false) → AtMost (p ++ c ∷ replicate m false) w
AtMost-extend [] c m [] h long ok = absurd (omega arith)
AtMost-extend [] false m (false ∷ w) h long ok = AtMost-zeros m w (omega arith)
AtMost-extend [] false m (true ∷ w) h long ok = tt
AtMost-extend [] true m (true ∷ w) h long ok = AtMost-zeros m w (omega arith)
AtMost-extend [] true m (false ∷ w) h long ok = absurd (true≢false (ok w refl))
AtMost-extend (x ∷ p) c m [] h long ok = absurd h
AtMost-extend (false ∷ p) c m (false ∷ w) h long ok = AtMost-extend p c m w h (omega arith) (λ rest e. ok rest (ap (λ l. false ∷ l) e))
AtMost-extend (false ∷ p) c m (true ∷ w) h long ok = tt
AtMost-extend (true ∷ p) c m (false ∷ w) h long ok = absurd h
AtMost-extend (true ∷ p) c m (true ∷ w) h long ok = AtMost-extend p c m w h (omega arith) (λ rest e. ok rest (ap (λ l. true ∷ l) e))

-- from the root to a node: the bits before the node's variable are decided, and all others are 0
pub record IsOnWay (s : Arena) (root at : Node) (out : List Bool) : Type 0 where
  pub node : IsNodeOf s at
  pub alive : at ≢ constant false
  pub first : List Bool
  pub out_is : out ≡ first ++ replicate (s.vars - length first) false
  pub place : length first ≡ top_of s at
  pub agree : (rest : List Bool) → den s root (first ++ rest) ≡ den s at (first ++ rest)
  pub before : (w : List Bool) → length w ≡ s.vars → den s root w ≡ true → AtMost first w

pub IsOnWay-start : (s : Arena) → IsLawful s → (root : Node) (out : List Bool) → IsNodeOf s root → root ≢ constant false → out ≡ replicate s.vars false → IsOnWay s root root out
IsOnWay-start s lawful root out node alive e =
    let k = top_of s root in
    grind (arith, length-replicate k false, replicate-append-replicate k (s.vars - length (replicate k false)) false, AtMost-zeros k)

module _ (s : Arena) (lawful : IsLawful s) (root at next : Node) (out : List Bool) (way : IsOnWay s root at out) (c : Bool)
    (in_next : IsNodeOf s next) (lower : top_of s at < top_of s next) (alive : next ≢ constant false)
    (function : (bits : List Bool) → get_or bits (top_of s at) false ≡ c → den s at bits ≡ den s next bits)
    (other : c ≡ true → (bits : List Bool) → get_or bits (top_of s at) false ≡ false → den s at bits ≡ false) where
  abbrev skipped : ℕ
  skipped = top_of s next - (top_of s at + 1)

  abbrev longer : List Bool
  longer = way.first ++ c ∷ replicate skipped false

  length-longer : length longer ≡ top_of s next
  length-longer = omega (arith, length-append way.first (c ∷ replicate skipped false), length-replicate skipped false, way.place, lower)

  next_within : top_of s next ≤ s.vars
  next_within = lawful.within next in_next

  allowed : (w : List Bool) → den s root w ≡ true → (rest : List Bool) → w ≡ way.first ++ false ∷ rest → c ≡ false
  allowed w true_there rest e = grind (arith, true≢false, get_or_at)

  pub IsOnWay-next : (out' : List Bool) → out' ≡ way.first ++ c ∷ replicate (s.vars - (top_of s at + 1)) false → IsOnWay s root next out'
  IsOnWay-next out' e = record {
    node = in_next;
    alive = alive;
    first = longer;
    out_is =
        let rest = s.vars - length longer in
        let whole : skipped + rest ≡ s.vars - (top_of s at + 1) = omega (arith, length-longer, next_within, lower) in
        e ∙ ap (λ n. way.first ++ c ∷ replicate n false) (sym whole) ∙ ap (λ l. way.first ++ c ∷ l) (sym (replicate-append-replicate skipped rest false)) ∙ sym (append_assoc way.first (c ∷ replicate skipped false) (replicate rest false));
    place = length-longer;
    agree = λ rest.
        let after = replicate skipped false ++ rest in
        let apart : longer ++ rest ≡ way.first ++ c ∷ after = append_assoc way.first (c ∷ replicate skipped false) rest in
        ap (den s root) apart ∙ way.agree (c ∷ after) ∙ function (way.first ++ c ∷ after) (get_or_at way.first c after false (top_of s at) way.place) ∙ ap (den s next) (sym apart);
    before = λ w len true_there. AtMost-extend way.first c skipped w (way.before w len true_there) (omega (arith, way.place, lower, next_within, len)) (allowed w true_there);
  }

-- what the way has written, with the bit at the node's variable apart
pub out_apart : (s : Arena) (root at : Node) (out : List Bool) (way : IsOnWay s root at out) → top_of s at < s.vars → out ≡ way.first ++ false ∷ replicate (s.vars - (top_of s at + 1)) false
out_apart s root at out way within =
    let one : s.vars - length way.first ≡ suc (s.vars - (top_of s at + 1)) = omega (arith, way.place, within) in
    way.out_is ∙ ap (λ n. way.first ++ replicate n false) one

-- and with that bit set
pub out_with_one : (s : Arena) (root at : Node) (out : List Bool) (way : IsOnWay s root at out) → top_of s at < s.vars → (k : ℕ) → k ≡ top_of s at → set out k true ≡ way.first ++ true ∷ replicate (s.vars - (top_of s at + 1)) false
out_with_one s root at out way within k e =
    let zeros = replicate (s.vars - (top_of s at + 1)) false in
    ap (λ l. set l k true) (out_apart s root at out way within) ∙ ap (λ i. set (way.first ++ false ∷ zeros) i true) (e ∙ sym way.place) ∙ set-append_seam way.first false zeros true

-- what a comparison with the constant false tells
pub is_no_constant : (m zero_node : Node) (r : Bool) → r ≡ nat_eq m.number zero_node.number → r ≡ false → zero_node ≡ constant false → m ≢ constant false
is_no_constant m zero_node r is differs e same = true≢false (sym (eq-eqb m.number zero_node.number (ap (λ (n : Node). n.number) (same ∙ sym e))) ∙ sym is ∙ differs)

pub is_the_constant : (m zero_node : Node) (r : Bool) → r ≡ nat_eq m.number zero_node.number → r ≡ true → zero_node ≡ constant false → m ≡ constant false
is_the_constant m zero_node r is same e = (λ j. record { number = eqb-true m.number zero_node.number (sym is ∙ same) j }) ∙ e

pub number_one : (n : Node) → n.number < 2 → n ≢ constant false → n ≡ constant true
number_one n low apart = grind arith

top_of-low : (s : Arena) → IsLawful s → (at : Node) → IsNodeOf s at → at.number < 2 → top_of s at ≡ s.vars
top_of-low s lawful at node low = grind arith

-- at the end the bits are the least vector
pub IsLeast-end : (s : Arena) → IsLawful s → (root at : Node) (out : List Bool) → IsOnWay s root at out → at.number < 2 → IsLeast (den s root) out
IsLeast-end s lawful root at out way low =
    let top = top_of-low s lawful at way.node low in
    let none : s.vars - length way.first ≡ 0 = omega (arith, way.place, top) in
    let e : out ≡ way.first ++ [] = way.out_is ∙ ap (λ n. way.first ++ replicate n false) none in
    let whole : out ≡ way.first = e ∙ append-nil way.first in
    let long : length out ≡ s.vars = ap length whole ∙ way.place ∙ top in
    record {
      true_there = ap (den s root) e ∙ way.agree [] ∙ ap (λ (n : Node). den s n (way.first ++ [])) (number_one at low way.alive) ∙ lawful.constants true (way.first ++ []);
      before_all = λ w len true_there. subst (λ (v : List Bool). AtMost v w) (sym whole) (way.before w (len ∙ long) true_there);
    }

-- a node both of whose branches are false would be false itself
pub high_alive : (s : Arena) → IsLawful s → (at low high : Node) → IsNodeOf s at → 2 ≤ at.number → low ≡ constant false
    → ((bits : List Bool) → get_or bits (top_of s at) false ≡ false → den s at bits ≡ den s low bits)
    → ((bits : List Bool) → get_or bits (top_of s at) false ≡ true → den s at bits ≡ den s high bits) → high ≢ constant false
high_alive s lawful at low high node branching low_is at_low at_high high_is =
    let same : at ≡ constant false = lawful.canonical at (constant false) node (omega arith) (λ bits len. by bits (get_or bits (top_of s at) false) refl ∙ sym (lawful.constants false bits)) in
    let number : at.number ≡ 0 = ap (λ (n : Node). n.number) same in
    omega arith
  where
    by : (bits : List Bool) (b : Bool) → get_or bits (top_of s at) false ≡ b → den s at bits ≡ false
    by bits false read = at_low bits read ∙ ap (λ (n : Node). den s n bits) low_is ∙ lawful.constants false bits
    by bits true read = at_high bits read ∙ ap (λ (n : Node). den s n bits) high_is ∙ lawful.constants false bits
