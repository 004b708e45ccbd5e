-- Which values a node's function takes at the vectors by column that begin with given bits: by its branches, and some
-- vector for each function but the constant false.
use Rattle.std.proofs.Common.{◌≡◌, ◌≢◌, ◌↔◌, ℕ, zero, suc, ◌+◌, ◌-◌, ◌*◌, ◌<◌, ◌≤◌, Bool, true, false, not, ◌||◌, if◌then◌else◌, List, [], ◌∷◌, length, take, get_or, set, slice_get, replicate, Option, Some, None, refl, sym, ap, subst, ◌∙◌, inl, inr, ◌⊎◌, arith, length-set, length-append, get_or-set_same, get_or-set_other, true≢false}
use Rattle.std.proofs.lemmas.Bool.{cases_eq, cases_lt}
use Rattle.std.proofs.lemmas.List.{length-replicate, get_or-take, take-set-le, get_or-map, drop-set-lt}
use Rattle.std.proofs.lemmas.Option.{none-some, slice_get-get_or, slice_get_within, get_or_from_slice_get}
use Rattle.std.proofs.Math.Seq.{take-append_seam}
use Rattle.bdd_store.specs.declared.node.Node.{Node}
use Rattle.bdd_store.specs.Arena.{Arena, index, is_marked, flipped, den, value_at, top_of, IsNodeOf}
use Rattle.bdd_store.specs.Soundness.{IsLawful}
use Rattle.bdd_store.proofs.NodeLemmas.{plain}
use Rattle.bdd_store.proofs.ValueLemmas.{value_at-zero}
use Rattle.bdd_ops.specs.declared.least_by.Values.{Values}
use Rattle.bdd_ops.specs.Apply.{IsCofactor}
use Rattle.bdd_ops.specs.Least.{IsLayout, by_variable}
use Rattle.bdd_ops.specs.Possible.{Takes, AreValuesOf, flipped_values, branch_values, value_by, AreFound}

-- ---- vectors by column

-- a bit by variable is the one at its column
pub by_variable-read : (columns : List ℕ) (v : List Bool) (k : ℕ) → k < length columns → get_or (by_variable columns v) k false ≡ get_or v (get_or columns k 0) false
by_variable-read columns v k less = get_or-map (λ c. get_or v c false) columns k 0 false less

pub set-other : (columns : List ℕ) (v : List Bool) (c : ℕ) (b : Bool) → ((j : ℕ) → j < length columns → get_or columns j 0 ≢ c) → by_variable columns (set v c b) ≡ by_variable columns v
set-other [] v c b apart = refl
set-other (x ∷ columns) v c b apart =
    let head : get_or (set v c b) x false ≡ get_or v x false = get_or-set_other v c x b false (apart 0 (omega arith)) in
    let rest = set-other columns v c b (λ j less. apart (suc j) (omega arith)) in
    λ i. head i ∷ rest i

-- a bit that is set at a column is set at its variable
pub by_variable-set : (columns : List ℕ) (v : List Bool) (k c : ℕ) (b : Bool) → k < length columns → get_or columns k 0 ≡ c → c < length v → ((j : ℕ) → j < length columns → get_or columns j 0 ≡ c → j ≡ k) → by_variable columns (set v c b) ≡ set (by_variable columns v) k b
by_variable-set [] v k c b less at within once = absurd (omega arith)
by_variable-set (x ∷ columns) v zero c b less at within once =
    let head : get_or (set v c b) x false ≡ b = ap (λ j. get_or (set v c b) j false) at ∙ get_or-set_same v c b false within in
    let rest = set-other columns v c b (λ j l same. omega (arith, once (suc j) (omega arith) same)) in
    λ i. head i ∷ rest i
by_variable-set (x ∷ columns) v (suc k) c b less at within once =
    let apart : x ≢ c = λ same. omega (arith, once 0 (omega arith) same) in
    let head : get_or (set v c b) x false ≡ get_or v x false = get_or-set_other v c x b false apart in
    let rest = by_variable-set columns v k c b (omega arith) at within (λ j l same. omega (arith, once (suc j) (omega arith) same)) in
    λ i. head i ∷ rest i

-- ---- values

-- functions with one value everywhere take the same values
pub AreValuesOf-alike : (f g : List Bool → Bool) (count : ℕ) (first : List Bool) (v : Values) → ((w : List Bool) → f w ≡ g w) → AreValuesOf f count first v → AreValuesOf g count first v
AreValuesOf-alike f g count first v same are = grind arith

-- of the complement
AreValuesOf-not : (f : List Bool → Bool) (count : ℕ) (first : List Bool) (v : Values) → AreValuesOf f count first v → AreValuesOf (λ w. not (f w)) count first (record { one = v.zero; zero = v.one })
AreValuesOf-not f count first v are = grind arith

pub AreValuesOf-flipped : (m : Bool) (f : List Bool → Bool) (count : ℕ) (first : List Bool) (v : Values) → AreValuesOf f count first v → AreValuesOf (λ w. flipped m (f w)) count first (flipped_values m v)
AreValuesOf-flipped true f count first v are = AreValuesOf-not f count first v are
AreValuesOf-flipped false f count first v are = are

-- the constant true has the value 1, and no other
AreValuesOf-true : (f : List Bool → Bool) (count : ℕ) (first : List Bool) → length first ≤ count → ((w : List Bool) → f w ≡ true) → AreValuesOf f count first (record { one = true; zero = false })
AreValuesOf-true f count first short ever = grind (arith, length-append first (replicate (count - length first) false), length-replicate (count - length first) false, take-append_seam first (replicate (count - length first) false), true≢false)

-- ---- branches

module _ (s : Arena) (lawful : IsLawful s) (columns : List ℕ) (are : IsLayout s.vars columns) (n lo hi : Node) (within : top_of s n < s.vars)
    (low : IsCofactor s n (top_of s n) false lo) (high : IsCofactor s n (top_of s n) true hi) (first : List Bool) where
  abbrev column : ℕ
  column = get_or columns (top_of s n) 0

  abbrev of_node : Node → List Bool → Bool
  of_node m w = den s m (by_variable columns w)

  read : (w : List Bool) (b : Bool) → get_or w column false ≡ b → get_or (by_variable columns w) (top_of s n) false ≡ b
  read w b at = by_variable-read columns w (top_of s n) (omega (arith, are.long, within)) ∙ at

  -- the function is the branch's, by the bit at the column
  pub same_there : (w : List Bool) (b : Bool) → get_or w column false ≡ b → of_node n w ≡ of_node (if b then hi else lo) w
  same_there w b at = grind (arith, read)

  -- the branch doesn't read the bit
  unread : (m : Node) → IsNodeOf s m → top_of s n < top_of s m → (w : List Bool) (b : Bool) → length w ≡ s.vars → of_node m (set w column b) ≡ of_node m w
  unread m in_m lower w b long =
      let k = top_of s n in
      let placed : by_variable columns (set w column b) ≡ set (by_variable columns w) k b = by_variable-set columns w k column b (omega (arith, are.long, within)) refl (omega (arith, long, are.within k within)) (λ j less same. are.once j k (omega (arith, are.long)) within same) in
      ap (den s m) placed ∙ lawful.support m (suc k) (set (by_variable columns w) k b) (by_variable columns w) in_m lower (drop-set-lt (suc k) (by_variable columns w) k b (omega arith))

  -- where the bit is open, each value of a branch is the node's
  lifted : (b v : Bool) → length first ≤ column → Takes (of_node (if b then hi else lo)) s.vars first v → Takes (of_node n) s.vars first v
  lifted b v unset t =
      let at : get_or (set t.vector column b) column false ≡ b = get_or-set_same t.vector column b false (omega (arith, t.long, are.within (top_of s n) within)) in
      record {
        vector = set t.vector column b;
        long = length-set t.vector column b ∙ t.long;
        begins = take-set-le (length first) t.vector column b unset ∙ t.begins;
        value_there = same_there (set t.vector column b) b at ∙ by b t ∙ t.value_there;
      }
    where
      by : (b : Bool) (t : Takes (of_node (if b then hi else lo)) s.vars first v) → of_node (if b then hi else lo) (set t.vector column b) ≡ of_node (if b then hi else lo) t.vector
      by b t = grind (arith, unread)

  split : (v : Bool) → Takes (of_node n) s.vars first v → Takes (of_node hi) s.vars first v ⊎ Takes (of_node lo) s.vars first v
  split v t = by (get_or t.vector column false) refl
    where
      by : (b : Bool) → get_or t.vector column false ≡ b → Takes (of_node hi) s.vars first v ⊎ Takes (of_node lo) s.vars first v
      by true at = inl (record { vector = t.vector; long = t.long; begins = t.begins; value_there = sym (same_there t.vector true at) ∙ t.value_there })
      by false at = inr (record { vector = t.vector; long = t.long; begins = t.begins; value_there = sym (same_there t.vector false at) ∙ t.value_there })

  -- where the bit is given, the node has the values of that branch
  given_bit : (w : List Bool) (bit : Bool) → slice_get first column ≡ Some bit → take (length first) w ≡ first → get_or w column false ≡ bit
  given_bit w bit at begins = grind (arith, slice_get_within, get_or-take, get_or_from_slice_get)

  given_one : (bit v : Bool) → slice_get first column ≡ Some bit → Takes (of_node n) s.vars first v ↔ Takes (of_node (if bit then hi else lo)) s.vars first v
  given_one bit v at = (
    λ t. record { vector = t.vector; long = t.long; begins = t.begins; value_there = sym (same_there t.vector bit (given_bit t.vector bit at t.begins)) ∙ t.value_there },
    λ t. record { vector = t.vector; long = t.long; begins = t.begins; value_there = same_there t.vector bit (given_bit t.vector bit at t.begins) ∙ t.value_there },
  )

  either_true : (a b : Bool) → (a || b) ≡ true → (a ≡ true) ⊎ (b ≡ true)
  either_true a b h = grind arith

  or_left : (a b : Bool) → a ≡ true → (a || b) ≡ true
  or_left a b h = ap (λ c. c || b) h

  or_right : (a b : Bool) → b ≡ true → (a || b) ≡ true
  or_right a b h = grind arith

  pub AreValuesOf-branches : (vl vh : Values) → AreValuesOf (of_node lo) s.vars first vl → AreValuesOf (of_node hi) s.vars first vh → AreValuesOf (of_node n) s.vars first (branch_values vl vh (slice_get first column))
  AreValuesOf-branches vl vh at_lo at_hi = by (slice_get first column) refl
    where
      given : (bit : Bool) → slice_get first column ≡ Some bit → AreValuesOf (of_node (if bit then hi else lo)) s.vars first (if bit then vh else vl)
      given bit at = grind arith

      by : (o : Option Bool) → slice_get first column ≡ o → AreValuesOf (of_node n) s.vars first (branch_values vl vh o)
      by (Some bit) at =
          let v = given bit at in
          record {
            one = (λ h. (given_one bit true at).1 (v.one.0 h), λ t. v.one.1 ((given_one bit true at).0 t));
            zero = (λ h. (given_one bit false at).1 (v.zero.0 h), λ t. v.zero.1 ((given_one bit false at).0 t));
          }
      by None at =
          let unset : length first ≤ column = elim (cases_lt column (length first)) [ inl less ↦ absurd (none-some (get_or first column false) (sym at ∙ slice_get-get_or first column false less)) | inr past ↦ past ] in
          record {
            one = (
              λ h. elim (either_true vl.one vh.one h) [ inl l ↦ lifted false true unset (at_lo.one.0 l) | inr r ↦ lifted true true unset (at_hi.one.0 r) ],
              λ t. elim (split true t) [ inl u ↦ or_right vl.one vh.one (at_hi.one.1 u) | inr u ↦ or_left vl.one vh.one (at_lo.one.1 u) ],
            );
            zero = (
              λ h. elim (either_true vl.zero vh.zero h) [ inl l ↦ lifted false false unset (at_lo.zero.0 l) | inr r ↦ lifted true false unset (at_hi.zero.0 r) ],
              λ t. elim (split false t) [ inl u ↦ or_right vl.zero vh.zero (at_hi.zero.1 u) | inr u ↦ or_left vl.zero vh.zero (at_lo.zero.1 u) ],
            );
          }

  -- where no bit is given, a branch that is true somewhere makes the node true somewhere
  pub Takes-branch : (b : Bool) → length first ≤ column → Takes (of_node (if b then hi else lo)) s.vars first true → Takes (of_node n) s.vars first true
  Takes-branch b unset t = lifted b true unset t

slice_get-set_other : {X : Type 0} (xs : List X) (i j : ℕ) (x : X) → j ≢ i → slice_get (set xs i x) j ≡ slice_get xs j
slice_get-set_other [] i j x apart = refl
slice_get-set_other (y ∷ xs) zero zero x apart = absurd (apart refl)
slice_get-set_other (y ∷ xs) zero (suc j) x apart = refl
slice_get-set_other (y ∷ xs) (suc i) zero x apart = refl
slice_get-set_other (y ∷ xs) (suc i) (suc j) x apart = slice_get-set_other xs i j x (λ same. apart (ap suc same))

-- ---- the values at all indices, from the first on

-- a node's function is that of its index, negated where there is a mark
pub of_index : (s : Arena) (columns : List ℕ) (first : List Bool) (found : List Values) (last : ℕ) (n : Node) (v : Values) → AreFound s columns first found last → index n ≤ last → slice_get found (index n) ≡ Some v → AreValuesOf (λ w. den s n (by_variable columns w)) s.vars first (flipped_values (is_marked n) v)
of_index s columns first found last n v are le at = AreValuesOf-flipped (is_marked n) (value_by s columns (index n)) s.vars first v (are (index n) v (omega arith) at)

pub AreFound-start : (s : Arena) (columns : List ℕ) (first : List Bool) (found : List Values) → length first ≤ s.vars → 0 < length found → AreFound s columns first (set found 0 (record { one = true; zero = false })) 0
AreFound-start s columns first found short some i v less at =
    let yes : Values = record { one = true; zero = false } in
    let is : i ≡ 0 = omega arith in
    let v_is : v ≡ yes = sym (get_or_from_slice_get (set found 0 yes) i v yes at) ∙ ap (λ j. get_or (set found 0 yes) j yes) is ∙ get_or-set_same found 0 yes yes some in
    subst (AreValuesOf (value_by s columns i) s.vars first) (sym v_is) (subst (λ j. AreValuesOf (value_by s columns j) s.vars first yes) (sym is) (AreValuesOf-true (value_by s columns 0) s.vars first short (λ w. value_at-zero s.entries (by_variable columns w))))

module _ (s : Arena) (lawful : IsLawful s) (columns : List ℕ) (are : IsLayout s.vars columns) (n lo hi : Node) (p : ℕ) (number : n.number ≡ 2 * p + 3) (within : top_of s n < s.vars)
    (low : IsCofactor s n (top_of s n) false lo) (high : IsCofactor s n (top_of s n) true hi) (lower : index lo ≤ p) (higher : index hi ≤ p) (first : List Bool) where
  -- one index more
  pub AreFound-next : (found new : List Values) (vl vh ul uh v : Values) → slice_get found (index lo) ≡ Some vl → slice_get found (index hi) ≡ Some vh → ul ≡ flipped_values (is_marked lo) vl → uh ≡ flipped_values (is_marked hi) vh → v ≡ branch_values ul uh (slice_get first (get_or columns (top_of s n) 0)) → new ≡ set found (p + 1) v → suc p < length found → AreFound s columns first found p → AreFound s columns first new (p + 1)
  AreFound-next found new vl vh ul uh v at_lo at_hi ul_is uh_is v_is new_is room were i x less at = elim (cases_eq i (p + 1)) [
    | inl here ↦
        let x_is : x ≡ v = sym (get_or_from_slice_get new i x v at) ∙ (λ j. get_or (new_is j) (here j) v) ∙ get_or-set_same found (p + 1) v v (omega arith) in
        let plain_is = plain n p number in
        let same : (w : List Bool) → den s n (by_variable columns w) ≡ value_by s columns i w = λ w. ap (λ m. flipped m (value_at s.entries (index n) (by_variable columns w))) plain_is.1 ∙ ap (λ j. value_at s.entries j (by_variable columns w)) (plain_is.0 ∙ sym here) in
        let of_lo = of_index s columns first found p lo vl were lower at_lo in
        let of_hi = of_index s columns first found p hi vh were higher at_hi in
        let node = AreValuesOf-branches s lawful columns are n lo hi within low high first ul uh (subst (AreValuesOf (λ w. den s lo (by_variable columns w)) s.vars first) (sym ul_is) of_lo) (subst (AreValuesOf (λ w. den s hi (by_variable columns w)) s.vars first) (sym uh_is) of_hi) in
        subst (AreValuesOf (value_by s columns i) s.vars first) (sym (x_is ∙ v_is)) (AreValuesOf-alike (λ w. den s n (by_variable columns w)) (value_by s columns i) s.vars first _ same node)
    | inr apart ↦
        let before : i < suc p = omega (arith, apart) in
        were i x before (sym (slice_get-set_other found (p + 1) i v apart) ∙ ap (λ xs. slice_get xs i) (sym new_is) ∙ at)
  ]
