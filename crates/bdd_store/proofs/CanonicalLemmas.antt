-- Nodes of one function are one node (Bryant 1986), and the laws of each store. Without marks each function is true
-- where all bits are 1, since no high branch has a mark: so equal functions have equal marks.
use Rattle.std.proofs.Common.{◌≡◌, ℕ, zero, suc, ◌+◌, ◌-◌, ◌<◌, ◌≤◌, Bool, true, false, List, length, drop, get_or, set, slice_get, replicate, Some, refl, sym, ap, ◌∙◌, ◌⊎◌, arith, length-set, get_or-set_same}
use Rattle.std.proofs.lemmas.List.{length-replicate, get_or-drop, get_or-replicate, drop-set-lt}
use Rattle.bdd_store.proofs.Common.{cases_lt, Node, Entry, Arena, index, is_marked, flipped, value_at, node_value, top_at, chosen, branch, IsSound, IsLawful}
use Rattle.bdd_store.specs.Soundness.{AreWithin, IsCanonical}
use Rattle.bdd_store.proofs.NodeLemmas.{flipped-same, flipped-marks, same_node}
use Rattle.bdd_store.proofs.ValueLemmas.{Earlier, branch_both, branch_low, by_branches, value_at-entry, value_at-zero, top_at-entry, top_at-zero, entry_at, top_of-low, den-constant}

-- lists that are alike from a place on have the same bits there
read_alike : (v i : ℕ) (xs ys : List Bool) → v ≤ i → drop v xs ≡ drop v ys → get_or xs i false ≡ get_or ys i false
read_alike v i xs ys le same = grind (arith, get_or-drop v xs (i - v) false, get_or-drop v ys (i - v) false)

module _ {vars : ℕ} {es : List Entry} (sound : IsSound vars es) where
  pub early : Earlier es
  early p e h = let s = sound.each p e h in (s.lo_earlier, s.hi_earlier)

  pub top_at-branching : (i : ℕ) → 1 ≤ i → i ≤ length es → top_at vars es i < vars
  top_at-branching zero some w = absurd (omega arith)
  top_at-branching (suc p) some w = let at = entry_at es p (omega arith) in omega (arith, (sound.each p at.0 at.1).within, top_at-entry vars es p at.0 at.1)

  pub top_at-within : (i : ℕ) → i ≤ length es → top_at vars es i ≤ vars
  top_at-within zero w = omega (arith, top_at-zero vars es)
  top_at-within (suc p) w = omega (arith, top_at-branching (suc p) (omega arith) w)

  pub branch_below : (p : ℕ) (e : Entry) (bit : Bool) → slice_get es p ≡ Some e → e.var < top_at vars es (index (branch e bit))
  branch_below p e bit at = let s = sound.each p e at in branch_both (λ n. e.var < top_at vars es (index n)) e bit s.lo_below s.hi_below

  -- a bit above a node's variable is not read
  value_at-drop : (v : ℕ) (xs ys : List Bool) → drop v xs ≡ drop v ys → (i : ℕ) → i ≤ length es → v ≤ top_at vars es i → value_at es i xs ≡ value_at es i ys
  value_at-drop v xs ys same = by_branches es (λ i. v ≤ top_at vars es i → value_at es i xs ≡ value_at es i ys) (λ le. value_at-zero es xs ∙ sym (value_at-zero es ys)) (λ p e at rest le.
      let read = read_alike v e.var xs ys (omega (arith, le, top_at-entry vars es p e at)) same in
      let next = chosen e ys in
      let below = branch_below p e (get_or ys e.var false) at in
      value_at-entry es early xs p e at
      ∙ ap (λ bit. node_value es (branch e bit) xs) read
      ∙ ap (flipped (is_marked next)) (rest (index next) (branch_low es early p e (get_or ys e.var false) at) (omega (arith, le, below, top_at-entry vars es p e at)))
      ∙ sym (value_at-entry es early ys p e at))

  value_at-set : (bits : List Bool) (v : ℕ) (b : Bool) (i : ℕ) → i ≤ length es → v < top_at vars es i → value_at es i (set bits v b) ≡ value_at es i bits
  value_at-set bits v b i w above = value_at-drop (suc v) (set bits v b) bits (drop-set-lt (suc v) bits v b (omega arith)) i w (omega arith)

  -- with the bit at its variable, an entry is its branch
  value_branch : (bit : Bool) (bits : List Bool) (p : ℕ) (e : Entry) → slice_get es p ≡ Some e → p < length es → length bits ≡ vars → value_at es (suc p) (set bits e.var bit) ≡ node_value es (branch e bit) bits
  value_branch bit bits p e at w len =
      let read : get_or (set bits e.var bit) e.var false ≡ bit = get_or-set_same bits e.var bit false (omega (arith, (sound.each p e at).within)) in
      let low = branch_low es early p e bit at in
      value_at-entry es early (set bits e.var bit) p e at
      ∙ ap (λ c. node_value es (branch e c) (set bits e.var bit)) read
      ∙ ap (flipped (is_marked (branch e bit))) (value_at-set bits e.var bit (index (branch e bit)) (omega arith) (branch_below p e bit at))

  abbrev ones : List Bool
  ones = replicate vars true

  -- where all bits are 1 the high branch is chosen, which has no mark
  value_at-ones : (i : ℕ) → i ≤ length es → value_at es i ones ≡ true
  value_at-ones = by_branches es (λ i. value_at es i ones ≡ true) (value_at-zero es ones) (λ p e at rest.
      let s = sound.each p e at in
      value_at-entry es early ones p e at
      ∙ ap (λ bit. node_value es (branch e bit) ones) (get_or-replicate vars e.var true false s.within)
      ∙ ap (λ m. flipped m (value_at es (index e.hi) ones)) s.unmarked
      ∙ rest (index e.hi) s.hi_earlier)

  abbrev SameAt : ℕ → ℕ → Type 0
  SameAt i j = (bits : List Bool) → length bits ≡ vars → value_at es i bits ≡ value_at es j bits

  abbrev SameNodes : Node → Node → Type 0
  SameNodes m n = (bits : List Bool) → length bits ≡ vars → node_value es m bits ≡ node_value es n bits

  -- nodes of one function have one mark
  same_marks : (m n : Node) → index m ≤ length es → index n ≤ length es → SameNodes m n → is_marked m ≡ is_marked n
  same_marks m n v w same = flipped-marks (is_marked m) (is_marked n) true (rw (value_at-ones (index m) v, value_at-ones (index n) w) at (same ones (length-replicate vars true)))

  -- and without it one function
  same_unmarked : (m n : Node) → index m ≤ length es → index n ≤ length es → SameNodes m n → SameAt (index m) (index n)
  same_unmarked m n v w same bits len = flipped-same (is_marked m) _ _ (same bits len ∙ ap (λ b. flipped b (value_at es (index n) bits)) (sym (same_marks m n v w same)))

  -- what holds of the branches of an entry, once it holds of all smaller indices
  abbrev Smaller : ℕ → Type 0
  Smaller k = (m n : Node) → index m < k → index n < k → index m ≤ length es → index n ≤ length es → SameNodes m n → m ≡ n

  -- no entry has the function of an index with a variable below its own, or its branches would be one
  no_higher : (k : ℕ) → Smaller k → (i j : ℕ) → i ≤ k → i ≤ length es → j ≤ length es → SameAt i j → top_at vars es i < top_at vars es j → ⊥
  no_higher k smaller zero j a v w same less = omega (arith, top_at-zero vars es, top_at-within j w)
  no_higher k smaller (suc p) j a v w same less =
      let at = entry_at es p v in
      let e = at.0 in
      let s = sound.each p e at.1 in
      let above : e.var < top_at vars es j = omega (arith, less, top_at-entry vars es p e at.1) in
      let branch_is : (bit : Bool) (bits : List Bool) → length bits ≡ vars → node_value es (branch e bit) bits ≡ value_at es j bits = λ bit bits len.
      sym (value_branch bit bits p e at.1 (omega arith) len) ∙ same (set bits e.var bit) (length-set bits e.var bit ∙ len) ∙ value_at-set bits e.var bit j w above in
      s.apart (ap (λ (n : Node). n.number) (smaller e.lo e.hi (omega (arith, s.lo_earlier)) (omega (arith, s.hi_earlier)) (omega (arith, s.lo_earlier)) (omega (arith, s.hi_earlier))
      (λ bits len. branch_is false bits len ∙ sym (branch_is true bits len))))

  -- entries of one variable and one function have equal branches, so they are one
  one_index : (k : ℕ) → Smaller k → (i j : ℕ) → i ≤ k → j ≤ k → i ≤ length es → j ≤ length es → SameAt i j → top_at vars es i ≡ top_at vars es j → i ≡ j
  one_index k smaller zero zero a b v w same tops = refl
  one_index k smaller zero (suc q) a b v w same tops = absurd (omega (arith, tops, top_at-zero vars es, top_at-branching (suc q) (omega arith) w))
  one_index k smaller (suc p) zero a b v w same tops = absurd (omega (arith, tops, top_at-zero vars es, top_at-branching (suc p) (omega arith) v))
  one_index k smaller (suc p) (suc q) a b v w same tops =
      let atp = entry_at es p (omega arith) in
      let atq = entry_at es q (omega arith) in
      let x = atp.0 in
      let y = atq.0 in
      let var : x.var ≡ y.var = sym (top_at-entry vars es p x atp.1) ∙ tops ∙ top_at-entry vars es q y atq.1 in
      let branches : (bit : Bool) → branch x bit ≡ branch y bit = λ bit.
      let low_x = branch_low es early p x bit atp.1 in
      let low_y = branch_low es early q y bit atq.1 in
      smaller (branch x bit) (branch y bit) (omega arith) (omega arith) (omega arith) (omega arith)
      (λ bits len. sym (value_branch bit bits p x atp.1 (omega arith) len) ∙ same (set bits x.var bit) (length-set bits x.var bit ∙ len) ∙ ap (λ v. value_at es (suc q) (set bits v bit)) var ∙ value_branch bit bits q y atq.1 (omega arith) len) in
      let one : x ≡ y = λ i. record { var = var i; lo = branches false i; hi = branches true i } in
      ap suc (sound.once p q x atp.1 (atq.1 ∙ ap Some (sym one)))

  compare : (i j : ℕ) → (i < j) ⊎ ((j < i) ⊎ (i ≡ j))
  compare i j = grind arith

  pub same_nodes : (k : ℕ) → Smaller k
  same_nodes zero m n a b v w same = absurd (omega arith)
  same_nodes (suc k) m n a b v w same =
      grind (arith, same_unmarked m n v w same, same_node m n, compare (top_at vars es (index m)) (top_at vars es (index n)), no_higher k (same_nodes k) (index m) (index n), same_nodes k, no_higher k (same_nodes k) (index n) (index m), one_index k (same_nodes k) (index m) (index n), same_marks m n v w same)

-- nodes of one function are one node
pub IsCanonical-sound : (a : Arena) → IsSound a.vars a.entries → IsCanonical a
IsCanonical-sound a sound m n in_m in_n same = same_nodes sound (suc (index m + index n)) m n (omega arith) (omega arith) in_m in_n same

pub IsLawful-sound : (a : Arena) → IsSound a.vars a.entries → AreWithin a.roots (length a.entries) → IsLawful a
IsLawful-sound a sound roots = grind (arith, IsCanonical-sound, den-constant, value_at-drop, top_at-within, top_at-branching, cases_lt, top_of-low)
