-- Gates of a netlist that stand one behind another in a larger one: they work there with the functions that they have alone.
use Rattle.std.proofs.Common.{◌≡◌, ◌⊎◌, inl, inr, ℕ, zero, suc, ◌+◌, ◌-◌, ◌<◌, ◌≤◌, Bool, false, ◌&&◌, List, [], ◌∷◌, ◌++◌, length, map, drop, filter, replicate, get_or, refl, sym, ap, ap₂, subst, ◌∙◌, arith}
use Rattle.std.specs.Prelude.{Contains}
use Rattle.miters.proofs.Common.{range_with_len, cases_lt, false_from_ne_true, get_or-map, get_or_append_left, get_or-append-add, length-append, length-map, map-id, length-range_with_len, get_or-range_with_len, length-map-range_with_len, get_or-map-range_with_len, map-map, Sig, Trit, X, bit, bits, Parts, signal, gate_at, gate_sig, no_gate, IsSignal, IsNetlist, wire, fix, fix_gates, first_gate, map_agree}
use Rattle.equal.proofs.Common.{loops_of, IsGatePart}
use Rattle.std.proofs.lemmas.Bool.{cases_Bool, le-leb, lt-leb}
use Rattle.std.proofs.lemmas.List.{length-replicate}
use Rattle.loops.specs.Sweeps.{gate_of, value_in, pin_in, sweeps, cuts_of}
use Rattle.fixpoint.specs.Working.{read_in_sweep, read_at_fix, IsReadInSweep, IsReadAtFix}
use Rattle.std.proofs.lemmas.List.Elements.{filter-append}
use Rattle.cover_logic.specs.Covers.{value}
use Rattle.cover_logic.specs.Extensions.{exact}
use Rattle.dual_rail.specs.WorkingLists.{is_bit}
use Rattle.netlist.specs.Walks.{Feeds, Walk}
use Rattle.loops.specs.Walks.{SameLoop}
use Rattle.loops.proofs.Existence.{loops_exist}
use Rattle.isolation.specs.Excerpts.{origins, origin, gate_in, inputs_in, IsExcerpt, AreWhole}
use Rattle.isolation.specs.Laws.{Keeps, column_signals}
use Rattle.isolation.proofs.ConeLemmas.{columns_give_vectors, excerpts_keep}
use Rattle.miters.proofs.LatchlessLemmas.{bare, first-bare, valid-bare, part-of-bare}
use Rattle.miters.proofs.PartLemmas.{IsPartOf, fix_at}

-- ---- filters of numbers

range_append : (s m n : ℕ) → range_with_len s (m + n) ≡ range_with_len s m ++ range_with_len (s + m) n
range_append s zero n = ap₂ range_with_len (let e : s ≡ s + 0 = omega arith in e) (let e : 0 + n ≡ n = omega arith in e)
range_append s (suc m) n =
    ap (range_with_len s) (let e : suc m + n ≡ suc (m + n) = omega arith in e)
    ∙ ap (λ xs. s ∷ xs) (range_append (s + 1) m n ∙ ap (λ k. range_with_len (s + 1) m ++ range_with_len k n) (let e : s + 1 + m ≡ s + suc m = omega arith in e))

filter_split : (p : ℕ → Bool) (s m n : ℕ) → length (filter p (range_with_len s (m + n))) ≡ length (filter p (range_with_len s m)) + length (filter p (range_with_len (s + m) n))
filter_split p s m n =
    ap (λ xs. length (filter p xs)) (range_append s m n)
    ∙ ap length (filter-append p (range_with_len s m) (range_with_len (s + m) n))
    ∙ length-append (filter p (range_with_len s m)) (filter p (range_with_len (s + m) n))

filter_none : (p : ℕ → Bool) (s n : ℕ) → ((k : ℕ) → s ≤ k → k < s + n → p k ≡ false) → length (filter p (range_with_len s n)) ≡ 0
filter_none p s zero none = refl
filter_none p s (suc n) none = grind (arith, filter_none p (s + 1) n)

filter_shift : (p q : ℕ → Bool) (s t n : ℕ) → ((k : ℕ) → k < n → p (s + k) ≡ q (t + k)) → length (filter p (range_with_len s n)) ≡ length (filter q (range_with_len t n))
filter_shift p q s t zero same = refl
filter_shift p q s t (suc n) same =
    let rest = filter_shift p q (s + 1) (t + 1) n (λ k less.
    ap p (let e : s + 1 + k ≡ s + suc k = omega arith in e) ∙ same (suc k) (omega (arith, less)) ∙ ap q (let e : t + suc k ≡ t + 1 + k = omega arith in e)) in
    let here : p s ≡ q t = ap p (let e : s ≡ s + 0 = omega arith in e) ∙ same 0 (omega arith) ∙ ap q (let e : t + 0 ≡ t = omega arith in e) in
    elim (cases_Bool (q t)) [ inl e ↦ rw (here, e) (ap suc rest) | inr e ↦ rw (here, e) rest ]

-- the columns of the small netlist have there the values of u
abbrev AreGiven : Parts → Parts → (Sig → Sig) → List Bool → List Bool → Type 0
AreGiven big small at v u = (s : Sig) → s.0 < first_gate small → wire (fix big (bits v)) (at s) ≡ get_or (bits u) s.0 X

-- each gate of the small netlist is in such a loop there, and reads what it reads alone
pub record ReadsAlike (big small : Parts) (at : Sig → Sig) (place : ℕ → ℕ) : Type 0 where
  pub same : (i j : ℕ) → i < length small.gates → j < length small.gates → (loops_of small).same i j ≡ (loops_of big).same (place i) (place j)
  pub cuts : (i : ℕ) → i < length small.gates → length (cuts_of big (loops_of big) (place i)) ≡ length (cuts_of small (loops_of small) i)
  pub in_sweep : (v u : List Bool) → length v ≡ first_gate big → length u ≡ first_gate small → AreGiven big small at v u → (k i : ℕ) → i < length small.gates →
      read_in_sweep small (loops_of small) (bits u) k i ≡ read_in_sweep big (loops_of big) (bits v) k (place i)
  pub at_fix : (v u : List Bool) → length v ≡ first_gate big → length u ≡ first_gate small → AreGiven big small at v u → (i : ℕ) → i < length small.gates →
      read_at_fix small (bits u) i ≡ read_at_fix big (bits v) (place i)

module _ (big small : Parts) (at : Sig → Sig) (place : ℕ → ℕ) (base : ℕ) (in_row : (n : ℕ) → place n ≡ base + n) (part : IsPartOf small big at place) (valid : IsNetlist small) (plain : length small.latches ≡ 0) where
  abbrev size : ℕ
  size = length small.gates

  abbrev gates : List ℕ
  gates = range_with_len base (length small.gates)

  abbrev outside : List Sig
  outside = map at (column_signals small)

  in_gates : (i : ℕ) → i < size → gate_in gates i ≡ place i
  in_gates i less = get_or-range_with_len base size i 0 less ∙ sym (in_row i)

  -- ---- it is an excerpt

  outside_long : length outside ≡ first_gate small
  outside_long = length-map (column_signals small) at ∙ length-map-range_with_len signal 0 (first_gate small)

  outside_at : (k : ℕ) (d : Sig) → k < first_gate small → get_or outside k d ≡ at (signal k)
  outside_at k d less = grind (arith, length-map-range_with_len signal 0 (first_gate small), get_or-map, get_or-map-range_with_len signal 0 (first_gate small) k k (signal 0) less)

  columns_apart : (s : Sig) → Contains outside s → ¬ Contains (map (gate_sig big) gates) s
  columns_apart s one two = grind (arith, outside_long, outside_at one.0 s, length-map gates (gate_sig big), get_or-map (gate_sig big) gates two.0 0 s)

  origin_is : (s : Sig) → IsSignal small s → origin (origins big outside gates) s ≡ at s
  origin_is s inside =
      let wide = outside_long in
      elim (cases_lt s.0 (first_gate small)) [
        | inl low ↦ get_or_append_left outside (map (gate_sig big) gates) (signal 0) s.0 (omega (arith, low, wide)) ∙ outside_at s.0 (signal 0) low
        | inr high ↦
            let q : ℕ = s.0 - first_gate small in
            let less : q < size = omega (arith, inside, high) in
            let row = in_row q in
            let there = part.gates s high inside in
            ap (λ (k : ℕ). get_or (origins big outside gates) k (signal 0)) (let e : s.0 ≡ length outside + q = omega (arith, high, wide) in e)
            ∙ get_or-append-add outside (map (gate_sig big) gates) q (signal 0)
            ∙ get_or-map-range_with_len (gate_sig big) base size q (base + q) (signal 0) less refl
            ∙ ap signal (let e : first_gate big + (base + q) ≡ (at s).0 = omega (arith, row, there) in e)
      ]

  excerpt : IsExcerpt big outside gates small
  excerpt = record {
    inputs = let wide = outside_long in omega (arith, wide, plain);
    latches = plain;
    size = sym (length-range_with_len base size);
    covers = λ i less.
        let n = length-range_with_len base size in
        sym (part.covers i (omega (arith, less, n))) ∙ ap (λ (k : ℕ). (gate_at big k).cover) (sym (in_gates i (omega (arith, less, n))));
    pins = λ i less.
        let n = length-range_with_len base size in
        map_agree (origin (origins big outside gates)) at (gate_at small i).pins
        (λ k d l. origin_is (get_or (gate_at small i).pins k d) (valid.pins i no_gate (omega (arith, less, n)) k d l))
        ∙ sym (part.pins i (omega (arith, less, n))) ∙ ap (λ (k : ℕ). (gate_at big k).pins) (sym (in_gates i (omega (arith, less, n))));
    apart = columns_apart;
  }

  -- ---- only one another feed its gates, so that its loops are whole

  abbrev IsInside : ℕ → Type 0
  IsInside m = (base ≤ m) × (m < base + size)

  closed : (m n : ℕ) → Feeds big m n → IsInside n → IsInside m
  closed m n feeds inside =
      let from = inside.0 in
      let upto = inside.1 in
      let j : ℕ = n - base in
      let less : j < size = omega (arith, from, upto) in
      let row = in_row j in
      let pins = ap (λ (k : ℕ). (gate_at big k).pins) (let e : n ≡ place j = omega (arith, from, row) in e) ∙ part.pins j less in
      let has = subst (λ (xs : List Sig). Contains xs (gate_sig big m)) pins feeds.pin in
      let mapped = length-map (gate_at small j).pins at in
      let here : has.0 < length (gate_at small j).pins = let l = has.1 in omega (arith, l, mapped) in
      let s : Sig = get_or (gate_at small j).pins has.0 (signal 0) in
      let known = valid.pins j no_gate less has.0 (signal 0) here in
      let is = ap (λ (r : Sig). r.0) (sym (get_or-map at (gate_at small j).pins has.0 (signal 0) (gate_sig big m) here) ∙ has.2) in
      elim (cases_lt s.0 (first_gate small)) [
        | inl column ↦ absurd (let low = part.column s column in omega (arith, low, is))
        | inr gate ↦
            let there = part.gates s gate known in
            let row_s = in_row (s.0 - first_gate small) in
            (omega (arith, is, there, row_s), omega (arith, is, there, row_s, known, gate))
      ]

  walk_closed : (m n : ℕ) (via : List ℕ) → Walk big m via n → IsInside n → IsInside m
  walk_closed m n [] w inside = closed m n w inside
  walk_closed m n (x ∷ via) w inside = closed m x w.0 (walk_closed x n via w.1 inside)

  loop_closed : (n m : ℕ) → IsInside n → SameLoop big n m → IsInside m
  loop_closed n m inside s = walk_closed m n s.back.via s.back.walk inside

  whole : AreWhole big gates
  whole = record {
    within = λ i l.
        let n = length-range_with_len base size in
        subst (λ (k : ℕ). k < length big.gates) (sym (in_gates i (omega (arith, l, n)))) (part.within i (omega (arith, l, n)));
    rise = λ i j less l.
        let n = length-range_with_len base size in
        let a = get_or-range_with_len base size i 0 (omega (arith, l, n, less)) in
        let b = get_or-range_with_len base size j 0 (omega (arith, l, n)) in
        omega (arith, a, b, less);
    loops = λ i g l s.
        let n = length-range_with_len base size in
        let a = get_or-range_with_len base size i 0 (omega (arith, l, n)) in
        let there = loop_closed (gate_in gates i) g (omega (arith, a), omega (arith, a, l, n)) s in
        let low = there.0 in
        let high = there.1 in
        (g - base, omega (arith, low, high, n), get_or-range_with_len base size (g - base) g (omega (arith, low, high)) ∙ omega (arith, low));
  }

  -- no gate outside is in a loop of one of them
  loops_apart : (i m : ℕ) → i < size → (IsInside m → ⊥) → (loops_of big).same (place i) m ≡ false
  loops_apart i m less out = grind (arith, false_from_ne_true ((loops_of big).same (place i) m), loop_closed (place i) m, loops_exist big)

  module _ (v : List Trit) (width : length v ≡ first_gate big) where
    abbrev inputs : List Trit
    inputs = inputs_in big v outside

    keeps : Keeps big outside gates small (loops_of big) (loops_of small) v
    keeps = excerpts_keep big outside gates small (loops_of big) (loops_of small) valid excerpt whole (loops_exist big) (loops_exist small) v width

    inside_gates : (i : ℕ) → i < size → i < length gates
    inside_gates i less = let n = length-range_with_len base size in omega (arith, n, less)

    same_at : (i j : ℕ) → i < size → j < size → (loops_of small).same i j ≡ (loops_of big).same (place i) (place j)
    same_at i j il jl = grind (arith, keeps, inside_gates i il, inside_gates j jl, in_gates i il, in_gates j jl)

    cut_at : (i : ℕ) → i < size → (loops_of small).cut i ≡ (loops_of big).cut (place i)
    cut_at i il = let k = keeps in k.cut i (inside_gates i il) ∙ ap (loops_of big).cut (in_gates i il)

    sweeps_at : (k i : ℕ) → i < size → value_in (sweeps small (loops_of small) inputs k) i ≡ value_in (sweeps big (loops_of big) v k) (place i)
    sweeps_at k i il = grind (arith, keeps, inside_gates i il, in_gates i il)

    -- ---- what a gate reads

    wire_at : (s : Sig) → IsSignal small s → wire (fix small inputs) s ≡ wire (fix big v) (at s)
    wire_at s inside =
        sym (fix_at small big at place part valid inputs v (length-map outside (wire (fix big v)) ∙ outside_long) width
        (λ s low.
        let wide = outside_long in
        sym (get_or-map (wire (fix big v)) outside s.0 (signal 0) X (omega (arith, low, wide))
        ∙ ap (wire (fix big v)) (outside_at s.0 (signal 0) low)
        ∙ get_or_append_left v (fix_gates big v) X (at s).0 (let l = part.column s low in omega (arith, l, width))))
        s inside)

    -- where the values of cut wires and of others are those of the larger netlist
    read_at : (c s c' s' : List Trit) → ((j : ℕ) → j < size → value_in c' j ≡ value_in c (place j)) → ((j : ℕ) → j < size → value_in s' j ≡ value_in s (place j)) →
        (i : ℕ) (p : Sig) → i < size → IsSignal small p → pin_in small (loops_of small) inputs c' s' i p ≡ pin_in big (loops_of big) v c s (place i) (at p)
    read_at c s c' s' cuts others i p less inside =
        elim (cases_lt p.0 (first_gate small)) [
          | inl low ↦ rw (lt-leb (first_gate small) p.0 low, lt-leb (first_gate big) (at p).0 (part.column p low)) (wire_at p inside)
          | inr high ↦
              let q : ℕ = p.0 - first_gate small in
              let ql : q < size = omega (arith, inside, high) in
              let there = part.gates p high inside in
              let number : gate_of big (at p) ≡ place q = omega (arith, there) in
              let from : first_gate big ≤ (at p).0 = omega (arith, there) in
              rw (le-leb (first_gate small) p.0 high, le-leb (first_gate big) (at p).0 from, number, same_at i q less ql, cut_at q ql, cuts q ql, others q ql, wire_at p inside) refl
        ]

    sweep_read : (k i : ℕ) → i < size → read_in_sweep small (loops_of small) inputs k i ≡ read_in_sweep big (loops_of big) v k (place i)
    sweep_read k i less =
        let f : Sig → Trit = pin_in big (loops_of big) v (sweeps big (loops_of big) v k) (sweeps big (loops_of big) v (suc k)) (place i) in
        map_agree (pin_in small (loops_of small) inputs (sweeps small (loops_of small) inputs k) (sweeps small (loops_of small) inputs (suc k)) i) (λ p. f (at p)) (gate_at small i).pins
        (λ j d l. read_at (sweeps big (loops_of big) v k) (sweeps big (loops_of big) v (suc k)) (sweeps small (loops_of small) inputs k) (sweeps small (loops_of small) inputs (suc k)) (sweeps_at k) (sweeps_at (suc k))
        i (get_or (gate_at small i).pins j d) less (valid.pins i no_gate less j d l))
        ∙ sym (map-map f at (gate_at small i).pins)
        ∙ ap (map f) (sym (part.pins i less))

    fix_read : (i : ℕ) → i < size → read_at_fix small inputs i ≡ read_at_fix big v (place i)
    fix_read i less =
        map_agree (wire (fix small inputs)) (λ p. wire (fix big v) (at p)) (gate_at small i).pins
        (λ j d l. wire_at (get_or (gate_at small i).pins j d) (valid.pins i no_gate less j d l))
        ∙ sym (map-map (wire (fix big v)) at (gate_at small i).pins)
        ∙ ap (map (wire (fix big v))) (sym (part.pins i less))

    -- ---- its loop has as many cut wires

    cuts_few : (i : ℕ) → i < size → length (cuts_of big (loops_of big) (place i)) ≡ length (cuts_of small (loops_of small) i)
    cuts_few i less =
        let p : ℕ → Bool = λ m. (loops_of big).same (place i) m && (loops_of big).cut m in
        let q : ℕ → Bool = λ m. (loops_of small).same i m && (loops_of small).cut m in
        let last = part.within (size - 1) (omega (arith, less)) in
        let row = in_row (size - 1) in
        let rest : ℕ = length big.gates - (base + size) in
        let first_none = filter_none p 0 base (λ k low high. ap (λ t. t && (loops_of big).cut k) (loops_apart i k less (λ h. (let l = h.0 in omega (arith, high, l))))) in
        let last_none = filter_none p (0 + base + size) rest (λ k low high. ap (λ t. t && (loops_of big).cut k) (loops_apart i k less (λ h. (let l = h.1 in omega (arith, low, l))))) in
        let middle = filter_shift q p 0 (0 + base) size (λ k l.
        let row_k = in_row k in
        ap q (let e : 0 + k ≡ k = omega arith in e) ∙ ap₂ (λ x y. x && y) (same_at i k less l) (cut_at k l) ∙ ap p (let e : place k ≡ 0 + base + k = omega (arith, row_k) in e)) in
        let one_split = filter_split p 0 base (size + rest) in
        let two_split = filter_split p (0 + base) size rest in
        grind arith

  -- ---- so they read alike

  inputs_are : (v u : List Bool) → length u ≡ first_gate small → AreGiven big small at v u → inputs_in big (bits v) outside ≡ bits u
  inputs_are v u long_u given =
      let wide_u = length-map u bit ∙ long_u in
      map-map (wire (fix big (bits v))) at (column_signals small)
      ∙ map_agree (λ s. wire (fix big (bits v)) (at s)) (wire (fix small (bits u))) (column_signals small)
      (λ k d l.
      let long = length-map-range_with_len signal 0 (first_gate small) in
      let less : k < first_gate small = omega (arith, l, long) in
      let s : Sig = get_or (column_signals small) k d in
      let is = ap (λ (s : Sig). s.0) (get_or-map-range_with_len signal 0 (first_gate small) k k d less (omega arith)) in
      given s (omega (arith, is, less)) ∙ sym (get_or_append_left (bits u) (fix_gates small (bits u)) X s.0 (omega (arith, is, less, wide_u))))
      ∙ columns_give_vectors small (bits u) wide_u

  wide : (v : List Bool) → length v ≡ first_gate big → length (bits v) ≡ first_gate big
  wide v long_v = length-map v bit ∙ long_v

  -- whatever the vector
  some_vector : List Bool
  some_vector = replicate (first_gate big) false

  some_long : length some_vector ≡ first_gate big
  unfolding some_vector
  some_long = length-replicate (first_gate big) false

  reads_as_excerpt : ReadsAlike big small at place
  reads_as_excerpt = record {
    same = same_at (bits some_vector) (wide some_vector some_long);
    cuts = cuts_few (bits some_vector) (wide some_vector some_long);
    in_sweep = λ v u long_v long_u given k i less.
        ap (λ (ts : List Trit). read_in_sweep small (loops_of small) ts k i) (sym (inputs_are v u long_u given)) ∙ sweep_read (bits v) (wide v long_v) k i less;
    at_fix = λ v u long_v long_u given i less.
        ap (λ (ts : List Trit). read_at_fix small ts i) (sym (inputs_are v u long_u given)) ∙ fix_read (bits v) (wide v long_v) i less;
  }

-- a netlist stands in itself
itself : (net : Parts) → IsPartOf net net (λ s. s) (λ n. n)
itself net = grind (arith, map-id)

-- with its latches taken as inputs it is an excerpt of both
pub reads_alike : (big small : Parts) (at : Sig → Sig) (place : ℕ → ℕ) (base : ℕ) → ((n : ℕ) → place n ≡ base + n) → IsPartOf small big at place → IsNetlist small → ReadsAlike big small at place
reads_alike big small at place base in_row part valid =
    let first = first-bare small in
    let there = reads_as_excerpt big (bare small) at place base in_row (part-of-bare small big at place part) (valid-bare small valid) refl in
    let here = reads_as_excerpt small (bare small) (λ s. s) (λ n. n) 0 (λ n. omega arith) (part-of-bare small small (λ s. s) (λ n. n) (itself small)) (valid-bare small valid) refl in
    let own : (u : List Bool) → length u ≡ first_gate small → AreGiven small (bare small) (λ s. s) u u =
    λ u long_u s l. get_or_append_left (bits u) (fix_gates small (bits u)) X s.0 (let wide = length-map u bit in omega (arith, l, first, wide, long_u)) in
    record {
      same = λ i j il jl. sym (here.same i j il jl) ∙ there.same i j il jl;
      cuts = λ i less. there.cuts i less ∙ sym (here.cuts i less);
      in_sweep = λ v u long_v long_u given k i less.
          sym (here.in_sweep u u long_u (long_u ∙ sym first) (own u long_u) k i less)
          ∙ there.in_sweep v u long_v (long_u ∙ sym first) (λ s l. given s (omega (arith, l, first))) k i less;
      at_fix = λ v u long_v long_u given i less.
          sym (here.at_fix u u long_u (long_u ∙ sym first) (own u long_u) i less)
          ∙ there.at_fix v u long_v (long_u ∙ sym first) (λ s l. given s (omega (arith, l, first))) i less;
    }

-- a function of the larger netlist is one of the small netlist
pub record WorksAlone (big small : Parts) (at : Sig → Sig) (g : List Bool → Bool) : Type 0 where
  pub of : List Bool → Bool
  pub part : IsGatePart small (loops_of small) bits of
  pub same : (v u : List Bool) → length v ≡ first_gate big → length u ≡ first_gate small → AreGiven big small at v u → g v ≡ of u

module _ (big small : Parts) (at : Sig → Sig) (place : ℕ → ℕ) (part : IsPartOf small big at place) (alike : ReadsAlike big small at place)
    (g : List Bool → Bool) (whole_part : IsGatePart big (loops_of big) bits g) (i : ℕ) (less : i < length small.gates) (is_at : whole_part.gate ≡ place i) where
  says : List Trit → Bool
  says read = is_bit whole_part.bit (exact (λ rest. value (gate_at small i).cover (whole_part.first ++ rest)) (drop (length whole_part.first) read))

  short : length whole_part.first ≤ length (gate_at small i).pins
  short =
      let pins = ap length (ap (λ (m : ℕ). (gate_at big m).pins) is_at ∙ part.pins i less) in
      let m = length-map (gate_at small i).pins at in
      let s = whole_part.short in
      omega (arith, s, pins, m)

  g_says : (v : List Bool) (read : List Trit) → whole_part.read v ≡ read → g v ≡ says read
  unfolding says
  g_says v read e = grind arith

  looped : (loops_of small).same i i ≡ (loops_of big).same whole_part.gate whole_part.gate
  looped = alike.same i i less less ∙ ap₂ (loops_of big).same (sym is_at) (sym is_at)

  -- so it is where it reads alone what it reads there
  works_by : (read : List Bool → List Trit) → IsReadInSweep small (loops_of small) bits i read ⊎ IsReadAtFix small (loops_of small) bits i read →
      ((v u : List Bool) → length v ≡ first_gate big → length u ≡ first_gate small → AreGiven big small at v u → whole_part.read v ≡ read u) → WorksAlone big small at g
  unfolding says
  works_by read reads same = record {
    of = λ u. says (read u);
    part = record {
      gate = i;
      within = less;
      first = whole_part.first;
      short = short;
      bit = whole_part.bit;
      read = read;
      reads = reads;
      same = λ u. refl;
    };
    same = λ v u long_v long_u given. g_says v (read u) (same v u long_v long_u given);
  }

  pub works_alone : WorksAlone big small at g
  works_alone = elim whole_part.reads [
    | inl r ↦
        let few = r.few in
        let cuts = ap (λ (m : ℕ). length (cuts_of big (loops_of big) m)) is_at ∙ alike.cuts i less in
        works_by (λ u. read_in_sweep small (loops_of small) (bits u) r.sweep i)
        (inl (record { looped = looped ∙ r.looped; sweep = r.sweep; few = omega (arith, few, cuts); is = λ u. refl }))
        (λ v u long_v long_u given. r.is v ∙ ap (read_in_sweep big (loops_of big) (bits v) r.sweep) is_at ∙ sym (alike.in_sweep v u long_v long_u given r.sweep i less))
    | inr r ↦
        works_by (λ u. read_at_fix small (bits u) i)
        (inr (record { plain = looped ∙ r.plain; is = λ u. refl }))
        (λ v u long_v long_u given. r.is v ∙ ap (read_at_fix big (bits v)) is_at ∙ sym (alike.at_fix v u long_v long_u given i less))
  ]
