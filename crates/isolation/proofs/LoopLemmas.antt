-- The loops of an excerpt, their cut wires and their sweeps are those of the whole.
use Rattle.std.proofs.Common.{◌≡◌, inl, inr, ℕ, zero, suc, ◌+◌, ◌-◌, ◌<◌, ◌≤◌, leb, Bool, true, false, ◌&&◌, if◌then◌else◌, List, [], ◌∷◌, length, map, get_or, refl, sym, ap, ap₂, ◌∙◌, subst, arith, Contains}
use Rattle.isolation.proofs.Common.{cases_lt, cases_eq, and_parts, get_or-map, get_or_default, get_or_append_left, get_or-append_right, get_or-replicate, length-map, map-map, range_with_len, Sig, Trit, X, ext, Cover, Parts, IsNetlist, signal, gate_at, gate_sig, wire, fix, fix_gates, Feeds, Loops, AreLoopsOf, first_gate, gate_of, value_in, sweeps, CutsAreFixed, same_within, leads-trans, origins, origin, inputs_in, IsExcerpt, Contains-get_or}
use Rattle.std.proofs.lemmas.Bool.{leb-true, le-leb, lt-leb}
use Rattle.std.specs.List.{AllByRecursion}
use Rattle.cyc_base.proofs.ListLemmas.{all_map, all_weaker, Contains-map}
use Rattle.cyc_base.proofs.TruthLemmas.{same_truth}
use Rattle.netlist.specs.Walks.{Walk}
use Rattle.loops.specs.Cuts.{MayPass}
use Rattle.loops.specs.Sweeps.{in_loop_of, pin_in, IsSweep, sweep, cuts_of}
use Rattle.loops.specs.Walks.{AnyGate, Leads, SameLoop}
use Rattle.loops.proofs.Reading.{map_agree, Contains-filter_from}
use Rattle.loops.proofs.Sweeps.{sweep_each, cut_values_agree}
use Rattle.loops.proofs.Unique.{sweep_is_the_one}
use Rattle.loops.proofs.Walks.{leads-any, on_walk}
use Rattle.isolation.specs.Excerpts.{AreWhole}
use Rattle.isolation.proofs.OriginLemmas.{origins-size, origin-wire, origin-gate}
use Rattle.isolation.proofs.ExcerptLemmas.{first-small, pin-within, gate_wire}
use Rattle.isolation.proofs.KeptLemmas.{fix-kept}

-- a place of the small netlist's list of signals: a wire outside, or a gate
data Source (outside gates : ℕ) (s : Sig) : Type 0 where
  at_input : s.0 < outside → Source outside gates s
  at_gate : (q : ℕ) → q < gates → s.0 ≡ outside + q → Source outside gates s

source_of : (outside gates : ℕ) (s : Sig) → s.0 < outside + gates → Source outside gates s
source_of outside gates s inside = elim (cases_lt s.0 outside) [
  | inl low ↦ at_input low
  | inr high ↦ at_gate (s.0 - outside) (omega (arith, high, inside)) (omega (arith, high))
]

sig_is : (s : Sig) (n : ℕ) → s.0 ≡ n → s ≡ signal n
sig_is s n e = ap (λ (m : ℕ). let r : Sig = record { 0 = m } in r) e

module _ (net : Parts) (outside : List Sig) (gates : List ℕ) (small : Parts) (valid : IsNetlist small) (is : IsExcerpt net outside gates small) (whole : AreWhole net gates) where
  abbrev at : ℕ → ℕ
  at i = get_or gates i 0

  abbrev size : ℕ
  size = length gates

  -- ---- the gates

  at-order : (i j : ℕ) → i < size → at i ≤ at j → i ≤ j
  at-order i j il le = elim (cases_lt j i) [ inl high ↦ absurd (omega (arith, whole.rise j i high il)) | inr low ↦ low ]

  at-once : (i j : ℕ) → i < size → j < size → at i ≡ at j → i ≡ j
  at-once i j il jl e = omega (arith, at-order i j il (omega (arith, e)), at-order j i jl (omega (arith, e)))

  at-before : (i j : ℕ) → i < size → j < size → at i < at j → i < j
  at-before i j il jl low = elim (cases_eq i j) [ inl same ↦ absurd (omega (arith, ap at same)) | inr other ↦ omega (arith, other, at-order i j il (omega (arith, low))) ]

  -- a gate that has a place among these
  record Placed (g : ℕ) : Type 0 where
    place : ℕ
    inside : place < size
    found : at place ≡ g

  in-loop : (i g : ℕ) → i < size → SameLoop net (at i) g → Placed g
  in-loop i g il s =
      let c = whole.loops i g il s in
      record { place = c.0; inside = c.1; found = get_or_default gates c.0 0 g c.1 ∙ c.2 }

  -- ---- signals

  abbrev all : List Sig
  all = origins net outside gates

  origin-input : (s : Sig) (d : Sig) → s.0 < length outside → origin all s ≡ get_or outside s.0 d
  origin-input s d low = origin-wire net outside gates s.0 (signal 0) low ∙ get_or_default outside s.0 (signal 0) d low

  -- a wire outside is no gate of the block
  outside-apart : (s : Sig) (q : ℕ) → s.0 < length outside → q < size → origin all s ≡ gate_sig net (at q) → ⊥
  outside-apart s q low l e =
      is.apart (get_or outside s.0 s) (Contains-get_or outside s.0 s low)
      (subst (Contains (map (gate_sig net) gates)) (sym e ∙ origin-input s s low) (Contains-map (gate_sig net) gates (at q) (Contains-get_or gates q 0 l)))

  first-is : first_gate small ≡ length outside
  first-is = first-small net outside gates small valid is

  -- ---- pins

  -- the pin of the whole at the same place
  pin-is : (j k : ℕ) (d e : Sig) → j < size → k < length (gate_at small j).pins → origin all (get_or (gate_at small j).pins k d) ≡ get_or (gate_at net (at j)).pins k e
  pin-is j k d e jl kl = grind (arith, get_or-map (origin all) (gate_at small j).pins k d e kl)

  pins-size : (j : ℕ) → j < size → length (gate_at small j).pins ≡ length (gate_at net (at j)).pins
  pins-size j jl = sym (length-map (gate_at small j).pins (origin all)) ∙ ap (λ (xs : List Sig). length xs) (is.pins j jl)

  pin-source : (j k : ℕ) (d : Sig) → j < size → k < length (gate_at small j).pins → Source (length outside) size (get_or (gate_at small j).pins k d)
  pin-source j k d jl kl =
      let w = pin-within net outside gates small valid is j k d jl kl in
      source_of (length outside) size (get_or (gate_at small j).pins k d) (omega (arith, w, origins-size net outside gates))

  feeds-down : (i j : ℕ) → i < size → j < size → Feeds net (at i) (at j) → Feeds small i j
  feeds-down i j il jl f =
      let k = f.pin.0 in
      let kl : k < length (gate_at small j).pins = (let l = f.pin.1 in let e = pins-size j jl in omega (arith, l, e)) in
      let s : Sig = get_or (gate_at small j).pins f.pin.0 (gate_sig small i) in
      let o : origin all s ≡ gate_sig net (at i) = pin-is j k (gate_sig small i) (gate_sig net (at i)) jl kl ∙ f.pin.2 in
      record {
        source = omega (arith, is.size);
        reader = omega (arith, is.size);
        pin = (f.pin.0, kl, by s o (pin-source j k (gate_sig small i) jl kl));
      }
    where
      by : (s : Sig) → origin all s ≡ gate_sig net (at i) → Source (length outside) size s → s ≡ gate_sig small i
      by s o (at_input low) = absurd (outside-apart s i low il o)
      by s o (at_gate q ql e) = grind (arith, origin-gate net outside gates s.0 q ql e, at-once q i ql il, sig_is s (first_gate small + i), first-is)

  feeds-up : (i j : ℕ) → i < size → j < size → Feeds small i j → Feeds net (at i) (at j)
  feeds-up i j il jl f =
      let k = f.pin.0 in
      let s : Sig = get_or (gate_at small j).pins f.pin.0 (gate_sig small i) in
      grind (arith, pins-size j jl, pin-is j k (gate_sig small i) (gate_sig net (at i)) jl f.pin.1, origin-gate net outside gates s.0 i il, first-is)

  -- ---- walks

  small-within : (i : ℕ) → i < length small.gates → i < size
  small-within i l = let g = is.size in omega (arith, l, g)

  walk-up : (i j : ℕ) (via : List ℕ) → Walk small i via j → Walk net (at i) (map at via) (at j)
  walk-up i j [] f = feeds-up i j (small-within i f.source) (small-within j f.reader) f
  walk-up i j (x ∷ via) w = (feeds-up i x (small-within i w.0.source) (small-within x w.0.reader) w.0, walk-up x j via w.1)

  -- a walk of the whole through placed gates
  walk-down : (P : ℕ → Type 0) (i j x y : ℕ) (via : List ℕ) → i < size → j < size → at i ≡ x → at j ≡ y → Walk net x via y → AllByRecursion (λ g. (h : Placed g) × P h.place) via → Leads small P i j
  walk-down P i j x y [] il jl xi yj f all_placed = grind (arith, feeds-down i j il jl)
  walk-down P i j x y (g ∷ via) il jl xi yj w all_placed =
      let h = all_placed.0.0 in
      let rest = walk-down P h.place j g y via h.inside jl h.found yj w.1 all_placed.1 in
      record {
        via = h.place ∷ rest.via;
        kind = (all_placed.0.1, rest.kind);
        walk = (feeds-down i h.place il h.inside (subst (λ (p : ℕ). Feeds net p (at h.place)) (sym xi) (subst (Feeds net x) (sym h.found) w.0)), rest.walk);
      }

  -- ---- loops and cut wires

  placed-walk : (i : ℕ) (via : List ℕ) → i < size → AllByRecursion (λ g. SameLoop net (at i) g) via → AllByRecursion (λ g. (h : Placed g) × AnyGate h.place) via
  placed-walk i via il = all_weaker (SameLoop net (at i)) (λ g. (h : Placed g) × AnyGate h.place) via (λ g s. (in-loop i g il s, tt))

  same-walk : (i j : ℕ) (via : List ℕ) → Leads net AnyGate (at j) (at i) → Walk net (at i) via (at j) → AllByRecursion (λ g. SameLoop net (at i) g) via
  same-walk i j via back w = grind (arith, all_weaker, leads-trans net, on_walk net (at i) (at j) via w)

  leads-down : (i j : ℕ) → i < size → j < size → SameLoop net (at i) (at j) → Leads small AnyGate i j
  leads-down i j il jl s = grind (arith, walk-down AnyGate i j (at i) (at j) s.there.via il jl, placed-walk i s.there.via il (same-walk i j s.there.via s.back s.there.walk), same-walk i j s.there.via s.back s.there.walk)

  same-down : (i j : ℕ) → i < size → j < size → SameLoop net (at i) (at j) → SameLoop small i j
  same-down i j il jl s = record { there = leads-down i j il jl s; back = leads-down j i jl il (record { there = s.back; back = s.there }) }

  same-up : (i j : ℕ) → SameLoop small i j → SameLoop net (at i) (at j)
  same-up i j s =
      grind (arith, leads-any net (at i) (at j) (map at s.there.via) (walk-up i j s.there.via s.there.walk), walk-up i j s.there.via s.there.walk, leads-any net (at j) (at i) (map at s.back.via) (walk-up j i s.back.via s.back.walk), walk-up j i s.back.via s.back.walk)

  module _ (one two : Loops) (one_is : AreLoopsOf net one) (two_is : AreLoopsOf small two) where
    pub loop-same : (i j : ℕ) → i < size → j < size → two.same i j ≡ one.same (at i) (at j)
    loop-same i j il jl =
        same_truth (two.same i j) (one.same (at i) (at j))
        (λ e. (one_is.same (at i) (at j)).1 (same-up i j ((two_is.same i j).0 e)))
        (λ e. (two_is.same i j).1 (same-down i j il jl ((one_is.same (at i) (at j)).0 e)))

    cut-up : (i : ℕ) → i < size → ((j : ℕ) → j < i → j < size → two.cut j ≡ one.cut (at j)) → two.cut i ≡ true → one.cut (at i) ≡ true
    cut-up i il before cut =
        let leads = (two_is.cut i).0 cut in
        (one_is.cut (at i)).1 (record {
          via = map at leads.via;
          kind = all_map (MayPass net one.cut (at i)) at leads.via (all_weaker (MayPass small two.cut i) (λ j. MayPass net one.cut (at i) (at j)) leads.via passes leads.kind);
          walk = walk-up i i leads.via leads.walk;
        })
      where
        passes : (j : ℕ) → MayPass small two.cut i j → MayPass net one.cut (at i) (at j)
        passes j may = grind (arith, same-up i j may.loop)

    cut-down : (i : ℕ) → i < size → ((j : ℕ) → j < i → j < size → two.cut j ≡ one.cut (at j)) → one.cut (at i) ≡ true → two.cut i ≡ true
    cut-down i il before cut =
        let leads = (one_is.cut (at i)).0 cut in
        (two_is.cut i).1 (walk-down (MayPass small two.cut i) i i (at i) (at i) leads.via il il refl refl leads.walk
        (all_weaker (MayPass net one.cut (at i)) (λ g. (h : Placed g) × MayPass small two.cut i h.place) leads.via passes leads.kind))
      where
        passes : (g : ℕ) → MayPass net one.cut (at i) g → (h : Placed g) × MayPass small two.cut i h.place
        passes g may =
            let p = in-loop i g il may.loop in
            let low : p.place < i = at-before p.place i p.inside il (omega (arith, may.before, p.found)) in
            (p, record { loop = same-down i p.place il p.inside (subst (SameLoop net (at i)) (sym p.found) may.loop); before = low; uncut = before p.place low p.inside ∙ ap one.cut p.found ∙ may.uncut })

    cut-below : (bound i : ℕ) → i < bound → i < size → two.cut i ≡ one.cut (at i)
    cut-below zero i less il = absurd (omega (arith, less))
    cut-below (suc bound) i less il = grind (arith, same_truth (two.cut i) (one.cut (at i)), cut-up i il, cut-below bound, cut-down i il)

    pub cut-same : (i : ℕ) → i < size → two.cut i ≡ one.cut (at i)
    cut-same i il = cut-below (suc i) i (omega arith) il

    -- ---- sweeps

    module _ (v : List Trit) (width : length v ≡ first_gate net) where
      abbrev inputs : List Trit
      inputs = inputs_in net v outside

      inputs-size : length inputs ≡ first_gate small
      inputs-size = length-map outside (wire (fix net v)) ∙ sym first-is

      pub fix-same : (i : ℕ) → i < size → value_in (fix_gates small inputs) i ≡ value_in (fix_gates net v) (at i)
      fix-same = fix-kept net outside gates small valid is whole.within v width

      -- two states that agree at these gates
      abbrev Agree : List Trit → List Trit → Type 0
      Agree s t = (i : ℕ) → i < size → value_in s i ≡ value_in t (at i)

      -- a pin reads the same
      read-same : (c s : List Trit) (c' s' : List Trit) → Agree c' c → Agree s' s → (i : ℕ) (p : Sig) → i < size → Source (length outside) size p → pin_in small two inputs c' s' i p ≡ pin_in net one v c s (at i) (origin all p)
      read-same c s c' s' ca sa i p il (at_gate q ql e) =
          let o = origin-gate net outside gates p.0 q ql e in
          let gn : gate_of small p ≡ q = omega (arith, first-is) in
          let g2 : gate_of net (gate_sig net (at q)) ≡ at q = omega arith in
          rw (o, le-leb (first_gate small) p.0 (omega (arith, first-is)), gn, loop-same i q il ql, cut-same q ql, ca q ql, sa q ql, le-leb (first_gate net) (gate_sig net (at q)).0 (omega arith), g2)
          (ap (λ x. if one.same (at i) (at q) then (if one.cut (at q) then value_in c (at q) else value_in s (at q)) else x)
          (get_or-append_right inputs (fix_gates small inputs) (first_gate small) p.0 X inputs-size (omega (arith, first-is)) ∙ ap (value_in (fix_gates small inputs)) gn ∙ fix-same q ql ∙ sym (gate_wire net outside gates small valid is v width (at q))))
      read-same c s c' s' ca sa i p il (at_input low) =
          let before : leb (first_gate small) p.0 ≡ false = lt-leb (first_gate small) p.0 (omega (arith, first-is)) in
          rw (before, away (in_loop_of net one (at i) (origin all p)) refl)
          (get_or_append_left inputs (fix_gates small inputs) X p.0 (omega (arith, first-is, inputs-size))
          ∙ get_or-map (wire (fix net v)) outside p.0 p X low
          ∙ ap (wire (fix net v)) (sym (origin-input p p low)))
        where
          away : (t : Bool) → in_loop_of net one (at i) (origin all p) ≡ t → in_loop_of net one (at i) (origin all p) ≡ false
          away t e = grind (arith, and_parts, in-loop, outside-apart, sig_is, leb-true)

      -- a sweep sets the block as the whole's does
      sweep-same : (c c' : List Trit) → Agree c' c → Agree (sweep small two inputs c') (sweep net one v c)
      sweep-same c c' ca i il =
          ap (λ (s : List Trit). value_in s i) (sym ((sweep_is_the_one small two two_is inputs c' made).0 made-is)) ∙ made-at i il
        where
          made : List Trit
          made = map (value_in (sweep net one v c)) gates

          made-at : (j : ℕ) → j < size → value_in (map (value_in (sweep net one v c)) gates) j ≡ value_in (sweep net one v c) (at j)
          made-at j jl = get_or-map (value_in (sweep net one v c)) gates j 0 X jl

          made-is : IsSweep small two inputs c' (map (value_in (sweep net one v c)) gates)
          made-is = record {
            gates = length-map gates (value_in (sweep net one v c)) ∙ sym is.size;
            each = λ n l.
                let nl = small-within n l in
                made-at n nl ∙ sweep_each net one v c (at n) (whole.within n nl)
                ∙ ap₂ (λ (cover : Cover) (xs : List Trit). ext cover xs) (sym (is.covers n nl))
                (ap (map (pin_in net one v c (sweep net one v c) (at n))) (sym (is.pins n nl))
                ∙ map-map (pin_in net one v c (sweep net one v c) (at n)) (origin all) (gate_at small n).pins
                ∙ sym (map_agree (pin_in small two inputs c' (map (value_in (sweep net one v c)) gates) n) (λ p. pin_in net one v c (sweep net one v c) (at n) (origin all p)) (gate_at small n).pins
                (λ k d here. read-same c (sweep net one v c) c' (map (value_in (sweep net one v c)) gates) ca made-at n (get_or (gate_at small n).pins k d) nl (pin-source n k d nl here))));
          }

      pub sweeps-same : (k : ℕ) → Agree (sweeps small two inputs k) (sweeps net one v k)
      sweeps-same zero i il = grind (arith, get_or-replicate (length small.gates) i X X, get_or-replicate (length net.gates) (at i) X X (whole.within i il))
      sweeps-same (suc k) i il = sweep-same (sweeps net one v k) (sweeps small two inputs k) (sweeps-same k) i il

      -- ---- the cut wires stand at the fixpoint in both, or in neither

      pub fixed-up : (i k : ℕ) → i < size → CutsAreFixed small two inputs i k → CutsAreFixed net one v (at i) k
      fixed-up i k il fixed =
          map_agree (value_in (sweeps net one v k)) (value_in (fix_gates net v)) (cuts_of net one (at i))
          (λ j d jl.
          let n = get_or (cuts_of net one (at i)) j d in
          let kept = Contains-filter_from (λ m. one.same (at i) m && one.cut m) (range_with_len 0 (length net.gates)) (get_or (cuts_of net one (at i)) j d) (Contains-get_or (cuts_of net one (at i)) j d jl) in
          let parts = and_parts (one.same (at i) n) (one.cut n) kept.0 in
          let h = in-loop i n il ((one_is.same (at i) n).0 parts.0) in
          subst (λ (m : ℕ). value_in (sweeps net one v k) m ≡ value_in (fix_gates net v) m) h.found
          (sym (sweeps-same k h.place h.inside)
          ∙ cut_values_agree small two two_is i (sweeps small two inputs k) (fix_gates small inputs) fixed h.place (loop-same i h.place il h.inside ∙ ap (one.same (at i)) h.found ∙ parts.0) (cut-same h.place h.inside ∙ ap one.cut h.found ∙ parts.1)
          ∙ fix-same h.place h.inside))

      pub fixed-down : (i k : ℕ) → i < size → CutsAreFixed net one v (at i) k → CutsAreFixed small two inputs i k
      fixed-down i k il fixed =
          map_agree (value_in (sweeps small two inputs k)) (value_in (fix_gates small inputs)) (cuts_of small two i)
          (λ j d jl.
          let n = get_or (cuts_of small two i) j d in
          let kept = Contains-filter_from (λ m. two.same i m && two.cut m) (range_with_len 0 (length small.gates)) (get_or (cuts_of small two i) j d) (Contains-get_or (cuts_of small two i) j d jl) in
          let parts = and_parts (two.same i n) (two.cut n) kept.0 in
          let nl = small-within n (same_within small two two_is i n parts.0) in
          sweeps-same k n nl
          ∙ cut_values_agree net one one_is (at i) (sweeps net one v k) (fix_gates net v) fixed (at n) (sym (loop-same i n il nl) ∙ parts.0) (sym (cut-same n nl) ∙ parts.1)
          ∙ sym (fix-same n nl))
