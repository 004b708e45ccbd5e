-- An unknown gate reads an unknown gate that matters, and so a cycle leads to it.
use Rattle.std.proofs.Common.{◌≡◌, ◌≢◌, ◌⊎◌, inl, inr, ℕ, zero, suc, ◌+◌, ◌-◌, ◌<◌, ◌≤◌, Bool, List, [], ◌∷◌, length, map, get_or, refl, ap, sym, ◌∙◌, subst, arith, Some}
use Rattle.std.proofs.lemmas.Bool.{cases_eq, cases_lt}
use Rattle.std.specs.List.{slice_get}
use Rattle.std.proofs.lemmas.Option.{slice_get-get_or, slice_get_within}
use Rattle.std.proofs.lemmas.List.{get_or_default, length-map}
use Rattle.cyc_base.specs.declared.sig.Sig.{Sig}
use Rattle.cyc_base.specs.declared.trit.Trit.TheVariants.{X}
use Rattle.cyc_base.specs.Values.{bits}
use Rattle.components.specs.Graphs.{Edge}
use Rattle.explanations.specs.Cycles.{IsTrail, IsCycle, IsWay, ReachesNone}
use Rattle.netlist.specs.declared.parts.Parts.{Parts}
use Rattle.netlist.specs.Fixpoint.{wire, fix, gate_value}
use Rattle.netlist.specs.Netlists.{signal, count, gate_at, gate_sig, no_gate, IsNetlist}
use Rattle.explanations.specs.Explained.{IsUnknown}
use Rattle.explanations.specs.Graph.{OpenSways, IsOpenGraph}
use Rattle.explanations.proofs.ClearedLemmas.{fix_at_gate}
use Rattle.explanations.proofs.NeedLemmas.{column_is_known, width_of_bits}
use Rattle.explanations.specs.Matters.{Matters}
use Rattle.explanations.proofs.MatterLemmas.{unknown_matters}
use Rattle.explanations.proofs.GraphLemmas.{sways_edge, swayed_unknown}

-- ---- of more numbers than there are two are equal

record Twice (f : ℕ → ℕ) (n : ℕ) : Type 0 where
  i : ℕ
  j : ℕ
  before : i < j
  most : j ≤ n
  same : f i ≡ f j

found_before : (f : ℕ → ℕ) (v n : ℕ) → ((i : ℕ) × (i ≤ n) × (f i ≡ v)) ⊎ ((i : ℕ) → i ≤ n → f i ≢ v)
found_before f v zero = grind (arith, cases_eq (f zero) v)
found_before f v (suc n) =
    elim (cases_eq (f (suc n)) v) [
      | inl e ↦ inl (suc n, omega arith, e)
      | inr ne ↦
          elim (found_before f v n) [
            | inl found ↦ (let l = found.1 in inl (found.0, omega arith, found.2))
            | inr none ↦
                inr (λ i l e.
                elim (cases_eq i (suc n)) [
                  | inl same ↦ ne (ap f (sym same) ∙ e)
                  | inr apart ↦ none i (omega arith) e
                ])
          ]
    ]

-- a number without v
squeezed : ℕ → ℕ → ℕ
squeezed v m = elim (cases_lt v m) [ inl l ↦ m - 1 | inr ge ↦ m ]

squeezed-less : (v m n : ℕ) → m ≢ v → m < suc n → v < suc n → squeezed v m < n
unfolding squeezed
squeezed-less v m n ne l w = elim (cases_lt v m) as (λ c. elim c [ inl k ↦ m - 1 | inr ge ↦ m ] < n) [ inl k ↦ omega arith | inr ge ↦ omega (arith, ne) ]

squeezed-same : (v a b : ℕ) → a ≢ v → b ≢ v → squeezed v a ≡ squeezed v b → a ≡ b
unfolding squeezed
squeezed-same v a b na nb = grind arith

pigeonhole : (f : ℕ → ℕ) (n : ℕ) → ((k : ℕ) → k ≤ n → f k < n) → Twice f n
pigeonhole f zero below = absurd (let l = below zero (omega arith) in omega arith)
pigeonhole f (suc n) below =
    let v : ℕ = f (suc n) in
    elim (found_before f v n) [
      | inl found ↦ (let l = found.1 in record { i = found.0; j = suc n; before = omega arith; most = omega arith; same = found.2 })
      | inr none ↦
          let two = pigeonhole (λ k. squeezed v (f k)) n (λ k l. squeezed-less v (f k) n (none k l) (below k (omega arith)) (below (suc n) (omega arith))) in
          let first = two.before in
          let second = two.most in
          record {
            i = two.i;
            j = two.j;
            before = first;
            most = omega arith;
            same = squeezed-same v (f two.i) (f two.j) (none two.i (omega arith)) (none two.j second) two.same;
          }
    ]

-- ---- a walk that never ends

pub record Onward (graph : List (List ℕ)) (P : ℕ → Type 0) (a : ℕ) : Type 0 where
  pub node : ℕ
  pub edge : Edge graph a node
  pub goes : P node

module _ (graph : List (List ℕ)) (P : ℕ → Type 0) (on : (a : ℕ) → P a → Onward graph P a) (goal : ℕ) (begins : P goal) (within : goal < length graph) where
  at : ℕ → (a : ℕ) × P a
  at zero = (goal, begins)
  at (suc k) = let next = on (at k).0 (at k).1 in (next.node, next.goes)

  node : ℕ → ℕ
  node k = (at k).0

  node-edge : (k : ℕ) → Edge graph (node k) (node (suc k))
  unfolding node at
  node-edge k = (on (at k).0 (at k).1).edge

  node-first : node 0 ≡ goal
  unfolding node at
  node-first = refl

  node-within : (k : ℕ) → node k < length graph
  node-within k = (node-edge k).source

  -- n nodes of the walk, from the last of them down to the one at a place
  down : ℕ → ℕ → List ℕ
  down low zero = []
  down low (suc n) = node (low + n) ∷ down low n

  length-down : (low n : ℕ) → length (down low n) ≡ n
  unfolding down
  length-down low zero = refl
  length-down low (suc n) = ap suc (length-down low n)

  down-at : (low n k : ℕ) → k < n → get_or (down low n) k 0 ≡ node (low + (n - 1 - k))
  unfolding down
  down-at low zero k l = absurd (omega arith)
  down-at low (suc n) zero l = ap node (omega arith)
  down-at low (suc n) (suc k) l = down-at low n k (omega arith) ∙ ap node (omega arith)

  down-trail : (low n : ℕ) → IsTrail graph (down low n)
  down-trail low n k l =
      let size = length-down low n in
      let here : get_or (down low n) k 0 ≡ node (suc (low + (n - 1 - (k + 1)))) = down-at low n k (omega arith) ∙ ap node (omega arith) in
      let next : get_or (down low n) (k + 1) 0 ≡ node (low + (n - 1 - (k + 1))) = down-at low n (k + 1) (omega arith) in
      grind (arith, down low n, node (low + (n - 1 - (k + 1))), node-edge (low + (n - 1 - (k + 1))))

  module _ (two : Twice node (length graph)) where
    nodes : List ℕ
    nodes = down two.i (two.j - two.i)

    nodes-trail : IsTrail graph nodes
    unfolding nodes
    nodes-trail = down-trail two.i (two.j - two.i)

    nodes-length : length nodes ≡ two.j - two.i
    unfolding nodes
    nodes-length = length-down two.i (two.j - two.i)

    nodes-at : (k : ℕ) → k < two.j - two.i → get_or nodes k 0 ≡ node (two.i + (two.j - two.i - 1 - k))
    unfolding nodes
    nodes-at k l = down-at two.i (two.j - two.i) k l

    nodes-last : get_or nodes (length nodes - 1) 0 ≡ node two.i
    nodes-last =
        let before = two.before in
        let size = nodes-length in
        ap (λ k. get_or nodes k 0) (omega arith) ∙ nodes-at (two.j - two.i - 1) (omega arith) ∙ ap node (omega arith)

    nodes-cycle : IsCycle graph nodes
    nodes-cycle =
        let before = two.before in
        let size = nodes-length in
        let top : get_or nodes 0 0 ≡ node (two.j - 1) = nodes-at 0 (omega arith) ∙ ap node (omega arith) in
        let round : node (suc (two.j - 1)) ≡ node two.i = ap node (omega arith) ∙ sym two.same in
        record {
          some = omega arith;
          trail = nodes-trail;
          closes =
              subst (λ (m : ℕ). Edge graph (get_or nodes 0 0) m) (sym nodes-last)
              (subst (λ (m : ℕ). Edge graph m (node two.i)) (sym top)
              (subst (λ (m : ℕ). Edge graph (node (two.j - 1)) m) round (node-edge (two.j - 1))));
        }

    unrolled : down 0 (suc two.i) ≡ node two.i ∷ down 0 two.i
    unfolding down
    unrolled = ap (λ n. node n ∷ down 0 two.i) (omega arith)

    whole : IsTrail graph (node two.i ∷ down 0 two.i)
    whole = subst (λ (ns : List ℕ). IsTrail graph ns) unrolled (down-trail 0 (suc two.i))

    whole-last : (i : ℕ) → get_or (node i ∷ down 0 i) (length (node i ∷ down 0 i) - 1) 0 ≡ goal
    whole-last zero =
        let size = length-down 0 zero in
        let place : length (node zero ∷ down 0 zero) - 1 ≡ 0 = omega arith in
        ap (λ k. get_or (node zero ∷ down 0 zero) k 0) place ∙ node-first
    whole-last (suc i) =
        let size = length-down 0 (suc i) in
        let place : length (node (suc i) ∷ down 0 (suc i)) - 1 ≡ suc i = omega arith in
        ap (λ k. get_or (node (suc i) ∷ down 0 (suc i)) k 0) place
        ∙ down-at 0 (suc i) i (omega arith) ∙ ap node (let zero_place : 0 + (suc i - 1 - i) ≡ 0 = omega arith in zero_place) ∙ node-first

    walk-leads : IsWay graph nodes (down 0 two.i) goal
    walk-leads =
        let before = two.before in
        let size = nodes-length in
        record {
          start = node two.i;
          on = (length nodes - 1, omega arith, default_last ∙ nodes-last);
          trail = whole;
          ends = whole-last two.i;
        }
      where
        default_last : get_or nodes (length nodes - 1) (node two.i) ≡ get_or nodes (length nodes - 1) 0
        default_last = get_or_default nodes (length nodes - 1) (node two.i) 0 (let before = two.before in let size = nodes-length in omega arith)

  pub reaches_some : ReachesNone graph goal → ⊥
  reaches_some none =
      let two = pigeonhole node (length graph) (λ k l. node-within k) in
      none (nodes two) (down 0 two.i) (nodes-cycle two) (walk-leads two)

-- ---- an unknown gate reads one that matters

module _ (net : Parts) (v : List Bool) (valid : IsNetlist net) (width : length v ≡ length net.inputs + length net.latches) where
  reads_unknown : (g : ℕ) → IsUnknown net (fix net (bits v)) g → (a : ℕ) × OpenSways net (fix net (bits v)) a g
  reads_unknown g u =
      let values = map (wire (fix net (bits v))) (gate_at net g).pins in
      let value_x : gate_value (fix net (bits v)) (gate_at net g) ≡ X = sym (fix_at_gate net (bits v) g (width_of_bits net v width) u.gate) ∙ u.unknown in
      let found = unknown_matters (gate_at net g).cover (map (wire (fix net (bits v))) (gate_at net g).pins) value_x in
      let pin = found.0 in
      let matters : Matters (gate_at net g).cover (map (wire (fix net (bits v))) (gate_at net g).pins) pin = found.1 in
      let within : pin < length (gate_at net g).pins =
      (let l = slice_get_within (map (wire (fix net (bits v))) (gate_at net g).pins) pin X matters.unknown in let m = length-map (gate_at net g).pins (wire (fix net (bits v))) in omega arith) in
      let s : Sig = get_or (gate_at net g).pins pin (signal 0) in
      let fits : s.0 < count net = valid.pins g no_gate u.gate pin (signal 0) within in
      let at : slice_get (gate_at net g).pins pin ≡ Some s = slice_get-get_or (gate_at net g).pins pin (signal 0) within in
      let x : wire (fix net (bits v)) s ≡ X = swayed_unknown (fix net (bits v)) (gate_at net g).pins pin s at matters.unknown in
      elim (cases_lt s.0 (length net.inputs + length net.latches)) [
        | inl column ↦ absurd (column_is_known net v width s.0 column x)
        | inr behind ↦
            let gate : s.0 - (length net.inputs + length net.latches) < length net.gates = omega arith in
            let number : length net.inputs + length net.latches + (s.0 - (length net.inputs + length net.latches)) ≡ s.0 = omega arith in
            let is : s ≡ gate_sig net (s.0 - (length net.inputs + length net.latches)) = ap signal (sym number) in (
              s.0 - (length net.inputs + length net.latches),
              record {
                sways = record { source = gate; reader = u.gate; pin = pin; reads = at ∙ ap Some is; matters = matters };
                source = record { gate = gate; unknown = ap (λ (m : ℕ). get_or (fix net (bits v)) m X) number ∙ x };
                reader = u;
              },
            )
      ]

  -- so a cycle leads to it
  pub unknown_reaches : (graph : List (List ℕ)) (goal : ℕ) → IsOpenGraph net (fix net (bits v)) (length net.gates) graph → IsUnknown net (fix net (bits v)) goal → ReachesNone graph goal → ⊥
  unknown_reaches graph goal h u none =
      let size = h.size in
      let inside = u.gate in
      reaches_some graph (IsUnknown net (fix net (bits v)))
      (λ g w.
      let next = reads_unknown g w in
      record { node = next.0; edge = sways_edge net (fix net (bits v)) graph h g next.0 next.1; goes = next.1.source })
      goal u (omega arith) none
