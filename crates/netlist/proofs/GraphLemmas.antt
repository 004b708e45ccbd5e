-- An edge of the graph of the gates is a pin, and a walk in it is a walk along pins the other way round.
use Rattle.std.proofs.Common.{◌≡◌, ◌⊎◌, inl, inr, ℕ, suc, ◌+◌, ◌-◌, ◌<◌, true, false, List, [], ◌∷◌, ◌++◌, length, get_or, refl, ap, ◌∙◌, subst, arith, Option}
use Rattle.std.specs.Prelude.{nat_le, IfSome, IfNone, OnSome}
use Rattle.std.specs.List.{Contains}
use Rattle.std.proofs.lemmas.Bool.{le-leb}
use Rattle.std.proofs.lemmas.Bool.Decides.{leb_tells}
use Rattle.std.proofs.lemmas.List.{length-map, get_or-map}
use Rattle.cyc_base.specs.declared.sig.Sig.{Sig}
use Rattle.cyc_base.proofs.ListLemmas.{Contains-here}
use Rattle.components.specs.Graphs.{Edge, Walk as GraphWalk, Reaches}
use Rattle.components.proofs.WalkLemmas.{Reaches-trans}
use Rattle.components.specs.Orders.{IsTopologicalOrder, HasCycle, IsAcyclic}
use Rattle.netlist.specs.declared.parts.Parts.{Parts}
use Rattle.netlist.specs.Netlists.{signal, gate_at, no_gate}
use Rattle.netlist.specs.Walks.{Feeds, Walk, IsLoopFree}
use Rattle.netlist.specs.Orders.{numbers_from, gates_read, gate_graph, IsGateOrder, HasLoop}

Contains-there : {T : Type 0} (x y : T) (xs : List T) → Contains xs y → Contains (x ∷ xs) y
Contains-there {T} x y xs (k, l, e) = (suc k, omega arith, e)

Contains-cases : {T : Type 0} (x y : T) (xs : List T) → Contains (x ∷ xs) y → (x ≡ y) ⊎ Contains xs y
Contains-cases {T} x y xs h = grind arith

numbers_from-yes : (first : ℕ) (s : Sig) (signals : List Sig) → nat_le first s.0 ≡ true → numbers_from first (s ∷ signals) ≡ (s.0 - first) ∷ numbers_from first signals
numbers_from-yes first s signals e = rw e refl

numbers_from-no : (first : ℕ) (s : Sig) (signals : List Sig) → nat_le first s.0 ≡ false → numbers_from first (s ∷ signals) ≡ numbers_from first signals
numbers_from-no first s signals e = rw e refl

-- the signal of gate a is among signals exactly where a is among their numbers
pub numbers_from-signal : (first a : ℕ) (signals : List Sig) → Contains signals (signal (first + a)) → Contains (numbers_from first signals) a
numbers_from-signal first a [] c = absurd (let l = c.1 in omega arith)
numbers_from-signal first a (s ∷ signals) c =
    elim (Contains-cases s (signal (first + a)) signals c) [
      | inl e ↦
          let number : s.0 ≡ first + a = ap (λ (t : Sig). t.0) e in
          let is : a ≡ s.0 - first = omega arith in
          rw (numbers_from-yes first s signals (le-leb first s.0 (omega arith)))
          (subst (λ (n : ℕ). Contains (n ∷ numbers_from first signals) a) is (Contains-here a (numbers_from first signals)))
      | inr rest ↦
          let found = numbers_from-signal first a signals rest in
          elim (leb_tells first s.0) [
            | inl t ↦ rw (numbers_from-yes first s signals t.0) (Contains-there (s.0 - first) a (numbers_from first signals) found)
            | inr t ↦ rw (numbers_from-no first s signals t.0) found
          ]
    ]

pub signal-numbers_from : (first a : ℕ) (signals : List Sig) → Contains (numbers_from first signals) a → Contains signals (signal (first + a))
signal-numbers_from first a [] c = absurd (let l = c.1 in omega arith)
signal-numbers_from first a (s ∷ signals) c =
    elim (leb_tells first s.0) [
      | inr t ↦
          Contains-there s (signal (first + a)) signals
          (signal-numbers_from first a signals (subst (λ (ns : List ℕ). Contains ns a) (numbers_from-no first s signals t.0) c))
      | inl t ↦
          let from = t.1 in
          elim (Contains-cases (s.0 - first) a (numbers_from first signals) (subst (λ (ns : List ℕ). Contains ns a) (numbers_from-yes first s signals t.0) c)) [
            | inl e ↦
                let number : s.0 ≡ first + a = omega arith in
                let is : s ≡ signal (first + a) = ap signal number in
                subst (λ (r : Sig). Contains (s ∷ signals) r) is (Contains-here s signals)
            | inr rest ↦ Contains-there s (signal (first + a)) signals (signal-numbers_from first a signals rest)
          ]
    ]

module _ (net : Parts) where
  gate_graph-at : (b : ℕ) → b < length net.gates → get_or (gate_graph net) b [] ≡ numbers_from (length net.inputs + length net.latches) (gate_at net b).pins
  gate_graph-at b l = get_or-map (gates_read (length net.inputs + length net.latches)) net.gates b no_gate [] l

  pub length-gate_graph : length (gate_graph net) ≡ length net.gates
  length-gate_graph = length-map net.gates (gates_read (length net.inputs + length net.latches))

  pub feeds_edge : (a b : ℕ) → Feeds net a b → Edge (gate_graph net) b a
  feeds_edge a b feeds = grind (arith, length-gate_graph, gate_graph-at b feeds.reader, numbers_from-signal (length net.inputs + length net.latches) a (gate_at net b).pins feeds.pin)

  pub edge_feeds : (a b : ℕ) → Edge (gate_graph net) b a → Feeds net a b
  edge_feeds a b edge = grind (arith, length-gate_graph, signal-numbers_from (length net.inputs + length net.latches) a (gate_at net b).pins, gate_graph-at b)

  pub walk_reaches : (a b : ℕ) (via : List ℕ) → Walk net a via b → Reaches (gate_graph net) b a
  walk_reaches a b [] walk = record { via = []; walk = feeds_edge a b walk }
  walk_reaches a b (x ∷ via) walk = grind (arith, Reaches-trans (gate_graph net) b x a (walk_reaches x b via walk.1), walk_reaches x b via walk.1, feeds_edge a x walk.0)

  -- a walk goes on to one more gate
  Walk-push : (a x b : ℕ) (via : List ℕ) → Walk net a via x → Feeds net x b → Walk net a (via ++ x ∷ []) b
  Walk-push a x b [] walk feeds = (walk, feeds)
  Walk-push a x b (y ∷ via) walk feeds = (walk.0, Walk-push y x b via walk.1 feeds)

  pub record WalksTo (a b : ℕ) : Type 0 where
    pub via : List ℕ
    pub walk : Walk net a via b

  pub reaches_walk : (b a : ℕ) (via : List ℕ) → GraphWalk (gate_graph net) b via a → WalksTo a b
  reaches_walk b a [] walk = record { via = []; walk = edge_feeds a b walk }
  reaches_walk b a (x ∷ via) walk =
      let rest = reaches_walk x a via walk.1 in
      record { via = rest.via ++ x ∷ []; walk = Walk-push a x b rest.via rest.walk (edge_feeds x b walk.0) }

  pub order_of_gates : (order : List ℕ) → IsTopologicalOrder (gate_graph net) order → IsGateOrder net order
  order_of_gates order is =
      let len = length-gate_graph in
      record {
        size = is.size ∙ len;
        within = λ i l. (let w = is.within i l in omega arith);
        each = λ n l. is.each n (omega arith);
        once = is.once;
        after = λ i j l m feeds. is.after j i m l (feeds_edge (get_or order i 0) (get_or order j 0) feeds);
      }

  pub acyclic_loop_free : IsAcyclic (gate_graph net) → IsLoopFree net
  acyclic_loop_free acyclic a via walk = acyclic a (walk_reaches a a via walk)

  pub cycle_loop : HasCycle (gate_graph net) → HasLoop net
  cycle_loop cycle = grind (arith, reaches_walk cycle.node cycle.node cycle.walk.via cycle.walk.walk)

  pub found_order : {T : Type 0} (items : T → List ℕ) (found : Option T) → IfSome found (λ order. IsTopologicalOrder (gate_graph net) (items order)) → IfSome found (λ order. IsGateOrder net (items order))
  found_order {T} items h is = grind (arith, order_of_gates)

  pub found_loop_free : {T : Type 0} (found : Option T) → OnSome found (IsAcyclic (gate_graph net)) → OnSome found (IsLoopFree net)
  found_loop_free {T} h is = grind (arith, acyclic_loop_free)

  pub found_loop : {T : Type 0} (found : Option T) → IfNone found (HasCycle (gate_graph net)) → IfNone found (HasLoop net)
  found_loop {T} h is = grind (arith, cycle_loop)
