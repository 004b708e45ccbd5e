-- The components of a block's uncut reads are single gates, in an order for a sweep.
use Rattle.std.proofs.Common.{◌≡◌, inl, inr, ℕ, zero, suc, ◌<◌, ◌≤◌, ◌+◌, Bool, false, List, [], ◌∷◌, ◌++◌, length, filter, get_or, ap, sym, ◌∙◌, subst, arith, Contains}
use Rattle.loops.proofs.Common.{cases_Bool, cases_eq, cases_lt, get_or_default, get_or_append_left, Contains-append_left, Contains-get_or, Contains-push, Contains-push_cases, AllByRecursion, range_with_len, Sig, all_append, AreComponentsOf, Parts, gate_at, gate_sig, Feeds, Block, Blocks, Cut, AreBlocksOf, block_at, home_of, is_cut, ArePlacesRead, AreUncutReads, Leads, SameLoop}
use Rattle.std.proofs.lemmas.List.{get_or_push, length_push}
use Rattle.std.proofs.lemmas.List.Elements.{All-from_recursion}
use Rattle.cyc_base.proofs.ListLemmas.{all_filter}
use Rattle.components.specs.declared.components.Components.{Components}
use Rattle.components.specs.Graphs.{AreStronglyConnected, Edge, Walk as GraphWalk}
use Rattle.loops.specs.Cuts.{IsCutOf, loops_by}
use Rattle.loops.specs.Orders.{IsInOrder, IsOrderOf, ReadsUncut}
use Rattle.loops.specs.Placing.{ArePlaced, IsPlaceRead, IsUncutPin, Rise}
use Rattle.loops.proofs.RowLemmas.{pin_of_source, same_source}
use Rattle.loops.proofs.Reading.{each_more}
use Rattle.loops.proofs.Told.{blocks_tell_loops, gate_home, told_from}
use Rattle.loops.proofs.Walks.{cuts_leave_no_loop, walk-append}

-- gates that rise differ
same_place : (gates : List ℕ) → Rise gates → (i j : ℕ) → i < length gates → j < length gates → get_or gates i 0 ≡ get_or gates j 0 → i ≡ j
same_place gates rise i j il jl e = grind arith

module _ (net : Parts) (blocks : Blocks) (cut : Cut) (gates : List ℕ) where
  pub places_skip : (gate i : ℕ) (pin : Sig) (places : List ℕ) → ArePlacesRead net blocks cut gates gate i places → ((d : Sig) → get_or (gate_at net gate).pins i d ≡ pin) → ((place : ℕ) → ¬ IsPlaceRead net blocks cut gates gate pin place) → ArePlacesRead net blocks cut gates gate (i + 1) places
  places_skip gate i pin places are is none = grind arith

  pub places_push : (gate i place : ℕ) (pin : Sig) (places : List ℕ) → AreBlocksOf net blocks → Rise gates → i < length (gate_at net gate).pins → ArePlacesRead net blocks cut gates gate i places → ((d : Sig) → get_or (gate_at net gate).pins i d ≡ pin) → IsPlaceRead net blocks cut gates gate pin place → ArePlacesRead net blocks cut gates gate (i + 1) (places ++ place ∷ [])
  places_push gate i place pin places blocks_are rise il are is read = record {
    each = λ p.
        each_more (λ s. IsPlaceRead net blocks cut gates gate s p → Contains (places ++ place ∷ []) p) (gate_at net gate).pins i pin is
        (λ other.
        let one = same_source net blocks gate pin (get_or gates p 0) (get_or gates place 0) other.source.source read.source.source in
        rw (same_place gates rise p place other.within read.within one) (Contains-push places place))
        (λ j d l other. Contains-append_left places (place ∷ []) p (are.each p j d l other));
    only = λ p c.
        elim (Contains-push_cases places place p c) [
          | inl there ↦ are.only p there
          | inr e ↦
              let a = get_or gates place 0 in
              let pin_of : IsUncutPin net blocks cut a gate = record { pin = pin_of_source net blocks gate i pin a blocks_are il is read.source.source; uncut = read.source.uncut } in
              subst (λ (k : ℕ). (k < length gates) × IsUncutPin net blocks cut (get_or gates k 0) gate) e (read.within, pin_of)
        ];
  }

  pub reads_more : (n gate : ℕ) (graph : List (List ℕ)) (places : List ℕ) → get_or gates n 0 ≡ gate → AreUncutReads net blocks cut gates n graph → ArePlacesRead net blocks cut gates gate (length (gate_at net gate).pins) places → AreUncutReads net blocks cut gates (n + 1) (graph ++ places ∷ [])
  reads_more n gate graph places is are read = record {
    nodes = (let e = are.nodes in let p = length_push graph places in omega arith);
    each = λ a b al bl pin.
        elim (cases_eq a n) [
          | inr ne ↦
              let less : a < n = omega (arith, ne) in
              let c = are.each a b less bl pin in
              subst (λ (ps : List ℕ). Contains ps b) (sym (old a less)) c
          | inl e ↦
              let pin_of : IsUncutPin net blocks cut (get_or gates b 0) gate =
              subst (λ (k : ℕ). IsUncutPin net blocks cut (get_or gates b 0) k) (ap (λ (k : ℕ). get_or gates k 0) e ∙ is) pin in
              let at = pin_of.pin.feeds.pin in
              let source : IsPlaceRead net blocks cut gates gate (get_or (gate_at net gate).pins at.0 (gate_sig net (get_or gates b 0))) b = record {
                within = bl;
                source = record { source = record { is = at.2; loop = pin_of.pin.loop }; uncut = pin_of.uncut };
              } in
              subst (λ (ps : List ℕ). Contains ps b) (sym (ap (λ (k : ℕ). get_or (graph ++ places ∷ []) k []) e ∙ new))
              (read.each b at.0 (gate_sig net (get_or gates b 0)) at.1 source)
        ];
    only = λ a b al c.
        elim (cases_eq a n) [
          | inr ne ↦
              let less : a < n = omega (arith, ne) in
              are.only a b less (subst (λ (ps : List ℕ). Contains ps b) (old a less) c)
          | inl e ↦
              let w = read.only b (subst (λ (ps : List ℕ). Contains ps b) (ap (λ (k : ℕ). get_or (graph ++ places ∷ []) k []) e ∙ new) c) in
              (w.0, subst (λ (k : ℕ). IsUncutPin net blocks cut (get_or gates b 0) k) (sym (ap (λ (k : ℕ). get_or gates k 0) e ∙ is)) w.1)
        ];
  }
    where
      old : (a : ℕ) → a < n → get_or (graph ++ places ∷ []) a [] ≡ get_or graph a []
      old a l = (let e = are.nodes in get_or_append_left graph (places ∷ []) [] a (omega arith))

      new : get_or (graph ++ places ∷ []) n [] ≡ places
      new = (let e = are.nodes in get_or_push graph places [] n e)

-- numbers that rise
abbrev Ascend : List ℕ → Type 0
Ascend [] = Unit {0}
Ascend (x ∷ xs) = AllByRecursion (λ y. x < y) xs × Ascend xs

pub range_above : (a b n : ℕ) → a < b → AllByRecursion (λ y. a < y) (range_with_len b n)
range_above a b zero l = tt
range_above a b (suc n) l = (l, range_above a (b + 1) n (omega arith))

range_ascends : (a n : ℕ) → Ascend (range_with_len a n)
range_ascends a zero = tt
range_ascends a (suc n) = (range_above a (a + 1) n (omega arith), range_ascends (a + 1) n)

filter_ascends : (p : ℕ → Bool) (xs : List ℕ) → Ascend xs → Ascend (filter p xs)
filter_ascends p [] h = tt
filter_ascends p (x ∷ xs) h = grind (arith, filter_ascends p xs h.1, cases_Bool, all_filter)

rise_from : (xs : List ℕ) → Ascend xs → Rise xs
rise_from [] h i j l k = absurd (omega arith)
rise_from (x ∷ xs) h i zero l k = absurd (omega arith)
rise_from (x ∷ xs) h zero (suc j) l k = All-from_recursion (λ y. x < y) xs h.0 j 0 (omega arith)
rise_from (x ∷ xs) h (suc i) (suc j) l k = rise_from xs h.1 i j (omega arith) (omega arith)

-- so each is at least its place
pub at_least_place : (gates : List ℕ) → Rise gates → (k : ℕ) → k < length gates → k ≤ get_or gates k 0
at_least_place gates rise zero l = omega arith
at_least_place gates rise (suc k) l = grind (arith, at_least_place gates rise k)

pub places_below : (gates : List ℕ) → Rise gates → (i j : ℕ) → i ≤ j → j < length gates → get_or gates i 0 ≤ get_or gates j 0
places_below gates rise i j l k = grind arith

module _ (net : Parts) (blocks : Blocks) (are : AreBlocksOf net blocks) (b : ℕ) (bl : b < length blocks.list) where
  pub block_rises : Rise (block_at blocks b).gates
  block_rises = grind (arith, rise_from, filter_ascends, range_ascends)

  pub block_within : (k : ℕ) → k < length (block_at blocks b).gates → get_or (block_at blocks b).gates k 0 < length net.gates
  block_within k l = (gate_home net blocks are b (get_or (block_at blocks b).gates k 0) bl (Contains-get_or (block_at blocks b).gates k 0 l)).0

-- the same of the gates as the code holds them
module _ (net : Parts) (blocks : Blocks) (are : AreBlocksOf net blocks) (b : ℕ) (bl : b < length blocks.list) (gates : List ℕ) (same : gates ≡ (block_at blocks b).gates) where
  pub gates_rise : Rise gates
  gates_rise = subst Rise (sym same) (block_rises net blocks are b bl)

  pub gates_within : (k : ℕ) → k < length gates → get_or gates k 0 < length net.gates
  gates_within = subst (λ (xs : List ℕ). (k : ℕ) → k < length xs → get_or xs k 0 < length net.gates) (sym same) (block_within net blocks are b bl)

  module _ (cut : Cut) (cut_is : IsCutOf net cut) (graph : List (List ℕ)) (reads : AreUncutReads net blocks cut gates (length gates) graph) where
    abbrev gate : ℕ → ℕ
    gate k = get_or gates k 0

    edge_reads : (x y : ℕ) → Edge graph x y → IsUncutPin net blocks cut (gate y) (gate x)
    edge_reads x y e = (let n = reads.nodes in let s = e.source in (reads.only x y (omega arith) e.listed).1)

    -- a walk of reads is a walk back along pins
    walks_back : (x y : ℕ) (via : List ℕ) → GraphWalk graph x via y → Leads net (λ g. is_cut cut.wires g ≡ false) (gate y) (gate x) × (is_cut cut.wires (gate y) ≡ false)
    walks_back x y [] w = (let p = edge_reads x y w in (record { via = []; kind = tt; walk = p.pin.feeds }, p.uncut))
    walks_back x y (z ∷ via) w =
        let p = edge_reads x z w.0 in
        let rest = walks_back z y via w.1 in (
          record {
            via = rest.0.via ++ (gate z ∷ []);
            kind = all_append (λ g. is_cut cut.wires g ≡ false) rest.0.via (gate z ∷ []) rest.0.kind (p.uncut, tt);
            walk = walk-append net (gate y) (gate z) (gate x) rest.0.via [] rest.0.walk p.pin.feeds;
          },
          rest.1,
        )

    no_walk_back : (x : ℕ) (via : List ℕ) → ¬ GraphWalk graph x via x
    no_walk_back x via w = grind (arith, walks_back x x via w, cuts_leave_no_loop net (loops_by blocks cut) (blocks_tell_loops net blocks cut are cut_is) (gate x), blocks_tell_loops net blocks cut are cut_is)

    graph-append : (x y z : ℕ) (via rest : List ℕ) → GraphWalk graph x via y → GraphWalk graph y rest z → GraphWalk graph x (via ++ (y ∷ rest)) z
    graph-append x y z [] rest h k = (h, k)
    graph-append x y z (w ∷ via) rest h k = (h.0, graph-append w y z via rest h.1 k)

    not_connected : (x y : ℕ) → x < y → ¬ AreStronglyConnected graph x y
    not_connected x y l (inl e) = omega arith
    not_connected x y l (inr r) =
        no_walk_back x (r.0.via ++ (y ∷ r.1.via)) (graph-append x y x r.0.via r.1.via r.0.walk r.1.walk)

    module _ (found : Components) (components : AreComponentsOf graph found) where
      pub homes_within : (x : ℕ) → x < length gates → get_or found.home x 0 < found.count
      homes_within x l = (let n = reads.nodes in components.within x (omega arith))

      pub homes_size : length found.home ≡ length gates
      homes_size = components.nodes ∙ reads.nodes

      pub homes_differ : (x y : ℕ) → x < y → y < length gates → ¬ (get_or found.home x 0 ≡ get_or found.home y 0)
      homes_differ x y l yl e = grind (arith, not_connected x y l)

      module _ (order : List ℕ) (placed : ArePlaced gates found.home found.count order) where
        -- what stands at a place of the order
        record Stands (c : ℕ) : Type 0 where
          node : ℕ
          within : node < length gates
          home : get_or found.home node 0 ≡ c
          is : get_or order c 0 ≡ gate node

        stands : (c : ℕ) → c < length order → Stands c
        stands c l =
            let size = placed.size in
            let h = components.used c (omega arith) in
            let w = h.within in
            let n = homes_size in
            let inside : h.node < length gates = omega arith in
            grind arith

        apart : (c d : ℕ) → c < d → d < length order → (¬ (get_or order d 0 ≡ get_or order c 0)) × (¬ ReadsUncut net (is_cut cut.wires) (get_or order c 0) (get_or order d 0))
        apart c d l dl =
            let first = stands c (omega arith) in
            let second = stands d dl in (
              λ e.
                  let same = same_place gates gates_rise first.node second.node first.within second.within (sym first.is ∙ sym e ∙ second.is) in
                  let home = ap (λ (k : ℕ). get_or found.home k 0) same in
                  let one = first.home in
                  let two = second.home in
                  omega arith,
              λ r. ordered first second r,
            )
          where
            at_home : {k : ℕ} → (s : Stands k) → (gate s.node < length net.gates) × (home_of blocks (gate s.node) ≡ b)
            at_home s = gate_home net blocks are b (gate s.node) bl (rw (← same) (Contains-get_or gates s.node 0 s.within))

            ordered : Stands c → Stands d → ¬ ReadsUncut net (is_cut cut.wires) (get_or order c 0) (get_or order d 0)
            ordered first second r =
                let feeds : Feeds net (gate second.node) (gate first.node) =
                subst (λ (k : ℕ). Feeds net (gate second.node) k) first.is (subst (λ (k : ℕ). Feeds net k (get_or order c 0)) second.is r.feeds) in
                let uncut : is_cut cut.wires (gate second.node) ≡ false = subst (λ (k : ℕ). is_cut cut.wires k ≡ false) second.is r.uncut in
                let a = at_home first in
                let z = at_home second in
                let one = first.home in
                let two = second.home in
                let nodes = reads.nodes in
                let loop : SameLoop net (gate second.node) (gate first.node) =
                elim ((are.same (gate second.node) (gate first.node) z.0 a.0).0 (z.1 ∙ sym a.1)) [
                  | inr s ↦ s
                  | inl e ↦
                      let same = same_place gates gates_rise first.node second.node first.within second.within (sym e) in
                      let home = ap (λ (k : ℕ). get_or found.home k 0) same in
                      absurd (omega arith)
                ] in
                let pin : IsUncutPin net blocks cut (gate second.node) (gate first.node) = record {
                  pin = record { feeds = feeds; loop = told_from net blocks are (gate second.node) (gate first.node) loop };
                  uncut = uncut;
                } in
                let edge : Edge graph first.node second.node = record {
                  source = (let w = first.within in omega arith);
                  target = (let w = second.within in omega arith);
                  listed = reads.each first.node second.node first.within second.within pin;
                } in
                let up = components.order first.node second.node edge in
                omega arith

        pub order_is : IsOrderOf net (is_cut cut.wires) (block_at blocks b).gates order
        order_is = rw (← same) (record { only = only; each = each; follows = in_order order apart })
          where
            only : (n : ℕ) → Contains order n → Contains gates n
            only n c = grind (arith, stands c.0 c.1, get_or_default order c.0 0 n c.1, get_or_default gates)

            each : (n : ℕ) → Contains gates n → Contains order n
            each n c = grind (arith, homes_within c.0 c.1, get_or_default order (get_or found.home c.0 0) n 0, get_or_default gates c.0 0 n c.1)

            all_from : (P : ℕ → Type 0) (xs : List ℕ) → ((k : ℕ) → k < length xs → P (get_or xs k 0)) → AllByRecursion P xs
            all_from P [] h = tt
            all_from P (x ∷ xs) h = (h zero (omega arith), all_from P xs (λ k l. h (suc k) (omega arith)))

            in_order : (xs : List ℕ) → ((c d : ℕ) → c < d → d < length xs → (¬ (get_or xs d 0 ≡ get_or xs c 0)) × (¬ ReadsUncut net (is_cut cut.wires) (get_or xs c 0) (get_or xs d 0))) → IsInOrder net (is_cut cut.wires) xs
            in_order [] h = tt
            in_order (x ∷ xs) h = (
              all_from (λ g. (¬ (g ≡ x)) × (¬ ReadsUncut net (is_cut cut.wires) x g)) xs (λ k l. h zero (suc k) (omega arith) (omega arith)),
              in_order xs (λ c d l dl. h (suc c) (suc d) (omega arith) (omega arith)),
            )

pub block_gates : (blocks : Blocks) (items : List Block) (gates : List ℕ) (b : ℕ) (block : Block) → b < length blocks.list → items ≡ blocks.list → gates ≡ (get_or items b block).gates → gates ≡ (block_at blocks b).gates
block_gates blocks items gates b block l e d = grind (arith, get_or_default)

pub not_there : (gates : List ℕ) (gate place : ℕ) → ((k : ℕ) → k < place → get_or gates k 0 < gate) → ((k : ℕ) → place ≤ k → k < length gates → gate < get_or gates k 0) → ¬ Contains gates gate
not_there gates gate place low high c = grind (arith, get_or_default, cases_lt)
