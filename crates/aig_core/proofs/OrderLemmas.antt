-- In the postorder of a graph without a loop each node follows its successors; and the graph of a netlist's gates is one.
use Rattle.std.proofs.Common.{◌≡◌, ℕ, zero, suc, ◌-◌, ◌<◌, ◌||◌, true, List, [], ◌∷◌, ◌++◌, length, get_or, fold, All, sym, ap, subst, ◌∙◌, arith}
use Rattle.aig_core.proofs.Common.{nat_eq, list_any, position_or_len, cases_Bool, eq-eqb, append-nil, append_assoc, list_any-append, All-nil, All-head, All-tail, All-cons, Sig, successors, no_gate, IsSignal, numbers_from, gate_graph, IsGateOrder, postorder, HasRanks}
use Rattle.std.specs.Prelude.{nat_le}
use Rattle.std.proofs.lemmas.Bool.{eqb-true, leb-true}
use Rattle.std.proofs.lemmas.List.{get_or-map}
use Rattle.std.proofs.lemmas.List.Sums.{passes_at_first}
use Rattle.std.proofs.lemmas.List.Folds.{list_any_at}
use Rattle.netlist.specs.declared.parts.Parts.{Parts}
use Rattle.netlist.specs.Netlists.{gate_at, IsNetlist, columns}
use Rattle.netlist.specs.Orders.{gates_read}
use Rattle.netlist.specs.Walks.{Feeds}
use Rattle.netlist.proofs.GraphLemmas.{length-gate_graph, edge_feeds}
use Rattle.aig_core.specs.Depth.{placed}
use Rattle.aig_core.proofs.ConjunctionLemmas.{any_place}
use Rattle.aig_core.proofs.DepthLemmas.{Lower, successors_lower, among_last}

abbrev pub AllAmong : List ℕ → List ℕ → Type 0
AllAmong seen nodes = All (λ n. list_any (nat_eq n) seen ≡ true) nodes

-- each of these nodes follows its successors, where those that are seen stand before them
abbrev pub AllFollow : List (List ℕ) → List ℕ → List ℕ → Type 0
AllFollow graph seen [] = Unit {0}
AllFollow graph seen (n ∷ rest) = (n < length graph) × AllAmong seen (successors graph n) × AllFollow graph (seen ++ n ∷ []) rest

pub AllFollow-push : (graph : List (List ℕ)) (seen nodes : List ℕ) (n : ℕ) → AllFollow graph seen nodes → n < length graph → AllAmong (seen ++ nodes) (successors graph n) → AllFollow graph seen (nodes ++ n ∷ [])
AllFollow-push graph seen [] n h l among = (l, rw append-nil at among, tt)
AllFollow-push graph seen (m ∷ rest) n h l among = grind (arith, AllFollow-push graph (seen ++ m ∷ []) rest n h.2 l, append_assoc seen (m ∷ []) rest)

among_push : (seen : List ℕ) (m n : ℕ) → list_any (nat_eq m) seen ≡ true → list_any (nat_eq m) (seen ++ n ∷ []) ≡ true
among_push seen m n h = list_any-append (nat_eq m) seen (n ∷ []) ∙ ap (λ t. t || list_any (nat_eq m) (n ∷ [])) h

-- what is known of the nodes after these were placed
pub record ArePlaced (graph : List (List ℕ)) (before after nodes : List ℕ) : Type 0 where
  pub order : AllFollow graph [] after
  pub all : AllAmong after nodes
  pub kept : (m : ℕ) → list_any (nat_eq m) before ≡ true → list_any (nat_eq m) after ≡ true

module _ (graph : List (List ℕ)) (ranks : HasRanks graph) where
  fold_placed : (d : ℕ) (nodes before : List ℕ) → ((n : ℕ) (b : List ℕ) → Lower graph ranks d n → AllFollow graph [] b → ArePlaced graph b (placed graph d b n) (n ∷ []))
      → All (Lower graph ranks d) nodes → AllFollow graph [] before → ArePlaced graph before (fold (placed graph d) before nodes) nodes
  fold_placed d [] before one low h = record { order = h; all = All-nil (λ n. list_any (nat_eq n) before ≡ true); kept = λ m k. k }
  fold_placed d (n ∷ rest) before one low h =
      let first = one n before (All-head (Lower graph ranks d) n rest low) h in
      let others = fold_placed d rest (placed graph d before n) one (All-tail (Lower graph ranks d) n rest low) first.order in
      let after = fold (placed graph d) (placed graph d before n) rest in
      record {
        order = others.order;
        all = All-cons (λ m. list_any (nat_eq m) after ≡ true) n rest (others.kept n (All-head (λ m. list_any (nat_eq m) (placed graph d before n) ≡ true) n [] first.all)) others.all;
        kept = λ m k. others.kept m (first.kept m k);
      }

  one_placed : (d n : ℕ) (before : List ℕ) → Lower graph ranks d n → AllFollow graph [] before → ArePlaced graph before (placed graph d before n) (n ∷ [])
  unfolding placed
  one_placed zero n before low h = absurd (omega (arith, low.1))
  one_placed (suc d) n before low h = grind (arith, fold_placed d (successors graph n) before, one_placed d, successors_lower graph ranks d n low.0, All-cons, All-nil, AllFollow-push graph [], among_last, among_push)

  pub postorder_is : (needed : List ℕ) → All (λ n. n < length graph) needed → ArePlaced graph [] (postorder graph needed) needed
  postorder_is needed within = grind (arith, fold_placed (length graph) needed [], one_placed (length graph))

-- ---- the graph of a netlist's gates

pub numbers_within : (net : Parts) (signals : List Sig) → All (IsSignal net) signals → All (λ n. n < length net.gates) (numbers_from (columns net) signals)
numbers_within net [] h = All-nil (λ n. n < length net.gates)
numbers_within net (s ∷ rest) h =
    grind (arith, numbers_within net rest (All-tail (IsSignal net) s rest h), All-tail (IsSignal net) s rest h, cases_Bool (nat_le (columns net) s.0), leb-true (columns net) s.0, All-head (IsSignal net) s rest h, All-cons)

pub gate_successors : (net : Parts) (n : ℕ) → n < length net.gates → successors (gate_graph net) n ≡ numbers_from (columns net) (gate_at net n).pins
gate_successors net n l = get_or-map (gates_read (columns net)) net.gates n no_gate [] l

pub gate_ranks : (net : Parts) (order : List ℕ) → IsNetlist net → IsGateOrder net order → HasRanks (gate_graph net)
gate_ranks net order valid is =
    let size = length-gate_graph net in
    let place : ℕ → ℕ = λ a. position_or_len (nat_eq a) order in
    let there : (a : ℕ) → a < length net.gates → place a < length order = λ a l.
    (let c = is.each a l in any_place (nat_eq a) order (list_any_at (nat_eq a) order c.0 a c.1 (eq-eqb a (get_or order c.0 a) (sym c.2)))) in
    let at : (a : ℕ) → a < length net.gates → get_or order (place a) 0 ≡ a = λ a l.
    sym (eqb-true a (get_or order (place a) 0) (passes_at_first (nat_eq a) order 0 (there a l))) in
    let nodes : (a : ℕ) → a < length (gate_graph net) → All (λ b. b < length (gate_graph net)) (successors (gate_graph net) a) = λ a l k d m.
    (let own : a < length net.gates = omega arith in
    let within : All (λ b. b < length net.gates) (successors (gate_graph net) a) = rw (gate_successors net a own) (numbers_within net (gate_at net a).pins (valid.pins a no_gate own)) in
    omega (arith, within k d m)) in
    record {
      rank = place;
      within = λ a l. (let own : a < length net.gates = omega arith in let t = there a own in let same = is.size in omega arith);
      falls = λ a b l listed.
          (let own : a < length net.gates = omega arith in
          let target : b < length (gate_graph net) = rw listed.2 at (nodes a l listed.0 b listed.1) in
          let low : b < length net.gates = omega arith in
          let feeds = edge_feeds net b a (record { source = l; target = target; listed = listed }) in
          is.after (place b) (place a) (there b low) (there a own) (subst (λ x. Feeds net x (get_or order (place a) 0)) (sym (at b low)) (subst (λ y. Feeds net b y) (sym (at a own)) feeds)));
      nodes = nodes;
    }
