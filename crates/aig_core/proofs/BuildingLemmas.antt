-- The edges of the gates that are built have the values of the netlist's fixpoint.
use Rattle.std.proofs.Common.{◌≡◌, inl, inr, ℕ, ◌+◌, ◌-◌, ◌<◌, ◌≤◌, Bool, true, false, if◌then◌else◌, List, [], ◌∷◌, ◌++◌, length, get_or, set, take, map, fold, filter, All, refl, sym, ap, ap₂, subst, ◌∙◌, arith, true≢false}
use Rattle.aig_core.proofs.Common.{nat_eq, list_any, cases_Bool, append-nil, append_assoc, get_or_append_left, All-nil, All-cons, All-head, All-tail, Sig, Latch, no_gate, IsSignal, numbers_from, gate_graph, IsGateOrder, Edge, Graph, edge, edge_to, IsEdge, den, IsSound, Building, signal_edge, building, HasEdges}
use Rattle.std.specs.Prelude.{nat_le}
use Rattle.std.proofs.lemmas.Bool.{cases_lt, cases_eq, lt-ltb, le-ltb, le-leb, false≢true}
use Rattle.std.proofs.lemmas.List.{length-map, length-append, length-replicate, length-set, get_or-append_right, get_or-set_same, get_or-set_other, map-append, get_or-append-add}
use Rattle.std.proofs.lemmas.List.Sums.{fold_more}
use Rattle.std.proofs.lemmas.List.Elements.{All-map, All-append, All-get_or, All-set, All-replicate, filter-append}
use Rattle.std.proofs.lemmas.Option.{none-some}
use Rattle.cyc_base.specs.declared.trit.Trit.TheVariants.{X}
use Rattle.cyc_base.specs.Values.{bit, bits}
use Rattle.cyc_base.proofs.ListLemmas.{map-map}
use Rattle.cyc_base.proofs.OrderLemmas.{bits-at}
use Rattle.cover_logic.specs.Covers.{value}
use Rattle.cover_logic.specs.Extensions.{ext}
use Rattle.cover_logic.proofs.ExtensionLemmas.{ext_at_bits}
use Rattle.netlist.specs.declared.parts.Parts.{Parts}
use Rattle.netlist.specs.Netlists.{gate_at, IsNetlist, columns}
use Rattle.netlist.specs.Fixpoint.{wire, fix_gates, fix}
use Rattle.netlist.proofs.FixpointLemmas.{get_or-fix}
use Rattle.netlist.proofs.GraphLemmas.{length-gate_graph}
use Rattle.aig_core.specs.Graphs.{empty}
use Rattle.aig_core.specs.Building.{needed_signals, build_order, gate_made, with_gate, nothing_built, built}
use Rattle.aig_core.specs.Answers.{HasValues, FitsNetlist}
use Rattle.aig_core.proofs.GraphLemmas.{den-column}
use Rattle.aig_core.proofs.ConjunctionLemmas.{IsMade}
use Rattle.aig_core.proofs.CoverLemmas.{edges_kept, cover_is, cover-grows, fold-first}
use Rattle.aig_core.proofs.DepthLemmas.{among_others}
use Rattle.aig_core.proofs.OrderLemmas.{AllAmong, AllFollow, postorder_is, numbers_within, gate_successors, gate_ranks}

-- ---- the number of ANDs

pub gate-grows : (net : Parts) (b : Building) (n : ℕ) → length b.graph.ands ≤ length (with_gate net b n).graph.ands
gate-grows net b n = cover-grows b.graph (map (signal_edge net b.edges) (gate_at net n).pins) (gate_at net n).cover

pub building-grows : (net : Parts) (gates : List ℕ) (n : ℕ) → length (building net (take n gates)).graph.ands ≤ length (building net gates).graph.ands
unfolding building
building-grows net gates n = fold-first (with_gate net) (λ b. length b.graph.ands) (gate-grows net) (nothing_built net) gates n

pub building-none : (net : Parts) → building net [] ≡ nothing_built net
unfolding building
building-none net = refl

pub building_next : (net : Parts) (gates : List ℕ) (k n : ℕ) → k < length gates → n ≡ get_or gates k n → with_gate net (building net (take k gates)) n ≡ building net (take (k + 1) gates)
unfolding building
building_next net gates k n l is = grind (arith, fold_more (with_gate net) (nothing_built net) gates k n l)

-- ---- signals

-- what is known once these gates are built
pub record AreBuilt (net : Parts) (gates : List ℕ) (b : Building) : Type 0 where
  pub sound : IsSound b.graph
  pub has : HasEdges net b.graph b.edges
  pub values : (n : ℕ) (v : List Bool) → n < length net.gates → list_any (nat_eq n) gates ≡ true → length v ≡ columns net →
      bit (den b.graph (get_or b.edges n (edge 0)) v) ≡ get_or (fix_gates net (bits v)) n X

signal_edge-column : (net : Parts) (edges : List Edge) (s : Sig) → s.0 < columns net → signal_edge net edges s ≡ edge_to (1 + s.0)
signal_edge-column net edges s l = ap (λ t. if t then edge_to (1 + s.0) else get_or edges (s.0 - columns net) (edge 0)) (lt-ltb s.0 (columns net) l)

signal_edge-gate : (net : Parts) (edges : List Edge) (s : Sig) → columns net ≤ s.0 → signal_edge net edges s ≡ get_or edges (s.0 - columns net) (edge 0)
signal_edge-gate net edges s l = ap (λ t. if t then edge_to (1 + s.0) else get_or edges (s.0 - columns net) (edge 0)) (le-ltb s.0 (columns net) l)

pub signal_edge_is : (net : Parts) (g : Graph) (edges : List Edge) (s : Sig) → HasEdges net g edges → IsSignal net s → IsEdge g (signal_edge net edges s)
signal_edge_is net g edges s has signal = grind arith

pub signal_edges_are : (net : Parts) (g : Graph) (edges : List Edge) (signals : List Sig) → HasEdges net g edges → All (IsSignal net) signals → All (IsEdge g) (map (signal_edge net edges) signals)
signal_edges_are net g edges signals has all = grind (arith, All-map (IsEdge g) (signal_edge net edges) signals, signal_edge_is net g edges)

wire-column : (net : Parts) (v : List Bool) (s : Sig) → length v ≡ columns net → s.0 < columns net → wire (fix net (bits v)) s ≡ bit (get_or v s.0 false)
wire-column net v s width l = grind (arith, length-map v bit, get_or_append_left (bits v) (fix_gates net (bits v)) X s.0, bits-at v s.0)

wire-gate : (net : Parts) (v : List Bool) (s : Sig) → length v ≡ columns net → columns net ≤ s.0 → wire (fix net (bits v)) s ≡ get_or (fix_gates net (bits v)) (s.0 - columns net) X
wire-gate net v s width m = grind (arith, get_or-append_right (bits v) (fix_gates net (bits v)) (columns net) s.0 X, length-map v bit)

pub signal_value : (net : Parts) (gates : List ℕ) (b : Building) (v : List Bool) (s : Sig) → AreBuilt net gates b → IsSignal net s
    → (columns net ≤ s.0 → list_any (nat_eq (s.0 - columns net)) gates ≡ true) → length v ≡ columns net
    → bit (den b.graph (signal_edge net b.edges s) v) ≡ wire (fix net (bits v)) s
signal_value net gates b v s are signal among width = grind (arith, cases_lt s.0 (columns net), signal_edge-column net b.edges s, den-column b.graph s.0 v, wire-column net v s width, signal_edge-gate net b.edges s, wire-gate net v s width)

-- a gate among signals is among their numbers, and so are those of the rest
among_numbers : (net : Parts) (gates : List ℕ) (s : Sig) (rest : List Sig) → AllAmong gates (numbers_from (columns net) (s ∷ rest))
    → (columns net ≤ s.0 → list_any (nat_eq (s.0 - columns net)) gates ≡ true) × AllAmong gates (numbers_from (columns net) rest)
among_numbers net gates s rest all = elim (cases_Bool (nat_le (columns net) s.0)) [
  | inl above ↦
      let among : AllAmong gates ((s.0 - columns net) ∷ numbers_from (columns net) rest) = rw above at all in
      let test = λ (n : ℕ). list_any (nat_eq n) gates ≡ true in
      (λ m. All-head test (s.0 - columns net) (numbers_from (columns net) rest) among, All-tail test (s.0 - columns net) (numbers_from (columns net) rest) among)
  | inr below ↦ (λ m. absurd (true≢false (sym (le-leb (columns net) s.0 m) ∙ below)), rw below at all)
]

pub signals_values : (net : Parts) (gates : List ℕ) (b : Building) (v : List Bool) (signals : List Sig) → AreBuilt net gates b → All (IsSignal net) signals
    → AllAmong gates (numbers_from (columns net) signals) → length v ≡ columns net
    → bits (map (λ e. den b.graph e v) (map (signal_edge net b.edges) signals)) ≡ map (wire (fix net (bits v))) signals
signals_values net gates b v [] are all among width = refl
signals_values net gates b v (s ∷ rest) are all among width =
    ap₂ (λ x xs. x ∷ xs)
    (signal_value net gates b v s are (All-head (IsSignal net) s rest all) (among_numbers net gates s rest among).0 width)
    (signals_values net gates b v rest are (All-tail (IsSignal net) s rest all) (among_numbers net gates s rest among).1 width)

-- ---- one more gate

pub HasEdges-gate : (net : Parts) (b : Building) (n : ℕ) → IsSound b.graph → IsNetlist net → HasEdges net b.graph b.edges → n < length net.gates
    → IsMade b.graph (gate_made net b n) (λ v. value (gate_at net n).cover (map (λ e. den b.graph e v) (map (signal_edge net b.edges) (gate_at net n).pins)))
HasEdges-gate net b n sound valid has l =
    grind (arith, cover_is b.graph (map (signal_edge net b.edges) (gate_at net n).pins) (gate_at net n).cover sound (signal_edges_are net b.graph b.edges (gate_at net n).pins has (valid.pins n no_gate l)), signal_edges_are net b.graph b.edges (gate_at net n).pins has (valid.pins n no_gate l))

pub gate_built : (net : Parts) (gates : List ℕ) (b : Building) (n : ℕ) → IsNetlist net → AreBuilt net gates b → n < length net.gates
    → AllAmong gates (numbers_from (columns net) (gate_at net n).pins) → AreBuilt net (gates ++ n ∷ []) (with_gate net b n)
gate_built net gates b n valid are l among =
    let is = HasEdges-gate net b n are.sound valid are.has l in
    let made = gate_made net b n in
    let edges = set b.edges n made.edge in
    record {
      sound = is.sound;
      has = record {
        inputs = ap (λ (g : Graph). g.inputs) is.extends.is ∙ are.has.inputs;
        latches = ap (λ (g : Graph). g.latches) is.extends.is ∙ are.has.latches;
        width = length-set b.edges n made.edge ∙ are.has.width;
        all = All-set (IsEdge made.graph) b.edges n made.edge is.is_edge (edges_kept b.edges is.extends are.has.all);
      };
      values = λ m v k there width. elim (cases_eq m n) [
        | inl e ↦
            subst (λ i. bit (den made.graph (get_or edges i (edge 0)) v) ≡ get_or (fix_gates net (bits v)) i X) (sym e)
            (ap (λ x. bit (den made.graph x v)) (get_or-set_same b.edges n made.edge (edge 0) (omega (arith, are.has.width)))
            ∙ ap bit (is.value_is v (omega (arith, are.has.inputs, are.has.latches)))
            ∙ sym (ext_at_bits (gate_at net n).cover (map (λ x. den b.graph x v) (map (signal_edge net b.edges) (gate_at net n).pins)))
            ∙ ap (ext (gate_at net n).cover) (signals_values net gates b v (gate_at net n).pins are (valid.pins n no_gate l) among width)
            ∙ sym (get_or-fix net (bits v) n l))
        | inr ne ↦
            let before : list_any (nat_eq m) gates ≡ true = sym (among_others gates m n ne) ∙ there in
            ap (λ x. bit (den made.graph x v)) (get_or-set_other b.edges n m made.edge (edge 0) ne)
            ∙ ap bit (is.extends.keeps (get_or b.edges m (edge 0)) v (All-get_or (IsEdge b.graph) b.edges m (edge 0) (omega (arith, are.has.width)) are.has.all) (omega (arith, are.has.inputs, are.has.latches)))
            ∙ are.values m v k before width
      ];
    }

pub nothing_is_built : (net : Parts) → AreBuilt net [] (nothing_built net)
nothing_is_built net = grind (arith, length-replicate (length net.gates) (edge 0), All-replicate (IsEdge (empty (length net.inputs) (length net.latches))) (length net.gates) (edge 0), false≢true, none-some)

gates_built : (net : Parts) (seen rest : List ℕ) (b : Building) → IsNetlist net → AreBuilt net seen b → AllFollow (gate_graph net) seen rest → AreBuilt net (seen ++ rest) (fold (with_gate net) b rest)
gates_built net seen [] b valid are follow = rw append-nil are
gates_built net seen (n ∷ rest) b valid are follow = grind (arith, length-gate_graph net, gate_built net seen b n valid are, gate_successors net n, append_assoc seen (n ∷ []) rest, gates_built net (seen ++ n ∷ []) rest (with_gate net b n) valid)

-- ---- the whole netlist

pub sources_are : (net : Parts) → IsNetlist net → All (IsSignal net) (map (λ (latch : Latch). latch.from) net.latches)
sources_are net valid = All-map (IsSignal net) (λ (latch : Latch). latch.from) net.latches valid.sources

pub needed_within : (net : Parts) → IsNetlist net → All (λ n. n < length net.gates) (numbers_from (columns net) (needed_signals net))
needed_within net valid = grind (arith, numbers_within net (needed_signals net), All-append (IsSignal net) net.outputs, sources_are net valid)

numbers-append : (first : ℕ) (xs ys : List Sig) → numbers_from first (xs ++ ys) ≡ numbers_from first xs ++ numbers_from first ys
numbers-append first xs ys = ap (map (λ (s : Sig). s.0 - first)) (filter-append (λ (s : Sig). nat_le first s.0) xs ys) ∙ map-append (λ (s : Sig). s.0 - first) (filter (λ (s : Sig). nat_le first s.0) xs) (filter (λ (s : Sig). nat_le first s.0) ys)

all_left : (P : ℕ → Type 0) (xs ys : List ℕ) → All P (xs ++ ys) → All P xs
all_left P xs ys h k d l = subst P (get_or_append_left xs ys d k l) (h k d (omega (arith, length-append xs ys)))

all_right : (P : ℕ → Type 0) (xs ys : List ℕ) → All P (xs ++ ys) → All P ys
all_right P xs ys h k d l = subst P (get_or-append-add xs ys k d) (h (length xs + k) d (omega (arith, length-append xs ys)))

pub needed_in_graph : (net : Parts) → IsNetlist net → All (λ n. n < length (gate_graph net)) (numbers_from (columns net) (needed_signals net))
needed_in_graph net valid k d l = grind (arith, length-gate_graph net, needed_within net valid k d l)

order_within : (graph : List (List ℕ)) (count : ℕ) (seen nodes : List ℕ) → length graph ≡ count → AllFollow graph seen nodes → All (λ n. n < count) nodes
order_within graph count seen [] size h = All-nil (λ n. n < count)
order_within graph count seen (n ∷ rest) size h = All-cons (λ m. m < count) n rest (omega (arith, h.0)) (order_within graph count (seen ++ n ∷ []) rest size h.2)

pub build_order_within : (net : Parts) (order : List ℕ) → IsNetlist net → IsGateOrder net order → All (λ n. n < length net.gates) (build_order net)
build_order_within net order valid is =
    grind (arith, postorder_is (gate_graph net) (gate_ranks net order valid is) (numbers_from (columns net) (needed_signals net)) (needed_in_graph net valid), gate_ranks net order valid is, needed_in_graph net valid, order_within (gate_graph net) (length net.gates) [] (build_order net) (length-gate_graph net), length-gate_graph net)

pub record IsBuiltWhole (net : Parts) (gates : List ℕ) (b : Building) : Type 0 where
  pub are : AreBuilt net gates b
  pub outputs : AllAmong gates (numbers_from (columns net) net.outputs)
  pub nexts : AllAmong gates (numbers_from (columns net) (map (λ (latch : Latch). latch.from) net.latches))

pub whole_built : (net : Parts) (order : List ℕ) → IsNetlist net → IsGateOrder net order → IsBuiltWhole net (build_order net) (building net (build_order net))
unfolding building
whole_built net order valid is =
    let ranks = gate_ranks net order valid is in
    let placed = postorder_is (gate_graph net) ranks (numbers_from (columns net) (needed_signals net)) (needed_in_graph net valid) in
    let all = subst (λ (ns : List ℕ). AllAmong (build_order net) ns) (numbers-append (columns net) net.outputs (map (λ (latch : Latch). latch.from) net.latches)) placed.all in
    let among = λ (n : ℕ). list_any (nat_eq n) (build_order net) ≡ true in
    record {
      are = gates_built net [] (build_order net) (nothing_built net) valid (nothing_is_built net) placed.order;
      outputs = all_left among (numbers_from (columns net) net.outputs) (numbers_from (columns net) (map (λ (latch : Latch). latch.from) net.latches)) all;
      nexts = all_right among (numbers_from (columns net) net.outputs) (numbers_from (columns net) (map (λ (latch : Latch). latch.from) net.latches)) all;
    }

pub built_has_values : (net : Parts) (order : List ℕ) → IsNetlist net → IsGateOrder net order → HasValues net (built net)
built_has_values net order valid is =
    let whole = whole_built net order valid is in
    let b = building net (build_order net) in
    record {
      outputs = λ v width. signals_values net (build_order net) b v net.outputs whole.are valid.outputs whole.outputs width;
      nexts = λ v width.
          ap (λ es. bits (map (λ e. den b.graph e v) es)) (sym (map-map (signal_edge net b.edges) (λ (latch : Latch). latch.from) net.latches))
          ∙ signals_values net (build_order net) b v (map (λ (latch : Latch). latch.from) net.latches) whole.are (sources_are net valid) whole.nexts width
          ∙ map-map (wire (fix net (bits v))) (λ (latch : Latch). latch.from) net.latches;
    }

pub built_fits : (net : Parts) (order : List ℕ) → IsNetlist net → IsGateOrder net order → FitsNetlist net (built net)
built_fits net order valid is =
    let whole = whole_built net order valid is in
    let b = building net (build_order net) in
    record {
      inputs = whole.are.has.inputs;
      latches = whole.are.has.latches;
      output_count = length-map net.outputs (signal_edge net b.edges);
      next_count = length-map net.latches (λ (latch : Latch). signal_edge net b.edges latch.from);
      outputs = signal_edges_are net b.graph b.edges net.outputs whole.are.has valid.outputs;
      nexts = All-map (IsEdge b.graph) (λ (latch : Latch). signal_edge net b.edges latch.from) net.latches (λ k d l. signal_edge_is net b.graph b.edges (get_or net.latches k d).from whole.are.has (valid.sources k d l));
    }
