-- The graph of the unknown gates has the cycles and ways of the netlist's unknown gates.
use Rattle.std.proofs.Common.{◌≡◌, inl, inr, ℕ, zero, suc, ◌+◌, ◌-◌, ◌<◌, ◌↔◌, Bool, true, List, [], ◌∷◌, ◌++◌, length, map, get_or, ap, sym, ◌∙◌, subst, arith, Some}
use Rattle.std.specs.List.{All, Contains, slice_get}
use Rattle.std.specs.Option.{option_map}
use Rattle.std.proofs.lemmas.Option.{same_Some, slice_get-get_or, slice_get-map, slice_get_within, get_or_from_slice_get}
use Rattle.std.proofs.lemmas.Bool.{cases_eq}
use Rattle.std.proofs.lemmas.List.{get_or_append_left, get_or_push, get_or_default, length-append, length-map}
use Rattle.std.proofs.lemmas.List.Elements.{Contains-append_left, Contains-push, Contains-push_cases, All-contains}
use Rattle.cyc_base.specs.declared.sig.Sig.{Sig}
use Rattle.cyc_base.specs.declared.trit.Trit.{Trit}
use Rattle.components.specs.Graphs.{Edge, successors}
use Rattle.explanations.specs.Cycles.{IsTrail, IsCycle, IsWay, IsShortest, last}
use Rattle.explanations.specs.declared.shortest.ShortCycle.{ShortCycle}
use Rattle.netlist.specs.declared.parts.Gate.{Gate}
use Rattle.netlist.specs.declared.parts.Parts.{Parts}
use Rattle.netlist.specs.Netlists.{signal, count, gate_at, gate_sig, no_gate, IsNetlist}
use Rattle.explanations.specs.declared.explanation.Explanation.{Explanation}
use Rattle.explanations.specs.Explained.{IsUnknown, IsLine, IsOpenCycle, Leads, AreReasons, Explains}
use Rattle.cyc_base.specs.Values.{bit, bits}
use Rattle.explanations.specs.Sides.{StandsOpen}
use Rattle.explanations.proofs.ClearedLemmas.{fix_at_gate}
use Rattle.cyc_base.specs.declared.trit.Trit.TheVariants.{X}
use Rattle.netlist.specs.Fixpoint.{wire, fix_gates, fix}
use Rattle.netlist.proofs.FixpointLemmas.{length-fix_gates}
use Rattle.explanations.specs.Matters.{Matters}
use Rattle.explanations.specs.Graph.{IsOpenSignal, IsOpenRead, HasOpenReads, OpenSways, ReadsOpen, IsOpenGraph}

-- ---- the gates on a gate's pins

pub open_reads_more : (first : ℕ) (known : List Trit) (gate : Gate) (n : ℕ) (reads : List ℕ) → n < length gate.pins → HasOpenReads first known gate n reads →
    IsOpenRead first known gate n → HasOpenReads first known gate (n + 1) (reads ++ ((get_or gate.pins n (signal 0)).0 - first) ∷ [])
open_reads_more first known gate n reads inside h is = record {
  all = λ k isk open'.
      elim (cases_eq k n) [
        | inl same ↦ subst (λ (j : ℕ). Contains (reads ++ ((get_or gate.pins n (signal 0)).0 - first) ∷ []) ((get_or gate.pins j (signal 0)).0 - first)) (sym same) (Contains-push reads ((get_or gate.pins n (signal 0)).0 - first))
        | inr apart ↦ Contains-append_left reads (((get_or gate.pins n (signal 0)).0 - first) ∷ []) ((get_or gate.pins k (signal 0)).0 - first) (h.all k (omega arith) open')
      ];
  only = λ g c.
      elim (Contains-push_cases reads ((get_or gate.pins n (signal 0)).0 - first) g c) [
        | inl old ↦ h.only g old
        | inr new ↦
            let behind = is.open_signal.behind in
            let number : (get_or gate.pins n (signal 0)).0 ≡ first + g = omega arith in
            let sig : get_or gate.pins n (signal 0) ≡ signal (first + g) = ap signal number in
            record { pin = n; reads = slice_get-get_or gate.pins n (signal 0) inside ∙ ap Some sig; matters = is.matters }
      ];
}

pub open_reads_skip : (first : ℕ) (known : List Trit) (gate : Gate) (n : ℕ) (reads : List ℕ) → HasOpenReads first known gate n reads →
    (IsOpenRead first known gate n → ⊥) → HasOpenReads first known gate (n + 1) reads
open_reads_skip first known gate n reads h none = record {
  all = λ k isk open'.
      elim (cases_eq k n) [
        | inl same ↦ absurd (none (subst (λ (j : ℕ). IsOpenRead first known gate j) same open'))
        | inr apart ↦ h.all k (omega arith) open'
      ];
  only = h.only;
}

pub open_reads_none : (first : ℕ) (known : List Trit) (gate : Gate) → HasOpenReads first known gate 0 []
open_reads_none first known gate = record { all = λ k l. absurd (omega arith); only = λ g c. absurd (omega (arith, c.1)) }

pub unknown_there : (known : List Trit) (pins : List Sig) (pin : ℕ) → pin < length pins → get_or known (get_or pins pin (signal 0)).0 X ≡ X → slice_get (map (wire known) pins) pin ≡ Some X
unknown_there known pins pin l x = slice_get-map (wire known) pins pin ∙ ap (option_map (wire known)) (slice_get-get_or pins pin (signal 0) l) ∙ ap Some x

pub open_read : (first : ℕ) (known : List Trit) (gate : Gate) (pin : ℕ) (b : Bool) → IsOpenSignal first known (get_or gate.pins pin (signal 0)).0 → (b ≡ true) ↔ Matters gate.cover (map (wire known) gate.pins) pin →
    (b ≡ true) ↔ IsOpenRead first known gate pin
open_read first known gate pin b is h = (λ e. record { open_signal = is; matters = h.0 e }, λ r. h.1 r.matters)

-- the value of a signal on a pin that matters
pub swayed_unknown : (known : List Trit) (pins : List Sig) (pin : ℕ) (s : Sig) → slice_get pins pin ≡ Some s → slice_get (map (wire known) pins) pin ≡ Some X → wire known s ≡ X
swayed_unknown known pins pin s at x = same_Some (wire known s) X (ap (option_map (wire known)) (sym at) ∙ sym (slice_get-map (wire known) pins pin) ∙ x)

pub reads_these : (net : Parts) (known : List Trit) (gate : ℕ) (reads : List ℕ) → IsNetlist net → gate < length net.gates → IsOpenSignal (length net.inputs + length net.latches) known (gate_sig net gate).0 →
    HasOpenReads (length net.inputs + length net.latches) known (gate_at net gate) (length (gate_at net gate).pins) reads → ReadsOpen net known gate reads
reads_these net known gate reads valid inside is h a = (
  λ c.
      let found = h.only a c in
      let within = slice_get_within (gate_at net gate).pins found.pin (gate_sig net a) found.reads in
      let at : get_or (gate_at net gate).pins found.pin (gate_sig net a) ≡ gate_sig net a = get_or_from_slice_get (gate_at net gate).pins found.pin (gate_sig net a) (gate_sig net a) found.reads in
      let number : (get_or (gate_at net gate).pins found.pin (gate_sig net a)).0 ≡ length net.inputs + length net.latches + a = ap (λ (s : Sig). s.0) at in
      let fits : (get_or (gate_at net gate).pins found.pin (gate_sig net a)).0 < count net = valid.pins gate no_gate inside found.pin (gate_sig net a) within in
      let source : a < length net.gates = omega arith in
      record {
        sways = record { source = source; reader = inside; pin = found.pin; reads = found.reads; matters = found.matters };
        source = record { gate = source; unknown = swayed_unknown known (gate_at net gate).pins found.pin (gate_sig net a) found.reads found.matters.unknown };
        reader = record { gate = inside; unknown = is.unknown };
      },
  λ open'.
      let sways = open'.sways in
      let within = slice_get_within (gate_at net gate).pins sways.pin (gate_sig net a) sways.reads in
      let at : get_or (gate_at net gate).pins sways.pin (signal 0) ≡ gate_sig net a = get_or_from_slice_get (gate_at net gate).pins sways.pin (gate_sig net a) (signal 0) sways.reads in
      let there : (get_or (gate_at net gate).pins sways.pin (signal 0)).0 ≡ length net.inputs + length net.latches + a = ap (λ (s : Sig). s.0) at in
      let number : (get_or (gate_at net gate).pins sways.pin (signal 0)).0 - (length net.inputs + length net.latches) ≡ a = omega arith in
      let open_signal : IsOpenSignal (length net.inputs + length net.latches) known (get_or (gate_at net gate).pins sways.pin (signal 0)).0 =
      subst (λ (m : ℕ). IsOpenSignal (length net.inputs + length net.latches) known m) (sym there) (record { behind = omega arith; unknown = open'.source.unknown }) in
      subst (λ (m : ℕ). Contains reads m) number (h.all sways.pin within (record { open_signal = open_signal; matters = sways.matters })),
)

-- ---- the graph, node by node

pub open_graph_more : (net : Parts) (known : List Trit) (n : ℕ) (graph : List (List ℕ)) (reads : List ℕ) → IsOpenGraph net known n graph → ReadsOpen net known n reads → IsOpenGraph net known (n + 1) (graph ++ reads ∷ [])
open_graph_more net known n graph reads h r = record {
  size = (let joined = length-append graph (reads ∷ []) in let size = h.size in omega arith);
  reads = λ b l.
      let size = h.size in
      elim (cases_eq b n) [
        | inl same ↦
            let here : successors (graph ++ reads ∷ []) b ≡ reads = get_or_push graph reads [] b (omega arith) in
            subst (λ (ns : List ℕ). ReadsOpen net known b ns) (sym here) (subst (λ (m : ℕ). ReadsOpen net known m reads) (sym same) r)
        | inr apart ↦
            let here : successors (graph ++ reads ∷ []) b ≡ successors graph b = get_or_append_left graph (reads ∷ []) [] b (omega arith) in
            subst (λ (ns : List ℕ). ReadsOpen net known b ns) (sym here) (h.reads b (omega arith))
      ];
}

-- ---- cycles and ways

module _ (net : Parts) (known : List Trit) (graph : List (List ℕ)) (h : IsOpenGraph net known (length net.gates) graph) where
  pub edge_sways : (a b : ℕ) → Edge graph a b → OpenSways net known b a
  edge_sways a b edge = (let size = h.size in let l = edge.source in (h.reads a (omega arith) b).0 edge.listed)

  pub sways_edge : (a b : ℕ) → OpenSways net known b a → Edge graph a b
  sways_edge a b sways =
      let size = h.size in
      let reader = sways.reader.gate in
      let source = sways.source.gate in
      record { source = omega arith; target = omega arith; listed = (h.reads a reader b).1 sways }

  pub trail_line : (nodes : List ℕ) → IsTrail graph nodes → IsLine net known nodes
  trail_line nodes trail k l = (edge_sways (get_or nodes (k + 1) 0) (get_or nodes k 0) (trail k l)).sways

  -- each node of a trail but the first is unknown
  behind_unknown : (nodes : List ℕ) → IsTrail graph nodes → (k : ℕ) → k + 1 < length nodes → IsUnknown net known (get_or nodes (k + 1) 0)
  behind_unknown nodes trail k l = (edge_sways (get_or nodes (k + 1) 0) (get_or nodes k 0) (trail k l)).reader

  line_trail : (nodes : List ℕ) → All (IsUnknown net known) nodes → IsLine net known nodes → IsTrail graph nodes
  line_trail nodes unknown line k l = grind (arith, sways_edge (get_or nodes (k + 1) 0) (get_or nodes k 0))

  cycle_unknown : (nodes : List ℕ) → IsCycle graph nodes → (k : ℕ) → k < length nodes → IsUnknown net known (get_or nodes k 0)
  cycle_unknown nodes cycle zero l = (edge_sways (get_or nodes 0 0) (last nodes) cycle.closes).reader
  cycle_unknown nodes cycle (suc k) l =
      subst (λ (m : ℕ). IsUnknown net known (get_or nodes m 0)) (omega arith) (behind_unknown nodes cycle.trail k (omega arith))

  pub open_cycle : (nodes : List ℕ) → IsCycle graph nodes → IsOpenCycle net known nodes
  open_cycle nodes cycle = record {
    some = cycle.some;
    line = trail_line nodes cycle.trail;
    closes = (edge_sways (get_or nodes 0 0) (last nodes) cycle.closes).sways;
    unknown = λ k d l. subst (λ (g : ℕ). IsUnknown net known g) (get_or_default nodes k 0 d l) (cycle_unknown nodes cycle k l);
  }

  pub graph_cycle : (nodes : List ℕ) → IsOpenCycle net known nodes → IsCycle graph nodes
  graph_cycle nodes cycle = grind (arith, line_trail nodes cycle.unknown cycle.line, sways_edge (get_or nodes 0 0) (last nodes))

  pub open_way : (cycle way : List ℕ) (goal : ℕ) → IsWay graph cycle way goal → Leads net known cycle way goal
  open_way cycle way goal leads = record {
    start = leads.start;
    on = leads.on;
    line = trail_line (leads.start ∷ way) leads.trail;
    ends = leads.ends;
    unknown = λ k d l.
        let e : k + 1 ≡ suc k = omega arith in
        let here : get_or (leads.start ∷ way) (k + 1) 0 ≡ get_or way k d = ap (λ m. get_or (leads.start ∷ way) m 0) e ∙ get_or_default way k 0 d l in
        subst (λ (g : ℕ). IsUnknown net known g) here (behind_unknown (leads.start ∷ way) leads.trail k (omega arith));
  }

  All-both : (start : ℕ) (way : List ℕ) → IsUnknown net known start → All (IsUnknown net known) way → All (IsUnknown net known) (start ∷ way)
  All-both start way u us h d l = grind arith

  pub graph_way : (cycle way : List ℕ) (goal : ℕ) → IsOpenCycle net known cycle → Leads net known cycle way goal → IsWay graph cycle way goal
  graph_way cycle way goal is leads = record {
    start = leads.start;
    on = leads.on;
    trail = line_trail (leads.start ∷ way) (All-both leads.start way (All-contains (IsUnknown net known) cycle leads.start is.unknown leads.on) leads.unknown) leads.line;
    ends = leads.ends;
  }

  -- all gates of a cycle and of a way
  pub all_unknown : (cycle way : List ℕ) → All (IsUnknown net known) cycle → All (IsUnknown net known) way → All (IsUnknown net known) (cycle ++ way)
  all_unknown [] way c w k d l = w k d l
  all_unknown (g ∷ cycle) way c w zero d l = c zero d (omega arith)
  all_unknown (g ∷ cycle) way c w (suc k) d l = all_unknown cycle way (λ j e m. c (suc j) e (omega arith)) w k d (omega arith)

pub explained : (net : Parts) (v : List Bool) (graph : List (List ℕ)) (goal : ℕ) (found : ShortCycle) (why : Explanation) → IsOpenGraph net (fix net (bits v)) (length net.gates) graph → IsShortest graph goal found →
    AreReasons net v found why → Explains net v goal why
explained net v graph goal found why h shortest reasons =
    let cycle : IsOpenCycle net (fix net (bits v)) why.cycle = rw reasons.cycle (open_cycle net (fix net (bits v)) graph h found.cycle shortest.cycle) in
    record {
      cycle = cycle;
      leads = rw (reasons.cycle, reasons.way) (open_way net (fix net (bits v)) graph h found.cycle found.way goal shortest.way);
      off = rw (reasons.cycle, reasons.way) shortest.off;
      once = rw reasons.way shortest.once;
      shortest = λ way leads.
          let way_there : IsWay graph why.cycle way goal = graph_way net (fix net (bits v)) graph h why.cycle way goal cycle leads in
          rw reasons.way (shortest.shortest way (rw reasons.cycle at way_there));
      fewest = λ other way is leads.
          rw reasons.cycle
          (shortest.fewest other way (graph_cycle net (fix net (bits v)) graph h other is) (graph_way net (fix net (bits v)) graph h other way goal is leads));
      sides = reasons.sides;
      needs = reasons.needs;
      also = reasons.also;
    }

-- all gates of what was found are unknown
pub found_unknown : (net : Parts) (known : List Trit) (graph : List (List ℕ)) (goal : ℕ) (found : ShortCycle) → IsOpenGraph net known (length net.gates) graph → IsShortest graph goal found → All (IsUnknown net known) (found.cycle ++ found.way)
found_unknown net known graph goal found h shortest =
    all_unknown net known graph h found.cycle found.way (open_cycle net known graph h found.cycle shortest.cycle).unknown (open_way net known graph h found.cycle found.way goal shortest.way).unknown

-- a gate that is unknown in the fixpoint is left so by its pins
pub stands_open : (net : Parts) (v : List Bool) (gates : List ℕ) → length v ≡ length net.inputs + length net.latches → All (IsUnknown net (fix net (bits v))) gates → All (StandsOpen net (fix net (bits v))) gates
stands_open net v gates width all k d l =
    let u = all k d l in
    record { gate = u.gate; unknown = u.unknown; value = sym (fix_at_gate net (bits v) (get_or gates k d) (length-map v bit ∙ width) u.gate) ∙ u.unknown }

pub all_first : (net : Parts) (known : List Trit) (cycle way : List ℕ) → All (IsUnknown net known) (cycle ++ way) → All (IsUnknown net known) cycle
all_first net known cycle way all k d l = (let joined = length-append cycle way in subst (λ (g : ℕ). IsUnknown net known g) (get_or_append_left cycle way d k l) (all k d (omega arith)))

pub fix_size : (net : Parts) (v : List Bool) → length v ≡ length net.inputs + length net.latches → length (fix net (bits v)) ≡ count net
fix_size net v width =
    let joined = length-append (bits v) (fix_gates net (bits v)) in
    let gates = length-fix_gates net (bits v) in
    let columns = length-map v bit in
    omega arith
