-- What a gate reads: inputs, latches, and gates of its block or of blocks before it.
use Rattle.std.proofs.Common.{◌≡◌, ◌⊎◌, inl, inr, ℕ, zero, suc, ◌+◌, ◌-◌, ◌<◌, ◌≤◌, List, [], ◌∷◌, length, map, get_or, ap, sym, ◌∙◌, arith, Contains}
use Rattle.simulation.proofs.Common.{cases_lt, get_or_default, Sig, Trit, X, Below, Parts, IsNetlist, count, gate_at, gate_sig, wire, gate_value, fix, fix_gates, Blocks, AreBlocksOf, home_of, first_gate, vector_of}
use Rattle.std.proofs.lemmas.List.{get_or_append_left, get_or-append-add, get_or-take, length-take-le}
use Rattle.cyc_base.specs.Values.{EachBelow}
use Rattle.cover_logic.specs.Extensions.{ext}
use Rattle.cover_logic.proofs.ExtensionLemmas.{ext_is_monotone}
use Rattle.netlist.specs.declared.parts.Gate.{Gate}
use Rattle.netlist.specs.Fixpoint.{wires}
use Rattle.netlist.proofs.FixpointLemmas.{get_or-fix}
use Rattle.loops.proofs.Reading.{map_agree}

pub contains_at : {A : Type 0} (xs : List A) (k : ℕ) (d : A) → k < length xs → Contains xs (get_or xs k d)
contains_at xs k d l = (k, l, get_or_default xs k (get_or xs k d) d l)

-- a gate has one value where its pins have the same values
pub value_same : (gate : Gate) (a b : List Trit) → ((s : Sig) → Contains gate.pins s → wire a s ≡ wire b s) → gate_value a gate ≡ gate_value b gate
value_same gate a b h =
    ap (ext gate.cover)
    (map_agree (wire a) (wire b) gate.pins (λ k d l. h (get_or gate.pins k d) (contains_at gate.pins k d l)))

maps_below : {A : Type 0} (f g : A → Trit) (xs : List A) → ((k : ℕ) (d : A) → k < length xs → Below (f (get_or xs k d)) (g (get_or xs k d))) → EachBelow (map f xs) (map g xs)
maps_below f g [] h = tt
maps_below f g (x ∷ xs) h = (h zero x (omega arith), maps_below f g xs (λ k d l. h (suc k) d (omega arith)))

-- and no less is known of it where no less is known of its pins
pub value_below : (gate : Gate) (low high : List Trit) → ((s : Sig) → Contains gate.pins s → Below (wire low s) (wire high s)) → Below (gate_value low gate) (gate_value high gate)
value_below gate low high h =
    ext_is_monotone gate.cover (map (wire low) gate.pins) (map (wire high) gate.pins)
    (maps_below (wire low) (wire high) gate.pins (λ k d l. h (get_or gate.pins k d) (contains_at gate.pins k d l)))

pub record IsGateSignal (net : Parts) (s : Sig) : Type 0 where
  pub number : ℕ
  pub within : number < length net.gates
  pub is : s ≡ gate_sig net number

pub signal_cases : (net : Parts) (s : Sig) → s.0 < count net → (s.0 < first_gate net) ⊎ IsGateSignal net s
signal_cases net s l =
    elim (cases_lt s.0 (first_gate net)) [
      | inl low ↦ inl low
      | inr high ↦
          let same : s.0 ≡ first_gate net + (s.0 - first_gate net) = omega arith in
          inr (record {
            number = s.0 - first_gate net;
            within = omega arith;
            is = ap (λ (n : ℕ). let t : Sig = record { 0 = n } in t) same;
          })
    ]

pub pin_within : (net : Parts) → IsNetlist net → (n : ℕ) (s : Sig) → n < length net.gates → Contains (gate_at net n).pins s → s.0 < count net
pin_within net is n s l c = grind arith

-- the values of a vector and of gates, as values of signals
pub wire-input : (net : Parts) (v state : List Trit) (s : Sig) → length v ≡ first_gate net → s.0 < first_gate net → wire (wires v state) s ≡ get_or v s.0 X
wire-input net v state s w l = get_or_append_left v state X s.0 (omega arith)

pub wire-gate : (net : Parts) (v state : List Trit) (n : ℕ) → length v ≡ first_gate net → wire (wires v state) (gate_sig net n) ≡ get_or state n X
wire-gate net v state n w = rw (← w) (get_or-append-add v state n X)

pub fix-gate : (net : Parts) (v : List Trit) (n : ℕ) → length v ≡ first_gate net → n < length net.gates → wire (fix net v) (gate_sig net n) ≡ gate_value (fix net v) (gate_at net n)
fix-gate net v n w l = wire-gate net v (fix_gates net v) n w ∙ get_or-fix net v n l

-- the vector that the wires hold
pub length-vector : (net : Parts) (values : List Trit) → length values ≡ count net → length (vector_of net values) ≡ first_gate net
length-vector net values w = length-take-le (first_gate net) values (omega arith)

pub wire-vector : (net : Parts) (values : List Trit) (s : Sig) → s.0 < first_gate net → wire values s ≡ get_or (vector_of net values) s.0 X
wire-vector net values s l = sym (get_or-take (first_gate net) values s.0 X l)

-- a gate that is read stands in no later block
pub pin-before : (net : Parts) (blocks : Blocks) → AreBlocksOf net blocks → (m n : ℕ) (s : Sig) → m < length net.gates → n < length net.gates → s ≡ gate_sig net m → Contains (gate_at net n).pins s → home_of blocks m ≤ home_of blocks n
pin-before net blocks are m n s l k e c = grind arith
