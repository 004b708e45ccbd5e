-- Settling gate by gate stays below the fixpoint, and an empty queue shows that it is reached.
use Rattle.std.proofs.Common.{◌≡◌, ◌≢◌, ◌⊎◌, inl, inr, ℕ, suc, ◌<◌, ◌≤◌, ◌+◌, ◌-◌, ◌*◌, List, [], ◌∷◌, ◌++◌, length, get_or, set, refl, ap, sym, ◌∙◌, arith}
use Rattle.std.specs.List.{Contains, All, range_with_len}
use Rattle.std.specs.declared.option.Option.{Option}
use Rattle.std.specs.Prelude.{Some, None}
use Rattle.std.proofs.lemmas.Bool.{cases_eq}
use Rattle.std.proofs.lemmas.List.{get_or-set_same, get_or-set_other, get_or-append-add, set-append_right, length-append, length-set}
use Rattle.std.proofs.lemmas.List.Elements.{All-append, All-head, All-tail, Contains-append_left, Contains-append_right}
use Rattle.std.proofs.lemmas.List.FromFn.{length-range_with_len, get_or-range_with_len}
use Rattle.std.proofs.Math.Nat.{mul-le-mul_right}
use Rattle.cyc_base.specs.declared.sig.Sig.{Sig}
use Rattle.cyc_base.specs.declared.trit.Trit.{Trit}
use Rattle.cyc_base.specs.declared.trit.Trit.TheVariants.{X}
use Rattle.cyc_base.specs.Values.{Below, EachBelow}
use Rattle.cyc_base.proofs.OrderLemmas.{Below-refl, EachBelow-refl, EachBelow-at, EachBelow-antisym, EachBelow-length, EachBelow-from_at}
use Rattle.cyc_base.proofs.ListLemmas.{Contains-cases, Contains-range}
use Rattle.cover_logic.specs.Extensions.{ext}
use Rattle.netlist.specs.declared.parts.Parts.{Parts}
use Rattle.netlist.specs.Netlists.{count, gate_at, gate_sig}
use Rattle.netlist.specs.Fixpoint.{wires, wire, gate_value, step, fix_gates, fix}
use Rattle.netlist.proofs.FixpointLemmas.{length-step, step_is_monotone, fix_is_fixpoint, fix_is_below_closed, unknown_below_state, one_gate_stays_below_fix, known_count, known_count-le, same_or_more, length-fix_gates, get_or-step}
use Rattle.ternary_run.specs.declared.fanout.Read.{Read}
use Rattle.ternary_run.specs.Reading.{readers_of, IsFanoutOf}
use Rattle.ternary_run.specs.Settling.{all_unknown, Determines, IsNewValue}
use Rattle.ternary_run.proofs.ReadingLemmas.{readers_of-contain, readers_of-below, readers_of-length, reads_or_same}

-- where settling stands: the gates are below the fixpoint, and one that is unknown waits in the queue or has no other value
pub record IsSettling (net : Parts) (v values : List Trit) (queue : List ℕ) : Type 0 where
  pub state : List Trit
  pub split : values ≡ wires v state
  pub below : EachBelow state (fix_gates net v)
  pub queued : All (λ g. g < length net.gates) queue
  pub still : (g : ℕ) → g < length net.gates → get_or state g X ≡ X → Contains queue g ⊎ (gate_value values (gate_at net g) ≡ X)

-- the vector has a value for each input and each latch
abbrev pub HasWidth : Parts → List Trit → Type 0
HasWidth net v = length v ≡ length net.inputs + length net.latches

pub settling_starts : (net : Parts) (v : List Trit) → IsSettling net v (wires v (all_unknown net)) (range_with_len 0 (length net.gates))
settling_starts net v = grind (arith, unknown_below_state, length-fix_gates, get_or-range_with_len, length-range_with_len, Contains-range)

pub length-state : (net : Parts) (v values : List Trit) (queue : List ℕ) (h : IsSettling net v values queue) → length h.state ≡ length net.gates
length-state net v values queue h = EachBelow-length h.state (fix_gates net v) h.below ∙ length-fix_gates net v

pub length-settling : (net : Parts) (v values : List Trit) (queue : List ℕ) → HasWidth net v → IsSettling net v values queue → length values ≡ count net
length-settling net v values queue w h =
    omega (arith, ap length h.split, length-append v h.state, length-state net v values queue h)

-- the value of a gate, in all signals and among the gates
wire-gate : (net : Parts) (v state : List Trit) (g : ℕ) → HasWidth net v → wire (wires v state) (gate_sig net g) ≡ get_or state g X
wire-gate net v state g w = rw (← w) (get_or-append-add v state g X)

pub gate_unchanged : (net : Parts) (v values : List Trit) (g : ℕ) (queue : List ℕ) → HasWidth net v → IsSettling net v values (g ∷ queue) → IsNewValue net values g None → IsSettling net v values queue
gate_unchanged net v values g queue w h none = record {
  state = h.state;
  split = h.split;
  below = h.below;
  queued = All-tail (λ k. k < length net.gates) g queue h.queued;
  still = λ k l e.
      elim (h.still k l e) [
        | inl c ↦
            elim (Contains-cases g queue k c) [
              | inl same ↦
                  let unknown : wire values (gate_sig net g) ≡ X = rw (h.split, wire-gate net v h.state g w, same) e in
                  inr (rw (← same) (none unknown))
              | inr c' ↦ inl c'
            ]
        | inr x ↦ inr x
      ];
}

pub gate_determined : (net : Parts) (v values : List Trit) (g : ℕ) (queue : List ℕ) (list : List Read) (value : Trit) → HasWidth net v → IsFanoutOf net list → IsSettling net v values (g ∷ queue) → Determines net values g value →
    IsSettling net v (set values (gate_sig net g).0 value) (queue ++ readers_of list (gate_sig net g))
gate_determined net v values g queue list value w all h d =
    let in_range : g < length net.gates = All-head (λ k. k < length net.gates) g queue h.queued in
    let is : value ≡ get_or (step net v h.state) g X = d.is ∙ rw h.split (sym (get_or-step net v h.state g in_range)) in
    let in_state : g < length h.state = omega (arith, length-state net v values (g ∷ queue) h) in
    let place : (length net.inputs + length net.latches + g) - length v ≡ g = omega arith in
    let moved : set (wires v h.state) (gate_sig net g).0 value ≡ wires v (set h.state g value) =
    set-append_right v h.state (length v) (gate_sig net g).0 value refl (omega arith) ∙ ap (λ i. wires v (set h.state i value)) place in
    let set_in_state : set values (gate_sig net g).0 value ≡ wires v (set h.state g value) =
    ap (λ (s : List Trit). set s (gate_sig net g).0 value) h.split ∙ moved in
    record {
      state = set h.state g value;
      split = set_in_state;
      below = rw is (one_gate_stays_below_fix net v h.state g h.below);
      queued =
          All-append (λ k. k < length net.gates) queue (readers_of list (gate_sig net g))
          (All-tail (λ k. k < length net.gates) g queue h.queued) (readers_of-below net list (gate_sig net g) all);
      still = λ k l e.
          elim (cases_eq k g) [
            | inl same ↦
                let now : get_or (set h.state g value) g X ≡ value = get_or-set_same h.state g value X in_state in
                absurd (d.known (sym now ∙ rw same at e))
            | inr other ↦
                let unknown : get_or h.state k X ≡ X = sym (get_or-set_other h.state g k value X other) ∙ e in
                elim (h.still k l unknown) [
                  | inl c ↦
                      elim (Contains-cases g queue k c) [
                        | inl same ↦ absurd (other (sym same))
                        | inr c' ↦ inl (Contains-append_left queue (readers_of list (gate_sig net g)) k c')
                      ]
                  | inr x ↦
                      elim (reads_or_same (gate_at net k).pins values (gate_sig net g) value) [
                        | inl reads ↦
                            inl
                            (Contains-append_right queue (readers_of list (gate_sig net g)) k
                            (readers_of-contain net list k (gate_sig net g) all l reads))
                        | inr same ↦ inr (ap (ext (gate_at net k).cover) same ∙ x)
                      ]
                ]
          ];
    }

pub known_or_still : (s f t : Trit) → Below s f → Below t f → (s ≡ X → t ≡ X) → Below t s
known_or_still s f t h k still = grind arith

-- no gate has another value than in the state: where it is known there, the fixpoint has it too
step-below : (net : Parts) (v state : List Trit) → EachBelow state (fix_gates net v) →
    ((g : ℕ) → g < length net.gates → get_or state g X ≡ X → gate_value (wires v state) (gate_at net g) ≡ X) →
    (g : ℕ) → g < length net.gates → Below (get_or (step net v state) g X) (get_or state g X)
step-below net v state below still g l =
    let up : EachBelow (step net v state) (fix_gates net v) =
    rw (fix_is_fixpoint net v) at (step_is_monotone net v v state (fix_gates net v) (EachBelow-refl v) below) in
    known_or_still (get_or state g X) (get_or (fix_gates net v) g X) (get_or (step net v state) g X)
    (EachBelow-at state (fix_gates net v) g below) (EachBelow-at (step net v state) (fix_gates net v) g up)
    (λ e. get_or-step net v state g l ∙ still g l e)

pub settled : (net : Parts) (v values : List Trit) → IsSettling net v values [] → values ≡ fix net v
settled net v values h =
    grind (arith, EachBelow-from_at (step net v h.state) h.state, length-step net v h.state, length-state net v values [] h, step-below net v h.state h.below, EachBelow-antisym h.state (fix_gates net v) h.below, fix_is_below_closed net v h.state)

-- a list in which an unknown value is known has more that are known
more_known : (values : List Trit) (i : ℕ) (value : Trit) → i < length values → get_or values i X ≡ X → value ≢ X → known_count values < known_count (set values i value)
more_known values i value l unknown known = grind (arith, EachBelow-from_at, length-set, cases_eq, get_or-set_other, Below-refl, same_or_more, get_or-set_same)

-- the signals that are still unknown and the gates that wait, so weighed that it falls when a gate is determined
pub work_left : ℕ → List Trit → List ℕ → ℕ
work_left pins values queue = (length values - known_count values) * suc pins + length queue

pub falls : (a b pins before after : ℕ) → a < b → after ≤ before + pins → a * suc pins + after < b * suc pins + suc before
falls a b pins before after l m = let le : suc a * suc pins ≤ b * suc pins = mul-le-mul_right (suc pins) l in omega arith

pub work_left-determined : (net : Parts) (values : List Trit) (g : ℕ) (queue : List ℕ) (list : List Read) (value : Trit) → (gate_sig net g).0 < length values → Determines net values g value →
    work_left (length list) (set values (gate_sig net g).0 value) (queue ++ readers_of list (gate_sig net g)) < work_left (length list) values (g ∷ queue)
unfolding work_left
work_left-determined net values g queue list value l d =
    let more : known_count values < known_count (set values (gate_sig net g).0 value) =
    more_known values (gate_sig net g).0 value l d.unknown d.known in
    let size : length (set values (gate_sig net g).0 value) ≡ length values = length-set values (gate_sig net g).0 value in
    falls (length (set values (gate_sig net g).0 value) - known_count (set values (gate_sig net g).0 value)) (length values - known_count values)
    (length list) (length queue) (length (queue ++ readers_of list (gate_sig net g)))
    (omega (arith, known_count-le (set values (gate_sig net g).0 value)))
    (omega (arith, length-append queue (readers_of list (gate_sig net g)), readers_of-length list (gate_sig net g)))

pub work_left-unchanged : (pins : ℕ) (values : List Trit) (g : ℕ) (queue : List ℕ) → work_left pins values queue < work_left pins values (g ∷ queue)
unfolding work_left
work_left-unchanged pins values g queue = omega arith

-- the same at the values that code has
pub settling_starts_at : (net : Parts) (v values : List Trit) (queue : List ℕ) (n : ℕ) → values ≡ wires v (all_unknown net) → n ≡ length net.gates → queue ≡ range_with_len 0 n → IsSettling net v values queue
settling_starts_at net v values queue n e l f = rw (e, f, l) (settling_starts net v)

pub settled_at : (net : Parts) (v values : List Trit) (queue : List ℕ) → queue ≡ [] → IsSettling net v values queue → values ≡ fix net v
settled_at net v values queue e h = settled net v values (rw e at h)

pub gate_unchanged_at : (net : Parts) (v values : List Trit) (g : ℕ) (queue rest : List ℕ) (r : Option Trit) → HasWidth net v → queue ≡ g ∷ rest → r ≡ None → IsSettling net v values queue → IsNewValue net values g r → IsSettling net v values rest
gate_unchanged_at net v values g queue rest r w e n h d = gate_unchanged net v values g rest w (rw e at h) (rw n at d)

pub gate_determined_at : (net : Parts) (v values : List Trit) (g : ℕ) (queue rest : List ℕ) (list : List Read) (r : Option Trit) (value : Trit) (s : Sig) (after : List ℕ) → HasWidth net v → IsFanoutOf net list →
    queue ≡ g ∷ rest → r ≡ Some value → s ≡ gate_sig net g → after ≡ rest ++ readers_of list s →
    IsSettling net v values queue → IsNewValue net values g r → IsSettling net v (set values s.0 value) after
gate_determined_at net v values g queue rest list r value s after w all e n p f h d = grind (arith, gate_determined)

pub determined_falls_at : (net : Parts) (v values : List Trit) (g : ℕ) (queue rest : List ℕ) (list : List Read) (r : Option Trit) (value : Trit) (s : Sig) (after : List ℕ) → HasWidth net v →
    queue ≡ g ∷ rest → r ≡ Some value → s ≡ gate_sig net g → after ≡ rest ++ readers_of list s →
    IsSettling net v values queue → IsNewValue net values g r → work_left (length list) (set values s.0 value) after < work_left (length list) values queue
determined_falls_at net v values g queue rest list r value s after w e n p f h d = grind (arith, All-head, work_left-determined net values g rest list value, length-settling net v values (g ∷ rest) w)

pub unchanged_falls_at : (pins : ℕ) (values : List Trit) (g : ℕ) (queue rest : List ℕ) → queue ≡ g ∷ rest → work_left pins values rest < work_left pins values queue
unchanged_falls_at pins values g queue rest e = rw e (work_left-unchanged pins values g rest)

-- the gate that waits is one
pub waiting_gate : (net : Parts) (v values : List Trit) (g : ℕ) (queue rest : List ℕ) → queue ≡ g ∷ rest → IsSettling net v values queue → g < length net.gates
waiting_gate net v values g queue rest e h = grind arith

-- the fixpoint has a value for each signal
pub length-fix : (net : Parts) (v : List Trit) → HasWidth net v → length (fix net v) ≡ count net
length-fix net v w = omega (arith, length-append v (fix_gates net v), length-fix_gates net v)
