-- Which signals are observed.
use Rattle.std.proofs.Common.{◌≡◌, inl, inr, ℕ, zero, suc, ◌+◌, ◌-◌, ◌<◌, ◌≤◌, Bool, true, false, cond, List, [], ◌∷◌, length, map, get_or, refl, sym, ap, ap₂, ◌∙◌, arith, true≢false, Contains}
use Rattle.std.specs.Prelude.{filter}
use Rattle.std.specs.List.{All, list_any}
use Rattle.std.proofs.lemmas.Bool.{cases_lt, eq-eqb, or_cases, or_left, or_right}
use Rattle.std.proofs.lemmas.List.{length-append, length-map, get_or_append_left, get_or-append_right, get_or-map, get_or_default}
use Rattle.cyc_base.specs.declared.sig.Sig.{Sig}
use Rattle.cyc_base.specs.declared.trit.Trit.TheVariants.{X}
use Rattle.cyc_base.specs.Values.{bits}
use Rattle.netlist.specs.declared.parts.Latch.{Latch}
use Rattle.netlist.specs.declared.parts.Init.TheVariants as inits
use Rattle.netlist.specs.declared.parts.Parts.{Parts}
use Rattle.netlist.specs.Netlists.{count, gate_sig, sig_eq, IsNetlist, columns}
use Rattle.netlist.specs.Fixpoint.{wire, fix, fix_gates}
use Rattle.netlist.proofs.NameLemmas.{sig_eq-true}
use Rattle.netlist.proofs.FixpointLemmas.{length-fix_gates}
use Rattle.refusals.specs.declared.observe.Observe.{Observe}
use Rattle.refusals.specs.declared.observe.Observe.TheVariants as observe
use Rattle.refusals.specs.Acceptance.{gate_sigs, observed}
use Rattle.refusals.specs.Laws.{AllObservesGates, AllDeterminesGates, AllIsMore}
use Rattle.refusals.specs.Refusals.{is_among}
use Rattle.refusals.proofs.RefusalLemmas.{gate_wire, wire_known, length-gate_sigs, gate_sig_at}

-- ---- signals of a list

pub member : (s : Sig) (xs : List Sig) → is_among xs s ≡ true → Contains xs s
member s [] e = absurd (true≢false (sym e))
member s (x ∷ xs) e = elim (or_cases (sig_eq s x) (list_any (sig_eq s) xs) e) [
  | inl here ↦ (zero, omega arith, sym (sig_eq-true s x here))
  | inr later ↦ let c = member s xs later in let l = c.1 in (suc c.0, omega arith, c.2)
]

pub among : (s : Sig) (xs : List Sig) (k : ℕ) → k < length xs → get_or xs k s ≡ s → is_among xs s ≡ true
among s [] k inside is = absurd (omega arith)
among s (x ∷ xs) zero inside is = or_left (sig_eq s x) (list_any (sig_eq s) xs) (ap (sig_eq s) is ∙ eq-eqb s.0 s.0 refl)
among s (x ∷ xs) (suc k) inside is = or_right (sig_eq s x) (list_any (sig_eq s) xs) (among s xs k (omega arith) is)

-- ---- the observed signals

abbrev no_latch : Latch
no_latch = record { name = []; from = record { 0 = 0 }; init = inits.Zero; clocked = false }

-- a latch's source, behind the outputs
source_at : (net : Parts) (k : ℕ) (d : Sig) (e : Latch) → k < length net.latches → get_or (observed net observe.Outputs) (length net.outputs + k) d ≡ (get_or net.latches k e).from
source_at net k d e inside =
    get_or-append_right net.outputs (map (λ (l : Latch). l.from) net.latches) (length net.outputs) (length net.outputs + k) d refl (omega arith)
    ∙ ap (λ n. get_or (map (λ (l : Latch). l.from) net.latches) n d) (let m : (length net.outputs + k) - length net.outputs ≡ k = omega arith in m)
    ∙ get_or-map (λ (l : Latch). l.from) net.latches k e d inside

length-outputs : (net : Parts) → length (observed net observe.Outputs) ≡ length net.outputs + length net.latches
length-outputs net = length-append net.outputs (map (λ (l : Latch). l.from) net.latches) ∙ ap (λ n. length net.outputs + n) (length-map net.latches (λ (l : Latch). l.from))

-- they are signals of the netlist
pub observed_within : (net : Parts) (what : Observe) → IsNetlist net → (k : ℕ) (d : Sig) → k < length (observed net what) → (get_or (observed net what) k d).0 < count net
observed_within net observe.All valid k d inside = grind (arith, length-gate_sigs, gate_sig_at)
observed_within net observe.Outputs valid k d inside = elim (cases_lt k (length net.outputs)) [
  | inl output ↦
      let is = ap (λ (s : Sig). s.0) (get_or_append_left net.outputs (map (λ (l : Latch). l.from) net.latches) d k output) in
      let within = valid.outputs k d output in
      omega (arith, is, within)
  | inr source ↦
      let long = length-outputs net in
      let n : ℕ = k - length net.outputs in
      let less : n < length net.latches = omega (arith, long, inside, source) in
      let at : k ≡ length net.outputs + n = omega (arith, source) in
      let is = ap (λ (s : Sig). s.0) (ap (λ m. get_or (observed net observe.Outputs) m d) at ∙ source_at net n d no_latch less) in
      let within = valid.sources n no_latch less in
      omega (arith, is, within)
]

-- a gate is among all gates
pub gate_among : (net : Parts) (k : ℕ) → k < length net.gates → is_among (gate_sigs net) (gate_sig net k) ≡ true
gate_among net k inside = among (gate_sig net k) (gate_sigs net) k (omega (arith, length-gate_sigs net)) (gate_sig_at net k (gate_sig net k) inside)

-- a gate that a latch loads is observed
pub source_among : (net : Parts) (what : Observe) → IsNetlist net → (k : ℕ) (d : Latch) → k < length net.latches → columns net ≤ (get_or net.latches k d).from.0 →
    is_among (observed net what) (get_or net.latches k d).from ≡ true
source_among net observe.All valid k d inside gate =
    let s : Sig = (get_or net.latches k d).from in
    let n : ℕ = s.0 - columns net in
    grind (arith, gate_among net n)
source_among net observe.Outputs valid k d inside gate =
    let s : Sig = (get_or net.latches k d).from in
    among s (observed net observe.Outputs) (length net.outputs + k) (omega (arith, length-outputs net, inside)) (source_at net k s d inside)

-- ---- where all is observed

filter_each : {X : Type 0} (p : X → Bool) (xs : List X) → All (λ x. p x ≡ true) xs → filter p xs ≡ xs
filter_each p [] h = refl
filter_each p (x ∷ xs) h = ap₂ (λ t rest. cond t (x ∷ rest) rest) (h 0 x (omega arith)) (filter_each p xs (λ k d inside. h (suc k) d (omega arith)))

pub all_observes_gates : AllObservesGates
all_observes_gates net =
    filter_each (is_among (gate_sigs net)) (gate_sigs net)
    (λ k d inside. among (get_or (gate_sigs net) k d) (gate_sigs net) k inside (get_or_default (gate_sigs net) k (get_or (gate_sigs net) k d) d inside))

pub all_determines_gates : AllDeterminesGates
all_determines_gates net v wide = (
  λ known k d l.
      let inside : k < length net.gates = omega (arith, length-fix_gates net (bits v)) in
      let none : Sig = gate_sig net k in
      λ x. known k none (omega (arith, length-gate_sigs net))
      (ap (wire (fix net (bits v))) (gate_sig_at net k none inside) ∙ gate_wire net v k wide ∙ get_or_default (fix_gates net (bits v)) k X d l ∙ x),
  λ known k d l.
      let inside : k < length net.gates = omega (arith, length-gate_sigs net) in
      λ x. known k X (omega (arith, length-fix_gates net (bits v))) (sym (gate_wire net v k wide) ∙ sym (ap (wire (fix net (bits v))) (gate_sig_at net k d inside)) ∙ x),
)

pub all_is_more : AllIsMore
all_is_more net care what valid a = record {
  initial = a.initial;
  possible = a.possible;
  determined = λ v vector k d inside.
      wire_known net v (get_or (observed net what) k d) vector.width ((all_determines_gates net v vector.width).0 (a.determined v vector)) (observed_within net what valid k d inside);
  closed = a.closed;
}
