-- Without loops each gate is determined.
use Rattle.std.proofs.Common.{◌≡◌, ◌+◌, inl, inr, ℕ, zero, suc, ◌<◌, Bool, false, List, [], ◌∷◌, length, map, get_or, refl, ap, ap₂, ◌∙◌, arith}
use Rattle.loops.proofs.Common.{cases_lt, get_or_append_left, length-map, Trit, X, ext, Sig, Parts, gate_at, wire, fix, fix_gates, Leads, AnyGate, first_gate, gate_of}
use Rattle.std.proofs.lemmas.List.{get_or-map}
use Rattle.cyc_base.specs.Values.{bit, bits}
use Rattle.cover_logic.specs.Covers.{value}
use Rattle.cyc_base.proofs.OrderLemmas.{bit-known}
use Rattle.netlist.specs.Netlists.{IsNetlist, no_gate}
use Rattle.netlist.specs.Walks.{IsLoopFree}
use Rattle.netlist.proofs.FixpointLemmas.{get_or-fix}
use Rattle.cover_logic.proofs.ExtensionLemmas.{ext_at_bits}
use Rattle.loops.specs.Laws.{LoopFreeIsDetermined}
use Rattle.loops.proofs.Walks.{leads-trans, leads-step, begins_at}
use Rattle.loops.proofs.Ancestors.{by_ancestors}
use Rattle.loops.proofs.Reading.{wire_of_gate}
use Rattle.loops.proofs.Unique.{feeds_at}

-- a value that is 0 or 1
record Known (x : Trit) : Type 0 where
  as_bit : Bool
  is : x ≡ bit as_bit

record KnownList (xs : List Trit) : Type 0 where
  as_bits : List Bool
  are : xs ≡ bits as_bits

all_known : (f : Sig → Trit) (xs : List Sig) → ((k : ℕ) (d : Sig) → k < length xs → Known (f (get_or xs k d))) → KnownList (map f xs)
all_known f [] h = record { as_bits = []; are = refl }
all_known f (x ∷ xs) h =
    let one = h zero x (omega arith) in
    let rest = all_known f xs (λ k d l. h (suc k) d (omega arith)) in
    record { as_bits = one.as_bit ∷ rest.as_bits; are = ap₂ (λ y ys. y ∷ ys) one.is rest.are }

module _ (net : Parts) (is : IsNetlist net) (free : IsLoopFree net) (v : List Bool) (width : length v ≡ first_gate net) where
  known : (n : ℕ) → n < length net.gates → Known (get_or (fix_gates net (bits v)) n X)
  known =
      by_ancestors (length net.gates) (Leads net AnyGate)
      (λ x n r. begins_at net x n r.via r.walk)
      (λ x y z r q. leads-trans net x y z r q)
      (λ x r. free x r.via r.walk)
      (λ n. n < length net.gates → Known (get_or (fix_gates net (bits v)) n X))
      (λ n before l.
      let wide : length (bits v) ≡ first_gate net = length-map v bit ∙ width in
      let pins = all_known (wire (fix net (bits v))) (gate_at net n).pins (λ k d here. pin n before l wide k d here) in
      record {
        as_bit = value (gate_at net n).cover pins.as_bits;
        is = get_or-fix net (bits v) n l ∙ ap (ext (gate_at net n).cover) pins.are ∙ ext_at_bits (gate_at net n).cover pins.as_bits;
      })
    where
      pin : (n : ℕ) → ((x : ℕ) → Leads net AnyGate x n → x < length net.gates → Known (get_or (fix_gates net (bits v)) x X)) → n < length net.gates → length (bits v) ≡ first_gate net → (k : ℕ) (d : Sig) → k < length (gate_at net n).pins → Known (wire (fix net (bits v)) (get_or (gate_at net n).pins k d))
      pin n before l wide k d here =
          let r = get_or (gate_at net n).pins k d in
          let bound : r.0 < first_gate net + length net.gates = is.pins n no_gate l k d here in
          elim (cases_lt r.0 (first_gate net)) [
            | inl low ↦
                record {
                  as_bit = get_or v r.0 false;
                  is = get_or_append_left (bits v) (fix_gates net (bits v)) X r.0 (omega arith) ∙ get_or-map bit v r.0 false X (omega arith);
                }
            | inr high ↦
                let x = gate_of net r in
                let inside : x < length net.gates = omega arith in
                let k2 = before x (leads-step net x n (feeds_at net n k d l here high inside)) inside in
                record {
                  as_bit = k2.as_bit;
                  is = wire_of_gate (bits v) (fix_gates net (bits v)) (first_gate net) r.0 wide high ∙ k2.is;
                }
          ]

pub loop_free_is_determined : LoopFreeIsDetermined
loop_free_is_determined net is free v width n l e = grind (arith, known net is free v width n l, bit-known)
