-- The signals of a small netlist as those of the whole: the wires outside, and then the gates.
use Rattle.std.proofs.Common.{◌≡◌, ℕ, ◌+◌, ◌-◌, ◌<◌, List, length, map, get_or, ap, ◌∙◌, arith}
use Rattle.isolation.proofs.Common.{get_or-map, get_or_append_left, get_or-append_right, length-append, length-map, Sig, Parts, signal, gate_sig, origins, gate_in}

module _ (net : Parts) (outside : List Sig) (gates : List ℕ) where
  pub origins-size : length (origins net outside gates) ≡ length outside + length gates
  origins-size = length-append outside (map (gate_sig net) gates) ∙ ap (λ (n : ℕ). length outside + n) (length-map gates (gate_sig net))

  pub origin-wire : (k : ℕ) (d : Sig) → k < length outside → get_or (origins net outside gates) k d ≡ get_or outside k d
  origin-wire k d low = get_or_append_left outside (map (gate_sig net) gates) d k low

  pub origin-gate : (k q : ℕ) → q < length gates → k ≡ length outside + q → get_or (origins net outside gates) k (signal 0) ≡ gate_sig net (gate_in gates q)
  origin-gate k q inside at = grind (arith, get_or-append_right outside (map (gate_sig net) gates) (length outside) k (signal 0), get_or-map (gate_sig net) gates q 0 (signal 0) inside)
