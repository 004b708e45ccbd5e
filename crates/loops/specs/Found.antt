-- The loops and cut wires of a netlist as functions: each netlist has them.
use Rattle.std.specs.Prelude.{ℕ, zero, suc, ◌&&◌, ◌||◌, nat_lt, Bool, true, false, not, length}
use Rattle.std.specs.List.{list_any}
use Rattle.netlist.specs.declared.parts.Parts.{Parts}
use Rattle.netlist.specs.Netlists.{gate_at, gate_sig, sig_eq}
use Rattle.loops.specs.Cuts.{Loops}

-- whether gate a is a pin of gate b
abbrev pub feeds : Parts → ℕ → ℕ → Bool
feeds net a b =
    nat_lt a (length net.gates)
    && (nat_lt b (length net.gates) && list_any (sig_eq (gate_sig net a)) (gate_at net b).pins)

-- whether a walk leads from a to b through gates below k that pass the test
abbrev pub reaches : Parts → (ℕ → Bool) → ℕ → ℕ → ℕ → Bool
reaches net test zero a b = feeds net a b
reaches net test (suc k) a b =
    reaches net test k a b || (test k && (reaches net test k a k && reaches net test k k b))

abbrev pub same_of : Parts → ℕ → ℕ → Bool
same_of net a b = reaches net (λ g. true) (length net.gates) a b && reaches net (λ g. true) (length net.gates) b a

-- the cut wires among the gates before the bound
abbrev pub cut_below : Parts → ℕ → ℕ → Bool
cut_below net zero n = false
cut_below net (suc bound) n = reaches net (λ g. same_of net n g && not (cut_below net bound g)) n n n

abbrev pub loops_of : Parts → Loops
loops_of net = record { same = same_of net; cut = λ n. cut_below net (suc n) n }
