-- The gates of a block, all of them made unknown.
use Rattle.std.proofs.Common.{◌≡◌, ℕ, ◌+◌, ◌<◌, ◌==◌, Bool, true, List, length, get_or, set, arith, Contains, eq-eqb}
use Rattle.simulation.proofs.Common.{cases_lt, cases_eq, eqb-true, get_or-set_same, get_or-set_other, get_or_past, length-set, Trit, X, Parts, gate_sig, wire, Blocks, AreBlocksOf, home_of, AreKept, AreSettled, is_due, IsRising}
use Rattle.std.specs.List.{range_with_len}
use Rattle.cyc_base.proofs.ListLemmas.{Contains-filter, Contains-range}
use Rattle.loops.specs.Blocks.{gates_at}
use Rattle.loops.proofs.Reading.{Contains-filter_from, Contains-range_from}
use Rattle.simulation.specs.declared.plan.Plan.{Plan}
use Rattle.simulation.specs.Plans.{IsPlanOf}

module _ (net : Parts) (blocks : Blocks) (are : AreBlocksOf net blocks) (place : ℕ) (gates : List ℕ) (is : gates ≡ gates_at blocks place) where
  pub gate_of_block : (n : ℕ) → Contains gates n → (n < length net.gates) × (home_of blocks n ≡ place)
  gate_of_block n c =
      let listed : Contains (gates_at blocks place) n = rw is at c in
      let parts = Contains-filter_from (λ m. home_of blocks m == place) (range_with_len 0 (length blocks.home)) n listed in
      let within = Contains-range_from (length blocks.home) n parts.1 in
      let homes = are.homes in
      (omega arith, eqb-true (home_of blocks n) place parts.0)

  pub block_gate : (n : ℕ) → n < length net.gates → home_of blocks n ≡ place → Contains gates n
  block_gate n l home =
      let homes = are.homes in
      rw is
      (Contains-filter (λ m. home_of blocks m == place) (range_with_len 0 (length blocks.home)) n
      (eq-eqb (home_of blocks n) place home) (Contains-range (length blocks.home) n (omega arith)))

unknown_here : (values : List Trit) (i : ℕ) → get_or (set values i X) i X ≡ X
unknown_here values i = grind (arith, cases_lt i (length values), get_or-set_same values i X X, length-set values i X, get_or_past (set values i X) i X)

unknown_still : (values : List Trit) (i k : ℕ) → get_or values k X ≡ X → get_or (set values i X) k X ≡ X
unknown_still values i k h = grind (arith, cases_eq k i, unknown_here values i, get_or-set_other values i k X X)

-- the first k gates are unknown
abbrev pub AreUnknown : Parts → List ℕ → List Trit → ℕ → Type 0
AreUnknown net gates values k = (i d : ℕ) → i < k → wire values (gate_sig net (get_or gates i d)) ≡ X

pub unknown_more : (net : Parts) (gates : List ℕ) (values : List Trit) (k gate : ℕ) → ((d : ℕ) → get_or gates k d ≡ gate) → AreUnknown net gates values k → AreUnknown net gates (set values (gate_sig net gate).0 X) (k + 1)
unknown_more net gates values k gate at h i d l = grind (arith, cases_eq i k, unknown_here values (gate_sig net gate).0, unknown_still values (gate_sig net gate).0 (gate_sig net (get_or gates i d)).0)

-- a block that is unknown begins to rise
pub begins : (net : Parts) (plan : Plan) (place : ℕ) (values : List Trit) (due : List Bool) (gates : List ℕ) → IsPlanOf net plan → gates ≡ gates_at plan.blocks place → AreKept net plan.blocks values due → AreSettled net plan.blocks values place → is_due due place ≡ true → AreUnknown net gates values (length gates) →
    IsRising net plan place values due gates
begins net plan place values due gates is listed kept settled unsettled unknown = grind (arith, block_gate net plan.blocks is.blocks place gates listed, gate_of_block net plan.blocks is.blocks place gates listed)
