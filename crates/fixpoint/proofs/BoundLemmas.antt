-- The bounds of sweeps, of loops, and of all blocks.
use Rattle.std.proofs.Common.{◌≡◌, ◌==◌, inl, inr, ℕ, ◌+◌, ◌*◌, ◌<◌, ◌≤◌, ltb, Bool, false, List, length, map, filter, take, get_or, refl, sym, ap, ◌∙◌, subst, arith, Contains, true≢false}
use Rattle.fixpoint.proofs.Common.{IsLooped, Looped, eq-eqb, cases_Bool, get_or_default, length-map, length-range_with_len, mul-le-mul_left, Arena, value, Rails, IsWide, BoundsEach, IsExtended, size, value_of, values_of, Gate, Parts, IsNetlist, gate_at, no_gate, Blocks, Cut, AreBlocksOf, block_at, home_of, is_cut, in_one_loop, loops_by, IsOrderOf, cuts_of, told_parts, gate_home, Vectors, IsLoopAt, rails_read, AreSwept, IsSolvedBelow, IsSweepable, after_sweeps, IsWorking, cost, order_cost, block_cost, below_cost, effort, total, read_at_fix}
use Rattle.cyc_base.proofs.ListLemmas.{filter-no_longer}
use Rattle.loops.specs.Cuts.{Loops}
use Rattle.fixpoint.specs.Working.{read_in_sweep}
use Rattle.fixpoint.proofs.CutLemmas.{one-block, cuts-are}
use Rattle.fixpoint.proofs.SweepLemmas.{own-gate, reads-all}
use Rattle.fixpoint.proofs.WorkLemmas.{bounds-lift, parts-bounded}
use Rattle.fixpoint.proofs.WireLemmas.{pins-values}
use Rattle.fixpoint.proofs.BlockLemmas.{plain-reads}
use Rattle.fixpoint.proofs.CostLemmas.{order-total, total-at, total-next, total-all}

-- what a lift of `solve` reads
module _ (net : Parts) (cut : Cut) (d : Arena) (before rails : List Rails) (n : ℕ) where
  list-width : length (map (rails_read net cut before rails) (gate_at net n).pins) ≡ length (gate_at net n).pins
  list-width = length-map {B = Rails} (gate_at net n).pins (rails_read net cut before rails)

  list-values : (bits : List Bool) → values_of d (map (rails_read net cut before rails) (gate_at net n).pins) bits ≡ map (λ pin. value_of d (rails_read net cut before rails pin) bits) (gate_at net n).pins
  list-values bits = pins-values d (rails_read net cut before rails) (gate_at net n).pins (map (rails_read net cut before rails) (gate_at net n).pins) bits refl

-- a width of the working list serves the lift of each gate of a sweep
pub sweep-bounds : (l : Looped) → IsNetlist l.net → (b : ℕ) (v : Vectors) (k : ℕ) (order : List ℕ) (d : Arena) (before rails : List Rails)
    → (ready : IsSweepable l d v (after_sweeps l v k) b order before rails) → (i : ℕ) → i < length order → AreSwept l d v (after_sweeps l v k) (Contains (take i order)) rails
    → k ≤ length (filter (is_cut l.cut.wires) (block_at l.blocks b).gates)
    → {w : ℕ} → IsWide d.vars (IsWorking l.net (loops_by l.blocks l.cut) v) w → BoundsEach d.vars (IsExtended d (map (rails_read l.net l.cut before rails) (gate_at l.net (get_or order i 0)).pins) (value (gate_at l.net (get_or order i 0)).cover)) w
sweep-bounds l valid b v k order d before rails ready i inside swept few wide =
    let n : ℕ = get_or order i 0 in
    let at = own-gate l valid b v (after_sweeps l v k) order d before rails ready i inside in
    let listed : Contains (block_at l.blocks b).gates n = ready.follows.only n (i, inside, get_or_default order i n 0 inside) in
    let same : length (filter (is_cut l.cut.wires) (block_at l.blocks b).gates) ≡ length (cuts_of l.net (loops_by l.blocks l.cut) n) = ap length (cuts-are l.net l.blocks ready.are.blocks l.cut b ready.loop n listed) in
    bounds-lift l.net (loops_by l.blocks l.cut) v d n at.0 (map (rails_read l.net l.cut before rails) (gate_at l.net n).pins) (λ bits. read_in_sweep l.net (loops_by l.blocks l.cut) (v bits) k n) (list-width l.net l.cut d before rails n)
    (λ bits. list-values l.net l.cut d before rails n bits ∙ reads-all l valid b v (after_sweeps l v k) order d before rails ready i inside swept bits)
    (inl (record { looped = one-block l.net l.blocks ready.are.blocks l.cut b ready.loop n n at.0 at.1 at.0 at.1; sweep = k; few = omega (arith, few, same); is = λ bits. refl })) (parts-bounded l.net (loops_by l.blocks l.cut) v wide)

-- a loop has at most as many cut wires as the netlist has gates
pub cuts-few : (net : Parts) (blocks : Blocks) (cut : Cut) → AreBlocksOf net blocks → (b : ℕ) → IsLoopAt blocks b → length (filter (is_cut cut.wires) (block_at blocks b).gates) ≤ length net.gates
cuts-few net blocks cut are b loop = grind (arith, filter-no_longer, filter-no_longer (is_cut cut.wires) (block_at blocks b).gates, length-range_with_len 0 (length blocks.home))

-- the gates of an order of a block cost at most what all gates of the block do
pub order-few : (net : Parts) (blocks : Blocks) (cut : Cut) → AreBlocksOf net blocks → (b : ℕ) → IsLoopAt blocks b → (order : List ℕ) → IsOrderOf net (is_cut cut.wires) (block_at blocks b).gates order
    → order_cost net order ≤ total (λ n. home_of blocks n == b) (cost net) (length net.gates)
order-few net blocks cut are b loop order follows =
    order-total net (is_cut cut.wires) (cost net) (λ n. home_of blocks n == b) (length net.gates) order follows.follows
    (λ n has. let at = gate_home net blocks are b n loop.within (follows.only n has) in (at.0, eq-eqb (home_of blocks n) b at.1))

-- at most one sweep more than gates
pub loop-cost : (k G one all : ℕ) → one ≤ all → k ≤ G → 2 * (k * one) + 2 * one ≤ 2 * ((G + 1) * all)
loop-cost k G one all less few = grind arith

-- one gate alone
pub plain-cost : (x G all : ℕ) → x + 1 ≤ all → 2 * x ≤ 2 * ((G + 1) * all)
plain-cost x G all less = grind arith

pub gate-few : (net : Parts) (blocks : Blocks) (n : ℕ) → n < length net.gates → cost net n ≤ block_cost net blocks (home_of blocks n)
gate-few net blocks n less = total-at (cost net) (λ m. home_of blocks m == home_of blocks n) n (length net.gates) less (eq-eqb (home_of blocks n) (home_of blocks n) refl)

-- a width of the working list serves the lift of a gate of no loop
pub plain-bounds : (l : Looped) → IsNetlist l.net → IsLooped l → (n : ℕ) → n < length l.net.gates → (block_at l.blocks (home_of l.blocks n)).looped ≡ false
    → (d : Arena) (v : Vectors) (before rails : List Rails) → IsSolvedBelow l d v (home_of l.blocks n) before rails
    → {w : ℕ} → IsWide d.vars (IsWorking l.net (loops_by l.blocks l.cut) v) w → BoundsEach d.vars (IsExtended d (map (rails_read l.net l.cut before rails) (gate_at l.net n).pins) (value (gate_at l.net n).cover)) w
plain-bounds l valid l_is n less plain d v before rails solved wide =
    let alone : in_one_loop l.blocks n n ≡ false = elim (cases_Bool (in_one_loop l.blocks n n)) [
      | inl one ↦ absurd (true≢false (sym (told_parts l.net l.blocks l_is.blocks n n one).looped ∙ plain))
      | inr isnt ↦ isnt
    ] in
    bounds-lift l.net (loops_by l.blocks l.cut) v d n less (map (rails_read l.net l.cut before rails) (gate_at l.net n).pins) (λ bits. read_at_fix l.net (v bits) n) (list-width l.net l.cut d before rails n)
    (λ bits. list-values l.net l.cut d before rails n bits ∙ plain-reads l valid l_is n less plain d v before rails solved bits)
    (inr (record { plain = alone; is = λ bits. refl })) (parts-bounded l.net (loops_by l.blocks l.cut) v wide)

-- the working list goes by the vectors alone
pub wide-same : (net : Parts) (loops : Loops) (v u : Vectors) (s t : Arena) → t.vars ≡ s.vars → v ≡ u → {w : ℕ} → IsWide s.vars (IsWorking net loops u) w → IsWide t.vars (IsWorking net loops v) w
wide-same net loops v u s t vars same {w} wide = subst (λ (x : ℕ). IsWide x (IsWorking net loops v) w) (sym vars) (subst (λ (x : Vectors). IsWide s.vars (IsWorking net loops x) w) (sym same) wide)

-- one block more, and all of them
pub below-next : (net : Parts) (blocks : Blocks) (b : ℕ) → 2 * ((length net.gates + 1) * below_cost net blocks b) + 2 * ((length net.gates + 1) * block_cost net blocks b) ≤ 2 * ((length net.gates + 1) * below_cost net blocks (b + 1))
below-next net blocks b = grind (arith, total-next (home_of blocks) (cost net) b (length net.gates))

pub below-all : (net : Parts) (blocks : Blocks) (b : ℕ) → 2 * ((length net.gates + 1) * below_cost net blocks b) ≤ 2 * ((length net.gates + 1) * effort net)
below-all net blocks b =
    let most : below_cost net blocks b ≤ effort net = total-all (λ (gate : Gate). size gate.cover + 1) net.gates no_gate (λ n. ltb (home_of blocks n) b) in
    let a = mul-le-mul_left {m = below_cost net blocks b} {n = effort net} (length net.gates + 1) most in
    omega (arith, a)
