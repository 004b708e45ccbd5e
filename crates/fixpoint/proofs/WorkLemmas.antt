-- The working list of a netlist: the functions of each lift are of it, and so are the rails of solved signals.
use Rattle.std.proofs.Common.{◌≡◌, inl, inr, ◌⊎◌, ℕ, suc, ◌-◌, ◌<◌, ◌≤◌, Bool, true, List, [], ◌++◌, length, drop, refl, sym, ap, ◌∙◌, arith}
use Rattle.fixpoint.proofs.Common.{cases_lt, cases_Bool, length-map, get_or_append_left, length-append, Arena, value, ext, Trit, X, Rails, value_of, values_of, IsWide, BoundsEach, IsExtended, is_bit, Parts, gate_at, fix, fix_gates, first_gate, value_in, sweeps, cuts_of, wire_of_gate, few_sweeps_are_enough, Vectors, read_at_fix, IsGatePart, IsWorking}
use Rattle.std.proofs.lemmas.List.{length-drop}
use Rattle.netlist.proofs.FixpointLemmas.{get_or-fix}
use Rattle.cover_logic.specs.Extensions.{exact}
use Rattle.dual_rail.specs.Local.{Local, function}
use Rattle.dual_rail.proofs.SurelyLemmas.{exact-alike}
use Rattle.dual_rail.proofs.WidthLemmas.{wide-one}
use Rattle.loops.specs.Cuts.{AreLoopsOf, Loops}
use Rattle.loops.proofs.Sweeps.{sweep_each, fixed_cuts_give_fix}
use Rattle.loops.proofs.Walks.{begins_at}
use Rattle.fixpoint.specs.Laws.{FixIsWorking, SweepsAreWorking, GatePartsAgree}
use Rattle.fixpoint.specs.Working.{read_in_sweep, IsReadInSweep, IsReadAtFix, HasAlike}

-- ---- the list of a lift by the cover, and by its diagram

extended-alike : (a : Arena) (pins : List Rails) (F H : List Bool → Bool) → ((bs : List Bool) → length bs ≡ length pins → F bs ≡ H bs) → (g : List Bool → Bool) → IsExtended a pins F g → IsExtended a pins H g
extended-alike a pins F H same g e = record {
  first = e.first;
  short = e.short;
  bit = e.bit;
  same = λ bits.
      let values : length (values_of a pins bits) ≡ length pins = length-map {B = Trit} pins (λ r. value_of a r bits) in
      let rest : length (drop (length e.first) (values_of a pins bits)) ≡ length (values_of a pins bits) - length e.first = length-drop (length e.first) (values_of a pins bits) in
      let short = e.short in
      e.same bits
      ∙ ap (is_bit e.bit) (exact-alike (λ r. F (e.first ++ r)) (λ r. H (e.first ++ r)) (drop (length e.first) (values_of a pins bits))
      (λ bs len. same (e.first ++ bs) (omega (arith, length-append e.first bs, len, rest, values, short))));
}

pub bounds-diagram : (a : Arena) (pins : List Rails) (l : Local) (F : List Bool → Bool) (n : ℕ) {w : ℕ} → length pins ≡ n → ((bs : List Bool) → length bs ≡ n → function l bs ≡ F bs)
    → BoundsEach a.vars (IsExtended a pins F) w → BoundsEach a.vars (IsExtended a pins (function l)) w
bounds-diagram a pins l F n len same bounds g e = bounds g (extended-alike a pins (function l) F (λ bs long. same bs (long ∙ len)) g e)

-- ---- the list of a netlist

module _ (net : Parts) (loops : Loops) (v : Vectors) where
  -- a lift of a gate on rails that stand for what it reads
  pub bounds-lift : (d : Arena) (gate : ℕ) → gate < length net.gates → (list : List Rails) (read : List Bool → List Trit) → length list ≡ length (gate_at net gate).pins → ((bits : List Bool) → values_of d list bits ≡ read bits)
      → IsReadInSweep net loops v gate read ⊎ IsReadAtFix net loops v gate read
      → {w : ℕ} → BoundsEach d.vars (IsGatePart net loops v) w → BoundsEach d.vars (IsExtended d list (value (gate_at net gate).cover)) w
  bounds-lift d gate less list read width values reads bounds g e = grind arith

  -- a width of the working list serves each function of a gate
  pub parts-bounded : {vars w : ℕ} → IsWide vars (IsWorking net loops v) w → BoundsEach vars (IsGatePart net loops v) w
  parts-bounded wide g part = wide-one wide g (inr part)

  -- a gate's extension on what it reads
  whole : (gate : ℕ) → gate < length net.gates → (read : List Bool → List Trit) → IsReadInSweep net loops v gate read ⊎ IsReadAtFix net loops v gate read → (bit : Bool)
      → (g : List Bool → Bool) → ((bits : List Bool) → g bits ≡ is_bit bit (ext (gate_at net gate).cover (read bits))) → IsGatePart net loops v g
  whole gate less read reads bit g same = record { gate = gate; within = less; first = []; short = omega arith; bit = bit; read = read; reads = reads; same = same }

  swept-part : (gate k : ℕ) → gate < length net.gates → loops.same gate gate ≡ true → k ≤ length (cuts_of net loops gate) → (bit : Bool)
      → (g : List Bool → Bool) → ((bits : List Bool) → g bits ≡ is_bit bit (value_in (sweeps net loops (v bits) (suc k)) gate)) → IsGatePart net loops v g
  swept-part gate k less looped few bit g same =
      whole gate less (λ bits. read_in_sweep net loops (v bits) k gate) (inl (record { looped = looped; sweep = k; few = few; is = λ bits. refl })) bit g
      (λ bits. same bits ∙ ap (is_bit bit) (sweep_each net loops (v bits) (sweeps net loops (v bits) k) gate less))

  -- a gate at the fixpoint: of a loop, after as many sweeps as it has cut wires and one
  module _ (are : AreLoopsOf net loops) (vector : (bits : List Bool) → length (v bits) ≡ first_gate net) where
    fix-part : (gate : ℕ) → gate < length net.gates → (bit : Bool) → (g : List Bool → Bool) → ((bits : List Bool) → g bits ≡ is_bit bit (value_in (fix_gates net (v bits)) gate)) → IsGatePart net loops v g
    fix-part gate less bit g same = elim (cases_Bool (loops.same gate gate)) [
      | inl looped ↦ swept-part gate (length (cuts_of net loops gate)) less looped (omega arith) bit g
          (λ bits. same bits ∙ ap (is_bit bit) (sym ((fixed_cuts_give_fix net loops are (v bits) (vector bits) gate (length (cuts_of net loops gate)) (few_sweeps_are_enough net loops are gate (v bits) (vector bits))).1 gate looped)))
      | inr plain ↦ whole gate less (λ bits. read_at_fix net (v bits) gate) (inr (record { plain = plain; is = λ bits. refl })) bit g
          (λ bits. same bits ∙ ap (is_bit bit) (get_or-fix net (v bits) gate less))
    ]

-- ---- laws

pub fix_is_working : FixIsWorking
fix_is_working net loops are v vector signal within bit = elim (cases_lt signal (first_gate net)) [
  | inl low ↦ inl (record {
    signal = signal;
    within = low;
    bit = bit;
    same = λ bits. let len = vector bits in ap (is_bit bit) (get_or_append_left (v bits) (fix_gates net (v bits)) X signal (omega (arith, low, len)));
  })
  | inr high ↦ inr (fix-part net loops v are vector (signal - first_gate net) (omega (arith, within, high)) bit (λ bits. is_bit bit (value_in (fix net (v bits)) signal))
      (λ bits. ap (is_bit bit) (wire_of_gate (v bits) (fix_gates net (v bits)) (first_gate net) signal (vector bits) high)))
]

pub sweeps_are_working : SweepsAreWorking
sweeps_are_working net loops are v gate k looped few bit =
    let walk = ((are.same gate gate).0 looped).there in
    inr (swept-part net loops v gate k (begins_at net gate gate walk.via walk.walk) looped few bit (λ bits. is_bit bit (value_in (sweeps net loops (v bits) (suc k)) gate)) (λ bits. refl))

pub gate_parts_agree : GatePartsAgree
gate_parts_agree net loops vars v u same g part =
    let made : (read : List Bool → List Trit) → IsReadInSweep net loops u part.gate read ⊎ IsReadAtFix net loops u part.gate read → ((bits : List Bool) → length bits ≡ vars → part.read bits ≡ read bits) → HasAlike vars (IsGatePart net loops u) g =
    λ read reads agree. record {
      of = λ bits. is_bit part.bit (exact (λ rest. value (gate_at net part.gate).cover (part.first ++ rest)) (drop (length part.first) (read bits)));
      is = record { gate = part.gate; within = part.within; first = part.first; short = part.short; bit = part.bit; read = read; reads = reads; same = λ bits. refl };
      alike = λ bits long. part.same bits ∙ ap (λ (values : List Trit). is_bit part.bit (exact (λ rest. value (gate_at net part.gate).cover (part.first ++ rest)) (drop (length part.first) values))) (agree bits long);
    } in
    elim part.reads [
      | inl r ↦ made (λ bits. read_in_sweep net loops (u bits) r.sweep part.gate) (inl (record { looped = r.looped; sweep = r.sweep; few = r.few; is = λ bits. refl }))
          (λ bits long. r.is bits ∙ ap (λ (values : List Trit). read_in_sweep net loops values r.sweep part.gate) (same bits long))
      | inr r ↦ made (λ bits. read_at_fix net (u bits) part.gate) (inr (record { plain = r.plain; is = λ bits. refl }))
          (λ bits long. r.is bits ∙ ap (λ (values : List Trit). read_at_fix net values part.gate) (same bits long))
    ]
