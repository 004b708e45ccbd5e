-- Sweeps rise, stay below the fixpoint, and reach it.
use Rattle.std.proofs.Common.{◌≡◌, ℕ, zero, suc, ◌<◌, Bool, true, ◌&&◌, List, [], ◌∷◌, length, map, filter, replicate, get_or, refl, sym, ◌∙◌, subst, arith, Contains}
use Rattle.loops.proofs.Common.{and_from, and_parts, cases_Bool, length-map, length-replicate, range_with_len, Sig, Trit, X, ext, Parts, gate_at, wire, fix, fix_gates, Walk, Loops, AreLoopsOf, first_gate, gate_of, in_loop_of, pin_in, sweep}
use Rattle.std.proofs.lemmas.List.{get_or-replicate}
use Rattle.std.proofs.lemmas.List.FromFn.{length-map-range_with_len, get_or-map-range_with_len}
use Rattle.cyc_base.proofs.ListLemmas.{Contains-cases, Contains-filter, Contains-nothing, Contains-range}
use Rattle.cyc_base.specs.Values.{Below, EachBelow}
use Rattle.netlist.specs.Fixpoint.{wires, gate_value, steps}
use Rattle.cyc_base.proofs.OrderLemmas.{Below-refl, Below-antisym, EachBelow-refl, EachBelow-append, EachBelow-at, EachBelow-map, EachBelow-antisym}
use Rattle.cover_logic.proofs.ExtensionLemmas.{ext_is_monotone}
use Rattle.netlist.proofs.FixpointLemmas.{unknown_below_state, steps_below_fix, length-steps, get_or-step}
use Rattle.loops.specs.Sweeps.{gate_in, IsSweep, sweep_step, sweep_steps, sweeps, cuts_of, cut_values, CutsAreFixed}
use Rattle.loops.specs.Laws.{SweepsStayBelowFix, StillIsFix, FixedCutsGiveFix, FewSweepsAreEnough, CountIsSmall}
use Rattle.loops.proofs.Walks.{same_loop-trans, same_loop-sym}
use Rattle.loops.proofs.Rising.{stands_still}
use Rattle.loops.proofs.Reading.{choice_mono, choice_below, choice_above, wire_of_gate, in_loop_from, fix_by_place}

-- the extension at pins read in two ways, one below the other
pub ext_below : (net : Parts) (n : ℕ) (f g : Sig → Trit) → ((s : Sig) → Below (f s) (g s)) → Below (ext (gate_at net n).cover (map f (gate_at net n).pins)) (ext (gate_at net n).cover (map g (gate_at net n).pins))
ext_below net n f g h = grind (arith, ext_is_monotone, EachBelow-map)

module _ (net : Parts) (loops : Loops) (v : List Trit) where
  gate_in_mono : (c c' s s' : List Trit) → EachBelow c c' → EachBelow s s' → (n : ℕ) → Below (gate_in net loops v c s n) (gate_in net loops v c' s' n)
  gate_in_mono c c' s s' h k n = grind (arith, ext_below, choice_mono, EachBelow-at, Below-refl)

  sweep_step_mono : (c c' s s' : List Trit) → EachBelow c c' → EachBelow s s' → EachBelow (sweep_step net loops v c s) (sweep_step net loops v c' s')
  sweep_step_mono c c' s s' h k = grind (arith, EachBelow-map, gate_in_mono)

  pub length-sweep_steps : (c : List Trit) (k : ℕ) → length (sweep_steps net loops v c k) ≡ length net.gates
  length-sweep_steps c k = grind (arith, length-replicate, length-map-range_with_len)

  sweep_steps_rise : (c : List Trit) (k : ℕ) → EachBelow (sweep_steps net loops v c k) (sweep_steps net loops v c (suc k))
  sweep_steps_rise c zero = unknown_below_state (length net.gates) (sweep_steps net loops v c (suc zero)) (length-sweep_steps c (suc zero))
  sweep_steps_rise c (suc k) = grind (arith, sweep_step_mono, EachBelow-refl, sweep_steps_rise c k)

  pub sweep_is_step : (c : List Trit) → sweep net loops v c ≡ sweep_step net loops v c (sweep net loops v c)
  sweep_is_step c = grind (arith, stands_still (sweep_steps net loops v c) (sweep_steps_rise c), sweep_steps_rise c, length-sweep_steps c (suc (length net.gates)))

  pub sweep_each : (c : List Trit) (n : ℕ) → n < length net.gates → get_or (sweep net loops v c) n X ≡ gate_in net loops v c (sweep net loops v c) n
  sweep_each c n l = grind (arith, sweep_is_step, get_or-map-range_with_len)

  pub sweep_is_sweep : (c : List Trit) → IsSweep net loops v c (sweep net loops v c)
  sweep_is_sweep c = record { gates = length-sweep_steps c (length net.gates); each = sweep_each c }

  sweep_steps_mono : (c c' : List Trit) → EachBelow c c' → (k : ℕ) → EachBelow (sweep_steps net loops v c k) (sweep_steps net loops v c' k)
  sweep_steps_mono c c' h zero = EachBelow-refl (replicate (length net.gates) X)
  sweep_steps_mono c c' h (suc k) = grind (arith, sweep_step_mono, sweep_steps_mono c c' h k)

  pub length-sweeps : (k : ℕ) → length (sweeps net loops v k) ≡ length net.gates
  length-sweeps k = grind (arith, length-replicate, length-sweep_steps)

  pub sweeps_rise : (k : ℕ) → EachBelow (sweeps net loops v k) (sweeps net loops v (suc k))
  sweeps_rise zero = unknown_below_state (length net.gates) (sweeps net loops v (suc zero)) (length-sweeps (suc zero))
  sweeps_rise (suc k) = grind (arith, sweep_steps_mono, sweeps_rise k)

  pub length-fix : length (fix_gates net v) ≡ length net.gates
  length-fix = length-steps net v (length net.gates)

  module _ (width : length v ≡ first_gate net) where
    sweep_steps_below : (c : List Trit) → EachBelow c (fix_gates net v) → (k : ℕ) → EachBelow (sweep_steps net loops v c k) (fix_gates net v)
    sweep_steps_below c h zero = unknown_below_state (length net.gates) (fix_gates net v) length-fix
    sweep_steps_below c h (suc k) = grind (arith, sweep_steps_below c h k, fix_by_place, EachBelow-map, ext_below, choice_below, wire_of_gate, in_loop_from, EachBelow-at, Below-refl)

    pub sweeps_below : (k : ℕ) → EachBelow (sweeps net loops v k) (fix_gates net v)
    sweeps_below zero = unknown_below_state (length net.gates) (fix_gates net v) length-fix
    sweeps_below (suc k) = sweep_steps_below (sweeps net loops v k) (sweeps_below k) (length net.gates)

pub sweeps_stay_below_fix : SweepsStayBelowFix
sweeps_stay_below_fix net loops v width k = sweeps_below net loops v width k

-- lists that two functions make of the same numbers are equal where they agree, and nowhere else
agree_at : (f g : ℕ → Trit) (xs : List ℕ) → map f xs ≡ map g xs → (x : ℕ) → Contains xs x → f x ≡ g x
agree_at f g [] e x c = absurd (Contains-nothing x c)
agree_at f g (y ∷ ys) e x c = grind (arith, Contains-cases, agree_at f g ys)

map_where_kept : (f g : ℕ → Trit) (p : ℕ → Bool) (xs : List ℕ) → ((n : ℕ) → p n ≡ true → f n ≡ g n) → map f (filter p xs) ≡ map g (filter p xs)
map_where_kept f g p [] h = refl
map_where_kept f g p (x ∷ xs) h = grind (arith, map_where_kept f g p xs h, cases_Bool)

pub reaches_within : (net : Parts) (a b : ℕ) (via : List ℕ) → Walk net a via b → b < length net.gates
reaches_within net a b [] h = h.reader
reaches_within net a b (x ∷ via) h = reaches_within net x b via h.1

module _ (net : Parts) (loops : Loops) (are : AreLoopsOf net loops) where
  pub same-sym : (a b : ℕ) → loops.same a b ≡ true → loops.same b a ≡ true
  same-sym a b e = (are.same b a).1 (same_loop-sym net a b ((are.same a b).0 e))

  pub same-trans : (a b c : ℕ) → loops.same a b ≡ true → loops.same b c ≡ true → loops.same a c ≡ true
  same-trans a b c e d = (are.same a c).1 (same_loop-trans net a b c ((are.same a b).0 e) ((are.same b c).0 d))

  pub same_within : (a b : ℕ) → loops.same a b ≡ true → b < length net.gates
  same_within a b e = let s = (are.same a b).0 e in reaches_within net a b s.there.via s.there.walk

  pub cut_values_agree : (a : ℕ) (s t : List Trit) → cut_values net loops a s ≡ cut_values net loops a t → (n : ℕ) → loops.same a n ≡ true → loops.cut n ≡ true → get_or s n X ≡ get_or t n X
  cut_values_agree a s t e n same cut =
      agree_at (λ k. get_or s k X) (λ k. get_or t k X) (cuts_of net loops a) e n
      (Contains-filter (λ k. loops.same a k && loops.cut k) (range_with_len 0 (length net.gates)) n (and_from (loops.same a n) (loops.cut n) same cut)
      (Contains-range (length net.gates) n (same_within a n same)))

  module _ (v : List Trit) (width : length v ≡ first_gate net) (a : ℕ) where
    -- where a sweep leaves the cut wires as they were, each step of the netlist stays below it in the loop
    still_above : (k : ℕ) → cut_values net loops a (sweeps net loops v (suc k)) ≡ cut_values net loops a (sweeps net loops v k) → (j n : ℕ) → loops.same a n ≡ true → Below (get_or (steps net v j) n X) (get_or (sweeps net loops v (suc k)) n X)
    still_above k still zero n same = grind (arith, same_within, get_or-replicate)
    still_above k still (suc j) n same =
        let l = same_within a n same in
        let c = sweeps net loops v k in
        let s = sweeps net loops v (suc k) in
        subst (λ (t : Trit). Below t (get_or s n X)) (sym (get_or-step net v (steps net v j) n l))
        (subst (λ (t : Trit). Below (gate_value (wires v (steps net v j)) (gate_at net n)) t) (sym (sweep_each net loops v c n l))
        (ext_below net n (λ r. wire (wires v (steps net v j)) r) (pin_in net loops v c s n)
        (λ r. choice_above (in_loop_of net loops n r) (loops.cut (gate_of net r)) _ _ _ _
        (λ e d.
        let p = in_loop_from net loops n r e in
        let g = same-trans a n (gate_of net r) same p.1 in
        subst (λ (t : Trit). Below t (get_or c (gate_of net r) X)) (sym (wire_of_gate v (steps net v j) (first_gate net) r.0 width p.0))
        (subst (λ (t : Trit). Below (get_or (steps net v j) (gate_of net r) X) t)
        (cut_values_agree a s c still (gate_of net r) g d)
        (still_above k still j (gate_of net r) g)))
        (λ e d.
        let p = in_loop_from net loops n r e in
        let g = same-trans a n (gate_of net r) same p.1 in
        subst (λ (t : Trit). Below t (get_or s (gate_of net r) X)) (sym (wire_of_gate v (steps net v j) (first_gate net) r.0 width p.0))
        (still_above k still j (gate_of net r) g))
        (λ e. EachBelow-at (wires v (steps net v j)) (fix net v) r.0
        (EachBelow-append v v (steps net v j) (fix_gates net v) (EachBelow-refl v)
        (steps_below_fix net v j))))))

    still_is_fix_at : (k : ℕ) → cut_values net loops a (sweeps net loops v (suc k)) ≡ cut_values net loops a (sweeps net loops v k) → (n : ℕ) → loops.same a n ≡ true → get_or (sweeps net loops v (suc k)) n X ≡ get_or (fix_gates net v) n X
    still_is_fix_at k still n same =
        Below-antisym (get_or (sweeps net loops v (suc k)) n X) (get_or (fix_gates net v) n X)
        (EachBelow-at (sweeps net loops v (suc k)) (fix_gates net v) n (sweeps_below net loops v width (suc k)))
        (still_above k still (length net.gates) n same)

    values_below : (s t : List Trit) → EachBelow s t → EachBelow (cut_values net loops a s) (cut_values net loops a t)
    values_below s t h = EachBelow-map (λ n. get_or s n X) (λ n. get_or t n X) (cuts_of net loops a) (λ n. EachBelow-at s t n h)

    -- where the cut wires stood still once, they stand at the fixpoint from then on
    fixed_from_still : (k : ℕ) → cut_values net loops a (sweeps net loops v k) ≡ cut_values net loops a (sweeps net loops v (suc k)) → cut_values net loops a (sweeps net loops v (suc k)) ≡ cut_values net loops a (fix_gates net v)
    fixed_from_still k e = grind (arith, map_where_kept, still_is_fix_at, and_parts)

    stays : (k : ℕ) → cut_values net loops a (sweeps net loops v k) ≡ cut_values net loops a (sweeps net loops v (suc k)) → cut_values net loops a (sweeps net loops v (suc k)) ≡ cut_values net loops a (sweeps net loops v (suc (suc k)))
    stays k e =
        let is = fixed_from_still k e in
        let up : EachBelow (cut_values net loops a (fix_gates net v)) (cut_values net loops a (sweeps net loops v (suc (suc k)))) =
        subst (λ (t : List Trit). EachBelow t (cut_values net loops a (sweeps net loops v (suc (suc k))))) is
        (values_below (sweeps net loops v (suc k)) (sweeps net loops v (suc (suc k))) (sweeps_rise net loops v (suc k))) in
        is ∙ EachBelow-antisym (cut_values net loops a (fix_gates net v)) (cut_values net loops a (sweeps net loops v (suc (suc k)))) up
        (values_below (sweeps net loops v (suc (suc k))) (fix_gates net v) (sweeps_below net loops v width (suc (suc k))))

    enough : CutsAreFixed net loops v a (length (cuts_of net loops a))
    enough =
        let n = length (cuts_of net loops a) in
        let still : cut_values net loops a (sweeps net loops v n) ≡ cut_values net loops a (sweeps net loops v (suc n)) =
        stands_still (λ k. cut_values net loops a (sweeps net loops v k))
        (λ k. values_below (sweeps net loops v k) (sweeps net loops v (suc k)) (sweeps_rise net loops v k))
        stays n
        (let e = length-map (cuts_of net loops a) (λ k. get_or (sweeps net loops v (suc n)) k X) in omega arith) in
        still ∙ fixed_from_still n still

pub still_is_fix : StillIsFix
still_is_fix net loops are v width a k still n same = still_is_fix_at net loops are v width a k still n same

pub few_sweeps_are_enough : FewSweepsAreEnough
few_sweeps_are_enough net loops are a v width = enough net loops are v width a

pub count_is_small : CountIsSmall
count_is_small net loops are care width a m count =
    count.least (length (cuts_of net loops a)) (λ v h. enough net loops are v (width v h) a)

pub fixed_cuts_give_fix : FixedCutsGiveFix
fixed_cuts_give_fix net loops are v width a k fixed =
    let low = sweeps net loops v k in
    let high = sweeps net loops v (suc k) in
    let up : EachBelow (cut_values net loops a (fix_gates net v)) (cut_values net loops a high) =
    subst (λ (t : List Trit). EachBelow t (cut_values net loops a high)) fixed (values_below net loops are v width a low high (sweeps_rise net loops v k)) in
    let is : cut_values net loops a high ≡ cut_values net loops a (fix_gates net v) =
    EachBelow-antisym (cut_values net loops a high) (cut_values net loops a (fix_gates net v))
    (values_below net loops are v width a high (fix_gates net v) (sweeps_below net loops v width (suc k))) up in
    (is, λ n same. still_is_fix_at net loops are v width a k (is ∙ sym fixed) n same)
