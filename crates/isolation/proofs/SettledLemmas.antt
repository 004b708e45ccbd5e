-- Loops that are settled by themselves, in the whole netlist.
use Rattle.std.proofs.Common.{◌≡◌, ◌≢◌, inl, inr, ℕ, zero, suc, ◌<◌, Bool, true, false, List, length, map, get_or, sym, ap, ◌∙◌, subst, arith, Contains, true≢false}
use Rattle.netlist.proofs.FixpointLemmas.{get_or-fix}
use Rattle.cyc_base.proofs.ListLemmas.{Contains-map}
use Rattle.cyc_base.proofs.OrderLemmas.{bit-known}
use Rattle.isolation.proofs.Common.{cases_lt, cases_eq, cases_Bool, get_or-map, get_or_default, get_or_append_left, length-map, Sig, X, bit, bits, ext, Parts, IsNetlist, count, signal, no_gate, gate_at, gate_sig, wire, fix, fix_gates, Feeds, Blocks, AreBlocksOf, block_at, home_of, first_gate, value_in, wire_of_gate, leads-trans, gate_home, home_gate, gate_in, IsUpstream, Contains-get_or}
use Rattle.cover_logic.specs.Covers.{value}
use Rattle.cover_logic.proofs.ExtensionLemmas.{ext_at_bits}
use Rattle.loops.proofs.Walks.{leads-step}
use Rattle.isolation.specs.Excerpts.{IsRead}
use Rattle.isolation.specs.Laws.{IsLooped, SettledWhere, SettledLoopsDetermine, UnsettledLoopsDecide}
use Rattle.loops.proofs.UpstreamLemmas.{upstream-trans, same-up}
use Rattle.isolation.proofs.ExcerptLemmas.{known_list, gates_known}

module _ (net : Parts) (valid : IsNetlist net) (blocks : Blocks) (are : AreBlocksOf net blocks) (settled : ℕ → Bool) (alone : SettledWhere net blocks settled) (v : List Bool) (width : length v ≡ first_gate net) where
  wide : length (bits v) ≡ first_gate net
  wide = length-map v bit ∙ width

  -- the gates upstream of gate n in loops not settled by themselves are determined
  abbrev Clear : ℕ → Type 0
  Clear n = (m : ℕ) → m < length net.gates → IsUpstream net m n → IsLooped blocks m → settled (home_of blocks m) ≡ false → value_in (fix_gates net (bits v)) m ≢ X

  clear-up : (g n : ℕ) → IsUpstream net g n → Clear n → Clear g
  clear-up g n up clear m l above = clear m l (upstream-trans net m g n above up)

  -- a wire is known that is an input, a latch or a gate of an earlier block
  pin_known : (n : ℕ) (s : Sig) → s.0 < count net → ((g : ℕ) → g < length net.gates → s ≡ gate_sig net g → value_in (fix_gates net (bits v)) g ≢ X) → wire (fix net (bits v)) s ≢ X
  pin_known n s inside known x =
      grind (arith, cases_lt s.0 (first_gate net), bit-known (get_or v s.0 false), get_or_append_left (bits v) (fix_gates net (bits v)) X s.0, wide, get_or-map bit v s.0 false X, wire_of_gate (bits v) (fix_gates net (bits v)) (first_gate net) s.0 wide)

  feeds-from : (n g : ℕ) (s : Sig) → n < length net.gates → g < length net.gates → s ≡ gate_sig net g → Contains (gate_at net n).pins s → Feeds net g n
  feeds-from n g s nl gl e c = record { source = gl; reader = nl; pin = subst (Contains (gate_at net n).pins) e c }

  pin-signal : (n : ℕ) (s : Sig) → n < length net.gates → Contains (gate_at net n).pins s → s.0 < count net
  pin-signal n s nl c = let b = valid.pins n no_gate nl c.0 s c.1 in let e = ap (λ (r : Sig). r.0) c.2 in omega (arith, b, e)

  module _ (b : ℕ) (below : (n : ℕ) → n < length net.gates → home_of blocks n < b → Clear n → value_in (fix_gates net (bits v)) n ≢ X) where
    -- a block that is no loop
    plain : (n : ℕ) → n < length net.gates → home_of blocks n ≡ b → (block_at blocks (home_of blocks n)).looped ≡ false → Clear n → value_in (fix_gates net (bits v)) n ≢ X
    plain n nl here isnt clear x =
        let us = known_list (map (wire (fix net (bits v))) (gate_at net n).pins) (λ k d less.
        let l : k < length (gate_at net n).pins = subst (λ (m : ℕ). k < m) (length-map (gate_at net n).pins (wire (fix net (bits v)))) less in
        λ e. known k l (sym (get_or-map (wire (fix net (bits v))) (gate_at net n).pins k (signal 0) d l) ∙ e)) in
        bit-known (value (gate_at net n).cover us.0)
        (sym (ap (ext (gate_at net n).cover) (sym us.1) ∙ ext_at_bits (gate_at net n).cover us.0) ∙ sym (get_or-fix net (bits v) n nl) ∙ x)
      where
        earlier : (g : ℕ) → Feeds net g n → home_of blocks g < b
        earlier g feeds = grind (arith, cases_eq (home_of blocks g) (home_of blocks n), true≢false, leads-step net n n, leads-trans net n g n)

        known : (k : ℕ) → k < length (gate_at net n).pins → wire (fix net (bits v)) (get_or (gate_at net n).pins k (signal 0)) ≢ X
        known k l =
            let s : Sig = get_or (gate_at net n).pins k (signal 0) in
            let c : Contains (gate_at net n).pins s = Contains-get_or (gate_at net n).pins k (signal 0) l in
            pin_known n s (pin-signal n s nl c)
            (λ g gl e. let feeds = feeds-from n g s nl gl e c in below g gl (earlier g feeds) (clear-up g n (inr (leads-step net g n feeds)) clear))

    -- a loop that is settled by itself
    looped : (n : ℕ) → n < length net.gates → home_of blocks n ≡ b → IsLooped blocks n → settled (home_of blocks n) ≡ true → Clear n → value_in (fix_gates net (bits v)) n ≢ X
    looped n nl here loop itself clear =
        let a = alone (home_of blocks n) (are.home n nl) loop itself in
        let c = home_gate net blocks are n nl in
        let at : get_or (block_at blocks (home_of blocks n)).gates c.0 0 ≡ n = get_or_default (block_at blocks (home_of blocks n)).gates c.0 0 n c.1 ∙ c.2 in
        subst (λ (m : ℕ). value_in (fix_gates net (bits v)) m ≢ X) at
        (gates_known net a.outside (block_at blocks (home_of blocks n)).gates a.small a.valid a.is (bits v) wide (λ i l. (member i l).0) a.determined
        (λ k d l. known (get_or a.outside k d) (a.is.apart (get_or a.outside k d) (Contains-get_or a.outside k d l)) (a.read (get_or a.outside k d) (Contains-get_or a.outside k d l)))
        c.0 c.1)
      where
        gates : List ℕ
        gates = (block_at blocks (home_of blocks n)).gates

        member : (i : ℕ) → i < length (block_at blocks (home_of blocks n)).gates → (gate_in (block_at blocks (home_of blocks n)).gates i < length net.gates) × (home_of blocks (gate_in (block_at blocks (home_of blocks n)).gates i) ≡ home_of blocks n)
        member i l = gate_home net blocks are (home_of blocks n) (gate_in (block_at blocks (home_of blocks n)).gates i) (are.home n nl) (Contains-get_or (block_at blocks (home_of blocks n)).gates i 0 l)

        known : (s : Sig) → (¬ Contains (map (gate_sig net) (block_at blocks (home_of blocks n)).gates) s) → IsRead net (block_at blocks (home_of blocks n)).gates s → wire (fix net (bits v)) s ≢ X
        known s apart read =
            let reader = gate_in (block_at blocks (home_of blocks n)).gates read.place in
            let m = member read.place read.within in
            pin_known n s (pin-signal reader s m.0 read.pin)
            (λ g gl e.
            let feeds = feeds-from reader g s m.0 gl e read.pin in
            let up : IsUpstream net reader n = same-up net blocks are reader n m.0 nl m.1 in
            below g gl
            (elim (cases_eq (home_of blocks g) (home_of blocks reader)) [
              | inr other ↦ let after = are.after_reads g reader feeds in let h = m.1 in omega (arith, after, other, here, h)
              | inl same ↦ absurd (apart (inside g gl e (same ∙ m.1)))
            ])
            (clear-up g n (upstream-trans net g reader n (inr (leads-step net g reader feeds)) up) clear))
          where
            inside : (g : ℕ) → g < length net.gates → s ≡ gate_sig net g → home_of blocks g ≡ home_of blocks n → Contains (map (gate_sig net) (block_at blocks (home_of blocks n)).gates) s
            inside g gl e home =
                let c : Contains (block_at blocks (home_of blocks n)).gates g = subst (λ (p : ℕ). Contains (block_at blocks p).gates g) home (home_gate net blocks are g gl) in
                subst (Contains (map (gate_sig net) (block_at blocks (home_of blocks n)).gates)) (sym e) (Contains-map (gate_sig net) (block_at blocks (home_of blocks n)).gates g c)

  by_blocks : (b n : ℕ) → n < length net.gates → home_of blocks n < b → Clear n → value_in (fix_gates net (bits v)) n ≢ X
  by_blocks zero n nl low clear = absurd (omega (arith, low))
  by_blocks (suc b) n nl low clear =
      grind (arith, cases_eq (home_of blocks n) b, by_blocks b n nl, cases_Bool (block_at blocks (home_of blocks n)).looped, plain b (by_blocks b) n nl, by_blocks b, cases_Bool (settled (home_of blocks n)), looped b (by_blocks b) n nl)

pub unsettled_loops_decide : UnsettledLoopsDecide
unsettled_loops_decide net blocks settled valid are alone v width n nl clear = grind (arith, by_blocks net valid blocks are settled alone v width (suc (home_of blocks n)) n nl)

pub settled_loops_determine : SettledLoopsDetermine
settled_loops_determine net blocks valid are alone v width n nl =
    unsettled_loops_decide net blocks (λ b. true) valid are alone v width n nl (λ m ml up loop other. absurd (true≢false other))
