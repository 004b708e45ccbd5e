-- The gates that tell whether some pair differs.
use Rattle.std.proofs.Common.{◌≡◌, ◌≢◌, ℕ, zero, suc, ◌+◌, ◌<◌, ◌≤◌, Bool, true, false, ◌||◌, List, [], ◌∷◌, ◌++◌, length, map, take, get_or, sym, ap, ap₂, subst, ◌∙◌, arith}
use Rattle.miters.proofs.Common.{list_any, range_with_len, length-append, length-map, get_or_append_left, get_or-append-add, get_or-append_right, get_or-replicate, length-map-range_with_len, get_or-map-range_with_len, Sig, Trit, X, Zero, One, bit, bits, ext, Gate, Parts, count, signal, gate_at, no_gate, gate_sig, wires, wire, steps, fix, fix_gates, columns, Pair, some_is_apart, are_apart, is_apart_at, moved_gates, joined, link_gate, miter_gates, no_pair, last_gate, get_or-step, wire_of_gate}
use Rattle.std.proofs.lemmas.List.{get_or_at, take_all}
use Rattle.cyc_base.specs.Values.{Below}
use Rattle.netlist.specs.Fixpoint.{gate_value}
use Rattle.miters.specs.Joined.{link_cover, both_cover}
use Rattle.std.proofs.lemmas.List.Folds.{list_any_more}
use Rattle.cyc_base.proofs.OrderLemmas.{EachBelow-at, bit-known}
use Rattle.netlist.proofs.FixpointLemmas.{steps_below_fix, get_or-fix}
use Rattle.refusals.specs.Refusals.{is_x}
use Rattle.miters.proofs.JoinLemmas.{length-moved, length-joined}

-- ---- the covers

link_is : (p : Bool) (x y : Trit) → x ≢ X → y ≢ X → ext link_cover (bit p ∷ x ∷ y ∷ []) ≡ bit (p || are_apart x y)
link_is p x y h k = grind arith

both_zero : (y : Trit) → ext both_cover (Zero ∷ y ∷ []) ≡ Zero
both_zero y = grind arith

both_unknown : (x : Trit) → Below x One → ext both_cover (x ∷ X ∷ []) ≡ X
both_unknown x below = grind arith

any_take : {A : Type 0} (p : A → Bool) (xs : List A) (i : ℕ) (d : A) → i < length xs → list_any p (take (suc i) xs) ≡ (list_any p (take i xs) || p (get_or xs i d))
any_take p xs i d l = ap (λ n. list_any p (take n xs)) (let e : suc i ≡ i + 1 = omega arith in e) ∙ list_any_more p xs i d l

module _ (a b : Parts) (pairs : List Pair) where
  abbrev pub first : ℕ
  first = length b.gates

  abbrev pub told : List Gate
  told = miter_gates a first pairs

  abbrev pub net : Parts
  net = joined a b told

  abbrev links : List Gate
  links = map (link_gate a first pairs) (range_with_len 0 (length pairs))

  -- the gate's number, and its signal
  abbrev pub place : ℕ → ℕ
  place j = length a.gates + (first + j)

  abbrev pub teller : Sig
  teller = gate_sig net (place (suc (length pairs)))

  pub length-told : length told ≡ suc (suc (length pairs))
  length-told =
      let x = length-append links (last_gate a first (length pairs) ∷ []) in
      let y = length-map-range_with_len (link_gate a first pairs) 0 (length pairs) in
      omega arith

  pub length-net : length net.gates ≡ suc (place (suc (length pairs)))
  length-net = let x = length-joined a b told in let y = length-told in omega arith

  gate_is : (j : ℕ) → gate_at net (place j) ≡ get_or told j no_gate
  gate_is j = grind (arith, get_or-append-add a.gates (moved_gates a b ++ told) (first + j) no_gate, get_or-append_right (moved_gates a b) told first (first + j) no_gate (length-moved a b), length-moved a b)

  link_at : (i : ℕ) → i < length pairs → gate_at net (place (suc i)) ≡ link_gate a first pairs i
  link_at i l =
      grind (arith, length-map-range_with_len (link_gate a first pairs) 0 (length pairs), gate_is (suc i), get_or_append_left links (last_gate a first (length pairs) ∷ []) no_gate i, get_or-map-range_with_len (link_gate a first pairs) 0 (length pairs) i i no_gate l)

  teller_at : gate_at net (place (suc (length pairs))) ≡ last_gate a first (length pairs)
  teller_at =
      grind (arith, gate_is (suc (length pairs)), get_or_at links (last_gate a first (length pairs)) [] no_gate (length pairs) (length-map-range_with_len (link_gate a first pairs) 0 (length pairs)), length-map-range_with_len (link_gate a first pairs) 0 (length pairs))

  module _ (v : List Bool) (wide : length v ≡ columns a) where
    abbrev w : List Trit
    w = bits v

    abbrev now : Sig → Trit
    now = wire (fix net w)

    wide_w : length w ≡ columns net
    wide_w = length-map v bit ∙ wide

    -- what the state of the gates says of a gate's signal
    gate_of_state : (s : List Trit) (n : ℕ) → wire (wires w s) (gate_sig net n) ≡ get_or s n X
    gate_of_state s n = grind (arith, wire_of_gate w s (columns net) (columns net + n) wide_w, wide_w)

    value_is : (n : ℕ) → n < length net.gates → now (gate_sig net n) ≡ gate_value (fix net w) (gate_at net n)
    value_is n l = gate_of_state (fix_gates net w) n ∙ get_or-fix net w n l

    sig_is : (j : ℕ) → signal (count a + (first + j)) ≡ gate_sig net (place j)
    sig_is j = ap signal (omega arith)

    module _ (known : (k : ℕ) (d : Pair) → k < length pairs → (now (get_or pairs k d).here ≢ X) × (now (get_or pairs k d).there ≢ X)) where
      -- each link has an answer on the pairs up to its own
      chain : (i : ℕ) → i ≤ length pairs → now (gate_sig net (place i)) ≡ bit (list_any (is_apart_at net v) (take i pairs))
      chain zero l = grind (arith, length-net, value_is (place zero), gate_is zero)
      chain (suc i) l =
          let e = length-net in
          let k = known i no_pair (omega arith) in
          grind (arith, value_is (place (suc i)), link_at i, sig_is i, chain i, link_is (list_any (is_apart_at net v) (take i pairs)) (now (get_or pairs i no_pair).here) (now (get_or pairs i no_pair).there) k.0 k.1, any_take (is_apart_at net v) pairs i no_pair)

      pub link_known : (i : ℕ) → i ≤ length pairs → now (gate_sig net (place i)) ≢ X
      link_known i l e = bit-known (list_any (is_apart_at net v) (take i pairs)) (sym (chain i l) ∙ e)

      last_link : now (gate_sig net (place (length pairs))) ≡ bit (some_is_apart net pairs v)
      last_link = chain (length pairs) (omega arith) ∙ ap (λ ps. bit (list_any (is_apart_at net v) ps)) (take_all (length pairs) pairs (omega arith))

      teller_sig : signal (count a + suc (first + length pairs)) ≡ teller
      teller_sig = ap signal (omega arith)

      -- where no pair differs, the last gate is 0
      known_teller : some_is_apart net pairs v ≡ false → now teller ≡ Zero
      known_teller none = grind (arith, length-net, value_is (place (suc (length pairs))), teller_at, sig_is (length pairs), last_link, both_zero (now (signal (count a + suc (first + length pairs)))))

      -- where one does, it is unknown after each step
      unknown_step : some_is_apart net pairs v ≡ true → (k : ℕ) → get_or (steps net w k) (place (suc (length pairs))) X ≡ X
      unknown_step some zero = let e = length-net in get_or-replicate (length net.gates) (place (suc (length pairs))) X X (omega arith)
      unknown_step some (suc k) =
          let e = length-net in
          let s : List Trit = steps net w k in
          let below : Below (get_or (steps net w k) (place (length pairs)) X) One =
          subst (λ x. Below (get_or (steps net w k) (place (length pairs)) X) x)
          (sym (gate_of_state (fix_gates net w) (place (length pairs))) ∙ last_link ∙ ap bit some)
          (EachBelow-at (steps net w k) (fix_gates net w) (place (length pairs)) (steps_below_fix net w k)) in
          get_or-step net w (steps net w k) (place (suc (length pairs))) (omega arith)
          ∙ ap (gate_value (wires w (steps net w k))) teller_at
          ∙ ap₂ (λ x y. ext both_cover (x ∷ y ∷ []))
          (ap (wire (wires w (steps net w k))) (sig_is (length pairs)) ∙ gate_of_state (steps net w k) (place (length pairs)))
          (ap (wire (wires w (steps net w k))) teller_sig ∙ gate_of_state (steps net w k) (place (suc (length pairs))) ∙ unknown_step some k)
          ∙ both_unknown (get_or (steps net w k) (place (length pairs)) X) below

      pub teller_is : is_x (now teller) ≡ some_is_apart net pairs v
      teller_is = grind (arith, gate_of_state (fix_gates net w) (place (suc (length pairs))), unknown_step, known_teller)
