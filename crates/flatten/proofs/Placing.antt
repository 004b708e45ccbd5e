-- The signal of a driver, by its place in the table of drivers.
use Rattle.std.proofs.Common.{◌≡◌, inl, inr, ⊎_elim, ◌⊎◌, ℕ, ◌+◌, ◌-◌, ◌<◌, ◌≤◌, nat_lt, Bool, true, false, not, ◌||◌, List, [], ◌∷◌, ◌++◌, length, length-append, map, filter, refl, sym, ap, ◌∙◌, arith, cond, if◌then◌else◌, Some, None, Ok, Err, option_map, unwrap_or}
use Rattle.cyc_base.specs.declared.limits.TheConstants.{MAX_FLAT_ITEMS}
use Rattle.flatten.proofs.Common.{length-map, list_any-append, list_any, find, flat_map, position, position_or_len, option_or, bytes_eq, Option, Result, Sig, Parts, BlifModel, GateLine, LatchLine, FlatFault, is_among, FlatLines, own_clocks, latch_outputs, gate_outputs, reads, signal_list, sig_of, declared_twice, driven_twice, link_fault, latch_with, gate_with, netlist_by, linked, sig_or, undriven_among, AreRead, cases_Bool, bytes_eq-true}
use Rattle.std.proofs.lemmas.List.Folds.{find-append}
use Rattle.std.specs.Option.{option_and_then}
use Rattle.std.proofs.lemmas.Bool.{not-false, or_parts, lt-ltb, both_ways}
use Rattle.cyc_base.proofs.ListLemmas.{option_or-neither, option_map-nothing}
use Rattle.netlist.specs.Netlists.{signal}
use Rattle.flatten.specs.declared.fault.FlatFault.TheVariants.{ClockRead, Undriven}
use Rattle.flatten.specs.declared.link.Drivers.{Drivers as DriverTable}
use Rattle.flatten.specs.Linking.{drivers, clock_read, undriven, bad_clock}
use Rattle.flatten.specs.Drivers.{IsDriversOf, HasSignals, sig_of_place, sig_at, is_unread}
use Rattle.flatten.proofs.Libraries.{among_once}

module _ {X : Type 0} (p : X → Bool) where
  pub step_no : (x : X) (xs : List X) → p x ≡ false → position_or_len p (x ∷ xs) ≡ 1 + position_or_len p xs
  step_no x xs e = ap (λ b. cond (not b) (1 + position_or_len p xs) 0) e

  pub step_yes : (x : X) (xs : List X) → p x ≡ true → position_or_len p (x ∷ xs) ≡ 0
  step_yes x xs e = ap (λ b. cond (not b) (1 + position_or_len p xs) 0) e

  pub place_some : (xs : List X) → list_any p xs ≡ true → position_or_len p xs < length xs
  place_some [] h = absurd (cc)
  place_some (x ∷ xs) h = grind (arith, cases_Bool (p x), step_yes x xs, step_no x xs, place_some xs)

  pub place_front : (xs ys : List X) → list_any p xs ≡ true → position_or_len p (xs ++ ys) ≡ position_or_len p xs
  place_front [] ys h = absurd (cc)
  place_front (x ∷ xs) ys h = grind (arith, cases_Bool (p x), step_yes x (xs ++ ys), step_yes x xs, step_no x (xs ++ ys), place_front xs ys, step_no x xs)

  pub place_behind : (xs ys : List X) → list_any p xs ≡ false → position_or_len p (xs ++ ys) ≡ length xs + position_or_len p ys
  place_behind [] ys h = omega arith
  place_behind (x ∷ xs) ys h = grind (arith, or_parts (p x) (list_any p xs) h, step_no x (xs ++ ys), place_behind xs ys)

found_at : {X : Type 0} (p : X → Bool) (xs : List X) → position_or_len p xs < length xs → position p xs ≡ Some (position_or_len p xs)
found_at p xs h = ap (λ b. if b then Some (position_or_len p xs) else None) (lt-ltb (position_or_len p xs) (length xs) h)

place_input : (a b k : ℕ) → k < a → sig_of_place a b k ≡ Some (signal k)
place_input a b k h = ap (λ t. if t then Some (signal k) else (if nat_lt k (a + b) then None else Some (signal (k - b)))) (lt-ltb k a h)

place_clock : (a b k : ℕ) → a ≤ k → k < a + b → sig_of_place a b k ≡ None
place_clock a b k h i = grind arith

place_driven : (a b k : ℕ) → a + b ≤ k → sig_of_place a b k ≡ Some (signal (k - b))
place_driven a b k h = grind arith

-- the signal of a name among inputs I, clocks C and other drivers R
module _ (I C R : List (List ℕ)) (n : List ℕ) where
  abbrev pub at : Option Sig
  at = option_and_then (sig_of_place (length I) (length C)) (position (bytes_eq n) (I ++ (C ++ R)))

  among_all : is_among (I ++ (C ++ R)) n ≡ (is_among I n || (is_among C n || is_among R n))
  among_all = list_any-append (bytes_eq n) I (C ++ R) ∙ ap (λ b. is_among I n || b) (list_any-append (bytes_eq n) C R)

  there : is_among (I ++ (C ++ R)) n ≡ true → position (bytes_eq n) (I ++ (C ++ R)) ≡ Some (position_or_len (bytes_eq n) (I ++ (C ++ R)))
  there h = found_at (bytes_eq n) (I ++ (C ++ R)) (place_some (bytes_eq n) (I ++ (C ++ R)) h)

  pub at_input : is_among I n ≡ true → at ≡ Some (sig_of (I ++ R) n)
  at_input h = grind (arith, there, among_all, place_front (bytes_eq n) I (C ++ R) h, place_front (bytes_eq n) I R h, place_input (length I) (length C) (position_or_len (bytes_eq n) I) (place_some (bytes_eq n) I h), place_some (bytes_eq n) I h)

  pub at_clock : is_among I n ≡ false → is_among C n ≡ true → at ≡ None
  at_clock h c = grind (arith, there, among_all, place_behind (bytes_eq n) I (C ++ R) h, place_front (bytes_eq n) C R c, place_some (bytes_eq n) C c, place_clock (length I) (length C) (length I + position_or_len (bytes_eq n) C))

  pub at_driven : is_among I n ≡ false → is_among C n ≡ false → is_among R n ≡ true → at ≡ Some (sig_of (I ++ R) n)
  at_driven h c r =
      let k = length I + (length C + position_or_len (bytes_eq n) R) in
      grind (arith, there, among_all, place_behind (bytes_eq n) I (C ++ R) h, place_behind (bytes_eq n) C R c, place_behind (bytes_eq n) I R h, place_driven (length I) (length C) k)

  pub at_none : is_among I n ≡ false → is_among C n ≡ false → at ≡ Some (sig_of (I ++ R) n) ⊎ (is_among (I ++ (C ++ R)) n ≡ false)
  at_none h c = grind (arith, cases_Bool (is_among R n), at_driven h c, among_all)

-- own clocks are no inputs
filtered : (I xs : List (List ℕ)) (n : List ℕ) → is_among (filter (λ x. not (is_among I x)) xs) n ≡ true → is_among I n ≡ false
filtered I [] n h = absurd (cc)
filtered I (x ∷ xs) n h = grind (arith, filtered I xs n, bytes_eq-true n x)

pub clock_no_input : (top : BlifModel) (n : List ℕ) → is_among (own_clocks top) n ≡ true → is_among top.inputs n ≡ false
clock_no_input top n h = grind (arith, filtered top.inputs top.clocks n, among_once)

pub first_of : {X : Type 0} (p : X → Bool) (x : X) (xs : List X) → find p (x ∷ xs) ≡ None → (p x ≡ false) × (find p xs ≡ None)
first_of p x xs h = grind arith

pub both_none : {X : Type 0} (p : X → Bool) (xs ys : List X) → find p (xs ++ ys) ≡ None → (find p xs ≡ None) × (find p ys ≡ None)
both_none p xs ys h = option_or-neither (find p xs) (find p ys) (sym (find-append p xs ys) ∙ h)

module _ (top : BlifModel) (lines : FlatLines) (table : DriverTable) (of : IsDriversOf top lines table) where
  at_table : (n : List ℕ) → sig_at table n ≡ option_and_then (sig_of_place (length top.inputs) (length (own_clocks top))) (position (bytes_eq n) (drivers top lines))
  at_table n = grind arith

  abbrev missing : List ℕ → Bool
  missing name = not (is_among (drivers top lines) name)

  sig_clock : (n : List ℕ) → is_among (own_clocks top) n ≡ true → sig_at table n ≡ None
  sig_clock n h = at_table n ∙ at_clock top.inputs (own_clocks top) (latch_outputs lines ++ gate_outputs lines) n (clock_no_input top n h) h

  sig_found : (n : List ℕ) → missing n ≡ false → is_among (own_clocks top) n ≡ false → sig_at table n ≡ Some (sig_of (signal_list top lines) n)
  sig_found n d c =
      elim (cases_Bool (is_among top.inputs n)) [
        | inl e ↦ at_table n ∙ at_input top.inputs (own_clocks top) (latch_outputs lines ++ gate_outputs lines) n e
        | inr e ↦ ⊎_elim (λ f. at_table n ∙ f) (λ f. absurd (both_ways _ f driven)) (at_none top.inputs (own_clocks top) (latch_outputs lines ++ gate_outputs lines) n e c)
      ]
    where
      driven : is_among (drivers top lines) n ≡ true
      driven = not-false (is_among (drivers top lines) n) d

  unread_is : (n : List ℕ) → missing n ≡ false → is_unread table n ≡ is_among (own_clocks top) n
  unread_is n d = grind (arith, cases_Bool (is_among (own_clocks top) n), sig_clock n, sig_found n d)

  -- the first clock that is read, where all that is read is driven
  pub find_unread : (names : List (List ℕ)) → find missing names ≡ None → find (is_unread table) names ≡ find (is_among (own_clocks top)) names
  find_unread [] h = refl
  find_unread (x ∷ names) h = grind (arith, first_of missing x names h, unread_is x, find_unread names)

  sig_same : (n : List ℕ) → missing n ≡ false → is_unread table n ≡ false → sig_or table n ≡ sig_of (signal_list top lines) n
  sig_same n d r = ap (λ o. unwrap_or o (signal 0)) (sig_found n d (sym (unread_is n d) ∙ r))

  pub sigs_same : (names : List (List ℕ)) → find missing names ≡ None → find (is_unread table) names ≡ None → map (sig_or table) names ≡ map (sig_of (signal_list top lines)) names
  sigs_same [] h r = refl
  sigs_same (x ∷ names) h r = grind (arith, first_of missing x names h, first_of (is_unread table) x names r, sig_same x, sigs_same names)

  latches_same : (latches : List LatchLine) → find missing (map (λ l. l.from) latches) ≡ None → find (is_unread table) (map (λ l. l.from) latches) ≡ None → map (latch_with (sig_or table)) latches ≡ map (latch_with (sig_of (signal_list top lines))) latches
  latches_same [] h r = refl
  latches_same (l ∷ latches) h r = grind (arith, first_of missing l.from, first_of (is_unread table) l.from, sig_same l.from, latches_same latches)

  gates_same : (gates : List GateLine) → find missing (flat_map (λ g. g.pins) gates) ≡ None → find (is_unread table) (flat_map (λ g. g.pins) gates) ≡ None → map (gate_with (sig_or table)) gates ≡ map (gate_with (sig_of (signal_list top lines))) gates
  gates_same [] h r = refl
  gates_same (x ∷ gates) h r = grind (arith, both_none missing x.pins, both_none (is_unread table) x.pins, sigs_same x.pins, gates_same gates)

  pub parts_same : find missing (reads top lines) ≡ None → find (is_unread table) (reads top lines) ≡ None → netlist_by (sig_or table) top lines ≡ netlist_by (sig_of (signal_list top lines)) top lines
  parts_same h r =
      let f = both_none missing top.outputs (map (λ (l : LatchLine). l.from) lines.latches ++ flat_map (λ (g : GateLine). g.pins) lines.gates) h in
      let g = both_none (is_unread table) top.outputs (map (λ (l : LatchLine). l.from) lines.latches ++ flat_map (λ (x : GateLine). x.pins) lines.gates) r in
      let f' = both_none missing (map (λ (l : LatchLine). l.from) lines.latches) (flat_map (λ (x : GateLine). x.pins) lines.gates) f.1 in
      let g' = both_none (is_unread table) (map (λ (l : LatchLine). l.from) lines.latches) (flat_map (λ (x : GateLine). x.pins) lines.gates) g.1 in
      let a = sigs_same top.outputs f.0 g.0 in
      let b = latches_same lines.latches f'.0 g'.0 in
      let d = gates_same lines.gates f'.1 g'.1 in
      cc

  undriven_is : undriven_among table (reads top lines) ≡ undriven top lines
  undriven_is = ap (λ (keys : List (List ℕ)). option_map Undriven (find (λ name. not (is_among keys name)) (reads top lines))) of.names

  linked_fault : (o : Option FlatFault) (fault : FlatFault) → o ≡ Some fault → ◌≡◌ {A = Result Parts FlatFault} (elim o [ Some f ↦ Err f | None ↦ Ok (netlist_by (sig_of (signal_list top lines)) top lines) ]) (Err fault)
  linked_fault o fault h = grind arith

  linked_none : (o : Option FlatFault) → o ≡ None → ◌≡◌ {A = Result Parts FlatFault} (elim o [ Some f ↦ Err f | None ↦ Ok (netlist_by (sig_of (signal_list top lines)) top lines) ]) (Ok (netlist_by (sig_of (signal_list top lines)) top lines))
  linked_none o h = grind arith

  -- the answer, once the drivers are without a fault
  module _ (once : option_or (declared_twice top) (driven_twice top lines) ≡ None) where
    behind_drivers : (o : Option FlatFault) → undriven_among table (reads top lines) ≡ o → link_fault top lines ≡ option_or (option_or o (bad_clock top lines)) (clock_read top lines)
    behind_drivers o e = grind arith

    pub linked_undriven : (fault : FlatFault) → undriven_among table (reads top lines) ≡ Some fault → linked top lines ≡ Err fault
    linked_undriven fault e = linked_fault (link_fault top lines) fault (behind_drivers (Some fault) e)

    -- and once all wires were read
    module _ (clock : Option (List ℕ)) (read : AreRead table (reads top lines) None clock) where
      all_driven : find missing (reads top lines) ≡ None
      all_driven = option_map-nothing Undriven (find missing (reads top lines)) (sym undriven_is ∙ read.driven)

      fault_is : link_fault top lines ≡ option_or (bad_clock top lines) (option_map ClockRead clock)
      fault_is = grind (arith, behind_drivers None read.driven, find_unread (reads top lines) all_driven, all_driven)

      pub linked_clock : (fault : FlatFault) → option_or (bad_clock top lines) (option_map ClockRead clock) ≡ Some fault → linked top lines ≡ Err fault
      linked_clock fault e = linked_fault (link_fault top lines) fault (fault_is ∙ e)

      pub linked_parts : (parts : Parts) → parts ≡ netlist_by (sig_or table) top lines → option_or (bad_clock top lines) (option_map ClockRead clock) ≡ None → linked top lines ≡ Ok parts
      linked_parts parts is fits =
          grind (arith, option_map-nothing ClockRead clock (option_or-neither (bad_clock top lines) (option_map ClockRead clock) fits).1, option_or-neither (bad_clock top lines) (option_map ClockRead clock), linked_none (link_fault top lines), fault_is, parts_same all_driven, all_driven)

-- the numbers of the signals of a table fit
pub has_signals : (top : BlifModel) (lines : FlatLines) (table : DriverTable) → IsDriversOf top lines table → length top.inputs ≤ 4000000000 → length lines.latches + length lines.gates ≤ MAX_FLAT_ITEMS → HasSignals table
has_signals top lines table of few small =
    let n = ap length of.names ∙ length-append top.inputs (own_clocks top ++ (latch_outputs lines ++ gate_outputs lines)) in
    let m = length-append (own_clocks top) (latch_outputs lines ++ gate_outputs lines) in
    let k = length-append (latch_outputs lines) (gate_outputs lines) in
    let a = length-map lines.latches (λ (l : LatchLine). l.output) in
    let b = length-map lines.gates (λ (g : GateLine). g.output) in
    record { within = omega (arith, of.inputs, of.clocks); fit = omega (arith, of.clocks) }
