-- The tests of faults decide the facts of a netlist.
use Rattle.std.proofs.Common.{◌≡◌, ◌↔◌, ◌&&◌, ℕ, Bool, true, false, not, nat_lt, if◌then◌else◌, IsTrue, List, [], ◌∷◌, length, get_or, All, IfSome, is_some, Some, None, Option, codes, refl, sym, ap, ◌∙◌, arith, true≢false}
use Rattle.std.specs.Bool.{Decides}
use Rattle.std.specs.List.{list_all, list_any, position, position_or_len}
use Rattle.std.specs.Option.{option_map_or}
use Rattle.std.proofs.lemmas.Bool.{ltb-true, ltb-false, not-true, and_parts}
use Rattle.std.proofs.lemmas.Bool.Decides.{nat_tests, Decides-ltb, Decides-not}
use Rattle.std.proofs.lemmas.List.Folds.{list_all-append, list_all-map}
use Rattle.std.proofs.lemmas.List.Sums.{AllPass-from_list_all, list_all-from_AllPass, fails_before_first, passes_at_first}
use Rattle.std.proofs.lemmas.Slice.Eq.{bytes_eq-Decides}
use Rattle.cyc_base.specs.Names.{IsBlifByte, IsBlifName}
use Rattle.netlist.specs.declared.parts.Clock.{Clock}
use Rattle.netlist.specs.declared.parts.Parts.{Parts}
use Rattle.netlist.specs.Netlists.{count, signal_names, driven_names, IsSignal, IsClockName}
use Rattle.netlist.specs.Faults.{is_signal, reads_signals, is_blif_byte, is_blif_name, has_blif_names, is_clock_name, has_fitting_clock}

pub is_blif_byte_decides : (b : ℕ) → Decides (is_blif_byte b) (IsBlifByte b)
is_blif_byte_decides b = (λ e. grind (arith, nat_tests), λ h. grind (arith, nat_tests))

-- a test of each element decides what it decides of each
pub list_all_decides : {T : Type 0} (p : T → Bool) (P : T → Type 0) → ((x : T) → Decides (p x) (P x)) → (xs : List T) → Decides (list_all p xs) (All P xs)
list_all_decides p P each xs = grind (arith, AllPass-from_list_all p xs, list_all-from_AllPass p xs)

pub is_blif_name_decides : (name : List ℕ) → Decides (is_blif_name name) (IsBlifName name)
is_blif_name_decides [] = (λ e. absurd (true≢false (sym e)), λ h. absurd (h.0 refl))
is_blif_name_decides (b ∷ bs) =
    let each = list_all_decides is_blif_byte IsBlifByte is_blif_byte_decides (b ∷ bs) in
    (λ e. (λ n. cc, each.0 e), λ h. each.1 h.1)

-- two tests that decide the same are one
pub decided : {P : Type 0} (a b : Bool) → (IsTrue a ↔ P) → Decides b P → a ≡ b
decided a b h d = grind arith

-- a test of the names of all signals goes through inputs, latches and gates
pub list_all_signal_names : (p : List ℕ → Bool) (net : Parts) →
    list_all p (signal_names net)
    ≡ (list_all p net.inputs && (list_all (λ latch. p latch.name) net.latches && list_all (λ gate. p gate.name) net.gates))
list_all_signal_names p net = grind (arith, list_all-append p net.inputs (driven_names net), list_all-append p, list_all-map p)

pub Decides-and : {P Q : Type 0} (a b : Bool) → Decides a P → Decides b Q → Decides (a && b) (P × Q)
Decides-and a b p q = grind arith

pub reads_signals_decides : (net : Parts) →
    Decides (reads_signals net)
    ((All (λ gate. All (IsSignal net) gate.pins) net.gates × All (λ latch. IsSignal net latch.from) net.latches) × All (IsSignal net) net.outputs)
reads_signals_decides net =
    Decides-and _ _
    (Decides-and _ _
    (list_all_decides (λ gate. list_all (is_signal (count net)) gate.pins) (λ gate. All (IsSignal net) gate.pins)
    (λ gate. list_all_decides (is_signal (count net)) (IsSignal net) (λ s. Decides-ltb s.0 (count net)) gate.pins) net.gates)
    (list_all_decides (λ latch. is_signal (count net) latch.from) (λ latch. IsSignal net latch.from) (λ latch. Decides-ltb latch.from.0 (count net)) net.latches))
    (list_all_decides (is_signal (count net)) (IsSignal net) (λ s. Decides-ltb s.0 (count net)) net.outputs)

regroup : (a b c d : Bool) → (((a && b) && c) && d) ≡ (a && (b && (c && d)))
regroup a b c d = grind arith

pub has_blif_names_decides : (net : Parts) → Decides (has_blif_names net) (IsBlifName net.name × All IsBlifName (signal_names net))
has_blif_names_decides net =
    let name = is_blif_name_decides net.name in
    let names = list_all_decides is_blif_name IsBlifName is_blif_name_decides (signal_names net) in
    let split = list_all_signal_names is_blif_name net in
    let each = regroup (is_blif_name net.name) (list_all is_blif_name net.inputs)
    (list_all (λ latch. is_blif_name latch.name) net.latches) (list_all (λ gate. is_blif_name gate.name) net.gates) in (
      λ e. let all = and_parts (is_blif_name net.name) (list_all is_blif_name (signal_names net)) (ap (λ b. is_blif_name net.name && b) split ∙ sym each ∙ e) in
          (name.0 all.0, names.0 all.1),
      λ h. each ∙ ap (λ b. is_blif_name net.name && b) (sym split) ∙ rw (name.1 h.0, names.1 h.1) refl,
    )

-- no element is found exactly where the test fails at each
pub none_found : {T : Type 0} (p : T → Bool) (xs : List T) → position p xs ≡ None → All (λ x. p x ≡ false) xs
none_found p xs e k d l = by (nat_lt (position_or_len p xs) (length xs)) refl e
  where
    by : (b : Bool) → nat_lt (position_or_len p xs) (length xs) ≡ b → (if b then Some (position_or_len p xs) else None) ≡ None → p (get_or xs k d) ≡ false
    by b q n = grind (arith, fails_before_first, ltb-false)

pub found_none : {T : Type 0} (p : T → Bool) (xs : List T) (d : T) → All (λ x. p x ≡ false) xs → position p xs ≡ None
found_none p xs d h = by (nat_lt (position_or_len p xs) (length xs)) refl
  where
    by : (b : Bool) → nat_lt (position_or_len p xs) (length xs) ≡ b → (if b then Some (position_or_len p xs) else None) ≡ None
    by true q = absurd (true≢false (sym (passes_at_first p xs d (ltb-true _ _ q)) ∙ h _ d (ltb-true _ _ q)))
    by false q = refl

pub is_clock_name_decides : (net : Parts) (name : List ℕ) → Decides (is_clock_name net name) (IsClockName net name)
is_clock_name_decides net name = (
  λ e. let a = and_parts _ _ e in let b = and_parts _ _ a.0 in record {
    blif = (is_blif_name_decides name).0 b.0;
    named = (Decides-not _ (bytes_eq-Decides name (codes "NIL"))).0 b.1;
    undriven = not-true _ a.1;
  },
  λ h. rw ((is_blif_name_decides name).1 h.blif, (Decides-not _ (bytes_eq-Decides name (codes "NIL"))).1 h.named, h.undriven) refl,
)

abbrev FitsClock : Parts → Option Clock → Type 0
FitsClock net clock = (list_any (λ latch. latch.clocked) net.latches ≡ is_some clock) × IfSome clock (λ c. IsClockName net c.name)

fits_clock_decides : (net : Parts) (clock : Option Clock) →
    Decides
    (option_map_or (λ c. list_any (λ latch. latch.clocked) net.latches && is_clock_name net c.name) clock (not (list_any (λ latch. latch.clocked) net.latches)))
    (FitsClock net clock)
fits_clock_decides net clock = grind (arith, not-true, Decides-and, is_clock_name_decides)

pub has_fitting_clock_decides : (net : Parts) → Decides (has_fitting_clock net) (FitsClock net net.clock)
has_fitting_clock_decides net = fits_clock_decides net net.clock
