-- The lines of a written netlist link to the netlist.
use Rattle.std.proofs.Common.{◌≡◌, ◌&&◌, ◌||◌, ℕ, ◌<◌, not, Bool, true, false, List, [], ◌∷◌, ◌++◌, length, map, get_or, refl, sym, ap, ◌∙◌, arith, eq-eqb, if◌then◌else◌, None, Some, option_map, is_some, Ok, cond, ap₂}
use Rattle.blif_write.proofs.Common.{All, IfSome, flat_map, list_any, bytes_eq, Option, All-head, All-tail, Sig, Clock, Edge, Gate, Latch, Parts, signal, signal_names, driven_names, IsNetlist, IsClockName, GateLine, LatchLine, signal_name}
use Rattle.std.specs.Prelude.{codes}
use Rattle.std.specs.List.{find, position_or_len, IsDistinct, AllByRecursion}
use Rattle.std.specs.Option.{option_or, option_and_then}
use Rattle.std.proofs.lemmas.List.Elements.{All-nil, All-cons, All-append, All-map, All-weaker}
use Rattle.std.proofs.lemmas.List.Folds.{list_any-append, list_any_at, map_fixed}
use Rattle.std.proofs.lemmas.Bool.{or_right, or_parts, false_from_ne_true, both_ways}
use Rattle.cyc_base.proofs.ListLemmas.{map-map}
use Rattle.cyc_base.proofs.NameLemmas.{bytes_eq-true}
use Rattle.netlist.specs.Netlists.{sig_eq, IsSignal}
use Rattle.netlist.proofs.NameLemmas.{length-signal_names}
use Rattle.flatten.specs.declared.fault.FlatFault.{FlatFault}
use Rattle.flatten.specs.declared.fault.FlatFault.TheVariants.{DeclaredTwice, DrivenTwice, Undriven, BadClock, ClockRead}
use Rattle.flatten.specs.Instances.{is_among}
use Rattle.flatten.specs.Linking.{first_twice, own_clocks, latch_outputs, gate_outputs, drivers, reads, has_control, first_control, edge_eq, is_fitting, has_bad_control, link_fault, signal_list, sig_of, latch_with, gate_with, netlist_by, linked}
use Rattle.flatten.proofs.Names.{bytes_refl, bytes_sym}
use Rattle.flatten.proofs.Libraries.{distinct_fresh, none_old}
use Rattle.blif_write.proofs.NameLemmas.{driven_any}
use Rattle.blif_write.proofs.Said.{control_if, clock_names, latch_of_text, gate_of_text, model_of_text}
use Rattle.blif_write.proofs.Flattened.{lines_of_text}
use Rattle.std.proofs.lemmas.List.Sums.{position_or_len_is}
use Rattle.std.proofs.lemmas.Map.Keys.{apart_from_distinct, IsDistinct-from_apart}
use Rattle.std.proofs.lemmas.List.{get_or_append_left, length-append}

-- Names that differ.

once : (names : List (List ℕ)) → IsDistinct bytes_eq names → first_twice names ≡ None
once names d = distinct_fresh [] names (none_old names) d

distinct_front : (xs ys : List (List ℕ)) → IsDistinct bytes_eq (xs ++ ys) → IsDistinct bytes_eq xs
distinct_front xs ys d =
    IsDistinct-from_apart bytes_eq xs (λ i j e before l.
    let n = length-append xs ys in
    sym (ap₂ bytes_eq (get_or_append_left xs ys e i (omega arith)) (get_or_append_left xs ys e j l)) ∙ apart_from_distinct bytes_eq (xs ++ ys) i j e d before (omega arith))

each_apart : (name : List ℕ) (names : List (List ℕ)) → is_among names name ≡ false → AllByRecursion (λ y. bytes_eq name y ≡ false) names
each_apart name [] e = tt
each_apart name (other ∷ names) e = grind (arith, or_parts (bytes_eq name other) (is_among names name) e, each_apart name names)

-- a name that is none of these may stand anywhere among them
put_in : (name : List ℕ) (xs ys : List (List ℕ)) → IsDistinct bytes_eq (xs ++ ys) → is_among xs name ≡ false → is_among ys name ≡ false
    → IsDistinct bytes_eq (xs ++ (name ∷ ys))
unfolding IsDistinct
put_in name [] ys d no_x no_y = (each_apart name ys no_y, d)
put_in name (x ∷ xs) ys d no_x no_y =
    let both = or_parts (bytes_eq name x) (is_among xs name) no_x in
    (longer xs d.0 (bytes_sym x name ∙ both.0), put_in name xs ys d.1 both.1 no_y)
  where
    longer : (zs : List (List ℕ)) → AllByRecursion (λ y. bytes_eq x y ≡ false) (zs ++ ys) → bytes_eq x name ≡ false
        → AllByRecursion (λ y. bytes_eq x y ≡ false) (zs ++ (name ∷ ys))
    longer [] a e = (e, a)
    longer (z ∷ zs) a e = (a.0, longer zs a.1 e)

-- The place of a name among names that differ.

pub place_of : (names : List (List ℕ)) (i : ℕ) → IsDistinct bytes_eq names → i < length names → position_or_len (bytes_eq (get_or names i [])) names ≡ i
place_of names i d l =
    let name = get_or names i [] in
    grind (arith, position_or_len_is (bytes_eq name) names i [], bytes_sym name, apart_from_distinct bytes_eq names, bytes_refl name)

among_at : (names : List (List ℕ)) (i : ℕ) → i < length names → is_among names (get_or names i []) ≡ true
among_at names i l = list_any_at (bytes_eq (get_or names i [])) names i [] l (bytes_refl (get_or names i []))

-- The signals of a netlist and their names.

map_all : {X : Type 0} (P : X → Type 0) (f : X → X) → ((x : X) → P x → f x ≡ x) → (xs : List X) → All P xs → map f xs ≡ xs
map_all P f same xs each = map_fixed f xs (All-weaker P (λ x. f x ≡ x) same xs each)

driven_are : (net : Parts) → latch_outputs (lines_of_text net) ++ gate_outputs (lines_of_text net) ≡ driven_names net
driven_are net = grind (arith, map-map)

signals_are : (net : Parts) → signal_list (model_of_text net) (lines_of_text net) ≡ signal_names net
signals_are net = ap (λ names. net.inputs ++ names) (driven_are net)

sig_same : (net : Parts) → IsNetlist net → (s : Sig) → IsSignal net s → sig_of (signal_names net) (signal_name net s) ≡ s
sig_same net valid s is = ap signal (place_of (signal_names net) s.0 valid.names_differ (omega (arith, is, length-signal_names net)))

sigs_same : (net : Parts) → IsNetlist net → (sigs : List Sig) → All (IsSignal net) sigs → map (sig_of (signal_names net)) (map (signal_name net) sigs) ≡ sigs
sigs_same net valid sigs each = grind (arith, map-map (sig_of (signal_names net)) (signal_name net) sigs, map_all (IsSignal net), sig_same net valid)

-- The clock.

abbrev ClockFits : Parts → Option Clock → Type 0
ClockFits net clock = IfSome clock (λ clock. IsClockName net clock.name)

no_clocks : (net : Parts) (clock : Option Clock) → own_clocks (record { name = net.name; inputs = net.inputs; outputs = []; clocks = clock_names net clock; body = [] }) ≡ clock_names net clock
no_clocks net clock = grind arith

clocks_are : (net : Parts) → own_clocks (model_of_text net) ≡ clock_names net net.clock
clocks_are net = no_clocks net net.clock

drivers_are : (net : Parts) → drivers (model_of_text net) (lines_of_text net) ≡ net.inputs ++ (clock_names net net.clock ++ driven_names net)
drivers_are net = grind (arith, clocks_are net, driven_are net)

-- with the clock among them the names still differ, and none but an input has its name
with_clock : (net : Parts) (clock : Option Clock) → IsNetlist net → ClockFits net clock → IsDistinct bytes_eq (net.inputs ++ (clock_names net clock ++ driven_names net))
with_clock net clock valid fits = grind (arith, put_in, driven_any)

no_signal : (net : Parts) (clock : Option Clock) (name : List ℕ) → ClockFits net clock → is_among (signal_names net) name ≡ true
    → is_among (clock_names net clock) name ≡ false
no_signal net None name fits among = refl
no_signal net (Some clock) name fits among = by (is_among net.inputs clock.name) refl
  where
    apart : is_among net.inputs clock.name ≡ false → bytes_eq name clock.name ≡ false
    apart e =
        false_from_ne_true _ (λ same.
        let is : name ≡ clock.name = bytes_eq-true name clock.name same in
        let split = list_any-append (bytes_eq clock.name) net.inputs (driven_names net) in
        let none : is_among (signal_names net) clock.name ≡ false = split ∙ ap (λ b. b || is_among (driven_names net) clock.name) e ∙ driven_any net clock.name ∙ fits.undriven in
        both_ways (is_among (signal_names net) clock.name) none (ap (is_among (signal_names net)) (sym is) ∙ among))

    by : (t : Bool) → is_among net.inputs clock.name ≡ t → is_among (if t then [] else clock.name ∷ []) name ≡ false
    by true e = refl
    by false e = ap (λ b. b || false) (apart e)

-- What is read.

abbrev IsRead : Parts → List ℕ → Type 0
IsRead net name = is_among (signal_names net) name ≡ true

read_signal : (net : Parts) (s : Sig) → IsSignal net s → IsRead net (signal_name net s)
read_signal net s is = among_at (signal_names net) s.0 (omega (arith, is, length-signal_names net))

All-mapped : {X Y : Type 0} (P : X → Type 0) (Q : Y → Type 0) (f : X → Y) → ((x : X) → P x → Q (f x)) → (xs : List X) → All P xs → All Q (map f xs)
All-mapped P Q f gives xs each = All-map Q f xs (All-weaker P (λ x. Q (f x)) gives xs each)

sources_read : (net : Parts) (ls : List Latch) → All (λ latch. IsSignal net latch.from) ls
    → All (IsRead net) (map (λ (l : LatchLine). l.from) (map (latch_of_text net) ls))
sources_read net ls each =
    All-map (IsRead net) (λ (l : LatchLine). l.from) (map (latch_of_text net) ls)
    (All-mapped (λ (latch : Latch). IsSignal net latch.from) (λ l. IsRead net l.from) (latch_of_text net) (λ latch is. read_signal net latch.from is) ls each)

pins_read : (net : Parts) (gs : List Gate) → All (λ gate. All (IsSignal net) gate.pins) gs
    → All (IsRead net) (flat_map (λ (g : GateLine). g.pins) (map (gate_of_text net) gs))
pins_read net [] each = All-nil (IsRead net)
pins_read net (gate ∷ gs) each =
    let G = λ (gate : Gate). All (IsSignal net) gate.pins in
    All-append (IsRead net) (map (signal_name net) gate.pins) _
    (All-mapped (IsSignal net) (IsRead net) (signal_name net) (read_signal net) gate.pins (All-head G gate gs each))
    (pins_read net gs (All-tail G gate gs each))

all_read : (net : Parts) → IsNetlist net → All (IsRead net) (reads (model_of_text net) (lines_of_text net))
all_read net valid =
    All-append (IsRead net) (map (signal_name net) net.outputs) _
    (All-mapped (IsSignal net) (IsRead net) (signal_name net) (read_signal net) net.outputs valid.outputs)
    (All-append (IsRead net) _ _ (sources_read net net.latches valid.sources) (pins_read net net.gates valid.pins))

none_passes : {X : Type 0} (P : X → Type 0) (p : X → Bool) → ((x : X) → P x → p x ≡ false) → (xs : List X) → All P xs → find p xs ≡ None
none_passes P p fails [] each = refl
none_passes P p fails (x ∷ xs) each = grind (arith, All-head P x xs each, none_passes P p fails xs (All-tail P x xs each), All-tail P x xs each)

among_more : (xs ys zs : List (List ℕ)) (name : List ℕ) → is_among (xs ++ zs) name ≡ true → is_among (xs ++ (ys ++ zs)) name ≡ true
among_more xs ys zs name e =
    list_any-append (bytes_eq name) xs (ys ++ zs)
    ∙ ap (λ b. is_among xs name || b) (list_any-append (bytes_eq name) ys zs)
    ∙ by (is_among xs name) (is_among ys name) (is_among zs name) (sym (list_any-append (bytes_eq name) xs zs) ∙ e)
  where
    by : (a b c : Bool) → (a || c) ≡ true → (a || (b || c)) ≡ true
    by a b c e = grind arith

-- Outputs differ by name.

sigs_apart : (net : Parts) → IsNetlist net → (a b : Sig) → IsSignal net a → IsSignal net b → sig_eq a b ≡ false
    → bytes_eq (signal_name net a) (signal_name net b) ≡ false
sigs_apart net valid a b is_a is_b differ =
    false_from_ne_true _ (λ e.
    let same : signal_name net a ≡ signal_name net b = bytes_eq-true _ _ e in
    let is : a ≡ b = sym (sig_same net valid a is_a) ∙ ap (sig_of (signal_names net)) same ∙ sig_same net valid b is_b in
    both_ways (sig_eq a b) differ (ap (λ s. sig_eq s b) is ∙ eq-eqb b.0 b.0 refl))

outputs_apart : (net : Parts) → IsNetlist net → (a : Sig) (sigs : List Sig) → IsSignal net a → All (IsSignal net) sigs
    → AllByRecursion (λ b. sig_eq a b ≡ false) sigs → AllByRecursion (λ name. bytes_eq (signal_name net a) name ≡ false) (map (signal_name net) sigs)
outputs_apart net valid a [] is each apart = tt
outputs_apart net valid a (b ∷ sigs) is each apart =
    grind (arith, sigs_apart net valid a b is (All-head (IsSignal net) b sigs each) apart.0, All-head (IsSignal net) b sigs each, outputs_apart net valid a sigs is (All-tail (IsSignal net) b sigs each) apart.1, All-tail (IsSignal net) b sigs each)

outputs_distinct : (net : Parts) → IsNetlist net → (sigs : List Sig) → All (IsSignal net) sigs → IsDistinct sig_eq sigs
    → IsDistinct bytes_eq (map (signal_name net) sigs)
unfolding IsDistinct
outputs_distinct net valid [] each d = tt
outputs_distinct net valid (a ∷ sigs) each d =
    grind (arith, outputs_apart net valid a sigs (All-head (IsSignal net) a sigs each) (All-tail (IsSignal net) a sigs each) d.0, All-head (IsSignal net) a sigs each, All-tail (IsSignal net) a sigs each, outputs_distinct net valid sigs (All-tail (IsSignal net) a sigs each) d.1)

-- The controls are all the clock.

unclocked : (clock : Option Clock) (clocked : Bool) → clocked ≡ false → control_if clock clocked ≡ None
unclocked clock clocked e = grind arith

controlled : (the : Option Clock) (clock : Clock) (clocked : Bool) → the ≡ Some clock → clocked ≡ true → control_if the clocked ≡ Some clock
controlled the clock clocked e f = rw (e, f) refl

module _ (line : LatchLine) (latches : List LatchLine) where
  first_here : (clock : Clock) → line.control ≡ Some clock → first_control (line ∷ latches) ≡ Some clock
  first_here clock e = grind arith

  first_later : line.control ≡ None → first_control (line ∷ latches) ≡ first_control latches
  first_later e = ap (λ t. option_and_then (λ (l : LatchLine). l.control) (cond t (Some line) (find has_control latches))) (ap is_some e)

first_is : (net : Parts) (clock : Clock) (ls : List Latch) → net.clock ≡ Some clock → list_any (λ latch. latch.clocked) ls ≡ true
    → first_control (map (latch_of_text net) ls) ≡ Some clock
first_is net clock [] e some = cc
first_is net clock (latch ∷ ls) e some = grind (arith, first_is net clock ls e, first_here, controlled net.clock clock, first_later, unclocked net.clock)

none_first : (net : Parts) (ls : List Latch) → net.clock ≡ None → first_control (map (latch_of_text net) ls) ≡ None
none_first net [] e = refl
none_first net (latch ∷ ls) e = grind (arith, first_later (latch_of_text net latch) (map (latch_of_text net) ls), none_first net ls e)

control_is : (net : Parts) → IsNetlist net → first_control (map (latch_of_text net) net.latches) ≡ net.clock
control_is net valid = grind (arith, none_first net net.latches, first_is net)

fitting : (net : Parts) (clock : Clock) → net.clock ≡ Some clock → IsClockName net clock.name → is_fitting (model_of_text net) clock clock ≡ true
fitting net clock e is =
    all_true (not (bytes_eq clock.name (codes "NIL"))) (is_among net.inputs clock.name || is_among (clock_names net net.clock) clock.name) (edge_eq clock.edge clock.edge) (bytes_eq clock.name clock.name)
    (ap not (false_from_ne_true _ (λ same. is.named (bytes_eq-true clock.name (codes "NIL") same))))
    (ap (λ the. is_among net.inputs clock.name || is_among (clock_names net the) clock.name) e ∙ either (is_among net.inputs clock.name))
    (same_edge clock.edge)
    (bytes_refl clock.name)
  where
    all_true : (a b c d : Bool) → a ≡ true → b ≡ true → c ≡ true → d ≡ true → ((a && b) && c && d) ≡ true
    all_true a b c d e f g h = rw (e, f, g, h) refl

    either : (t : Bool) → (t || is_among (if t then [] else clock.name ∷ []) clock.name) ≡ true
    either t = grind (arith, bytes_refl)

    same_edge : (edge : Edge) → edge_eq edge edge ≡ true
    same_edge edge = grind arith

good_control : (net : Parts) (latch : Latch) → ClockFits net net.clock → has_bad_control (model_of_text net) net.clock (latch_of_text net latch) ≡ false
good_control net latch fits = grind (arith, fitting net)

good_controls : (net : Parts) (ls : List Latch) → ClockFits net net.clock → find (has_bad_control (model_of_text net) net.clock) (map (latch_of_text net) ls) ≡ None
good_controls net [] fits = refl
good_controls net (latch ∷ ls) fits = grind (arith, good_control net latch, good_controls net ls)

-- There is no fault.

all_none : (a b c d e : Option FlatFault) → a ≡ None → b ≡ None → c ≡ None → d ≡ None → e ≡ None → option_or (option_or a b) (option_or (option_or c d) e) ≡ None
all_none a b c d e p q r s t = rw (p, q, r, s, t) refl

no_link_fault : (net : Parts) → IsNetlist net → link_fault (model_of_text net) (lines_of_text net) ≡ None
no_link_fault net valid =
    let top = model_of_text net in
    let lines = lines_of_text net in
    let D = drivers top lines in
    let fails : (name : List ℕ) → IsRead net name → not (is_among D name) ≡ false = λ name is.
    ap not (ap (λ names. is_among names name) (drivers_are net) ∙ among_more net.inputs (clock_names net net.clock) (driven_names net) name is) in
    let no_clock : (name : List ℕ) → IsRead net name → is_among (own_clocks top) name ≡ false = λ name is.
    ap (λ names. is_among names name) (clocks_are net) ∙ no_signal net net.clock name valid.clock is in
    all_none _ _ _ _ _
    (ap (option_map DeclaredTwice)
    (both _ _ (once net.inputs (distinct_front net.inputs (driven_names net) valid.names_differ))
    (once (map (signal_name net) net.outputs) (outputs_distinct net valid net.outputs valid.outputs valid.outputs_differ))))
    (ap (option_map DrivenTwice) (ap first_twice (drivers_are net) ∙ once _ (with_clock net net.clock valid valid.clock)))
    (ap (option_map Undriven) (none_passes (IsRead net) (λ name. not (is_among D name)) fails (reads top lines) (all_read net valid)))
    (ap (option_map (λ (l : LatchLine). BadClock l.output))
    (ap (λ first. find (has_bad_control top first) lines.latches) (control_is net valid) ∙ good_controls net net.latches valid.clock))
    (ap (option_map ClockRead) (none_passes (IsRead net) (is_among (own_clocks top)) no_clock (reads top lines) (all_read net valid)))
  where
    both : (a b : Option (List ℕ)) → a ≡ None → b ≡ None → option_or a b ≡ None
    both a b p q = rw (p, q) refl

-- The netlist is linked again.

all_clocked : (some : Bool) (ls : List Latch) → (list_any (λ latch. latch.clocked) ls ≡ true → some ≡ true)
    → All (λ latch. latch.clocked ≡ true → some ≡ true) ls
all_clocked some [] h = All-nil (λ (latch : Latch). latch.clocked ≡ true → some ≡ true)
all_clocked some (latch ∷ ls) h = grind (arith, All-cons, all_clocked some ls, or_right)

still_clocked : (clock : Option Clock) (clocked : Bool) → (clocked ≡ true → is_some clock ≡ true) → is_some (control_if clock clocked) ≡ clocked
still_clocked clock clocked h = grind arith

record IsLatchOf (net : Parts) (latch : Latch) : Type 0 where
  from : IsSignal net latch.from
  clocked : latch.clocked ≡ true → is_some net.clock ≡ true

latch_again : (net : Parts) → IsNetlist net → (latch : Latch) → IsLatchOf net latch
    → latch_with (sig_of (signal_names net)) (latch_of_text net latch) ≡ latch
latch_again net valid latch is = rw (sig_same net valid latch.from is.from, still_clocked net.clock latch.clocked is.clocked) refl

gate_again : (net : Parts) → IsNetlist net → (gate : Gate) → All (IsSignal net) gate.pins
    → gate_with (sig_of (signal_names net)) (gate_of_text net gate) ≡ gate
gate_again net valid gate is = rw (sigs_same net valid gate.pins is) refl

linked_again : (net : Parts) → IsNetlist net → netlist_by (sig_of (signal_names net)) (model_of_text net) (lines_of_text net) ≡ net
linked_again net valid =
    let sig = sig_of (signal_names net) in
    let clocked = all_clocked (is_some net.clock) net.latches (λ e. sym valid.clocked ∙ e) in
    let each : All (IsLatchOf net) net.latches = λ k d l. record { from = valid.sources k d l; clocked = clocked k d l } in
    let latches : map (latch_with sig) (map (latch_of_text net) net.latches) ≡ net.latches =
    map-map (latch_with sig) (latch_of_text net) net.latches
    ∙ map_all (IsLatchOf net) (λ latch. latch_with sig (latch_of_text net latch)) (latch_again net valid) net.latches each in
    let gates : map (gate_with sig) (map (gate_of_text net) net.gates) ≡ net.gates =
    map-map (gate_with sig) (gate_of_text net) net.gates
    ∙ map_all (λ (gate : Gate). All (IsSignal net) gate.pins) (λ gate. gate_with sig (gate_of_text net gate)) (gate_again net valid) net.gates valid.pins in
    rw (control_is net valid, latches, gates, sigs_same net valid net.outputs valid.outputs) refl

pub lines_link : (net : Parts) → IsNetlist net → linked (model_of_text net) (lines_of_text net) ≡ Ok net
lines_link net valid = grind (arith, no_link_fault net valid, signals_are net, linked_again net valid)
