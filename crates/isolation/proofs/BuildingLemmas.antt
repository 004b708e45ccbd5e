-- A small netlist while it is made.
use Rattle.std.proofs.Common.{◌≡◌, inl, inr, ℕ, ◌+◌, ◌-◌, ◌<◌, ◌≤◌, false, List, [], ◌∷◌, ◌++◌, length, map, take, get_or, if◌then◌else◌, eqb, Option, Some, None, Result, Err, IfOk, IsSome, refl, sym, ap, ap₂, ◌∙◌, subst, arith, Contains, true≢false}
use Rattle.isolation.proofs.Common.{cases_Bool, cases_lt, eqb-true, eq-eqb, get_or-map, get_or_default, get_or_append_left, length-map, map-append, All, list_any, IfSome, Sig, Gate, Parts, IsNetlist, count, signal, no_gate, gate_at, gate_sig, Blocks, AreBlocksOf, block_at, home_of, first_gate, gate_home, home_gate, origins, origin, gate_in, IsExcerpt, AreClosed, AreCopies, AreNumbersOf, IsLoopNetlist, Contains-get_or}
use Rattle.std.proofs.lemmas.List.{get_or_push, length_push, take_more, take_all}
use Rattle.std.proofs.lemmas.List.Elements.{Contains-append_left, Contains-push, Contains-push_cases, All-push}
use Rattle.std.specs.List.{position}
use Rattle.std.specs.Ordering.{nat_cmp}
use Rattle.std.specs.List.Sorted.{IsBinarySearchResult}
use Rattle.std.proofs.lemmas.List.Sorted.{searched}
use Rattle.std.proofs.lemmas.List.Folds.{list_any_at}
use Rattle.std.proofs.lemmas.List.Quantifiers.{position-Some}
use Rattle.std.proofs.lemmas.Map.Views.{Contains-from_any}
use Rattle.cyc_base.proofs.ListLemmas.{Contains-map}
use Rattle.netlist.proofs.Decisions.{none_found}
use Rattle.isolation.proofs.OriginLemmas.{origins-size, origin-wire, origin-gate}
use Rattle.loops.specs.Placing.{Rise}
use Rattle.isolation.specs.Excerpts.{IsRead, AreOnce}
use Rattle.isolation.specs.Building.{IsOutside, AreOutside, AreWires, IsAmong, AddWires, AreWiresOf, IsCopyOf, IsPlaceOf}

-- a gate is where its signal is
pub gate_there : (net : Parts) (gates : List ℕ) (s : Sig) → Contains (map (gate_sig net) gates) s → (first_gate net ≤ s.0) × Contains gates (s.0 - first_gate net)
gate_there net gates s c = grind (arith, length-map gates (gate_sig net), get_or-map (gate_sig net) gates c.0 0 s, get_or_default gates c.0 (s.0 - first_gate net) 0)

-- and back
pub there_gate : (net : Parts) (gates : List ℕ) (s : Sig) → first_gate net ≤ s.0 → Contains gates (s.0 - first_gate net) → Contains (map (gate_sig net) gates) s
there_gate net gates s above c = grind (arith, Contains-map (gate_sig net) gates (s.0 - first_gate net) c)

-- a gate of a block, by its signal
pub inside_block : (net : Parts) (blocks : Blocks) → AreBlocksOf net blocks → (place : ℕ) (s : Sig) → place < length blocks.list → Contains (map (gate_sig net) (block_at blocks place).gates) s →
    (first_gate net ≤ s.0) × (home_of blocks (s.0 - first_gate net) ≡ place)
inside_block net blocks are place s inside c = grind (arith, gate_there net (block_at blocks place).gates s c, gate_home net blocks are place (s.0 - first_gate net) inside)

pub block_inside : (net : Parts) (blocks : Blocks) → AreBlocksOf net blocks → (place : ℕ) (s : Sig) → s.0 < count net → first_gate net ≤ s.0 → home_of blocks (s.0 - first_gate net) ≡ place →
    Contains (map (gate_sig net) (block_at blocks place).gates) s
block_inside net blocks are place s within above home = grind (arith, there_gate net (block_at blocks place).gates s above, home_gate net blocks are (s.0 - first_gate net))

-- one more wire outside
pub outside_more : (net : Parts) (gates : List ℕ) (outside : List Sig) (s : Sig) → AreOutside net gates outside → IsOutside net gates s → AreOutside net gates (outside ++ s ∷ [])
outside_more net gates outside s are one t c = elim (cases_lt c.0 (length outside)) [
  | inl low ↦ are t (c.0, low, sym (get_or_append_left outside (s ∷ []) t c.0 low) ∙ c.2)
  | inr high ↦
      subst (IsOutside net gates) (sym (get_or_push outside s t c.0 (omega (arith, c.1, length_push outside s))) ∙ c.2) one
]

-- wires outside are read by gates, so they are signals
pub outside_within : (net : Parts) → IsNetlist net → (gates : List ℕ) → ((i : ℕ) → i < length gates → gate_in gates i < length net.gates) → (outside : List Sig) → AreOutside net gates outside →
    (k : ℕ) (d : Sig) → k < length outside → (get_or outside k d).0 < count net
outside_within net valid gates within outside are k d less =
    let s : Sig = get_or outside k d in
    let one = are (get_or outside k d) (Contains-get_or outside k d less) in
    let r = one.read in
    let b = valid.pins (gate_in gates r.place) no_gate (within r.place r.within) r.pin.0 (get_or outside k d) r.pin.1 in
    let e = ap (λ (q : Sig). q.0) r.pin.2 in
    omega (arith, b, e)

-- the netlist of a loop
pub loop_is : (net : Parts) (gates : List ℕ) (outside : List Sig) (small : Parts) → AreWires net gates outside → IsExcerpt net outside gates small → IsLoopNetlist net gates small
loop_is net gates outside small wires is = record { outside = outside; is = is; read = λ s c. (wires.are s c).read; once = wires.once }

-- what holds of all that is found
pub found_then : {E T : Type 0} {P Q : T → Type 0} (made : Result (Option T) E) → ((x : T) → P x → Q x) → IfOk made (λ found. IfSome found P) → IfOk made (λ found. IfSome found Q)
found_then made into is = grind arith

-- ---- the wires outside, pin by pin and gate by gate

-- one more wire, that isn't there
once_push : (xs : List Sig) (s : Sig) → AreOnce xs → (¬ Contains xs s) → AreOnce (xs ++ s ∷ [])
once_push xs s once new i j less within same =
    grind (arith, length_push xs s, get_or_append_left xs (s ∷ []) (signal 0) i, cases_lt j (length xs), get_or_append_left xs (s ∷ []) (signal 0) j, get_or_default xs i s (signal 0), get_or_push xs s (signal 0) j)

none_like : (xs : List Sig) (s : Sig) → list_any (λ (x : Sig). eqb s.0 x.0) xs ≡ false → ¬ Contains xs s
none_like xs s none c = grind (arith, true≢false, list_any_at, eq-eqb s.0 (get_or xs c.0 s).0)

among_more : (net : Parts) (gates : List ℕ) (old new : List Sig) → ((t : Sig) → Contains old t → Contains new t) → (s : Sig) → IsAmong net gates old s → IsAmong net gates new s
among_more net gates old new keeps s h = grind arith

-- none yet
pub adds_none : (net : Parts) (gates : List ℕ) (pins old : List Sig) → AreWires net gates old → AddWires net gates (take 0 pins) old old
adds_none net gates pins old wires = record { wires = wires; keeps = λ s c. c; adds = λ s c. (let l = c.1 in absurd (omega (arith, l))) }

-- the next pin's wire is among them
adds_next : (net : Parts) (gates : List ℕ) (pins start old new : List Sig) (i : ℕ) (d : Sig) → i < length pins → AddWires net gates (take i pins) start old → AreWires net gates new → ((t : Sig) → Contains old t → Contains new t) → IsAmong net gates new (get_or pins i d) →
    AddWires net gates (take (i + 1) pins) start new
adds_next net gates pins start old new i d less before wires keeps here = record {
  wires = wires;
  keeps = λ t c. keeps t (before.keeps t c);
  adds = λ t c.
      elim (Contains-push_cases (take i pins) (get_or pins i d) t (subst (λ xs. Contains xs t) (take_more pins i d less) c)) [
        | inl early ↦ among_more net gates old new keeps t (before.adds t early)
        | inr same ↦ subst (IsAmong net gates new) same here
      ];
}

-- a wire outside is added
pub adds_outside : (net : Parts) (gates : List ℕ) (pins start old new : List Sig) (i : ℕ) (d : Sig) → i < length pins → AddWires net gates (take i pins) start old →
    new ≡ (if list_any (λ (x : Sig). eqb (get_or pins i d).0 x.0) old then old else old ++ get_or pins i d ∷ []) → IsOutside net gates (get_or pins i d) → AddWires net gates (take (i + 1) pins) start new
adds_outside net gates pins start old new i d less before is one =
    elim (cases_Bool (list_any (λ (x : Sig). eqb (get_or pins i d).0 x.0) old)) [
      | inl there ↦
          let here = Contains-from_any {eq = λ (x y : Sig). eqb x.0 y.0} (λ x y e. ap signal (eqb-true x.0 y.0 e)) (get_or pins i d) old there in
          rw (is, there) (adds_next net gates pins start old old i d less before before.wires (λ t c. c) (inl here))
      | inr none ↦
          let wires : AreWires net gates (old ++ get_or pins i d ∷ []) = record {
            are = outside_more net gates old (get_or pins i d) before.wires.are one;
            once = once_push old (get_or pins i d) before.wires.once (none_like old (get_or pins i d) none);
          } in
          rw (is, none) (adds_next net gates pins start old (old ++ get_or pins i d ∷ []) i d less before wires (λ t c. Contains-append_left old (get_or pins i d ∷ []) t c) (inl (Contains-push old (get_or pins i d))))
    ]

-- a gate is there
pub adds_gate : (net : Parts) (gates : List ℕ) (pins start old new : List Sig) (i : ℕ) (d : Sig) → i < length pins → AddWires net gates (take i pins) start old → new ≡ old →
    Contains (map (gate_sig net) gates) (get_or pins i d) → AddWires net gates (take (i + 1) pins) start new
adds_gate net gates pins start old new i d less before is inside = grind (arith, adds_next net gates pins start old old i d less before before.wires)

pub adds_all : (net : Parts) (gates : List ℕ) (pins start new : List Sig) (i : ℕ) → length pins ≤ i → AddWires net gates (take i pins) start new → AddWires net gates pins start new
adds_all net gates pins start new i all = subst (λ xs. AddWires net gates xs start new) (take_all i pins all)

-- the pins of a gate of a block, whose gates are gone through
pins_at : (net : Parts) (block gates : List ℕ) (k d : ℕ) (pins : List Sig) → gates ≡ block → k < length gates → pins ≡ (gate_at net (get_or gates k d)).pins → (gate_at net (gate_in block k)).pins ≡ pins
pins_at net block gates k d pins same less are = ap (λ (n : ℕ). (gate_at net n).pins) (ap (λ (gs : List ℕ). get_or gs k 0) (sym same) ∙ get_or_default gates k 0 d less) ∙ sym are

pub wires_at : (net : Parts) (block gates : List ℕ) (k d : ℕ) (pins old new : List Sig) → gates ≡ block → k < length gates → pins ≡ (gate_at net (get_or gates k d)).pins → AreWiresOf net block k old → AddWires net block pins old new → AreWiresOf net block (k + 1) new
wires_at net block gates k d pins old new same less are before adds = record {
  wires = adds.wires;
  all = λ i early s c.
      elim (cases_lt i k) [
        | inl before_k ↦ among_more net block old new adds.keeps s (before.all i before_k s c)
        | inr late ↦
            let at : i ≡ k = omega (arith, early, late) in
            adds.adds s (subst (λ xs. Contains xs s) (ap (λ (n : ℕ). (gate_at net (gate_in block n)).pins) at ∙ pins_at net block gates k d pins same less are) c)
      ];
}

pub pin_at : (net : Parts) (block gates : List ℕ) (k d : ℕ) (pins : List Sig) → gates ≡ block → k < length gates → pins ≡ (gate_at net (get_or gates k d)).pins → All (IsRead net block) pins
pin_at net block gates k d pins same less are i e within = grind (arith, pins_at net block gates k d pins same less are, Contains-get_or pins i e within)

-- all that a gate of closed ones reads
pub read_all : (net : Parts) (gates : List ℕ) (outside : List Sig) (k d : ℕ) → k < length gates → AreClosed net gates outside → All (IsAmong net gates outside) (gate_at net (get_or gates k d)).pins
read_all net gates outside k d less closed =
    subst (λ (n : ℕ). All (IsAmong net gates outside) (gate_at net n).pins) (get_or_default gates k 0 d less)
    (λ j f inside. closed.read k less (get_or (gate_at net (gate_in gates k)).pins j f) (Contains-get_or (gate_at net (gate_in gates k)).pins j f inside))

-- an option that is both some and none
pub not_there : {X : Type 0} {o : Option X} → ((x : X) → o ≡ Some x → ⊥) → IsSome o → ⊥
not_there {o = None} none some = true≢false (sym some)
not_there {o = Some x} none some = none x refl

-- ---- places and numbers

-- what a search for a signal finds
pub found_place : (xs : List Sig) (s : Sig) (o : Option ℕ) → o ≡ position (λ x. eqb s.0 x.0) xs → IfSome o (IsPlaceOf xs s)
found_place xs s o is = grind (arith, position-Some, eqb-true)

pub found_some : (xs : List Sig) (s : Sig) (o : Option ℕ) → o ≡ position (λ x. eqb s.0 x.0) xs → Contains xs s → IsSome o
found_some xs s o is c = grind (arith, none_found, true≢false, eq-eqb)

-- a signal by its place: a wire outside, or a gate
pub place_outside : (net : Parts) (outside : List Sig) (gates : List ℕ) (s : Sig) (place : ℕ) → IsPlaceOf outside s place → IsPlaceOf (origins net outside gates) s place
place_outside net outside gates s place p = grind (arith, origins-size net outside gates, origin-wire net outside gates place s p.within)

pub place_gate : (net : Parts) (outside : List Sig) (gates : List ℕ) (s : Sig) (gate place number : ℕ) → s ≡ gate_sig net gate → IsPlaceOf gates gate place → number ≡ place + length outside → IsPlaceOf (origins net outside gates) s number
place_gate net outside gates s gate place number is p at =
    grind (arith, origins-size net outside gates, get_or_default (origins net outside gates) number s (signal 0), origin-gate net outside gates number place p.within, get_or_default gates place 0 gate p.within)

pub numbers_more : (signals pins numbers new : List Sig) (i : ℕ) (d n : Sig) → i < length pins → new ≡ numbers ++ n ∷ [] → AreNumbersOf signals (take i pins) numbers → IsPlaceOf signals (get_or pins i d) n.0 → AreNumbersOf signals (take (i + 1) pins) new
numbers_more signals pins numbers new i d n less is before place = rw is (record {
  are = map-append (origin signals) numbers (n ∷ [])
      ∙ ap₂ (λ xs x. xs ++ x ∷ []) before.are (get_or_default signals n.0 (signal 0) (get_or pins i d) place.within ∙ place.is)
      ∙ sym (take_more pins i d less);
  within = All-push (λ (t : Sig). t.0 < length signals) numbers n before.within place.within;
})

pub numbers_all : (signals pins numbers : List Sig) (i : ℕ) → length pins ≤ i → AreNumbersOf signals (take i pins) numbers → AreNumbersOf signals pins numbers
numbers_all signals pins numbers i all = subst (λ xs. AreNumbersOf signals xs numbers) (take_all i pins all)

-- a search in gates that rise finds what is there
pub search_none : (gates : List ℕ) (gate i : ℕ) → IsBinarySearchResult (λ y. nat_cmp y gate) gates (Err i) → Rise gates → Contains gates gate → ⊥
search_none gates gate i found rise c =
    let s = searched gates gate (Err i) found sorted in
    let at : get_or gates c.0 0 ≡ gate = get_or_default gates c.0 0 gate c.1 ∙ c.2 in
    elim (cases_lt c.0 i) [
      | inl low ↦ (let b = s.1 c.0 low in omega (arith, b, at))
      | inr high ↦ (let b = s.2 c.0 high c.1 in omega (arith, b, at))
    ]
  where
    sorted : (i j : ℕ) → i ≤ j → j < length gates → get_or gates i 0 ≤ get_or gates j 0
    sorted i j le less = elim (cases_lt i j) [
      | inl low ↦ (let r = rise i j low less in omega (arith, r))
      | inr high ↦ (let same : i ≡ j = omega (arith, le, high) in let e = ap (λ (n : ℕ). get_or gates n 0) same in omega (arith, e))
    ]

-- ---- the gates, copied one by one

pub copies_none : (net : Parts) (signals : List Sig) (gates : List ℕ) (made : List Gate) → made ≡ [] → AreCopies net signals gates made 0
copies_none net signals gates made none = grind arith

pub copies_more : (net : Parts) (signals : List Sig) (gates : List ℕ) (made new : List Gate) (n d : ℕ) (copy : Gate) → n < length gates → AreCopies net signals gates made n → IsCopyOf signals (gate_at net (get_or gates n d)) copy → new ≡ made ++ copy ∷ [] →
    AreCopies net signals gates new (n + 1)
copies_more net signals gates made new n d copy inside are one is = grind (arith, length_push made copy, cases_lt, get_or_append_left made (copy ∷ []) no_gate, get_or_default gates n d 0 inside, get_or_push made copy no_gate)
