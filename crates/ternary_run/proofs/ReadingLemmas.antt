-- The pins that read a signal stand together, and all are listed.
use Rattle.std.proofs.Common.{◌≡◌, ◌⊎◌, inr, ℕ, zero, suc, ◌<◌, ◌≤◌, ◌+◌, ◌==◌, Bool, true, false, List, [], ◌∷◌, ◌++◌, length, take, drop, map, get_or, set, nat_lt, nat_le, refl, ap, sym, ◌∙◌, arith, add-one}
use Rattle.std.proofs.lemmas.Bool.{cases_eq, eq-eqb}
use Rattle.std.proofs.lemmas.Bool.Decides.{nat_tests}
use Rattle.std.proofs.lemmas.List.{get_or-drop, get_or-set_other, length-drop}
use Rattle.std.specs.List.{All, Contains, filter, slice_get, AllWithin}
use Rattle.std.specs.List.Sorted.{IsPartitionPoint}
use Rattle.std.specs.Prelude.{Some}
use Rattle.std.proofs.lemmas.List.Elements.{All-append, All-filter, All-map, All-nil, Contains-append_left, Contains-append_right}
use Rattle.std.proofs.lemmas.List.Sorted.{All-permutation, Contains-permutation}
use Rattle.cyc_base.specs.declared.sig.Sig.{Sig}
use Rattle.cyc_base.specs.declared.trit.Trit.{Trit}
use Rattle.cyc_base.proofs.ListLemmas.{Contains-here, Contains-there, Contains-map, Contains-filter, drop-get}
use Rattle.netlist.specs.declared.parts.Gate.{Gate}
use Rattle.netlist.specs.declared.parts.Parts.{Parts}
use Rattle.netlist.specs.Netlists.{gate_at, no_gate}
use Rattle.netlist.specs.Fixpoint.{wire}
use Rattle.ternary_run.specs.declared.fanout.Read.{Read}
use Rattle.ternary_run.specs.Reading.{reads_of_pins, reads_from, reads, reads_signal, readers_of, IsFanoutOf}

pub reads_from-drop : (gates : List Gate) (n : ℕ) (gate : Gate) → slice_get gates n ≡ Some gate → reads_from n (drop n gates) ≡ reads_of_pins n gate.pins ++ reads_from (n + 1) (drop (n + 1) gates)
reads_from-drop gates n gate e = rw (drop-get gates n gate e, add-one) refl

-- where the test fails at each element up to a, and from c elements later on, and holds in between
filter-front : {A : Type 0} (p : A → Bool) (xs : List A) (a : ℕ) → AllWithin (λ x. p x ≡ false) xs 0 a → filter p xs ≡ filter p (drop a xs)
filter-front p xs zero h = refl
filter-front p [] (suc a) h = refl
filter-front p (x ∷ xs) (suc a) h =
    let out : p x ≡ false = h zero x (omega arith) (omega arith) in
    rw out (filter-front p xs a (λ k d low high. h (suc k) d (omega arith) (omega arith)))

filter-back : {A : Type 0} (p : A → Bool) (xs : List A) (c : ℕ) → c ≤ length xs → AllWithin (λ x. p x ≡ true) xs 0 c → AllWithin (λ x. p x ≡ false) xs c (length xs) → filter p xs ≡ take c xs
filter-back p [] zero l h k = refl
filter-back p [] (suc c) l h k = absurd (omega arith)
filter-back p (x ∷ xs) zero l h k =
    let out : p x ≡ false = k zero x (omega arith) (omega arith) in
    rw out (filter-back p xs zero (omega arith) (λ j d low high. absurd (omega arith)) (λ j d low high. k (suc j) d (omega arith) (omega arith)))
filter-back p (x ∷ xs) (suc c) l h k =
    let in' : p x ≡ true = h zero x (omega arith) (omega arith) in
    rw in' (ap (λ ys. x ∷ ys)
    (filter-back p xs c (omega arith) (λ j d low high. h (suc j) d (omega arith) (omega arith)) (λ j d low high. k (suc j) d (omega arith) (omega arith))))

eq_from_tests : (a s : ℕ) → nat_lt a s ≡ false → nat_le a s ≡ true → (a == s) ≡ true
eq_from_tests a s h k = grind (arith, nat_tests)

ne_from_below : (a s : ℕ) → nat_lt a s ≡ true → (a == s) ≡ false
ne_from_below a s h = grind (arith, nat_tests)

ne_from_above : (a s : ℕ) → nat_le a s ≡ false → (a == s) ≡ false
ne_from_above a s h = grind (arith, nat_tests)

-- the pins from the first that reads no lower signal up to the first that reads a higher one
reads_between : (s : Sig) (xs : List Read) (a c : ℕ) → c ≤ length (drop a xs) →
    IsPartitionPoint (λ r. nat_lt r.signal.0 s.0 ≡ true) (λ r. nat_lt r.signal.0 s.0 ≡ false) xs a →
    IsPartitionPoint (λ r. nat_le r.signal.0 s.0 ≡ true) (λ r. nat_le r.signal.0 s.0 ≡ false) (drop a xs) c →
    take c (drop a xs) ≡ filter (reads_signal s) xs
reads_between s xs a c l first last =
    let at_least : AllWithin (λ r. nat_lt r.signal.0 s.0 ≡ false) (drop a xs) 0 (length (drop a xs)) =
    λ k d low high. rw get_or-drop (first.1 (a + k) d (omega arith) (omega (arith, length-drop a xs))) in
    let front : filter (reads_signal s) xs ≡ filter (reads_signal s) (drop a xs) =
    filter-front (reads_signal s) xs a (λ k d low high. ne_from_below _ _ (first.0 k d low high)) in
    let back : filter (reads_signal s) (drop a xs) ≡ take c (drop a xs) =
    filter-back (reads_signal s) (drop a xs) c l
    (λ k d low high. eq_from_tests _ _ (at_least k d low (omega arith)) (last.0 k d low high))
    (λ k d low high. ne_from_above _ _ (last.1 k d low high)) in
    sym (front ∙ back)

pub reads_between_rest : (s : Sig) (xs : List Read) (a c : ℕ) (rest : List Read) → rest ≡ drop a xs → c ≤ length rest →
    IsPartitionPoint (λ r. nat_lt r.signal.0 s.0 ≡ true) (λ r. nat_lt r.signal.0 s.0 ≡ false) xs a →
    IsPartitionPoint (λ r. nat_le r.signal.0 s.0 ≡ true) (λ r. nat_le r.signal.0 s.0 ≡ false) rest c →
    take c rest ≡ filter (reads_signal s) xs
reads_between_rest s xs a c rest e l first last = ap (take c) e ∙ reads_between s xs a c (rw e at l) first (rw e at last)

-- each pin of a gate is listed
reads_from-contain : (gates : List Gate) (n k : ℕ) (s : Sig) → k < length gates → Contains (get_or gates k no_gate).pins s → Contains (reads_from n gates) (record { signal = s; gate = n + k })
reads_from-contain [] n k s l h = absurd (omega arith)
reads_from-contain (gate ∷ gates) n zero s l h =
    let e : n + zero ≡ n = omega arith in
    rw e
    (Contains-append_left (reads_of_pins n gate.pins) (reads_from (n + 1) gates) (record { signal = s; gate = n })
    (Contains-map (λ (p : Sig). let read : Read = record { signal = p; gate = n } in read) gate.pins s h))
reads_from-contain (gate ∷ gates) n (suc k) s l h = grind (arith, Contains-append_right, reads_from-contain gates (n + 1) k s)

-- and so is its gate among the readers of the signal
pub readers_of-contain : (net : Parts) (list : List Read) (g : ℕ) (s : Sig) → IsFanoutOf net list → g < length net.gates → Contains (gate_at net g).pins s → Contains (readers_of list s) g
readers_of-contain net list g s all l h =
    let e : 0 + g ≡ g = omega arith in
    let read : Read = record { signal = s; gate = g } in
    let there : Contains (reads net) read = rw e at (reads_from-contain net.gates 0 g s l h) in
    Contains-map (λ (r : Read). r.gate) (filter (reads_signal s) list) read
    (Contains-filter (reads_signal s) list read (eq-eqb s.0 s.0 refl) (Contains-permutation (reads net) list read all.complete there))

-- no number is listed that is no gate's
reads_from-below : (gates : List Gate) (n m : ℕ) → n + length gates ≤ m → All (λ (r : Read). r.gate < m) (reads_from n gates)
reads_from-below [] n m l = All-nil (λ (r : Read). r.gate < m)
reads_from-below (gate ∷ gates) n m l =
    let here : n < m = omega arith in
    let P : Read → Type 0 = λ r. r.gate < m in
    grind (arith, All-append P (reads_of_pins n gate.pins) (reads_from (n + 1) gates), All-map P, reads_from-below gates (n + 1) m)

pub readers_of-below : (net : Parts) (list : List Read) (s : Sig) → IsFanoutOf net list → All (λ g. g < length net.gates) (readers_of list s)
readers_of-below net list s all =
    let P : Read → Type 0 = λ r. r.gate < length net.gates in
    All-map (λ g. g < length net.gates) (λ (r : Read). r.gate) (filter (reads_signal s) list)
    (All-filter (reads_signal s) P list
    (All-permutation P (reads net) list all.complete (reads_from-below net.gates 0 (length net.gates) (omega arith))))

pub readers_of-length : (list : List Read) (s : Sig) → length (readers_of list s) ≤ length list
readers_of-length [] s = omega arith
readers_of-length (r ∷ list) s = grind (arith, readers_of-length list s)

-- a value that a gate's pins do not read doesn't change what they read
pub reads_or_same : (pins : List Sig) (values : List Trit) (s : Sig) (x : Trit) →
    Contains pins s ⊎ (map (wire (set values s.0 x)) pins ≡ map (wire values) pins)
reads_or_same [] values s x = inr refl
reads_or_same (p ∷ pins) values s x = grind (arith, cases_eq, Contains-here, reads_or_same pins values s x, Contains-there, get_or-set_other)
