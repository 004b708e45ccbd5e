-- Rails of wires, and of what a gate reads.
use Rattle.std.proofs.Common.{◌≡◌, ◌≢◌, inl, inr, ◌⊎◌, ℕ, ◌+◌, ◌-◌, ◌<◌, Bool, List, [], ◌∷◌, length, map, take, get_or, set, refl, sym, ap, ◌∙◌, subst, arith, Contains}
use Rattle.fixpoint.proofs.Common.{cases_lt, cases_eq, take_more, get_or-map, get_or_append_left, length-append, ext_get_or, All-map, All-set, All, Arena, KeepsNodes, Sig, Trit, X, Rails, AreRailsOf, value_of, values_of, All-rails-kept, value_of-kept, Parts, fix, fix_gates, count, Cut, first_gate, gate_of, value_in, wire_of_gate, Vectors, unknown, rails_at, rails_read, AreWires, IsGateSet}
use Rattle.std.proofs.lemmas.List.{get_or_past, get_or-set_same, get_or-set_other, length-set, take-set-le}
use Rattle.std.proofs.lemmas.List.Elements.{Contains-append_left, Contains-push, Contains-push_cases}
use Rattle.std.specs.List.{slice_index_or, slice_set}
use Rattle.cyc_base.proofs.ListLemmas.{map-map}
use Rattle.bdd_store.specs.Arena.{den_within}
use Rattle.dual_rail.proofs.SurelyLemmas.{length-values}
use Rattle.netlist.proofs.FixpointLemmas.{length-steps}

-- ---- gates that are gone through in order

-- the next one, or one of those before
pub next-or-before : (order : List ℕ) (i m : ℕ) → i < length order → Contains (take (i + 1) order) m → Contains (take i order) m ⊎ (get_or order i 0 ≡ m)
next-or-before order i m less has = Contains-push_cases (take i order) (get_or order i 0) m (subst (λ (ns : List ℕ). Contains ns m) (take_more order i 0 less) has)

-- what is set for the next one, and what stays for those after it
pub set-taken : {T : Type 0} (P : ℕ → T → Type 0) (order : List ℕ) (xs : List T) (i : ℕ) (x none : T) → i < length order → get_or order i 0 < length xs
    → ((n : ℕ) → Contains (take i order) n → P n (get_or xs n none)) → P (get_or order i 0) x → (n : ℕ) → Contains (take (i + 1) order) n → P n (get_or (set xs (get_or order i 0) x) n none)
set-taken P order xs i x none inside room before here n has = grind (arith, cases_eq (get_or order i 0) n, get_or-set_same xs (get_or order i 0) x none room, get_or-set_other xs (get_or order i 0) n x none, next-or-before order i n inside has)

pub set-others : {T : Type 0} (order : List ℕ) (old xs : List T) (i : ℕ) (x none : T) → i < length order → ((n : ℕ) → ¬ Contains (take i order) n → get_or xs n none ≡ get_or old n none)
    → (n : ℕ) → ¬ Contains (take (i + 1) order) n → get_or (set xs (get_or order i 0) x) n none ≡ get_or old n none
set-others order old xs i x none inside others n =
    grind (arith, take_more order i 0 inside, get_or-set_other xs (get_or order i 0) n x none, Contains-push (take i order) (get_or order i 0), Contains-append_left (take i order) (get_or order i 0 ∷ []) n)

-- ---- rails

-- the rails of X are proper
pub unknown-rails : (a : Arena) → AreRailsOf a unknown
unfolding den_within
unknown-rails a = record { one = omega arith; zero = omega arith; proper = λ bits. refl }

pub unknown-value : (a : Arena) (bits : List Bool) → value_of a unknown bits ≡ X
unfolding den_within
unknown-value a bits = refl

pub rails_at-proper : (a : Arena) (rails : List Rails) → All (AreRailsOf a) rails → (s : ℕ) → AreRailsOf a (rails_at rails s)
rails_at-proper a rails all s = grind (arith, cases_lt s (length rails), get_or_past rails s unknown, unknown-rails a)

pub rails_read-proper : (net : Parts) (cut : Cut) (a : Arena) (before rails : List Rails) → AreWires net a before rails → (pin : Sig) → AreRailsOf a (rails_read net cut before rails pin)
rails_read-proper net cut a before rails wires pin = grind (arith, rails_at-proper a before wires.before_proper (gate_of net pin), rails_at-proper a rails wires.proper pin.0)

-- the rails of a gate's pins, however they are read
pub pins-proper : (a : Arena) (read : Sig → Rails) (pins : List Sig) (list : List Rails) → ((pin : Sig) → AreRailsOf a (read pin)) → list ≡ map read pins → All (AreRailsOf a) list
pins-proper a read pins list proper is = subst (All (AreRailsOf a)) (sym is) (All-map (AreRailsOf a) read pins (λ k d less. proper (slice_index_or pins k d)))

pub pins-values : (a : Arena) (read : Sig → Rails) (pins : List Sig) (list : List Rails) (bits : List Bool) → list ≡ map read pins → values_of a list bits ≡ map (λ pin. value_of a (read pin) bits) pins
pins-values a read pins list bits is = ap (λ (l : List Rails). values_of a l bits) is ∙ map-map {C = Trit} (λ r. value_of a r bits) read pins

pub AreWires-set : {net : Parts} {cut : Cut} {s t : Arena} {before rails after : List Rails} (gate : ℕ) → KeepsNodes s t → AreWires net s before rails → IsGateSet net cut s t before rails after gate → AreWires net t before after
AreWires-set {net} {cut} {s} {t} {before} {rails} {after} gate k is done =
    grind (arith, length-set rails (first_gate net + gate) done.made, All-set (AreRailsOf t) rails (first_gate net + gate) done.made done.proper (All-rails-kept k rails is.proper), All-rails-kept k rails is.proper, All-rails-kept k before is.before_proper)

-- ---- one signal is set

-- it has its new rails
pub set-same : (a : Arena) (rails after : List Rails) (p : ℕ) (made : Rails) → after ≡ slice_set rails p made → p < length rails → (bits : List Bool) → value_of a (rails_at after p) bits ≡ value_of a made bits
set-same a rails after p made is less bits = ap (λ (r : List Rails). value_of a (rails_at r p) bits) is ∙ ap (λ (r : Rails). value_of a r bits) (get_or-set_same rails p made unknown less)

-- and another one has the value that it had
pub set-other : {s t : Arena} (rails after : List Rails) (p : ℕ) (made : Rails) → KeepsNodes s t → All (AreRailsOf s) rails → after ≡ slice_set rails p made →
    (m : ℕ) (bits : List Bool) → m ≢ p → value_of t (rails_at after m) bits ≡ value_of s (rails_at rails m) bits
set-other {s} {t} rails after p made keeps proper is m bits other = grind (arith, get_or-set_other rails p m made unknown other, value_of-kept keeps (rails_at rails m) (rails_at-proper s rails proper m) bits, rails_at-proper s rails proper m)

-- no input or latch is set with a gate
pub given-set : {net : Parts} {cut : Cut} {s t : Arena} {before rails after : List Rails} (gate : ℕ) → IsGateSet net cut s t before rails after gate → take (first_gate net) after ≡ take (first_gate net) rails
given-set {net} {rails = rails} gate done = ap (take (first_gate net)) done.is ∙ take-set-le (first_gate net) rails (first_gate net + gate) done.made (omega arith)

-- ---- when all gates stand at the fixpoint

pub values-fixed : (net : Parts) (a : Arena) (v : Vectors) (rails : List Rails) → length rails ≡ count net → ((bits : List Bool) → length (v bits) ≡ first_gate net) →
    ((s : ℕ) (bits : List Bool) → s < first_gate net → value_of a (rails_at rails s) bits ≡ value_in (v bits) s) →
    ((n : ℕ) (bits : List Bool) → n < length net.gates → value_of a (rails_at rails (first_gate net + n)) bits ≡ value_in (fix_gates net (v bits)) n) →
    (bits : List Bool) → values_of a rails bits ≡ fix net (v bits)
values-fixed net a v rails width vector given gates bits =
    let long : length (values_of a rails bits) ≡ length rails = length-values a rails bits in
    let vector_long = vector bits in
    let gates_long : length (fix_gates net (v bits)) ≡ length net.gates = length-steps net (v bits) (length net.gates) in
    let total : length (fix net (v bits)) ≡ length (v bits) + length (fix_gates net (v bits)) = length-append (v bits) (fix_gates net (v bits)) in
    ext_get_or X (values_of a rails bits) (fix net (v bits)) (omega (arith, long, width, vector_long, gates_long, total))
    (λ s less.
    let inside : s < length rails = omega (arith, less, long) in
    get_or-map (λ (r : Rails). value_of a r bits) rails s unknown X inside
    ∙ elim (cases_lt s (first_gate net)) [
      | inl low ↦ given s bits low ∙ sym (get_or_append_left (v bits) (fix_gates net (v bits)) X s (omega (arith, low, vector_long)))
      | inr high ↦
          let place : first_gate net + (s - first_gate net) ≡ s = omega (arith, high) in
          ap (λ (p : ℕ). value_of a (rails_at rails p) bits) (sym place)
          ∙ gates (s - first_gate net) bits (omega (arith, inside, width, high))
          ∙ sym (wire_of_gate (v bits) (fix_gates net (v bits)) (first_gate net) s vector_long high)
    ])
