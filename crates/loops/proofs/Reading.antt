-- Reading lists, wires and gates by number.
use Rattle.std.proofs.Common.{◌≡◌, inl, inr, ℕ, zero, suc, ◌+◌, ◌-◌, ◌<◌, ◌≤◌, Bool, true, false, if◌then◌else◌, List, [], ◌∷◌, ◌++◌, length, map, filter, get_or, refl, ap, ap₂, sym, ◌∙◌, subst, arith, Contains}
use borrow.Author.Count.{below_more}
use Rattle.loops.proofs.Common.{cases_Bool, length-map, length-range_with_len, get_or-range_with_len, range_with_len, Sig, Trit, X, Parts, gate_at, fix, fix_gates, Loops, first_gate, gate_of, in_loop_of}
use Rattle.std.proofs.lemmas.List.{get_or-append_right}
use Rattle.std.proofs.lemmas.List.FromFn.{fill_by_all}
use Rattle.cyc_base.proofs.ListLemmas.{Contains-cases, Contains-here, Contains-nothing, Contains-there}
use Rattle.cyc_base.specs.Values.{Below}
use Rattle.netlist.specs.Fixpoint.{gate_value}
use Rattle.netlist.proofs.FixpointLemmas.{fix_is_fixpoint, get_or-fix}

-- a choice among three
abbrev pub choice : Bool → Bool → Trit → Trit → Trit → Trit
choice b d x y z = if b then (if d then x else y) else z

pub choice_mono : (b d : Bool) (x y z x' y' z' : Trit) → Below x x' → Below y y' → Below z z' → Below (choice b d x y z) (choice b d x' y' z')
choice_mono b d x y z x' y' z' h k l = grind arith

pub choice_below : (b d : Bool) (x y z w : Trit) → (b ≡ true → d ≡ true → Below x w) → (b ≡ true → d ≡ false → Below y w) → (b ≡ false → Below z w) → Below (choice b d x y z) w
choice_below b d x y z w h k l = grind arith

pub choice_above : (b d : Bool) (x y z w : Trit) → (b ≡ true → d ≡ true → Below w x) → (b ≡ true → d ≡ false → Below w y) → (b ≡ false → Below w z) → Below w (choice b d x y z)
choice_above b d x y z w h k l = grind arith

pub choice_same : (b d : Bool) (x y z y' : Trit) → (b ≡ true → d ≡ false → y ≡ y') → choice b d x y z ≡ choice b d x y' z
choice_same b d x y z y' h = grind arith

-- what a gate's signal reads
pub wire_of_gate : (v s : List Trit) (first signal : ℕ) → length v ≡ first → first ≤ signal → get_or (v ++ s) signal X ≡ get_or s (signal - first) X
wire_of_gate v s first signal e l = get_or-append_right v s first signal X e l

pub in_loop_from : (net : Parts) (loops : Loops) (n : ℕ) (s : Sig) → in_loop_of net loops n s ≡ true → (first_gate net ≤ s.0) × (loops.same n (gate_of net s) ≡ true)
in_loop_from net loops n s e = grind arith

pub map_agree : {A B : Type 0} (f g : A → B) (xs : List A) → ((k : ℕ) (d : A) → k < length xs → f (get_or xs k d) ≡ g (get_or xs k d)) → map f xs ≡ map g xs
map_agree f g [] h = refl
map_agree f g (x ∷ xs) h =
    ap₂ (λ y ys. y ∷ ys) (h zero x (omega arith)) (map_agree f g xs (λ k d l. h (suc k) d (omega arith)))

-- what holds of the first k elements and of the next one
pub each_more : {A : Type 0} (P : A → Type 0) (xs : List A) (k : ℕ) (x : A) → ((d : A) → get_or xs k d ≡ x) → P x → ((j : ℕ) (d : A) → j < k → P (get_or xs j d)) → (j : ℕ) (d : A) → j < k + 1 → P (get_or xs j d)
each_more {A = A} P xs k x at here before j d l = below_more (λ i. (e : A) → P (get_or xs i e)) k (λ i m e. before i e m) (λ e. rw (at e) here) j l d

pub fix_by_place : (net : Parts) (v : List Trit) → fix_gates net v ≡ map (λ n. gate_value (fix net v) (gate_at net n)) (range_with_len 0 (length net.gates))
fix_by_place net v =
    fill_by_all (λ n. gate_value (fix net v) (gate_at net n)) (fix_gates net v) (length net.gates) X
    (ap length (sym (fix_is_fixpoint net v)) ∙ length-map net.gates (gate_value (fix net v)))
    (λ n l. get_or-fix net v n l)

pub Contains-filter_from : (p : ℕ → Bool) (xs : List ℕ) (x : ℕ) → Contains (filter p xs) x → (p x ≡ true) × Contains xs x
Contains-filter_from p [] x c = absurd (Contains-nothing x c)
Contains-filter_from p (y ∷ ys) x c =
    let there : Contains (filter p ys) x → (p x ≡ true) × Contains (y ∷ ys) x =
    λ d. (let r = Contains-filter_from p ys x d in (r.0, Contains-there y ys x r.1)) in
    elim (cases_Bool (p y)) [
      | inr isnt ↦ there (rw isnt at c)
      | inl is ↦
          elim (Contains-cases y (filter p ys) x (rw is at c)) [
            | inl e ↦ subst (λ (z : ℕ). (p z ≡ true) × Contains (y ∷ ys) z) e (is, Contains-here y ys)
            | inr later ↦ there later
          ]
    ]

pub Contains-range_from : (n k : ℕ) → Contains (range_with_len 0 n) k → k < n
Contains-range_from n k c = grind (arith, length-range_with_len, get_or-range_with_len)
