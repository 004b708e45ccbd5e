-- Setting the gates of a loop in order gives its sweep.
use Rattle.std.proofs.Common.{◌≡◌, ◌⊎◌, inl, inr, ℕ, zero, suc, ◌<◌, true, List, [], ◌∷◌, length, get_or, set, ap, refl, sym, ◌∙◌, subst, arith, Contains}
use Rattle.loops.proofs.Common.{cases_eq, get_or-set_same, get_or-set_other, length-set, AllByRecursion, Trit, X, ext, Parts, gate_at, wire, fix, Loops, AreLoopsOf, gate_of, in_loop_of, pin_in, sweep}
use Rattle.loops.specs.Sweeps.{gate_in}
use Rattle.loops.specs.Orders.{ReadsUncut, IsInOrder, sweep_in}
use Rattle.loops.specs.Laws.{SweepOfOneLoop, OrderedSweepIsSweep}
use Rattle.loops.proofs.Ancestors.{by_ancestors}
use Rattle.loops.proofs.Reading.{choice_same, in_loop_from, map_agree}
use Rattle.loops.proofs.Sweeps.{same-trans, same_within, sweep_each}
use Rattle.loops.proofs.Unique.{Uncut, feeds_at, uncut_within, uncut-trans, uncut-irreflexive}

all_contained : (P : ℕ → Type 0) (xs : List ℕ) → ((k : ℕ) → Contains xs k → P k) → AllByRecursion P xs
all_contained P [] h = tt
all_contained P (x ∷ xs) h =
    (h x (zero, omega arith, refl), all_contained P xs (λ k c. h k (suc c.0, (let l = c.1 in omega arith), c.2)))

module _ (net : Parts) (loops : Loops) (are : AreLoopsOf net loops) (v c : List Trit) where
  -- two states that agree at the uncut gates of its loop that a gate reads give it one value
  gate_in_agree : (s t : List Trit) (n : ℕ) → n < length net.gates → ((h : ℕ) → loops.same n h ≡ true → ReadsUncut net loops.cut n h → get_or s h X ≡ get_or t h X) → gate_in net loops v c s n ≡ gate_in net loops v c t n
  gate_in_agree s t n l agree =
      ap (ext (gate_at net n).cover)
      (map_agree (pin_in net loops v c s n) (pin_in net loops v c t n) (gate_at net n).pins
      (λ k d here.
      let r = get_or (gate_at net n).pins k d in
      choice_same (in_loop_of net loops n r) (loops.cut (gate_of net r)) (get_or c (gate_of net r) X) (get_or s (gate_of net r) X) (wire (fix net v) r) (get_or t (gate_of net r) X)
      (λ e free.
      let p = in_loop_from net loops n r e in
      agree (gate_of net r) p.1 (record { feeds = feeds_at net n k d l here p.0 (same_within net loops are n (gate_of net r) p.1); uncut = free }))))

  one_loop : (s : List Trit) (a : ℕ) → ((n : ℕ) → loops.same a n ≡ true → get_or s n X ≡ gate_in net loops v c s n) → (n : ℕ) → loops.same a n ≡ true → get_or s n X ≡ get_or (sweep net loops v c) n X
  one_loop s a each =
      by_ancestors (length net.gates) (Uncut net loops) (uncut_within net loops are) (uncut-trans net loops are) (uncut-irreflexive net loops are)
      (λ n. loops.same a n ≡ true → get_or s n X ≡ get_or (sweep net loops v c) n X)
      (λ n before same.
      let l = same_within net loops are a n same in
      each n same
      ∙ gate_in_agree s (sweep net loops v c) n l
      (λ h near reads. before h (record { uncut = reads.uncut; leads = record { via = []; kind = tt; walk = reads.feeds } }) (same-trans net loops are a n h same near))
      ∙ sym (sweep_each net loops v c n l))

  -- setting a gate keeps what gates see that don't read it
  set_keeps : (s : List Trit) (x : Trit) (n g : ℕ) → g < length net.gates → (ReadsUncut net loops.cut g n → ⊥) → gate_in net loops v c (set s n x) g ≡ gate_in net loops v c s g
  set_keeps s x n g l free =
      gate_in_agree (set s n x) s g l
      (λ h near reads.
      elim (cases_eq h n) [
        | inl e ↦ absurd (free (subst (λ (k : ℕ). ReadsUncut net loops.cut g k) e reads))
        | inr ne ↦ get_or-set_other s n h x X ne
      ])

  not_itself : (n : ℕ) → ReadsUncut net loops.cut n n → ⊥
  not_itself n r = grind arith

  run : (order : List ℕ) (s : List Trit) (Done : ℕ → Type 0) → length s ≡ length net.gates → AllByRecursion (λ n. n < length net.gates) order → IsInOrder net loops.cut order → ((g : ℕ) → Done g → (g < length net.gates) × (get_or s g X ≡ gate_in net loops v c s g)) → ((g : ℕ) → Done g → AllByRecursion (λ h. (h ≡ g → ⊥) × (ReadsUncut net loops.cut g h → ⊥)) order) → (g : ℕ) → Done g ⊎ Contains order g → get_or (sweep_in net loops v c order s) g X ≡ gate_in net loops v c (sweep_in net loops v c order s) g
  run [] s Done len within follows holds rest g (inl d) = (holds g d).1
  run [] s Done len within follows holds rest g (inr m) = absurd (let l = m.1 in omega arith)
  run (n ∷ order) s Done len within follows holds rest g which =
      let x = gate_in net loops v c s n in
      let nl = within.0 in
      run order (set s n x) (λ k. Done k ⊎ (k ≡ n)) (length-set s n x ∙ len) within.1 follows.1
      (λ k. held k)
      (λ k. later k)
      g (which_now g which)
    where
      held : (k : ℕ) → Done k ⊎ (k ≡ n) → (k < length net.gates) × (get_or (set s n (gate_in net loops v c s n)) k X ≡ gate_in net loops v c (set s n (gate_in net loops v c s n)) k)
      held k h = grind (arith, get_or-set_other, set_keeps, get_or-set_same, not_itself)

      later : (k : ℕ) → Done k ⊎ (k ≡ n) → AllByRecursion (λ h. (h ≡ k → ⊥) × (ReadsUncut net loops.cut k h → ⊥)) order
      later k (inl d) = (rest k d).1
      later k (inr e) =
          subst (λ (j : ℕ). AllByRecursion (λ h. (h ≡ j → ⊥) × (ReadsUncut net loops.cut j h → ⊥)) order) (sym e) follows.0

      which_now : (k : ℕ) → Done k ⊎ Contains (n ∷ order) k → (Done k ⊎ (k ≡ n)) ⊎ Contains order k
      which_now k h = grind arith

pub sweep_of_one_loop : SweepOfOneLoop
sweep_of_one_loop net loops are v c s a each n same = one_loop net loops are v c s a each n same

pub ordered_sweep_is_sweep : OrderedSweepIsSweep
ordered_sweep_is_sweep net loops are a gates order of_loop is v c s len n same =
    one_loop net loops are v c (sweep_in net loops v c order s) a
    (λ g member. run net loops are v c order s (λ k. ⊥) len
    (all_contained (λ k. k < length net.gates) order (λ k m. same_within net loops are a k (of_loop.1 k (is.only k m))))
    is.follows (λ k d. absurd d) (λ k d. absurd d) g (inr (is.each g (of_loop.0 g member))))
    n same
