-- Walks, and what the cut wires do to loops.
use Rattle.std.proofs.Common.{◌≡◌, ◌⊎◌, inl, inr, ℕ, zero, suc, ◌<◌, true, false, List, [], ◌∷◌, ◌++◌, length, subst, arith, true≢false}
use Rattle.loops.proofs.Common.{cases_eq, AllByRecursion, all_weaker, all_append, same_truth, Parts, Feeds, Walk, Leads, AnyGate, SameLoop, Loops, AreLoopsOf}
use Rattle.loops.specs.Laws.{EachCutIsNeeded, LoopsAreUnique}

pub all_any : (xs : List ℕ) → AllByRecursion AnyGate xs
all_any [] = tt
all_any (x ∷ xs) = (tt, all_any xs)

pub all_both : (P Q : ℕ → Type 0) (xs : List ℕ) → AllByRecursion P xs → AllByRecursion Q xs → AllByRecursion (λ n. P n × Q n) xs
all_both P Q [] h k = tt
all_both P Q (x ∷ xs) h k = ((h.0, k.0), all_both P Q xs h.1 k.1)

pub walk-append : (net : Parts) (a b c : ℕ) (via rest : List ℕ) → Walk net a via b → Walk net b rest c → Walk net a (via ++ (b ∷ rest)) c
walk-append net a b c [] rest h k = (h, k)
walk-append net a b c (x ∷ via) rest h k = (h.0, walk-append net x b c via rest h.1 k)

pub leads-trans : (net : Parts) (a b c : ℕ) → Leads net AnyGate a b → Leads net AnyGate b c → Leads net AnyGate a c
leads-trans net a b c h k = grind (arith, all_any, walk-append)

pub leads-step : (net : Parts) (a b : ℕ) → Feeds net a b → Leads net AnyGate a b
leads-step net a b h = record { via = []; kind = tt; walk = h }

pub leads-any : (net : Parts) (a b : ℕ) (via : List ℕ) → Walk net a via b → Leads net AnyGate a b
leads-any net a b via h = record { via = via; kind = all_any via; walk = h }

-- each gate of a walk follows its first and leads to its last
pub on_walk : (net : Parts) (a b : ℕ) (via : List ℕ) → Walk net a via b → AllByRecursion (λ n. Leads net AnyGate a n × Leads net AnyGate n b) via
on_walk net a b [] h = tt
on_walk net a b (x ∷ via) h = grind (arith, leads-step net a x h.0, leads-any net x b via h.1, all_weaker, leads-trans net a x, on_walk net x b via h.1)

pub on_closed_walk : (net : Parts) (a : ℕ) (via : List ℕ) → Walk net a via a → AllByRecursion (SameLoop net a) via
on_closed_walk net a via h = grind (arith, all_weaker, on_walk)

pub same_loop-sym : (net : Parts) (a b : ℕ) → SameLoop net a b → SameLoop net b a
same_loop-sym net a b h = record { there = h.back; back = h.there }

pub same_loop-trans : (net : Parts) (a b c : ℕ) → SameLoop net a b → SameLoop net b c → SameLoop net a c
same_loop-trans net a b c h k = grind (arith, leads-trans net a b c h.there k.there, leads-trans net c b a k.back h.back)

pub begins_at : (net : Parts) (a b : ℕ) (via : List ℕ) → Walk net a via b → a < length net.gates
begins_at net a b [] h = h.source
begins_at net a b (x ∷ via) h = h.0.source

pub walk_within_of : (net : Parts) (a b : ℕ) (via : List ℕ) → Walk net a via b → AllByRecursion (λ g. g < length net.gates) via
walk_within_of net a b [] h = tt
walk_within_of net a b (x ∷ via) h = (h.0.reader, walk_within_of net x b via h.1)

-- a walk through gates up to n passes n, first after gates before n, or has gates before n alone
pub record Split (net : Parts) (P : ℕ → Type 0) (n a b : ℕ) : Type 0 where
  pub first : List ℕ
  pub second : List ℕ
  pub before : AllByRecursion (λ g. (g < n) × P g) first
  pub kind : AllByRecursion (λ g. (g < suc n) × P g) second
  pub here : P n
  pub walk : Walk net a first n
  pub rest : Walk net n second b

pub split : (net : Parts) (P : ℕ → Type 0) (n a b : ℕ) (via : List ℕ) → Walk net a via b → AllByRecursion (λ g. (g < suc n) × P g) via → AllByRecursion (λ g. (g < n) × P g) via ⊎ Split net P n a b
split net P n a b [] h k = inl tt
split net P n a b (x ∷ via) h k =
    elim (cases_eq x n) [
      | inl e ↦ inr (record {
        first = [];
        second = via;
        before = tt;
        kind = k.1;
        here = subst P e k.0.1;
        walk = subst (λ (g : ℕ). Feeds net a g) e h.0;
        rest = subst (λ (g : ℕ). Walk net g via b) e h.1;
      })
      | inr ne ↦
          let bound = k.0.0 in
          let less : x < n = omega (arith, ne) in
          elim (split net P n x b via h.1 k.1) [
            | inl all ↦ inl ((less, k.0.1), all)
            | inr s ↦ inr (record {
              first = x ∷ s.first;
              second = s.second;
              before = ((less, k.0.1), s.before);
              kind = s.kind;
              here = s.here;
              walk = (h.0, s.walk);
              rest = s.rest;
            })
          ]
    ]

module _ (net : Parts) (loops : Loops) (are : AreLoopsOf net loops) where
  -- a walk from n back to n through uncut gates before it makes n a cut wire
  closed_before : (n : ℕ) (via : List ℕ) → Walk net n via n → AllByRecursion (λ g. (g < n) × (loops.cut g ≡ false)) via → loops.cut n ≡ false → ⊥
  closed_before n via walk kind not_cut = grind (arith, all_weaker, all_both, on_closed_walk, true≢false)

  -- so also through gates up to n, since the walk can end at its first return
  closed_upto : (n : ℕ) (via : List ℕ) → Walk net n via n → AllByRecursion (λ g. (g < suc n) × (loops.cut g ≡ false)) via → loops.cut n ≡ false → ⊥
  closed_upto n via walk kind not_cut =
      elim (split net (λ g. loops.cut g ≡ false) n n n via walk kind) [
        | inl all ↦ closed_before n via walk all not_cut
        | inr s ↦ closed_before n s.first s.walk s.before not_cut
      ]

  none_below : (n a : ℕ) (via : List ℕ) → Walk net a via a → a < n → loops.cut a ≡ false → AllByRecursion (λ g. (g < n) × (loops.cut g ≡ false)) via → ⊥
  none_below zero a via walk less not_cut kind = omega arith
  none_below (suc n) a via walk less not_cut kind =
      elim (cases_eq a n) [
        | inl e ↦
            closed_upto n via (subst (λ (g : ℕ). Walk net g via g) e walk) kind (subst (λ (g : ℕ). loops.cut g ≡ false) e not_cut)
        | inr ne ↦
            let a_before : a < n = omega (arith, ne) in
            elim (split net (λ g. loops.cut g ≡ false) n a a via walk kind) [
              | inl all ↦ none_below n a via walk a_before not_cut all
              | inr s ↦
                  -- the walk passes n, so it can begin there
                  closed_upto n (s.second ++ (a ∷ s.first))
                  (walk-append net n a n s.second s.first s.rest s.walk)
                  (all_append (λ g. (g < suc n) × (loops.cut g ≡ false)) s.second (a ∷ s.first) s.kind (
                    (less, not_cut),
                    all_weaker (λ g. (g < n) × (loops.cut g ≡ false)) (λ g. (g < suc n) × (loops.cut g ≡ false)) s.first
                        (λ g p. let q = p.0 in (omega arith, p.1)) s.before,
                  ))
                  s.here
            ]
      ]

  pub walk_within : (a b : ℕ) (via : List ℕ) → Walk net a via b → AllByRecursion (λ g. g < length net.gates) via
  walk_within a b via h = walk_within_of net a b via h

  pub begins_within : (a b : ℕ) (via : List ℕ) → Walk net a via b → a < length net.gates
  begins_within a b via h = begins_at net a b via h

  pub cuts_leave_no_loop : (a : ℕ) (via : List ℕ) → Walk net a via a → loops.cut a ≡ false → AllByRecursion (λ n. loops.cut n ≡ false) via → ⊥
  cuts_leave_no_loop a via walk not_cut kind = grind (arith, none_below (length net.gates) a via walk (begins_within a a via walk) not_cut, begins_within a a via walk, all_both, walk_within a a via walk)

pub each_cut_is_needed : EachCutIsNeeded
each_cut_is_needed net loops are n cut = grind (arith, all_weaker)

module _ (net : Parts) (one two : Loops) (first : AreLoopsOf net one) (second : AreLoopsOf net two) where
  pass_either : (n : ℕ) → ((g : ℕ) → g < n → one.cut g ≡ two.cut g) → one.cut n ≡ true → two.cut n ≡ true
  pass_either n below cut = grind (arith, all_weaker)

module _ (net : Parts) (one two : Loops) (first : AreLoopsOf net one) (second : AreLoopsOf net two) where
  cuts_same_below : (bound n : ℕ) → n < bound → one.cut n ≡ two.cut n
  cuts_same_below zero n less = absurd (omega arith)
  cuts_same_below (suc bound) n less = grind (arith, same_truth (one.cut n) (two.cut n), pass_either net one two first second n, cuts_same_below bound, pass_either net two one second first n)

pub loops_are_unique : LoopsAreUnique
loops_are_unique net one two first second = grind (arith, same_truth, cuts_same_below net one two first second)
