-- Sweep by sweep to the fixpoint of a loop.
use Rattle.std.proofs.Common.{◌≡◌, inl, inr, ℕ, suc, ◌+◌, ◌-◌, ◌<◌, ◌≤◌, Bool, true, List, [], ◌∷◌, ◌++◌, length, map, filter, get_or, sym, ap, ◌∙◌, subst, arith, Contains}
use Rattle.std.proofs.lemmas.List.Elements.{All-contains_itself}
use Rattle.cyc_base.proofs.ListLemmas.{map-map}
use Rattle.fixpoint.proofs.Common.{IsLooped, Looped, cases_lt, get_or_append_left, get_or_push, length_push, get_or-replicate, All-push, All-map, All, Arena, KeepsNodes, IsLawful, Trit, Rails, AreRailsOf, value_of, values_of, value_of-kept, All-rails-kept, fix_gates, block_at, home_of, is_cut, loops_by, first_gate, value_in, cuts_of, sweeps, map_agree, home_gate, blocks_tell_loops, Vectors, IsLoopAt, AreStepsOf, step_at, rails_at, AreWires, IsSolvedBelow, AreFresh, AreSwept, after_sweeps, IsUnderway, IsAtRest}
use Rattle.dual_rail.proofs.SurelyLemmas.{values_of-kept}
use Rattle.loops.specs.Sweeps.{cuts as cuts_after}
use Rattle.loops.proofs.Sweeps.{still_is_fix}
use Rattle.fixpoint.specs.Sweeping.{CutsAre}
use Rattle.fixpoint.proofs.SweepLemmas.{solved-more}
use Rattle.fixpoint.proofs.WireLemmas.{rails_at-proper, unknown-value}
use Rattle.fixpoint.proofs.CutLemmas.{cuts-are, in-cuts, from-cuts, fixed-at, one-block, rails-canonical}

module _ (l : Looped) (l_is : IsLooped l) (b : ℕ) (loop : IsLoopAt l.blocks b) (v : Vectors) where
  -- the cut wires' rails as one step
  pub step-values : (a : Arena) (cuts : List ℕ) (before : List Rails) (k : ℕ) (bits : List Bool) → cuts ≡ filter (is_cut l.cut.wires) (block_at l.blocks b).gates
      → CutsAre l a (after_sweeps l v k) b before
      → values_of a (map (rails_at before) cuts) bits ≡ map (value_in (after_sweeps l v k bits)) cuts
  step-values a cuts before k bits is cuts_are =
      map-map {C = Trit} (λ r. value_of a r bits) (rails_at before) cuts
      ∙ map_agree (λ n. value_of a (rails_at before n) bits) (value_in (after_sweeps l v k bits)) cuts
      (λ j none less.
      let n : ℕ = get_or cuts j none in
      let has : Contains (filter (is_cut l.cut.wires) (block_at l.blocks b).gates) n = subst (λ (ns : List ℕ). Contains ns n) is (All-contains_itself cuts j none less) in
      let f = from-cuts l.net l.blocks l_is.blocks l.cut b loop n has in
      cuts_are n bits f.0.0 f.0.1 f.1)

  -- before the first sweep
  pub underway-start : (a : Arena) (cuts : List ℕ) (before rails : List Rails) → IsSolvedBelow l a v b before rails → AreFresh l b before
      → IsUnderway l a v b cuts [] before rails
  underway-start a cuts before rails solved fresh = grind (arith, unknown-value a, get_or-replicate {A = Trit} (length l.net.gates))

  -- one sweep more
  module _ (d e : Arena) (keeps : KeepsNodes d e) (lawful : IsLawful e) (cuts : List ℕ) (is : cuts ≡ filter (is_cut l.cut.wires) (block_at l.blocks b).gates)
      (steps : List (List Rails)) (before rails after : List Rails) (underway : IsUnderway l d v b cuts steps before rails)
      (solved : IsSolvedBelow l e v b before after)
      (swept : AreSwept l e v (after_sweeps l v (length steps)) (λ n. home_of l.blocks n ≡ b) after) where
    listed : (n : ℕ) → Contains cuts n → ((n < length l.net.gates) × (home_of l.blocks n ≡ b)) × (is_cut l.cut.wires n ≡ true)
    listed n has = from-cuts l.net l.blocks l_is.blocks l.cut b loop n (subst (λ (ns : List ℕ). Contains ns n) is has)

    now-value : (n : ℕ) (bits : List Bool) → Contains cuts n → value_of e (rails_at before n) bits ≡ value_in (after_sweeps l v (length steps) bits) n
    now-value n bits has = grind (arith, listed n has, value_of-kept keeps (rails_at before n) (rails_at-proper d before underway.solved.wires.before_proper n) bits, rails_at-proper d before underway.solved.wires.before_proper n)

    step-proper : All (AreRailsOf d) (map (rails_at before) cuts)
    step-proper = All-map (AreRailsOf d) (rails_at before) cuts (λ j none less. rails_at-proper d before underway.solved.wires.before_proper (get_or cuts j none))

    pub each-pushed : (j : ℕ) (bits : List Bool) → j < length (steps ++ map (rails_at before) cuts ∷ []) →
        values_of e (step_at (steps ++ map (rails_at before) cuts ∷ []) j) bits ≡ map (value_in (after_sweeps l v j bits)) cuts
    each-pushed j bits less = elim (cases_lt j (length steps)) [
      | inl low ↦
          ap (λ (step : List Rails). values_of e step bits) (get_or_append_left steps (map (rails_at before) cuts ∷ []) [] j low)
          ∙ values_of-kept keeps (step_at steps j) (underway.proper j [] low) bits
          ∙ underway.each j bits low
      | inr high ↦
          let here : length steps ≡ j = omega (arith, less, high, length_push steps (map (rails_at before) cuts)) in
          ap (λ (step : List Rails). values_of e step bits) (get_or_push steps (map (rails_at before) cuts) [] j here)
          ∙ values_of-kept keeps (map (rails_at before) cuts) step-proper bits
          ∙ step-values d cuts before (length steps) bits is underway.cuts_are
          ∙ ap (λ (k : ℕ). map (value_in (after_sweeps l v k bits)) cuts) here
    ]

    pub proper-pushed : All (All (AreRailsOf e)) (steps ++ map (rails_at before) cuts ∷ [])
    proper-pushed = All-push (All (AreRailsOf e)) steps (map (rails_at before) cuts) (λ k none less. All-rails-kept keeps (get_or steps k none) (underway.proper k none less)) (All-rails-kept keeps (map (rails_at before) cuts) step-proper)

    -- after as many sweeps as there are cut wires, they stand still
    fixed-still : length cuts ≤ length steps → (n : ℕ) → Contains cuts n → rails_at before n ≡ rails_at after (first_gate l.net + n)
    fixed-still enough n has =
        let f = listed n has in
        let has2 : Contains (filter (is_cut l.cut.wires) (block_at l.blocks b).gates) n = subst (λ (ns : List ℕ). Contains ns n) is has in
        let size : length cuts ≡ length (filter (is_cut l.cut.wires) (block_at l.blocks b).gates) = ap length is in
        rails-canonical e lawful (rails_at before n) (rails_at after (first_gate l.net + n)) (rails_at-proper e before solved.wires.before_proper n) (rails_at-proper e after solved.wires.proper (first_gate l.net + n))
        (λ bits.
        now-value n bits has
        ∙ fixed-at l.net l.blocks l_is.blocks l.cut b loop l_is.cut (v bits) (underway.solved.vector bits) n (length steps) has2 (omega (arith, enough, size))
        ∙ sym (fixed-at l.net l.blocks l_is.blocks l.cut b loop l_is.cut (v bits) (underway.solved.vector bits) n (suc (length steps)) has2 (omega (arith, enough, size)))
        ∙ sym (swept n bits f.0.0 f.0.1))

    -- where the cut wires stand still, the loop stands at the fixpoint
    module _ (still : (n : ℕ) → Contains cuts n → rails_at before n ≡ rails_at after (first_gate l.net + n)) where
      same-cut : (n : ℕ) (bits : List Bool) → Contains cuts n → value_in (after_sweeps l v (suc (length steps)) bits) n ≡ value_in (after_sweeps l v (length steps) bits) n
      same-cut n bits has = grind (arith, listed n has, now-value n bits has)

      fix-gate : (n : ℕ) (bits : List Bool) → n < length l.net.gates → home_of l.blocks n ≡ b → value_in (after_sweeps l v (suc (length steps)) bits) n ≡ value_in (fix_gates l.net (v bits)) n
      fix-gate n bits less home =
          let in_gates : Contains (block_at l.blocks b).gates n = subst (λ (p : ℕ). Contains (block_at l.blocks p).gates n) home (home_gate l.net l.blocks l_is.blocks n less) in
          let of_n : cuts ≡ cuts_of l.net (loops_by l.blocks l.cut) n = is ∙ cuts-are l.net l.blocks l_is.blocks l.cut b loop n in_gates in
          let same : cuts_after l.net (loops_by l.blocks l.cut) (v bits) n (suc (length steps)) ≡ cuts_after l.net (loops_by l.blocks l.cut) (v bits) n (length steps)
          = map_agree (value_in (sweeps l.net (loops_by l.blocks l.cut) (v bits) (suc (length steps)))) (value_in (sweeps l.net (loops_by l.blocks l.cut) (v bits) (length steps))) (cuts_of l.net (loops_by l.blocks l.cut) n)
          (λ j none inside.
          same-cut (get_or (cuts_of l.net (loops_by l.blocks l.cut) n) j none) bits
          (subst (λ (ns : List ℕ). Contains ns (get_or (cuts_of l.net (loops_by l.blocks l.cut) n) j none)) (sym of_n)
          (All-contains_itself (cuts_of l.net (loops_by l.blocks l.cut) n) j none inside))) in
          still_is_fix l.net (loops_by l.blocks l.cut) (blocks_tell_loops l.net l.blocks l.cut l_is.blocks l_is.cut) (v bits) (underway.solved.vector bits) n (length steps) same n (one-block l.net l.blocks l_is.blocks l.cut b loop n n less home less home)

      solved-next : IsSolvedBelow l e v (b + 1) before after
      solved-next =
          solved-more solved
          (λ n bits less own. swept n bits less own ∙ fix-gate n bits less own)
          (λ n bits less own cut_wire.
          let has : Contains cuts n = subst (λ (ns : List ℕ). Contains ns n) (sym is) (in-cuts l.net l.blocks l_is.blocks l.cut b loop n less own cut_wire) in
          ap (λ (r : Rails). value_of e r bits) (still n has) ∙ swept n bits less own ∙ fix-gate n bits less own)

      steps-are : AreStepsOf l.net l.blocks l.cut e v (record { block = b; cuts = cuts; steps = steps ++ map (rails_at before) cuts ∷ [] })
      steps-are =
          let pushes = length_push steps (map (rails_at before) cuts) in
          let wires : (gate : ℕ) → Contains (block_at l.blocks b).gates gate → cuts ≡ cuts_of l.net (loops_by l.blocks l.cut) gate = λ gate has. is ∙ cuts-are l.net l.blocks l_is.blocks l.cut b loop gate has in
          record {
            block = loop;
            wires = wires;
            rails = proper-pushed;
            each = λ gate k bits has less. each-pushed k bits less ∙ ap (map (value_in (after_sweeps l v k bits))) (wires gate has);
            last = λ gate bits has.
                let at : length (steps ++ map (rails_at before) cuts ∷ []) - 1 ≡ length steps = omega (arith, pushes) in
                ap (λ (k : ℕ). values_of e (step_at (steps ++ map (rails_at before) cuts ∷ []) k) bits) at
                ∙ each-pushed (length steps) bits (omega (arith, pushes))
                ∙ map_agree (value_in (after_sweeps l v (length steps) bits)) (value_in (fix_gates l.net (v bits))) cuts
                (λ j none inside.
                let m : ℕ = get_or cuts j none in
                let m_in : Contains cuts m = All-contains_itself cuts j none inside in
                let f = listed m m_in in
                sym (same-cut m bits m_in) ∙ fix-gate m bits f.0.0 f.0.1)
                ∙ ap (map (value_in (fix_gates l.net (v bits)))) (wires gate has);
            some = omega (arith, pushes);
            few = omega (arith, pushes, underway.few);
          }

      pub at-rest : IsAtRest l e v b cuts (steps ++ map (rails_at before) cuts ∷ []) before after
      at-rest = record { solved = solved-next; fresh = underway.fresh; steps_are = steps-are }

    -- else the loop goes on, from the cut wires as they are now
    pub underway-next : (before2 : List Rails) → ((n : ℕ) → Contains cuts n → rails_at before2 n ≡ rails_at after (first_gate l.net + n)) → ((n : ℕ) → ¬ Contains cuts n → rails_at before2 n ≡ rails_at before n)
        → AreWires l.net e before2 after → ¬ ((n : ℕ) → Contains cuts n → rails_at before n ≡ rails_at after (first_gate l.net + n)) → IsUnderway l e v b cuts (steps ++ map (rails_at before) cuts ∷ []) before2 after
    underway-next before2 kept free wires2 moves =
        let pushes = length_push steps (map (rails_at before) cuts) in
        let next : suc (length steps) ≡ length (steps ++ map (rails_at before) cuts ∷ []) = omega (arith, pushes) in
        record {
          solved = record {
            wires = wires2;
            vector = solved.vector;
            given = solved.given;
            gates = solved.gates;
            cuts = λ n bits less low cut_wire. ap (λ (r : Rails). value_of e r bits) (free n (λ has. let f = listed n has in omega (arith, low, f.0.1))) ∙ solved.cuts n bits less low cut_wire;
          };
          cuts_are = subst (λ (k : ℕ). CutsAre l e (after_sweeps l v k) b before2) next
              (λ n bits less home cut_wire.
              ap (λ (r : Rails). value_of e r bits) (kept n (subst (λ (ns : List ℕ). Contains ns n) (sym is) (in-cuts l.net l.blocks l_is.blocks l.cut b loop n less home cut_wire)))
              ∙ swept n bits less home);
          fresh = λ n less later. free n (λ has. let f = listed n has in omega (arith, later, f.0.1)) ∙ underway.fresh n less later;
          each = each-pushed;
          proper = proper-pushed;
          few = elim (cases_lt (length steps) (length cuts)) [ inl low ↦ omega (arith, pushes, low) | inr high ↦ absurd (moves (fixed-still high)) ];
        }
