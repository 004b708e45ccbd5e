-- Blocks that are solved one after another, with what is kept of them.
use Rattle.std.proofs.Common.{◌≡◌, inl, inr, ℕ, suc, ◌+◌, ◌-◌, ◌<◌, Bool, List, [], ◌∷◌, ◌++◌, length, map, take, replicate, get_or, refl, sym, ap, ap₂, ◌∙◌, subst, arith, Contains, Option, Some, None, IfSome}
use Rattle.fixpoint.proofs.Common.{IsLooped, Looped, option_to_list, All, flat_map, append-nil, cases_lt, cases_eq, get_or_append_left, get_or_default, length-append, length-replicate, get_or-replicate, get_or-take, get_or-map, length-map, length-take, ext_get_or, All-append, All-map, All-push, Arena, Trit, X, Rails, AreRailsOf, value_of, values_of, Parts, fix, fix_gates, Blocks, Cut, block_at, home_of, first_gate, value_in, gate_home, home_gate, KeptRails, LoopSteps, Solved, SweptLoop, rails_under, values_under, AreKept, HoldsRails, GainsRoots, RootsStay, Vectors, IsLoopAt, AreStepsOf, AreKeptSteps, HasEachLoopOnce, IsSolution, step_at, last_step, steps_under, loop_under, unknown, rails_at, vectors, IsSolvedBelow, AreFresh, place_of, AreKeptBelow, IsSolvedTo}
use Rattle.std.specs.Option.{option_map}
use Rattle.std.proofs.Math.Path.{fun_ext}
use Rattle.std.proofs.lemmas.Option.{none-some, same_Some}
use Rattle.dual_rail.proofs.SurelyLemmas.{length-values}
use Rattle.std.proofs.lemmas.List.{get_or-append-add}
use Rattle.std.proofs.lemmas.List.Concat.{flat_map-cons}
use Rattle.fixpoint.specs.Solved.{AreGiven}
use Rattle.fixpoint.specs.Sweeping.{IsFoundAt, IsKeptAt, rails_in, HasValues}
use Rattle.fixpoint.proofs.BlockLemmas.{HasLoopsBelow, loops-push, loops-skip}
use Rattle.fixpoint.proofs.KeptLemmas.{All-mapped, value_of-gained, AreRailsOf-gained, All-kept-stay, AreKept-stay, AreKept-gained, rails_under-gained, value-stays, rails-stay, values-stay, All-rails-stay, RootsStay-chain}
use Rattle.fixpoint.proofs.WireLemmas.{unknown-rails, rails_at-proper, values-fixed}

-- ---- what the vectors are

pub vectors-are : {l : Looped} {a : Arena} {v : Vectors} {b : ℕ} {before rails : List Rails} → IsSolvedBelow l a v b before rails → vectors l.net a rails ≡ v
vectors-are {l} {a} {v} {rails = rails} is = fun_ext (λ bits.
    let width = is.wires.width in
    let taken = length-take (first_gate l.net) rails in
    let long = length-values a (take (first_gate l.net) rails) bits in
    ext_get_or X (vectors l.net a rails bits) (v bits) (omega (arith, width, is.vector bits, taken, long))
    (λ s less.
    let low : s < first_gate l.net = omega (arith, less, width, taken, long) in
    get_or-map (λ (r : Rails). value_of a r bits) (take (first_gate l.net) rails) s unknown X (omega (arith, less, long))
    ∙ ap (λ (r : Rails). value_of a r bits) (get_or-take (first_gate l.net) rails s unknown low)
    ∙ is.given s bits low))

-- ---- while roots come

solved-gained : {l : Looped} {d e : Arena} {v : Vectors} {b : ℕ} {before rails : List Rails} → GainsRoots d e → IsSolvedBelow l d v b before rails → IsSolvedBelow l e v b before rails
solved-gained {l} {d} {e} {v} {b} {before} {rails} g is = grind arith

steps-gained : {net : Parts} {blocks : Blocks} {cut : Cut} {d e : Arena} {v : Vectors} → GainsRoots d e → (found : SweptLoop) → AreStepsOf net blocks cut d v found → AreStepsOf net blocks cut e v found
steps-gained g found is = grind arith

pub holds-gained : {s t : Arena} {place : Option KeptRails} {rails : Rails} → GainsRoots s t → HoldsRails s place rails → HoldsRails t place rails
holds-gained g is = record { kept = is.kept; is = is.is; keys = AreKept-gained g is.kept is.keys; rails_are = rails_under-gained g is.kept is.keys ∙ is.rails_are }

-- ---- while roots stay

module _ {d e : Arena} (stay : RootsStay d e) where
  pub given-stay : {net : Parts} {given : List KeptRails} → AreGiven net d given → AreGiven net e given
  given-stay {net} {given} is = record { width = is.width; keys = All-kept-stay stay given is.keys; proper = All-rails-stay stay given is.keys is.proper }

  values-hold : {place : Option KeptRails} {v : List Bool → Trit} → HasValues d place v → HasValues e place v
  values-hold is = grind (arith, AreKept-stay stay is.kept is.keys, rails-stay stay is.kept is.keys is.proper, value-stays stay is.kept is.keys)

  pub kept-stay : {l : Looped} {given : List KeptRails} {b : ℕ} {places : List (Option KeptRails)} → AreGiven l.net d given → AreKeptBelow l d (values_under d given) b places → AreKeptBelow l e (values_under e given) b places
  kept-stay {l} {given} {b} {places} given_are is = grind (arith, values-stay stay given given_are.keys, values-hold)

  module _ (loop : LoopSteps) (keys : All (All (AreKept d)) loop.steps) where
    step-stays : (k : ℕ) (bits : List Bool) → k < length loop.steps → values_of e (step_at (steps_under e loop) k) bits ≡ values_of d (step_at (steps_under d loop) k) bits
    step-stays k bits less =
        ap (λ (rails : List Rails). values_of e rails bits) (get_or-map (map (rails_under e)) loop.steps k [] [] less)
        ∙ ap (λ (v : Vectors). v bits) (values-stay stay (get_or loop.steps k []) (keys k [] less))
        ∙ ap (λ (rails : List Rails). values_of d rails bits) (sym (get_or-map (map (rails_under d)) loop.steps k [] [] less))

    last-stays : (bits : List Bool) → 0 < length loop.steps → values_of e (last_step (steps_under e loop)) bits ≡ values_of d (last_step (steps_under d loop)) bits
    last-stays bits some = grind (arith, length-map {B = List Rails} loop.steps (map (rails_under e)), step-stays (length loop.steps - 1) bits, length-map {B = List Rails} loop.steps (map (rails_under d)))

  pub steps-stay : {net : Parts} {blocks : Blocks} {cut : Cut} {v : Vectors} (loop : LoopSteps) → AreKeptSteps net blocks cut d v loop → AreKeptSteps net blocks cut e v loop
  steps-stay {net} {blocks} {cut} loop is =
      let long_d : length (steps_under d loop) ≡ length loop.steps = length-map {B = List Rails} loop.steps (map (rails_under d)) in
      let long_e : length (steps_under e loop) ≡ length loop.steps = length-map {B = List Rails} loop.steps (map (rails_under e)) in
      let some = is.steps.some in
      let few = is.steps.few in
      record {
        keys = λ k none less. All-kept-stay stay (get_or loop.steps k none) (is.keys k none less);
        steps = record {
          block = is.steps.block;
          wires = is.steps.wires;
          rails = All-map (All (AreRailsOf e)) (map (rails_under e)) loop.steps (λ k none less.
              All-rails-stay stay (get_or loop.steps k none) (is.keys k none less) (All-mapped (All (AreRailsOf d)) (map (rails_under d)) loop.steps is.steps.rails k none less));
          each = λ gate k bits has less. step-stays loop is.keys k bits (omega (arith, less, long_e)) ∙ is.steps.each gate k bits has (omega (arith, less, long_d, long_e));
          last = λ gate bits has. last-stays loop is.keys bits (omega (arith, some, long_d)) ∙ is.steps.last gate bits has;
          some = omega (arith, some, long_d, long_e);
          few = omega (arith, few, long_d, long_e);
        };
      }

-- ---- one block more

module _ (l : Looped) (l_is : IsLooped l) {d e f : Arena} (stay : RootsStay d f) (g : GainsRoots e f) (given : List KeptRails) (b : ℕ) (within : b < length l.blocks.list) (before rails : List Rails) (places : List (Option KeptRails))
    (is : IsSolvedTo l d given b before rails places) (before2 rails2 : List Rails) (places2 : List (Option KeptRails)) where
  same-vectors : vectors l.net d rails ≡ values_under f given
  same-vectors = vectors-are is.solved ∙ sym (values-stay stay given is.given_are.keys)

  pub solved-next : (gates : List ℕ) → gates ≡ (block_at l.blocks b).gates → IsSolvedBelow l e (vectors l.net d rails) (b + 1) before2 rails2 → AreFresh l (b + 1) before2
      → length places2 ≡ length places → ((n : ℕ) → Contains gates n → HoldsRails f (place_of places2 n) (rails_at rails2 (first_gate l.net + n))) → ((n : ℕ) → ¬ Contains gates n → place_of places2 n ≡ place_of places n)
      → IsSolvedTo l f given (b + 1) before2 rails2 places2
  solved-next gates gates_are done fresh width held others = record {
    given_are = given-stay stay is.given_are;
    solved = subst (λ (v : Vectors). IsSolvedBelow l f v (b + 1) before2 rails2) same-vectors (solved-gained g done);
    fresh = fresh;
    kept = record {
      width = width ∙ is.kept.width;
      solved = λ n less low. elim (cases_eq (home_of l.blocks n) b) [
        | inl here ↦
            let has = held n (subst (λ (ns : List ℕ). Contains ns n) (ap (λ (p : ℕ). (block_at l.blocks p).gates) here ∙ sym gates_are) (home_gate l.net l.blocks l_is.blocks n less)) in
            record {
              kept = has.kept;
              is = has.is;
              keys = has.keys;
              proper = subst (AreRailsOf f) (sym has.rails_are) (AreRailsOf-gained g (rails_at rails2 (first_gate l.net + n)) (rails_at-proper e rails2 done.wires.proper (first_gate l.net + n)));
              values_are = λ bits.
                  ap (λ (r : Rails). value_of f r bits) has.rails_are
                  ∙ value_of-gained g (rails_at rails2 (first_gate l.net + n)) bits
                  ∙ done.gates n bits less low
                  ∙ ap (λ (v : Vectors). value_in (fix_gates l.net (v bits)) n) same-vectors;
            }
        | inr apart ↦
            subst (λ (place : Option KeptRails). HasValues f place (λ bits. value_in (fix_gates l.net (values_under f given bits)) n)) (sym (others n (λ has. apart (at-home n has))))
            ((kept-stay stay is.given_are is.kept).solved n less (omega (arith, low, apart)))
      ];
      later = λ n less late. others n (λ has. let home = at-home n has in omega (arith, late, home)) ∙ is.kept.later n less (omega (arith, late));
    };
  }
    where
      at-home : (n : ℕ) → Contains gates n → home_of l.blocks n ≡ b
      at-home n has = (gate_home l.net l.blocks l_is.blocks b n within (subst (λ (ns : List ℕ). Contains ns n) gates_are has)).1

  -- the steps of its loop are kept
  pub steps-next : (found : SweptLoop) (loop : LoopSteps) → AreStepsOf l.net l.blocks l.cut e (vectors l.net d rails) found → All (All (AreKept f)) loop.steps → loop_under f loop ≡ found → AreKeptSteps l.net l.blocks l.cut f (values_under f given) loop
  steps-next found loop steps keys same = record {
    keys = keys;
    steps = subst (AreStepsOf l.net l.blocks l.cut f (values_under f given)) (sym same) (subst (λ (v : Vectors). AreStepsOf l.net l.blocks l.cut f v found) same-vectors (steps-gained g found steps));
  }

  -- what is kept of what was found
  pub found-next : (found : Option SweptLoop) (loop : Option LoopSteps) → IsFoundAt l e (vectors l.net d rails) b found → IfSome loop (λ x. All (All (AreKept f)) x.steps) → option_map (loop_under f) loop ≡ found → IsKeptAt l f (values_under f given) b loop
  found-next found loop is keys same = grind (arith, steps-next)

-- ---- the loops that were found

pub found-loops : (l : Looped) (a : Arena) (v : Vectors) (b : ℕ) (loops : List LoopSteps) (found : Option LoopSteps) → IsKeptAt l a v b found → HasLoopsBelow l.blocks b loops → HasLoopsBelow l.blocks (b + 1) (loops ++ option_to_list found)
found-loops l a v b loops (Some loop) is has = loops-push l.blocks b loops loop (subst (IsLoopAt l.blocks) is.1 is.0.steps.block) is.1 has
found-loops l a v b loops None is has = subst (HasLoopsBelow l.blocks (b + 1)) (sym (append-nil loops)) (loops-skip l.blocks b loops is has)

pub found-steps : (l : Looped) (a : Arena) (v : Vectors) (b : ℕ) (loops : List LoopSteps) (found : Option LoopSteps) → IsKeptAt l a v b found → All (AreKeptSteps l.net l.blocks l.cut a v) loops
    → All (AreKeptSteps l.net l.blocks l.cut a v) (loops ++ option_to_list found)
found-steps l a v b loops (Some loop) is all = All-push (AreKeptSteps l.net l.blocks l.cut a v) loops loop all is.0
found-steps l a v b loops None is all = subst (All (AreKeptSteps l.net l.blocks l.cut a v)) (sym (append-nil loops)) all

pub found-stays : (l : Looped) (d e : Arena) (v : Vectors) (b : ℕ) (found : Option LoopSteps) → RootsStay d e → IsKeptAt l d v b found → IsKeptAt l e v b found
found-stays l d e v b (Some loop) stay is = (steps-stay stay loop is.0, is.1)
found-stays l d e v b None stay is = is

-- ---- the wires read anew

no-kept : KeptRails
no-kept = record { one = record { key = 0 }; zero = record { key = 0 } }

-- what is so of no rails and of rails with values is so of the rails at each place
at-place : {l : Looped} {a : Arena} {v : Vectors} {b : ℕ} {places : List (Option KeptRails)} (P : Option KeptRails → Type 0) → AreKeptBelow l a v b places → P None
    → ((kept : KeptRails) → AreKept a kept → AreRailsOf a (rails_under a kept) → P (Some kept)) → All P places
at-place {l} {a} {v} {b} {places} P is none some k d less = grind (arith, get_or_default places k d None less, cases_lt (home_of l.blocks k) b)

pub places-kept : {l : Looped} {a : Arena} {v : Vectors} {b : ℕ} {places : List (Option KeptRails)} → AreKeptBelow l a v b places → All (λ place. IfSome place (AreKept a)) places
places-kept {l} {a} is = at-place (λ place. IfSome place (AreKept a)) is tt (λ kept keys proper. keys)

module _ (l : Looped) (a : Arena) (given : List KeptRails) (given_are : AreGiven l.net a given) (b : ℕ) (places : List (Option KeptRails)) (kept : AreKeptBelow l a (values_under a given) b places)
    (before rails : List Rails) (before_is : before ≡ map (rails_in a) places) (rails_is : rails ≡ map (rails_under a) given ++ before) where
  given-long : length (map (rails_under a) given) ≡ first_gate l.net
  given-long = length-map {B = Rails} given (rails_under a) ∙ given_are.width

  before-long : length before ≡ length l.net.gates
  before-long = ap length before_is ∙ length-map {B = Rails} places (rails_in a) ∙ kept.width

  before-at : (n : ℕ) → n < length l.net.gates → rails_at before n ≡ rails_in a (place_of places n)
  before-at n less = ap (λ (xs : List Rails). rails_at xs n) before_is ∙ get_or-map (rails_in a) places n None unknown (omega (arith, less, kept.width))

  before-value : (n : ℕ) (bits : List Bool) → n < length l.net.gates → home_of l.blocks n < b → value_of a (rails_at before n) bits ≡ value_in (fix_gates l.net (values_under a given bits)) n
  before-value n bits less low = grind (arith, before-at n less)

  before-proper : All (AreRailsOf a) before
  before-proper = subst (All (AreRailsOf a)) (sym before_is) (All-map (AreRailsOf a) (rails_in a) places (at-place (λ place. AreRailsOf a (rails_in a place)) kept (unknown-rails a) (λ one keys proper. proper)))

  pub solved-anew : IsSolvedTo l a given b before rails places
  solved-anew = record {
    given_are = given_are;
    solved = record {
      wires = record {
        width = ap length rails_is ∙ length-append (map (rails_under a) given) before ∙ ap₂ (λ (x y : ℕ). x + y) given-long before-long;
        before_width = before-long;
        proper = subst (All (AreRailsOf a)) (sym rails_is) (All-append (AreRailsOf a) (map (rails_under a) given) before given_are.proper before-proper);
        before_proper = before-proper;
      };
      vector = λ bits. length-values a (map (rails_under a) given) bits ∙ given-long;
      given = λ s bits low.
          let inside : s < length (map (rails_under a) given) = omega (arith, low, given-long) in
          ap (λ (xs : List Rails). value_of a (rails_at xs s) bits) rails_is
          ∙ ap (λ (r : Rails). value_of a r bits) (get_or_append_left (map (rails_under a) given) before unknown s inside)
          ∙ sym (get_or-map (λ (r : Rails). value_of a r bits) (map (rails_under a) given) s unknown X inside);
      gates = λ n bits less low.
          ap (λ (r : Rails). value_of a r bits)
          (ap₂ (λ (xs : List Rails) (k : ℕ). rails_at xs (k + n)) rails_is (sym given-long) ∙ get_or-append-add (map (rails_under a) given) before n unknown)
          ∙ before-value n bits less low;
      cuts = λ n bits less low cut_wire. before-value n bits less low;
    };
    fresh = λ n less late. before-at n less ∙ ap (rails_in a) (kept.later n less late);
    kept = kept;
  }

-- after the store is swept
pub solved-swept : (l : Looped) {d e : Arena} → RootsStay d e → (given : List KeptRails) (b : ℕ) {before rails : List Rails} (places : List (Option KeptRails)) → IsSolvedTo l d given b before rails places
    → (before2 rails2 : List Rails) → before2 ≡ map (rails_in e) places → rails2 ≡ map (rails_under e) given ++ before2 → IsSolvedTo l e given b before2 rails2 places
solved-swept l {e = e} stay given b places is before2 rails2 = solved-anew l e given (given-stay stay is.given_are) b places (kept-stay stay is.given_are is.kept) before2 rails2

-- and before the first block
pub solved-start : (l : Looped) (a : Arena) (given : List KeptRails) (before rails : List Rails) (places : List (Option KeptRails)) → AreGiven l.net a given → places ≡ replicate (length l.net.gates) None
    → before ≡ map (rails_in a) places → rails ≡ map (rails_under a) given ++ before → IsSolvedTo l a given 0 before rails places
solved-start l a given before rails places is none = solved-anew l a given is 0 places
    (record {
      width = ap length none ∙ length-replicate {A = Option KeptRails} (length l.net.gates) None;
      solved = λ n less low. absurd (omega (arith, low));
      later = λ n less late. ap (λ (xs : List (Option KeptRails)). place_of xs n) none ∙ get_or-replicate {A = Option KeptRails} (length l.net.gates) n None None less;
    }) before rails

-- ---- the end

listed : (places : List (Option KeptRails)) → ((n : ℕ) → n < length places → (kept : KeptRails) × (place_of places n ≡ Some kept)) → places ≡ map Some (flat_map option_to_list places)
listed [] all = refl
listed (None ∷ places) all = let first = all 0 (omega arith) in absurd (none-some first.0 first.1)
listed (Some kept ∷ places) all =
    ap (λ ps. Some kept ∷ ps) (listed places (λ n less. all (suc n) (omega (arith, less)))) ∙ ap (map Some) (sym (flat_map-cons option_to_list (Some kept) places))

module _ (l : Looped) (l_is : IsLooped l) {c d e : Arena} (early : RootsStay c d) (stay : RootsStay d e) (given : List KeptRails) (is : AreGiven l.net c given) (places : List (Option KeptRails))
    (below : AreKeptBelow l d (values_under d given) (length l.blocks.list) places) where
  whole : RootsStay c e
  whole = RootsStay-chain early stay

  at-all : (n : ℕ) → n < length l.net.gates → HasValues e (place_of places n) (λ bits. value_in (fix_gates l.net (values_under e given bits)) n)
  at-all n less = (kept-stay stay (given-stay early is) below).solved n less (l_is.blocks.home n less)

  list : places ≡ map Some (flat_map option_to_list places)
  list = listed places (λ n less. let has = at-all n (let width = below.width in omega (arith, less, width)) in (has.kept, has.is))

  gates-long : length (flat_map option_to_list places) ≡ length l.net.gates
  gates-long = sym (ap length list ∙ length-map {B = Option KeptRails} (flat_map option_to_list places) Some) ∙ below.width

  gate-is : (n : ℕ) (none : KeptRails) (less : n < length l.net.gates) → (at-all n less).kept ≡ get_or (flat_map option_to_list places) n none
  gate-is n none less =
      same_Some _ _ (sym (at-all n less).is ∙ ap (λ (ps : List (Option KeptRails)). place_of ps n) list ∙ get_or-map Some (flat_map option_to_list places) n none None (let long = gates-long in omega (arith, less, long)))

  gate-keys : All (AreKept e) (flat_map option_to_list places)
  gate-keys n none less = let inside : n < length l.net.gates = let long = gates-long in omega (arith, less, long) in subst (AreKept e) (gate-is n none inside) (at-all n inside).keys

  gate-rails : All (λ kept. AreRailsOf e (rails_under e kept)) (flat_map option_to_list places)
  gate-rails n none less = let inside : n < length l.net.gates = let long = gates-long in omega (arith, less, long) in subst (λ (kept : KeptRails). AreRailsOf e (rails_under e kept)) (gate-is n none inside) (at-all n inside).proper

  all-long : length (given ++ flat_map option_to_list places) ≡ first_gate l.net + length l.net.gates
  all-long = length-append given (flat_map option_to_list places) ∙ ap₂ (λ (x y : ℕ). x + y) is.width gates-long

  vector : (bits : List Bool) → length (values_under e given bits) ≡ first_gate l.net
  vector bits = length-values e (map (rails_under e) given) bits ∙ length-map {B = Rails} given (rails_under e) ∙ is.width

  at-signal : (s : ℕ) (bits : List Bool) → s < first_gate l.net + length l.net.gates → value_of e (rails_at (map (rails_under e) (given ++ flat_map option_to_list places)) s) bits ≡ value_of e (rails_under e (get_or (given ++ flat_map option_to_list places) s no-kept)) bits
  at-signal s bits less = ap (λ (r : Rails). value_of e r bits) (get_or-map (rails_under e) (given ++ flat_map option_to_list places) s no-kept unknown (let long = all-long in omega (arith, less, long)))

  all-values : (bits : List Bool) → values_under e (given ++ flat_map option_to_list places) bits ≡ fix l.net (values_under e given bits)
  all-values =
      values-fixed l.net e (values_under e given) (map (rails_under e) (given ++ flat_map option_to_list places))
      (length-map {B = Rails} (given ++ flat_map option_to_list places) (rails_under e) ∙ all-long)
      vector
      (λ s bits low.
      let inside : s < length given = let width = is.width in omega (arith, low, width) in
      at-signal s bits (omega (arith, low))
      ∙ ap (λ (kept : KeptRails). value_of e (rails_under e kept) bits) (get_or_append_left given (flat_map option_to_list places) no-kept s inside)
      ∙ ap (λ (r : Rails). value_of e r bits) (sym (get_or-map (rails_under e) given s no-kept unknown inside))
      ∙ sym (get_or-map (λ (r : Rails). value_of e r bits) (map (rails_under e) given) s unknown X (omega (arith, inside, length-map {B = Rails} given (rails_under e)))))
      (λ n bits less.
      at-signal (first_gate l.net + n) bits (omega (arith, less))
      ∙ ap (λ (kept : KeptRails). value_of e (rails_under e kept) bits)
      (ap (λ (k : ℕ). get_or (given ++ flat_map option_to_list places) (k + n) no-kept) (sym is.width) ∙ get_or-append-add given (flat_map option_to_list places) n no-kept ∙ sym (gate-is n no-kept less))
      ∙ (at-all n less).values_are bits)

  pub solution-is : (loops : List LoopSteps) (solved : Solved) → HasEachLoopOnce l.blocks loops → All (AreKeptSteps l.net l.blocks l.cut d (values_under d given)) loops → solved.rails ≡ given ++ flat_map option_to_list places → solved.loops ≡ loops
      → IsSolution l.net l.blocks l.cut e (values_under c given) solved
  solution-is loops solved once steps rails_are loops_are = subst (λ (v : Vectors). IsSolution l.net l.blocks l.cut e v solved) (values-stay whole given is.keys) (record {
    vector = vector;
    keys = subst (All (AreKept e)) (sym rails_are) (All-append (AreKept e) given (flat_map option_to_list places) (All-kept-stay whole given is.keys) gate-keys);
    rails = subst (λ (kept : List KeptRails). All (AreRailsOf e) (map (rails_under e) kept)) (sym rails_are)
        (All-map (AreRailsOf e) (rails_under e) (given ++ flat_map option_to_list places)
        (All-append (λ kept. AreRailsOf e (rails_under e kept)) given (flat_map option_to_list places) (All-mapped (AreRailsOf e) (rails_under e) given (given-stay whole is).proper) gate-rails));
    values = λ bits. ap (λ (kept : List KeptRails). values_under e kept bits) rails_are ∙ all-values bits;
    loops = subst (HasEachLoopOnce l.blocks) (sym loops_are) once;
    steps = subst (All (AreKeptSteps l.net l.blocks l.cut e (values_under e given))) (sym loops_are) (λ k none less.
        subst (λ (v : Vectors). AreKeptSteps l.net l.blocks l.cut e v (get_or loops k none)) (sym (values-stay stay given (given-stay early is).keys)) (steps-stay stay (get_or loops k none) (steps k none less)));
  })
