-- Which signals no loop takes part in, gate by gate and block by block.
use Rattle.std.proofs.Common.{◌≡◌, inl, inr, ℕ, zero, suc, ◌+◌, ◌-◌, ◌<◌, ◌≤◌, Bool, true, false, not, ◌&&◌, List, [], ◌∷◌, length, get_or, replicate, All, Contains, refl, sym, ap, ◌∙◌, subst, arith, true≢false}
use Rattle.std.specs.Prelude.{◌↔◌}
use Rattle.std.proofs.Math.ListN.{set}
use Rattle.std.proofs.lemmas.List.{get_or-replicate, length-replicate}
use Rattle.care_rows.proofs.Common.{AnyGate, AreBlocksOf, AreSteadyBefore, AreSteadyMarks, Blocks, Feeds, IsDone, IsNetlist, IsSignal, IsSteady, IsUpstream, Leads, Parts, Sig, Walk, and_from, block_at, cases_Bool, cases_eq, cases_lt, columns, count, gate_at, gate_sig, get_or-set_other, get_or-set_same, get_or_default, home_of, is_marked, length-set, list_all, no_gate, signal}
use Rattle.cyc_base.proofs.TruthLemmas.{first_of_and, second_of_and}
use Rattle.loops.specs.Blocks.{no_block}
use Rattle.loops.specs.declared.structure.Block.{Block}
use Rattle.loops.proofs.Told.{gate_home, home_gate, other_blocks_are_single}
use Rattle.loops.proofs.UpstreamLemmas.{upstream-trans}
use Rattle.loops.proofs.Walks.{leads-step}

-- ---- all of a list

pub all_pass : {A : Type 0} (p : A → Bool) (xs : List A) → list_all p xs ≡ true → All (λ x. p x ≡ true) xs
all_pass p [] h k d l = absurd (omega arith)
all_pass p (x ∷ xs) h zero d l = first_of_and _ _ h
all_pass p (x ∷ xs) h (suc k) d l = all_pass p xs (second_of_and _ _ h) k d (omega arith)

pub passes_all : {A : Type 0} (p : A → Bool) (xs : List A) → All (λ x. p x ≡ true) xs → list_all p xs ≡ true
passes_all p [] h = refl
passes_all p (x ∷ xs) h = and_from _ _ (h zero x (omega arith)) (passes_all p xs (λ k d l. h (suc k) d (omega arith)))

-- ---- one gate

-- the last step of a walk
pub record LastStep (net : Parts) (a b : ℕ) : Type 0 where
  pub gate : ℕ
  pub feeds : Feeds net gate b
  pub upstream : IsUpstream net a gate

pub last_step : (net : Parts) (a b : ℕ) (via : List ℕ) → Walk net a via b → LastStep net a b
last_step net a b [] h = record { gate = a; feeds = h; upstream = inl refl }
last_step net a b (x ∷ via) h =
    let last = last_step net x b via h.1 in
    record { gate = last.gate; feeds = last.feeds; upstream = upstream-trans net a x last.gate (inr (leads-step net a x h.0)) last.upstream }

-- a column is steady
pub column_steady : (net : Parts) (s : Sig) → s.0 < columns net → IsSteady net s
column_steady net s low gate m is up leads = let e = ap (λ (t : Sig). t.0) is in omega (arith, e, low)

-- a gate on a pin feeds the gate
pub pin_feeds : (net : Parts) → IsNetlist net → (gate m k : ℕ) (d : Sig) → gate < length net.gates → k < length (gate_at net gate).pins → get_or (gate_at net gate).pins k d ≡ gate_sig net m → Feeds net m gate
pin_feeds net valid gate m k d less here is = record {
  source = let inside = valid.pins gate no_gate less k d here in let e = ap (λ (t : Sig). t.0) is in omega (arith, inside, e);
  reader = less;
  pin = (k, here, get_or_default (gate_at net gate).pins k (gate_sig net m) d here ∙ is);
}

pub steady_pins : (net : Parts) → IsNetlist net → (gate : ℕ) → gate < length net.gates → IsSteady net (gate_sig net gate) → All (IsSteady net) (gate_at net gate).pins
steady_pins net valid gate less steady k d here x m is up = steady gate m refl (upstream-trans net m x gate up (inr (leads-step net x gate (pin_feeds net valid gate x k d less here is))))

pub pins_steady : (net : Parts) (gate : ℕ) → ¬ Leads net AnyGate gate gate → All (IsSteady net) (gate_at net gate).pins → IsSteady net (gate_sig net gate)
pins_steady net gate off pins x m is up = by up
  where
    same : gate ≡ x
    same = let e = ap (λ (t : Sig). t.0) is in omega (arith, e)

    by : IsUpstream net m x → ¬ Leads net AnyGate m m
    by (inl e) leads = off (subst (λ (n : ℕ). Leads net AnyGate n n) (e ∙ sym same) leads)
    by (inr r) leads =
        let last = last_step net m x r.via r.walk in
        let feeds : Feeds net last.gate gate = subst (Feeds net last.gate) (sym same) last.feeds in
        pins feeds.pin.0 (gate_sig net last.gate) feeds.pin.1 last.gate m feeds.pin.2 last.upstream leads

-- ---- block by block

pub none_done : (net : Parts) (blocks : Blocks) (width : ℕ) → width ≡ count net → AreSteadyBefore net blocks 0 0 (replicate width true)
none_done net blocks width is = record {
  width = length-replicate width true ∙ is;
  columns_marked = λ s l. get_or-replicate width s true false (omega (arith, l, is));
  each = λ gate less done. absurd (by gate done);
}
  where
    by : (gate : ℕ) → IsDone blocks 0 0 gate → ⊥
    by gate (inl low) = omega arith
    by gate (inr among) = let e = among.early in omega (arith, e)

module _ (net : Parts) (valid : IsNetlist net) (blocks : Blocks) (are : AreBlocksOf net blocks) (b : ℕ) (inside : b < length blocks.list) where
  -- the mark that a gate of the block gets is right
  module _ (i gate : ℕ) (marks : List Bool) (before : AreSteadyBefore net blocks b i marks) (less : gate < length net.gates) (home : home_of blocks gate ≡ b) where
    abbrev on_loop : Bool
    on_loop = (block_at blocks b).looped

    abbrev pins_marked : Bool
    pins_marked = list_all (λ s. is_marked marks s.0) (gate_at net gate).pins

    looped_leads : on_loop ≡ true → Leads net AnyGate gate gate
    looped_leads e = (are.looped gate less).0 (ap (λ (n : ℕ). (block_at blocks n).looped) home ∙ e)

    leads_looped : Leads net AnyGate gate gate → on_loop ≡ true
    leads_looped leads = ap (λ (n : ℕ). (block_at blocks n).looped) (sym home) ∙ (are.looped gate less).1 leads

    -- a pin's gate is done, where the gate is on no loop
    pin_done : on_loop ≡ false → (m : ℕ) → Feeds net m gate → IsDone blocks b i m
    pin_done off m feeds =
        let after = are.after_reads m gate feeds in
        elim (cases_lt (home_of blocks m) b) [
          | inl low ↦ inl low
          | inr high ↦
              let at : home_of blocks m ≡ home_of blocks gate = omega (arith, after, home, high) in
              let one : m ≡ gate = other_blocks_are_single net blocks are m gate feeds.source less at (ap (λ (n : ℕ). (block_at blocks n).looped) (at ∙ home) ∙ off) in
              absurd (true≢false (sym (leads_looped (leads-step net gate gate (subst (λ (n : ℕ). Feeds net n gate) one feeds))) ∙ off))
        ]

    pin_right : on_loop ≡ false → (k : ℕ) (d : Sig) → k < length (gate_at net gate).pins → (is_marked marks (get_or (gate_at net gate).pins k d).0 ≡ true) ↔ IsSteady net (get_or (gate_at net gate).pins k d)
    pin_right off k d here =
        let p : Sig = get_or (gate_at net gate).pins k d in
        let known : IsSignal net p = valid.pins gate no_gate less k d here in
        elim (cases_lt p.0 (columns net)) [
          | inl low ↦ (λ is. column_steady net p low, λ steady. before.columns_marked p.0 low)
          | inr high ↦
              let m : ℕ = p.0 - columns net in
              let at : columns net + m ≡ p.0 = omega (arith, high) in
              let is : p ≡ gate_sig net m = ap signal (sym at) in
              let feeds = pin_feeds net valid gate m k d less here is in
              let each = before.each m feeds.source (pin_done off m feeds) in (
                λ marked. subst (IsSteady net) (sym is) (each.0 (ap (is_marked marks) at ∙ marked)),
                λ steady. ap (is_marked marks) (sym at) ∙ each.1 (subst (IsSteady net) is steady),
              )
        ]

    pub mark_right : ((not on_loop && pins_marked) ≡ true) ↔ IsSteady net (gate_sig net gate)
    mark_right =
        elim (cases_Bool on_loop) [
          | inl is_on ↦ (
            λ e. absurd (true≢false (sym e ∙ ap (λ c. not c && pins_marked) is_on)),
            λ steady. absurd (steady gate gate refl (inl refl) (looped_leads is_on)),
          )
          | inr is_off ↦ (
            λ e. pins_steady net gate (λ leads. true≢false (sym (leads_looped leads) ∙ is_off))
                (λ k d here. (pin_right is_off k d here).0 (all_pass (λ s. is_marked marks s.0) (gate_at net gate).pins (ap (λ c. not c && pins_marked) (sym is_off) ∙ e) k d here)),
            λ steady. ap (λ c. not c && pins_marked) is_off
                ∙ passes_all (λ s. is_marked marks s.0) (gate_at net gate).pins (λ k d here. (pin_right is_off k d here).1 (steady_pins net valid gate less steady k d here)),
          )
        ]

  -- one gate more
  pub gate_more : (i gate : ℕ) (marks new : List Bool) (gates : List ℕ) (looped : Bool) → gates ≡ (block_at blocks b).gates → looped ≡ (block_at blocks b).looped → i < length gates → get_or gates i gate ≡ gate →
      new ≡ set marks (columns net + gate) (not looped && list_all (λ s. is_marked marks s.0) (gate_at net gate).pins) →
      AreSteadyBefore net blocks b i marks → AreSteadyBefore net blocks b (i + 1) new
  gate_more i gate marks new gates looped same flag here at is before =
      let listed : Contains (block_at blocks b).gates gate = subst (λ (xs : List ℕ). Contains xs gate) same (i, here, at) in
      let home = gate_home net blocks are b gate inside listed in
      let mark : Bool = not looped && list_all (λ s. is_marked marks s.0) (gate_at net gate).pins in
      let width = before.width in
      let fits : columns net + gate < length marks = omega (arith, width, home.0) in
      subst (AreSteadyBefore net blocks b (i + 1)) (sym is) (record {
        width = length-set marks (columns net + gate) mark ∙ width;
        columns_marked = λ s l. get_or-set_other marks (columns net + gate) s mark false (λ e. omega (arith, e, l)) ∙ before.columns_marked s l;
        each = λ other less done.
            elim (cases_eq other gate) [
              | inl e ↦
                  let right = mark_right i gate marks before home.0 home.1 in
                  let now : is_marked (set marks (columns net + gate) mark) (columns net + other) ≡ mark =
                  ap (λ (n : ℕ). is_marked (set marks (columns net + gate) mark) (columns net + n)) e ∙ get_or-set_same marks (columns net + gate) mark false fits in
                  let as_block : mark ≡ (not (block_at blocks b).looped && list_all (λ s. is_marked marks s.0) (gate_at net gate).pins) = ap (λ c. not c && list_all (λ s. is_marked marks s.0) (gate_at net gate).pins) flag in (
                    λ marked. subst (λ (n : ℕ). IsSteady net (gate_sig net n)) (sym e) (right.0 (sym as_block ∙ sym now ∙ marked)),
                    λ steady. now ∙ as_block ∙ right.1 (subst (λ (n : ℕ). IsSteady net (gate_sig net n)) e steady),
                  )
              | inr ne ↦
                  let kept : is_marked (set marks (columns net + gate) mark) (columns net + other) ≡ is_marked marks (columns net + other) = get_or-set_other marks (columns net + gate) (columns net + other) mark false (λ e. ne (omega (arith, e))) in
                  let was = before.each other less (earlier other ne done) in
                  (λ marked. was.0 (sym kept ∙ marked), λ steady. kept ∙ was.1 steady)
            ];
      })
    where
      earlier : (other : ℕ) → (other ≡ gate → ⊥) → IsDone blocks b (i + 1) other → IsDone blocks b i other
      earlier other ne (inl low) = inl low
      earlier other ne (inr among) =
          elim (cases_lt among.place i) [
            | inl low ↦ inr (record { place = among.place; early = low; within = among.within; is = among.is })
            | inr high ↦
                let early = among.early in
                let e : among.place ≡ i = omega (arith, high, early) in
                absurd (ne (sym among.is
                ∙ ap (λ (k : ℕ). get_or (block_at blocks b).gates k 0) e
                ∙ ap (λ (xs : List ℕ). get_or xs i 0) (sym same)
                ∙ get_or_default gates i 0 gate here
                ∙ at))
          ]

  -- all gates of the block
  pub block_done : (i : ℕ) (gates : List ℕ) (marks : List Bool) → gates ≡ (block_at blocks b).gates → length gates ≤ i → AreSteadyBefore net blocks b i marks → AreSteadyBefore net blocks (b + 1) 0 marks
  block_done i gates marks same all before = record {
    width = before.width;
    columns_marked = before.columns_marked;
    each = λ gate less done. before.each gate less (by gate less done);
  }
    where
      by : (gate : ℕ) → gate < length net.gates → IsDone blocks (b + 1) 0 gate → IsDone blocks b i gate
      by gate less (inr among) = absurd (let e = among.early in omega (arith, e))
      by gate less (inl low) =
          elim (cases_lt (home_of blocks gate) b) [
            | inl early ↦ inl early
            | inr high ↦
                let at : home_of blocks gate ≡ b = omega (arith, low, high) in
                let c : Contains (block_at blocks b).gates gate = subst (λ (n : ℕ). Contains (block_at blocks n).gates gate) at (home_gate net blocks are gate less) in
                let size = ap (λ (xs : List ℕ). length xs) same in
                let within = c.1 in
                inr (record { place = c.0; early = omega (arith, size, within, all); within = c.1; is = get_or_default (block_at blocks b).gates c.0 0 gate c.1 ∙ c.2 })
          ]

pub all_done : (net : Parts) (blocks : Blocks) → AreBlocksOf net blocks → (marks : List Bool) (b : ℕ) → length blocks.list ≤ b → AreSteadyBefore net blocks b 0 marks → AreSteadyMarks net marks
all_done net blocks are marks b all before = record {
  width = before.width;
  each = λ s inside.
      elim (cases_lt s.0 (columns net)) [
        | inl low ↦ (λ is. column_steady net s low, λ steady. before.columns_marked s.0 low)
        | inr high ↦
            let m : ℕ = s.0 - columns net in
            let at : columns net + m ≡ s.0 = omega (arith, high) in
            let is : s ≡ gate_sig net m = ap signal (sym at) in
            let less : m < length net.gates = omega (arith, inside, high) in
            let home = are.home m less in
            let each = before.each m less (inl (omega (arith, home, all))) in (
              λ marked. subst (IsSteady net) (sym is) (each.0 (ap (is_marked marks) at ∙ marked)),
              λ steady. ap (is_marked marks) (sym at) ∙ each.1 (subst (IsSteady net) is steady),
            )
      ];
}

-- a block that is read by its place
pub block_read : (list items : List Block) (place : ℕ) (d : Block) → items ≡ list → place < length list → (get_or items place d).looped ≡ (get_or list place no_block).looped
block_read list items place d same l = ap (λ (b : Block). b.looped) (ap (λ (xs : List Block). get_or xs place d) same ∙ get_or_default list place d no_block l)
