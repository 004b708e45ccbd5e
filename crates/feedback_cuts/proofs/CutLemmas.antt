-- Paths through gates that are kept are the walks that make a gate a cut wire, and levels show where there are none.
use Rattle.std.proofs.Common.{◌≡◌, ◌⊎◌, ◌↔◌, inl, inr, ℕ, ◌<◌, ◌≤◌, ◌+◌, Bool, true, false, List, [], ◌∷◌, ◌++◌, length, set, replicate, ap, sym, ◌∙◌, subst, arith, Contains, true≢false}
use borrow.Author.Count.{below_more}
use Rattle.feedback_cuts.proofs.Common.{cases_eq, cases_lt, get_or-set_same, get_or-set_other, length-set, length-replicate, get_or_past, AllByRecursion, all_weaker, all_append, Parts, Feeds, Walk, Blocks, Cut, AreBlocksOf, MayPass, is_cut, HaveGained, IsCutSearch, IsKept, Meeting, ReadsBack, IsLoopPin, Connects, InRow, IsFree, Path, level_at, row_at, AnyGate, Leads, SameLoop}
use Rattle.std.proofs.lemmas.List.{get_or-replicate}
use Rattle.feedback_cuts.specs.declared.cuts.CutSearch.{CutSearch}
use Rattle.loops.specs.Cuts.{IsCutOf}
use Rattle.feedback_cuts.specs.Keeping.{AreLow, IsAhead, IsFresh, IsPlaced}
use Rattle.feedback_cuts.proofs.KeptLemmas.{ready_as}
use Rattle.feedback_cuts.proofs.SearchLemmas.{joined, one_step, path-append}
use Rattle.loops.proofs.Told.{told_from}
use Rattle.loops.proofs.Walks.{all_both, begins_at, leads-any, on_closed_walk, same_loop-sym, same_loop-trans}

module _ (net : Parts) (blocks : Blocks) (are : AreBlocksOf net blocks) where
  path_walks : (a b : ℕ) (via : List ℕ) → Path (IsLoopPin net blocks) a via b → Walk net a via b
  path_walks a b [] path = path.feeds
  path_walks a b (x ∷ via) path = (let pin = path.0 in pin.feeds, path_walks x b via path.1)

  pin_links : (c a b : ℕ) → SameLoop net c a → SameLoop net c b → Feeds net a b → IsLoopPin net blocks a b
  pin_links c a b first second feeds =
      record { feeds = feeds; loop = told_from net blocks are a b (same_loop-trans net a c b (same_loop-sym net c a first) second) }

  walk_paths : (c a b : ℕ) (via : List ℕ) → SameLoop net c a → SameLoop net c b → AllByRecursion (SameLoop net c) via → Walk net a via b → Path (IsLoopPin net blocks) a via b
  walk_paths c a b [] first last all walk = pin_links c a b first last walk
  walk_paths c a b (x ∷ via) first last all walk =
      (pin_links c a x first all.0 walk.0, walk_paths c x b via all.0 last all.1 walk.1)

  -- paths are walks
  pub leads_by_pins : (cut : List Bool) (n : ℕ) → Connects (IsLoopPin net blocks) (IsFree cut n) n n ↔ Leads net (MayPass net (is_cut cut) n) n n
  leads_by_pins cut n = (
    λ c.
        let walk = path_walks n n c.via c.path in
        record {
          via = c.via;
          kind = all_weaker (λ g. SameLoop net n g × IsFree cut n g) (MayPass net (is_cut cut) n) c.via
              (λ g p. record { loop = p.0; before = p.1.before; uncut = p.1.uncut })
              (all_both (SameLoop net n) (IsFree cut n) c.via (on_closed_walk net n c.via walk) c.kind);
          walk = walk;
        },
    λ l.
        let round = leads-any net n n l.via l.walk in
        let self : SameLoop net n n = record { there = round; back = round } in
        record {
          via = l.via;
          kind = all_weaker (MayPass net (is_cut cut) n) (IsFree cut n) l.via (λ g p. record { before = p.before; uncut = p.uncut }) l.kind;
          path = walk_paths n n n l.via self self (on_closed_walk net n l.via l.walk) l.walk;
        },
  )

-- the cut wires among the first n gates, and none after them
pub record AreCutsBelow (net : Parts) (n : ℕ) (cut : List Bool) : Type 0 where
  pub width : length cut ≡ length net.gates
  pub each : (m : ℕ) → m < n → (is_cut cut m ≡ true) ↔ Leads net (MayPass net (is_cut cut) m) m m
  pub rest : (m : ℕ) → n ≤ m → is_cut cut m ≡ false

pub no_cuts : (net : Parts) (cut : List Bool) → cut ≡ replicate (length net.gates) false → AreCutsBelow net 0 cut
no_cuts net cut e = grind (arith, length-replicate, cases_lt, get_or-replicate, get_or_past)

-- walks pass earlier gates alone, so that later entries don't matter
passes_as : (net : Parts) (one two : ℕ → Bool) (m : ℕ) → ((g : ℕ) → g < m → one g ≡ two g) → Leads net (MayPass net one m) m m → Leads net (MayPass net two m) m m
passes_as net one two m same l = grind (arith, all_weaker)

pub cuts_below_more : (net : Parts) (n : ℕ) (cut : List Bool) (b : Bool) → n < length net.gates → AreCutsBelow net n cut → (b ≡ true) ↔ Leads net (MayPass net (is_cut cut) n) n n → AreCutsBelow net (n + 1) (set cut n b)
cuts_below_more net n cut b l are leads =
    let width = are.width in
    record {
      width = length-set cut n b ∙ are.width;
      each =
          below_more (λ m. (is_cut (set cut n b) m ≡ true) ↔ Leads net (MayPass net (is_cut (set cut n b)) m) m m) n
          (λ m ml. as_before m (is_cut cut m) (omega arith) (sym (same m ml)) (are.each m ml))
          (as_before n b (omega arith) (get_or-set_same cut n b false (omega arith)) leads);
      rest = λ m past. get_or-set_other cut n m b false (omega arith) ∙ are.rest m (omega arith);
    }
  where
    same : (g : ℕ) → g < n → is_cut cut g ≡ is_cut (set cut n b) g
    same g gl = sym (get_or-set_other cut n g b false (omega arith))

    as_before : (m : ℕ) (t : Bool) → m ≤ n → is_cut (set cut n b) m ≡ t → (t ≡ true) ↔ Leads net (MayPass net (is_cut cut) m) m m → (is_cut (set cut n b) m ≡ true) ↔ Leads net (MayPass net (is_cut (set cut n b)) m) m m
    as_before m t ml is old = (
      λ e. passes_as net (is_cut cut) (is_cut (set cut n b)) m (λ g gl. same g (omega arith)) (old.0 (sym is ∙ e)),
      λ w. is ∙ old.1 (passes_as net (is_cut (set cut n b)) (is_cut cut) m (λ g gl. sym (same g (omega arith))) w),
    )

pub cut_from_below : (net : Parts) (cut : Cut) → AreCutsBelow net (length net.gates) cut.wires → IsCutOf net cut
cut_from_below net cut are = grind (arith, cases_lt, true≢false, begins_at)

-- a gate more
pub cut_step : (net : Parts) (blocks : Blocks) → AreBlocksOf net blocks → (n : ℕ) (cut : List Bool) (b : Bool) → n < length net.gates → (b ≡ true) ↔ Connects (IsLoopPin net blocks) (IsFree cut n) n n → AreCutsBelow net n cut → AreCutsBelow net (n + 1) (set cut n b)
cut_step net blocks are n cut b l now below =
    let walks = leads_by_pins net blocks are cut n in
    cuts_below_more net n cut b l below (λ k. walks.0 (now.0 k), λ w. now.1 (walks.1 w))

empty : List ℕ
empty = []

-- nothing is kept at first
pub nothing_kept : (R : ℕ → ℕ → Type 0) (cut : List Bool) (readers sources : List (List ℕ)) (levels : List ℕ) (gates : ℕ) → length cut ≡ gates → readers ≡ replicate gates [] → sources ≡ replicate gates [] → levels ≡ replicate gates 0 → IsKept R cut 0 readers sources levels
unfolding empty
nothing_kept R cut readers sources levels gates width r s v = grind (arith, length-replicate, get_or-replicate, empty, cases_lt, get_or_past)

-- a fresh search has gone through no gate
pub fresh_search : (R : ℕ → ℕ → Type 0) (cut : List Bool) (gates : ℕ) (search : CutSearch) → length cut ≡ gates → IsFresh gates search → IsCutSearch R cut 0 search
fresh_search R cut gates search width f = record {
  kept = nothing_kept R cut search.kept.readers.items search.kept.sources.items search.kept.levels.items gates width f.readers f.sources f.levels;
  ready = ready_as gates (length cut) 0 search.search.marks.items width f.ready;
  landmarks = f.landmarks search.kept.readers.items (length cut);
}

-- ways back from a kept gate along sources are ways to it along readers
pub reads_back : (R : ℕ → ℕ → Type 0) (cut : List Bool) (n : ℕ) (readers sources : List (List ℕ)) (levels : List ℕ) → IsKept R cut n readers sources levels → (g : ℕ) → IsFree cut n g → ReadsBack readers sources g
reads_back R cut n readers sources levels k g free x w = turn g x w.via free w.path
  where
    turn : (a b : ℕ) (via : List ℕ) → IsFree cut n a → Path (InRow sources) a via b → Connects (InRow readers) AnyGate b a
    turn a b [] fa h = (let w = (k.reads b a fa).0 h in one_step readers b a ((k.read_by b a).1 (w.0, fa)))
    turn a b (y ∷ via) fa h =
        let w = (k.reads y a fa).0 h.0 in
        joined readers b y a (turn y b via w.1 h.1) (one_step readers y a ((k.read_by y a).1 (w.0, fa)))

-- what is free stays so, whatever the next gate is
module _ (cut : List Bool) (n : ℕ) (b : Bool) (y : ℕ) where
  free_to : IsFree cut n y → IsFree (set cut n b) (n + 1) y
  free_to f = (let less = f.before in record { before = omega arith; uncut = get_or-set_other cut n y b false (omega arith) ∙ f.uncut })

  free_from : IsFree (set cut n b) (n + 1) y → ¬ (y ≡ n) → IsFree cut n y
  free_from f ne = (let less = f.before in record { before = omega (arith, ne); uncut = sym (get_or-set_other cut n y b false ne) ∙ f.uncut })

module _ (R : ℕ → ℕ → Type 0) (cut : List Bool) (n : ℕ) (l : n < length cut) (readers sources : List (List ℕ)) (levels : List ℕ) where
  -- the row of the next gate is laid
  pub row_laid : (row : List ℕ) → IsKept R cut n readers sources levels → ((x : ℕ) → Contains row x ↔ (R x n × IsFree cut n x)) → IsKept R cut n readers (set sources n row) levels × ((x : ℕ) → InRow (set sources n row) n x ↔ (R x n × IsFree cut n x))
  row_laid row k own = (
    record {
      readers_size = k.readers_size;
      sources_size = length-set sources n row ∙ k.sources_size;
      levels_size = k.levels_size;
      read_by = k.read_by;
      reads = λ x y free. (
        λ c. (k.reads x y free).0 (subst (λ (r : List ℕ). Contains r x) (other y (let b = free.before in omega arith)) c),
        λ w. subst (λ (r : List ℕ). Contains r x) (sym (other y (let b = free.before in omega arith))) ((k.reads x y free).1 w),
      );
      reads_within = λ x y c. within x y c;
      rise = k.rise;
      low = k.low;
    },
    λ x. (
      λ c. (own x).0 (subst (λ (r : List ℕ). Contains r x) here c),
      λ w. subst (λ (r : List ℕ). Contains r x) (sym here) ((own x).1 w),
    ),
  )
    where
      here : row_at (set sources n row) n ≡ row
      here = (let size = k.sources_size in get_or-set_same sources n row [] (omega arith))

      other : (y : ℕ) → ¬ (y ≡ n) → row_at (set sources n row) y ≡ row_at sources y
      other y ne = get_or-set_other sources n y row [] ne

      within : (x y : ℕ) → InRow (set sources n row) y x → x < length cut
      within x y c =
          elim (cases_eq y n) [
            | inr ne ↦ k.reads_within x y (subst (λ (r : List ℕ). Contains r x) (other y ne) c)
            | inl e ↦
                let w = (own x).0 (subst (λ (r : List ℕ). Contains r x) here (subst (λ (z : ℕ). InRow (set sources n row) z x) e c)) in
                let b = w.1.before in
                omega arith
          ]

  module _ (k : IsKept R cut n readers sources levels) (own : (x : ℕ) → InRow sources n x ↔ (R x n × IsFree cut n x)) where
    -- paths along rows are paths along R
    fore : (a b : ℕ) (via : List ℕ) → Path (InRow readers) a via b → AllByRecursion (IsFree cut n) via × Path R a via b × IsFree cut n b
    fore a b [] h = (let w = (k.read_by a b).0 h in (tt, w.0, w.1))
    fore a b (x ∷ via) h =
        let w = (k.read_by a x).0 h.0 in
        let rest = fore x b via h.1 in
        ((w.1, rest.0), (w.0, rest.1), rest.2)

    aft : (a b : ℕ) (via : List ℕ) → ((x : ℕ) → InRow sources a x → R x a × IsFree cut n x) → Path (InRow sources) a via b → Connects R (IsFree cut n) b a × IsFree cut n b
    aft a b [] q h = (let w = q b h in (record { via = []; kind = tt; path = w.0 }, w.1))
    aft a b (x ∷ via) q h =
        let w = q x h.0 in
        let rest = aft x b via (λ y c. (k.reads y x w.1).0 c) h.1 in (
          record {
            via = rest.0.via ++ (x ∷ []);
            kind = all_append (IsFree cut n) rest.0.via (x ∷ []) rest.0.kind (w.1, tt);
            path = path-append R b x a rest.0.via [] rest.0.path w.0;
          },
          rest.1,
        )

    -- what is found from the gate on is kept
    pub found_free : (x : ℕ) → Connects (InRow readers) AnyGate n x → IsFree cut n x
    found_free x w = (let f = fore n x w.via w.path in f.2)

    pub closes : Meeting readers sources n → Connects R (IsFree cut n) n n
    closes m =
        let f = fore n m.gate m.forth.via m.forth.path in
        let b = aft n m.gate m.back.via (λ x c. (own x).0 c) m.back.path in
        grind (arith, all_append (IsFree cut n) m.forth.via (m.gate ∷ b.0.via) f.0 (f.2, b.0.kind), path-append R n m.gate n m.forth.via b.0.via f.1 b.0.path)

    -- what levels do that part what the gate reads from what reads it
    pub record IsParted (new : List ℕ) : Type 0 where
      pub size : length new ≡ length levels
      pub rise : (x y : ℕ) → R x y → IsFree cut n x → IsFree cut n y → level_at new x ≤ level_at new y
      pub apart : (p s : ℕ) → InRow sources n p → InRow readers n s → level_at new p < level_at new s
      pub low : AreLow (n + 1) new

    pub parted : (new : List ℕ) → IsAhead readers sources n levels new → IsParted new
    parted new a = record {
      size = a.raised.size;
      rise = λ x y h fx fy.
          (let up = a.raised.rises y in
          let was = k.rise x y h fx fy in
          elim (a.raised.moved x) [
            | inl same ↦ omega arith
            | inr w ↦
                let at = w.1 in
                elim (cases_lt a.high (level_at levels y)) [
                  | inl above ↦ omega arith
                  | inr not_above ↦
                      let r = reached y (a.ended.closed x y w.0 ((k.read_by x y).1 (h, fy)) (omega arith)) in
                      omega arith
                ]
          ]);
      apart = λ p s ip rs.
          (let below = a.above p ip in
          let up = a.raised.rises s in
          elim (a.raised.moved p) [
            | inr w ↦ absurd (a.ended.apart p w.0 ip)
            | inl same ↦
                elim (cases_lt a.high (level_at levels s)) [
                  | inl above ↦ omega arith
                  | inr not_above ↦ let r = reached s (a.ended.begins s rs (omega arith)) in omega arith
                ]
          ]);
      low = λ x.
          (let was = k.low x in
          let most = a.low in
          elim (a.raised.moved x) [ inl same ↦ omega arith | inr w ↦ let at = w.1 in omega arith ]);
    }
      where
        reached : (y : ℕ) → Contains a.found y → a.high + 1 ≤ level_at new y
        reached y c = subst (λ (z : ℕ). a.high + 1 ≤ level_at new z) c.2 (a.raised.reached c.0 y c.1)

    -- no path leads back where levels are parted
    module _ (new : List ℕ) (p : IsParted new) where
      never : (s x : ℕ) (via : List ℕ) → InRow readers n s → IsFree cut n x → level_at new s ≤ level_at new x → AllByRecursion (IsFree cut n) via → ¬ Path R x via n
      never s x [] rs fx up kind h = (let a = p.apart x s ((own x).1 (h, fx)) rs in omega arith)
      never s x (y ∷ via) rs fx up kind h = grind (arith, never s y via rs kind.0)

      pub stays_open : ¬ R n n → ¬ Connects R (IsFree cut n) n n
      stays_open none c = by c.via c.kind c.path
        where
          by : (via : List ℕ) → AllByRecursion (IsFree cut n) via → ¬ Path R n via n
          by [] kind h = none h
          by (x ∷ via) kind h = never x x via ((k.read_by n x).1 (h.0, kind.0)) kind.0 (omega arith) kind.1 h.1

      -- the gate is entered
      pub entered : (placed : List ℕ) (more_readers more_sources : List (List ℕ)) → ¬ R n n → IsPlaced (row_at sources n) (row_at readers n) n new placed →
          length more_readers ≡ length readers → ((x y : ℕ) → InRow more_readers x y ↔ (InRow readers x y ⊎ (R x n × (y ≡ n)))) →
          HaveGained (row_at readers n) n (length (row_at readers n)) sources more_sources →
          IsKept R (set cut n false) (n + 1) more_readers more_sources placed
      entered placed more_readers more_sources none at readers_length gained g = record {
        readers_size = readers_length ∙ k.readers_size ∙ sym (length-set cut n false);
        sources_size = g.size ∙ k.sources_size ∙ sym (length-set cut n false);
        levels_size = ap (λ (xs : List ℕ). length xs) at.is ∙ length-set new n at.level ∙ p.size ∙ k.levels_size ∙ sym (length-set cut n false);
        read_by = λ x y. (
          λ c.
              elim ((gained x y).0 c) [
                | inl old ↦ let w = (k.read_by x y).0 old in (w.0, free_to cut n false y w.1)
                | inr w ↦ (subst (λ (z : ℕ). R x z) (sym w.1) w.0, subst (λ (z : ℕ). IsFree (set cut n false) (n + 1) z) (sym w.1) free_here)
              ],
          λ w.
              elim (cases_eq y n) [
                | inl e ↦ (gained x y).1 (inr (subst (λ (z : ℕ). R x z) e w.0, e))
                | inr ne ↦ (gained x y).1 (inl ((k.read_by x y).1 (w.0, free_from cut n false y w.1 ne)))
              ],
        );
        reads = λ x y fy. (
          λ c. source_of x y fy (g.only y x c),
          λ w. source_to x y fy w.0 w.1,
        );
        reads_within = λ x y c.
            (let size = length-set cut n false in
            elim (g.only y x c) [
              | inl old ↦ let b = k.reads_within x y old in omega arith
              | inr w ↦ let e = w.1 in omega arith
            ]);
        rise = λ x y h fx fy. rise x y h fx fy;
        low = low;
      }
        where
          free_here : IsFree (set cut n false) (n + 1) n
          free_here = record { before = omega arith; uncut = get_or-set_same cut n false false l }

          source_of : (x y : ℕ) → IsFree (set cut n false) (n + 1) y → InRow sources y x ⊎ (InRow readers n y × (x ≡ n)) → R x y × IsFree (set cut n false) (n + 1) x
          source_of x y fy (inl old) =
              elim (cases_eq y n) [
                | inr ne ↦ let w = (k.reads x y (free_from cut n false y fy ne)).0 old in (w.0, free_to cut n false x w.1)
                | inl e ↦ let w = (own x).0 (subst (λ (z : ℕ). InRow sources z x) e old) in (subst (λ (z : ℕ). R x z) (sym e) w.0, free_to cut n false x w.1)
              ]
          source_of x y fy (inr w) =
              let h = (k.read_by n y).0 w.0 in (subst (λ (z : ℕ). R z y) (sym w.1) h.0, subst (λ (z : ℕ). IsFree (set cut n false) (n + 1) z) (sym w.1) free_here)

          -- a pin between free gates leads from the gate, to it, or between gates before it
          sides : (x y : ℕ) → R x y → IsFree (set cut n false) (n + 1) x → IsFree (set cut n false) (n + 1) y → ((x ≡ n) × InRow readers n y) ⊎ (((y ≡ n) × InRow sources n x) ⊎ (IsFree cut n x × IsFree cut n y))
          sides x y h fx fy =
              elim (cases_eq x n) [
                | inl e ↦
                    elim (cases_eq y n) [
                      | inl same ↦ absurd (none (rw (e, same) at h))
                      | inr ne ↦ inl (e, (k.read_by n y).1 (rw e at h, free_from cut n false y fy ne))
                    ]
                | inr ne ↦
                    let fx_old = free_from cut n false x fx ne in
                    elim (cases_eq y n) [
                      | inl same ↦ inr (inl (same, (own x).1 (rw same at h, fx_old)))
                      | inr differ ↦ inr (inr (fx_old, free_from cut n false y fy differ))
                    ]
              ]

          source_to : (x y : ℕ) → IsFree (set cut n false) (n + 1) y → R x y → IsFree (set cut n false) (n + 1) x → InRow more_sources y x
          source_to x y fy h fx =
              elim (sides x y h fx fy) [
                | inl w ↦ rw w.0 (subst (λ (z : ℕ). InRow more_sources z n) w.1.2 (g.each w.1.0 y w.1.1))
                | inr w ↦ elim w [ inl s ↦ rw s.0 (g.keeps n x s.1) | inr old ↦ g.keeps y x ((k.reads x y old.1).1 (h, old.0)) ]
              ]

          here : level_at placed n ≡ at.level
          here = grind (arith, get_or-set_same)

          other : (x : ℕ) → ¬ (x ≡ n) → level_at placed x ≡ level_at new x
          other x ne = ap (λ (xs : List ℕ). level_at xs x) at.is ∙ get_or-set_other new n x at.level 0 ne

          rise : (x y : ℕ) → R x y → IsFree (set cut n false) (n + 1) x → IsFree (set cut n false) (n + 1) y → level_at placed x ≤ level_at placed y
          rise x y h fx fy =
              elim (sides x y h fx fy) [
                | inl w ↦
                    let before = ((k.read_by n y).0 w.1).1.before in
                    let b = at.below y w.1 in
                    let o = other y (omega arith) in
                    rw w.0 (omega (arith, here))
                | inr w ↦
                    elim w [
                      | inl s ↦
                          let before = ((own x).0 s.1).1.before in
                          let a = at.above x s.1 in
                          let o = other x (omega arith) in
                          rw s.0 (omega (arith, here))
                      | inr old ↦
                          let r = p.rise x y h old.0 old.1 in
                          let one = old.0.before in
                          let two = old.1.before in
                          let o = other x (omega arith) in
                          let q = other y (omega arith) in
                          omega arith
                    ]
              ]

          low : AreLow (n + 1) placed
          low x =
              elim (cases_eq x n) [
                | inl e ↦ let m = at.low (n + 1) p.low in rw e (omega (arith, here))
                | inr ne ↦ let o = other x ne in let m = p.low x in omega arith
              ]

-- a gate that is cut leaves all as it is
pub left_out : (R : ℕ → ℕ → Type 0) (cut : List Bool) (n : ℕ) → n < length cut → (readers sources : List (List ℕ)) (levels : List ℕ) → IsKept R cut n readers sources levels → IsKept R (set cut n true) (n + 1) readers sources levels
left_out R cut n l readers sources levels k = record {
  readers_size = k.readers_size ∙ sym (length-set cut n true);
  sources_size = k.sources_size ∙ sym (length-set cut n true);
  levels_size = k.levels_size ∙ sym (length-set cut n true);
  read_by = λ x y. (
    λ c. (let w = (k.read_by x y).0 c in (w.0, free_to cut n true y w.1)),
    λ w. (k.read_by x y).1 (w.0, still_free y w.1),
  );
  reads = λ x y fy. (
    λ c. (let w = (k.reads x y (still_free y fy)).0 c in (w.0, free_to cut n true x w.1)),
    λ w. (k.reads x y (still_free y fy)).1 (w.0, still_free x w.1),
  );
  reads_within = λ x y c. (let size = length-set cut n true in let b = k.reads_within x y c in omega arith);
  rise = λ x y h fx fy. k.rise x y h (still_free x fx) (still_free y fy);
  low = λ x. (let m = k.low x in omega arith);
}
  where
    still_free : (y : ℕ) → IsFree (set cut n true) (n + 1) y → IsFree cut n y
    still_free y f = grind (arith, free_from, true≢false, get_or-set_same)

-- a search that leaves a gate out
pub search_left_out : (R : ℕ → ℕ → Type 0) (cut : List Bool) (n : ℕ) → n < length cut → (old new : CutSearch) → IsCutSearch R cut n old →
    IsKept R cut n new.kept.readers.items new.kept.sources.items new.kept.levels.items → new.kept.readers.items ≡ old.kept.readers.items → new.search ≡ old.search → new.landmarks ≡ old.landmarks → IsCutSearch R (set cut n true) (n + 1) new
search_left_out R cut n l old new s kept readers search landmarks = grind (arith, left_out R cut n l new.kept.readers.items new.kept.sources.items new.kept.levels.items kept, length-set cut n true)
