-- Rows that gain readers, the sources of a gate's pins, and levels that are moved.
use Rattle.std.proofs.Common.{◌≡◌, ◌⊎◌, ◌↔◌, inl, inr, ℕ, ◌+◌, ◌<◌, ◌≤◌, Bool, List, [], ◌∷◌, ◌++◌, length, get_or, set, sym, ◌∙◌, subst, arith, Contains}
use Rattle.feedback_cuts.proofs.Common.{cases_eq, get_or-set_same, get_or-set_other, get_or_default, get_or_read, length-set, Contains-append_left, Contains-get_or, Contains-push, Contains-push_cases, Sig, Parts, gate_at, gate_sig, Blocks, AreBlocksOf, Landmark, AreSourcesBelow, HaveGained, HaveGainedPins, IsKept, AreLandmarks, IsLoopPin, InRow, IsFree, IsReady, row_at}
use Rattle.std.specs.List.{All}
use Rattle.feedback_cuts.specs.Keeping.{AreLinks}
use Rattle.loops.specs.Links.{IsLoopSource}
use Rattle.loops.proofs.Reading.{each_more}
use Rattle.loops.proofs.RowLemmas.{pin_of_source, pushed_keeps, pushed_new, pushed_only, same_source}

-- a gate is added to the row at a place
module _ (rows : List (List ℕ)) (n gate : ℕ) (row : List ℕ) (inside : n < length rows) (row_is : row ≡ row_at rows n) where
  pub gained_more : (readers : List ℕ) (k : ℕ) (first : List (List ℕ)) → k < length readers → ((d : ℕ) → get_or readers k d ≡ n) → HaveGained readers gate k first rows → HaveGained readers gate (k + 1) first (set rows n (row ++ gate ∷ []))
  gained_more readers k first kl at g = record {
    size = length-set rows n (row ++ gate ∷ []) ∙ g.size;
    keeps = λ x y c. pushed_keeps rows n gate row inside row_is x y (g.keeps x y c);
    each = each_more (λ z. InRow (set rows n (row ++ gate ∷ [])) z gate) readers k n at (pushed_new rows n gate row inside row_is) (λ j d l. pushed_keeps rows n gate row inside row_is (get_or readers j d) gate (g.each j d l));
    only = λ x y c.
        elim (pushed_only rows n gate row inside row_is x y c) [
          | inl old ↦ g.only x y old
          | inr w ↦ inr (subst (λ (z : ℕ). Contains readers z) (sym w.0) (k, kl, at n), w.1)
        ];
  }

  pub gained_pin : (net : Parts) (blocks : Blocks) (k : ℕ) (pin : Sig) (first : List (List ℕ)) → AreBlocksOf net blocks → k < length (gate_at net gate).pins → ((d : Sig) → get_or (gate_at net gate).pins k d ≡ pin) → IsLoopSource net blocks gate pin n → HaveGainedPins net blocks gate k first rows → HaveGainedPins net blocks gate (k + 1) first (set rows n (row ++ gate ∷ []))
  gained_pin net blocks k pin first are kl at source g = record {
    size = length-set rows n (row ++ gate ∷ []) ∙ g.size;
    keeps = λ x y c. pushed_keeps rows n gate row inside row_is x y (g.keeps x y c);
    each = λ a.
        each_more (λ p. IsLoopSource net blocks gate p a → InRow (set rows n (row ++ gate ∷ [])) a gate) (gate_at net gate).pins k pin at
        (λ other. rw (same_source net blocks gate pin a n other source) (pushed_new rows n gate row inside row_is))
        (λ j d l other. pushed_keeps rows n gate row inside row_is a gate (g.each a j d l other));
    only = λ x y c.
        elim (pushed_only rows n gate row inside row_is x y c) [
          | inl old ↦ g.only x y old
          | inr w ↦ inr (subst (λ (z : ℕ). IsLoopPin net blocks z gate) (sym w.0) (pin_of_source net blocks gate k pin n are kl at source), w.1)
        ];
  }

module _ (net : Parts) (blocks : Blocks) (gate : ℕ) where
  pub skipped_pin : (k : ℕ) (pin : Sig) (first rows : List (List ℕ)) → ((d : Sig) → get_or (gate_at net gate).pins k d ≡ pin) → ((a : ℕ) → ¬ IsLoopSource net blocks gate pin a) → HaveGainedPins net blocks gate k first rows → HaveGainedPins net blocks gate (k + 1) first rows
  skipped_pin k pin first rows at none g = grind arith

  module _ (cut : List Bool) where
    pub no_source : (k : ℕ) (pin : Sig) (row : List ℕ) → ((d : Sig) → get_or (gate_at net gate).pins k d ≡ pin) → ((a : ℕ) → IsLoopSource net blocks gate pin a → ¬ IsFree cut gate a) → AreSourcesBelow net blocks cut gate k row → AreSourcesBelow net blocks cut gate (k + 1) row
    no_source k pin row at none s = grind arith

    pub one_more_source : (k a : ℕ) (pin : Sig) (row : List ℕ) → AreBlocksOf net blocks → k < length (gate_at net gate).pins → ((d : Sig) → get_or (gate_at net gate).pins k d ≡ pin) → IsLoopSource net blocks gate pin a → IsFree cut gate a → AreSourcesBelow net blocks cut gate k row → AreSourcesBelow net blocks cut gate (k + 1) (row ++ a ∷ [])
    one_more_source k a pin row are kl at source free s = record {
      each = λ b.
          each_more (λ p. IsLoopSource net blocks gate p b → IsFree cut gate b → Contains (row ++ a ∷ []) b) (gate_at net gate).pins k pin at
          (λ other is. rw (same_source net blocks gate pin b a other source) (Contains-push row a))
          (λ j d l other is. Contains-append_left row (a ∷ []) b (s.each b j d l other is));
      only = λ b c.
          elim (Contains-push_cases row a b c) [
            | inl old ↦ s.only b old
            | inr e ↦ subst (λ (z : ℕ). IsLoopPin net blocks z gate × IsFree cut gate z) e (pin_of_source net blocks gate k pin a are kl at source, free)
          ];
    }

-- a row that is read
pub row_read : (rows : List (List ℕ)) (g : ℕ) (row entry : List ℕ) → g < length rows → entry ≡ get_or rows g entry → row ≡ entry → row ≡ row_at rows g
row_read rows g row entry l is e = e ∙ get_or_read rows g entry l is []

pub row_within : (rows : List (List ℕ)) (width g : ℕ) (row : List ℕ) → All (All (λ x. x < width)) rows → g < length rows → row ≡ row_at rows g → All (λ x. x < width) row
row_within rows width g row all l e = subst (λ (r : List ℕ). All (λ x. x < width) r) (sym e) (all g [] l)

pub within_of : (xs : List ℕ) (width : ℕ) → ((x : ℕ) → Contains xs x → x < width) → All (λ x. x < width) xs
within_of xs width h k d l = h (get_or xs k d) (Contains-get_or xs k d l)

pub of_within : (xs : List ℕ) (width : ℕ) → All (λ x. x < width) xs → (x : ℕ) → Contains xs x → x < width
of_within xs width all x c = subst (λ (z : ℕ). z < width) c.2 (all c.0 x c.1)

pub all_within : (rows : List (List ℕ)) (width : ℕ) → ((x y : ℕ) → InRow rows x y → y < width) → All (All (λ x. x < width)) rows
all_within rows width h i d il =
    subst (λ (r : List ℕ). All (λ x. x < width) r) (get_or_default rows i [] d il) (within_of (row_at rows i) width (λ y c. h i y c))

-- the free sources of all pins of a gate
pub own_row : (net : Parts) (blocks : Blocks) (cut : List Bool) (gate : ℕ) (row : List ℕ) → AreSourcesBelow net blocks cut gate (length (gate_at net gate).pins) row → (x : ℕ) → Contains row x ↔ (IsLoopPin net blocks x gate × IsFree cut gate x)
own_row net blocks cut gate row s x = (
  λ c. s.only x c,
  λ w.
      let pin = w.0 in
      let at = pin.feeds.pin in
      s.each x at.0 (gate_sig net x) at.1 (record { is = at.2; loop = pin.loop }) w.1,
)

-- the rows of all sources of a gate's pins have gained it
pub gained_rows : (net : Parts) (blocks : Blocks) (gate : ℕ) (old new : List (List ℕ)) → HaveGainedPins net blocks gate (length (gate_at net gate).pins) old new → (x y : ℕ) → InRow new x y ↔ (InRow old x y ⊎ (IsLoopPin net blocks x gate × (y ≡ gate)))
gained_rows net blocks gate old new g x y = (
  λ c. g.only x y c,
  λ w.
      elim w [
        | inl was ↦ g.keeps x y was
        | inr here ↦
            let pin = here.0 in
            let at = pin.feeds.pin in
            subst (λ (z : ℕ). InRow new x z) (sym here.1) (g.each x at.0 (gate_sig net x) at.1 (record { is = at.2; loop = pin.loop }))
      ],
)

-- the rows of kept gates name gates alone
pub kept_links : (R : ℕ → ℕ → Type 0) (cut : List Bool) (n : ℕ) (readers sources : List (List ℕ)) (levels : List ℕ) → n ≤ length cut → IsKept R cut n readers sources levels → AreLinks readers sources levels
kept_links R cut n readers sources levels l k = record {
  readers_size = k.readers_size ∙ sym k.levels_size;
  sources_size = k.sources_size ∙ sym k.levels_size;
  readers_within = all_within readers (length levels) (λ x y listed. (let free = (k.read_by x y).0 listed in let before = free.1.before in let size = k.levels_size in omega arith));
  sources_within = all_within sources (length levels) (λ y x listed. (let within = k.reads_within x y listed in let size = k.levels_size in omega arith));
}

-- the same rows and the same width
pub landmarks_as : (old new : List (List ℕ)) (width wide : ℕ) (list : List Landmark) → new ≡ old → wide ≡ width → AreLandmarks old width list → AreLandmarks new wide list
landmarks_as old new width wide list rows e are = grind arith

pub ready_as : (width wide stamp : ℕ) (marks : List ℕ) → wide ≡ width → IsReady width stamp marks → IsReady wide stamp marks
ready_as width wide stamp marks e ready = subst (λ (w : ℕ). IsReady w stamp marks) (sym e) ready
